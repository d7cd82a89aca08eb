-- A forest: its trees are read as operands of no opcode, and the last of them is the root.
-- In order: how deep an accepted forest is; before its trees are read; after.
-- Assumes nothing.
use Prim.Native.Nat.{ℕ, suc, ◌+◌, ◌<◌, ◌≤◌}
use mathlib.Core.Path.{◌≡◌, refl, sym, ap, ◌∙◌}
use mathlib.Core.Bool.{false}
use Rattle.std.specs.Prelude.{None, Err, IsOk}
use mathlib.Core.List.{List, []}
use native.Mathlib.Omega.{arith}
use borrow.Author.Tests.{ltb-false}
use lib.ListN.{length}
use Rattle.regions.specs.Regions.{PENDING, WORDS, end}
use Rattle.model.specs.Answer.{good, ◌>>=◌}
use Rattle.model.specs.Lists.{last}
use Rattle.model.specs.Tree.{Tree, Trees, node, nil, cons, many, depth, depths}
use Rattle.model.specs.Faults.{faults}
use Rattle.model.specs.Forest.{tree_count, trees_of, deep, deeps, check7}
use Rattle.model.specs.Accept.{accept}
use Rattle.model.specs.Intern.{Outs, intern_last, intern_all, intern_forest}
use Rattle.model.specs.Call.{interned}
use Rattle.laws.specs.Frame.{Frame}
use Rattle.laws.proofs.Frame.{frame_then}
use Rattle.laws.specs.Clear.{Clear}
use Rattle.laws.proofs.Clear.{clear_left, clear_right, first_clear}
use Rattle.laws.proofs.Header.{header_of}
use Rattle.laws.specs.Stack.{stack_of}
use Rattle.refusal.specs.declared.Refusal.{Refusal}
use Rattle.walk.specs.Walk.{WellFormed}
use Rattle.walk.proofs.Bridge.{tree_count_lem}
use Rattle.walk.proofs.Walking.{trees_there, trees-whole}
use Rattle.codec.specs.Accepted.{Passes}
use Rattle.codec.proofs.Accepting.{passes_accepts}
use Rattle.symbols.specs.Words.{pending_from}
use Rattle.scopes.specs.Scopes.{scope_word, level_of}
use Rattle.bindings.specs.Bindings.{env_of}
use Rattle.tables.specs.declared.Tables.{Tables}
use Rattle.tables.specs.Tables.{new_tables}
use Rattle.interner.specs.declared.State.{State}
use Rattle.interner.specs.declared.Step.{Step}
use Rattle.interner.specs.State.{abs_of, Rep, Started}
use Rattle.interner.specs.Step.{refusal_of, given}
use Rattle.interner.proofs.Sharing.{out_good, out_refused}
use Rattle.opening.proofs.Counts.{symbols-count}
use Rattle.standing.proofs.Enter.{forest_well}
use Rattle.standing.proofs.Next.{last_result}
use Rattle.intern.specs.declared.Here.{Here}
use Rattle.intern.specs.Steps.{KidsStep}
use Rattle.intern.specs.Words.{INTERNING}
use Rattle.intern.specs.Intern.{trees, Operands, ReadsAll, Interned}
use Rattle.intern.proofs.Kept.{in_interning}
use Rattle.intern.proofs.After.{kids_good, kids_refused, none_thunked}

-- ---- how deep an accepted forest is

mutual
  unfolding faults depth

  tree_flat : (t : Tree) (d : ℕ) → Clear (deep t d) → depth t + d ≤ 65
  tree_flat (node r ts) d h =
      let l = ltb-false 64 d h.0 in omega (arith, trees_flat ts (suc d) (omega arith) h.1)

  trees_flat : (ts : Trees) (d : ℕ) → d ≤ 65 → Clear (deeps ts d) → depths ts + d ≤ 65
  trees_flat nil d l h = omega arith
  trees_flat (cons t ts) d l h =
      omega (
        arith,
        tree_flat t d (clear_left (deep t d) (deeps ts d) h),
        trees_flat ts d l (clear_right (deep t d) (deeps ts d) h),
      )

forest_flat : (bs : List ℕ) → check7 bs ≡ None → depths (trees_of bs) ≤ 64
unfolding check7
forest_flat bs e = omega (arith, trees_flat (trees_of bs) 1 (omega arith) (first_clear (deeps (trees_of bs) 1) e))

-- ---- before its trees are read

abbrev origin : Here
origin = record { scope = 0; held = 0; top = 0 }

-- an accepted forest of so many trees, with nothing read yet
pub record Begun (bs ws ws₁ : List ℕ) (t : Tables) (st : State) (count : ℕ) : Type 0 where
  pub sound : WellFormed bs
  pub passes : Passes bs
  pub started : Started ws ws₁ st
  pub counted : count ≡ tree_count bs
  pub tables : t ≡ new_tables

module _ {bs ws ws₁ : List ℕ} {t : Tables} {st : State} {count : ℕ} (h : Begun bs ws ws₁ t st count) where
  accepted : accept bs ≡ good (trees_of bs)
  accepted = passes_accepts bs h.sound h.passes

  whole : trees bs 0 count ≡ trees_of bs
  whole = trees-whole bs count h.sound h.counted

  rep : Rep bs ws₁ st
  rep = h.started.rep bs

  no_ids : env_of ws₁ 0 ≡ []
  unfolding env_of stack_of
  no_ids = refl

  shallow : depths (trees bs 0 count) ≤ 64
  shallow = rw whole (forest_flat bs h.passes.shallow)

  outermost : level_of (scope_word ws₁ 0) ≡ 0
  outermost = ap level_of rep.arena.scoped.nested.outermost

  operands₁ : Operands bs ws₁ new_tables st 0 count 0 origin
  operands₁ = record {
    there = trees_there bs count h.sound h.counted;
    within = omega arith;
    stands = record {
      rep = rep;
      opened = h.started.opened;
      scope = rep.arena.scoped.some_scope;
      held = omega arith;
      top = omega arith;
      level = omega (arith, outermost, shallow);
      tables = omega (arith, shallow);
    };
    room = λ j e. absurd (none_thunked j e);
    block = false;
    plain = λ j e. refl;
    paid = 0;
    well = rw (h.started.is bs, no_ids, whole) (forest_well bs (trees_of bs) accepted);
  }

  pub forest_operands : Operands bs ws₁ t st 0 count 0 origin
  forest_operands = rw h.tables operands₁

  -- ---- after

  module _ {ws₂ : List ℕ} {k : KidsStep} (v₀ : ReadsAll bs ws₁ t st 0 count 0 origin ws₂ k) where
    v : ReadsAll bs ws₁ new_tables st 0 count 0 origin ws₂ k
    v = rw h.tables at v₀

    all_read : intern_all (trees bs 0 count) 0 0 0 0 (env_of ws₁ 0) (abs_of bs ws₁ new_tables st)
        ≡ intern_forest (trees_of bs)
    unfolding intern_forest
    all_read = rw (h.started.is bs, no_ids, whole)

    interned_is : (m : Outs) → intern_forest (trees_of bs) ≡ m → interned bs ≡ intern_last m
    unfolding interned ◌>>=◌
    interned_is m e = rw (accepted, e)

    frame₂ : Frame INTERNING.first (end INTERNING) ws ws₂
    frame₂ =
        frame_then INTERNING.first (end INTERNING) ws ws₁ ws₂ (in_interning h.started.frame (omega arith))
        v.kept.words.frame

    pub forest_refused : {x : Refusal} → k.outcome ≡ Err x → Interned bs ws ws₂ (record { st = k.st; symbol = Err x })
    unfolding intern_last ◌>>=◌
    forest_refused {x} n = record {
      rep = v.rep;
      is =
          out_refused bs ws₂ new_tables (record { st = k.st; symbol = Err x }) refl
          ∙ sym (interned_is (refusal_of x)
          (sym (v.is ∙ all_read) ∙ kids_refused bs ws₂ new_tables 0 count k n));
      low = tt;
      frame = frame₂;
    }

    module _ (ok : IsOk k.outcome) where
      pub forest_last : (0 < count) × (0 + count ≤ PENDING.size) × (WORDS ≤ length ws₂)
      forest_last = (
        omega (arith, h.counted, (header_of bs h.sound.laid.header).trees_least),
        v.pending ok,
        v.rep.words,
      )

      root_low : last (pending_from ws₂ 0 count) < k.st.symbols
      root_low =
          let one : 1 ≤ many (trees bs 0 count) = omega (
            arith,
            ap many whole,
            tree_count_lem bs h.sound.closed,
            (header_of bs h.sound.laid.header).trees_least,
          ) in
          omega (
            arith,
            (last_result operands₁.well 0 _ (sym v.is ∙ kids_good bs ws₂ new_tables 0 count k ok) one).low,
            symbols-count bs ws₂ new_tables k.st,
          )

      pub forest_done : {r : Step} → r ≡ given k.st (last (pending_from ws₂ 0 count)) → Interned bs ws ws₂ r
      unfolding intern_last ◌>>=◌
      forest_done e = rw e (record {
        rep = v.rep;
        is =
            out_good bs ws₂ new_tables (given k.st (last (pending_from ws₂ 0 count))) refl
            ∙ sym (interned_is _ (sym (v.is ∙ all_read) ∙ kids_good bs ws₂ new_tables 0 count k ok));
        low = root_low;
        frame = frame₂;
      })
