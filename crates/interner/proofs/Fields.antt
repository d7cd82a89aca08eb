-- Projections, as model's `new_projections` and `pair_projection` have them. In order: a field picked; one
-- projection; the state between them; both.
-- Assumes nothing.
use Prim.Native.Nat.{ℕ, ◌+◌, ◌<◌}
use mathlib.Core.Path.{◌≡◌, refl, sym, ap, ◌∙◌, subst}
use mathlib.Core.Bool.{Bool, true, false}
use Rattle.std.specs.Prelude.{None, Some, Ok, Err}
use mathlib.Core.List.{List, [], ◌∷◌}
use native.Mathlib.Omega.{arith}
use borrow.Author.Tests.{ne_eqb}
use lib.Dec.{eqb}
use lib.ListN.{get_or}
use Rattle.regions.specs.Regions.{PENDING}
use Rattle.model.specs.Lists.{union}
use Rattle.model.specs.Answer.{good, ◌>>=◌}
use Rattle.model.specs.Tree.{Rec}
use Rattle.model.specs.Intern.{Sym, sym_at, Out, operation, union_deps, finish, recall, remember, pick}
use Rattle.model.specs.Intern.{new_projections, pair_projection}
use Rattle.model.specs.Intern as intern
use Rattle.laws.proofs.Holds.{Holds}
use Rattle.refusal.specs.declared.Refusal.{Refusal}
use Rattle.record.specs.Record.{row_at}
use Rattle.key.specs.declared.Branches.TheVariants.{Zero}
use Rattle.key.specs.declared.Node.{Node}
use Rattle.key.specs.declared.Node.TheVariants.{Op}
use Rattle.symbols.specs.Words.{words_from}
use Rattle.symbols.specs.Symbols.{syms_of, key_rec}
use Rattle.symbols.proofs.Laws.{syms_length}
use Rattle.tables.specs.declared.Tables.{Tables}
use Rattle.tables.specs.Tables.{Open}
use Rattle.tables.proofs.Stack.{open_later}
use Rattle.memo.specs.Memo.{memo_of, remembered}
use Rattle.interner.specs.declared.State.{State}
use Rattle.interner.specs.declared.Step.{Step}
use Rattle.interner.specs.State.{abs_of, Rep}
use Rattle.interner.specs.Step.{out_of, given, Answers, Ready, finish_of, Projects, field_rec, field_of, with_pair}
use Rattle.interner.proofs.Sharing.{leaves_then, out-given, out_good, out_refused, low_at, answers_as, given_answers}
use Rattle.interner.proofs.Keeps.{Keeps, finish_keeps}
use Rattle.memo.proofs.Below.{recall_low}
use Rattle.interner.proofs.Memos.{Unpaired, abs_remembered, rep_remembered, leaves_remembered}

-- ---- a field picked

pick_low : (i a b n : ℕ) → a < n → b < n → pick i (a, b) < n
pick_low i a b n la lb = go (eqb i 1)
  where
    go : (t : Bool) → elim t [ true ↦ a | false ↦ b ] < n
    go true = la
    go false = lb

-- ---- one of them

abbrev field : ℕ → ℕ → Node
field at i = Op (record { source = at; field = Some i; branches = Zero })

key_field : (bs : List ℕ) (at i : ℕ) → 0 < i → key_rec bs at i ≡ field_rec (row_at bs at).rec i
unfolding key_rec
key_field bs at i lt = rw (ne_eqb i 0 (λ e. omega arith), key_rec)

-- the symbol that is pending
abbrev pend : ℕ → List ℕ → ℕ
pend held ws = get_or ws (PENDING.first + held) 0

-- the definition's field i of it, for record `at`; both fields made; both remembered, or made
abbrev field_in : List ℕ → List ℕ → Tables → State → ℕ → ℕ → ℕ → ℕ → Out
field_in bs ws t st cur at held i = field_of at cur (row_at bs at).rec i (pend held ws) (abs_of bs ws t st)

abbrev new_of : List ℕ → List ℕ → Tables → State → ℕ → ℕ → ℕ → ℕ → Out
new_of bs ws t st cur at held i = new_projections at cur (row_at bs at).rec i (pend held ws) (abs_of bs ws t st)

abbrev pair_of : List ℕ → List ℕ → Tables → State → ℕ → ℕ → ℕ → ℕ → Out
pair_of bs ws t st cur at held i = pair_projection at cur (row_at bs at).rec i (pend held ws) (abs_of bs ws t st)

module _ {bs ws : List ℕ} {st : State} {cur at held : ℕ} (h : Projects bs ws st cur at held 1) (i : ℕ) (pos : 0 < i) where
  pub field_ready : i < 4 → Ready bs ws st cur (field at i) held 1
  unfolding union union_deps words_from
  field_ready lt = record {
    fresh = record {
      from = h.from;
      field = (pos, lt);
      first = omega arith;
      second = omega arith;
      current = h.current;
      slots = h.slots;
      pending = h.pending;
      lower = λ k l. let e : PENDING.first + held + k ≡ PENDING.first + held = omega arith in rw e h.low;
      sourced = record { shape = h.shape; opcode = h.opcode; one = refl };
    };
    keyed = tt;
    forced = h.forced;
  }

  field_is : (t : Tables) → finish_of bs ws t st cur (field at i) held 1 ≡ field_in bs ws t st cur at held i
  unfolding words_from
  field_is t =
      ap (λ (r : Rec). finish at cur r (pend held ws ∷ []) [] (operation []) (abs_of bs ws t st)) (key_field bs at i pos)

  pub field_answers : {t : Tables} {ws' : List ℕ} {r : Step} →
      Answers bs ws t st (finish_of bs ws t st cur (field at i) held 1) ws' r →
      Answers bs ws t st (field_in bs ws t st cur at held i) ws' r
  field_answers {t} a = answers_as a (field_is t)

-- ---- the state between them

module _ {bs ws : List ℕ} {t : Tables} {st : State} {cur at held n : ℕ} (p : Projects bs ws st cur at held n) (i : ℕ)
    {ws₁ : List ℕ} {a : Step} (h : Answers bs ws t st (field_in bs ws t st cur at held i) ws₁ a) {x : ℕ}
    (ok : a.symbol ≡ Ok x) where
  field_good : field_in bs ws t st cur at held i ≡ good (x, abs_of bs ws₁ t a.st)
  field_good = sym h.is ∙ out_good bs ws₁ t a ok

  field_keeps : Keeps (abs_of bs ws t st) 1 (x, abs_of bs ws₁ t a.st)
  field_keeps =
      subst (Holds (Keeps (abs_of bs ws t st) 1)) field_good
      (finish_keeps at cur (field_rec (row_at bs at).rec i) (pend held ws ∷ []) [] (operation []) (abs_of bs ws t st))

  same_pending : pend held ws₁ ≡ pend held ws
  same_pending = h.leaves.frame.after (PENDING.first + held) (omega arith)

-- ---- both

-- a refusal is handed on
handed_on : (bs ws : List ℕ) (t : Tables) (r : Step) {e : Refusal} → r.symbol ≡ Err e → (f : ℕ × intern.State → Out) →
    (out_of bs ws t r >>= f) ≡ out_of bs ws t r
unfolding ◌>>=◌
handed_on bs ws t r n f = rw (out_refused bs ws t r n)

module _ {bs ws : List ℕ} {t : Tables} {st : State} {cur at held : ℕ} (p : Projects bs ws st cur at held 2) where
  module _ {ws₁ : List ℕ} {a : Step} (h : Answers bs ws t st (field_in bs ws t st cur at held 1) ws₁ a) where
    abbrev second : ℕ → ℕ × intern.State → Out
    second i a = do
      b ← field_of at cur (row_at bs at).rec 2 (pend held ws) a.1
      good (pick i (a.0, b.0), remember (pend held ws) a.0 b.0 b.1)

    new_is : (i : ℕ) → new_of bs ws t st cur at held i ≡ (field_in bs ws t st cur at held 1 >>= second i)
    unfolding new_projections
    new_is i = refl

    pub first_refused : (i : ℕ) {e : Refusal} → a.symbol ≡ Err e →
        Answers bs ws t st (new_of bs ws t st cur at held i) ws₁ a
    first_refused i n =
        answers_as h
        (sym h.is
        ∙ (sym (handed_on bs ws₁ t a n (second i)) ∙ (ap (λ (m : Out). m >>= second i) h.is ∙ sym (new_is i))))

    module _ {x : ℕ} (ok : a.symbol ≡ Ok x) (rep : Rep bs ws st) where
      pub projects_next : Projects bs ws₁ a.st cur at held 1
      projects_next =
          let k = field_keeps p 1 h ok in
          let deps : (sym_at (syms_of bs ws₁ a.st.symbols) (pend held ws₁)).deps
          ≡ (sym_at (syms_of bs ws st.symbols) (pend held ws)).deps =
          ap (λ (z : ℕ). (sym_at (syms_of bs ws₁ a.st.symbols) z).deps) (same_pending p 1 h ok)
          ∙ ap (λ (y : Sym). y.deps) (k.syms (pend held ws) (omega (arith, syms_length bs ws st.symbols, p.low))) in
          record {
            from = p.from;
            shape = p.shape;
            opcode = p.opcode;
            current = omega (arith, p.current, h.leaves.scopes);
            slots = omega (arith, p.slots, k.slots, rep.slots.all, h.rep.slots.all);
            pending = p.pending;
            low = omega (arith, p.low, same_pending p 1 h ok, h.leaves.more);
            forced = rw (k.scopes, deps) p.forced;
          }

      module _ {ws₂ : List ℕ} {b : Step} (g : Answers bs ws₁ t a.st (field_in bs ws₁ t a.st cur at held 2) ws₂ b) where
        abbrev last : ℕ → ℕ × intern.State → Out
        last i o = good (pick i (x, o.0), remember (pend held ws) x o.0 o.1)

        new_second : (i : ℕ) → new_of bs ws t st cur at held i ≡ (out_of bs ws₂ t b >>= last i)
        unfolding ◌>>=◌
        new_second i =
            new_is i
            ∙ (ap (λ (m : Out). m >>= second i) (field_good p 1 h ok)
            ∙ ap (λ (m : Out). m >>= last i)
            (ap (λ (z : ℕ). field_of at cur (row_at bs at).rec 2 z (abs_of bs ws₁ t a.st))
            (sym (same_pending p 1 h ok))
            ∙ sym g.is))

        pub second_refused : (i : ℕ) {e : Refusal} → b.symbol ≡ Err e →
            Answers bs ws t st (new_of bs ws t st cur at held i) ws₂ b
        second_refused i n = record {
          rep = g.rep;
          leaves = leaves_then h.leaves g.leaves;
          low = g.low;
          is = sym (new_second i ∙ handed_on bs ws₂ t b n (last i));
        }

        module _ {y : ℕ} (fine : b.symbol ≡ Ok y) (new : recall (memo_of ws st.memo) (pend held ws) ≡ None) where
          pub unpaired : Unpaired ws₂ b.st (pend held ws) x y
          unpaired = record {
            low = omega (arith, p.low, h.leaves.more, g.leaves.more);
            first = omega (arith, low_at h ok, g.leaves.more);
            second = low_at g fine;
            new = ap (λ (ms : List (ℕ × ℕ × ℕ)). recall ms (pend held ws))
                ((field_keeps projects_next 2 g fine).memo ∙ (field_keeps p 1 h ok).memo)
                ∙ new;
          }

          abbrev ws₃ : List ℕ
          ws₃ = remembered ws₂ b.st.memo (pend held ws) x y

          abbrev result : ℕ → Step
          result i = given (with_pair b.st) (pick i (x, y))

          new_both : (i : ℕ) → Open t b.st.entries → new_of bs ws t st cur at held i ≡ out_of bs ws₃ t (result i)
          unfolding ◌>>=◌
          new_both i opened =
              new_second i
              ∙ (ap (λ (m : Out). m >>= last i) (out_good bs ws₂ t b fine)
              ∙ (ap (λ (s : intern.State). good (pick i (x, y), s))
              (sym (abs_remembered g.rep unpaired t opened))
              ∙ sym (out-given bs ws₃ t (with_pair b.st) (pick i (x, y)))))

          pub both_made : (i : ℕ) {ws' : List ℕ} {r : Step} → Open t st.entries → ws' ≡ ws₃ → r ≡ result i →
              Answers bs ws t st (new_of bs ws t st cur at held i) ws' r
          both_made i opened d e = rw (d, e) (record {
            rep = rep_remembered g.rep unpaired;
            leaves = leaves_then (leaves_then h.leaves g.leaves) (leaves_remembered g.rep unpaired);
            low = pick_low i x y b.st.symbols unpaired.first unpaired.second;
            is = sym (new_both i (open_later t st.entries opened b.st.entries
                (omega (arith, h.leaves.entries, g.leaves.entries))));
          })

  -- ---- what is remembered, or both made

  module _ (i : ℕ) where
    pub recalled : (x y : ℕ) {r : Step} → Rep bs ws st → recall (memo_of ws st.memo) (pend held ws) ≡ Some (x, y) →
        r ≡ given st (pick i (x, y)) → Answers bs ws t st (pair_of bs ws t st cur at held i) ws r
    unfolding pair_projection
    recalled x y rep f e =
        let low = recall_low st.symbols (memo_of ws st.memo) (pend held ws) x y rep.memo.below f in
        answers_as (given_answers rep (pick_low i x y st.symbols low.0 low.1) e) (rw (f, pair_projection))

    pub not_recalled : {ws' : List ℕ} {r : Step} → recall (memo_of ws st.memo) (pend held ws) ≡ None →
        Answers bs ws t st (new_of bs ws t st cur at held i) ws' r →
        Answers bs ws t st (pair_of bs ws t st cur at held i) ws' r
    unfolding pair_projection
    not_recalled f h = answers_as h (rw (f, pair_projection))
