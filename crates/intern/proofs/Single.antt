-- A record as the one operand of nothing: that it may be read so, and that this gives the record's own answer.
-- Assumes nothing.
use Prim.Native.Nat.{ℕ, ◌+◌, ◌<◌}
use mathlib.Core.Path.{◌≡◌, refl, ap, ◌∙◌}
use mathlib.Core.Bool.{false}
use Rattle.std.specs.Prelude.{Result, Ok, Err}
use Rattle.std.specs.Result.{result_and}
use mathlib.Core.List.{List, ◌∷◌}
use native.Mathlib.Omega.{arith}
use lib.ListN.{get_or}
use Rattle.regions.specs.Regions.{PENDING}
use Rattle.model.specs.Answer.{refused, good, ◌>>=◌}
use Rattle.model.specs.Lists.{last}
use Rattle.model.specs.Tree.{Tree, nil, cons, many, take_t, size, depth, depths}
use Rattle.model.specs.Forest.{record_count}
use Rattle.model.specs.Intern.{Out, Env, thunked, intern_scoped, intern_last, intern, intern_all}
use Rattle.model.specs.Intern as intern
use Rattle.refusal.specs.declared.Refusal.{Refusal}
use Rattle.walk.specs.Walk.{tree_at}
use Rattle.walk.proofs.Bridge.{trees_at}
use Rattle.symbols.specs.Words.{words_from, pending_from}
use Rattle.bindings.specs.Bindings.{env_of}
use Rattle.tables.specs.declared.Tables.{Tables}
use Rattle.interner.specs.declared.State.{State}
use Rattle.interner.specs.declared.Step.{Step}
use Rattle.interner.specs.State.{abs_of}
use Rattle.interner.specs.Step.{outcome_of, out_of}
use Rattle.key.specs.Key.{branches_of}
use Rattle.theory.proofs.Acceptance.Checked.{nil-checked, plain_join}
use Rattle.standing.specs.Standing.{Well, WellAll}
use Rattle.intern.specs.declared.Here.{Here}
use Rattle.intern.specs.Steps.{KidsStep}
use Rattle.intern.specs.Intern.{Stands, RecordRead, kids_of, trees, Operands, ReadsAll}
use Rattle.intern.proofs.After.{none_thunked}

-- the definitions: its symbol in a list of one
one_last : (u : Tree) (i cur : ℕ) (env : Env) (s : intern.State) →
    intern_last (intern_all (cons u nil) 0 0 i cur env s) ≡ intern u i cur env s
unfolding intern_last intern_all intern_scoped thunked ◌>>=◌ last
one_last u i cur env s = go (intern u i cur env s)
  where
    go : (m : Out) →
        intern_last (m >>= (λ o. intern_all nil 0 1 (i + size u) cur (intern.bind_def u o.0 env) o.1 >>=
        (λ os. good (o.0 ∷ os.0, os.1, os.2)))) ≡ m
    go (refused n p) = refl
    go (good o) = refl

one_well : {u : Tree} {cur : ℕ} {env : Env} {s : intern.State} → Well u false cur env s →
    WellAll (cons u nil) false 0 0 cur env s 0
one_well {u} w = record {
  standing = w.standing;
  checked = plain_join u nil _ w.checked (nil-checked false _);
  free = 0;
  room = w.room;
  pays = λ j e. absurd (none_thunked j e);
}

-- what the one operand gives
abbrev pub one_read : List ℕ → ℕ → KidsStep → Step
one_read ws held k = record { st = k.st; symbol = result_and k.outcome (Ok (get_or ws (PENDING.first + held) 0)) }

one_out : (bs ws : List ℕ) (t : Tables) (held : ℕ) (k : KidsStep) →
    out_of bs ws t (one_read ws held k) ≡ intern_last (kids_of bs ws t held 1 k)
unfolding out_of kids_of intern_last ◌>>=◌ words_from last
one_out bs ws t held k = go k.outcome
  where
    go : (o : Result Unit Refusal) →
        ◌≡◌ {A = Out}
        (outcome_of (λ s. (s, abs_of bs ws t k.st)) (result_and o (Ok (get_or ws (PENDING.first + held) 0))))
        (intern_last (outcome_of (λ _. (pending_from ws held 1, branches_of k.branches, abs_of bs ws t k.st)) o))
    go (Ok u) = refl
    go (Err x) = refl

module _ (bs ws : List ℕ) (t : Tables) (st : State) (i : ℕ) (at : Here) (lt : i < record_count bs) where
  abbrev u : Tree
  u = tree_at bs i

  one_tree : trees bs i 1 ≡ cons u nil
  unfolding take_t
  one_tree = ap (take_t 1) (trees_at bs i lt)

  one_depth : depths (trees bs i 1) ≡ depth u
  unfolding depths
  one_depth = omega (arith, ap depths one_tree)

  pub one-operands : Stands bs ws t st i (depth u) at →
      Well u false at.scope (env_of ws at.top) (abs_of bs ws t st) → Operands bs ws t st i 1 0 at
  unfolding many
  one-operands s w = record {
    there = omega (arith, ap many (trees_at bs i lt));
    within = omega arith;
    stands = rw one_depth s;
    room = λ j e. absurd (none_thunked j e);
    block = false;
    plain = λ j e. refl;
    paid = 0;
    well = rw one_tree (one_well w);
  }

  module _ (ws' : List ℕ) (k : KidsStep) (v : ReadsAll bs ws t st i 1 0 at ws' k) where
    pub one_reads : RecordRead bs ws t st i at ws' (one_read ws' at.held k)
    one_reads = record {
      rep = v.rep;
      opened = v.opened;
      is =
          one_out bs ws' t at.held k
          ∙ ap intern_last v.is
          ∙ rw one_tree (one_last u i at.scope (env_of ws at.top) (abs_of bs ws t st));
      kept = v.kept;
    }
