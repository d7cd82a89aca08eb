-- Past an operand, and what all operands leave.
-- In order: an operand's symbol, and what may be read after it; no opcode has over two thunks; the symbols of all
-- operands, that these may be read again, and when that gives the same (`again_same`).
-- Assumes nothing.
use mathlib.Core.Path.{◌≡◌, refl}
use mathlib.Core.Bool.{Bool, true, false, not, ◌&&◌, ◌||◌, and-false}
use mathlib.Core.List.{List, [], ◌∷◌}
use Prim.Native.Nat.{ℕ, zero, suc, ◌+◌, ◌-◌, ◌≤◌}
use native.Mathlib.Omega.{arith}
use lib.Dec.{eqb}
use borrow.Author.Tests.{ne_eqb}
use Rattle.model.specs.Lists.{last}
use Rattle.model.specs.Answer.{good}
use Rattle.model.specs.Tree.{Tree, Trees, cons, many, is_nil}
use Rattle.model.specs.Unfold.{unfold_at}
use Rattle.model.specs.Intern.{State, Env, bind_def, thunked, intern_scoped, intern, intern_all}
use Rattle.laws.proofs.Holds.{holds_good}
use Rattle.theory.specs.Checked.{Checked}
use Rattle.theory.proofs.Acceptance.Checked.{checked-head, checked-tail}
use Rattle.theory.specs.Good.{sym_count, scope_count}
use Rattle.theory.specs.Inv.{keys}
use Rattle.theory.proofs.Interning.Keep.{KeepsMeanings, last_in_lem}
use Rattle.theory.proofs.Interning.Operands.{KeptIn, bind_def-keys, bind_def_env}
use Rattle.theory.proofs.Interning.Walk.{intern_all_keeps}
use Rattle.theory.proofs.Interning.Walk as walk
use Rattle.theory.proofs.Interning.Reread.{sound_tabled, bound-fits, reread_more, reread_all}
use Rattle.theory.proofs.Interning.Reread.Later.{with_readings}
use Rattle.theory.proofs.Interning.Reread.Kinds.{EnvFits}
use Rattle.theory.specs.Sound.{thunks, Any}
use Rattle.theory.proofs.Bounds.Sound.{room_less, KeepsAll}
use Rattle.theory.proofs.Bounds.Kinds.{plain_kids}
use Rattle.theory.proofs.Bounds.Trees.{scope_free, Scoped, free_more, all_keep}
use Rattle.theory.proofs.Bounds.Trees as trees
use Rattle.theory.proofs.Bounds.Limits.{any_tree, any_trees}
use Rattle.standing.specs.Standing.{WellAll, Result, AllRead}
use Rattle.standing.proofs.Moves.{env_ok, env_low, step_stands, step_gives, result_of}

-- ---- an operand

module _ {t : Tree} {ts : Trees} {b : Bool} {op j cur : ℕ} {env : Env} {st : State} {k : ℕ}
    (w : WellAll (cons t ts) b op j cur env st k) (at : ℕ) (o : ℕ × State)
    (is : intern_scoped (thunked op j) cur (λ c s. intern t at c env s) st ≡ good o) where
  head : Checked t (b && not (is_nil ts)) (keys env)
  head = checked-head t ts b (keys env) w.checked

  kept : KeptIn (thunked op j) st w.standing.args cur env (unfold_at t) o
  kept =
      holds_good (KeptIn (thunked op j) st w.standing.args cur env (unfold_at t)) is
      (walk.child_keeps t ts op j at cur env w.standing.args b st w.checked)

  sound : Scoped Any (thunked op j) st (suc k) w.free o
  sound =
      holds_good (Scoped Any (thunked op j) st (suc k) w.free) is
      (trees.child_keeps Any tt tt tt t (keys env) (any_tree t) head.fine head.known op j at cur env st k
      w.free w.standing.sound w.standing.current (env_low w.standing) w.room w.pays)

  pub next_well : WellAll ts b op (suc j) cur (bind_def t o.0 env) o.1 (suc k)
  next_well = record {
    standing =
        step_stands w.standing kept (bind_def t o.0 env) sound.one.keeps.sound
        (λ fin scs ok v. bind_def_env t v.0.result ok);
    checked = rw (bind_def-keys t o.0 env) (checked-tail t ts b (keys env) w.checked);
    free = scope_free (thunked op j) w.free;
    room = sound.one.keeps.room;
    pays = λ i e. free_more (thunked op j) (w.pays i e);
  }

-- ---- how many thunks

-- no opcode has a thunk at operand 0, nor from operand 3 on
pub thunked-not : (op j : ℕ) → (j ≡ 1 → ⊥) → (j ≡ 2 → ⊥) → thunked op j ≡ false
unfolding thunked
thunked-not op j a b =
    rw (ne_eqb j 1 a, ne_eqb j 2 b, and-false (eqb op 0x95), and-false (eqb op 0xED || eqb op 0xEC))

late_thunks : (op j : ℕ) (ks : List ℕ) → 3 ≤ j → thunks op j ks ≡ 0
late_thunks op j [] l = refl
late_thunks op j (k ∷ ks) l = rw (thunked-not op j (λ e. absurd (omega arith)) (λ e. absurd (omega arith)), thunks)
    (late_thunks op (suc j) ks (omega arith))

one_more : (b : Bool) (n m : ℕ) → n ≤ m → elim b [ true ↦ suc n | false ↦ n ] ≤ suc m
one_more true n m l = omega arith
one_more false n m l = omega arith

few_at_2 : (op : ℕ) (ks : List ℕ) → thunks op 2 ks ≤ 1
few_at_2 op [] = omega arith
few_at_2 op (k ∷ ks) = one_more (thunked op 2) (thunks op 3 ks) 0 (omega (arith, late_thunks op 3 ks (omega arith)))

few_at_1 : (op : ℕ) (ks : List ℕ) → thunks op 1 ks ≤ 2
few_at_1 op [] = omega arith
few_at_1 op (k ∷ ks) = one_more (thunked op 1) (thunks op 2 ks) 1 (few_at_2 op ks)

few_thunks : (op j : ℕ) (ks : List ℕ) → thunks op j ks ≤ 2
few_thunks op zero [] = omega arith
few_thunks op zero (k ∷ ks) = rw (thunked-not op 0 (λ e. absurd (omega arith)) (λ e. absurd (omega arith)), thunks)
    (few_at_1 op ks)
few_thunks op (suc zero) ks = few_at_1 op ks
few_thunks op (suc (suc zero)) ks = omega (arith, few_at_2 op ks)
few_thunks op (suc (suc (suc j))) ks = omega (arith, late_thunks op (suc (suc (suc j))) ks (omega arith))

-- ---- all operands

module _ {ts : Trees} {b : Bool} {op j cur : ℕ} {env : Env} {st : State} {k : ℕ}
    (w : WellAll ts b op j cur env st k) (at : ℕ) (os : List ℕ × List ℕ × State)
    (is : intern_all ts op j at cur env st ≡ good os) where
  kept_all : KeepsMeanings st w.standing.args cur env op j b ts os
  kept_all =
      holds_good (KeepsMeanings st w.standing.args cur env op j b ts) is
      (intern_all_keeps ts op j at cur env w.standing.args b st w.checked)

  sound_all : KeepsAll Any st (k + many ts) (w.free + plain_kids op j ts) (many ts) op j os
  sound_all =
      holds_good (KeepsAll Any st (k + many ts) (w.free + plain_kids op j ts) (many ts) op j) is
      (all_keep Any tt tt tt ts (keys env) (any_trees ts) w.checked.fine w.checked.known op j at cur env st k
      w.free w.standing.sound w.standing.current (env_low w.standing) w.room w.pays)

  pub all_results : AllRead ts cur st k os
  all_results = record {
    later = kept_all.step.grows;
    count = kept_all.count;
    results = λ s m.
        result_of w.standing kept_all.step.grows s ((step_gives w.standing kept_all.step).results s m);
    slots = omega (
      arith,
      sound_all.keeps.room.slots_paid,
      sound_all.keeps.sound.few_symbols,
      sound_all.keeps.sound.few_readings,
    );
    branches = sound_all.branches;
    few = omega (arith, sound_all.thunks_are, few_thunks op j os.0);
  }

  -- the symbol of a block or a definition
  pub last_result : 1 ≤ many ts → Result os.2 cur (last os.0)
  last_result l = all_results.results (last os.0) (last_in_lem os.0 (omega (arith, kept_all.count)))

  -- the input of a SelectField is read again
  pub again_well : WellAll ts b op j cur env os.2 k
  again_well = record {
    standing = step_stands w.standing kept_all.step env sound_all.keeps.sound (λ fin scs ok v. ok);
    checked = w.checked;
    free = w.free;
    room = room_less os.2 (k + many ts) (w.free + plain_kids op j ts) k w.free (omega arith) (omega arith)
        sound_all.keeps.room;
    pays = w.pays;
  }

  -- where no scope was opened, it gives the same, and only readings are counted
  module _ (no_scope : scope_count os.2 ≡ scope_count st) where
    bound : EnvFits env (sym_count st)
    bound = bound-fits env (sym_count st) (env_ok w.standing).low

    pub again_more : st.readings ≤ os.2.readings
    again_more = reread_more ts op j at cur env st os (sound_tabled w.standing.sound) bound is no_scope

    pub again_same : os.2.readings + (os.2.readings - st.readings) ≤ 2048 →
        intern_all ts op j at cur env os.2
        ≡ good (os.0, os.1, with_readings os.2 (os.2.readings + (os.2.readings - st.readings)))
    again_same = reread_all ts op j at cur env st os (sound_tabled w.standing.sound) bound is no_scope
