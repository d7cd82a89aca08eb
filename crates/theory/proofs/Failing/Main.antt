-- If the root of a forest of one tree with no lambda and no SelectField has a value, the written tree has that value:
-- `values_kept`.
-- In order: the tree of an interned forest; the tree that document 01 defines (`value_kept`); the call (`call_value_kept`);
-- the theorem.
-- Assumes nothing.
use mathlib.Core.Path.{◌≡◌, refl, ap, sym, ◌∙◌}
use mathlib.Core.Logic.{inl, inr}
use mathlib.Core.Bool.{false}
use Rattle.std.specs.Prelude.{Some}
use mathlib.Core.List.{List, []}
use Prim.Native.Nat.{ℕ, ◌<◌}
use native.Mathlib.Omega.{arith}
use lib.ListN.{get_or, take}
use lib.Seq.{take-append_seam}
use Rattle.model.specs.Answer.{good}
use Rattle.model.specs.Tree.{Trees, nil, cons, many, root}
use Rattle.model.specs.Forest.{trees_of}
use Rattle.model.specs.Accept.{checks}
use Rattle.model.specs.Intern.{Scope, State, root_scope, start, thunked, intern_forest, intern_last}
use Rattle.model.specs.Gate.{reachable}
use Rattle.model.specs.Materialize.{materialize}
use Rattle.model.specs.Call.{Call, reached_of, tree_of, bytes_of, Numbers, numbers, out_after}
use Rattle.model.specs.Failing.{Semantics, value_in, eval, eval_last, Simple, KeepsValue, CallKeepsValue, ValuesKept}
use Rattle.laws.proofs.Apart.{none_some}
use Rattle.laws.proofs.Checks.{Passes}
use Rattle.laws.proofs.Holds.{holds_good}
use Rattle.laws.specs.Members.{Every}
use Rattle.laws.proofs.Members.{in_left}
use Rattle.theory.specs.Checked.{CheckedIn}
use Rattle.theory.specs.Good.{sym_count, scope_count}
use Rattle.theory.proofs.Acceptance.Accept.{closed, checked-trees}
use Rattle.theory.proofs.Acceptance.Each.{EachIn, forest_each}
use Rattle.theory.proofs.Interning.Interned.{RootInterned}
use Rattle.theory.proofs.Promise.Main.{root_ready}
use Rattle.theory.proofs.Demand3.{demand_3}
use Rattle.theory.proofs.Demand3.Counted.{interned_exactly}
use Rattle.theory.proofs.Demand3.Order.{call_passes, accepted_passes}
use Rattle.theory.proofs.Demand3.Exactly.{zero_passes}
use Rattle.theory.proofs.Failing.Live.{Final, Prefix, outwards, Here, entered_from}
use Rattle.theory.proofs.Failing.Thunks.{Owes}
use Rattle.theory.proofs.Failing.Operands.{intern_last_keeps}
use Rattle.theory.proofs.Failing.Walk.{Allowed, intern_all_keeps}
use Rattle.theory.proofs.Failing.Building.{root_right}

-- ---- the tree of an interned forest

-- opcode 00, under which the trees of a forest are read, has no thunks
no_thunk : (j : ℕ) → thunked 0 j ≡ false
unfolding thunked
no_thunk j = refl

module _ {W : Type 0} (sem : Semantics W) (ts : Trees) (allowed : EachIn Allowed ts) (one : many ts ≡ 1)
    (checked : CheckedIn ts false []) (o : ℕ × State)
    (is : intern_last (intern_forest ts) ≡ good o) (ready : RootInterned o.1 o.0 (root ts)) where
  abbrev F : Final
  F = record { syms = o.1.syms; scopes = o.1.scopes; low = λ s l k m. (ready.inv.good s l).low k m }

  kept : Owes sem F start 0 [] (λ ms. eval_last sem ts ms) o
  unfolding intern_forest
  kept =
      holds_good (Owes sem F start 0 [] (λ ms. eval_last sem ts ms)) is
      (intern_last_keeps sem F 0 0 [] false ts start (intern_forest ts) no_thunk (λ e. one)
      (intern_all_keeps sem F ts allowed 0 0 0 0 [] false start checked))

  outermost : get_or F.scopes 0 root_scope ≡ root_scope
  unfolding start
  outermost = sym (kept.grows.same_scopes 0 (omega arith))

  at_start : Here F start 0
  unfolding start
  at_start = record {
    opens = opens;
    plain = ap (λ (z : Scope). z.args) outermost;
    lined = (λ i m. absurd m, tt);
  }
    where
      opens : Every (λ b. b < scope_count start) (outwards F 0)
      opens b (inl e) = omega arith
      opens b (inr m) = absurd (rw (ap (λ (z : Scope). z.around) outermost) at m)

  at_end : Prefix F o.1
  at_end = record { fits = record { syms_fit = λ i l. refl; scopes_fit = λ b l. refl }; counts = omega arith }

  -- the root is the one tree
  root-last : (ts : Trees) → many ts ≡ 1 → eval_last sem ts [] ≡ eval sem (root ts) []
  unfolding many root eval_last
  root-last nil e = absurd (omega arith)
  root-last (cons t nil) e = refl
  root-last (cons t (cons u us)) e = absurd (omega arith)

  tree_value : (w : W) → eval sem (root ts) [] ≡ Some w → eval sem (tree_of o) [] ≡ Some w
  unfolding tree_of materialize reachable value_in start
  tree_value w q =
      let v = kept.valued at_end at_start [] w (λ i u e. none_some e) (root-last ts one ∙ q) in
      root_right sem (reached_of o) (sym_count o.1) ready.inv.good (entered_from sem F 0 v.live)
      (λ x l m. v.living.lives x (omega arith) l m) o.0 ready.low (inl refl)
      (in_left _ (outwards F 0) v.live v.scope_in)
      ∙ v.found_is

-- ---- the tree that document 01 defines

module _ {W : Type 0} (sem : Semantics W) (forest : List ℕ) (simple : Simple forest) where
  passed_kept : Passes (checks forest) → (o : ℕ × State) → intern_last (intern_forest (trees_of forest)) ≡ good o → (w : W) →
      eval sem (root (trees_of forest)) [] ≡ Some w → eval sem (tree_of o) [] ≡ Some w
  passed_kept pass o is =
      tree_value sem (trees_of forest) (forest_each Allowed forest (λ p. (simple.no_lambda p, simple.no_field p)))
      ((closed forest pass).0 ∙ simple.one_tree) (checked-trees forest pass) o is (root_ready forest pass o is)

  value_kept : KeepsValue sem forest
  value_kept accepted o e = passed_kept (accepted_passes forest accepted) o ((interned_exactly forest o).1 e)

-- ---- the call

call_value_kept : {W : Type 0} (sem : Semantics W) (c : Call) → Simple c.forest → CallKeepsValue sem c
unfolding root
call_value_kept sem c simple out l zero v q =
    let w = (demand_3 c out l).writes zero in
    let i = w.interned in
    let tree = passed_kept sem c.forest simple (call_passes c (zero_passes c zero)).0 i
    ((interned_exactly c.forest i).1 w.defined) v q in
    let written : take (numbers c).len (out_after c out) ≡ bytes_of i =
    rw (w.stands, ap (λ (z : Numbers). z.len) w.answers) (take-append_seam (bytes_of i) _) in
    rw (written, w.reads_back) tree

-- ---- the theorem

pub values_kept : ValuesKept
values_kept W sem = (value_kept sem, call_value_kept sem)
