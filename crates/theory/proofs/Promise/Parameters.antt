-- Which parameter a value came from is kept (request A.5): model's `ParametersKept`, of every accepted forest.
-- In order: a constant's symbol; an accepted forest, `parameters_kept`; that every state of its interning leads to the
-- last, `reading_leads`.
-- Assumes nothing.
use mathlib.Core.Path.{◌≡◌, ap, sym, ◌∙◌, subst}
use mathlib.Core.List.{List, []}
use mathlib.Core.Bool.{Bool, true}
use Prim.Native.Nat.{ℕ}
use lib.Seq.{get_or-append_seam}
use Rattle.model.specs.Lists.{without}
use Rattle.model.specs.Answer.{good, ◌>>=◌}
use Rattle.model.specs.Tree.{Rec, mark, Tree, node, nil, root}
use Rattle.model.specs.Forest.{trees_of}
use Rattle.model.specs.Accept.{accept}
use Rattle.model.specs.Binding.{Kind, kind, other}
use Rattle.model.specs.Unfold.{arg, unfolded}
use Rattle.model.specs.Intern.{Node, Sym, State, Env, no_sym, read, node_of, union_deps, push, intern_general, intern_kind, intern}
use Rattle.model.specs.Gate.{reachable}
use Rattle.model.specs.Materialize.{materialize}
use Rattle.model.specs.Call.{interned, tree_of}
use Rattle.model.specs.Parameters.{EachConstant, HasSymbol, Leads, AlikeAt, ParametersKept}
use Rattle.laws.proofs.Holds.{Holds, holds_guard, holds_good, holds_map}
use Rattle.theory.specs.Checked.{Checked}
use Rattle.theory.specs.Good.{rec_at, sym_count}
use Rattle.theory.specs.Inv.{Args, keys}
use Rattle.theory.proofs.Meaning.Mean.{mean}
use Rattle.theory.proofs.Interning.Push.{new_sym}
use Rattle.theory.proofs.Interning.Finish.{lookup_found, is_key_true, finish_cases}
use Rattle.theory.proofs.Interning.Walk.{intern_keeps}
use Rattle.theory.proofs.Interning.Interned.{RootInterned, interned_ready}
use Rattle.theory.proofs.Building.Constants.{constant_stands, tree_constants}
use Rattle.theory.proofs.Promise.Main.{tree_unfolds}

-- ---- a constant's symbol

made-rec : (cur : ℕ) (r : Rec) (ks deps : List ℕ) (b : Bool) (nd : Node) (st : State) →
    rec_at (push cur r ks deps b nd st).syms (sym_count st) ≡ r
unfolding push
made-rec cur r ks deps b nd st =
    ap (λ (y : Sym). y.rec) (get_or-append_seam st.syms (new_sym cur r ks deps nd st) [] no_sym)

-- right after it is read it has the constant's record
constant_rec : (r : Rec) → r.shape ≡ 0 → (at cur : ℕ) (env : Env) (st : State) →
    Holds (λ o. rec_at o.1.syms o.0 ≡ r) (intern (node r nil) at cur env st)
unfolding intern intern_kind intern_general kind ◌>>=◌
constant_rec r e at cur env st =
    holds_guard P _ 11 at _ λ l.
    subst (λ (k : Kind). Holds P (intern_kind k at cur r env (λ c e s. good ([], [], s)) (read st))) (sym is_other)
    (finish_cases P at cur r [] [] (node_of r []) (read st)
    (λ i f. (is_key_true st.syms r [] i (lookup_found st.syms r [] st.tables i f).1).0)
    (λ f l. made-rec cur r [] (without (union_deps st.syms []) []) true (node_of r []) (read st)))
  where
    P : ℕ × State → Type 0
    P o = rec_at o.1.syms o.0 ≡ r

    is_other : kind r.shape ≡ other
    is_other = rw e

-- and so in every later state
has_record : (fin : State) (r : Rec) (s : ℕ) (st : State) → HasSymbol r s st → Leads st fin → rec_at fin.syms s ≡ r
has_record fin r s st h leads =
    sym (ap (λ (y : Sym). y.rec) (leads s h.there)) ∙
    holds_good (λ o. rec_at o.1.syms o.0 ≡ r) h.reads
    (constant_rec r h.is_constant h.place h.scope h.env h.before)

-- ---- an accepted forest

module _ (forest : List ℕ) (o : ℕ × State) (ready : RootInterned o.1 o.0 (root (trees_of forest))) where
  same-meaning : unfolded (tree_of o) ≡ unfolded (root (trees_of forest))
  same-meaning = tree_unfolds o (root (trees_of forest)) ready

  -- what the root's symbol stands for
  root_means : mean o.1.syms o.0 (λ a d. arg 0 0) 0 ≡ unfolded (root (trees_of forest))
  unfolding unfolded
  root_means = ready.means (λ a d. arg 0 0) 0

  stand : EachConstant (λ r. (path : List ℕ) × AlikeAt forest o path r) (tree_of o)
  unfolding tree_of materialize reachable
  stand =
      tree_constants (reachable o.1.syms o.1.scopes o.0) (sym_count o.1) ready.inv.good o.0
      ready.low (λ r. (path : List ℕ) × AlikeAt forest o path r)
      (λ s b p q e.
      let w = constant_stands o.1.syms o.1.scopes (sym_count o.1) ready.inv.good o.0 ready.low
      (λ a d. arg 0 0) 0 s b p q e in
      let at-root = rw root_means at w.1 in
      (w.0, (rw same-meaning at-root, at-root)))
      0

  kept : ParametersKept forest o
  kept = record {
    keeps_mark = has_record o.1;
    marks_apart = λ r q s st st' h k l m.
        ap (λ (z : Rec). mark z.aux) (sym (has_record o.1 r s st h l) ∙ has_record o.1 q s st' k m);
    stands = stand;
    same_path = λ path r. (λ c. rw same-meaning at c, λ c. rw same-meaning c);
  }

pub parameters_kept : (forest : List ℕ) → accept forest ≡ good (trees_of forest) → (o : ℕ × State) →
    interned forest ≡ good o → ParametersKept forest o
parameters_kept forest e o is =
    kept forest o (subst (Holds (λ o. RootInterned o.1 o.0 (root (trees_of forest)))) is (interned_ready forest (trees_of forest) e))

-- ---- every state leads to the last

-- the symbols before a tree is read are the first of those after it
pub reading_leads : (t : Tree) (at cur : ℕ) (env : Env) (A : Args) (b : Bool) (st : State) → Checked t b (keys env) →
    Holds (λ o. Leads st o.1) (intern t at cur env st)
reading_leads t at cur env A b st c =
    holds_map _ _ (intern t at cur env st) (intern_keeps t at cur env A b st c) (λ o k. k.grows.same_syms)
