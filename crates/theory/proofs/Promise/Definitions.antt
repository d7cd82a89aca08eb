-- Every definition of the written tree has its label, of every forest that is interned: as many symbols are listed as
-- defined as there are definitions (`definitions_listed`). labels proves it where no symbol but an argument has a
-- ValDef's record.
-- In order: it is so where symbols are good; an interned forest.
-- Assumes nothing.
use mathlib.Core.Path.{◌≡◌, refl, ap, ◌∙◌}
use mathlib.Core.Bool.{false}
use mathlib.Core.List.{List}
use Prim.Native.Nat.{ℕ}
use lib.Dec.{eqb}
use lib.ListN.{length}
use Rattle.model.specs.Answer.{Answer, refused, good, ◌>>=◌}
use Rattle.model.specs.Tree.{Tree, Trees, rows, root}
use Rattle.model.specs.Accept.{accept}
use Rattle.model.specs.Opcodes.{ValDef}
use Rattle.model.specs.Binding.{kind}
use Rattle.model.specs.Intern.{Node, constant, unparsed, argument, func, operation, Sym, Scope, State}
use Rattle.model.specs.Gate.{reachable}
use Rattle.model.specs.Schedule.{is_arg}
use Rattle.model.specs.Call.{interned, reached_of, tree_of}
use Rattle.model.specs.Template.{definitions}
use Rattle.model.specs.Labels.{labelled, defined_of}
use Rattle.laws.proofs.Apart.{true_false}
use Rattle.laws.proofs.Holds.{Holds, holds_good, holds_map}
use Rattle.laws.proofs.Symbols.{every_sym}
use Rattle.labels.proofs.Erased.{labelled_erased}
use Rattle.labels.proofs.Counted.{NoDefs, defined_counted}
use Rattle.theory.specs.Good.{rec_at, node_at, sym_count, NodeOk, Goods}
use Rattle.theory.proofs.Interning.Interned.{RootInterned, interned_ready}
use Rattle.theory.proofs.Building.Written.{plain-not}

-- ---- symbols that are good

-- a symbol that is no argument has no ValDef's record
node_no_def : (ss : List Sym) (scs : List Scope) (s : ℕ) (nd : Node) → NodeOk ss scs s nd → is_arg nd ≡ false →
    eqb (rec_at ss s).shape ValDef ≡ false
unfolding kind
node_no_def ss scs s constant h e = plain-not (rec_at ss s).shape ValDef refl h.0.kind_is
node_no_def ss scs s unparsed h e = plain-not (rec_at ss s).shape ValDef refl h.0.kind_is
node_no_def ss scs s argument h e = true_false e
node_no_def ss scs s (func xs b) h e = ap (λ (n : ℕ). eqb n ValDef) h.shape_is
node_no_def ss scs s (operation brs) h e = plain-not (rec_at ss s).shape ValDef refl h.0.kind_is

abbrev AllGood : ℕ × State → Type 0
AllGood o = Goods o.1.syms o.1.scopes (sym_count o.1)

good_no_defs : (o : ℕ × State) → AllGood o → NoDefs (reached_of o)
unfolding reachable
good_no_defs o goods =
    every_sym (λ s y. is_arg y.node ≡ false → eqb y.rec.shape ValDef ≡ false) o.1.syms
    (λ s l. node_no_def o.1.syms o.1.scopes s (node_at o.1.syms s) (goods s l).node_is) (λ s e. refl)

-- ---- an interned forest

-- it is accepted, so its symbols are good
interned_goods : (bs : List ℕ) → Holds AllGood (interned bs)
unfolding interned ◌>>=◌
interned_goods bs = go (accept bs) refl
  where
    go : (a : Answer Trees) → accept bs ≡ a → Holds AllGood (interned bs)
    go (refused n p) e = rw e tt
    go (good ts) e =
        holds_map (λ o. RootInterned o.1 o.0 (root ts)) _ (interned bs) (interned_ready bs ts e) (λ o r. r.inv.good)

pub definitions_listed : (bs : List ℕ) (o : ℕ × State) → interned bs ≡ good o →
    length (defined_of (labelled (reached_of o) o.0)) ≡ definitions (rows (tree_of o))
unfolding tree_of
definitions_listed bs o is =
    defined_counted (reached_of o)
    (good_no_defs o (holds_good AllGood is (interned_goods bs))) o.0
    ∙ ap (λ (t : Tree). definitions (rows t)) (labelled_erased o.1.syms o.1.scopes o.0)
