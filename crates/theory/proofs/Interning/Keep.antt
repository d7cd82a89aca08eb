-- What interning keeps: the invariant, and that a tree's symbol stands for the tree, whatever arguments stand for.
--
-- In order: what is kept by reading a tree (`KeepsMeaning`) and trees (`KeepsMeanings`); lists of one; definitions and
-- blocks, which give their last child's symbol (`intern_last_keeps`); operations, which have a symbol of their own
-- (`node_of_cases`, `finish_keeps`, `intern_general_keeps`).
-- Fields, Body and Operands show these of fields, lambdas and operands; Walk puts the kinds together.
-- Assumes nothing.
use mathlib.Core.Path.{◌≡◌, refl, ap, ap₂, ◌∙◌}
use mathlib.Core.Logic.{inl, inr}
use mathlib.Core.Bool.{Bool, true, false}
use mathlib.Core.List.{List, [], ◌∷◌}
use Prim.Native.Nat.{ℕ, ◌≤◌}
use native.Mathlib.Omega.{arith}
use lib.Dec.{eqb}
use lib.ListN.{length, drop_of_length-le}
use borrow.Author.Tests.{eqb-true}
use Rattle.model.specs.Lists.{last}
use Rattle.model.specs.Tree.{Rec, Trees, nil, cons, many, is_nil}
use Rattle.model.specs.Shape.{fits, agrees}
use Rattle.model.specs.Binding.{kind}
use Rattle.model.specs.Unfold.{Unfolded, made, Meaning, unfold_all, unfold_last, unfold_item}
use Rattle.model.specs.Intern.{Node, constant, unparsed, operation, Sym, Scope, State, Env, Outs, Kids, finish, node_of}
use Rattle.model.specs.Intern.{intern_last, intern_general}
use Rattle.laws.proofs.Holds.{Holds, holds_bind, holds_map}
use Rattle.laws.specs.Members.{In}
use Rattle.theory.proofs.Meaning.Mean.{Val, mean_all, mean}
use Rattle.theory.proofs.Meaning.Coincide.{mean_plain}
use Rattle.theory.specs.Checked.{CheckedIn}
use Rattle.theory.proofs.Acceptance.Records.{const_child, unparsed_child}
use Rattle.theory.specs.Good.{is_plain, PairsOk, SymOk, sym_count}
use Rattle.theory.specs.Inv.{Args, keys, EnvOk}
use Rattle.theory.proofs.Interning.Finish.{Result, Results, Made, PlainNode, Step, finish-plain, step_gives}
use Rattle.theory.proofs.Interning.Finish.{step_then}
use Rattle.theory.proofs.Interning.Fresh.{EnvSem}

-- ---- what is kept

-- the symbols of some children, the scopes of the thunks among them, and the state after them
abbrev pub Symbols : Type 0
Symbols = List ℕ × List ℕ × State

-- what a tree unfolds to, by what is in force and the depth
abbrev pub Unfolding : Type 0
Unfolding = Meaning → ℕ → Unfolded

-- symbol s stands for u wherever env stands for what is in force; symbols ks stand for trees, each for one
abbrev pub Means : List Sym → Env → ℕ → Unfolding → Type 0
Means fin env s u = (ρ : Val) (ms : Meaning) → EnvSem fin env ms ρ → (d : ℕ) → mean fin s ρ d ≡ u ms d

abbrev pub EachMeans : List Sym → Env → List ℕ → Trees → Type 0
EachMeans fin env ks ts =
    (ρ : Val) (ms : Meaning) → EnvSem fin env ms ρ → (d : ℕ) → mean_all (mean fin) ks ρ d ≡ unfold_all ts ms d

-- symbol s depends on arguments in force only, and stands for u
pub record StandsFor (fin : List Sym) (n : ℕ) (A : Args) (env : Env) (s : ℕ) (u : Unfolding) : Type 0 where
  pub result : Result fin n A s
  pub means : Means fin env s u

-- symbols ks, with the scopes brs of the thunks among them, are those of the operands ts of opcode op, from operand j;
-- b says that they are a block's children, of which the last stands for the block
pub record AllStand
    (fin : List Sym) (scs : List Scope) (n : ℕ) (A : Args) (env : Env)
    (op j : ℕ) (b : Bool) (ts : Trees) (ks brs : List ℕ) : Type 0 where
  pub results : Results fin n A ks
  pub pairs : PairsOk fin scs op j ks brs
  pub each_means : b ≡ false → EachMeans fin env ks ts
  pub last_means : b ≡ true → is_nil ts ≡ false → Means fin env (last ks) (unfold_last ts)

-- the ids of env are in force, with the arguments A
abbrev pub InForce : State → Env → Args → List Sym → List Scope → Type 0
InForce st env A fin scs = EnvOk fin (sym_count st) env A

-- from state st, a symbol that stands for u has been found or made
abbrev pub KeepsMeaning : State → Args → ℕ → Env → Unfolding → ℕ × State → Type 0
KeepsMeaning st A cur env u o =
    Step st o.1 A cur (InForce st env A) (λ fin scs. StandsFor fin (sym_count o.1) A env o.0 u)

-- from state st, symbols of the operands ts have been found or made
pub record KeepsMeanings
    (st : State) (A : Args) (cur : ℕ) (env : Env) (op j : ℕ) (b : Bool) (ts : Trees) (os : Symbols) : Type 0 where
  pub count : length os.0 ≡ many ts
  pub step : Step st os.2 A cur (InForce st env A)
      (λ fin scs. AllStand fin scs (sym_count os.2) A env op j b ts os.0 os.1)

-- the reading of a record's children, from any state and with any ids in force
abbrev pub KidsKeep : Kids → ℕ → Bool → Trees → Type 0
KidsKeep kids op b ts =
    (c : ℕ) (env : Env) (A : Args) (st : State) → CheckedIn ts b (keys env) →
    Holds (KeepsMeanings st A c env op 0 b ts) (kids c env st)

-- ---- lists of one, and the last of a list

pub one_last : (ks : List ℕ) → length ks ≡ 1 → ks ≡ last ks ∷ []
unfolding last
one_last [] e = absurd (omega arith)
one_last (k ∷ []) e = refl
one_last (k ∷ j ∷ ks) e = absurd (omega arith)

pub last_in_lem : (ks : List ℕ) → 1 ≤ length ks → In (last ks) ks
unfolding last
last_in_lem [] l = absurd (omega arith)
last_in_lem (k ∷ []) l = inl refl
last_in_lem (k ∷ j ∷ ks) l = inr (last_in_lem (j ∷ ks) (omega arith))

is_nil_false : (ts : Trees) → 1 ≤ many ts → is_nil ts ≡ false
unfolding many
is_nil_false nil l = absurd (omega arith)
is_nil_false (cons t ts) l = refl

-- the one child of a definition: what it stands for, out of the lists
one_means : (fin : List Sym) (env : Env) (ks : List ℕ) (ts : Trees) → length ks ≡ 1 → many ts ≡ 1 →
    EachMeans fin env ks ts → Means fin env (last ks) (unfold_last ts)
unfolding many mean_all unfold_last unfold_item
one_means fin env ks nil lk lt h ρ ms e d = absurd (omega arith)
one_means fin env ks (cons t nil) lk lt h ρ ms e d = let p = rw (one_last ks lk) at (h ρ ms e d) in cc
one_means fin env ks (cons t (cons u ts)) lk lt h ρ ms e d = absurd (omega arith)

-- ---- definitions and blocks: the last child's symbol

-- b tells a block, with some children, from a definition, with one
pub intern_last_keeps : (cur op : ℕ) (env : Env) (A : Args) (b : Bool) (ts : Trees) (st : State) (m : Outs) →
    1 ≤ many ts → (b ≡ false → many ts ≡ 1) →
    Holds (KeepsMeanings st A cur env op 0 b ts) m → Holds (KeepsMeaning st A cur env (unfold_last ts)) (intern_last m)
unfolding intern_last
intern_last_keeps cur op env A b ts st m l one h =
    holds_bind (KeepsMeanings st A cur env op 0 b ts) (KeepsMeaning st A cur env (unfold_last ts)) m _ h λ os k.
    step_gives k.step λ fin scs w. record {
      result = w.results (last os.0) (last_in_lem os.0 (omega (arith, k.count)));
      means = means fin os.0 b k.count one w.each_means w.last_means;
    }
  where
    means : (fin : List Sym) (ks : List ℕ) (b : Bool) → length ks ≡ many ts → (b ≡ false → many ts ≡ 1) →
        (b ≡ false → EachMeans fin env ks ts) →
        (b ≡ true → is_nil ts ≡ false → Means fin env (last ks) (unfold_last ts)) →
        Means fin env (last ks) (unfold_last ts)
    means fin ks false c one each final = one_means fin env ks ts (c ∙ one refl) (one refl) (each refl)
    means fin ks true c one each final = final refl (is_nil_false ts l)

-- ---- operations: a symbol with the record and the children's symbols

-- the record of an operation with n children, as checks 4 and 5 leave it
pub record PlainRec (r : Rec) (n : ℕ) : Type 0 where
  pub kind_is : is_plain (kind r.shape) ≡ true
  pub fits_is : fits (record { rec = r; kids = n }) ≡ true
  pub agrees_is : agrees r ≡ true

abbrev pub made_of : Rec → Trees → Unfolding
made_of r ts ms d = made r (unfold_all ts ms d)

-- its symbol stands for the record and the children
pub made_stands : {fin : List Sym} {scs : List Scope} {n m : ℕ} {A : Args} {env : Env} {r : Rec} {op s : ℕ} {ts : Trees}
    {ks brs : List ℕ} → PlainRec r (many ts) → SymOk fin scs s → AllStand fin scs n A env op 0 false ts ks brs →
    Made fin m A r ks s → StandsFor fin m A env s (made_of r ts)
made_stands {fin} {scs} {r} {s} p ok w m = let k = m.key in record {
  result = record { low = k.low; within = m.within };
  means = λ ρ ms e d.
      mean_plain fin scs s ok (rw k.rec_is p.kind_is) k.made_is ρ d
      ∙ ap₂ made k.rec_is (ap (λ (z : List ℕ). mean_all (mean fin) z ρ d) k.kids_is ∙ w.each_means refl ρ ms e d);
}

-- by check 4 a constant and an Unparsed have no children
pub node_of_cases : (P : Node → Type 0) (r : Rec) (ks brs : List ℕ) →
    fits (record { rec = r; kids = length ks }) ≡ true → (ks ≡ [] → P constant) → (ks ≡ [] → P unparsed) →
    P (operation brs) → P (node_of r brs)
unfolding node_of
node_of_cases P r ks brs f c u p = go (eqb r.shape 0) refl (eqb r.shape 1) refl
  where
    empty : length ks ≡ 0 → ks ≡ []
    empty e = drop_of_length-le ks {i = 0} (omega arith)

    go : (a : Bool) → eqb r.shape 0 ≡ a → (b : Bool) → eqb r.shape 1 ≡ b →
        P (elim a [ true ↦ constant | false ↦ elim b [ true ↦ unparsed | false ↦ operation brs ] ])
    go true e b g = c (empty (const_child r (length ks) (eqb-true r.shape 0 e) f))
    go false e true g = u (empty (unparsed_child r (length ks) (eqb-true r.shape 1 g) f))
    go false e false g = p

-- a node is right for a record and its children's thunks
abbrev pub NodeFits : Rec → Symbols → Node → Type 0
NodeFits r os nd =
    (fin : List Sym) (scs : List Scope) → PairsOk fin scs r.opcode 0 os.0 os.1 → PlainNode fin scs r os.0 nd

-- the symbol of a record whose children have been read
pub finish_keeps : (at : ℕ) {st : State} {A : Args} {cur : ℕ} {env : Env} {r : Rec} {ts : Trees} {os : Symbols}
    (nd : Node) → PlainRec r (many ts) → KeepsMeanings st A cur env r.opcode 0 false ts os → NodeFits r os nd →
    Holds (KeepsMeaning st A cur env (made_of r ts)) (finish at cur r os.0 [] nd os.2)
finish_keeps at {st} {A} {cur} {env} {r} {ts} {os} nd p k right =
    holds_map _ (KeepsMeaning st A cur env (made_of r ts)) (finish at cur r os.0 [] nd os.2)
    (finish-plain at cur r os.0 nd os.2 A p.kind_is (rw k.count p.fits_is) p.agrees_is) λ o s.
    step_then k.step s (λ fin scs ok w. (w.results, right fin scs w.pairs))
    (λ fin scs inv w m. made_stands p (inv.good o.0 m.key.low) w m)

pub intern_general_keeps : (at cur : ℕ) (r : Rec) (env : Env) (A : Args) (ts : Trees) (st : State) (m : Outs) →
    PlainRec r (many ts) → Holds (KeepsMeanings st A cur env r.opcode 0 false ts) m →
    Holds (KeepsMeaning st A cur env (made_of r ts)) (intern_general at cur r m)
unfolding intern_general
intern_general_keeps at cur r env A ts st m p h =
    holds_bind (KeepsMeanings st A cur env r.opcode 0 false ts) (KeepsMeaning st A cur env (made_of r ts)) m _ h λ os k.
    finish_keeps at (node_of r os.1) p k λ fin scs w.
    node_of_cases (PlainNode fin scs r os.0) r os.0 os.1 (rw k.count p.fits_is) (λ e. e) (λ e. e) w
