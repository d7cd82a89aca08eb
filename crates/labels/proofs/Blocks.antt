-- Where definitions stand in the written tree: among a block's children and nowhere else, each of a symbol that may be hoisted
-- to the scope for which the block is written.
--
-- In order: what `member` asks of a symbol (`Definable`); every definition written is such (`labelled_asked`); what blocks hold
-- may be defined in their scopes (`held_definable`); what they hold is what is defined (`held_same`, `defined_definable`).
-- Assumes nothing.
use mathlib.Core.Path.{◌≡◌, refl, sym, ap, ap₂, ◌∙◌}
use mathlib.Core.Logic.{inl, inr}
use mathlib.Core.Bool.{Bool, true, false, not, ◌&&◌, ◌||◌}
use mathlib.Core.List.{List, [], ◌∷◌, ◌++◌}
use Prim.Native.Nat.{ℕ}
use lib.Dec.{eqb, ltb}
use borrow.Author.Tests.{eqb-true, ltb-true, le-ltb, not-true}
use Rattle.std.specs.Prelude.{None, Some, flat_map}
use Rattle.std.proofs.lemmas.List.Concat.{flat_map-append}
use Rattle.model.specs.Lists.{is_in}
use Rattle.model.specs.Tree.{Rec}
use Rattle.model.specs.Intern.{Env}
use Rattle.model.specs.Gate.{Graph, sym_of, usage, is_context_property, is_internal, is_const, should_hoist}
use Rattle.model.specs.Schedule.{is_arg}
use Rattle.model.specs.Materialize.{id_given, member}
use Rattle.model.specs.Labels.{Label, no_label, defines, block_for, LTree, LTrees, lnode, lnil, lcons, labelled, symbol_here}
use Rattle.model.specs.Labels.{label_of, defined_of, defined_in, WrittenBlock, held_by, blocks_of, blocks_in}
use Rattle.laws.specs.Members.{In, Every}
use Rattle.laws.proofs.Members.{and_both, is_in_true, is_in-append, in_either}
use Rattle.laws.proofs.Walks.{every_none, every_cons, every_join}
use Rattle.labels.proofs.Records.{All, AllOf, labelled_all}

-- ---- what `member` asks, apart from the ids given

-- symbol s may get a definition in scope sc
pub record Definable (g : Graph) (s sc : ℕ) : Type 0 where
  pub own_scope : (sym_of g s).scope ≡ sc
  pub no_argument : is_arg (sym_of g s).node ≡ false
  pub used_twice : ltb (usage g s) 2 ≡ false
  pub no_property : is_context_property (sym_of g s) ≡ false
  pub no_global : is_internal (sym_of g s) ≡ false
  pub no_scalar : is_const (sym_of g s) ≡ false

pub member_definable : (g : Graph) (sc : ℕ) (env : Env) (s : ℕ) → member g sc env s ≡ true → Definable g s sc
unfolding member should_hoist
member_definable g sc env s e =
    let y = sym_of g s in
    let here = eqb y.scope sc in
    let symbol = not (is_arg y.node) in
    let often = ltb 1 (usage g s) in
    let computed = not (is_context_property y) in
    let inner = not (is_internal y) in
    let large = not (is_const y) in
    let new : Bool = elim (id_given env s) [ None ↦ true | Some i ↦ false ] in
    let hoist = often && computed && inner && large in
    let a = (and_both (here && symbol && hoist) new e).0 in
    let b = and_both (here && symbol) hoist a in
    let c = and_both here symbol b.0 in
    let d = and_both (often && computed && inner) large b.1 in
    let f = and_both (often && computed) inner d.0 in
    let h = and_both often computed f.0 in
    record {
      own_scope = eqb-true y.scope sc c.0;
      no_argument = not-true (is_arg y.node) c.1;
      used_twice = le-ltb (usage g s) 2 (ltb-true 1 (usage g s) h.0);
      no_property = not-true (is_context_property y) h.1;
      no_global = not-true (is_internal y) f.1;
      no_scalar = not-true (is_const y) d.1;
    }

-- ---- every definition written is such

-- a definition stands in a block, and its symbol may be defined in the block's scope
abbrev pub Asked : Graph → Label → Label → Rec → Type 0
Asked g p no_label r = Unit {0}
Asked g no_label (defines s) r = ⊥
Asked g (defines x) (defines s) r = ⊥
Asked g (block_for sc) (defines s) r = Definable g s sc
Asked g p (block_for sc) r = Unit {0}

pub labelled_asked : (g : Graph) (root : ℕ) (p : Label) → All (Asked g) p (labelled g root)
labelled_asked g = labelled_all g (Asked g) record {
  use_of = λ p i. tt;
  block = λ p sc. tt;
  lambda = λ p n lit. tt;
  own = λ p s e. tt;
  definition = λ sc s i env e. member_definable g sc env s e;
}

-- ---- what is held by blocks

-- the symbols whose definitions they hold
abbrev pub symbols_of : List WrittenBlock → List ℕ
symbols_of bs = flat_map (λ b. b.symbols) bs

-- each may be defined in the scope of a block that holds it
abbrev pub HoldDefinable : Graph → List WrittenBlock → Type 0
HoldDefinable g [] = Unit {0}
HoldDefinable g (b ∷ bs) = Every (λ s. Definable g s b.scope) b.symbols × HoldDefinable g bs

module _ (g : Graph) where
  hold_join : (xs ys : List WrittenBlock) → HoldDefinable g xs → HoldDefinable g ys → HoldDefinable g (xs ++ ys)
  hold_join [] ys h k = k
  hold_join (x ∷ xs) ys h k = (h.0, hold_join xs ys h.1 k)

  -- the symbols defined among the children of a record: none, if it is no block
  abbrev Children : Label → List ℕ → Type 0
  Children no_label hs = hs ≡ []
  Children (defines s) hs = hs ≡ []
  Children (block_for sc) hs = Every (λ s. Definable g s sc) hs

  no_child : (p : Label) → Children p []
  no_child no_label = refl
  no_child (defines s) = refl
  no_child (block_for sc) = every_none (λ s. Definable g s sc)

  one_child : (p l : Label) (r : Rec) → Asked g p l r → Children p (symbol_here l)
  one_child p no_label r h = no_child p
  one_child no_label (defines s) r h = absurd h
  one_child (defines x) (defines s) r h = absurd h
  one_child (block_for sc) (defines s) r h =
      every_cons (λ s. Definable g s sc) s [] h (every_none (λ s. Definable g s sc))
  one_child p (block_for sc) r h = no_child p

  children_join : (p : Label) (xs ys : List ℕ) → Children p xs → Children p ys → Children p (xs ++ ys)
  children_join no_label xs ys h k = ap₂ ◌++◌ h k
  children_join (defines s) xs ys h k = ap₂ ◌++◌ h k
  children_join (block_for sc) xs ys h k = every_join (λ s. Definable g s sc) xs ys h k

  label_child : (p : Label) (t : LTree) → All (Asked g) p t → Children p (symbol_here (label_of t))
  label_child p (lnode l r ts) h = one_child p l r h.0

  children : (p : Label) (ts : LTrees) → AllOf (Asked g) p ts → Children p (held_by ts)
  unfolding held_by
  children p lnil h = no_child p
  children p (lcons t ts) h =
      children_join p (symbol_here (label_of t)) (held_by ts) (label_child p t h.0) (children p ts h.1)

  mutual
    unfolding blocks_of blocks_in

    tree_holds : (p : Label) (t : LTree) → All (Asked g) p t → HoldDefinable g (blocks_of t)
    tree_holds p (lnode no_label r ts) h = each_holds no_label ts h.1
    tree_holds p (lnode (defines s) r ts) h = each_holds (defines s) ts h.1
    tree_holds p (lnode (block_for sc) r ts) h = (children (block_for sc) ts h.1, each_holds (block_for sc) ts h.1)

    each_holds : (p : Label) (ts : LTrees) → AllOf (Asked g) p ts → HoldDefinable g (blocks_in ts)
    each_holds p lnil h = tt
    each_holds p (lcons t ts) h = hold_join (blocks_of t) (blocks_in ts) (tree_holds p t h.0) (each_holds p ts h.1)

  pub held_definable : (root : ℕ) → HoldDefinable g (blocks_of (labelled g root))
  held_definable root = tree_holds no_label (labelled g root) (labelled_asked g root no_label)

  -- ---- what is held is what is defined

  module _ (s : ℕ) where
    joined : (xs ys : List ℕ) (p q : List WrittenBlock) →
        is_in s ((xs ++ ys) ++ symbols_of (p ++ q)) ≡ (is_in s (xs ++ symbols_of p) || is_in s (ys ++ symbols_of q))
    joined xs ys p q =
        rw (
          flat_map-append (λ (b : WrittenBlock). b.symbols) p q,
          is_in-append s (xs ++ ys) (symbols_of p ++ symbols_of q),
          is_in-append s xs ys,
          is_in-append s (symbols_of p) (symbols_of q),
          is_in-append s xs (symbols_of p),
          is_in-append s ys (symbols_of q),
        ) (go (is_in s xs) (is_in s ys) (is_in s (symbols_of p)) (is_in s (symbols_of q)))
      where
        go : (a b c d : Bool) → ((a || b) || (c || d)) ≡ ((a || c) || (b || d))
        go true b c d = refl
        go false true true d = refl
        go false true false d = refl
        go false false c d = refl

    -- no symbol is a child's: what is left is held further below
    no_children : (hs xs : List ℕ) {b : Bool} → hs ≡ [] → is_in s (hs ++ xs) ≡ b → is_in s xs ≡ b
    no_children hs xs h e = sym (ap (λ z. is_in s (z ++ xs)) h) ∙ e

    mutual
      unfolding blocks_of blocks_in held_by defined_of defined_in is_in

      tree_same : (p : Label) (t : LTree) → All (Asked g) p t →
          is_in s (symbol_here (label_of t) ++ symbols_of (blocks_of t)) ≡ is_in s (defined_of t)
      tree_same p (lnode no_label r ts) h =
          no_children (held_by ts) (symbols_of (blocks_in ts)) (children no_label ts h.1) (each_same no_label ts h.1)
      tree_same p (lnode (defines x) r ts) h =
          ap (λ b. eqb s x || b)
          (no_children (held_by ts) (symbols_of (blocks_in ts)) (children (defines x) ts h.1) (each_same (defines x) ts h.1))
      tree_same p (lnode (block_for sc) r ts) h = each_same (block_for sc) ts h.1

      each_same : (p : Label) (ts : LTrees) → AllOf (Asked g) p ts →
          is_in s (held_by ts ++ symbols_of (blocks_in ts)) ≡ is_in s (defined_in ts)
      each_same p lnil h = refl
      each_same p (lcons t ts) h =
          joined (symbol_here (label_of t)) (held_by ts) (blocks_of t) (blocks_in ts)
          ∙ ap₂ ◌||◌ (tree_same p t h.0) (each_same p ts h.1)
          ∙ sym (is_in-append s (defined_of t) (defined_in ts))

    -- a symbol that has a definition is held by a block, and one that a block holds has a definition
    pub held_same : (root : ℕ) →
        is_in s (symbols_of (blocks_of (labelled g root))) ≡ is_in s (defined_of (labelled g root))
    held_same root =
        let t = labelled g root in
        let h = labelled_asked g root no_label in
        no_children (symbol_here (label_of t)) (symbols_of (blocks_of t)) (label_child no_label t h) (tree_same no_label t h)

    some_definable : (bs : List WrittenBlock) → HoldDefinable g bs → In s (symbols_of bs) →
        Definable g s (sym_of g s).scope
    some_definable [] h i = absurd i
    some_definable (b ∷ bs) h i =
        elim (in_either s b.symbols (symbols_of bs) i) [
          | inl k ↦ let d = h.0 s k in rw (d.own_scope) d
          | inr k ↦ some_definable bs h.1 k
        ]

    -- a symbol that has a definition may have one in its own scope
    pub defined_definable : (root : ℕ) → is_in s (defined_of (labelled g root)) ≡ true → Definable g s (sym_of g s).scope
    defined_definable root e =
        let bs = blocks_of (labelled g root) in
        some_definable bs (held_definable root) (is_in_true s (symbols_of bs) (held_same root ∙ e))
