-- `build_value` opened once for its callers: a symbol's tree from the trees of lower symbols, with no mask in sight.
--
-- In order: the children of an operation (`op_eager`, `op_thunk`); builders that agree below a symbol make the same
-- trees of lower ones; `build_step_lem`, and its cases; a definition's value is no use (`value_no_use`); a scope's tree,
-- its rows, size and depth, once it is known how many definitions it has (`scope_none`, `scope_rows`).
-- Assumes nothing.
use mathlib.Core.Path.{◌≡◌, refl, ap, ap₂, sym, ◌∙◌, subst}
use mathlib.Core.Logic.{inl, inr}
use mathlib.Core.Bool.{Bool, true, false, not, ◌&&◌}
use Rattle.std.specs.Prelude.{Option, None, Some}
use mathlib.Core.List.{List, [], ◌∷◌, ◌++◌}
use Prim.Native.Nat.{ℕ, suc, ◌+◌, ◌<◌, max}
use native.Mathlib.Omega.{arith}
use lib.Dec.{eqb}
use lib.ListN.{length, get_or}
use borrow.Author.Tests.{lt-ltb}
use Rattle.model.specs.Down.{under}
use Rattle.model.specs.Tree.{rec, Tree, Trees, node, nil, cons, top, many, depth, depths, rows, rows_of}
use Rattle.model.specs.Intern.{Node, constant, unparsed, argument, func, operation, Env, thunked}
use Rattle.model.specs.Gate.{Graph, sym_of, usage, should_hoist}
use Rattle.model.specs.Schedule.{is_arg, schedule}
use Rattle.model.specs.Materialize.{Builder, Defined, val_use_of, val_def_of, wrap_block, id_given, member, define}
use Rattle.model.specs.Materialize.{process_scope, build_op, arg_lit, arg_env, build_node, build_step, build_value}
use Rattle.laws.specs.Defining.{members_in}
use Rattle.laws.proofs.Apart.{false_true}
use Rattle.laws.proofs.Down.{down_step, under_low}
use Rattle.laws.proofs.Members.{and_both}
use Rattle.laws.specs.ArgLists.{ArgList}
use Rattle.laws.specs.Members.{Under}
use Rattle.laws.proofs.Walks.{if_holds}
use Rattle.laws.proofs.Falls.{under_at, schedule_low}
use Rattle.laws.specs.Members.{Once}
use Rattle.laws.proofs.Symbols.{every_sym}
use Rattle.laws.proofs.Defining.{define-member, define_other, defined_first, along, members_fixed}
use Rattle.laws.proofs.Blocks.{NoRenames, BuildsValues, defs_no_renames, wrap_none, wrap_rows}
use Rattle.laws.proofs.Blocks.{wrap_depth}

-- ---- the children of an operation

module _ (g : Graph) (build : Builder) (sc : ℕ) (env : Env) (last op : ℕ) where
  pub op_none : (j : ℕ) (brs : List ℕ) → build_op g build sc env last op j [] brs ≡ nil
  unfolding build_op
  op_none j brs = refl

  module _ (j k : ℕ) (ks : List ℕ) where
    -- no scope is left: operand j is built in the parent's
    pub op_left : build_op g build sc env last op j (k ∷ ks) [] ≡
        cons (build k sc env last) (build_op g build sc env last op (suc j) ks [])
    unfolding build_op
    op_left = refl

    -- operand j is no thunk
    pub op_eager : (brs : List ℕ) → thunked op j ≡ false →
        build_op g build sc env last op j (k ∷ ks) brs ≡
        cons (build k sc env last) (build_op g build sc env last op (suc j) ks brs)
    unfolding build_op
    op_eager [] e = refl
    op_eager (b ∷ brs) e = rw (e, build_op)

    -- operand j is a thunk, in scope b
    pub op_thunk : (b : ℕ) (brs : List ℕ) → thunked op j ≡ true →
        build_op g build sc env last op j (k ∷ ks) (b ∷ brs) ≡
        cons (process_scope g build k b env last) (build_op g build sc env last op (suc j) ks brs)
    unfolding build_op
    op_thunk b brs e = rw (e, build_op)

  -- a tree for each child
  pub many_op : (j : ℕ) (ks brs : List ℕ) → many (build_op g build sc env last op j ks brs) ≡ length ks
  unfolding build_op many
  many_op j [] brs = refl
  many_op j (k ∷ ks) [] = ap suc (many_op (suc j) ks [])
  many_op j (k ∷ ks) (b ∷ brs) =
      if_holds (λ ts. many ts ≡ suc (length ks)) (thunked op j) _ _ (ap suc (many_op (suc j) ks brs))
      (ap suc (many_op (suc j) ks (b ∷ brs)))

-- ---- builders that agree below n

abbrev Agree : ℕ → Builder → Builder → Type 0
Agree n f h = (d : ℕ) → d < n → f d ≡ h d

module _ (g : Graph) (n : ℕ) (f h : Builder) (agree : Agree n f h) where
  same_at : (d : ℕ) → d < n → (sc : ℕ) (env : Env) (last : ℕ) → f d sc env last ≡ h d sc env last
  same_at d l sc env last = ap (λ (z : ℕ → Env → ℕ → Tree). z sc env last) (agree d l)

  define-same : (sc : ℕ) (order : List ℕ) (env : Env) (last : ℕ) → Under n order →
      define g f sc order env last ≡ define g h sc order env last
  unfolding define
  define-same sc =
      along g f sc (λ order env last d. Under n order → d ≡ define g h sc order env last) (λ env last low. refl)
      (λ s order env last e d k low.
      ap₂ (λ (v : Tree) (x : Defined). defined_first (val_def_of (suc last) v) x)
      (same_at s (low s (inl refl)) sc env last) (k (λ x m. low x (inr m)))
      ∙ sym (define-member g sc s order env e h last))
      (λ s order env last e d k low. k (λ x m. low x (inr m)) ∙ sym (define_other g sc s order env e h last))

  module _ (kids_low : (s : ℕ) → Under s (sym_of g s).kids) where
    process_same : (root sc : ℕ) (env : Env) (last : ℕ) → root < n →
        process_scope g f root sc env last ≡ process_scope g h root sc env last
    unfolding process_scope
    process_same root sc env last l =
        rw (define-same sc (schedule g root sc) env last low) (ap (wrap_block _) (same_at root l sc _ _))
      where
        low : Under n (schedule g root sc)
        low x m = omega (arith, schedule_low g kids_low root sc x m, l)

    op_same : (sc : ℕ) (env : Env) (last op j : ℕ) (ks brs : List ℕ) → Under n ks →
        build_op g f sc env last op j ks brs ≡ build_op g h sc env last op j ks brs
    unfolding build_op
    op_same sc env last op j [] brs low = refl
    op_same sc env last op j (k ∷ ks) [] low =
        let rest = op_same sc env last op (suc j) ks [] (λ x m. low x (inr m)) in
        ap₂ cons (same_at k (low k (inl refl)) sc env last) rest
    op_same sc env last op j (k ∷ ks) (b ∷ brs) low =
        let first = low k (inl refl) in
        let others : Under n ks = λ x m. low x (inr m) in
        ap₂ (λ (ts us : Trees). elim (thunked op j) as (λ z. Trees) [ true ↦ ts | false ↦ us ])
        (ap₂ cons (process_same k b env last first) (op_same sc env last op (suc j) ks brs others))
        (ap₂ cons (same_at k first sc env last) (op_same sc env last op (suc j) ks (b ∷ brs) others))

-- ---- a symbol's tree

-- a lambda has a child, and it is lower
abbrev pub BodyLow : Graph → ℕ → Type 0
BodyLow g s = (xs : ArgList) (b : ℕ) → (sym_of g s).node ≡ func xs b → get_or (sym_of g s).kids 0 0 < s

-- what `build_value` would give for a symbol that is not lower; none is asked for
abbrev no_tree : ℕ → Env → ℕ → Tree
no_tree sc env last = val_use_of 0

-- one child suffices
pub body_low : (g : Graph) (s : ℕ) → Under s (sym_of g s).kids →
    ((xs : ArgList) (b : ℕ) → (sym_of g s).node ≡ func xs b → 0 < length (sym_of g s).kids) → BodyLow g s
body_low g s low one xs b e = under_at s (sym_of g s).kids low 0 (one xs b e)

module _ (g : Graph) (kids_low : (s : ℕ) → Under s (sym_of g s).kids) (s : ℕ) (body : BodyLow g s)
    (sc : ℕ) (env : Env) (last : ℕ) where
  pub build_step_lem : build_value g s sc env last ≡ build_step g (build_value g) s sc env last
  unfolding build_value build_step build_node
  build_step_lem =
      ap (λ (z : ℕ → Env → ℕ → Tree). z sc env last) (down_step no_tree (build_step g) s)
      ∙ go (id_given env s) (sym_of g s).node refl
    where
      masked : Builder
      masked = under no_tree s (build_value g)

      agree : Agree s masked (build_value g)
      agree d l = under_low no_tree (build_step g) s (build_value g) d (lt-ltb d s l)

      node_same : (nd : Node) → (sym_of g s).node ≡ nd →
          build_node g masked (sym_of g s) nd sc env last ≡ build_node g (build_value g) (sym_of g s) nd sc env last
      node_same constant e = refl
      node_same unparsed e = refl
      node_same argument e = refl
      node_same (func xs b) e =
          ap (λ (t : Tree). node (rec 12 0xD9 (length xs) (arg_lit last xs)) (cons t nil))
          (process_same g s masked (build_value g) agree kids_low (get_or (sym_of g s).kids 0 0) b (arg_env last xs env)
          (suc (last + length xs)) (body xs b e))
      node_same (operation brs) e =
          ap (node (sym_of g s).rec)
          (op_same g s masked (build_value g) agree kids_low sc env last (sym_of g s).rec.opcode 0 (sym_of g s).kids brs
          (kids_low s))

      go : (o : Option ℕ) (nd : Node) → (sym_of g s).node ≡ nd →
          ◌≡◌ {A = Tree}
          (elim o [ Some i ↦ val_use_of i | None ↦ build_node g masked (sym_of g s) nd sc env last ])
          (elim o [ Some i ↦ val_use_of i | None ↦ build_node g (build_value g) (sym_of g s) nd sc env last ])
      go (Some i) nd e = refl
      go None nd e = node_same nd e

  pub build_use : (i : ℕ) → id_given env s ≡ Some i → build_value g s sc env last ≡ val_use_of i
  unfolding build_step
  build_use i e = build_step_lem ∙ rw (e, build_step)

  module _ (e : id_given env s ≡ None) where
    by_node : (nd : Node) → (sym_of g s).node ≡ nd →
        build_value g s sc env last ≡ build_node g (build_value g) (sym_of g s) nd sc env last
    unfolding build_step
    by_node nd q = build_step_lem ∙ rw (e, q, build_step)

-- ---- no definition only renames

-- no symbol but an argument has a use's record
abbrev pub NoUses : Graph → Type 0
NoUses g = (s : ℕ) → is_arg (sym_of g s).node ≡ false → eqb (sym_of g s).rec.shape 7 ≡ false

pub value_no_use : (g : Graph) → NoUses g → (sc : ℕ) → BuildsValues g (build_value g) sc
unfolding build_value build_step build_node member
value_no_use g h sc s env last e =
    subst (λ (z : ℕ → Env → ℕ → Tree). eqb (top (z sc env last)).shape 7 ≡ false)
    (sym (down_step no_tree (build_step g) s)) (go (id_given env s) w.1)
  where
    here : Bool
    here = eqb (sym_of g s).scope sc

    no_arg_lem : Bool
    no_arg_lem = not (is_arg (sym_of g s).node)

    new : Option ℕ → Bool
    new o = elim o [ None ↦ true | Some i ↦ false ]

    w : ((here && no_arg_lem && should_hoist (sym_of g s) (usage g s)) ≡ true) × (new (id_given env s) ≡ true)
    w = and_both (here && no_arg_lem && should_hoist (sym_of g s) (usage g s)) (new (id_given env s)) e

    is_no_arg : no_arg_lem ≡ true
    is_no_arg = (and_both here no_arg_lem (and_both (here && no_arg_lem) (should_hoist (sym_of g s) (usage g s)) w.0).0).1

    f : Builder
    f = under no_tree s (build_value g)

    by_node : (nd : Node) → (sym_of g s).node ≡ nd → not (is_arg nd) ≡ true →
        eqb (top (build_node g f (sym_of g s) nd sc env last)).shape 7 ≡ false
    by_node constant q k = h s (ap is_arg q)
    by_node unparsed q k = h s (ap is_arg q)
    by_node argument q k = false_true k
    by_node (func xs b) q k = refl
    by_node (operation brs) q k = h s (ap is_arg q)

    go : (o : Option ℕ) → new o ≡ true →
        eqb (top (elim o as (λ z. Tree) [
          | Some i ↦ val_use_of i
          | None ↦ build_node g f (sym_of g s) (sym_of g s).node sc env last
        ])).shape 7 ≡ false
    go (Some i) k = false_true k
    go None k = by_node (sym_of g s).node refl is_no_arg

-- those of a list of symbols suffice
pub no_uses : (g : Graph) → ((s : ℕ) → s < length g.syms → is_arg (sym_of g s).node ≡ false →
    eqb (sym_of g s).rec.shape 7 ≡ false) → NoUses g
no_uses g h =
    every_sym (λ s y. is_arg y.node ≡ false → eqb y.rec.shape 7 ≡ false) g.syms h (λ s e. refl)

-- ---- a scope's tree, once it is known how many of its schedule get a definition

module _ (g : Graph) (values : NoUses g) (root sc : ℕ) (once : Once (schedule g root sc)) (env : Env) (last k : ℕ)
    (count : members_in g sc env (schedule g root sc) ≡ k) where
  -- the definitions, and the result after them
  abbrev defined : Defined
  defined = define g (build_value g) sc (schedule g root sc) env last

  abbrev result : Tree
  result = build_value g root sc defined.env defined.last

  abbrev scope_tree : Tree
  scope_tree = process_scope g (build_value g) root sc env last

  scope_count_lem : many defined.defs ≡ k
  scope_count_lem = members_fixed g (build_value g) sc (schedule g root sc) env last once ∙ count

  pub scope_none : k ≡ 0 → scope_tree ≡ result
  unfolding process_scope
  scope_none e = wrap_none defined.defs result (scope_count_lem ∙ e)

  module _ (some-def : 0 < k) where
    kept : NoRenames defined.defs
    kept = defs_no_renames g (build_value g) sc (value_no_use g values sc) (schedule g root sc) env last

    pub scope_rows : rows scope_tree ≡
        record { rec = rec 11 0xD8 0 []; kids = k + 1 } ∷ (rows_of defined.defs ++ rows result)
    unfolding process_scope
    scope_rows = wrap_rows defined.defs result kept k scope_count_lem some-def

    pub scope_depth : depth scope_tree ≡ suc (max (depths defined.defs) (depth result))
    unfolding process_scope
    scope_depth = wrap_depth defined.defs result kept k scope_count_lem some-def
