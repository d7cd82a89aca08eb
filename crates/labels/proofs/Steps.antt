-- `l_build_value` opened once for its callers, with no mask in sight, and which symbols a scope's tree defines.
--
-- In order: the children of an operation (`l_op_eager`, `l_op_thunk`); builders that agree below a symbol make the same
-- labelled trees of lower ones; a symbol's tree (`value_use`, `value_new`); the symbols defined along an order
-- (`defined_one`, `defined_append`); those of a scope's tree, once it is known how many of its schedule get a definition
-- (`scope_defined-none`, `scope_defined`).
-- Assumes nothing.
use mathlib.Core.Path.{◌≡◌, refl, ap, ap₂, sym, ◌∙◌}
use mathlib.Core.Logic.{inl, inr}
use mathlib.Core.Bool.{Bool, true, false}
use Rattle.std.specs.Prelude.{None, Some}
use mathlib.Core.List.{List, [], ◌∷◌, ◌++◌, append_assoc, append-nil}
use Prim.Native.Nat.{ℕ, suc, ◌+◌, ◌<◌}
use native.Mathlib.Omega.{arith}
use lib.ListN.{length, get_or}
use borrow.Author.Tests.{lt-ltb}
use Rattle.model.specs.Down.{under}
use Rattle.model.specs.Opcodes.{FuncValue, FuncValueOp}
use Rattle.model.specs.Tree.{rec, many}
use Rattle.model.specs.Intern.{Node, constant, unparsed, argument, func, operation, Env, thunked}
use Rattle.model.specs.Gate.{Graph, sym_of}
use Rattle.model.specs.Schedule.{schedule}
use Rattle.model.specs.Materialize.{Defined, id_given, member, arg_lit, arg_env, define, build_value}
use Rattle.model.specs.Labels.{no_label, LTree, LTrees, lnode, lnil, lcons, erase, erase_all, l_snoc, l_val_use_of}
use Rattle.model.specs.Labels.{l_val_def_of, l_wrap_block, LBuilder, LDefined, l_define, l_process_scope, l_build_op}
use Rattle.model.specs.Labels.{l_build_node, l_build_step, l_build_value, defined_of, defined_in}
use Rattle.laws.specs.Members.{Under, Once}
use Rattle.laws.specs.Defining.{members_in}
use Rattle.laws.proofs.Down.{down_step, under_low}
use Rattle.laws.proofs.Falls.{schedule_low}
use Rattle.laws.proofs.Defining.{along, members_fixed, members_member, members_other}
use Rattle.laws.proofs.Blocks.{NoRenames, no_rename, defs_no_renames}
use Rattle.laws.proofs.Building.{BodyLow, NoUses, value_no_use}
use Rattle.labels.proofs.Erased.{SameDefined, define_erased}

-- ---- the children of an operation

module _ (g : Graph) (build : LBuilder) (sc : ℕ) (env : Env) (last op : ℕ) where
  pub l_op_none : (j : ℕ) (brs : List ℕ) → l_build_op g build sc env last op j [] brs ≡ lnil
  unfolding l_build_op
  l_op_none j brs = refl

  module _ (j k : ℕ) (ks : List ℕ) where
    -- no scope is left: operand j is built in the parent's
    pub l_op_left : l_build_op g build sc env last op j (k ∷ ks) [] ≡
        lcons (build k sc env last) (l_build_op g build sc env last op (suc j) ks [])
    unfolding l_build_op
    l_op_left = refl

    -- operand j is no thunk
    pub l_op_eager : (brs : List ℕ) → thunked op j ≡ false →
        l_build_op g build sc env last op j (k ∷ ks) brs ≡
        lcons (build k sc env last) (l_build_op g build sc env last op (suc j) ks brs)
    unfolding l_build_op
    l_op_eager [] e = refl
    l_op_eager (b ∷ brs) e = rw (e, l_build_op)

    -- operand j is a thunk, in scope b
    pub l_op_thunk : (b : ℕ) (brs : List ℕ) → thunked op j ≡ true →
        l_build_op g build sc env last op j (k ∷ ks) (b ∷ brs) ≡
        lcons (l_process_scope g build k b env last) (l_build_op g build sc env last op (suc j) ks brs)
    unfolding l_build_op
    l_op_thunk b brs e = rw (e, l_build_op)

-- ---- builders that agree below n

-- a definition of s, of value v, and then definitions
abbrev defined_first : ℕ → ℕ → LTree → LDefined → LDefined
defined_first s i v d = record { defs = lcons (l_val_def_of s i v) d.defs; env = d.env; last = d.last }

module _ (g : Graph) (n : ℕ) (f h : LBuilder) (agree : (d : ℕ) → d < n → f d ≡ h d) where
  same_at : (d : ℕ) → d < n → (sc : ℕ) (env : Env) (last : ℕ) → f d sc env last ≡ h d sc env last
  same_at d l sc env last = ap (λ (z : ℕ → Env → ℕ → LTree). z sc env last) (agree d l)

  define_same : (sc : ℕ) (order : List ℕ) (env : Env) (last : ℕ) → Under n order →
      l_define g f sc order env last ≡ l_define g h sc order env last
  unfolding l_define
  define_same sc [] env last low = refl
  define_same sc (s ∷ order) env last low =
      let others : Under n order = λ x m. low x (inr m) in
      ap₂ (λ (x y : LDefined). elim (member g sc env s) as (λ z. LDefined) [ true ↦ x | false ↦ y ])
      (ap₂ (defined_first s (suc last)) (same_at s (low s (inl refl)) sc env last)
      (define_same sc order ((s, suc last) ∷ env) (suc last) others))
      (define_same sc order env last others)

  module _ (kids_low : (s : ℕ) → Under s (sym_of g s).kids) where
    process_same : (root sc : ℕ) (env : Env) (last : ℕ) → root < n →
        l_process_scope g f root sc env last ≡ l_process_scope g h root sc env last
    unfolding l_process_scope
    process_same root sc env last l =
        rw (define_same sc (schedule g root sc) env last low) (ap (l_wrap_block sc _) (same_at root l sc _ _))
      where
        low : Under n (schedule g root sc)
        low x m = omega (arith, schedule_low g kids_low root sc x m, l)

    op_same : (sc : ℕ) (env : Env) (last op j : ℕ) (ks brs : List ℕ) → Under n ks →
        l_build_op g f sc env last op j ks brs ≡ l_build_op g h sc env last op j ks brs
    unfolding l_build_op
    op_same sc env last op j [] brs low = refl
    op_same sc env last op j (k ∷ ks) [] low =
        ap₂ lcons (same_at k (low k (inl refl)) sc env last)
        (op_same sc env last op (suc j) ks [] (λ x m. low x (inr m)))
    op_same sc env last op j (k ∷ ks) (b ∷ brs) low =
        let first = low k (inl refl) in
        let others : Under n ks = λ x m. low x (inr m) in
        ap₂ (λ (ts us : LTrees). elim (thunked op j) as (λ z. LTrees) [ true ↦ ts | false ↦ us ])
        (ap₂ lcons (process_same k b env last first) (op_same sc env last op (suc j) ks brs others))
        (ap₂ lcons (same_at k first sc env last) (op_same sc env last op (suc j) ks (b ∷ brs) others))

-- ---- a symbol's tree

-- what `l_build_value` would give for a symbol that is not lower; none is asked for
abbrev no_tree : ℕ → Env → ℕ → LTree
no_tree sc env last = l_val_use_of 0

module _ (g : Graph) (kids_low : (s : ℕ) → Under s (sym_of g s).kids) (s : ℕ) (body : BodyLow g s)
    (sc : ℕ) (env : Env) (last : ℕ) where
  abbrev masked : LBuilder
  masked = under no_tree s (l_build_value g)

  masked_step : l_build_value g s sc env last ≡ l_build_step g masked s sc env last
  unfolding l_build_value
  masked_step = ap (λ (z : ℕ → Env → ℕ → LTree). z sc env last) (down_step no_tree (l_build_step g) s)

  agree : (d : ℕ) → d < s → masked d ≡ l_build_value g d
  agree d l = under_low no_tree (l_build_step g) s (l_build_value g) d (lt-ltb d s l)

  node_same : (nd : Node) → (sym_of g s).node ≡ nd →
      l_build_node g masked (sym_of g s) nd sc env last ≡ l_build_node g (l_build_value g) (sym_of g s) nd sc env last
  unfolding l_build_node
  node_same constant e = refl
  node_same unparsed e = refl
  node_same argument e = refl
  node_same (func xs b) e =
      ap (λ (t : LTree). lnode no_label (rec FuncValue FuncValueOp (length xs) (arg_lit last xs)) (lcons t lnil))
      (process_same g s masked (l_build_value g) agree kids_low (get_or (sym_of g s).kids 0 0) b (arg_env last xs env)
      (suc (last + length xs)) (body xs b e))
  node_same (operation brs) e =
      ap (lnode no_label (sym_of g s).rec)
      (op_same g s masked (l_build_value g) agree kids_low sc env last (sym_of g s).rec.opcode 0 (sym_of g s).kids brs
      (kids_low s))

  -- a symbol that has an id is a use, which defines nothing
  pub value_use : (i : ℕ) → id_given env s ≡ Some i → defined_of (l_build_value g s sc env last) ≡ []
  unfolding l_build_step l_val_use_of defined_of
  value_use i e = ap defined_of masked_step ∙ rw (e, l_build_step)

  -- any other is built from its node
  pub value_new : id_given env s ≡ None → l_build_value g s sc env last ≡
      l_build_node g (l_build_value g) (sym_of g s) (sym_of g s).node sc env last
  unfolding l_build_step
  value_new e = masked_step ∙ rw (e, l_build_step) (node_same (sym_of g s).node refl)

-- ---- the symbols defined along an order

module _ (g : Graph) (sc s : ℕ) (order : List ℕ) (env : Env) (last : ℕ) where
  member_defined : member g sc env s ≡ true →
      defined_in (l_define g (l_build_value g) sc (s ∷ order) env last).defs ≡
      s ∷ (defined_of (l_build_value g s sc env last)
      ++ defined_in (l_define g (l_build_value g) sc order ((s, suc last) ∷ env) (suc last)).defs)
  unfolding l_define l_val_def_of defined_of
  member_defined e =
      rw (e, l_define)
      (ap (λ xs. s ∷ (xs ++ defined_in (l_define g (l_build_value g) sc order ((s, suc last) ∷ env) (suc last)).defs))
      (append-nil (defined_of (l_build_value g s sc env last))))

  other_defined : member g sc env s ≡ false →
      l_define g (l_build_value g) sc (s ∷ order) env last ≡ l_define g (l_build_value g) sc order env last
  unfolding l_define
  other_defined e = rw (e, l_define)

pub defined_other : (g : Graph) (sc s : ℕ) (env : Env) (last : ℕ) → member g sc env s ≡ false →
    defined_in (l_define g (l_build_value g) sc (s ∷ []) env last).defs ≡ []
unfolding l_define defined_of
defined_other g sc s env last e = ap (λ (d : LDefined). defined_in d.defs) (other_defined g sc s [] env last e)

pub defined_one : (g : Graph) (sc s : ℕ) (env : Env) (last : ℕ) → member g sc env s ≡ true →
    defined_in (l_define g (l_build_value g) sc (s ∷ []) env last).defs ≡ s ∷ defined_of (l_build_value g s sc env last)
unfolding l_define defined_of
defined_one g sc s env last e =
    member_defined g sc s [] env last e ∙ ap (◌∷◌ s) (append-nil (defined_of (l_build_value g s sc env last)))

pub defined_append : (g : Graph) (sc : ℕ) (ys xs : List ℕ) (env : Env) (last : ℕ) →
    let d = define g (build_value g) sc xs env last in
    defined_in (l_define g (l_build_value g) sc (xs ++ ys) env last).defs ≡
    defined_in (l_define g (l_build_value g) sc xs env last).defs
    ++ defined_in (l_define g (l_build_value g) sc ys d.env d.last).defs
unfolding l_define defined_of
defined_append g sc ys =
    along g (build_value g) sc
    (λ xs env last d. defs_of (xs ++ ys) env last ≡ defs_of xs env last ++ defs_of ys d.env d.last)
    (λ env last. refl)
    (λ s xs env last e d h.
    member_defined g sc s (xs ++ ys) env last e
    ∙ ap (λ zs. s ∷ (defined_of (l_build_value g s sc env last) ++ zs)) h
    ∙ ap (◌∷◌ s) (sym (append_assoc (defined_of (l_build_value g s sc env last)) _ _))
    ∙ ap (λ zs. zs ++ defs_of ys d.env d.last) (sym (member_defined g sc s xs env last e)))
    (λ s xs env last e d h.
    ap (λ (d : LDefined). defined_in d.defs) (other_defined g sc s (xs ++ ys) env last e)
    ∙ h
    ∙ ap (λ (l : LDefined). defined_in l.defs ++ defs_of ys d.env d.last) (sym (other_defined g sc s xs env last e)))
  where
    defs_of : List ℕ → Env → ℕ → List ℕ
    defs_of order env last = defined_in (l_define g (l_build_value g) sc order env last).defs

-- ---- the symbols that a scope's tree defines, once it is known how many of its schedule get a definition

defined_snoc : (ts : LTrees) (t : LTree) → defined_in (l_snoc ts t) ≡ defined_in ts ++ defined_of t
unfolding l_snoc defined_of
defined_snoc lnil t = append-nil (defined_of t)
defined_snoc (lcons u ts) t =
    ap (λ zs. defined_of u ++ zs) (defined_snoc ts t) ∙ sym (append_assoc (defined_of u) (defined_in ts) (defined_of t))

-- definitions of which none only renames are kept
wrap_defined : (sc : ℕ) (ds : LTrees) (r : LTree) → NoRenames (erase_all ds) → 0 < many (erase_all ds) →
    defined_of (l_wrap_block sc ds r) ≡ defined_in ds ++ defined_of r
unfolding l_wrap_block defined_of erase many l_snoc
wrap_defined sc lnil r kept some = absurd (omega arith)
wrap_defined sc (lcons d lnil) r kept some =
    rw (no_rename (erase d) (erase r) kept.0, l_wrap_block) (defined_snoc (lcons d lnil) r)
wrap_defined sc (lcons d (lcons e ds)) r kept some = defined_snoc (lcons d (lcons e ds)) r

-- nothing is defined, and no id is given
abbrev NoneDefined : Graph → ℕ → List ℕ → Env → ℕ → Type 0
NoneDefined g sc order env last =
    l_define g (l_build_value g) sc order env last ≡ record { defs = lnil; env = env; last = last }

none_defined : (g : Graph) (sc : ℕ) (order : List ℕ) (env : Env) (last : ℕ) → members_in g sc env order ≡ 0 →
    NoneDefined g sc order env last
unfolding l_define
none_defined g sc [] env last z = refl
none_defined g sc (s ∷ order) env last z = go (member g sc env s) refl (none_defined g sc order env last)
  where
    go : (b : Bool) → member g sc env s ≡ b → (members_in g sc env order ≡ 0 → NoneDefined g sc order env last) →
        NoneDefined g sc (s ∷ order) env last
    go true e rest = absurd (omega (arith, members_member g sc s order env e))
    go false e rest = other_defined g sc s order env last e ∙ rest (sym (members_other g sc s order env e) ∙ z)

module _ (g : Graph) (values : NoUses g) (root sc : ℕ) (once : Once (schedule g root sc)) (env : Env) (last k : ℕ)
    (count : members_in g sc env (schedule g root sc) ≡ k) where
  pub scope_defined-none : k ≡ 0 →
      defined_of (l_process_scope g (l_build_value g) root sc env last) ≡ defined_of (l_build_value g root sc env last)
  unfolding l_process_scope l_wrap_block
  scope_defined-none e =
      ap (λ (d : LDefined). defined_of (l_wrap_block sc d.defs (l_build_value g root sc d.env d.last)))
      (none_defined g sc (schedule g root sc) env last (count ∙ e))

  pub scope_defined : 0 < k → let d = define g (build_value g) sc (schedule g root sc) env last in
      defined_of (l_process_scope g (l_build_value g) root sc env last) ≡
      defined_in (l_define g (l_build_value g) sc (schedule g root sc) env last).defs
      ++ defined_of (l_build_value g root sc d.env d.last)
  unfolding l_process_scope
  scope_defined some =
      wrap_defined sc l.defs (l_build_value g root sc l.env l.last) kept (omega (arith, scope_many, some))
      ∙ ap₂ (λ env last. defined_in l.defs ++ defined_of (l_build_value g root sc env last)) same.1 same.2
    where
      l : LDefined
      l = l_define g (l_build_value g) sc (schedule g root sc) env last

      d : Defined
      d = define g (build_value g) sc (schedule g root sc) env last

      same : SameDefined l d
      same = define_erased g sc (schedule g root sc) env last

      kept : NoRenames (erase_all l.defs)
      kept = rw same.0 (defs_no_renames g (build_value g) sc (value_no_use g values sc) (schedule g root sc) env last)

      scope_many : many (erase_all l.defs) ≡ k
      scope_many =
          ap many same.0 ∙ members_fixed g (build_value g) sc (schedule g root sc) env last once ∙ count
