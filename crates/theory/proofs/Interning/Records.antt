-- A property of records that interning keeps: where each record of a forest has it, and a field's record with another number
-- has it too, each symbol's record has it (`records_kept`). A symbol's record is one of the forest's, or a projection's.
-- In order: symbols; a record, by its kind; trees, by induction; a forest.
-- Assumes nothing.
use mathlib.Core.Bool.{Bool, true, false, ◌||◌}
use Rattle.std.specs.Prelude.{Option, None, Some}
use mathlib.Core.List.{List, [], ◌∷◌, ◌++◌}
use Prim.Native.Nat.{ℕ, zero, suc, ◌+◌, ◌<◌}
use native.Mathlib.Omega.{arith}
use lib.Dec.{eqb, ltb}
use lib.ListN.{length, get_or}
use Rattle.model.specs.Lists.{last, without}
use Rattle.model.specs.Answer.{good}
use Rattle.model.specs.Tree.{Rec, rec, Tree, Trees, node, nil, cons, size}
use Rattle.model.specs.Opcodes.{Tuple}
use Rattle.model.specs.Binding.{Kind, kind, val_use, val_def, block, lambda, field, other, args_of}
use Rattle.model.specs.Intern.{Node, argument, operation, Sym, sym_at, State, Out, Outs, Env, Kids, start, read, union_deps}
use Rattle.model.specs.Intern.{lookup, push, alloc, finish, alloc_args, bind_args, bind_def, open_scope, open_thunk, thunked}
use Rattle.model.specs.Intern.{intern_scoped, recall, pick, new_projections, pair_projection, intern_last, node_of}
use Rattle.model.specs.Intern.{intern_general, intern_field, intern_func, intern_kind, intern, intern_all, intern_forest}
use Rattle.laws.proofs.Holds.{Holds, holds_bind, holds_guard}
use Rattle.theory.proofs.Acceptance.Each.{Each, EachIn}

module _ (P : Rec → Type 0) where
  -- ---- symbols

  abbrev pub Recorded : List Sym → Type 0
  Recorded [] = Unit {0}
  Recorded (y ∷ ys) = P y.rec × Recorded ys

  pub recorded_at : (ss : List Sym) → Recorded ss → (i : ℕ) → i < length ss → P (sym_at ss i).rec
  recorded_at [] h i l = absurd (omega arith)
  recorded_at (y ∷ ys) h zero l = h.0
  recorded_at (y ∷ ys) h (suc i) l = recorded_at ys h.1 i (omega arith)

  one_more : (ss : List Sym) (y : Sym) → Recorded ss → P y.rec → Recorded (ss ++ (y ∷ []))
  one_more [] y h p = (p, tt)
  one_more (x ∷ ss) y h p = (h.0, one_more ss y h.1 p)

  -- after a symbol, and after some
  abbrev Has : State → Type 0
  Has st = Recorded st.syms

  abbrev HasOne : ℕ × State → Type 0
  HasOne o = Recorded o.1.syms

  abbrev HasAll : List ℕ × List ℕ × State → Type 0
  HasAll os = Recorded os.2.syms

  alloc_has : (at cur : ℕ) (r : Rec) (ks deps : List ℕ) (b : Bool) (nd : Node) (st : State) → P r → Has st →
      Holds HasOne (alloc at cur r ks deps b nd st)
  unfolding alloc push
  alloc_has at cur r ks deps b nd st p h =
      holds_guard HasOne (ltb (length st.syms) 512) 12 at _ λ e. one_more st.syms _ h p

  finish_has : (at cur : ℕ) (r : Rec) (ks own : List ℕ) (nd : Node) (st : State) → P r → Has st →
      Holds HasOne (finish at cur r ks own nd st)
  unfolding finish
  finish_has at cur r ks own nd st p h = go (lookup st.syms r ks st.tables)
    where
      go : (o : Option ℕ) → Holds HasOne (elim o as (λ z. Out) [
        | Some i ↦ good (i, st)
        | None ↦ alloc at cur r ks (without (union_deps st.syms ks) own) true nd st
      ])
      go (Some i) = h
      go None = alloc_has at cur r ks _ true nd st p h

  args_have : (at cur : ℕ) (r : Rec) (xs : List (ℕ × List ℕ)) (st : State) → P r → Has st →
      Holds HasAll (alloc_args at cur r xs st)
  unfolding alloc_args
  args_have at cur r [] st p h = h
  args_have at cur r (a ∷ xs) st p h =
      holds_bind HasOne HasAll (alloc at cur r [] (length st.syms ∷ []) false argument st) _
      (alloc_has at cur r [] _ false argument st p h) λ o w.
      holds_bind HasAll HasAll (alloc_args at cur r xs o.1) _ (args_have at cur r xs o.1 p w) λ os v. v

  -- ---- a record, by its kind

  abbrev KidsHave : Kids → Type 0
  KidsHave kids = (c : ℕ) (e : Env) (s : State) → Has s → Holds HasAll (kids c e s)

  last_has : (m : Outs) → Holds HasAll m → Holds HasOne (intern_last m)
  unfolding intern_last
  last_has m h = holds_bind HasAll HasOne m _ h λ os w. w

  general_has : (at cur : ℕ) (r : Rec) (m : Outs) → P r → Holds HasAll m → Holds HasOne (intern_general at cur r m)
  unfolding intern_general
  general_has at cur r m p h =
      holds_bind HasAll HasOne m _ h λ os w. finish_has at cur r os.0 [] (node_of r os.1) os.2 p w

  func_has : (at cur : ℕ) (r : Rec) (env : Env) (kids : Kids) (st : State) → P r → KidsHave kids → Has st →
      Holds HasOne (intern_func at cur r env kids st)
  unfolding intern_func
  func_has at cur r env kids st p kk h =
      holds_bind HasAll HasOne (alloc_args at cur r (args_of r.aux r.lit) st) _ (args_have at cur r _ st p h) λ made w.
      holds_bind HasAll HasOne
      (kids (length made.2.scopes) (bind_args (args_of r.aux r.lit) made.0 env)
      (open_scope cur (Some made.0) made.2.tables made.2)) _ (kk _ _ _ w) λ os v.
      finish_has at cur r os.0 made.0 _ os.2 p v

  module _ (projected : (r : Rec) (n : ℕ) → P r → P (rec r.shape r.opcode 0 (n ∷ []))) where
    pair_has : (at cur : ℕ) (r : Rec) (i p : ℕ) (st : State) → P r → Has st →
        Holds HasOne (pair_projection at cur r i p st)
    unfolding pair_projection new_projections
    pair_has at cur r i p st q h = go (recall st.memo p)
      where
        both : Holds HasOne (new_projections at cur r i p st)
        both =
            holds_bind HasOne HasOne (finish at cur (rec r.shape r.opcode 0 (1 ∷ [])) (p ∷ []) [] (operation []) st) _
            (finish_has at cur _ _ _ _ st (projected r 1 q) h) λ a w.
            holds_bind HasOne HasOne (finish at cur (rec r.shape r.opcode 0 (2 ∷ [])) (p ∷ []) [] (operation []) a.1) _
            (finish_has at cur _ _ _ _ a.1 (projected r 2 q) w) λ b v. v

        go : (o : Option (ℕ × ℕ)) → Holds HasOne (elim o as (λ z. Out) [
          | Some ab ↦ good (pick i ab, st)
          | None ↦ new_projections at cur r i p st
        ])
        go (Some ab) = h
        go None = both

    field_has : (at cur : ℕ) (r : Rec) (env : Env) (kids : Kids) (ks : List ℕ) (st : State) → P r → KidsHave kids →
        Has st → Holds HasOne (intern_field at cur r env kids ks st)
    unfolding intern_field
    field_has at cur r env kids ks st p kk h =
        go (eqb (get_or r.lit 0 0) 1 || eqb (get_or r.lit 0 0) 2) (eqb (sym_at st.syms (last ks)).rec.shape Tuple)
      where
        go : (a b : Bool) → Holds HasOne (elim a as (λ z. Out) [
          | false ↦ finish at cur r ks [] (operation []) st
          | true ↦ elim b as (λ z. Out) [
            | false ↦ pair_projection at cur r (get_or r.lit 0 0) (last ks) st
            | true ↦ intern_general at cur r (kids cur env st)
          ]
        ])
        go false b = finish_has at cur r ks [] (operation []) st p h
        go true false = pair_has at cur r (get_or r.lit 0 0) (last ks) st p h
        go true true = general_has at cur r (kids cur env st) p (kk cur env st h)

    kind_has : (k : Kind) (at cur : ℕ) (r : Rec) (env : Env) (kids : Kids) (st : State) → P r → KidsHave kids →
        Has st → Holds HasOne (intern_kind k at cur r env kids st)
    unfolding intern_kind
    kind_has val_use at cur r env kids st p kk h = h
    kind_has val_def at cur r env kids st p kk h = last_has (kids cur env st) (kk cur env st h)
    kind_has block at cur r env kids st p kk h = last_has (kids cur env st) (kk cur env st h)
    kind_has lambda at cur r env kids st p kk h = func_has at cur r env kids st p kk h
    kind_has field at cur r env kids st p kk h =
        holds_bind HasAll HasOne (kids cur env st) (λ os. intern_field at cur r env kids os.0 os.2) (kk cur env st h)
        λ os w. field_has at cur r env kids os.0 os.2 p kk w
    kind_has other at cur r env kids st p kk h = general_has at cur r (kids cur env st) p (kk cur env st h)

    -- ---- trees

    scoped_has : (b : Bool) (cur : ℕ) (child : ℕ → State → Out) (st : State) →
        ((c : ℕ) (s : State) → Has s → Holds HasOne (child c s)) → Has st → Holds HasOne (intern_scoped b cur child st)
    unfolding intern_scoped
    scoped_has false cur child st ch h = ch cur st h
    scoped_has true cur child st ch h =
        holds_bind HasOne HasOne (child (length st.scopes) (open_thunk cur st)) _ (ch _ _ h) λ o w. w

    mutual
      unfolding intern

      tree_has : (t : Tree) → Each P t → (at cur : ℕ) (env : Env) (st : State) → Has st →
          Holds HasOne (intern t at cur env st)
      tree_has (node r ts) q at cur env st h =
          holds_guard HasOne (ltb st.readings 2048) 11 at _ λ e.
          kind_has (kind r.shape) at cur r env (λ c e s. intern_all ts r.opcode 0 (suc at) c e s) (read st) q.0
          (λ c e s k. trees_have ts q.1 r.opcode 0 (suc at) c e s k) h

      trees_have : (ts : Trees) → EachIn P ts → (op j at cur : ℕ) (env : Env) (st : State) → Has st →
          Holds HasAll (intern_all ts op j at cur env st)
      trees_have nil q op j at cur env st h = h
      trees_have (cons t ts) q op j at cur env st h =
          holds_bind HasOne HasAll (intern_scoped (thunked op j) cur (λ c s. intern t at c env s) st) _
          (scoped_has (thunked op j) cur (λ c s. intern t at c env s) st
          (λ c s k. tree_has t q.0 at c env s k) h) λ o w.
          holds_bind HasAll HasAll (intern_all ts op (suc j) (at + size t) cur (bind_def t o.0 env) o.1) _
          (trees_have ts q.1 op (suc j) (at + size t) cur (bind_def t o.0 env) o.1 w) λ os v. v

    -- ---- a forest

    pub records_kept : (ts : Trees) → EachIn P ts → Holds HasOne (intern_last (intern_forest ts))
    unfolding intern_forest start
    records_kept ts q = last_has (intern_forest ts) (trees_have ts q 0 0 0 0 [] start tt)
