-- Interning refuses with 11 or 12 and no other number, at a record of the forest: `forest_limited`, which Demand3.Order
-- uses.
-- In order: answers put together; each step of interning; trees.
-- Assumes nothing.
use mathlib.Core.Logic.{◌⊎◌, inl, inr}
use mathlib.Core.Path.{◌≡◌, refl}
use mathlib.Core.Bool.{Bool, true, false, ◌||◌}
use Rattle.std.specs.Prelude.{Option, None, Some}
use mathlib.Core.List.{List, [], ◌∷◌}
use Prim.Native.Nat.{ℕ, suc, ◌+◌, ◌<◌, ◌≤◌}
use native.Mathlib.Omega.{arith}
use lib.Dec.{eqb, ltb}
use lib.ListN.{length, get_or}
use Rattle.model.specs.Lists.{last, without}
use Rattle.model.specs.Answer.{Answer, refused, good, ◌>>=◌, guard}
use Rattle.model.specs.Tree.{Rec, rec, Tree, Trees, node, nil, cons, size, sizes}
use Rattle.model.specs.Binding.{Kind, kind, val_use, val_def, block, lambda, field, other, args_of}
use Rattle.model.specs.Intern.{Node, operation, argument, State, Out, Outs, Env, Kids, sym_at, start, read, alloc}
use Rattle.model.specs.Intern.{lookup, union_deps, finish, alloc_args, recall, new_projections, pair_projection, pick}
use Rattle.model.specs.Intern.{node_of, intern_last, intern_general, intern_field, intern_func, intern_kind, intern_scoped}
use Rattle.model.specs.Intern.{bind_def, thunked, intern, intern_all, intern_forest}

-- ---- answers

-- a refusal, if it is one, is 11 or 12, at a record before `end`
abbrev pub Limited : {A : Type 0} → ℕ → Answer A → Type 0
Limited end (refused n p) = ((n ≡ 11) ⊎ (n ≡ 12)) × (p < end)
Limited end (good a) = Unit {0}

limited_bind : {A B : Type 0} (end : ℕ) (m : Answer A) (f : A → Answer B) → Limited end m →
    ((a : A) → Limited end (f a)) → Limited end (m >>= f)
unfolding ◌>>=◌
limited_bind end (refused n p) f h k = h
limited_bind end (good a) f h k = k a

limited_guard : {A : Type 0} (end : ℕ) (b : Bool) (n p : ℕ) (a : Answer A) → (n ≡ 11) ⊎ (n ≡ 12) → p < end →
    Limited end a → Limited end (guard b n p a)
unfolding guard
limited_guard end true n p a h l w = w
limited_guard end false n p a h l w = (h, l)

-- ---- the steps of interning

module _ (end at cur : ℕ) (r : Rec) (low : at < end) where
  alloc_limited : (ks deps : List ℕ) (b : Bool) (nd : Node) (st : State) → Limited end (alloc at cur r ks deps b nd st)
  unfolding alloc
  alloc_limited ks deps b nd st = limited_guard end (ltb (length st.syms) 512) 12 at _ (inr refl) low tt

  finish_limited : (ks own : List ℕ) (nd : Node) (st : State) → Limited end (finish at cur r ks own nd st)
  unfolding finish
  finish_limited ks own nd st = go (lookup st.syms r ks st.tables)
    where
      go : (f : Option ℕ) → Limited {A = ℕ × State} end (elim f as (λ z. Out) [
        | Some i ↦ good (i, st)
        | None ↦ alloc at cur r ks (without (union_deps st.syms ks) own) true nd st
      ])
      go (Some i) = tt
      go None = alloc_limited ks (without (union_deps st.syms ks) own) true nd st

  args_limited : (xs : List (ℕ × List ℕ)) (st : State) → Limited end (alloc_args at cur r xs st)
  unfolding alloc_args
  args_limited [] st = tt
  args_limited (a ∷ xs) st =
      limited_bind end _ _ (alloc_limited [] (length st.syms ∷ []) false argument st) λ o.
      limited_bind end _ _ (args_limited xs o.1) λ os. tt

  general_limited : (m : Outs) → Limited end m → Limited end (intern_general at cur r m)
  unfolding intern_general
  general_limited m h = limited_bind end m _ h λ os. finish_limited os.0 [] (node_of r os.1) os.2

projection_limited : (end at cur : ℕ) (r : Rec) → at < end → (i p : ℕ) (st : State) →
    Limited end (pair_projection at cur r i p st)
unfolding pair_projection new_projections
projection_limited end at cur r low i p st = go (recall st.memo p)
  where
    go : (f : Option (ℕ × ℕ)) → Limited {A = ℕ × State} end (elim f as (λ z. Out) [
      | Some ab ↦ good (pick i ab, st)
      | None ↦ new_projections at cur r i p st
    ])
    go (Some ab) = tt
    go None =
        limited_bind end _ _ (finish_limited end at cur (rec r.shape r.opcode 0 (1 ∷ [])) low (p ∷ []) []
        (operation []) st) λ a.
        limited_bind end _ _ (finish_limited end at cur (rec r.shape r.opcode 0 (2 ∷ [])) low (p ∷ []) []
        (operation []) a.1) λ b. tt

module _ (end at cur : ℕ) (r : Rec) (low : at < end) (env : Env) (kids : Kids)
    (limited : (c : ℕ) (e : Env) (s : State) → Limited end (kids c e s)) where
  field_limited : (ks : List ℕ) (st : State) → Limited end (intern_field at cur r env kids ks st)
  unfolding intern_field
  field_limited ks st = go (eqb i 1 || eqb i 2) (eqb (sym_at st.syms (last ks)).rec.shape 16)
    where
      i : ℕ
      i = get_or r.lit 0 0

      go : (b c : Bool) → Limited {A = ℕ × State} end (elim b as (λ z. Out) [
        | false ↦ finish at cur r ks [] (operation []) st
        | true ↦ elim c [
          | false ↦ pair_projection at cur r i (last ks) st
          | true ↦ intern_general at cur r (kids cur env st)
        ]
      ])
      go false c = finish_limited end at cur r low ks [] (operation []) st
      go true false = projection_limited end at cur r low i (last ks) st
      go true true = general_limited end at cur r low (kids cur env st) (limited cur env st)

  kind_limited : (k : Kind) (st : State) → Limited end (intern_kind k at cur r env kids st)
  unfolding intern_kind intern_last intern_func
  kind_limited val_use st = tt
  kind_limited val_def st = limited_bind end (kids cur env st) _ (limited cur env st) λ os. tt
  kind_limited block st = limited_bind end (kids cur env st) _ (limited cur env st) λ os. tt
  kind_limited lambda st =
      limited_bind end _ _ (args_limited end at cur r low (args_of r.aux r.lit) st) λ md.
      limited_bind end _ _ (limited _ _ _) λ os. finish_limited end at cur r low os.0 md.0 _ os.2
  kind_limited field st = limited_bind end (kids cur env st) _ (limited cur env st) λ os. field_limited os.0 os.2
  kind_limited other st = general_limited end at cur r low (kids cur env st) (limited cur env st)

scoped_limited : (end : ℕ) (b : Bool) (cur : ℕ) (child : ℕ → State → Out) (st : State) →
    ((c : ℕ) (s : State) → Limited end (child c s)) →
    Limited end (intern_scoped b cur child st)
unfolding intern_scoped
scoped_limited end false cur child st k = k cur st
scoped_limited end true cur child st k = limited_bind end _ _ (k _ _) λ o. tt

-- ---- trees

mutual
  unfolding intern size

  intern_limited : (t : Tree) (end at cur : ℕ) (env : Env) (st : State) → at + size t ≤ end →
      Limited end (intern t at cur env st)
  intern_limited (node r ts) end at cur env st l =
      limited_guard end (ltb st.readings 2048) 11 at _ (inl refl) (omega arith)
      (kind_limited end at cur r (omega arith) env _
      (λ c e s. all_limited ts end r.opcode 0 (suc at) c e s (omega arith)) (kind r.shape) (read st))

  all_limited : (ts : Trees) (end op j at cur : ℕ) (env : Env) (st : State) → at + sizes ts ≤ end →
      Limited end (intern_all ts op j at cur env st)
  all_limited nil end op j at cur env st l = tt
  all_limited (cons t ts) end op j at cur env st l =
      limited_bind end _ _ (scoped_limited end (thunked op j) cur (λ c s. intern t at c env s) st
      (λ c s. intern_limited t end at c env s (omega arith))) λ o.
      limited_bind end _ _ (all_limited ts end op (suc j) (at + size t) cur (bind_def t o.0 env) o.1
      (omega arith)) λ os. tt

pub forest_limited : (ts : Trees) → Limited (sizes ts) (intern_forest ts)
unfolding intern_forest
forest_limited ts = all_limited ts (sizes ts) 0 0 0 0 [] start (omega arith)
