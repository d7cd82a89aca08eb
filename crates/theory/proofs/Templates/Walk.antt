-- Interning commutes with filling: `forest_fills`.
-- In order: an operand; trees, by induction; a forest.
-- Assumes nothing.
use mathlib.Core.Path.{◌≡◌, refl, ap, ap₂}
use mathlib.Core.Bool.{Bool, true, false}
use mathlib.Core.List.{List, [], ◌∷◌}
use Prim.Native.Nat.{ℕ, suc, ◌+◌}
use lib.Dec.{eqb, ltb}
use lib.ListN.{length}
use Rattle.model.specs.Answer.{good, ◌>>=◌}
use Rattle.model.specs.Tree.{Rec, Tree, Trees, node, nil, cons, size, sizes}
use Rattle.model.specs.Opcodes.{ValDef}
use Rattle.model.specs.Binding.{kind, id_of}
use Rattle.model.specs.Intern.{State, Out, Env, bind_def, thunked, open_thunk, close_thunk, drop_first, branch}
use Rattle.model.specs.Intern.{read, start, intern_scoped, intern_kind, intern, intern_all, intern_forest}
use Rattle.model.specs.Template.{Filling, fill_rec, fill_tree, fill_trees, fill_state, fill_interned, map_answer}
use Rattle.theory.proofs.Templates.Answers.{fills-is, fills-bind, fills-guard}
use Rattle.theory.proofs.Templates.Records.{other_stays, shape_other, ValuedTree, ValuedTrees}
use Rattle.theory.proofs.Templates.Keys.{Sound}
use Rattle.theory.proofs.Templates.Symbols.{fill_kids, SoundState, FillsOut, FillsOuts, out_outs, outs_outs, kind_fills}

module _ (f : Filling) where
  mutual
    unfolding size

    pub size_kept : (t : Tree) → size (fill_tree f t) ≡ size t
    size_kept (node r ts) = ap suc (sizes_kept ts)

    pub sizes_kept : (ts : Trees) → sizes (fill_trees f ts) ≡ sizes ts
    sizes_kept nil = refl
    sizes_kept (cons t ts) = ap₂ ◌+◌ (size_kept t) (sizes_kept ts)

  -- a definition binds the same id
  bind_def_kept : (t : Tree) (s : ℕ) (env : Env) → bind_def (fill_tree f t) s env ≡ bind_def t s env
  unfolding bind_def
  bind_def_kept (node r ts) s env = go (eqb r.shape ValDef) refl
    where
      go : (b : Bool) → eqb r.shape ValDef ≡ b → ◌≡◌ {A = Env}
          (elim b [ true ↦ (id_of (fill_rec f r), s) ∷ env | false ↦ env ])
          (elim b [ true ↦ (id_of r, s) ∷ env | false ↦ env ])
      go true e = ap (λ (z : Rec). (id_of z, s) ∷ env) (other_stays f r (shape_other r 9 e))
      go false e = refl

module _ (f : Filling) (v : ℕ → List ℕ) where
  -- ---- an operand

  close_sound : (st : State) → SoundState f v st → SoundState f v (close_thunk st)
  close_sound st h = go st.tables h
    where
      go : (ts : List (List ℕ)) → Sound f v st.syms ts → Sound f v st.syms (drop_first ts)
      go [] h = tt
      go (t ∷ ts) h = h.1

  scoped_fills : (b : Bool) (cur : ℕ) (child' child : ℕ → State → Out) (st : State) →
      ((c : ℕ) (s : State) → SoundState f v s → FillsOut f v (child' c (fill_state f s)) (child c s)) →
      SoundState f v st →
      FillsOut f v (intern_scoped b cur child' (fill_state f st)) (intern_scoped b cur child st)
  unfolding intern_scoped
  scoped_fills false cur child' child st w h = w cur st h
  scoped_fills true cur child' child st w h =
      fills-bind (fill_interned f) (λ o. SoundState f v o.1) (fill_interned f) (λ o. SoundState f v o.1) _
      (child (length st.scopes) (open_thunk cur st)) _ (λ o. good (o.0, close_thunk o.1))
      (w (length st.scopes) (open_thunk cur st) (tt, h)) λ o s. (refl, close_sound o.1 s)

  -- ---- trees

  mutual
    unfolding intern

    pub tree_fills : (t : Tree) (at cur : ℕ) (env : Env) (st : State) → ValuedTree v t → SoundState f v st →
        FillsOut f v (intern (fill_tree f t) at cur env (fill_state f st)) (intern t at cur env st)
    tree_fills (node r ts) at cur env st c h =
        fills-guard (fill_interned f) (λ o. SoundState f v o.1) (ltb st.readings 2048) 11 at _
        (intern_kind (kind r.shape) at cur r env (λ c e s. intern_all ts r.opcode 0 (suc at) c e s) (read st))
        (kind_fills f v at cur r env (λ c e s. intern_all (fill_trees f ts) r.opcode 0 (suc at) c e s)
        (λ c e s. intern_all ts r.opcode 0 (suc at) c e s)
        (λ u e s k. trees_fill ts r.opcode 0 (suc at) u e s c.1 k) (read st) c.0 h)

    pub trees_fill : (ts : Trees) (op j at cur : ℕ) (env : Env) (st : State) → ValuedTrees v ts →
        SoundState f v st →
        FillsOuts f v (intern_all (fill_trees f ts) op j at cur env (fill_state f st))
        (intern_all ts op j at cur env st)
    trees_fill nil op j at cur env st c h = (refl, h)
    trees_fill (cons t ts) op j at cur env st c h =
        out_outs f v _ (intern_scoped (thunked op j) cur (λ c s. intern t at c env s) st) _
        (λ o. intern_all ts op (suc j) (at + size t) cur (bind_def t o.0 env) o.1 >>=
        λ os. good (o.0 ∷ os.0, branch (thunked op j) (length st.scopes) os.1, os.2))
        (scoped_fills (thunked op j) cur (λ c s. intern (fill_tree f t) at c env s) (λ c s. intern t at c env s) st
        (λ u s k. tree_fills t at u env s c.0 k) h) λ o s.
        outs_outs f v _ (intern_all ts op (suc j) (at + size t) cur (bind_def t o.0 env) o.1) _
        (λ os. good (o.0 ∷ os.0, branch (thunked op j) (length st.scopes) os.1, os.2))
        (rw (size_kept f t, bind_def_kept f t o.0 env)
        (trees_fill ts op (suc j) (at + size t) cur (bind_def t o.0 env) o.1 c.1 s))
        λ os k. (refl, k)

  -- ---- a forest

  pub forest_fills : (ts : Trees) → ValuedTrees v ts → intern_forest (fill_trees f ts) ≡ map_answer (fill_kids f) (intern_forest ts)
  unfolding intern_forest start
  forest_fills ts c =
      fills-is (fill_kids f) (λ os. SoundState f v os.2) _ (intern_forest ts)
      (trees_fill ts 0 0 0 0 [] start c (tt, tt))
