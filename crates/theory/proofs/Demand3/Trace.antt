-- Interning is interning without limits (model, Trace), with the limits put on its log: `limited`; the readings and
-- symbols that a state counts are those of the log: `forest_follows`.
-- In order: interning with its limits; limits put on a log; answers that follow a log; each step of interning; trees.
-- Assumes nothing.
use mathlib.Core.Path.{◌≡◌, refl, ap, ◌∙◌}
use mathlib.Core.Bool.{Bool, true, false, ◌||◌}
use Rattle.std.specs.Prelude.{Option, None, Some}
use mathlib.Core.List.{List, [], ◌∷◌, ◌++◌}
use Prim.Native.Nat.{ℕ, suc, ◌+◌}
use native.Mathlib.Omega.{arith}
use lib.Dec.{eqb, ltb}
use lib.ListN.{length, get_or, length-append}
use Rattle.model.specs.Lists.{last, without}
use Rattle.model.specs.Answer.{Answer, good, ◌>>=◌, guard}
use Rattle.model.specs.Tree.{Rec, rec, Tree, Trees, node, nil, cons, size}
use Rattle.model.specs.Forest.{trees_of}
use Rattle.model.specs.Opcodes.{Tuple}
use Rattle.model.specs.Binding.{Kind, kind, val_use, val_def, block, lambda, field, other, args_of}
use Rattle.model.specs.Intern.{Node, operation, argument, State, Out, Outs, Env, Kids, sym_at, start, read, alloc, push}
use Rattle.model.specs.Intern.{lookup, union_deps, finish, alloc_args, recall, new_projections, pair_projection, pick}
use Rattle.model.specs.Intern.{node_of, intern_last, intern_general, intern_field, intern_func, intern_kind, intern_scoped}
use Rattle.model.specs.Intern.{bind_def, thunked, intern, intern_all, intern_forest}
use Rattle.model.specs.Trace.{Event, read_at, made_at, readings, symbols, Logged, pure, note, Out', Outs', Kids'}
use Rattle.model.specs.Trace.{◌>>=◌ as ◌then◌}
use Rattle.model.specs.Trace.{alloc', finish', alloc_args', intern_scoped', new_projections', pair_projection'}
use Rattle.model.specs.Trace.{intern_last', intern_general', intern_field', intern_func', intern_kind', intern'}
use Rattle.model.specs.Trace.{intern_all', intern_forest', traced}

-- ---- interning with its limits

-- the root's symbol and the symbols and scopes of the forest, or the refusal that interning meets
abbrev pub interning : List ℕ → Out
interning forest = intern_last (intern_forest (trees_of forest))

-- ---- limits put on a log

-- the answer that follows some events, after so many readings and symbols
unfoldable pub cut : {A : Type 0} → ℕ → ℕ → List Event → Answer A → Answer A
cut r s [] a = a
cut r s (read_at p ∷ es) a = guard (ltb r 2048) 11 p (cut (suc r) s es a)
cut r s (made_at p ∷ es) a = guard (ltb s 512) 12 p (cut r (suc s) es a)

guard_bind : {A B : Type 0} (b : Bool) (n p : ℕ) (m : Answer A) (f : A → Answer B) →
    (guard b n p m >>= f) ≡ guard b n p (m >>= f)
unfolding guard ◌>>=◌
guard_bind true n p m f = refl
guard_bind false n p m f = refl

cut_bind : {A B : Type 0} (r s : ℕ) (es : List Event) (m : Answer A) (f : A → Answer B) →
    (cut r s es m >>= f) ≡ cut r s es (m >>= f)
unfolding cut
cut_bind r s [] m f = refl
cut_bind r s (read_at p ∷ es) m f =
    guard_bind (ltb r 2048) 11 p _ f ∙ ap (guard (ltb r 2048) 11 p) (cut_bind (suc r) s es m f)
cut_bind r s (made_at p ∷ es) m f =
    guard_bind (ltb s 512) 12 p _ f ∙ ap (guard (ltb s 512) 12 p) (cut_bind r (suc s) es m f)

cut_append : {A : Type 0} (r s : ℕ) (es fs : List Event) (m : Answer A) →
    cut r s es (cut (r + readings es) (s + symbols es) fs m) ≡ cut r s (es ++ fs) m
unfolding cut
cut_append r s [] fs m =
    let e : r + 0 ≡ r = omega arith in let f : s + 0 ≡ s = omega arith in rw (e, f) refl
cut_append r s (read_at p ∷ es) fs m =
    let e : r + suc (readings es) ≡ suc r + readings es = omega arith in
    rw e (ap (guard (ltb r 2048) 11 p) (cut_append (suc r) s es fs m))
cut_append r s (made_at p ∷ es) fs m =
    let e : s + suc (symbols es) ≡ suc s + symbols es = omega arith in
    rw e (ap (guard (ltb s 512) 12 p) (cut_append r (suc s) es fs m))

readings-append : (es fs : List Event) → readings (es ++ fs) ≡ readings es + readings fs
readings-append [] fs = omega arith
readings-append (read_at p ∷ es) fs = omega (arith, readings-append es fs)
readings-append (made_at p ∷ es) fs = omega (arith, readings-append es fs)

symbols-append : (es fs : List Event) → symbols (es ++ fs) ≡ symbols es + symbols fs
symbols-append [] fs = omega arith
symbols-append (read_at p ∷ es) fs = omega (arith, symbols-append es fs)
symbols-append (made_at p ∷ es) fs = omega (arith, symbols-append es fs)

-- ---- answers that follow a log

-- from r readings and s symbols on, the answer is the log's with the limits put on it, and the log counts the readings
-- and symbols of the state that its value has
pub record Follows {A : Type 0} (end : A → State) (r s : ℕ) (m : Answer A) (l : Logged A) : Type 0 where
  pub same : m ≡ cut r s l.log (good l.value)
  pub read_so : (end l.value).readings ≡ r + readings l.log
  pub made_so : length (end l.value).syms ≡ s + symbols l.log

abbrev pub of_out : ℕ × State → State
of_out o = o.1

abbrev of_outs : List ℕ × List ℕ × State → State
of_outs os = os.2

-- an answer from state st on
abbrev Sym : State → Out → Out' → Type 0
Sym st = Follows of_out st.readings (length st.syms)

abbrev Syms : State → Outs → Outs' → Type 0
Syms st = Follows of_outs st.readings (length st.syms)

follows_good : {A : Type 0} (end : A → State) (r s : ℕ) (a : A) → (end a).readings ≡ r → length (end a).syms ≡ s →
    Follows end r s (good a) (pure a)
unfolding cut
follows_good end r s a e f = record { same = refl; read_so = omega arith; made_so = omega arith }

follows_bind : {A B : Type 0} (end : A → State) (fin : B → State) (r s : ℕ) (m : Answer A) (l : Logged A)
    (f : A → Answer B) (g : A → Logged B) → Follows end r s m l →
    ((a : A) → Follows fin (end a).readings (length (end a).syms) (f a) (g a)) →
    Follows fin r s (m >>= f) (l then g)
unfolding ◌>>=◌
follows_bind {A} end fin r s m l f g h k =
    let a : A = l.value in
    let w = k a in
    record {
      same =
          ap (λ z. z >>= f) h.same ∙ cut_bind r s l.log (good a) f ∙
          ap (cut r s l.log) (w.same ∙ rw (h.read_so, h.made_so) refl) ∙
          cut_append r s l.log (g a).log (good (g a).value);
      read_so = omega (arith, w.read_so, h.read_so, readings-append l.log (g a).log);
      made_so = omega (arith, w.made_so, h.made_so, symbols-append l.log (g a).log);
    }

follows_read : {A : Type 0} (end : A → State) (r s p : ℕ) (m : Answer A) (l : Logged A) →
    Follows end (suc r) s m l → Follows end r s (guard (ltb r 2048) 11 p m) (note (read_at p) l)
unfolding cut
follows_read end r s p m l h = record {
  same = ap (guard (ltb r 2048) 11 p) h.same;
  read_so = omega (arith, h.read_so);
  made_so = h.made_so;
}

follows_made : {A : Type 0} (end : A → State) (r s p : ℕ) (m : Answer A) (l : Logged A) →
    Follows end r (suc s) m l → Follows end r s (guard (ltb s 512) 12 p m) (note (made_at p) l)
unfolding cut
follows_made end r s p m l h = record {
  same = ap (guard (ltb s 512) 12 p) h.same;
  read_so = h.read_so;
  made_so = omega (arith, h.made_so);
}

-- ---- the steps of interning

module _ (at cur : ℕ) (r : Rec) where
  alloc_follows : (ks deps : List ℕ) (b : Bool) (nd : Node) (st : State) →
      Sym st (alloc at cur r ks deps b nd st) (alloc' at cur r ks deps b nd st)
  unfolding alloc alloc' push
  alloc_follows ks deps b nd st =
      follows_made of_out _ _ at _ _ (follows_good of_out _ _ _ refl (simp length-append (omega arith)))

  finish_follows : (ks own : List ℕ) (nd : Node) (st : State) →
      Sym st (finish at cur r ks own nd st) (finish' at cur r ks own nd st)
  unfolding finish finish'
  finish_follows ks own nd st = go (lookup st.syms r ks st.tables)
    where
      deps : List ℕ
      deps = without (union_deps st.syms ks) own

      go : (f : Option ℕ) → Sym st
          (elim f as (λ z. Out) [ Some i ↦ good (i, st) | None ↦ alloc at cur r ks deps true nd st ])
          (elim f as (λ z. Out') [ Some i ↦ pure (i, st) | None ↦ alloc' at cur r ks deps true nd st ])
      go (Some i) = follows_good of_out _ _ (i, st) refl refl
      go None = alloc_follows ks deps true nd st

  args_follow : (xs : List (ℕ × List ℕ)) (st : State) → Syms st (alloc_args at cur r xs st) (alloc_args' at cur r xs st)
  unfolding alloc_args alloc_args'
  args_follow [] st = follows_good of_outs _ _ ([], [], st) refl refl
  args_follow (a ∷ xs) st =
      follows_bind of_out of_outs _ _ _ _ _ _ (alloc_follows [] (length st.syms ∷ []) false argument st) λ o.
      follows_bind of_outs of_outs _ _ _ _ _ _ (args_follow xs o.1) λ os. follows_good of_outs _ _ _ refl refl

  general_follows : (st : State) (m : Outs) (l : Outs') → Syms st m l →
      Sym st (intern_general at cur r m) (intern_general' at cur r l)
  unfolding intern_general intern_general'
  general_follows st m l h =
      follows_bind of_outs of_out _ _ m l _ _ h λ os. finish_follows os.0 [] (node_of r os.1) os.2

projection_follows : (at cur : ℕ) (r : Rec) (i p : ℕ) (st : State) →
    Sym st (pair_projection at cur r i p st) (pair_projection' at cur r i p st)
unfolding pair_projection new_projections pair_projection' new_projections'
projection_follows at cur r i p st = go (recall st.memo p)
  where
    go : (f : Option (ℕ × ℕ)) → Sym st
        (elim f as (λ z. Out) [ Some ab ↦ good (pick i ab, st) | None ↦ new_projections at cur r i p st ])
        (elim f as (λ z. Out') [ Some ab ↦ pure (pick i ab, st) | None ↦ new_projections' at cur r i p st ])
    go (Some ab) = follows_good of_out _ _ (pick i ab, st) refl refl
    go None =
        follows_bind of_out of_out _ _ _ _ _ _ (finish_follows at cur (rec r.shape r.opcode 0 (1 ∷ [])) (p ∷ []) []
        (operation []) st) λ a.
        follows_bind of_out of_out _ _ _ _ _ _ (finish_follows at cur (rec r.shape r.opcode 0 (2 ∷ [])) (p ∷ []) []
        (operation []) a.1) λ b. follows_good of_out _ _ _ refl refl

last_follows : (st : State) (m : Outs) (l : Outs') → Syms st m l → Sym st (intern_last m) (intern_last' l)
unfolding intern_last intern_last'
last_follows st m l h = follows_bind of_outs of_out _ _ m l _ _ h λ os. follows_good of_out _ _ _ refl refl

module _ (at cur : ℕ) (r : Rec) (env : Env) (kids : Kids) (kids' : Kids')
    (follow : (c : ℕ) (e : Env) (s : State) → Syms s (kids c e s) (kids' c e s)) where
  field_follows : (ks : List ℕ) (st : State) →
      Sym st (intern_field at cur r env kids ks st) (intern_field' at cur r env kids' ks st)
  unfolding intern_field intern_field'
  field_follows ks st = go (eqb i 1 || eqb i 2) (eqb (sym_at st.syms (last ks)).rec.shape Tuple)
    where
      i : ℕ
      i = get_or r.lit 0 0

      go : (b c : Bool) → Sym st
          (elim b as (λ z. Out) [
            | false ↦ finish at cur r ks [] (operation []) st
            | true ↦ elim c [
              | false ↦ pair_projection at cur r i (last ks) st
              | true ↦ intern_general at cur r (kids cur env st)
            ]
          ])
          (elim b as (λ z. Out') [
            | false ↦ finish' at cur r ks [] (operation []) st
            | true ↦ elim c [
              | false ↦ pair_projection' at cur r i (last ks) st
              | true ↦ intern_general' at cur r (kids' cur env st)
            ]
          ])
      go false c = finish_follows at cur r ks [] (operation []) st
      go true false = projection_follows at cur r i (last ks) st
      go true true = general_follows at cur r st (kids cur env st) (kids' cur env st) (follow cur env st)

  kind_follows : (k : Kind) (st : State) → Sym st (intern_kind k at cur r env kids st) (intern_kind' k at cur r env kids' st)
  unfolding intern_kind intern_func intern_kind' intern_func'
  kind_follows val_use st = follows_good of_out _ _ _ refl refl
  kind_follows val_def st = last_follows st _ _ (follow cur env st)
  kind_follows block st = last_follows st _ _ (follow cur env st)
  kind_follows lambda st =
      follows_bind of_outs of_out _ _ _ _ _ _ (args_follow at cur r (args_of r.aux r.lit) st) λ md.
      follows_bind of_outs of_out _ _ _ _ _ _ (follow _ _ _) λ os. finish_follows at cur r os.0 md.0 _ os.2
  kind_follows field st =
      follows_bind of_outs of_out _ _ _ _ _ _ (follow cur env st) λ os. field_follows os.0 os.2
  kind_follows other st = general_follows at cur r st _ _ (follow cur env st)

scoped_follows : (b : Bool) (cur : ℕ) (child : ℕ → State → Out) (child' : ℕ → State → Out') (st : State) →
    ((c : ℕ) (s : State) → Sym s (child c s) (child' c s)) →
    Sym st (intern_scoped b cur child st) (intern_scoped' b cur child' st)
unfolding intern_scoped intern_scoped'
scoped_follows false cur child child' st k = k cur st
scoped_follows true cur child child' st k =
    follows_bind of_out of_out _ _ _ _ _ _ (k _ _) λ o. follows_good of_out _ _ _ refl refl

-- ---- trees

mutual
  unfolding intern intern'

  intern_follows : (t : Tree) (at cur : ℕ) (env : Env) (st : State) →
      Sym st (intern t at cur env st) (intern' t at cur env st)
  intern_follows (node r ts) at cur env st =
      follows_read of_out _ _ at _ _ (kind_follows at cur r env _ _
      (λ c e s. all_follow ts r.opcode 0 (suc at) c e s) (kind r.shape) (read st))

  all_follow : (ts : Trees) (op j at cur : ℕ) (env : Env) (st : State) →
      Syms st (intern_all ts op j at cur env st) (intern_all' ts op j at cur env st)
  all_follow nil op j at cur env st = follows_good of_outs _ _ _ refl refl
  all_follow (cons t ts) op j at cur env st =
      follows_bind of_out of_outs _ _ _ _ _ _ (scoped_follows (thunked op j) cur (λ c s. intern t at c env s)
      (λ c s. intern' t at c env s) st (λ c s. intern_follows t at c env s)) λ o.
      follows_bind of_outs of_outs _ _ _ _ _ _ (all_follow ts op (suc j) (at + size t) cur (bind_def t o.0 env) o.1)
      λ os. follows_good of_outs _ _ _ refl refl

pub forest_follows : (forest : List ℕ) → Follows of_out 0 0 (interning forest) (traced forest)
unfolding intern_forest intern_forest' traced start
forest_follows forest = last_follows start _ _ (all_follow (trees_of forest) 0 0 0 0 [] start)

-- interning is its log with the limits put on it
pub limited : (forest : List ℕ) → interning forest ≡ cut 0 0 (traced forest).log (good (traced forest).value)
limited forest = (forest_follows forest).same
