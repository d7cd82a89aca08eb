-- A record read again, by its kind, if its children can be (`kind_rereads`): where no scope was added, the same symbol
-- comes of it in every later state.
-- In order: symbols and bindings; what a reading owes; a record of a key; a SelectField; a lambda, which adds a scope;
-- all kinds.
-- Assumes nothing.
use mathlib.Core.Path.{◌≡◌, refl, ap, sym, ◌∙◌, subst}
use mathlib.Core.Bool.{Bool, true, false, ◌||◌}
use Rattle.std.specs.Prelude.{Some}
use mathlib.Core.List.{List, [], ◌∷◌}
use Prim.Native.Nat.{ℕ, ◌≤◌, ◌<◌}
use native.Mathlib.Omega.{arith}
use lib.Dec.{eqb, ltb}
use lib.ListN.{length, get_or, get_or-eq_default}
use borrow.Author.Tests.{ltb-true, ltb-false}
use Rattle.model.specs.Lists.{last}
use Rattle.model.specs.Tree.{Rec, Tree, top}
use Rattle.model.specs.Binding.{Kind, kind, val_use, val_def, block, lambda, field, other, is_def, id_of, args_of}
use Rattle.model.specs.Intern.{Node, func, operation, Sym, State, Out, Outs, Env, Kids, sym_at, no_sym, resolve}
use Rattle.model.specs.Intern.{finish, alloc_args, with_opts, bind_args, bind_def, open_scope, pair_projection}
use Rattle.model.specs.Intern.{node_of, intern_last, intern_general, intern_field, intern_func, intern_kind}
use Rattle.laws.proofs.Apart.{false_true}
use Rattle.laws.proofs.Walks.{if_holds}
use Rattle.laws.proofs.Holds.{Holds, holds_bind, holds_map}
use Rattle.theory.proofs.Acceptance.Records.{kind_shape}
use Rattle.theory.specs.Good.{sym_count, scope_count}
use Rattle.theory.proofs.Bounds.Steps.{open_more}
use Rattle.theory.proofs.Interning.Fresh.{AllMade, alloc_args_keeps}
use Rattle.theory.proofs.Interning.Reread.Later.{Tabled, Low, later_none, Calm, calm_still, calm_as}
use Rattle.theory.proofs.Interning.Reread.Later.{calm_then, calm_map}
use Rattle.theory.proofs.Interning.Reread.Finds.{Found, finish_found, found_low, finish_calm}
use Rattle.theory.proofs.Interning.Reread.Projections.{is_tuple, Paired, pair_calm}

-- ---- symbols and bindings

-- ids stand for symbols, of n
abbrev pub EnvFits : Env → ℕ → Type 0
EnvFits env n = (i : ℕ) → Low n (resolve env i)

pub fits_more : (env : Env) (n m : ℕ) → n ≤ m → EnvFits env n → EnvFits env m
fits_more env n m l h i = omega (arith, h i)

pub fits_def : (t : Tree) (x : ℕ) (env : Env) (n : ℕ) → Low n x → EnvFits env n → EnvFits (bind_def t x env) n
unfolding bind_def resolve
fits_def t x env n l h =
    if_holds (λ e. EnvFits e n) (is_def t) ((id_of (top t), x) ∷ env) env
    (λ i. if_holds (Low n) (eqb (id_of (top t)) i) x (resolve env i) l (h i)) h

-- ---- what a reading owes

-- step f led from s to o, and can be taken again
pub record CalmOne (f : State → Out) (s : State) (o : ℕ × State) : Type 0 where
  pub calm : Calm f s o.1 (λ v. (o.0, v))
  pub low : Low (sym_count o.1) o.0

pub record CalmAll (f : State → Outs) (s : State) (os : List ℕ × List ℕ × State) : Type 0 where
  pub calm : Calm f s os.2 (λ v. (os.0, os.1, v))
  pub low : Low (sym_count os.2) (last os.0)
  pub no_thunks : os.1 ≡ []

-- no scope goes; where none comes, and P holds before, the step can be taken again
pub record Rereads (P : Type 0) (f : State → Out) (s : State) (o : ℕ × State) : Type 0 where
  pub rises : scope_count s ≤ scope_count o.1
  pub calm : P → Tabled s → scope_count o.1 ≡ scope_count s → CalmOne f s o

pub record RereadsAll (P : Type 0) (f : State → Outs) (s : State) (os : List ℕ × List ℕ × State) : Type 0 where
  pub rises : scope_count s ≤ scope_count os.2
  pub calm : P → Tabled s → scope_count os.2 ≡ scope_count s → CalmAll f s os

-- the children of a record, read from any state
abbrev pub KidsReread : Kids → Type 0
KidsReread kids =
    (cur : ℕ) (env : Env) (s : State) → Holds (RereadsAll (EnvFits env (sym_count s)) (λ v. kids cur env v) s)
    (kids cur env s)

-- a step that adds a scope is not asked for
more_rereads : (P : Type 0) (f : State → Out) (s : State) (o : ℕ × State) → scope_count s < scope_count o.1 →
    Rereads P f s o
more_rereads P f s o l = record { rises = omega arith; calm = λ p h e. absurd (omega arith) }

-- ---- a record of a key

module _ (P : Type 0) (m : State → Outs) (s : State) (h : Holds (RereadsAll P m s) (m s)) where
  last_rereads : Holds (Rereads P (λ v. intern_last (m v)) s) (intern_last (m s))
  unfolding intern_last
  last_rereads =
      holds_bind (RereadsAll P m s) (Rereads P (λ v. intern_last (m v)) s) (m s) _ h λ os w.
      record {
        rises = w.rises;
        calm = λ p t e.
            let c = w.calm p t e in
            record {
              calm = calm_map (λ (os : List ℕ × List ℕ × State). (last os.0, os.2)) c.calm;
              low = c.low;
            };
      }

  general_rereads : (at cur : ℕ) (r : Rec) →
      Holds (Rereads P (λ v. intern_general at cur r (m v)) s) (intern_general at cur r (m s))
  unfolding intern_general
  general_rereads at cur r =
      holds_bind (RereadsAll P m s) (Rereads P (λ v. intern_general at cur r (m v)) s) (m s) _ h λ os w.
      holds_map (Found os.2 r os.0) (Rereads P (λ v. intern_general at cur r (m v)) s)
      (finish at cur r os.0 [] (node_of r os.1) os.2)
      (finish_found at cur r os.0 [] (node_of r os.1) os.2) λ o v.
      record {
        rises = omega (arith, w.rises, ap length v.scopes_are);
        calm = λ p t e.
            let c = w.calm p t (omega (arith, w.rises, ap length v.scopes_are)) in
            record {
              calm = calm_then
                  (λ (os : List ℕ × List ℕ × State). finish at cur r os.0 [] (node_of r os.1) os.2) c.calm
                  (finish_calm os.2 r os.0 o c.calm.tabled v at cur [] (node_of r os.1));
              low = omega (arith, found_low os.2 r os.0 o c.calm.tabled v);
            };
      }

-- ---- a SelectField whose input has been read

-- a Tuple is a symbol
tuple_low : (s : State) (p : ℕ) → is_tuple s p ≡ true → p < sym_count s
tuple_low s p e = go (ltb p (sym_count s)) refl
  where
    go : (b : Bool) → ltb p (sym_count s) ≡ b → p < sym_count s
    go true t = ltb-true p (sym_count s) t
    go false t =
        let l : sym_count s ≤ p = omega (arith, ltb-false p (sym_count s) t) in
        let y : sym_at s.syms p ≡ no_sym = get_or-eq_default s.syms no_sym l in
        false_true (ap (λ (y : Sym). eqb y.rec.shape 16) (sym y) ∙ e)

module _ (at cur : ℕ) (r : Rec) (env : Env) (kids : Kids) (ks : List ℕ) where
  abbrev number : ℕ
  number = get_or r.lit 0 0

  abbrev numbered : Bool
  numbered = eqb number 1 || eqb number 2

  abbrev reads : State → Out
  reads v = intern_field at cur r env kids ks v

  -- its three cases
  field_by : (s : State) (a b : Bool) → numbered ≡ a → is_tuple s (last ks) ≡ b → reads s ≡ elim a [
    | false ↦ finish at cur r ks [] (operation []) s
    | true ↦ elim b [
      | false ↦ pair_projection at cur r number (last ks) s
      | true ↦ intern_general at cur r (kids cur env s)
    ]
  ]
  unfolding intern_field
  field_by s a b e f =
      ap (λ (a : Bool). when a (is_tuple s (last ks))) e ∙ ap (when a) f
    where
      when : Bool → Bool → Out
      when a b = elim a [
        | false ↦ finish at cur r ks [] (operation []) s
        | true ↦ elim b [
          | false ↦ pair_projection at cur r number (last ks) s
          | true ↦ intern_general at cur r (kids cur env s)
        ]
      ]

  abbrev Before : State → Type 0
  Before s = EnvFits env (sym_count s) × Low (sym_count s) (last ks)

  -- a field that is neither 1 nor 2
  far_rereads : (s : State) → numbered ≡ false → Holds (Rereads (Before s) reads s) (reads s)
  far_rereads s e =
      subst (λ (m : Out). Holds (Rereads (Before s) reads s) m) (sym (field_by s false (is_tuple s (last ks)) e refl))
      (holds_map (Found s r ks) (Rereads (Before s) reads s) (finish at cur r ks [] (operation []) s)
      (finish_found at cur r ks [] (operation []) s) λ o w. record {
        rises = omega (arith, ap length w.scopes_are);
        calm = λ p t f. record {
          calm = calm_as
              (λ u l. field_by u false (is_tuple u (last ks)) e refl)
              (finish_calm s r ks o t w at cur [] (operation []));
          low = omega (arith, found_low s r ks o t w);
        };
      })

  -- field 1 or 2 of no Tuple
  pair_rereads : (s : State) → numbered ≡ true → eqb r.shape 16 ≡ false → is_tuple s (last ks) ≡ false →
      Holds (Rereads (Before s) reads s) (reads s)
  pair_rereads s e shape n =
      subst (λ (m : Out). Holds (Rereads (Before s) reads s) m) (sym (field_by s true false e n))
      (holds_map (Paired at cur r number (last ks) s) (Rereads (Before s) reads s)
      (pair_projection at cur r number (last ks) s) (pair_calm at cur r number (last ks) s) λ o w. record {
        rises = omega (arith, ap length w.scopes_are);
        calm = λ p t f. record {
          calm = calm_as
              (λ u l. field_by u true false e
              (ap (λ (y : Sym). eqb y.rec.shape 16) (sym (l.same (last ks) (w.there t p.1)))
              ∙ w.shape t p.1 shape n))
              (w.calm t);
          low = omega (arith, w.low t);
        };
      })

  -- field 1 or 2 of a Tuple: the input is read a second time
  tuple_rereads : (s : State) → numbered ≡ true → is_tuple s (last ks) ≡ true → KidsReread kids →
      Holds (Rereads (Before s) reads s) (reads s)
  tuple_rereads s e n keep =
      subst (λ (m : Out). Holds (Rereads (Before s) reads s) m) (sym (field_by s true true e n))
      (holds_map (Rereads (EnvFits env (sym_count s)) (λ v. intern_general at cur r (kids cur env v)) s)
      (Rereads (Before s) reads s) (intern_general at cur r (kids cur env s))
      (general_rereads (EnvFits env (sym_count s)) (λ v. kids cur env v) s (keep cur env s) at cur r) λ o w. record {
        rises = w.rises;
        calm = λ p t f.
            let c = w.calm p.0 t f in
            let y = c.calm.later.same (last ks) (tuple_low s (last ks) n) in
            let low : last ks < sym_count o.1 = omega (arith, tuple_low s (last ks) n, c.calm.later.more) in
            record {
              calm = calm_as
                  (λ u l. field_by u true true e
                  (ap (λ (y : Sym). eqb y.rec.shape 16) (sym (y ∙ l.same (last ks) low)) ∙ n))
                  c.calm;
              low = c.low;
            };
      })

  field_rereads : (s : State) → eqb r.shape 16 ≡ false → KidsReread kids →
      Holds (Rereads (Before s) reads s) (reads s)
  field_rereads s shape keep = go numbered (is_tuple s (last ks)) refl refl
    where
      go : (a b : Bool) → numbered ≡ a → is_tuple s (last ks) ≡ b → Holds (Rereads (Before s) reads s) (reads s)
      go false b e n = far_rereads s e
      go true false e n = pair_rereads s e shape n
      go true true e n = tuple_rereads s e n keep

-- ---- a lambda

args_scopes : (at cur : ℕ) (r : Rec) (xs : List (ℕ × List ℕ)) (s : State) →
    Holds (λ (os : List ℕ × List ℕ × State). os.2.scopes ≡ s.scopes) (alloc_args at cur r xs s)
args_scopes at cur r xs s =
    holds_map (AllMade cur xs s []) (λ (os : List ℕ × List ℕ × State). os.2.scopes ≡ s.scopes)
    (alloc_args at cur r xs s) (alloc_args_keeps at cur r xs s []) λ os h. h.2

-- its body's scope is there for good
lambda_rises : (at cur : ℕ) (r : Rec) (env : Env) (kids : Kids) (s : State) → KidsReread kids →
    Holds (λ (o : ℕ × State). scope_count s < scope_count o.1) (intern_func at cur r env kids s)
unfolding intern_func
lambda_rises at cur r env kids s keep =
    let xs : List (ℕ × List ℕ) = args_of r.aux r.lit in
    let More : ℕ × State → Type 0 = λ (o : ℕ × State). scope_count s < scope_count o.1 in
    holds_bind (λ (os : List ℕ × List ℕ × State). os.2.scopes ≡ s.scopes) More _ _ (args_scopes at cur r xs s)
    λ made e.
    let sc : ℕ = scope_count made.2 in
    let inner : State = open_scope cur (Some made.0) made.2.tables made.2 in
    holds_bind (RereadsAll _ (λ v. kids sc (bind_args xs made.0 env) v) inner) More _ _
    (keep sc (bind_args xs made.0 env) inner) λ os w.
    let nd : Node = func (with_opts xs made.0) sc in
    holds_map (Found os.2 r os.0) More (finish at cur r os.0 made.0 nd os.2)
    (finish_found at cur r os.0 made.0 nd os.2) λ o v.
    let one = open_more cur (Some made.0) made.2.tables made.2 in
    omega (arith, ap length e, one, w.rises, ap length v.scopes_are)

-- ---- all kinds

module _ (at cur : ℕ) (r : Rec) (env : Env) (kids : Kids) (keep : KidsReread kids) where
  selects_rereads : (s : State) → eqb r.shape 16 ≡ false →
      Holds (Rereads (EnvFits env (sym_count s)) (λ v. intern_kind field at cur r env kids v) s)
      (intern_kind field at cur r env kids s)
  unfolding intern_kind
  selects_rereads s shape =
      let P : Type 0 = EnvFits env (sym_count s) in
      let F : State → Out = λ v. intern_kind field at cur r env kids v in
      holds_bind (RereadsAll P (λ v. kids cur env v) s) (Rereads P F s) (kids cur env s) _ (keep cur env s) λ os w.
      let G : State → Out = λ v. intern_field at cur r env kids os.0 v in
      holds_map (Rereads (Before at cur r env kids os.0 os.2) G os.2) (Rereads P F s) (G os.2)
      (field_rereads at cur r env kids os.0 os.2 shape keep) λ o v. record {
        rises = omega (arith, w.rises, v.rises);
        calm = λ p t e.
            let c = w.calm p t (omega (arith, w.rises, v.rises)) in
            let d = v.calm (fits_more env (sym_count s) (sym_count os.2) c.calm.later.more p, c.low)
            c.calm.tabled (omega (arith, w.rises, v.rises)) in
            record {
              calm = calm_then (λ (os : List ℕ × List ℕ × State). intern_field at cur r env kids os.0 os.2)
                  c.calm d.calm;
              low = d.low;
            };
      }

  pub kind_rereads : (k : Kind) → kind r.shape ≡ k → (s : State) →
      Holds (Rereads (EnvFits env (sym_count s)) (λ v. intern_kind k at cur r env kids v) s)
      (intern_kind k at cur r env kids s)
  unfolding intern_kind
  kind_rereads val_use e s = record {
    rises = omega arith;
    calm = λ p t f. record {
      calm = calm_still refl t (later_none s) (λ u l. refl);
      low = p (id_of r);
    };
  }
  kind_rereads val_def e s = last_rereads (EnvFits env (sym_count s)) (λ v. kids cur env v) s (keep cur env s)
  kind_rereads block e s = last_rereads (EnvFits env (sym_count s)) (λ v. kids cur env v) s (keep cur env s)
  kind_rereads lambda e s =
      holds_map (λ (o : ℕ × State). scope_count s < scope_count o.1)
      (Rereads (EnvFits env (sym_count s)) (λ v. intern_func at cur r env kids v) s) (intern_func at cur r env kids s)
      (lambda_rises at cur r env kids s keep) λ o l.
      more_rereads (EnvFits env (sym_count s)) (λ v. intern_func at cur r env kids v) s o l
  kind_rereads field e s =
      selects_rereads s (rw (kind_shape r.shape field e).shape)
  kind_rereads other e s =
      general_rereads (EnvFits env (sym_count s)) (λ v. kids cur env v) s (keep cur env s) at cur r
