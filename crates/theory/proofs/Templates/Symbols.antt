-- Interning's steps commute with filling: new symbols, the symbol of a key, projections, and a record by its kind if
-- its children do.
-- In order: readings that fill; new symbols; keys; projections; kinds of record.
-- Assumes nothing.
use mathlib.Core.Path.{◌≡◌, refl, ap, sym, subst, subst₂}
use mathlib.Core.Bool.{Bool, true, false, ◌||◌}
use Rattle.std.specs.Prelude.{Option, None, Some}
use mathlib.Core.List.{List, [], ◌∷◌, map, map-append}
use Prim.Native.Nat.{ℕ}
use native.Mathlib.Omega.{arith}
use lib.Dec.{eqb, ltb}
use lib.ListN.{length, get_or, length-map}
use Rattle.model.specs.Lists.{without, last}
use Rattle.model.specs.Answer.{good, ◌>>=◌}
use Rattle.model.specs.Tree.{Rec, rec}
use Rattle.model.specs.Opcodes.{Tuple}
use Rattle.model.specs.Binding.{Kind, kind, val_use, val_def, block, lambda, field, other, args_of}
use Rattle.model.specs.Intern.{Node, argument, func, operation, State, Out, Outs, Env, Kids, sym_at}
use Rattle.model.specs.Intern.{placement, lookup, union_deps, enter, push, alloc, finish, alloc_args, with_opts, bind_args}
use Rattle.model.specs.Intern.{open_scope, recall, remember, pick, new_projections, pair_projection, node_of, intern_last}
use Rattle.model.specs.Intern.{intern_general, intern_field, intern_func, intern_kind}
use Rattle.model.specs.Template.{is_parameter, Filling, fill_rec, fill_sym, fill_state, fill_interned}
use Rattle.theory.proofs.Templates.Answers.{Fills, fills-bind, fills-guard}
use Rattle.theory.proofs.Templates.Records.{Other, other_stays, Valued, other_valued}
use Rattle.theory.proofs.Templates.Records.{low_other, parameter_is}
use Rattle.theory.proofs.Templates.Keys.{at_kept, union_deps_kept, Sound, sound_more, sound_enter, lookup_kept}

-- the symbols of some children, the scopes of the thunks among them, and the state, filled
abbrev pub fill_kids : Filling → List ℕ × List ℕ × State → List ℕ × List ℕ × State
fill_kids f os = (os.0, os.1, fill_state f os.2)

module _ (f : Filling) (v : ℕ → List ℕ) where
  -- ---- readings that fill

  abbrev pub SoundState : State → Type 0
  SoundState st = Sound f v st.syms st.tables

  abbrev pub FillsOut : Out → Out → Type 0
  FillsOut m' m = Fills (fill_interned f) (λ o. SoundState o.1) m' m

  abbrev pub FillsOuts : Outs → Outs → Type 0
  FillsOuts m' m = Fills (fill_kids f) (λ os. SoundState os.2) m' m

  out-out : (m' m : Out) (k' k : ℕ × State → Out) → FillsOut m' m →
      ((o : ℕ × State) → SoundState o.1 → FillsOut (k' (fill_interned f o)) (k o)) → FillsOut (m' >>= k') (m >>= k)
  out-out = fills-bind (fill_interned f) (λ o. SoundState o.1) (fill_interned f) (λ o. SoundState o.1)

  pub out_outs : (m' m : Out) (k' k : ℕ × State → Outs) → FillsOut m' m →
      ((o : ℕ × State) → SoundState o.1 → FillsOuts (k' (fill_interned f o)) (k o)) → FillsOuts (m' >>= k') (m >>= k)
  out_outs = fills-bind (fill_interned f) (λ o. SoundState o.1) (fill_kids f) (λ os. SoundState os.2)

  outs_out : (m' m : Outs) (k' k : List ℕ × List ℕ × State → Out) → FillsOuts m' m →
      ((os : List ℕ × List ℕ × State) → SoundState os.2 → FillsOut (k' (fill_kids f os)) (k os)) →
      FillsOut (m' >>= k') (m >>= k)
  outs_out = fills-bind (fill_kids f) (λ os. SoundState os.2) (fill_interned f) (λ o. SoundState o.1)

  pub outs_outs : (m' m : Outs) (k' k : List ℕ × List ℕ × State → Outs) → FillsOuts m' m →
      ((os : List ℕ × List ℕ × State) → SoundState os.2 → FillsOuts (k' (fill_kids f os)) (k os)) →
      FillsOuts (m' >>= k') (m >>= k)
  outs_outs = fills-bind (fill_kids f) (λ os. SoundState os.2) (fill_kids f) (λ os. SoundState os.2)

  -- ---- new symbols

  push_fills : (cur : ℕ) (r : Rec) (ks deps : List ℕ) (shared : Bool) (nd : Node) (st : State) →
      push cur (fill_rec f r) ks deps shared nd (fill_state f st) ≡ fill_state f (push cur r ks deps shared nd st)
  unfolding push placement
  push_fills cur r ks deps shared nd st = λ i. record {
    syms = sym (map-append (fill_sym f) st.syms (record {
      rec = r;
      kids = ks;
      deps = deps;
      scope = placement st cur deps;
      node = nd;
    } ∷ [])) i;
    tables = elim shared as (λ z. List (List ℕ)) [
      | true ↦ enter (length-map st.syms (fill_sym f) i) st.tables
      | false ↦ st.tables
    ];
    scopes = st.scopes;
    memo = st.memo;
    readings = st.readings;
  }

  push_sound : (cur : ℕ) (r : Rec) (ks deps : List ℕ) (shared : Bool) (nd : Node) (st : State) →
      Valued v r → SoundState st → SoundState (push cur r ks deps shared nd st)
  unfolding push
  push_sound cur r ks deps true nd st k h = sound_enter f v st.syms _ st.tables k h
  push_sound cur r ks deps false nd st k h = sound_more f v st.syms _ st.tables h

  alloc_fills : (at cur : ℕ) (r : Rec) (ks deps : List ℕ) (shared : Bool) (nd : Node) (st : State) →
      Valued v r → SoundState st →
      FillsOut (alloc at cur (fill_rec f r) ks deps shared nd (fill_state f st)) (alloc at cur r ks deps shared nd st)
  unfolding alloc
  alloc_fills at cur r ks deps shared nd st k h =
      rw (length-map st.syms (fill_sym f))
      (fills-guard (fill_interned f) (λ o. SoundState o.1) (ltb (length st.syms) 512) 12 at _ _ (
        ap (λ (s : State). good (length st.syms, s)) (push_fills cur r ks deps shared nd st),
        push_sound cur r ks deps shared nd st k h,
      ))

  -- ---- keys

  pub finish_fills : (at cur : ℕ) (r : Rec) (ks own : List ℕ) (nd : Node) (st : State) → Valued v r →
      SoundState st → FillsOut (finish at cur (fill_rec f r) ks own nd (fill_state f st)) (finish at cur r ks own nd st)
  unfolding finish
  finish_fills at cur r ks own nd st k h =
      subst₂ (λ (m : Option ℕ) (us : List ℕ).
      FillsOut (body (fill_rec f r) (fill_state f st) m us)
      (body r st (lookup st.syms r ks st.tables) (union_deps st.syms ks)))
      (sym (lookup_kept f v st.syms r k ks st.tables h)) (sym (union_deps_kept f st.syms ks))
      (go (lookup st.syms r ks st.tables))
    where
      body : Rec → State → Option ℕ → List ℕ → Out
      body z s m us = elim m [ Some i ↦ good (i, s) | None ↦ alloc at cur z ks (without us own) true nd s ]

      go : (m : Option ℕ) →
          FillsOut (body (fill_rec f r) (fill_state f st) m (union_deps st.syms ks))
          (body r st m (union_deps st.syms ks))
      go (Some i) = (refl, h)
      go None = alloc_fills at cur r ks (without (union_deps st.syms ks) own) true nd st k h

  -- a record that is no parameter, as it stands
  finish_other : (at cur : ℕ) (r : Rec) (ks own : List ℕ) (nd : Node) (st : State) → Other r → SoundState st →
      FillsOut (finish at cur r ks own nd (fill_state f st)) (finish at cur r ks own nd st)
  finish_other at cur r ks own nd st o h =
      subst (λ (z : Rec). FillsOut (finish at cur z ks own nd (fill_state f st)) (finish at cur r ks own nd st))
      (other_stays f r o) (finish_fills at cur r ks own nd st (other_valued v r o) h)

  -- ---- a lambda's arguments

  alloc_args_fills : (at cur : ℕ) (r : Rec) (xs : List (ℕ × List ℕ)) (st : State) → Other r → SoundState st →
      FillsOuts (alloc_args at cur r xs (fill_state f st)) (alloc_args at cur r xs st)
  unfolding alloc_args
  alloc_args_fills at cur r [] st o h = (refl, h)
  alloc_args_fills at cur r (a ∷ xs) st o h =
      out_outs _ (alloc at cur r [] (length st.syms ∷ []) false argument st) _
      (λ y. alloc_args at cur r xs y.1 >>= λ os. good (y.0 ∷ os.0, [], os.2)) first_one
      λ y s.
      outs_outs _ (alloc_args at cur r xs y.1) _ (λ os. good (y.0 ∷ os.0, [], os.2))
      (alloc_args_fills at cur r xs y.1 o s) λ os t. (refl, t)
    where
      first_one : FillsOut
          (alloc at cur r [] (length (map (fill_sym f) st.syms) ∷ []) false argument (fill_state f st))
          (alloc at cur r [] (length st.syms ∷ []) false argument st)
      first_one =
          rw (length-map st.syms (fill_sym f))
          (subst (λ (z : Rec). FillsOut
          (alloc at cur z [] (length st.syms ∷ []) false argument (fill_state f st))
          (alloc at cur r [] (length st.syms ∷ []) false argument st))
          (other_stays f r o)
          (alloc_fills at cur r [] (length st.syms ∷ []) false argument st (other_valued v r o) h))

  -- ---- projections

  new_projections_fills : (at cur : ℕ) (r : Rec) (i p : ℕ) (st : State) → Other r → SoundState st →
      FillsOut (new_projections at cur r i p (fill_state f st)) (new_projections at cur r i p st)
  unfolding new_projections
  new_projections_fills at cur r i p st o h =
      out-out _ (finish at cur (rec r.shape r.opcode 0 (1 ∷ [])) (p ∷ []) [] (operation []) st) _
      (λ a. finish at cur (rec r.shape r.opcode 0 (2 ∷ [])) (p ∷ []) [] (operation []) a.1 >>=
      λ b. good (pick i (a.0, b.0), remember p a.0 b.0 b.1))
      (finish_other at cur (rec r.shape r.opcode 0 (1 ∷ [])) (p ∷ []) [] (operation []) st
      (low_other (rec r.shape r.opcode 0 (1 ∷ [])) (omega arith)) h)
      λ a s.
      out-out _ (finish at cur (rec r.shape r.opcode 0 (2 ∷ [])) (p ∷ []) [] (operation []) a.1) _
      (λ b. good (pick i (a.0, b.0), remember p a.0 b.0 b.1))
      (finish_other at cur (rec r.shape r.opcode 0 (2 ∷ [])) (p ∷ []) [] (operation []) a.1
      (low_other (rec r.shape r.opcode 0 (2 ∷ [])) (omega arith)) s)
      λ b t. (refl, t)

  pair_projection_fills : (at cur : ℕ) (r : Rec) (i p : ℕ) (st : State) → Other r → SoundState st →
      FillsOut (pair_projection at cur r i p (fill_state f st)) (pair_projection at cur r i p st)
  unfolding pair_projection
  pair_projection_fills at cur r i p st o h = go (recall st.memo p)
    where
      go : (m : Option (ℕ × ℕ)) → FillsOut
          (elim m [ Some ab ↦ good (pick i ab, fill_state f st) | None ↦ new_projections at cur r i p (fill_state f st) ])
          (elim m [ Some ab ↦ good (pick i ab, st) | None ↦ new_projections at cur r i p st ])
      go (Some ab) = (refl, h)
      go None = new_projections_fills at cur r i p st o h

  -- ---- kinds of record

  -- children that fill, read from any state
  abbrev pub KidsFill : Kids → Kids → Type 0
  KidsFill kids' kids =
      (cur : ℕ) (env : Env) (st : State) → SoundState st → FillsOuts (kids' cur env (fill_state f st)) (kids cur env st)

  pub last_fills : (m' m : Outs) → FillsOuts m' m → FillsOut (intern_last m') (intern_last m)
  unfolding intern_last
  last_fills m' m h = outs_out m' m _ (λ os. good (last os.0, os.2)) h λ os s. (refl, s)

  general_fills : (at cur : ℕ) (r : Rec) (m' m : Outs) → Valued v r → FillsOuts m' m →
      FillsOut (intern_general at cur (fill_rec f r) m') (intern_general at cur r m)
  unfolding intern_general node_of
  general_fills at cur r m' m k h =
      outs_out m' m _ (λ os. finish at cur r os.0 [] (node_of r os.1) os.2) h
      λ os s. finish_fills at cur r os.0 [] (node_of r os.1) os.2 k s

  general_other : (at cur : ℕ) (r : Rec) (m' m : Outs) → Other r → FillsOuts m' m →
      FillsOut (intern_general at cur r m') (intern_general at cur r m)
  general_other at cur r m' m o h =
      subst (λ (z : Rec). FillsOut (intern_general at cur z m') (intern_general at cur r m)) (other_stays f r o)
      (general_fills at cur r m' m (other_valued v r o) h)

  module _ (at cur : ℕ) (r : Rec) (env : Env) (kids' kids : Kids) (fill : KidsFill kids' kids) where
    field_fills : (ks : List ℕ) (st : State) → Other r → SoundState st →
        FillsOut (intern_field at cur r env kids' ks (fill_state f st)) (intern_field at cur r env kids ks st)
    unfolding intern_field
    field_fills ks st o h =
        subst (λ (b : Bool). FillsOut (body kids' (fill_state f st) small b) (body kids st small tuple))
        (sym (at_kept f (λ y. eqb y.rec.shape Tuple) (λ y. refl) st.syms (last ks))) (go small tuple)
      where
        i : ℕ
        i = get_or r.lit 0 0

        small : Bool
        small = eqb i 1 || eqb i 2

        tuple : Bool
        tuple = eqb (sym_at st.syms (last ks)).rec.shape Tuple

        body : Kids → State → Bool → Bool → Out
        body ch s a b = elim a [
          | false ↦ finish at cur r ks [] (operation []) s
          | true ↦ elim b [
            | false ↦ pair_projection at cur r i (last ks) s
            | true ↦ intern_general at cur r (ch cur env s)
          ]
        ]

        go : (a b : Bool) → FillsOut (body kids' (fill_state f st) a b) (body kids st a b)
        go false b = finish_other at cur r ks [] (operation []) st o h
        go true false = pair_projection_fills at cur r i (last ks) st o h
        go true true = general_other at cur r _ (kids cur env st) o (fill cur env st h)

    func_fills : (st : State) → Other r → SoundState st →
        FillsOut (intern_func at cur r env kids' (fill_state f st)) (intern_func at cur r env kids st)
    unfolding intern_func
    func_fills st o h =
        let xs = args_of r.aux r.lit in
        outs_out _ (alloc_args at cur r xs st) _
        (λ made. kids (length made.2.scopes) (bind_args xs made.0 env)
        (open_scope cur (Some made.0) made.2.tables made.2) >>=
        λ os. finish at cur r os.0 made.0 (func (with_opts xs made.0) (length made.2.scopes)) os.2)
        (alloc_args_fills at cur r xs st o h) λ made s.
        outs_out _ (kids (length made.2.scopes) (bind_args xs made.0 env)
        (open_scope cur (Some made.0) made.2.tables made.2)) _
        (λ os. finish at cur r os.0 made.0 (func (with_opts xs made.0) (length made.2.scopes)) os.2)
        (fill (length made.2.scopes) (bind_args xs made.0 env)
        (open_scope cur (Some made.0) made.2.tables made.2) s) λ os t.
        finish_other at cur r os.0 made.0 (func (with_opts xs made.0) (length made.2.scopes)) os.2 o t

    -- a record that is no parameter, by its kind
    other_fills : (k : Kind) (st : State) → Other r → SoundState st →
        FillsOut (intern_kind k at cur r env kids' (fill_state f st)) (intern_kind k at cur r env kids st)
    unfolding intern_kind
    other_fills val_use st o h = (refl, h)
    other_fills val_def st o h = last_fills _ (kids cur env st) (fill cur env st h)
    other_fills block st o h = last_fills _ (kids cur env st) (fill cur env st h)
    other_fills lambda st o h = func_fills st o h
    other_fills field st o h =
        outs_out _ (kids cur env st) _ (λ os. intern_field at cur r env kids os.0 os.2) (fill cur env st h)
        λ os s. field_fills os.0 os.2 o s
    other_fills other st o h = general_other at cur r _ (kids cur env st) o (fill cur env st h)

    pub kind_fills : (st : State) → Valued v r → SoundState st →
        FillsOut (intern_kind (kind r.shape) at cur (fill_rec f r) env kids' (fill_state f st))
        (intern_kind (kind r.shape) at cur r env kids st)
    unfolding intern_kind kind
    kind_fills st k h = go (is_parameter r) refl
      where
        go : (b : Bool) → is_parameter r ≡ b →
            FillsOut (intern_kind (kind r.shape) at cur (fill_rec f r) env kids' (fill_state f st))
            (intern_kind (kind r.shape) at cur r env kids st)
        go true e =
            subst (λ (z : Kind). FillsOut (intern_kind z at cur (fill_rec f r) env kids' (fill_state f st))
            (intern_kind z at cur r env kids st)) (ap kind (sym (parameter_is r e).0))
            (general_fills at cur r _ (kids cur env st) k (fill cur env st h))
        go false e =
            subst (λ (z : Rec). FillsOut (intern_kind (kind r.shape) at cur z env kids' (fill_state f st))
            (intern_kind (kind r.shape) at cur r env kids st)) (sym (other_stays f r e))
            (other_fills (kind r.shape) st e h)
