-- Fields: the symbol of a SelectField is field i of its input's symbol, be it made, found or remembered.
--
-- In order: field j of a symbol, as it is made and as it is remembered; fields 1 and 2, found, made or remembered
-- (`pair_projection_keeps`); a SelectField, whose input is read once or twice (`intern_field_keeps`).
-- Walk uses `intern_field_keeps`.
-- Assumes nothing.
use mathlib.Core.Path.{◌≡◌, refl, sym, ◌∙◌, subst}
use mathlib.Core.Logic.{◌⊎◌, inl, inr}
use mathlib.Core.Bool.{Bool, true, false, ◌||◌}
use Rattle.std.specs.Prelude.{Option, None, Some}
use mathlib.Core.List.{List, [], ◌∷◌}
use Prim.Native.Nat.{ℕ, ◌≤◌}
use native.Mathlib.Omega.{arith}
use lib.Dec.{eqb}
use lib.ListN.{get_or}
use borrow.Author.Tests.{eqb-true}
use Rattle.model.specs.Lists.{last}
use Rattle.model.specs.Answer.{good}
use Rattle.model.specs.Tree.{Rec, Trees, many}
use Rattle.model.specs.Binding.{kind}
use Rattle.model.specs.Intern.{operation, Sym, Scope, State, Env, Kids, finish, recall, remember, pick, new_projections}
use Rattle.model.specs.Intern.{pair_projection, intern_general, intern_field}
use Rattle.laws.proofs.Holds.{Holds, holds_bind, holds_map}
use Rattle.laws.proofs.Members.{in_one}
use Rattle.theory.proofs.Acceptance.Records.{field_fits}
use Rattle.theory.specs.Good.{rec_at, sym_count, SymOk}
use Rattle.theory.proofs.Interning.Good.{pairs_none}
use Rattle.theory.specs.Inv.{Args, field_rec, FieldOk, Inv}
use Rattle.theory.proofs.Interning.Inv.{env_later, grow_none, grow-same, key_later, recall_cases, inv_same}
use Rattle.theory.proofs.Interning.Finish.{Result, Made, key_made, Step, finish-plain, step_then, result_later}
use Rattle.theory.proofs.Interning.Keep.{Symbols, KeepsMeaning, KeepsMeanings, PlainRec, made_of, one_last, last_in_lem}
use Rattle.theory.proofs.Interning.Keep.{made_stands, finish_keeps, intern_general_keeps}

-- ---- field j of a symbol

field_plain : (j : ℕ) → PlainRec (field_rec j) 1
unfolding kind
field_plain j = record { kind_is = refl; fits_is = (field_fits j).0; agrees_is = (field_fits j).1 }

made_later : {fin : List Sym} {n : ℕ} (m : ℕ) {A : Args} {r : Rec} {ks : List ℕ} {s : ℕ} → n ≤ m →
    Made fin n A r ks s → Made fin m A r ks s
made_later m l h = record { key = key_later m l h.key; within = h.within }

-- a field that is remembered is as one that was made
field_made : {fin : List Sym} {scs : List Scope} {n p j a : ℕ} {A : Args} → SymOk fin scs a → Result fin n A p →
    FieldOk fin n p j a → Made fin n A (field_rec j) (p ∷ []) a
field_made {fin} {scs} {p} {j} {a} {A} ok res h =
    key_made ok (field_plain j).kind_is h λ k l. rw (in_one l) res.within

-- ---- fields 1 and 2

-- the field with record r of symbol p has been found or made
abbrev Projected : State → Args → ℕ → Rec → ℕ → ℕ × State → Type 0
Projected st A cur r p o =
    Step st o.1 A cur (λ fin scs. Result fin (sym_count st) A p)
    (λ fin scs. Made fin (sym_count o.1) A r (p ∷ []) o.0)

pick-made : {fin : List Sym} {n : ℕ} (i : ℕ) {p a b : ℕ} {A : Args} → (i ≡ 1) ⊎ (i ≡ 2) →
    Made fin n A (field_rec 1) (p ∷ []) a → Made fin n A (field_rec 2) (p ∷ []) b →
    Made fin n A (field_rec i) (p ∷ []) (pick i (a, b))
pick-made i (inl e) h k = rw e h
pick-made i (inr e) h k = rw e k

remember_inv : (fin : List Sym) (scs : List Scope) (st : State) (A : Args) (cur p a b : ℕ) → Inv fin scs st A cur →
    FieldOk fin (sym_count st) p 1 a → FieldOk fin (sym_count st) p 2 b → Inv fin scs (remember p a b st) A cur
remember_inv fin scs st A cur p a b h fa fb =
    inv_same st.tables ((p, a, b) ∷ st.memo) st.readings (λ i k. k)
    (λ q c d e. go q c d (recall_cases p a b st q c d e)) h
  where
    go : (q c d : ℕ) → ((p ≡ q) × (a ≡ c) × (b ≡ d)) ⊎ (recall st.memo q ≡ Some (c, d)) →
        FieldOk fin (sym_count st) q 1 c × FieldOk fin (sym_count st) q 2 d
    go q c d (inl e) = (rw (e.0, e.1) at fa, rw (e.0, e.2) at fb)
    go q c d (inr e) = h.memo_ok q c d e

module _ (at cur : ℕ) (A : Args) (p : ℕ) where
  one_projection : (j : ℕ) (st : State) →
      Holds (Projected st A cur (field_rec j) p) (finish at cur (field_rec j) (p ∷ []) [] (operation []) st)
  one_projection j st =
      holds_map _ (Projected st A cur (field_rec j) p) (finish at cur (field_rec j) (p ∷ []) [] (operation []) st)
      (finish-plain at cur (field_rec j) (p ∷ []) (operation []) st A plain.kind_is plain.fits_is plain.agrees_is) λ o s.
      record { grows = s.grows; keeps = λ fin scs f inv res. s.keeps fin scs f inv (λ k h. rw (in_one h) res, tt) }
    where
      plain : PlainRec (field_rec j) 1
      plain = field_plain j

  -- a and b are fields 1 and 2 of p
  abbrev Both : State → ℕ → ℕ → List Sym → List Scope → Type 0
  Both s a b fin scs =
      Made fin (sym_count s) A (field_rec 1) (p ∷ []) a × Made fin (sym_count s) A (field_rec 2) (p ∷ []) b

  -- field i: both fields are remembered, or found or made now
  field_projected : (i : ℕ) (st : State) → (i ≡ 1) ⊎ (i ≡ 2) →
      Holds (Projected st A cur (field_rec i) p) (pair_projection at cur (field_rec i) i p st)
  unfolding pair_projection new_projections
  field_projected i st e = go (recall st.memo p) refl
    where
      P : ℕ × State → Type 0
      P o = Projected st A cur (field_rec i) p o

      old : (ab : ℕ × ℕ) → recall st.memo p ≡ Some ab → P (pick i ab, st)
      old ab f = record {
        grows = grow_none st;
        keeps = λ fin scs ft inv res.
            let w = inv.memo_ok p ab.0 ab.1 f in
            let a = field_made (inv.good ab.0 w.0.low) res w.0 in
            let b = field_made (inv.good ab.1 w.1.low) res w.1 in
            (inv, pick-made i e a b);
      }

      both : (a b : ℕ × State) → Projected st A cur (field_rec 1) p a → Projected a.1 A cur (field_rec 2) p b →
          Step st b.1 A cur (λ fin scs. Result fin (sym_count st) A p) (Both b.1 a.0 b.0)
      both a b ha hb =
          step_then ha hb (λ fin scs res ma. result_later (sym_count a.1) ha.grows.more_syms res)
          (λ fin scs inv ma mb. (made_later (sym_count b.1) hb.grows.more_syms ma, mb))

      remembered : (a b : ℕ) (s : State) →
          Step s (remember p a b s) A cur (Both s a b)
          (λ fin scs. Made fin (sym_count s) A (field_rec i) (p ∷ []) (pick i (a, b)))
      remembered a b s = record {
        grows = grow-same s (remember p a b s) refl refl;
        keeps = λ fin scs f inv m.
            let kept = remember_inv fin scs s A cur p a b inv m.0.key m.1.key in
            (kept, pick-made i e m.0 m.1);
      }

      go : (o : Option (ℕ × ℕ)) → recall st.memo p ≡ o →
          Holds P (elim o [ Some ab ↦ good (pick i ab, st) | None ↦ new_projections at cur (field_rec i) i p st ])
      go (Some ab) f = old ab f
      go None f =
          holds_bind (Projected st A cur (field_rec 1) p) P _ _ (one_projection 1 st) λ a ha.
          holds_bind (Projected a.1 A cur (field_rec 2) p) P _ _ (one_projection 2 a.1) λ b hb.
          step_then (both a b ha hb) (remembered a.0 b.0 b.1) (λ fin scs res m. m) (λ fin scs inv m made. made)

pair_projection_keeps : (at cur : ℕ) (A : Args) (r : Rec) (i p : ℕ) (st : State) → r ≡ field_rec i → (i ≡ 1) ⊎ (i ≡ 2) →
    Holds (Projected st A cur r p) (pair_projection at cur r i p st)
pair_projection_keeps at cur A r i p st e f =
    subst (λ (z : Rec). Holds (Projected st A cur z p) (pair_projection at cur z i p st)) (sym e)
    (field_projected at cur A p i st f)

-- ---- a SelectField

-- `reads`: the input may be read from any state
module _
    (at cur : ℕ) (r : Rec) (env : Env) (A : Args) (ts : Trees) (kids : Kids)
    (reads : (s : State) → Holds (KeepsMeanings s A cur env r.opcode 0 false ts) (kids cur env s))
    (plain : PlainRec r (many ts)) (one : many ts ≡ 1) (is : r ≡ field_rec (get_or r.lit 0 0)) where
  pub intern_field_keeps : (st : State) (os : Symbols) → KeepsMeanings st A cur env r.opcode 0 false ts os →
      Holds (KeepsMeaning st A cur env (made_of r ts)) (intern_field at cur r env kids os.0 os.2)
  unfolding intern_field
  intern_field_keeps st os k =
      go (eqb (get_or r.lit 0 0) 1) refl (eqb (get_or r.lit 0 0) 2) refl
      (eqb (rec_at os.2.syms (last os.0)).shape 16)
    where
      i : ℕ
      i = get_or r.lit 0 0

      p : ℕ
      p = last os.0

      P : ℕ × State → Type 0
      P o = KeepsMeaning st A cur env (made_of r ts) o

      input : os.0 ≡ p ∷ []
      input = one_last os.0 (k.count ∙ one)

      -- not 1 or 2: an operation like others
      rest : Holds P (finish at cur r os.0 [] (operation []) os.2)
      rest = finish_keeps at (operation []) plain k λ fin scs w. pairs_none fin scs r.opcode 0 os.0

      -- of a Tuple: the input is read again
      again : Holds P (intern_general at cur r (kids cur env os.2))
      again =
          holds_map (KeepsMeaning os.2 A cur env (made_of r ts)) P (intern_general at cur r (kids cur env os.2))
          (intern_general_keeps at cur r env A ts os.2 (kids cur env os.2) plain (reads os.2)) λ o s.
          step_then k.step s
          (λ fin scs ok w. env_later fin (sym_count st) (sym_count os.2) env A k.step.grows.more_syms ok)
          (λ fin scs inv w u. u)

      projected : (i ≡ 1) ⊎ (i ≡ 2) → Holds P (pair_projection at cur r i p os.2)
      projected e =
          holds_map (Projected os.2 A cur r p) P (pair_projection at cur r i p os.2)
          (pair_projection_keeps at cur A r i p os.2 is e) λ o s.
          step_then k.step s
          (λ fin scs ok w. w.results p (last_in_lem os.0 (omega (arith, k.count))))
          (λ fin scs inv w m. made_stands plain (inv.good o.0 m.key.low) w (rw input m))

      go : (x : Bool) → eqb i 1 ≡ x → (y : Bool) → eqb i 2 ≡ y → (t : Bool) → Holds P (elim (x || y) [
        | false ↦ finish at cur r os.0 [] (operation []) os.2
        | true ↦ elim t [
          | false ↦ pair_projection at cur r i p os.2
          | true ↦ intern_general at cur r (kids cur env os.2)
        ]
      ])
      go true f y g true = again
      go true f y g false = projected (inl (eqb-true i 1 f))
      go false f true g true = again
      go false f true g false = projected (inr (eqb-true i 2 g))
      go false f false g t = rest
