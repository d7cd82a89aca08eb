-- Fields 1 and 2 of a symbol, sought again: once they were found, made or remembered, they are remembered in every
-- later state (`pair_calm`), and there the symbol is no Tuple, as it was none before.
-- In order: a projection that is remembered; both projections, new or remembered.
-- Assumes nothing.
use mathlib.Core.Path.{◌≡◌, refl, ap, sym, ◌∙◌}
use mathlib.Core.Bool.{Bool, true, false}
use Rattle.std.specs.Prelude.{Option, None, Some}
use mathlib.Core.List.{[], ◌∷◌}
use Prim.Native.Nat.{ℕ, ◌<◌}
use native.Mathlib.Omega.{arith}
use lib.Dec.{eqb, ltb}
use borrow.Author.Tests.{eqb-true, eq-eqb, ltb-true, ltb-false}
use Rattle.model.specs.Answer.{good}
use Rattle.model.specs.Tree.{Rec, rec}
use Rattle.model.specs.Intern.{operation, Sym, State, Out, sym_at, recall, remember, pick, new_projections}
use Rattle.model.specs.Intern.{pair_projection}
use Rattle.laws.proofs.Apart.{none_some}
use Rattle.laws.proofs.Holds.{Holds, holds_bind}
use Rattle.theory.proofs.Bounds.Steps.{pick_low, recall_low}
use Rattle.theory.specs.Good.{sym_count}
use Rattle.theory.proofs.Interning.Finish.{lookup_found, is_key_true}
use Rattle.theory.proofs.Interning.Reread.Later.{Tabled, Low, Later, later_none, later_then, Calm, calm_still}
use Rattle.theory.proofs.Interning.Reread.Finds.{Found, finish_found, found_low}

-- ---- what is remembered

-- what a search gives, by whether its first place is that of the symbol
abbrev first : Bool → ℕ × ℕ → Option (ℕ × ℕ) → Option (ℕ × ℕ)
first t ab rest = elim t [ true ↦ Some ab | false ↦ rest ]

module _ (p a b : ℕ) (s : State) where
  remember-own : recall (remember p a b s).memo p ≡ Some (a, b)
  unfolding recall
  remember-own = ap (λ (t : Bool). first t (a, b) (recall s.memo p)) (eq-eqb p p refl)

  remember_tabled : Tabled s → a < sym_count s → b < sym_count s → Tabled (remember p a b s)
  remember_tabled h la lb = record {
    some_table = h.some_table;
    entries_low = h.entries_low;
    memo_low = recall_low p a b s (sym_count s) la lb h.memo_low;
  }

  -- nothing was remembered of the symbol before
  remember_later : recall s.memo p ≡ None → Later s (remember p a b s)
  unfolding recall
  remember_later n = record {
    more = omega arith;
    same = λ i l. refl;
    finds = λ r ks i e. e;
    recalls = λ q ab e. go q ab (eqb p q) refl e;
  }
    where
      go : (q : ℕ) (ab : ℕ × ℕ) (t : Bool) → eqb p q ≡ t → recall s.memo q ≡ Some ab →
          first t (a, b) (recall s.memo q) ≡ Some ab
      go q ab true t e =
          let z : p ≡ q = eqb-true p q t in
          none_some {a = ab} (sym n ∙ ap (recall s.memo) z ∙ e)
      go q ab false t e = e

-- ---- both projections

-- whether symbol p is a Tuple
abbrev pub is_tuple : State → ℕ → Bool
is_tuple s p = eqb (sym_at s.syms p).rec.shape 16

-- field i of p, from state s
pub record Paired (at cur : ℕ) (r : Rec) (i p : ℕ) (s : State) (o : ℕ × State) : Type 0 where
  pub scopes_are : o.1.scopes ≡ s.scopes
  pub calm : Tabled s → Calm (λ v. pair_projection at cur r i p v) s o.1 (λ v. (o.0, v))
  pub low : Tabled s → o.0 < sym_count o.1
  -- p is a symbol afterwards; and if it was none, it is the first projection, of record r's shape
  pub there : Tabled s → Low (sym_count s) p → p < sym_count o.1
  pub shape : Tabled s → Low (sym_count s) p → eqb r.shape 16 ≡ false → is_tuple s p ≡ false →
      is_tuple o.1 p ≡ false

module _ (at cur : ℕ) (r : Rec) (i p : ℕ) where
  abbrev field_rec : ℕ → Rec
  field_rec j = rec r.shape r.opcode 0 (j ∷ [])

  -- remembered
  old_paired : (s : State) (ab : ℕ × ℕ) → recall s.memo p ≡ Some ab → Paired at cur r i p s (pick i ab, s)
  unfolding pair_projection
  old_paired s ab e = record {
    scopes_are = refl;
    calm = λ h.
        calm_still refl h (later_none s) λ u l.
        rw (pair_projection, l.recalls p ab e);
    low = λ h. let w = h.memo_low p ab.0 ab.1 e in pick_low i (sym_count s) ab w.0 w.1;
    there = λ h l. omega (arith, (h.memo_low p ab.0 ab.1 e).0);
    shape = λ h l e f. f;
  }

  -- new
  module _ (s : State) (a b : ℕ × State) (none_is : recall s.memo p ≡ None) (w : Found s (field_rec 1) (p ∷ []) a)
      (v : Found a.1 (field_rec 2) (p ∷ []) b) where
    abbrev end : State
    end = remember p a.0 b.0 b.1

    end_later : Tabled s → Later a.1 end
    end_later h =
        later_then (v.later (w.tabled h))
        (remember_later p a.0 b.0 b.1 (rw (v.memo_is, w.memo_is) none_is))

    first_low : Tabled s → a.0 < sym_count b.1
    first_low h = omega (arith, found_low s (field_rec 1) (p ∷ []) a h w, (v.later (w.tabled h)).more)

    second_low : Tabled s → b.0 < sym_count b.1
    second_low h = found_low a.1 (field_rec 2) (p ∷ []) b (w.tabled h) v

    -- the first projection has the shape of record r
    first_shape : Tabled s → (sym_at a.1.syms a.0).rec.shape ≡ r.shape
    first_shape h =
        let k = (lookup_found a.1.syms (field_rec 1) (p ∷ []) a.1.tables a.0 (w.found h)).1 in
        ap (λ (z : Rec). z.shape) (is_key_true a.1.syms (field_rec 1) (p ∷ []) a.0 k).0

    end_shape : Tabled s → Low (sym_count s) p → eqb r.shape 16 ≡ false → is_tuple s p ≡ false → (t : Bool) →
        ltb p (sym_count s) ≡ t → is_tuple end p ≡ false
    end_shape h l e f true t =
        let x = (later_then (w.later h) (end_later h)).same p (ltb-true p (sym_count s) t) in
        ap (λ (z : Sym). eqb z.rec.shape 16) (sym x) ∙ f
    end_shape h l e f false t =
        let q : p ≡ a.0 =
        omega (arith, ltb-false p (sym_count s) t, found_low s (field_rec 1) (p ∷ []) a h w, w.few) in
        let x = (end_later h).same a.0 (found_low s (field_rec 1) (p ∷ []) a h w) in
        ap (λ (i : ℕ). is_tuple end i) q
        ∙ ap (λ (z : Sym). eqb z.rec.shape 16) (sym x)
        ∙ ap (λ (n : ℕ). eqb n 16) (first_shape h)
        ∙ e

    new_paired : Paired at cur r i p s (pick i (a.0, b.0), remember p a.0 b.0 b.1)
    unfolding pair_projection
    new_paired = record {
      scopes_are = v.scopes_are ∙ w.scopes_are;
      calm = λ h.
          calm_still
          (v.readings_are ∙ w.readings_are)
          (remember_tabled p a.0 b.0 b.1 (v.tabled (w.tabled h)) (first_low h) (second_low h))
          (later_then (w.later h) (end_later h)) λ u l.
          rw (pair_projection, l.recalls p (a.0, b.0) (remember-own p a.0 b.0 b.1));
      low = λ h. pick_low i (sym_count b.1) (a.0, b.0) (first_low h) (second_low h);
      there = λ h l. omega (arith, first_low h, (w.later h).more, (v.later (w.tabled h)).more);
      shape = λ h l e f. end_shape h l e f (ltb p (sym_count s)) refl;
    }

  pub pair_calm : (s : State) → Holds (Paired at cur r i p s) (pair_projection at cur r i p s)
  unfolding pair_projection new_projections
  pair_calm s = go (recall s.memo p) refl
    where
      go : (f : Option (ℕ × ℕ)) → recall s.memo p ≡ f →
          Holds (Paired at cur r i p s) (elim f as (λ z. Out)
          [ Some ab ↦ good (pick i ab, s) | None ↦ new_projections at cur r i p s ])
      go (Some ab) e = old_paired s ab e
      go None e =
          holds_bind (Found s (field_rec 1) (p ∷ [])) (Paired at cur r i p s) _ _
          (finish_found at cur (field_rec 1) (p ∷ []) [] (operation []) s) λ a w.
          holds_bind (Found a.1 (field_rec 2) (p ∷ [])) (Paired at cur r i p s) _ _
          (finish_found at cur (field_rec 2) (p ∷ []) [] (operation []) a.1) λ b v.
          new_paired s a b e w v
