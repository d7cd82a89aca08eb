-- Ids given for as long as a scope lasts: at its end every symbol has the id that it had, or none. In order: what holds of
-- ids while a symbol is built; an order's symbols get theirs; these taken back.
-- Assumes nothing.
use Prim.Native.Nat.{ℕ, ◌+◌, ◌≤◌, ◌<◌}
use mathlib.Core.Path.{◌≡◌, refl, sym, ap, ◌∙◌, subst}
use mathlib.Core.Bool.{Bool, true, false}
use mathlib.Core.Logic.{◌⊎◌, inl, inr}
use mathlib.Core.List.{List, [], ◌∷◌, ◌++◌}
use native.Mathlib.Omega.{arith}
use lib.Dec.{eqb}
use lib.ListN.{length, get_or, set, take, drop, replicate, take-append-drop}
use lib.Seq.{sets, get_or-set_same, get_or-set_other}
use borrow.Author.Tests.{eqb-true, eqb-false}
use Rattle.laws.specs.Members.{In}
use Rattle.laws.specs.Range.{range}
use Rattle.laws.proofs.Members.{clash, in_left, in_right}
use Rattle.laws.proofs.Ranges.{range_length}
use Rattle.record.specs.Record.{row_at}
use Rattle.key.specs.declared.Func.{Func}
use Rattle.key.specs.declared.Node.TheVariants.{Lambda}
use Rattle.key.specs.Key.{symbol_at}
use Rattle.outsiders.proofs.Lists.{next}
use Rattle.planner.specs.declared.source.Source.{Source}
use Rattle.planner.specs.Building.{taken_back}
use Rattle.planner.specs.Sources.{New}
use Rattle.planner.specs.Planning.{UpTo, Ids, AddedAt, Added}
use Rattle.planner.proofs.Ids.{replicate-zero}
use Rattle.planner.proofs.Taken.{all_taken, sets_other, numbered_up_to, forgotten}
use Rattle.planner.proofs.Binding.{lambda_fits}

-- ---- while a symbol is built

pub ids_none : (x : Source) (s : ℕ) → Ids x (replicate 512 0) s 0
ids_none x s = record {
  up_to = λ t. omega (arith, replicate-zero 512 t);
  outer = λ t a f below e arg. replicate-zero 512 a;
}

module _ (x : Source) {ids : List ℕ} where
  -- a lower symbol, in a map that is the same
  pub ids_under : {s t last : ℕ} {ids' : List ℕ} → Ids x ids s last → t ≤ s → ids' ≡ ids → Ids x ids' t last
  ids_under h l e = rw e (record { up_to = h.up_to; outer = λ u a f below. h.outer u a f (omega (arith, below, l)) })

  module _ {s last : ℕ} (lt : s < x.graph.symbols) (h : Ids x ids s last) where
    -- symbols of an order have got theirs, and none is a lambda's argument
    pub ids_after : {order : List ℕ} {last' : ℕ} {ids' : List ℕ} → Added x ids order last ids' → UpTo ids' last'
        → Ids x ids' s last'
    ids_after added up_to = record {
      up_to = up_to;
      outer = λ t a f below e arg. elim (added a) [
        | inl same ↦ same ∙ h.outer t a f below e arg
        | inr w ↦ absurd (clash _ (x.buildable.args_are t a f (omega (arith, below, lt)) e arg) w.new.no_arg)
      ];
    }

    args_fit : (f : Func) → (symbol_at x.graph.words.now s).node ≡ Lambda f → length ids ≡ 512 → {many : ℕ}
        → many ≡ (row_at x.forest.now f.source).rec.aux → 0 < many → f.first + many ≤ length ids
    args_fit f e long em some =
        omega (arith, long, em, some, (lambda_fits x s lt f e).first (omega (arith, em, some)), lt, x.graph.scoped.few)

    -- the arguments of lambda s have got theirs, and no lower lambda has them
    pub ids_inside : (f : Func) → (symbol_at x.graph.words.now s).node ≡ Lambda f → length ids ≡ 512 → {map : List ℕ}
        → {many count root : ℕ}
        → many ≡ (row_at x.forest.now f.source).rec.aux → count ≡ (row_at x.forest.now f.source).rec.aux
        → map ≡ sets ids f.first (range (last + 1) many) → root < s → Ids x map root (last + count + 1)
    ids_inside f e long {map} {many} {count} {root} em ec is below = record {
      up_to = λ t. rw is (up_to t);
      outer = λ t a g up e₁ arg.
          rw is (sets_other ids f.first many fit (range (last + 1) many) (range_length (last + 1) many) a
          (λ lo hi. x.buildable.apart s t a f g lt (omega (arith, up, below)) e e₁ (lo, omega (arith, hi, em)) arg)
          ∙ h.outer t a g (omega (arith, up, below)) e₁ arg);
    }
      where
        fit : 0 < many → f.first + many ≤ length ids
        fit = args_fit f e long em

        up_to : (t : ℕ) → get_or (sets ids f.first (range (last + 1) many)) t 0 ≤ last + count + 1
        up_to t = omega (arith, numbered_up_to ids f.first many last fit h.up_to t, em, ec)

    -- once they have none, all is as it was
    pub ids_outside : (f : Func) → (symbol_at x.graph.words.now s).node ≡ Lambda f → length ids ≡ 512
        → {map map₁ : List ℕ} {many : ℕ} → many ≡ (row_at x.forest.now f.source).rec.aux
        → map ≡ sets ids f.first (range (last + 1) many) → map₁ ≡ sets map f.first (replicate many 0) → map₁ ≡ ids
    ids_outside f e long {map} {map₁} {many} em is then =
        then ∙ (ap (λ (z : List ℕ). sets z f.first (replicate many 0)) is
        ∙ forgotten ids f.first many last (args_fit f e long em)
        (λ a lo hi. h.outer s a f (omega arith) e (lo, omega (arith, hi, em))))

-- ---- an order's symbols get theirs

pub up_to_one : (ids : List ℕ) {s last : ℕ} → UpTo ids last → s < length ids → UpTo (set ids s (last + 1)) (last + 1)
up_to_one ids {s} {last} up_to l t = go (eqb s t) refl
  where
    go : (b : Bool) → eqb s t ≡ b → get_or (set ids s (last + 1)) t 0 ≤ last + 1
    go true e =
        let f = eqb-true s t e in
        rw (← f) (omega (arith, get_or-set_same ids s (last + 1) 0 l))
    go false e = omega (arith, get_or-set_other ids s t (last + 1) 0 (λ f. eqb-false s t e (sym f)), up_to t)

module _ {x : Source} {ids : List ℕ} {last : ℕ} where
  pub added_none : (order : List ℕ) {ids' : List ℕ} → ids' ≡ ids → Added x ids order last ids'
  added_none order e t = inl (ap (λ (z : List ℕ). get_or z t 0) e)

  pub added_one : {s : ℕ} → New x ids s → s < length ids → Added x ids (s ∷ []) last (set ids s (last + 1))
  added_one {s} new l t = go (eqb s t) refl
    where
      go : (b : Bool) → eqb s t ≡ b → (get_or (set ids s (last + 1)) t 0 ≡ get_or ids t 0) ⊎ AddedAt x ids (s ∷ []) last (set ids s (last + 1)) t
      go true e =
          let f = eqb-true s t e in
          inr (rw (← f) (record {
            among = inl refl;
            new = new;
            after = omega (arith, get_or-set_same ids s (last + 1) 0 l);
          }))
      go false e = inl (get_or-set_other ids s t (last + 1) 0 (λ f. eqb-false s t e (sym f)))

  -- one symbol more
  pub added_more : (order : List ℕ) {i s last₁ : ℕ} {ids₁ ids₂ : List ℕ} → i < length order → s ≡ get_or order i 0
      → Added x ids (take i order) last ids₁ → last ≤ last₁ → Added x ids₁ (s ∷ []) last₁ ids₂
      → Added x ids (take (i + 1) order) last ids₂
  added_more order {i} {s} {last₁} {ids₁} {ids₂} lt at before rise one t = go (before t) (one t)
    where
      in_next : In t (take i order ++ (s ∷ [])) → In t (take (i + 1) order)
      in_next m = rw (next order i s lt at) m

      go : (get_or ids₁ t 0 ≡ get_or ids t 0) ⊎ AddedAt x ids (take i order) last ids₁ t
          → (get_or ids₂ t 0 ≡ get_or ids₁ t 0) ⊎ AddedAt x ids₁ (s ∷ []) last₁ ids₂ t
          → (get_or ids₂ t 0 ≡ get_or ids t 0) ⊎ AddedAt x ids (take (i + 1) order) last ids₂ t
      go (inl e) (inl f) = inl (f ∙ e)
      go (inl e) (inr w) = inr (record {
        among = in_next (in_right t (take i order) (s ∷ []) w.among);
        new = record { none = sym e ∙ w.new.none; no_arg = w.new.no_arg };
        after = omega (arith, w.after, rise);
      })
      go (inr w) (inl f) = inr (record {
        among = in_next (in_left t (take i order) (s ∷ []) w.among);
        new = w.new;
        after = omega (arith, w.after, f);
      })
      go (inr w) (inr v) = absurd (omega (arith, w.after, v.new.none))

  -- some of the order
  pub added_some : (order : List ℕ) (i : ℕ) {ids' : List ℕ} → Added x ids (take i order) last ids' → Added x ids order last ids'
  added_some order i {ids'} added t = elim (added t) [
    | inl e ↦ inl e
    | inr w ↦ inr (record {
      among = subst (In t) (take-append-drop i order) (in_left t (take i order) (drop i order) w.among);
      new = w.new;
      after = w.after;
    })
  ]

-- ---- these taken back

pub added_back : {x : Source} {ids order : List ℕ} {s last : ℕ} {ids' ids₂ : List ℕ} → Ids x ids s last
    → Added x ids order last ids' → ids₂ ≡ ids' → length ids₂ ≡ length ids → taken_back ids₂ order last ≡ ids
added_back {x} {ids} {order} {s} {last} {ids'} h added e long =
    rw e (all_taken ids last h.up_to order ids' (ap length (sym e) ∙ long) added)
