-- Lists that are x throughout, and those that are so past a list. In order: throughout; past a list.
-- Assumes nothing.
use Rattle.std.proofs.Common.{◌≡◌, ℕ, List, ◌++◌, length, get_or, take, drop, replicate, eqb, Bool, true, IsTrue, ◌↔◌}
use Rattle.std.proofs.Common.{refl, sym, ap, ap₂, subst, ◌∙◌, take-append-drop, length-drop}
use Rattle.std.specs.List.{list_all}
use Rattle.std.proofs.Math.Seq.{take_at, drop_at}
use Rattle.std.proofs.lemmas.Bool.{eqb-true, eq-eqb}
use Rattle.std.proofs.lemmas.List.{length-replicate, get_or-replicate, drop-replicate}
use Rattle.std.proofs.lemmas.List.Elements.{All-replicate}
use Rattle.std.proofs.lemmas.List.Sums.{AllPass-from_list_all, list_all-from_AllPass}
use Rattle.std.proofs.lemmas.Grind.{same_number_lists}
use Rattle.replay.specs.Rows.{before}

-- ---- throughout

abbrev is : ℕ → ℕ → Bool
is x y = eqb y x

all_equal : (x : ℕ) (xs : List ℕ) → list_all (is x) xs ≡ true → xs ≡ replicate (length xs) x
all_equal x xs t =
    same_number_lists xs (replicate (length xs) x) (sym (length-replicate (length xs) x))
    (λ k l.
    eqb-true (get_or xs k 0) x (AllPass-from_list_all (is x) xs t k 0 l)
    ∙ sym (get_or-replicate (length xs) k x 0 l))

filled_passes : (x n : ℕ) → list_all (is x) (replicate n x) ≡ true
filled_passes x n =
    list_all-from_AllPass (is x) (replicate n x) (All-replicate (λ y. is x y ≡ true) n x (eq-eqb x x refl))

is_filled : (x : ℕ) (xs : List ℕ) → IsTrue (list_all (is x) xs) ↔ (xs ≡ replicate (length xs) x)
is_filled x xs = (
  all_equal x xs,
  λ e. subst (λ (l : List ℕ). list_all (is x) l ≡ true) (sym e) (filled_passes x (length xs)),
)

-- the first n items
pub filled_front : (xs front : List ℕ) (x n : ℕ) (r : Bool) → r ≡ list_all (is x) front → front ≡ take n xs →
    length front ≡ n → (IsTrue r ↔ (take n xs ≡ replicate n x))
filled_front xs front x n r c d l =
    let h = is_filled x front in
    let e : replicate (length front) x ≡ replicate n x = ap (λ k. replicate k x) l in
    (λ t. sym d ∙ h.0 (sym c ∙ t) ∙ e, λ w. c ∙ h.1 (d ∙ w ∙ sym e))

-- ---- past a list

-- where n items of xs are a
module _ (a xs : List ℕ) (x n : ℕ) (e : length a ≡ n) where
  abbrev filled : List ℕ
  filled = drop (length a) (replicate (length xs) x)

  filled_is : replicate (length (drop n xs)) x ≡ filled
  filled_is =
      ap (λ k. replicate k x) (length-drop n xs) ∙ sym (drop-replicate n (length xs) x)
      ∙ ap (λ k. drop k (replicate (length xs) x)) (sym e)

  pub before_front : xs ≡ before a (length xs) x → take n xs ≡ a
  before_front f = ap (take n) f ∙ take_at a filled n e

  -- the others are all x
  pub is_before : (r : Bool) (rest : List ℕ) → r ≡ list_all (is x) rest → rest ≡ drop n xs → take n xs ≡ a →
      (IsTrue r ↔ (xs ≡ before a (length xs) x))
  is_before r rest c d f =
      let h = is_filled x rest in
      let g : replicate (length rest) x ≡ filled = ap (λ (s : List ℕ). replicate (length s) x) d ∙ filled_is in (
        λ t. sym (take-append-drop n xs) ∙ ap₂ (λ (s u : List ℕ). s ++ u) f (sym d ∙ h.0 (sym c ∙ t) ∙ g),
        λ w. c ∙ h.1 (d ∙ ap (drop n) w ∙ drop_at a filled n e ∙ sym g),
      )
