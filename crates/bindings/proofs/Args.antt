-- A lambda's arguments, bound one by one: what is left gives the whole. Assumes nothing.
use Prim.Native.Nat.{ℕ, suc, ◌+◌, ◌-◌, ◌<◌, ◌≤◌}
use mathlib.Core.Path.{◌≡◌, refl, sym, ap, ◌∙◌}
use mathlib.Core.List.{List, [], ◌∷◌}
use native.Mathlib.Omega.{arith}
use Rattle.std.proofs.lemmas.List.{nil_from_length}
use native.Mathlib.Numerals.{add-one}
use lib.ListN.{length, length-set}
use Rattle.model.specs.Binding.{args_of}
use Rattle.laws.specs.Range.{range}
use Rattle.laws.proofs.ArgLists.{args_length}
use Rattle.laws.proofs.Ranges.{range_length}
use Rattle.shape.proofs.Reading.{all_stand}
use Rattle.bindings.specs.Bindings.{bound, arg_bindings, bound_all}
use Rattle.bindings.proofs.Laws.{pairs_length}

-- arguments with the symbols from `first` on
abbrev pub pairs : List (ℕ × List ℕ) → ℕ → List (ℕ × ℕ)
pairs xs first = arg_bindings xs (range first (length xs))

pairs_many : (xs : List (ℕ × List ℕ)) (first : ℕ) → length (pairs xs first) ≡ length xs
pairs_many xs first = pairs_length xs (range first (length xs)) (range_length first (length xs))

-- those of n arguments of a literal
abbrev pub arg_pairs : ℕ → List ℕ → ℕ → List (ℕ × ℕ)
arg_pairs n lit first = arg_bindings (args_of n lit) (range first n)

pub arg_pairs_length : (n : ℕ) (lit : List ℕ) (first : ℕ) → length (arg_pairs n lit first) ≡ n
arg_pairs_length n lit first =
    pairs_length (args_of n lit) (range first n) (range_length first n ∙ sym (args_length n lit)) ∙ args_length n lit

-- the k arguments `left` are still to be bound, to the symbols from `symbol` on
pub record Binding (lit : List ℕ) (n top first : ℕ) (ws₀ ws : List ℕ) (left : List (ℕ × List ℕ)) (k symbol : ℕ) : Type 0 where
  pub count : k ≤ n
  pub as_many : length left ≡ k
  pub symbols : symbol + k ≡ first + n
  pub all : bound_all ws top (pairs left symbol) ≡ bound_all ws₀ top (arg_pairs n lit first)
  pub size : length ws ≡ length ws₀

module _ (lit : List ℕ) (n top first : ℕ) (ws₀ : List ℕ) where
  pub bind_start : (left : List (ℕ × List ℕ)) (k : ℕ) → left ≡ args_of n lit → k ≡ n
      → Binding lit n top first ws₀ ws₀ left k first
  bind_start left k e f =
      let m : length left ≡ n = ap length e ∙ args_length n lit in
      record { count = omega arith; as_many = m ∙ sym f; symbols = omega arith; all = rw (m, e); size = refl }

  module _ (ws : List ℕ) (left : List (ℕ × List ℕ)) (k symbol : ℕ)
      (h : Binding lit n top first ws₀ ws left k symbol) where
    module _ (a : ℕ × List ℕ) (more : List (ℕ × List ℕ)) (e : left ≡ a ∷ more) where
      bind_some : 0 < k
      bind_some = omega (arith, ap length e, h.as_many)

      bind_turn : (ws' : List ℕ) → ws' ≡ bound ws (top + (k - 1)) a.0 symbol
          → Binding lit n top first ws₀ ws' more (k - 1) (symbol + 1)
      unfolding bound_all range
      bind_turn ws' is = record {
        count = omega (arith, h.count);
        as_many = fewer;
        symbols = omega (arith, h.symbols, bind_some);
        all = sym step ∙ h.all;
        size = ap length is ∙ simp length-set h.size;
      }
        where
          fewer : length more ≡ k - 1
          fewer = omega (arith, ap length e, h.as_many)

          -- the first argument that is left, and those after it
          step : bound_all ws top (pairs left symbol) ≡ bound_all ws' top (pairs more (symbol + 1))
          step =
              let rest = pairs more (suc symbol) in
              ap (λ (xs : List (ℕ × List ℕ)). bound_all ws top (pairs xs symbol)) e
              ∙ ap (λ (j : ℕ). bound_all (bound ws (top + j) a.0 symbol) top rest) (pairs_many more (suc symbol) ∙ fewer)
              ∙ rw (is, add-one symbol)

      -- by the entry that it becomes
      pub bind_at : (j : ℕ) → k ≡ j + 1 → (ws' : List ℕ) → ws' ≡ bound ws (top + j) a.0 symbol
          → Binding lit n top first ws₀ ws' more j (symbol + 1)
      bind_at j f ws' is =
          let g : k - 1 ≡ j = omega arith in
          rw g at (bind_turn ws' (rw g is))

    -- none are left where no entry is
    pub bind_none : k ≡ 0 → left ≡ []
    bind_none e = nil_from_length left (omega (arith, h.as_many))

    pub bind_end : left ≡ [] → ws ≡ bound_all ws₀ top (arg_pairs n lit first)
    unfolding bound_all
    bind_end e = sym (ap (λ (xs : List (ℕ × List ℕ)). bound_all ws top (pairs xs symbol)) e) ∙ h.all

-- what the calls ask
pub ruleset binding = (all_stand)
