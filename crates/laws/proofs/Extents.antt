-- How many records the subtree of each record has (`extents`), by rows: of trees that grow from rows, a row's subtree is the
-- row with the trees that it takes from those after it.
-- In order: as many extents as records; trees taken and left; rows.
-- Assumes nothing.
use mathlib.Core.Path.{◌≡◌, refl, ap, ap₂, ◌∙◌}
use mathlib.Core.List.{List, [], ◌∷◌, ◌++◌, append_assoc}
use Prim.Native.Nat.{ℕ, zero, suc, ◌+◌, ◌<◌}
use native.Mathlib.Omega.{arith}
use lib.ListN.{length, get_or, drop, length-append}
use Rattle.model.specs.Tree.{Row, Tree, Trees, node, nil, cons, take_t, drop_t, size, sizes, grow}
use Rattle.model.specs.Nesting.{extents, extents_in}

-- ---- as many as records

mutual
  unfolding extents size

  extents_length : (t : Tree) → length (extents t) ≡ size t
  extents_length (node r ts) = ap suc (extents_lengths ts)

  pub extents_lengths : (ts : Trees) → length (extents_in ts) ≡ sizes ts
  extents_lengths nil = refl
  extents_lengths (cons t ts) =
      length-append (extents t) (extents_in ts) ∙ ap₂ ◌+◌ (extents_length t) (extents_lengths ts)

-- ---- trees taken and left

extents_split : (k : ℕ) (ts : Trees) → extents_in (take_t k ts) ++ extents_in (drop_t k ts) ≡ extents_in ts
unfolding extents take_t drop_t
extents_split zero ts = refl
extents_split (suc k) nil = refl
extents_split (suc k) (cons t ts) =
    append_assoc (extents t) (extents_in (take_t k ts)) (extents_in (drop_t k ts))
    ∙ ap (λ (l : List ℕ). extents t ++ l) (extents_split k ts)

-- ---- rows

extents_grow : (r : Row) (rs : List Row) →
    extents_in (grow (r ∷ rs)) ≡ suc (sizes (take_t r.kids (grow rs))) ∷ extents_in (grow rs)
unfolding extents grow
extents_grow r rs = ap (λ (l : List ℕ). suc (sizes (take_t r.kids (grow rs))) ∷ l) (extents_split r.kids (grow rs))

-- trees that grow from rows have as many records
pub sizes_grow : (rs : List Row) → sizes (grow rs) ≡ length rs
unfolding grow extents
sizes_grow rs = omega (arith, extents_lengths (grow rs), lengths rs)
  where
    lengths : (rs : List Row) → length (extents_in (grow rs)) ≡ length rs
    lengths [] = refl
    lengths (r ∷ rs) = ap length (extents_grow r rs) ∙ ap suc (lengths rs)

-- the subtree of row i, counted from 0
pub extent_at : (rs : List Row) (none : Row) (i : ℕ) → i < length rs →
    get_or (extents_in (grow rs)) i 0 ≡ suc (sizes (take_t (get_or rs i none).kids (grow (drop (suc i) rs))))
extent_at [] none i l = absurd (omega arith)
extent_at (r ∷ rs) none zero l = ap (λ (es : List ℕ). get_or es 0 0) (extents_grow r rs)
extent_at (r ∷ rs) none (suc i) l =
    ap (λ (es : List ℕ). get_or es (suc i) 0) (extents_grow r rs) ∙ extent_at rs none i (omega arith)
