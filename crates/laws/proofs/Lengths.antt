-- How long what is written is. In order: a record's bytes; a directory; records; a forest.
-- Assumes nothing.
use mathlib.Core.Path.{◌≡◌, refl, ap₂, ◌∙◌}
use mathlib.Core.List.{List, [], ◌∷◌}
use Prim.Native.Nat.{ℕ, ◌+◌, ◌*◌}
use native.Mathlib.Omega.{arith}
use lib.ListN.{length, length-append}
use Rattle.model.specs.Bytes.{put16}
use Rattle.model.specs.Tree.{Row, row_bytes, row_len, directory, bodies, forest_of}
use Rattle.laws.specs.Rows.{total}

pub row_length : (r : Row) → length (row_bytes r) ≡ row_len r
unfolding row_bytes row_len put16
row_length r = omega arith

pub directory-length : (at : ℕ) (rs : List Row) → length (directory at rs) ≡ 4 * length rs
unfolding directory put16
directory-length at [] = refl
directory-length at (r ∷ rs) = omega (arith, directory-length (at + row_len r) rs)

pub bodies-length : (rs : List Row) → length (bodies rs) ≡ total rs
unfolding bodies
bodies-length [] = refl
bodies-length (r ∷ rs) = length-append (row_bytes r) (bodies rs) ∙ ap₂ ◌+◌ (row_length r) (bodies-length rs)

pub forest_length : (n : ℕ) (rs : List Row) → length (forest_of n rs) ≡ 4 + 4 * length rs + total rs
unfolding forest_of put16
forest_length n rs =
    let d = directory (4 + 4 * length rs) rs in
    omega (arith, length-append d (bodies rs), directory-length (4 + 4 * length rs) rs, bodies-length rs)
