-- What is required of a record whose own text is put, and what putting the lines of trees gives.
-- Assumes nothing.
use Rattle.std.specs.Prelude.{ℕ, ◌+◌, ◌≡◌, true, List}
use Rattle.model.specs.Tree.{rec, take_t, drop_t, sizes}
use Rattle.model.specs.Shape.{fits}
use Rattle.model.specs.Sheet.{trees_lines}
use Rattle.walk.specs.Walk.{trees_from}
use Rattle.output.specs.declared.Output.{Output}
use Rattle.sheet.specs.Clip.{PutClipped}

-- shape, aux and literal of a record that fits its shape
pub record Fits (shape aux : ℕ) (lit : List ℕ) : Type 0 where
  pub opcode : ℕ
  pub kids : ℕ
  pub is : fits (record { rec = rec shape opcode aux lit; kids = kids }) ≡ true

-- the lines of `count` trees from record i on were put, and r is the record after them
pub record Shown (bs : List ℕ) (i depth count : ℕ) (o o' : Output) (r : ℕ) : Type 0 where
  pub lines : PutClipped o (trees_lines i depth (take_t count (trees_from bs i))) o'
  pub next : r ≡ i + sizes (take_t count (trees_from bs i))
  pub rest : trees_from bs r ≡ drop_t count (trees_from bs i)
