-- The record that a symbol was made for: what is said of it by the symbol's node and count of children.
-- Assumes nothing.
use Rattle.std.specs.Prelude.{ℕ, ◌<◌, ◌≡◌, List, Option, None, Some}
use Rattle.record.specs.Record.{row_at}
use Rattle.key.specs.declared.Node.{Node}
use Rattle.key.specs.declared.Node.TheVariants.{Const, Unparsed, Arg, Lambda, Op}
use Rattle.key.specs.Key.{symbol_at}

-- record i is a SelectField, and a symbol made for it has one child
pub record FieldRecord (bs : List ℕ) (i count : ℕ) : Type 0 where
  pub shape : (row_at bs i).rec.shape ≡ 17
  pub opcode : (row_at bs i).rec.opcode ≡ 0x8C
  pub one : count ≡ 1

-- record i stands for an operation as it is, or makes a projection to a field
abbrev pub OpSourced : List ℕ → ℕ → Option ℕ → ℕ → Type 0
OpSourced bs i None count = (row_at bs i).kids ≡ count
OpSourced bs i (Some field) count = FieldRecord bs i count

-- the record that a node was made for has `count` children; a lambda's is a lambda with one, and a projection that no
-- record of the forest stands for was made for a SelectField
abbrev pub Sourced : List ℕ → Node → ℕ → Type 0
Sourced bs (Const l) count = ((row_at bs l.source).kids ≡ 0) × (count ≡ 0)
Sourced bs (Unparsed l) count = ((row_at bs l.source).kids ≡ 0) × (count ≡ 0)
Sourced bs (Arg l) count = count ≡ 0
Sourced bs (Lambda f) count = ((row_at bs f.source).rec.shape ≡ 12) × (count ≡ 1)
Sourced bs (Op o) count = OpSourced bs o.source o.field count

-- each of the first n symbols
abbrev pub AllSourced : List ℕ → List ℕ → ℕ → Type 0
AllSourced bs ws n = (s : ℕ) → s < n → Sourced bs (symbol_at ws s).node (symbol_at ws s).count
