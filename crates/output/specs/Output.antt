-- Bytes over a part of an output; the rest keeps its values. In order: the output with them; that they were written;
-- room; that they were put where an output had come to.
-- Assumes nothing.
use Rattle.std.specs.Prelude.{ℕ, ◌+◌, ◌≤◌, ◌≡◌, List, ◌++◌, length, take, drop}
use Rattle.output.specs.declared.Output.{Output}

-- `out` with these bytes from place `at` on
unfoldable pub over : List ℕ → ℕ → List ℕ → List ℕ
over out at bytes = take at out ++ bytes ++ drop (at + length bytes) out

-- bytes were written over `out` at `at`: the place after them, within the output, and the output afterwards
pub record Wrote (out : List ℕ) (at : ℕ) (bytes : List ℕ) (out' : List ℕ) (next : ℕ) : Type 0 where
  pub ends : next ≡ at + length bytes
  pub fits : next ≤ length out
  pub holds : out' ≡ over out at bytes

-- ---- an output with the place that it has come to

-- it has room for n bytes
abbrev pub Room : Output → ℕ → Type 0
Room o n = o.at + n ≤ length o.bytes.now

-- bytes were put: into the same memory, from its place on, and its place is now after them
pub record Put (o : Output) (bytes : List ℕ) (o' : Output) : Type 0 where
  pub same : o'.bytes.ghost_name ≡ o.bytes.ghost_name
  pub len : length o'.bytes.now ≡ length o.bytes.now
  pub ends : o'.at ≡ o.at + length bytes
  pub fits : o'.at ≤ length o'.bytes.now
  pub holds : o'.bytes.now ≡ over o.bytes.now o.at bytes
