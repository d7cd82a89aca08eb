-- A text put into a buffer as far as there is room for it. In order: from a place on; where an output had come to.
-- Assumes nothing.
use Rattle.std.specs.Prelude.{ℕ, ◌-◌, List, length, take}
use Rattle.output.specs.declared.Output.{Output}
use Rattle.output.specs.Output.{Wrote, Put}

-- of s, what has room was written over `out` at `at`: the output afterwards, and the place after it
pub record Clipped (out : List ℕ) (at : ℕ) (s out' : List ℕ) (next : ℕ) : Type 0 where
  pub is : Wrote out at (take (length out - at) s) out' next

-- of s, what has room was put
pub record PutClipped (o : Output) (s : List ℕ) (o' : Output) : Type 0 where
  pub is : Put o (take (length o.bytes.now - o.at) s) o'
