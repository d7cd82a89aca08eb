-- A number's bytes as `to_le_bytes` gives them: the highest is all that is left above the others.
-- Assumes nothing.
use Prim.Native.Nat.{ℕ, ◌/◌, ◌%◌, ◌<◌}
use mathlib.Core.Path.{◌≡◌}
use native.Mathlib.Omega.{arith}
use Rattle.std.specs.Int.{w16, w32, to_le_bytes}
use Rattle.std.proofs.Math.Nat.{mod-eq_of_lt}
use Rattle.model.specs.Bytes.{put16, put32}

pub bytes_16 : (n : ℕ) → n < 65536 → to_le_bytes w16 n ≡ put16 n
unfolding put16
bytes_16 n h =
    let high : n / 256 % 256 ≡ n / 256 = mod-eq_of_lt (omega arith) in
    simp high

pub bytes_32 : (n : ℕ) → n < 4294967296 → to_le_bytes w32 n ≡ put32 n
unfolding put32
bytes_32 n h =
    let high : n / 16777216 % 256 ≡ n / 16777216 = mod-eq_of_lt (omega arith) in
    simp high
