-- `output::Output::put_bytes` meets its contract. Assumes nothing.
use Prim.Native.Nat.{ℕ, ◌+◌, ◌-◌}
use mathlib.Core.Path.{◌≡◌, refl, ◌∙◌}
use native.Mathlib.Omega.{arith}
use lib.ListN.{length, take, drop}
use lib.Seq.{paste-zero, length-take-le}
use Rattle.std.proofs.lemmas.List.{length-drop}
use Rattle.std.proofs.lemmas.Slice.{put_mid-paste}
use Rattle.output.proofs.Over.{paste_over, copied_one, copied_all}
use Rattle.output.proofs.Put.{put_part}
use Rattle.output.proofs.Output.put_bytes.Goals as goal

pub loop-k-init : goal.loop-k-init
loop-k-init c = paste-zero _ 0 c.args.bytes.now

pub loop-k-preserved : goal.loop-k-preserved
loop-k-preserved c = copied_one _ c.args.bytes.now c.loop-k.k _ (omega arith) (omega arith) c.loop-k.invariant

pub returns : goal.returns
returns c =
    let o = c.args.self.now in
    let bytes = c.args.bytes.now in
    let n : ℕ = o.at + length bytes - o.at in
    let there : length (take n (drop o.at o.bytes.now)) ≡ length bytes =
    omega (
      arith,
      c.requires,
      length-drop o.at o.bytes.now,
      length-take-le n (drop o.at o.bytes.now) (omega (arith, c.requires, length-drop o.at o.bytes.now)),
    ) in
    let whole = copied_all (take n (drop o.at o.bytes.now)) bytes c.loop-k.k c.loop-k.place there (omega arith) c.loop-k.invariant in
    put_part c.requires refl refl
    (put_mid-paste _ _ _ _ _ (length bytes) whole (omega arith) refl ∙ paste_over o.bytes.now o.at bytes)
