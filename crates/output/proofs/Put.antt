-- Laws of `Put`. In order: nothing; from its parts; the same bytes; one part after another; as bytes written.
-- Assumes nothing.
use Prim.Native.Nat.{ℕ, ◌+◌}
use mathlib.Core.Path.{◌≡◌, refl, sym, ap, ◌∙◌, subst}
use mathlib.Core.List.{List, [], ◌++◌, append_assoc}
use native.Mathlib.Omega.{arith}
use lib.ListN.{length, length-append}
use Rattle.output.specs.declared.Output.{Output}
use Rattle.output.specs.Output.{over, Wrote, Room, Put}
use Rattle.output.proofs.Over.{over-nil, over-length, over_then}

pub put_none : (o : Output) → Put o [] o
put_none o = record {
  same = refl;
  len = refl;
  ends = omega arith;
  fits = o.within;
  holds = sym (over-nil o.bytes.now o.at);
}

pub put_part : {o o' : Output} {bytes : List ℕ} → Room o (length bytes) → o'.bytes.ghost_name ≡ o.bytes.ghost_name →
    o'.at ≡ o.at + length bytes → o'.bytes.now ≡ over o.bytes.now o.at bytes → Put o bytes o'
put_part {o} {o'} {bytes} h s e f =
    let l : length o'.bytes.now ≡ length o.bytes.now = ap length f ∙ over-length o.bytes.now o.at bytes h in
    record { same = s; len = l; ends = e; fits = omega arith; holds = f }

-- the same bytes
pub put_as : {o o' : Output} {bytes bytes' : List ℕ} → bytes ≡ bytes' → Put o bytes o' → Put o bytes' o'
put_as {o} {o'} e = subst (λ (z : List ℕ). Put o z o') e

-- ---- one part after another

module _ {o o₁ o₂ : Output} {a : List ℕ} (first : Put o a o₁) where
  pub put_then : {b : List ℕ} → Put o₁ b o₂ → Put o (a ++ b) o₂
  put_then {b} second =
      let e : o₂.at ≡ o.at + length a + length b = omega (arith, first.ends, second.ends) in
      record {
        same = second.same ∙ first.same;
        len = second.len ∙ first.len;
        ends = omega (arith, length-append a b);
        fits = second.fits;
        holds = over_then o.bytes.now o₁.bytes.now o₂.bytes.now o.at o₁.at a b first.holds second.holds first.ends
            (omega (arith, second.fits, second.len, first.len));
      }

  -- two parts at once
  pub put_both : (b c : List ℕ) → Put o₁ (b ++ c) o₂ → Put o (a ++ b ++ c) o₂
  put_both b c second = put_as (sym (append_assoc a b c)) (put_then second)

-- ---- over bytes from a place on

pub put_wrote : {o o' : Output} {out bytes : List ℕ} {at : ℕ} → o.bytes.now ≡ out → o.at ≡ at → Put o bytes o' →
    Wrote out at bytes o'.bytes.now o'.at
put_wrote {o} {o'} {out} {bytes} e z p =
    subst (λ (n : ℕ). Wrote out n bytes o'.bytes.now o'.at) z
    (subst (λ (l : List ℕ). Wrote l o.at bytes o'.bytes.now o'.at) e
    (record { ends = p.ends; fits = omega (arith, p.fits, p.len); holds = p.holds }))
