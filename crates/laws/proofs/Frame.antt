-- Laws of `Frame` and `Agree`. In order: nothing done; one step after another; a wider run, and a step inside it; what
-- agrees beside the run; the words from a place on; a store. Assumes nothing.
use Prim.Native.Nat.{ℕ, ◌+◌, ◌-◌, ◌<◌, ◌≤◌}
use mathlib.Core.Path.{◌≡◌, refl, ap, sym, ◌∙◌}
use mathlib.Core.List.{List}
use native.Mathlib.Omega.{arith}
use lib.ListN.{set, drop, length-set, length-drop}
use lib.Seq.{get_or-set_other, get_or-drop, ext_get_or}
use Rattle.laws.specs.Frame.{Agree, Frame}

pub frame_none : (lo hi : ℕ) (ws : List ℕ) → Frame lo hi ws ws
frame_none lo hi ws = record { long = refl; before = λ k l. refl; after = λ k l. refl }

pub frame_then : (lo hi : ℕ) (ws us vs : List ℕ) → Frame lo hi ws us → Frame lo hi us vs → Frame lo hi ws vs
frame_then lo hi ws us vs f g = record {
  long = g.long ∙ f.long;
  before = λ k l. g.before k l ∙ f.before k l;
  after = λ k l. g.after k l ∙ f.after k l;
}

pub frame_wider : (lo hi lo' hi' : ℕ) (ws us : List ℕ) → Frame lo hi ws us → lo' ≤ lo → hi ≤ hi' → Frame lo' hi' ws us
frame_wider lo hi lo' hi' ws us f l r = record {
  long = f.long;
  before = λ k b. f.before k (omega arith);
  after = λ k a. f.after k (omega arith);
}

-- a step that leaves alone all but a part of the run
pub frame_inside : (lo hi lo' hi' : ℕ) (ws us vs : List ℕ) → Frame lo hi ws us → Frame lo' hi' us vs → lo ≤ lo' →
    hi' ≤ hi → Frame lo hi ws vs
frame_inside lo hi lo' hi' ws us vs f g l r = frame_then lo hi ws us vs f (frame_wider lo' hi' lo hi us vs g l r)

pub frame_below : (lo hi a b : ℕ) (ws us : List ℕ) → Frame lo hi ws us → b ≤ lo → Agree ws us a b
frame_below lo hi a b ws us f h k l r = f.before k (omega arith)

pub frame_drop : (lo hi n : ℕ) (ws us : List ℕ) → Frame lo hi ws us → hi ≤ n → drop n us ≡ drop n ws
frame_drop lo hi n ws us f h =
    ext_get_or 0 (drop n us) (drop n ws)
    (length-drop n us ∙ ap (λ (m : ℕ). m - n) f.long ∙ sym (length-drop n ws))
    (λ i lt. get_or-drop n us i 0 ∙ f.after (n + i) (omega arith) ∙ sym (get_or-drop n ws i 0))

pub agree_store : (ws : List ℕ) (i v lo hi : ℕ) → hi ≤ i → Agree ws (set ws i v) lo hi
agree_store ws i v lo hi h k l r = get_or-set_other ws i k v 0 (λ e. omega arith)

pub frame_store : (lo hi i v : ℕ) (ws : List ℕ) → lo ≤ i → i < hi → Frame lo hi ws (set ws i v)
frame_store lo hi i v ws l r = record {
  long = length-set ws i v;
  before = λ k b. get_or-set_other ws i k v 0 (λ e. omega arith);
  after = λ k a. get_or-set_other ws i k v 0 (λ e. omega arith);
}
