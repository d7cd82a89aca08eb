-- The loop over symbols: what holds after some turns. In order: the start; what a turn needs; a turn; the end.
-- Assumes nothing.
use Prim.Native.Nat.{ℕ, zero, suc, ◌+◌, ◌*◌, ◌<◌, ◌≤◌}
use mathlib.Core.Path.{◌≡◌, ◌∙◌}
use mathlib.Core.List.{List}
use native.Mathlib.Omega.{arith}
use lib.ListN.{length}
use Rattle.regions.specs.Regions.{SLOTS, WORDS}
use Rattle.symbols.specs.Symbols.{kids_at}
use Rattle.gate.specs.Gate.{uses_at, visited, visited_down, Lower, Countable, Small, CountsOnly}
use Rattle.laws.proofs.Frame.{frame_none, frame_then}
use Rattle.laws.specs.Members.{Under}
use Rattle.gate.proofs.Run.{kids_under, kids_short, kids_kept, countable_kept}
use Rattle.gate.proofs.Visits.{visited_frame, visited-bound, visited_agree, down_step}

-- the words of symbols are kept, and the counts are bounded by the turns
pub record Going (ws ws' : List ℕ) (n turns : ℕ) : Type 0 where
  pub kept : CountsOnly ws ws'
  pub uses : (t : ℕ) → t < n → uses_at ws' t ≤ SLOTS.size * turns

module _ (ws : List ℕ) (n : ℕ) where
  pub going_start : ((s : ℕ) → s < n → uses_at ws s ≡ 0) → Going ws ws n 0
  going_start zeros = record { kept = frame_none _ _ ws; uses = λ t l. omega (arith, zeros t l) }

  module _ (st : Countable ws n) (ws' : List ℕ) (turns : ℕ) (going : Going ws ws' n turns) (s : ℕ) (lt : s < n) where
    below : s < 512
    below = omega (arith, st.few)

    lower : Lower ws' s
    lower = (countable_kept ws ws' going.kept n st).kids s lt

    under : Under 512 (kids_at ws' s)
    under a i = omega (arith, below, kids_under ws' s lower a i)

    enough : WORDS ≤ length ws'
    enough = omega (arith, going.kept.long, st.words)

    -- what `visit_symbol` requires
    pub turn_fits : turns ≤ 512 → ((s < 512) × (WORDS ≤ length ws')) × (Lower ws' s × Small ws' s)
    turn_fits few = ((below, enough), (lower, λ t l. omega (arith, going.uses t (omega arith))))

    -- the children as they were stored
    turn_kids : kids_at ws' s ≡ kids_at ws s
    turn_kids = kids_kept ws ws' going.kept s below (st.kids s lt)

    -- a turn that makes ws'' of them
    module _ (ws'' : List ℕ) (e : ws'' ≡ visited (kids_at ws') ws' s) where
      pub visited_going : Going ws ws'' n (turns + 1)
      visited_going = record {
        kept = rw e (frame_then _ _ ws ws' _ going.kept (visited_frame (kids_at ws') ws' s under));
        uses = rw e
            (λ t l. omega (
              arith,
              visited-bound (kids_at ws') ws' s under enough t (omega (arith, st.few)) (kids_short ws' s lower t),
              going.uses t l,
            ));
      }

      pub visited_next : visited_down (kids_at ws) ws'' s ≡ visited_down (kids_at ws) ws' (suc s)
      visited_next = down_step (kids_at ws) ws' ws'' s (e ∙ visited_agree (kids_at ws) (kids_at ws') ws' s turn_kids)

-- no visit is left
pub down-end : (kids : ℕ → List ℕ) (ws all : List ℕ) (s : ℕ) → s ≤ 0 → visited_down kids ws s ≡ all → ws ≡ all
unfolding visited_down
down-end kids ws all zero l e = e
down-end kids ws all (suc s) l e = absurd (omega arith)
