-- Symbols visited from the root downward: what is reached and counted is what model has. In order: one visit; visits
-- downward; the whole, from words cleared and the root stored as reached; what `visit` requires and shows.
-- Assumes nothing.
use Prim.Native.Nat.{ℕ, zero, suc, ◌+◌, ◌<◌, ◌≤◌}
use mathlib.Core.Path.{◌≡◌, refl, sym, ap, ap₂, ◌∙◌}
use mathlib.Core.Bool.{Bool, true, false, ◌||◌}
use mathlib.Core.List.{List, [], ◌∷◌}
use native.Mathlib.Omega.{arith}
use lib.Dec.{eqb}
use lib.ListN.{length, set}
use lib.Seq.{get_or-set_same, get_or-set_other}
use borrow.Author.Tests.{eqb-true, eqb-false}
use Rattle.model.specs.Lists.{is_in, count, union}
use Rattle.model.specs.Intern.{Sym, sym_at}
use Rattle.model.specs.Gate.{reach, reachable, usage}
use Rattle.laws.proofs.Frame.{frame_store}
use Rattle.regions.specs.Regions.{SLOTS, USES, REACHED, WORDS}
use Rattle.laws.proofs.Members.{is_in_true, in_is_in, union_left}
use Rattle.laws.proofs.Reached.{reach_keeps, reach_misses}
use Rattle.symbols.specs.Symbols.{kids_at, syms_of}
use Rattle.symbols.proofs.Laws.{kids_at_lem}
use Rattle.gate.specs.Gate.{uses_at, reached_at, cleared, all_noted, visited, visited_down, Countable, CountsOnly}
use Rattle.gate.specs.Gate.{bit, Reached}
use Rattle.laws.specs.Members.{Under}
use Rattle.gate.proofs.Words.{OnlyBelow, below_none, below_then, cleared-below, cleared-zero}
use Rattle.gate.proofs.Words.{all_noted-below, all_noted_frame, all_noted_uses, all_noted_reached}
use Rattle.gate.proofs.Reach.{total, slots_total}
use Rattle.gate.proofs.Run.{kids_under, kids_kept, countable_kept, countable_less}

-- ---- one visit

-- the words after it, by whether the symbol is reached
abbrev by_reached : Bool → List ℕ → List ℕ → List ℕ
by_reached t ws ks = elim t [ true ↦ all_noted ws ks | false ↦ ws ]

module _ (kids : ℕ → List ℕ) (ws : List ℕ) (s : ℕ) where
  visited_by : (t : Bool) (ks : List ℕ) → eqb (reached_at ws s) 1 ≡ t → kids s ≡ ks → visited kids ws s ≡ by_reached t ws ks
  unfolding visited
  visited_by t ks e f = ap₂ (λ (u : Bool) (z : List ℕ). by_reached u ws z) e f

  visited-below : (n : ℕ) → n ≤ 512 → Under n (kids s) → OnlyBelow n ws (visited kids ws s)
  unfolding visited
  visited-below n few under = go (eqb (reached_at ws s) 1)
    where
      go : (t : Bool) → OnlyBelow n ws (by_reached t ws (kids s))
      go true = all_noted-below n few ws (kids s) under
      go false = below_none n ws

  module _ (under : Under 512 (kids s)) where
    pub visited_frame : CountsOnly ws (visited kids ws s)
    visited_frame = (visited-below 512 (omega arith) under).kept

    -- a count goes up by at most the slots
    pub visited-bound : WORDS ≤ length ws → (t : ℕ) → t < 512 → count t (kids s) ≤ SLOTS.size →
        uses_at (visited kids ws s) t ≤ uses_at ws t + SLOTS.size
    unfolding visited
    visited-bound long t lt short = go (eqb (reached_at ws s) 1)
      where
        go : (b : Bool) → uses_at (by_reached b ws (kids s)) t ≤ uses_at ws t + SLOTS.size
        go true = omega (arith, all_noted_uses ws (kids s) under long t lt)
        go false = omega arith

pub visited_agree : (kids kids' : ℕ → List ℕ) (ws : List ℕ) (s : ℕ) → kids' s ≡ kids s →
    visited kids' ws s ≡ visited kids ws s
unfolding visited
visited_agree kids kids' ws s e = visited_by kids' ws s (eqb (reached_at ws s) 1) (kids s) refl e

-- ---- visits downward

pub down_step : (kids : ℕ → List ℕ) (ws ws' : List ℕ) (s : ℕ) → ws' ≡ visited kids ws s →
    visited_down kids ws' s ≡ visited_down kids ws (suc s)
unfolding visited_down
down_step kids ws ws' s e = rw e

down-below : (kids : ℕ → List ℕ) (n : ℕ) → n ≤ 512 → (m : ℕ) → ((t : ℕ) → t < m → Under n (kids t)) → (ws : List ℕ) →
    OnlyBelow n ws (visited_down kids ws m)
unfolding visited_down
down-below kids n few zero h ws = below_none n ws
down-below kids n few (suc m) h ws =
    below_then n ws (visited kids ws m) (visited_down kids (visited kids ws m) m)
    (visited-below kids ws m n few (h m (omega arith)))
    (down-below kids n few m (λ t l. h t (omega arith)) (visited kids ws m))

bit_is : (b : Bool) → eqb (bit b) 1 ≡ b
bit_is true = refl
bit_is false = refl

module _ (ss : List Sym) (n : ℕ) (few : n ≤ 512) (low : (t : ℕ) → t < n → Under t (sym_at ss t).kids)
    (kids : ℕ → List ℕ) (same : (t : ℕ) → t < n → kids t ≡ (sym_at ss t).kids) (s : ℕ) where
  -- what was counted and reached from ws on: the slots of the symbols below m that are in `is`, and these
  abbrev Result : ℕ → List ℕ → List ℕ → List ℕ → Type 0
  Result m ws is ws' =
      (uses_at ws' s ≡ uses_at ws s + total (λ t. count s (sym_at ss t).kids) is m) ×
      (reached_at ws' s ≡ bit (is_in s is))

  down_result : (m : ℕ) → m ≤ n → (ws seen : List ℕ) → WORDS ≤ length ws →
      ((t : ℕ) → t < n → reached_at ws t ≡ bit (is_in t seen)) → s < n →
      Result m ws (reach ss m seen) (visited_down kids ws m)
  unfolding visited_down reach
  down_result zero l ws seen long known lt = (omega arith, known s lt)
  down_result (suc m) l ws seen long known lt =
      let ks = (sym_at ss m).kids in
      let u : Under 512 ks = λ a i. omega (arith, low m (omega arith) a i) in
      let met : eqb (reached_at ws m) 1 ≡ is_in m seen =
      ap (λ (x : ℕ). eqb x 1) (known m (omega arith)) ∙ bit_is (is_in m seen) in
      rw (visited_by kids ws m (is_in m seen) ks met (same m (omega arith)))
      (go (is_in m seen) refl u
      (down_result m (omega arith) (all_noted ws ks) (union seen ks) (omega (arith, (all_noted_frame ws ks u).long))
      (λ t k. all_noted_reached ws ks u long t (omega arith) seen (known t k)) lt)
      (down_result m (omega arith) ws seen long known lt))
    where
      ks : List ℕ
      ks = (sym_at ss m).kids

      go : (b : Bool) → is_in m seen ≡ b → Under 512 ks →
          Result m (all_noted ws ks) (reach ss m (union seen ks)) (visited_down kids (all_noted ws ks) m) →
          Result m ws (reach ss m seen) (visited_down kids ws m) →
          Result (suc m) ws (elim b [ true ↦ reach ss m (union seen ks) | false ↦ reach ss m seen ])
          (visited_down kids (by_reached b ws ks) m)
      go true e u r q =
          let i : is_in m (reach ss m (union seen ks)) ≡ true =
          in_is_in m (reach ss m (union seen ks))
          (reach_keeps ss m (union seen ks) m (union_left m seen ks (is_in_true m seen e))) in
          (rw i (omega (arith, r.0, all_noted_uses ws ks u long s (omega arith))), r.1)
      go false e u r q =
          let i : is_in m (reach ss m seen) ≡ false = reach_misses ss n low m (omega arith) seen e in
          (rw i (omega (arith, q.0)), q.1)

-- ---- the whole: words cleared, the root stored as reached, and visits from it downward

module _ (ws : List ℕ) (n root : ℕ) (st : Countable ws n) (lt : root < n) where
  abbrev pub rooted : List ℕ
  rooted = set (cleared ws n) (REACHED.first + root) 1

  rooted_below : OnlyBelow n ws rooted
  rooted_below =
      let few : root < 512 = omega (arith, st.few) in
      below_then n ws (cleared ws n) rooted (cleared-below ws n st.few)
      (record {
        kept = frame_store _ _ (REACHED.first + root) 1 (cleared ws n) (omega arith) (omega arith);
        others = λ s ge l. (
          get_or-set_other (cleared ws n) (REACHED.first + root) (USES.first + s) 1 0 (λ e. omega arith),
          get_or-set_other (cleared ws n) (REACHED.first + root) (REACHED.first + s) 1 0 (λ e. omega arith),
        );
      })

  rooted_uses : (s : ℕ) → s < n → uses_at rooted s ≡ 0
  rooted_uses s l =
      let few : s < 512 = omega (arith, st.few) in
      get_or-set_other (cleared ws n) (REACHED.first + root) (USES.first + s) 1 0 (λ e. omega arith)
      ∙ (cleared-zero ws n st.few s st.words l).0

  rooted_reached : (s : ℕ) → s < n → reached_at rooted s ≡ bit (is_in s (root ∷ []))
  unfolding is_in
  rooted_reached s l = go (eqb s root) refl
    where
      go : (t : Bool) → eqb s root ≡ t → reached_at rooted s ≡ bit (t || false)
      go true e =
          let q : s ≡ root = eqb-true s root e in
          let few : root < 512 = omega (arith, st.few) in
          rw q
          (get_or-set_same (cleared ws n) (REACHED.first + root) 1 0
          (omega (arith, (cleared-below ws n st.few).kept.long, st.words)))
      go false e =
          let h : s ≡ root → ⊥ = eqb-false s root e in
          get_or-set_other (cleared ws n) (REACHED.first + root) (REACHED.first + s) 1 0 (λ q. h (omega arith))
          ∙ (cleared-zero ws n st.few s st.words l).1

  module _ (ws' : List ℕ) (is : ws' ≡ visited_down (kids_at rooted) rooted (suc root)) where
    same_kids : (bs : List ℕ) (t : ℕ) → t < n → kids_at rooted t ≡ (sym_at (syms_of bs ws n) t).kids
    same_kids bs t l =
        kids_kept ws rooted rooted_below.kept t (omega (arith, st.few)) (st.kids t l) ∙ sym (kids_at_lem bs ws n t l)

    low : (bs : List ℕ) (t : ℕ) → t < n → Under t (sym_at (syms_of bs ws n) t).kids
    low bs t l = rw (kids_at_lem bs ws n t l) (kids_under ws t (st.kids t l))

    all_below : OnlyBelow n ws ws'
    all_below =
        rw is
        (below_then n ws rooted (visited_down (kids_at rooted) rooted (suc root)) rooted_below
        (down-below (kids_at rooted) n st.few (suc root)
        (λ t k a i. omega (arith, low [] t (omega arith) a (rw (same_kids [] t (omega arith)) at i))) rooted))

    pub reached : Reached ws ws' n root
    unfolding usage reachable
    reached = record {
      uses = λ bs scs s l.
          rw is
          ((result bs s l).0
          ∙ rw (rooted_uses s l) (omega (arith, slots_total (syms_of bs ws n) n (low bs) root lt s)));
      reached = λ bs s l. rw is (result bs s l).1;
      kept = all_below.kept;
      others = all_below.others;
    }
      where
        result : (bs : List ℕ) (s : ℕ) → s < n →
            Result (syms_of bs ws n) n st.few (low bs) (kids_at rooted) (same_kids bs) s (suc root) rooted
            (reach (syms_of bs ws n) (suc root) (root ∷ [])) (visited_down (kids_at rooted) rooted (suc root))
        result bs s l =
            down_result (syms_of bs ws n) n st.few (low bs) (kids_at rooted) (same_kids bs) s (suc root) (omega arith)
            rooted (root ∷ []) (omega (arith, st.words, rooted_below.kept.long)) rooted_reached l

-- what `visit` requires of these words, and what it shows of them
module _ (ws ws₁ : List ℕ) (n root : ℕ) (st : Countable ws n) (lt : root < n) (clears : ws₁ ≡ cleared ws n) where
  pub rooted_ready : Countable (set ws₁ (REACHED.first + root) 1) (suc root) ×
      ((s : ℕ) → s < suc root → uses_at (set ws₁ (REACHED.first + root) 1) s ≡ 0)
  rooted_ready =
      let vs = rooted ws n root st lt in
      rw clears (
        countable_less vs (suc root) n lt
            (countable_kept ws vs (rooted_below ws n root st lt).kept n st),
        λ s l. rooted_uses ws n root st lt s (omega arith),
      )

  pub reached_from : (ws' : List ℕ) →
      ws' ≡ visited_down (kids_at (set ws₁ (REACHED.first + root) 1)) (set ws₁ (REACHED.first + root) 1) (suc root) → Reached ws ws' n root
  reached_from ws' is = reached ws n root st lt ws' (rw clears at is)
