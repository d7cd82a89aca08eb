-- A lambda's arguments, put on top one by one: what is left gives the whole.
-- Assumes nothing.
use Prim.Native.Nat.{ℕ, ◌+◌, ◌-◌, ◌<◌, ◌≤◌}
use mathlib.Core.Path.{◌≡◌, sym, ap, ◌∙◌, subst}
use mathlib.Core.List.{List, ◌∷◌, ◌++◌, map, append-nil, []}
use native.Mathlib.Omega.{arith}
use Rattle.std.proofs.lemmas.List.{nil_from_length}
use lib.ListN.{length, set}
use Rattle.model.specs.Binding.{args_of}
use Rattle.laws.specs.Stack.{stack_of}
use Rattle.laws.specs.Frame.{Frame}
use Rattle.laws.proofs.ArgLists.{args_length}
use Rattle.laws.proofs.Frame.{frame_none, frame_then, frame_store}
use Rattle.shape.proofs.Reading.{all_stand}
use Rattle.regions.specs.Regions.{IDS, end}
use Rattle.walk.specs.Words.{ids_in, arg_ids_at, Bound}
use Rattle.walk.proofs.Words.{push_one, pushed}

-- of n arguments k are left, to be put
pub record Pushing (lit : List ℕ) (n top : ℕ) (ws₀ ws : List ℕ) (left : List (ℕ × List ℕ)) (k : ℕ) : Type 0 where
  pub count : k ≤ n
  pub as_many : length left ≡ k
  pub ids : ids_in ws (top + k) (n - k) ++ map (λ (a : ℕ × List ℕ). a.0) left ≡ arg_ids_at n lit
  pub kept : Frame top (end IDS) ws₀ ws

module _ (lit : List ℕ) (n top : ℕ) (ws₀ : List ℕ) where
  pub push_start : (left : List (ℕ × List ℕ)) (k : ℕ) → left ≡ args_of n lit → k ≡ n → Pushing lit n top ws₀ ws₀ left k
  unfolding ids_in stack_of
  push_start left k e f = record {
    count = omega arith;
    as_many = ap length e ∙ args_length n lit ∙ sym f;
    ids = let z : n - n ≡ 0 = omega arith in rw (e, f, z);
    kept = frame_none top (end IDS) ws₀;
  }

  module _ (ws : List ℕ) (left : List (ℕ × List ℕ)) (k : ℕ) (h : Pushing lit n top ws₀ ws left k) where
    module _ (a : ℕ × List ℕ) (more : List (ℕ × List ℕ)) (e : left ≡ a ∷ more) where
      push_some : 0 < k
      push_some = omega (arith, ap length e, h.as_many)

      push_turn : top + n ≤ IDS.size → end IDS ≤ length ws₀ →
          Pushing lit n top ws₀ (set ws (top + (k - 1)) a.0) more (k - 1)
      push_turn few room = record {
        count = omega (arith, h.count);
        as_many = omega (arith, ap length e, h.as_many);
        ids =
            push_one ws top n k a.0 push_some h.count (omega (arith, h.kept.long)) (map (λ (b : ℕ × List ℕ). b.0) more)
            (arg_ids_at n lit)
            (ap (λ (z : List (ℕ × List ℕ)). ids_in ws (top + k) (n - k) ++ map (λ (b : ℕ × List ℕ). b.0) z) (sym e) ∙ h.ids);
        kept =
            frame_then top (end IDS) ws₀ ws (set ws (top + (k - 1)) a.0) h.kept
            (frame_store top (end IDS) (top + (k - 1)) a.0 ws (omega arith) (omega (arith, h.count, push_some)));
      }

      -- by the place that it is put at
      pub push_at : (j : ℕ) → k ≡ j + 1 → top + n ≤ IDS.size → end IDS ≤ length ws₀ →
          Pushing lit n top ws₀ (set ws (top + j) a.0) more j
      push_at j f few room =
          let g : k - 1 ≡ j = omega arith in
          subst (λ (m : ℕ). Pushing lit n top ws₀ (set ws (top + m) a.0) more m) g (push_turn few room)

    -- none are left where no place is
    pub push_none : k ≡ 0 → left ≡ []
    push_none e = nil_from_length left (omega (arith, h.as_many))

    pub push_end : left ≡ [] → n ≤ 15 → Bound ws₀ top (arg_ids_at n lit) ws (top + n)
    push_end e few = record {
      ids = pushed ws₀ ws top n (arg_ids_at n lit) all h.kept;
      least = omega arith;
      most = omega arith;
      kept = h.kept;
    }
      where
        all : ids_in ws top n ≡ arg_ids_at n lit
        all =
            let z : k ≡ 0 = omega (arith, ap length e, h.as_many) in
            let f : top + k ≡ top = omega arith in
            let g : n - k ≡ n = omega arith in
            sym (append-nil (ids_in ws top n))
            ∙ (rw (f, g) at (ap (λ (l : List (ℕ × List ℕ)). ids_in ws (top + k) (n - k) ++ map (λ (a : ℕ × List ℕ). a.0) l) (sym e) ∙ h.ids))

-- what the calls ask
pub ruleset pushing = (all_stand)
