-- The walk by record number keeps to the walk over trees.
-- In order: where a record stands; one subtree; subtrees in a row; a forest.
-- Assumes nothing.
use Prim.Native.Nat.{ℕ, suc, ◌+◌, ◌-◌, ◌*◌, ◌<◌, ◌≤◌}
use mathlib.Core.Path.{◌≡◌, refl, sym, ap, ◌∙◌, subst}
use mathlib.Core.Bool.{Bool, true, false}
use mathlib.Core.List.{List, ◌++◌}
use Rattle.std.specs.Prelude.{Option, Result, Ok, Err, IfSome, IsNone}
use Rattle.std.specs.Result.{result_err}
use native.Mathlib.Omega.{arith}
use lib.Dec.{eqb}
use lib.ListN.{length, set}
use Rattle.model.specs.Lists.{first}
use Rattle.model.specs.Tree.{Trees, nil, cons, many, take_t, drop_t, size, sizes}
use Rattle.model.specs.Faults.{faults_in}
use Rattle.model.specs.Forest.{record_count, tree_count, trees_of}
use Rattle.model.specs.Binding.{inside, after}
use Rattle.laws.proofs.Apart.{true_false}
use Rattle.laws.proofs.Header.{header_of}
use Rattle.laws.proofs.Trees.{size_some}
use Rattle.laws.specs.Stack.{stack_of}
use Rattle.laws.specs.Frame.{Frame}
use Rattle.laws.proofs.Frame.{frame_none, frame_inside}
use Rattle.record.specs.Record.{row_at}
use Rattle.regions.specs.Regions.{IDS, end}
use Rattle.walk.specs.declared.Context.{Context}
use Rattle.walk.specs.declared.Test.{Test}
use Rattle.walk.specs.Faults.{Ctx, start, test_at, check_by}
use Rattle.walk.specs.Words.{ids_of, Bound, ctx_of, child_of}
use Rattle.walk.specs.Walk.{trees_from, kid_trees_at, rest_at, tree_at, WellFormed, CanStand, shift, Comes}
use Rattle.walk.specs.Walk.{Ends, Noted}
use Rattle.walk.specs.Walk.{Walked, WalkedIn, Checked}
use Rattle.walk.proofs.Words.{ids_kept, bound_own}
use Rattle.walk.proofs.Bridge.{trees_left, trees_all, tree_count_lem, kids_there, records_few, ids_room}
use Rattle.walk.proofs.Ends.{all_records, subtree_within, noted_none, later_kept, noted_child}
use Rattle.walk.proofs.Steps.{shift_zero, node_offends, node_passes, Remains, remains_start, remains_end}
use Rattle.walk.proofs.Steps.{remains_offends}
use Rattle.walk.proofs.Steps.{remains_turn}

-- ---- where a record stands

stands_kept : (ws ws' : List ℕ) (c : Context) → Frame c.top (end IDS) ws ws' → ctx_of ws' c ≡ ctx_of ws c
stands_kept ws ws' c h =
    ap (λ (z : List ℕ). record { depth = c.depth; def = c.def; ids = z }) (ids_kept c.top (end IDS) ws ws' h)

-- ---- one subtree

-- a step above top, after one above a lower top
within : (top top' : ℕ) (a b c : List ℕ) → top ≤ top' → Frame top (end IDS) a b → Frame top' (end IDS) b c →
    Frame top (end IDS) a c
within top top' a b c l p q = frame_inside top (end IDS) top' (end IDS) a b c p q l (omega arith)

walked_none : (bs : List ℕ) (n : Test) (i : ℕ) (at : Context) (ws es : List ℕ) → WalkedIn bs n i 0 at ws ws es es (Ok i)
unfolding take_t drop_t sizes faults_in first
walked_none bs n i at ws es = record {
  fault = refl;
  comes = (omega arith, refl);
  noted = noted_none bs i es;
  kept = frame_none at.top (end IDS) ws;
}

module _ (bs : List ℕ) (n : Test) (i : ℕ) (at : Context) (ws es : List ℕ) where
  pub subtree_offends : (ws' : List ℕ) (b : Bool) → i < record_count bs → b ≡ test_at n (ctx_of ws' at) (row_at bs i).rec → b ≡ true →
      Frame at.top (end IDS) ws ws' → Walked bs n i at ws ws' es es (Err i)
  subtree_offends ws' b l e t h = record {
    fault =
        node_offends (check_by n) i (row_at bs i).rec (kid_trees_at bs i) (ctx_of ws at)
        (ap (λ (z : Ctx). test_at n z (row_at bs i).rec) (sym (stands_kept ws ws' at h)) ∙ sym e ∙ t);
    comes = l;
    noted = record { ends = tt; kept = frame_none (i + 1) (record_count bs) es };
    kept = h;
  }

  -- where the children stand
  abbrev below : Bool → ℕ → Context
  below d end = record { depth = at.depth + 1; def = d; top = end }

  below_is : (ws' : List ℕ) (s end : ℕ) → s ≡ (row_at bs i).rec.shape →
      ids_of ws' end ≡ inside (row_at bs i).rec ++ ids_of ws at.top →
      ctx_of ws' (below (eqb s 11) end) ≡ (check_by n).inner (row_at bs i).rec (ctx_of ws at)
  below_is ws' s end e f = let z : at.depth + 1 ≡ suc at.depth = omega arith in rw (e, f, z)

  pub subtree_passes : (ws₁ ws₂ es' : List ℕ) (b : Bool) (s kids end : ℕ) (r : Result ℕ ℕ) →
      Bound ws at.top (inside (row_at bs i).rec) ws₁ end → b ≡ test_at n (ctx_of ws₁ at) (row_at bs i).rec → b ≡ false →
      s ≡ (row_at bs i).rec.shape → kids ≡ (row_at bs i).kids →
      WalkedIn bs n (i + 1) kids (below (eqb s 11) end) ws₁ ws₂ es es' r → Walked bs n i at ws ws₂ es es' r
  unfolding kid_trees_at rest_at size
  subtree_passes ws₁ ws₂ es' b s kids end r bound e f g h w = record {
    fault =
        w.fault
        ∙ ap (λ (z : Ctx). shift (i + 1) (first (faults_in (check_by n) (take_t kids (trees_from bs (i + 1))) z)))
        (below_is ws₁ s end g bound.ids)
        ∙ ap (λ (z : ℕ). shift (i + 1) (first (faults_in (check_by n) (take_t z (trees_from bs (i + 1))) under))) h
        ∙ node_passes (check_by n) i (row_at bs i).rec (kid_trees_at bs i) (ctx_of ws at)
        (ap (λ (z : Ctx). test_at n z (row_at bs i).rec) (sym (stands_kept ws ws₁ at bound.kept)) ∙ sym e ∙ f);
    comes = came r w.comes;
    noted = w.noted;
    kept = within at.top end ws ws₁ ws₂ bound.least bound.kept w.kept;
  }
    where
      under : Ctx
      under = (check_by n).inner (row_at bs i).rec (ctx_of ws at)

      came : (r : Result ℕ ℕ) →
          Comes bs (i + 1) (sizes (take_t kids (trees_from bs (i + 1)))) (drop_t kids (trees_from bs (i + 1))) r →
          Comes bs i (size (tree_at bs i)) (rest_at bs i) r
      came (Ok j) c = (
        omega (arith, c.0, ap (λ (z : ℕ). sizes (take_t z (trees_from bs (i + 1)))) h),
        c.1 ∙ ap (λ (z : ℕ). drop_t z (trees_from bs (i + 1))) h,
      )
      came (Err p) c = c

  -- a record with no children
  pub subtree_leaf : (ws₁ : List ℕ) (b : Bool) (kids end : ℕ) →
      Bound ws at.top (inside (row_at bs i).rec) ws₁ end → b ≡ test_at n (ctx_of ws₁ at) (row_at bs i).rec → b ≡ false →
      kids ≡ (row_at bs i).kids → kids ≡ 0 → Walked bs n i at ws ws₁ es es (Ok (i + 1))
  subtree_leaf ws₁ b kids end bound e f h z =
      subtree_passes ws₁ ws₁ es b _ 0 end _ bound e f refl (sym z ∙ h) (walked_none bs n (i + 1) _ ws₁ es)

pub below_stands : (i : ℕ) (at : Context) (d : Bool) (end : ℕ) → CanStand i at → end ≤ at.top + 15 →
    CanStand (i + 1) (record { depth = at.depth + 1; def = d; top = end })
below_stands i at d end h l = record { shallow = omega (arith, h.shallow); few = omega (arith, h.few) }

-- ---- subtrees in a row

-- the walk of `count` trees from record i on has come to record j, with `left` trees left
pub record Walking (bs : List ℕ) (n : Test) (i count : ℕ) (at : Context) (ws₀ ws es₀ es : List ℕ) (j left top : ℕ) : Type 0
  where
    pub trees : Remains bs (test_at n) i count (ctx_of ws₀ at) j left
        (record { depth = at.depth; def = at.def; ids = ids_of ws top })
    pub onward : i ≤ j
    pub more : at.top ≤ top
    pub few : top ≤ 15 * j
    pub noted : Noted bs i es₀ es (Ok j)
    pub kept : Frame at.top (end IDS) ws₀ ws

module _ (bs : List ℕ) (n : Test) (i count : ℕ) (at : Context) (ws₀ es₀ : List ℕ) where
  pub walking_start : count ≤ many (trees_from bs i) → CanStand i at →
      Walking bs n i count at ws₀ ws₀ es₀ es₀ i count at.top
  walking_start l h = record {
    trees = remains_start bs (test_at n) i count (ctx_of ws₀ at) l;
    onward = omega arith;
    more = omega arith;
    few = h.few;
    noted = noted_none bs i es₀;
    kept = frame_none at.top (end IDS) ws₀;
  }

  module _ (ws es : List ℕ) (j left top : ℕ) (h : Walking bs n i count at ws₀ ws es₀ es j left top) where
    abbrev d : Ctx
    d = record { depth = at.depth; def = at.def; ids = ids_of ws top }

    pub walking_end : left ≤ 0 → WalkedIn bs n i count at ws₀ ws es₀ es (Ok j)
    walking_end l =
        let e = remains_end bs (test_at n) i count (ctx_of ws₀ at) j left d h.trees l in
        record { fault = e.0; comes = e.1; noted = h.noted; kept = h.kept }

    module _ (l : 0 < left) where
      -- a record is left
      pub walking_there : j < record_count bs
      walking_there = trees_left bs j (omega (arith, h.trees.there))

      -- its subtree ends within the forest
      pub walking_low : {c : Context} {ws₁ es₁ : List ℕ} {r : Result ℕ ℕ} {next : ℕ} → r ≡ Ok next →
          Walked bs n j c ws ws₁ es es₁ r → next ≤ record_count bs
      walking_low {r} e w =
          omega (
            arith,
            subtree_within bs j walking_there,
            (subst (λ (z : Result ℕ ℕ). Comes bs j (size (tree_at bs j)) (rest_at bs j) z) e w.comes).0,
          )

      pub walking_stands : (c : Context) → c ≡ child_of at (left - 1) top → CanStand i at → CanStand j c
      walking_stands c e s =
          subst (λ (z : Context). CanStand j z) (sym e)
          (record { shallow = omega (arith, s.shallow, h.onward); few = h.few })

      pub walking_offends : (ws₁ es₁ : List ℕ) (c : Context) (r : Result ℕ ℕ) (p : ℕ) → c ≡ child_of at (left - 1) top →
          r ≡ Err p →
          Walked bs n j c ws ws₁ es es₁ r → WalkedIn bs n i count at ws₀ ws₁ es₀ es₁ (Err p)
      walking_offends ws₁ es₁ c r p f e v = record {
        fault =
            remains_offends bs (test_at n) i count (ctx_of ws₀ at) j left d h.trees l walking_there p
            (ap result_err (sym e) ∙ w.fault);
        comes =
            let there : Comes bs j (size (tree_at bs j)) (rest_at bs j) (Err p) =
            subst (λ (z : Result ℕ ℕ). Comes bs j (size (tree_at bs j)) (rest_at bs j) z) e w.comes in there;
        noted = record { ends = tt; kept = later_kept bs i j es₀ es es₁ h.onward h.noted.kept w.noted.kept };
        kept = within at.top top ws₀ ws ws₁ h.more h.kept w.kept;
      }
        where
          w : Walked bs n j (child_of at (left - 1) top) ws ws₁ es es₁ r
          w = subst (λ (z : Context). Walked bs n j z ws ws₁ es es₁ r) f v

      pub walking_turn : (ws₁ ws₂ es₁ : List ℕ) (c : Context) (r : Result ℕ ℕ) (next top' : ℕ) →
          record_count bs ≤ length es₁ → c ≡ child_of at (left - 1) top →
          r ≡ Ok next → Walked bs n j c ws ws₁ es es₁ r → Bound ws₁ top (after (tree_at bs j)) ws₂ top' →
          Walking bs n i count at ws₀ ws₂ es₀ (set es₁ j next) next (left - 1) top'
      walking_turn ws₁ ws₂ es₁ c r next top' long f e v b = record {
        trees =
            remains_turn bs (test_at n) i count (ctx_of ws₀ at) j left d h.trees l walking_there next
            (record { depth = at.depth; def = at.def; ids = ids_of ws₂ top' }) (ap result_err (sym e) ∙ w.fault)
            came.0 came.1
            (ap (λ (z : List ℕ). record { depth = at.depth; def = at.def; ids = z })
            (b.ids ∙ ap (λ (z : List ℕ). after (tree_at bs j) ++ z) (ids_kept top (end IDS) ws ws₁ w.kept)));
        onward = omega (arith, forward, h.onward);
        more = omega (arith, h.more, b.least);
        few = omega (arith, forward, h.few, b.most);
        noted =
            noted_child bs i j next es₀ es es₁ h.onward walking_there h.noted
            (subst (λ (z : Result ℕ ℕ). Noted bs (j + 1) es es₁ z) e w.noted) came.0 long;
        kept =
            within at.top top ws₀ ws₁ ws₂ h.more
            (within at.top top ws₀ ws ws₁ h.more h.kept w.kept) b.kept;
      }
        where
          w : Walked bs n j (child_of at (left - 1) top) ws ws₁ es es₁ r
          w = subst (λ (z : Context). Walked bs n j z ws ws₁ es es₁ r) f v

          came : Comes bs j (size (tree_at bs j)) (rest_at bs j) (Ok next)
          came = subst (λ (z : Result ℕ ℕ). Comes bs j (size (tree_at bs j)) (rest_at bs j) z) e w.comes

          forward : j + 1 ≤ next
          forward = omega (arith, came.0, size_some (tree_at bs j))

-- ---- a forest

take_all : (ts : Trees) → take_t (many ts) ts ≡ ts
unfolding take_t many
take_all nil = refl
take_all (cons t ts) = ap (cons t) (take_all ts)

module _ (bs : List ℕ) (count : ℕ) (sound : WellFormed bs) (e : count ≡ tree_count bs) where
  abbrev origin : Context
  origin = record { depth = 1; def = false; top = 0 }

  pub trees_there : count ≤ many (trees_from bs 0)
  trees_there = omega (arith, e, tree_count_lem bs sound.closed, ap many (trees_all bs))

  pub trees-whole : take_t count (trees_from bs 0) ≡ trees_of bs
  trees-whole =
      let c : count ≡ many (trees_of bs) = e ∙ sym (tree_count_lem bs sound.closed) in
      rw (c, trees_all bs) (take_all (trees_of bs))

  module _ (n : Test) (ws ws' es es' : List ℕ) (r : Result ℕ ℕ) (w : WalkedIn bs n 0 count origin ws ws' es es' r) where
    forest_place : result_err r ≡ first (faults_in (check_by n) (trees_of bs) start)
    unfolding ids_of stack_of
    forest_place =
        w.fault
        ∙ ap (λ (z : Trees). shift 0 (first (faults_in (check_by n) z (ctx_of ws origin)))) trees-whole
        ∙ shift_zero (first (faults_in (check_by n) (trees_of bs) start))

    forest_low : (r : Result ℕ ℕ) → Comes bs 0 (sizes (take_t count (trees_from bs 0))) (drop_t count (trees_from bs 0)) r →
        IfSome (result_err r) (λ p. p < record_count bs)
    forest_low (Ok j) c = tt
    forest_low (Err p) c = c

    -- the walk has come to the end of the forest
    all_noted : (r : Result ℕ ℕ) → Comes bs 0 (sizes (take_t count (trees_from bs 0))) (drop_t count (trees_from bs 0)) r →
        Noted bs 0 es es' r → IsNone (result_err r) → Ends bs 0 (record_count bs) es'
    all_noted (Ok j) c v none = λ k l m. v.ends k l (omega (arith, c.0, ap sizes trees-whole, all_records bs))
    all_noted (Err p) c v none = true_false none

    pub forest_checked : (o : Option ℕ) → o ≡ result_err r → Checked bs n ws ws' es es' o
    forest_checked o e = record {
      place = e ∙ forest_place;
      low = subst (λ (z : Option ℕ). IfSome z (λ p. p < record_count bs)) (sym e) (forest_low r w.comes);
      kept = w.kept;
      ends = λ none. all_noted r w.comes w.noted (subst (λ (z : Option ℕ). IsNone z) e none);
      entries = w.noted.kept;
    }

pub ruleset walking = (
  bound_own,
  kids_there,
  records_few,
  ids_room,
  below_stands,
  subtree_offends,
  subtree_passes,
  subtree_leaf,
  walking_start,
  walking_there,
  walking_stands,
  walking_offends,
  walking_turn,
  walking_end,
  header_of,
  trees_there,
)
