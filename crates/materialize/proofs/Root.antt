-- The root's tree: the scope of the root, outermost, with no ids. In order: planned in words of its own; the graph that
-- planning is lent of the whole words; the rows in the whole words; the contract.
-- Assumes nothing.
use Prim.Native.Nat.{ℕ, ◌+◌, ◌-◌, ◌<◌, ◌≤◌}
use mathlib.Core.Path.{◌≡◌, sym, ap, ◌∙◌, subst}
use Rattle.std.specs.Prelude.{Option, None, Some, MatchOption, IfSome}
use mathlib.Core.List.{List, [], ◌++◌}
use native.Mathlib.Omega.{arith}
use lib.ListN.{length, get_or, drop, replicate}
use lib.Seq.{get_or-drop}
use Rattle.model.specs.Tree.{Tree, rows, depth}
use Rattle.model.specs.Gate.{reachable}
use Rattle.model.specs.Materialize.{materialize, build_value, process_scope}
use Rattle.model.specs.Labels.{l_build_value, l_process_scope, labelled, defined_of}
use Rattle.laws.specs.Frame.{Agree}
use Rattle.laws.proofs.Frame.{frame_wider}
use Rattle.regions.specs.Regions.{PLAN, USES}
use Rattle.plan.specs.Plan.{plan_from, rows_for, symbols_in}
use Rattle.planner.specs.declared.Plan.{Plan}
use Rattle.planner.specs.declared.source.Source.{Source}
use Rattle.planner.specs.Grew.{Grew, Over, Defining, Grown}
use Rattle.planner.specs.Building.{Buildable}
use Rattle.planner.specs.Sources.{GraphIn}
use Rattle.planner.specs.Planning.{Plans, Labels}
use Rattle.planner.proofs.Ids.{maps_none}
use Rattle.materialize.specs.Materialize.{root_graph, root_tree, root_symbols, CountedIn, Counted}
use Rattle.materialize.specs.Materialize.{no_rows, PlanOnly, PlannedAs, Materialized}
use Rattle.materialize.proofs.Parts.{in_made, in_plan, past_plan, plan_frame, shifted, syms_made, scopes_made, buildable_made}

-- ---- in words of its own

module _ {bs ws us : List ℕ} {n m : ℕ} (root : ℕ) (counted : CountedIn bs ws n m root us) (x : Source)
    (forest : x.forest.now ≡ bs) (words : x.graph.words.now ≡ ws) (symbols : x.graph.symbols ≡ n)
    (scopes : x.graph.scopes ≡ m) (uses : x.uses.now ≡ us) where
  graph_there : GraphIn x (root_graph bs ws n m root)
  unfolding reachable
  graph_there = record {
    syms = rw (forest, words, symbols);
    scopes = rw (words, scopes);
    uses = λ s lt. rw uses (counted s (omega (arith, lt, symbols)));
  }

  pub root_planned : {pl pl' : List ℕ} {r : Option Plan}
      → Plans x (replicate 512 0) pl no_rows 0 (λ gr at env. process_scope gr (build_value gr) root 0 env 0) pl' r
      → Grown bs pl no_rows 0 (root_tree bs ws n m root) pl' r
  unfolding materialize
  root_planned {pl} {pl'} {r} h =
      subst (λ (z : List ℕ). Grown z pl no_rows 0 (root_tree bs ws n m root) pl' r) forest
      (h.grown (root_graph bs ws n m root) 0 [] graph_there maps_none)

  pub root_labels : {pl pl' : List ℕ} {r : Option Plan}
      → Labels x (replicate 512 0) pl no_rows (λ gr at env. defined_of (l_process_scope gr (l_build_value gr) root 0 env 0)) pl' r
      → Defining pl no_rows (root_symbols bs ws n m root) pl' r
  unfolding labelled
  root_labels h = h.are (root_graph bs ws n m root) 0 [] graph_there maps_none

module _ {bs ws : List ℕ} {n m : ℕ} (b : Buildable bs ws n m) (made pl others : List ℕ)
    (parts : ws ≡ made ++ (pl ++ others)) (first : length made ≡ PLAN.first) where
  same : Agree ws made 0 PLAN.first
  same k l r = sym (ap (λ (z : List ℕ). get_or z k 0) parts ∙ in_made made pl others k (omega (arith, first)))

  -- ---- the graph that planning is lent

  pub lent : Buildable bs made n m
  lent = buildable_made b made same first

  tree_same : (root : ℕ) → root_tree bs made n m root ≡ root_tree bs ws n m root
  tree_same root = rw (syms_made b made same first, scopes_made b made same first)

  symbols_same : (root : ℕ) → root_symbols bs made n m root ≡ root_symbols bs ws n m root
  symbols_same root = rw (syms_made b made same first, scopes_made b made same first)

  module _ (second : length pl ≡ PLAN.size) (root : ℕ) where
    pub counted_lent : {us : List ℕ} → us ≡ drop (USES.first - PLAN.first - PLAN.size) others
        → Counted bs ws n m root → CountedIn bs made n m root us
    counted_lent {us} uses counted s lt =
        let k = USES.first - PLAN.first - PLAN.size in
        let e : length made + (length pl + (k + s)) ≡ USES.first + s = omega (arith, first, second) in
        let word : get_or us s 0 ≡ get_or ws (USES.first + s) 0 =
        ap (λ (z : List ℕ). get_or z s 0) uses
        ∙ (get_or-drop k others s 0
        ∙ (sym (past_plan made pl others (k + s))
        ∙ (ap (λ (i : ℕ). get_or (made ++ (pl ++ others)) i 0) e
        ∙ ap (λ (z : List ℕ). get_or z (USES.first + s) 0) (sym parts)))) in
        rw (syms_made b made same first, scopes_made b made same first) (word ∙ counted s lt)

    -- ---- the rows in the whole words

    module _ (pl' : List ℕ) (long : length pl' ≡ length pl) where
      rows_same : (k : ℕ) → k ≤ 256 → plan_from (made ++ (pl' ++ others)) PLAN.first k ≡ plan_from pl' 0 k
      rows_same k l =
          let e : PLAN.first + 0 ≡ PLAN.first = omega arith in
          ap (λ (i : ℕ). plan_from (made ++ (pl' ++ others)) i k) (sym e)
          ∙ shifted (made ++ (pl' ++ others)) pl' PLAN.first 0 k (λ j lo hi.
          ap (λ (i : ℕ). get_or (made ++ (pl' ++ others)) (i + j) 0) (sym first)
          ∙ in_plan made pl' others j (omega (arith, hi, l, long, second)))

      kept : PlanOnly ws (made ++ (pl' ++ others))
      kept =
          subst (λ (z : List ℕ). PlanOnly z (made ++ (pl' ++ others))) (sym parts)
          (frame_wider _ _ _ _ _ _ (plan_frame made pl pl' others long) (omega (arith, first)) (omega (arith, first, second)))

      -- ---- the contract

      planned : (t : Tree) (p : Plan) → Grew bs pl no_rows (rows t) (0 + depth t) pl' p
          → PlannedAs bs ws t (made ++ (pl' ++ others)) p
      unfolding plan_from rows_for
      planned t p h =
          let e = rows_same p.rows h.few in
          record {
            count = omega (arith, h.count);
            few = h.few;
            plan = rw e h.plan;
            writable = rw e (h.writable tt);
            deepest = omega (arith, h.deepest);
            rest = λ k lo hi.
                let j = k - PLAN.first in
                let a : length made + j ≡ k = omega (arith, first, lo) in
                ap (λ (i : ℕ). get_or (made ++ (pl' ++ others)) i 0) (sym a)
                ∙ (in_plan made pl' others j (omega (arith, lo, hi, long, second))
                ∙ (h.rest j (omega (arith, lo))
                ∙ (sym (in_plan made pl others j (omega (arith, lo, hi, second)))
                ∙ (ap (λ (i : ℕ). get_or (made ++ (pl ++ others)) i 0) a
                ∙ ap (λ (z : List ℕ). get_or z k 0) (sym parts)))));
          }

      -- few rows, since they are planned
      symbols : (t : Tree) (r : Option Plan) → Grown bs pl no_rows 0 t pl' r
          → Defining pl no_rows (root_symbols bs made n m root) pl' r
          → IfSome r (λ p. symbols_in (plan_from (made ++ (pl' ++ others)) PLAN.first p.rows) ≡ root_symbols bs ws n m root)
      unfolding plan_from symbols_in
      symbols t None h k = tt
      symbols t (Some p) h k = rw (rows_same p.rows h.is.few) (k ∙ symbols_same root)

      pub materialized : {r : Option Plan} → Grown bs pl no_rows 0 (root_tree bs made n m root) pl' r
          → Defining pl no_rows (root_symbols bs made n m root) pl' r
          → Materialized bs ws n m root (made ++ (pl' ++ others)) r
      materialized {r} h k = record {
        planned = go (root_tree bs ws n m root) r
            (subst (λ (t : Tree). Grown bs pl no_rows 0 t pl' r) (tree_same root) h).is;
        symbols = symbols (root_tree bs made n m root) r h k;
        kept = kept;
      }
        where
          go : (t : Tree) (r : Option Plan)
              → MatchOption r (Over no_rows (rows t)) (λ p. Grew bs pl no_rows (rows t) (0 + depth t) pl' p)
              → MatchOption r (256 < length (rows t)) (λ p. PlannedAs bs ws t (made ++ (pl' ++ others)) p)
          go t None h = omega (arith, h.more)
          go t (Some p) h = planned t p h
