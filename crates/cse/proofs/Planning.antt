-- From counting and planning to a planned tree, and to symbols that are held. Assumes nothing.
use Prim.Native.Nat.{ℕ, ◌+◌, ◌≤◌, ◌<◌}
use mathlib.Core.Path.{◌≡◌, ◌∙◌, subst}
use mathlib.Core.List.{List}
use Rattle.std.specs.Prelude.{Option, None, Some, MatchOption, IfSome}
use native.Mathlib.Omega.{arith}
use lib.ListN.{length}
use Rattle.regions.specs.Regions.{SYMBOLS, SLOTS, PLAN, USES, REACHED, WORDS}
use Rattle.model.specs.Tree.{Tree, size, rows}
use Rattle.model.specs.Materialize.{materialize}
use Rattle.model.specs.Answer.{good}
use Rattle.model.specs.Forest.{trees_of}
use Rattle.model.specs.Accept.{accept}
use Rattle.model.specs.Call.{reached_of, tree_of, interned}
use Rattle.model.specs.Labels.{labelled, defined_of}
use Rattle.laws.proofs.Frame.{frame_then, frame_wider}
use Rattle.laws.proofs.Rows.{size_rows}
use Rattle.symbols.specs.Symbols.{syms_of}
use Rattle.symbols.proofs.Laws.{syms_agree}
use Rattle.scopes.specs.Scopes.{scopes_of}
use Rattle.scopes.proofs.Open.{scopes_agree}
use Rattle.interner.specs.declared.State.{State}
use Rattle.tables.specs.Tables.{new_tables}
use Rattle.interner.specs.State.{abs_of, Rep}
use Rattle.gate.specs.Gate.{Reached}
use Rattle.graph.specs.Graph.{Arena}
use Rattle.graph.proofs.Laws.{Still, still_above, arena_agree}
use Rattle.plan.specs.Plan.{plan_from, symbols_in}
use Rattle.planner.specs.declared.Plan.{Plan}
use Rattle.materialize.specs.Materialize.{Counted, PlannedAs, Materialized}
use Rattle.cse.specs.Call.{PlanOf, PlanWritable, Planned, Held}

-- words ws₁ with the uses counted, and ws₂ with the tree planned too
module _ (bs ws : List ℕ) (st : State) (rep : Rep bs ws st) (root : ℕ) (ws₁ : List ℕ)
    (reached : Reached ws ws₁ st.symbols root) where
  still : Still ws ws₁ SLOTS.size st.symbols st.scopes
  still = still_above reached.kept (omega arith) (omega arith) rep.arena.scoped

  syms_same : syms_of bs ws₁ st.symbols ≡ syms_of bs ws st.symbols
  syms_same = syms_agree bs ws ws₁ SLOTS.size still.slots st.symbols still.own rep.arena.sound

  scopes_same : scopes_of ws₁ st.scopes ≡ scopes_of ws st.scopes
  scopes_same = scopes_agree ws ws₁ st.scopes still.scopes

  pub uses_counted : Counted bs ws₁ st.symbols st.scopes root
  uses_counted s l = rw syms_same (reached.uses bs (scopes_of ws₁ st.scopes) s l)

  module _ (ws₂ : List ℕ) (r : Option Plan) (long : WORDS ≤ length ws₂)
      (done : Materialized bs ws₁ st.symbols st.scopes root ws₂ r) where
    tree_same : materialize (syms_of bs ws₁ st.symbols) (scopes_of ws₁ st.scopes) root
        ≡ tree_of (root, abs_of bs ws new_tables st)
    unfolding tree_of
    tree_same = rw (syms_same, scopes_same)

    pub planned_tree : Planned bs ws ws₂ (root, abs_of bs ws new_tables st) r
    planned_tree = record {
      tree = (go r is).0;
      ready = (go r is).1;
      kept = frame_then SYMBOLS.first WORDS ws ws₁ ws₂
          (frame_wider _ _ _ _ ws ws₁ reached.kept (omega arith) (omega arith))
          (frame_wider _ _ _ _ ws₁ ws₂ done.kept (omega arith) (omega arith));
    }
      where
        t : Tree
        t = tree_of (root, abs_of bs ws new_tables st)

        Is : Tree → Option Plan → Type 0
        Is x o = MatchOption o (256 < length (rows x)) (λ p. PlannedAs bs ws₁ x ws₂ p)

        is : Is t r
        is = subst (λ (x : Tree). Is x r) tree_same done.planned

        go : (o : Option Plan) → Is t o
            → MatchOption o (256 < size t) (λ p. PlanOf bs ws₂ t p) × IfSome o (λ p. PlanWritable bs ws₂ p)
        go None h = (omega (arith, h, size_rows t), tt)
        go (Some p) h = (
          record { count = h.count ∙ size_rows t; plan = h.plan; deepest = h.deepest },
          record { words = long; few = h.few; writable = h.writable },
        )

    -- its definitions, once it is planned
    defined : (p : Plan) → r ≡ Some p → symbols_in (plan_from ws₂ PLAN.first (size (tree_of (root, abs_of bs ws new_tables st))))
        ≡ defined_of (labelled (reached_of (root, abs_of bs ws new_tables st)) root)
    defined p is =
        let count = rw is at planned_tree.tree in
        let symbols = rw is at done.symbols in
        rw (← count.count, ← syms_same, ← scopes_same) symbols

    -- planning leaves symbols, scopes, uses and what is reached as they are
    pub held : accept bs ≡ good (trees_of bs) → interned bs ≡ good (root, abs_of bs ws new_tables st) → (p : Plan)
        → r ≡ Some p → Held bs ws₂ st.symbols
    held accepted interns p is =
        let a : Arena bs ws₁ st.symbols st.scopes =
        arena_agree still bs (λ i l. (rep.arena.sound i l).slots) rep.arena in
        let still₂ : Still ws₁ ws₂ SLOTS.size st.symbols st.scopes =
        still_above done.kept (omega arith) (omega arith) a.scoped in
        record {
          words = long;
          made = (root, abs_of bs ws new_tables st);
          accepted = accepted;
          interns = interns;
          scopes = st.scopes;
          arena = arena_agree still₂ bs (λ i l. (a.sound i l).slots) a;
          syms = syms_agree bs ws₁ ws₂ SLOTS.size still₂.slots st.symbols still₂.own a.sound ∙ syms_same;
          uses = λ s l.
              done.kept.after (USES.first + s) (omega arith) ∙ reached.uses bs (scopes_of ws st.scopes) s l;
          reached = λ s l. done.kept.after (REACHED.first + s) (omega arith) ∙ reached.reached bs s l;
          defined = defined p is;
        }
