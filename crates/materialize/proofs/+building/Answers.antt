-- The functions of the cycle `building` of `materialize` meet their contracts. In order: what the code has read; the
-- functions, as they stand in the code.
-- Assumes nothing.
use Prim.Native.Nat.{ℕ, ◌<◌}
use mathlib.Core.Path.{◌≡◌, refl, sym, ◌∙◌}
use mathlib.Core.Logic.{◌⊎◌, inl, inr}
use mathlib.Core.List.{List, []}
use lib.ListN.{length}
use native.Mathlib.Omega.{arith}
use Rattle.model.specs.Forest.{record_count}
use Rattle.key.specs.declared.Symbol.{Symbol}
use Rattle.key.specs.declared.Leaf.{Leaf}
use Rattle.key.specs.declared.Node.TheVariants.{Const, Unparsed}
use Rattle.key.specs.Key.{symbol_at}
use Rattle.graph.specs.declared.held.Graph.{Graph}
use Rattle.schedule.specs.Schedule.{Scheduled}
use Rattle.planner.specs.declared.source.Source.{Source}
use Rattle.planner.specs.Planning.{fresh_tree}
use Rattle.planner.proofs.Operands.{opened_there}
use Rattle.planner.proofs.Loaded.{node_loaded, kids_loaded, put_as, source_low, row_writable, node_opens}
use Rattle.planner.proofs.Nodes.{plans_over, plans_use, plans_new, plans_leaf, plans_argument, plans_thunk}
use Rattle.planner.proofs.Sites.{site_on}
use Rattle.planner.proofs.Lasting.{ids_under, ids_after, ids_inside, ids_outside, added_back, added_none, added_one, added_more, added_some, up_to_one}
use Rattle.planner.proofs.Applying.{operands-start, operands_next, operand_low, operands_over, operands_end}
use Rattle.planner.proofs.Applying.{operation_rows, plans_operation}
use Rattle.planner.proofs.Binding.{lambda_fits, lambda_writable, body_low, lambda_child, lambda_rows, plans_lambda}
use Rattle.planner.proofs.Scoping.{plans_memberless, plans_result, block_rows, plans_block, block_over}
use Rattle.planner.proofs.Scoping.{defines_none, defines_one, defines_other, defines_more}
use Rattle.planner.proofs.Scoping.{define_over, value_over, defines_over}
use Rattle.planner.proofs.Labels.{labels_over, labels_use, labels_new, labels_leaf, labels_argument}
use Rattle.planner.proofs.Labels.{labels_thunk, leads_none, leads_next, leads_end, labels_operation, labels_lambda}
use Rattle.planner.proofs.LabelScopes.{labels_none, labels_other, labels_one, labels_more, labels_memberless}
use Rattle.planner.proofs.LabelScopes.{labels_nobody, labels_block}
use Rattle.materialize.proofs.+building.Goals as goal
use Rattle.materialize.proofs.+building.Goals.{define-in-Some, define-in-None}

-- ---- what the code has read

leaf_loaded : (ws : List ℕ) (s : ℕ) {y : Symbol} {l : Leaf} → y ≡ symbol_at ws s → (y.node ≡ Const l) ⊎ (y.node ≡ Unparsed l)
    → ((symbol_at ws s).node ≡ Const l) ⊎ ((symbol_at ws s).node ≡ Unparsed l)
leaf_loaded ws s e (inl f) = inl (node_loaded _ _ e f)
leaf_loaded ws s e (inr f) = inr (node_loaded _ _ e f)

leaf_low : (x : Source) (s : ℕ) (lt : s < x.graph.symbols) (l : Leaf)
    → ((symbol_at x.graph.words.now s).node ≡ Const l) ⊎ ((symbol_at x.graph.words.now s).node ≡ Unparsed l)
    → l.source < record_count x.forest.now
leaf_low x s lt l (inl e) = source_low x s lt _ e
leaf_low x s lt l (inr e) = source_low x s lt _ e

-- a schedule, as a slice
ordered : {bs : List ℕ} {g : Graph} {root sc : ℕ} {order items : List ℕ} → order ≡ items
    → Scheduled bs g root sc items → Scheduled bs g root sc order
ordered e s = rw e s

-- ---- `build`

pub build-returns-then-id-ne0 : goal.build-returns-then-id-ne0
build-returns-then-id-ne0 t c = record {
  plans = plans_use _ c.requires.site.low _ c.if-id-ne0.true (c.put.ensures.grew c.args.source.now.forest.now tt);
  labels = labels_use _ c.requires.site.low _ c.if-id-ne0.true c.put.ensures.defining;
  kept = refl;
}

pub build-returns : goal.build-returns
build-returns t c = record {
  plans = plans_new _ c.requires.site.low _ c.if-id-ne0.false c.fresh.ensures.plans;
  labels = labels_new _ c.requires.site.low _ c.if-id-ne0.false c.fresh.ensures.labels;
  kept = c.fresh.ensures.kept;
}

-- ---- `fresh`

pub fresh-returns-in-Const : goal.fresh-returns-in-Const
fresh-returns-in-Const t c =
    let low = c.requires.site.low in
    let e = leaf_loaded _ _ c.load.ensures c.in-Const.is in
    record {
      plans = plans_leaf _ low _ _ e (c.put-in-Const.ensures.grew _ (leaf_low c.args.source.now _ low _ e));
      labels = labels_leaf _ low _ _ e c.put-in-Const.ensures.defining;
      kept = refl;
    }

pub fresh-returns-in-Arg : goal.fresh-returns-in-Arg
fresh-returns-in-Arg t c =
    let e = node_loaded _ _ c.load.ensures c.in-Arg.is in
    record {
      plans = plans_argument _ c.requires.site.low _ _ e (c.put.ensures.grew _ tt);
      labels = labels_argument _ c.requires.site.low _ _ e c.put.ensures.defining;
      kept = refl;
    }

-- ---- `operands`

pub operands-returns-in_err-q : goal.operands-returns-in_err-q
operands-returns-in_err-q t c =
    let x = c.args.source.now in
    let p = c.requires in
    let put = put_as c.row_of.ensures c.in_err-q.ensures.grew (row_writable x _ p.site.low _ p.s_value) in
    rw c.from_residual.ensures (record {
      plans = plans_over put (fresh_tree c.args.s c.args.last) (λ gr sc env st maps.
          (_, operation_rows x _ p.site.low _ _ _ p.s_value c.opcode-opcode.ensures gr sc env st));
      labels = labels_over _;
      kept = refl;
    })

pub operands-loop-j-init : goal.operands-loop-j-init
operands-loop-j-init t c =
    let x = c.args.source.now in
    let p = c.requires in
    let put = (put_as c.row_of.ensures c.in_ok-q.ensures.grew (row_writable x _ p.site.low _ p.s_value)).is in
    (put.few, operands-start x _ p.site.low _ _ _, leads_none x _ p.site.low _ _ _, refl)

pub operands-operand-requires : goal.operands-operand-requires
operands-operand-requires t c =
    let x = c.args.source.now in
    let at = c.requires.site in
    let low = operand_low x _ at.low (kids_loaded _ _ c.load.ensures c.children-kids.ensures) c.loop-j-test.true in (
      omega (arith, c.decreases, low),
      (
        record {
          low = omega (arith, low, at.low);
          room = omega (arith, low, at.room);
          count = c.loop-j.invariant.0;
          words = omega (arith, at.words, c.put.auto.plan, c.loop-j.auto.plan);
        },
        (
          opened_there _ c.args.o _ c.operand_scope-scope.ensures (node_opens x _ at.low _ c.requires.s_value),
          ids_under x c.requires.ids (omega (arith, low)) c.loop-j.invariant.3,
        ),
      ),
    )

pub operands-returns-in_err-q-2 : goal.operands-returns-in_err-q-2
operands-returns-in_err-q-2 t c =
    let x = c.args.source.now in
    let p = c.requires in
    let low = p.site.low in
    let put = (put_as c.row_of.ensures c.in_ok-q.ensures.grew (row_writable x _ low _ p.s_value)).is in
    let kids = kids_loaded _ _ c.load.ensures c.children-kids.ensures in
    rw c.from_residual-in_err-q-2.ensures (record {
      plans = plans_operation x _ low _ _ _ p.s_value c.opcode-opcode.ensures put tt
          (operands_over x _ low _ _ _ kids c.loop-j-test.true c.operand_scope-scope.ensures c.loop-j.invariant.1
          (rw c.loop-j.invariant.3 at c.in_err-q-2.ensures.plans));
      labels = labels_over _;
      kept = c.in_err-q-2.ensures.kept ∙ c.loop-j.invariant.3;
    })

pub operands-loop-j-preserved : goal.operands-loop-j-preserved
operands-loop-j-preserved t c =
    let kids = kids_loaded _ _ c.load.ensures c.children-kids.ensures in
    let x = c.args.source.now in
    let h = c.in_ok-q-2.ensures in (
      h.plans.few,
      operands_next x _ c.requires.site.low _ _ _ kids c.loop-j-test.true c.operand_scope-scope.ensures
          c.loop-j.invariant.1 (rw c.loop-j.invariant.3 at h.plans),
      leads_next x _ c.requires.site.low _ _ _ kids c.loop-j.invariant.2 c.loop-j-test.true c.operand_scope-scope.ensures
          (rw c.loop-j.invariant.3 at h.labels),
      h.kept ∙ c.loop-j.invariant.3,
    )

pub operands-returns : goal.operands-returns
operands-returns t c =
    let x = c.args.source.now in
    let p = c.requires in
    let low = p.site.low in
    let inv = c.loop-j.invariant in
    let put = (put_as c.row_of.ensures c.in_ok-q.ensures.grew (row_writable x _ low _ p.s_value)).is in
    let kids = kids_loaded _ _ c.load.ensures c.children-kids.ensures in
    record {
      plans = plans_operation x _ low _ _ _ p.s_value c.opcode-opcode.ensures put inv.0
          (operands_end x _ low _ _ _ kids (omega (arith, c.loop-j-test.false)) inv.0 inv.1);
      labels = labels_operation x _ low _ _ _ p.s_value c.opcode-opcode.ensures
          c.row_of.ensures c.in_ok-q.ensures.defining
          (leads_end x _ low _ _ _ kids inv.2 (omega (arith, c.loop-j-test.false)));
      kept = inv.3;
    }

-- ---- `operand`

pub operand-returns-in-Some : goal.operand-returns-in-Some
operand-returns-in-Some t c = record {
  plans = plans_thunk _ _ _ c.in-Some.is c.define.ensures.plans;
  labels = labels_thunk _ _ _ c.in-Some.is c.define.ensures.labels;
  kept = c.define.ensures.kept;
}

-- ---- `lambda`

pub lambda-bounds-children-0 : goal.lambda-bounds-children-0
lambda-bounds-children-0 t c =
    let kids = kids_loaded _ _ c.load.ensures c.children.ensures in
    let one = lambda_child c.args.source.now _ c.requires.site.low _ c.requires.s_value kids in
    omega (arith, one)

pub lambda-returns-in_err-q : goal.lambda-returns-in_err-q
lambda-returns-in_err-q t c =
    let x = c.args.source.now in
    let p = c.requires in
    let at = p.site in
    let kids = kids_loaded _ _ c.load.ensures c.children.ensures in
    let writable = lambda_writable x _ at.low _ p.s_value c.args.last (omega (arith, at.room)) in
    rw c.from_residual.ensures (record {
      plans = plans_over (c.in_err-q.ensures.grew _ writable) (fresh_tree c.args.s c.args.last) (λ gr sc env st maps.
          (_, lambda_rows x _ at.low _ _ p.s_value kids _ c.aux-count.ensures gr sc env st));
      labels = labels_over _;
      kept = refl;
    })

pub lambda-define-r-requires : goal.lambda-define-r-requires
lambda-define-r-requires t c =
    let x = c.args.source.now in
    let p = c.requires in
    let at = p.site in
    let fits = lambda_fits x _ at.low _ p.s_value in
    let low = body_low x _ at.low _ p.s_value (kids_loaded _ _ c.load.ensures c.children.ensures) in
    let writable = lambda_writable x _ at.low _ p.s_value c.args.last (omega (arith, at.room)) in
    let put = (c.in_ok-q.ensures.grew _ writable).is in (
      omega (arith, c.decreases, low),
      (
        record {
          low = omega (arith, low, at.low);
          room = omega (arith, low, c.aux-count.ensures, c.from.ensures, fits.few, at.room);
          count = put.few;
          words = omega (arith, at.words, c.put.auto.plan);
        },
        (
          fits.body,
          ids_inside x at.low p.ids _ p.s_value c.told-ids (c.from-many.ensures ∙ c.aux-count.ensures)
              (c.from.ensures ∙ c.aux-count.ensures) c.number.ensures low,
        ),
      ),
    )

pub lambda-returns : goal.lambda-returns
lambda-returns t c =
    let x = c.args.source.now in
    let p = c.requires in
    let at = p.site in
    let kids = kids_loaded _ _ c.load.ensures c.children.ensures in
    let writable = lambda_writable x _ at.low _ p.s_value c.args.last (omega (arith, at.room)) in
    let numbered = c.from-many.ensures ∙ c.aux-count.ensures in
    let passed = c.from.ensures ∙ c.aux-count.ensures in
    record {
      plans = plans_lambda x _ at.low _ _ p.s_value kids c.told-ids numbered passed c.number.ensures
          (c.in_ok-q.ensures.grew _ writable).is c.define-r.ensures.plans;
      labels = labels_lambda x _ at.low _ _ p.s_value kids c.told-ids numbered passed c.number.ensures
          c.in_ok-q.ensures.defining c.define-r.ensures.labels;
      kept = ids_outside x at.low p.ids _ p.s_value c.told-ids numbered (c.define-r.ensures.kept ∙ c.number.ensures)
          c.take_back_from.ensures;
    }

-- ---- `define`

pub define-returns-then-not-any_member : goal.define-returns-then-not-any_member
define-returns-then-not-any_member t c = record {
  plans = plans_memberless _ _ _ _ _ c.any_member.ensures c.if-not-any_member.true c.build.ensures.plans;
  labels = labels_memberless _ _ _ _ _ c.any_member.ensures c.if-not-any_member.true c.build.ensures.labels;
  kept = c.build.ensures.kept;
}

pub define-schedule-requires : goal.define-schedule-requires
define-schedule-requires t c =
    let b = c.args.source.now.buildable in
    record {
      stocked = record { arena = b.arena; lists = b.lists };
      root_lt_symbols = (c.requires.site.low, c.requires.sc_lt_scopes);
    }

pub define-returns-then-k-eq0 : goal.define-returns-then-k-eq0
define-returns-then-k-eq0 t c =
    let s = ordered c.as_slice-order.ensures.value c.schedule.ensures in
    record {
      plans = plans_result _ _ _ _ _ _ _ s.is c.members-k.ensures.1 c.if-k-eq0.true c.build-then-k-eq0.ensures.plans;
      labels = labels_nobody _ _ _ _ _ _ _ s.is c.members-k.ensures.1 c.if-k-eq0.true c.build-then-k-eq0.ensures.labels;
      kept = c.build-then-k-eq0.ensures.kept;
    }

pub define-returns-in_err-q : goal.define-returns-in_err-q
define-returns-in_err-q t c =
    let s = ordered c.as_slice-order.ensures.value c.schedule.ensures in
    let put = c.in_err-q.ensures.grew c.args.source.now.forest.now (omega (arith, c.members-k.ensures.0)) in
    let some : 0 < c.members-k.result = omega (arith, c.if-k-eq0.false) in
    rw c.from_residual.ensures (record {
      plans = plans_over put _ (λ gr at env st maps.
          (_, block_rows _ _ _ _ _ _ _ s.is c.members-k.ensures.1 some gr env st maps));
      labels = labels_over _;
      kept = refl;
    })

pub define-definitions-requires : goal.define-definitions-requires
define-definitions-requires t c =
    let s = ordered c.as_slice-order.ensures.value c.schedule.ensures in
    let put = (c.in_ok-q.ensures.grew c.args.source.now.forest.now (omega (arith, c.members-k.ensures.0))).is in (
      omega (arith, c.decreases),
      (site_on c.requires.site (omega arith) put.few c.put.auto.plan, (s.fit, (s.low, c.requires.ids))),
    )

pub define-build-r-requires : goal.define-build-r-requires
define-build-r-requires t c =
    let d = c.in-Some.ensures in (
      omega (arith, c.decreases),
      (
        site_on c.requires.site (omega (arith, d.plans.ids, c.as_slice-order.ensures.fits)) d.plans.few
            (c.definitions.auto.plan ∙ c.put.auto.plan),
        ids_after c.args.source.now c.requires.site.low c.requires.ids d.added d.rise.1,
      ),
    )

pub define-returns : goal.define-returns
define-returns t c =
    let s = ordered c.as_slice-order.ensures.value c.schedule.ensures in
    let put = (c.in_ok-q.ensures.grew c.args.source.now.forest.now (omega (arith, c.members-k.ensures.0))).is in
    let some : 0 < c.members-k.result = omega (arith, c.if-k-eq0.false) in
    let long : length c.match-definitions.ids ≡ length c.args.ids.now = c.match-definitions.array_long ∙ sym c.told-ids in
    elim c.match-definitions.branch [
      | define-in-Some w ↦
          let d = w.in-Some.ensures in
          record {
            plans = rw (w.plan-is, w.r-is)
                (plans_block _ _ _ _ _ _ _ s.is c.members-k.ensures.1 some put d.plans w.build-r.ensures.plans);
            labels = rw (w.plan-is, w.r-is)
                (labels_block _ _ _ _ _ _ _ s.is c.members-k.ensures.1 some c.in_ok-q.ensures.defining d.plans d.labels
                w.build-r.ensures.labels);
            kept = c.take_back.ensures ∙ added_back c.requires.ids d.added (w.ids-is ∙ w.build-r.ensures.kept) long;
          }
      | define-in-None w ↦ record {
        plans = rw (w.plan-is, w.r-is)
            (block_over _ _ _ _ _ _ _ s.is c.members-k.ensures.1 some put w.in-None.ensures.plans);
        labels = rw (w.plan-is, w.r-is) (labels_over _);
        kept = c.take_back.ensures ∙ added_back c.requires.ids w.in-None.ensures.added w.ids-is long;
      }
    ]

-- ---- `definitions`

pub definitions-loop-s-init : goal.definitions-loop-s-init
definitions-loop-s-init t c =
    (defines_none c.requires.site.count, labels_none _ _, added_none [] refl, (omega arith, c.requires.ids.up_to))

pub definitions-definition-requires : goal.definitions-definition-requires
definitions-definition-requires t c =
    let x = c.args.source.now in
    let p = c.requires in
    let h = c.loop-s.invariant in
    let up = p.by_index _ c.loop-s-test.true in (
      omega (arith, c.decreases, up, c.from.ensures),
      (
        record {
          low = omega (arith, up, c.from.ensures, p.site.low);
          room = omega (arith, h.0.ids, c.loop-s-test.true, p.order_bound, up, c.from.ensures, p.site.room);
          count = h.0.few;
          words = omega (arith, p.site.words, c.loop-s.auto.plan);
        },
        ids_under x (ids_after x p.site.low p.ids h.2 h.3.1) (omega (arith, up, c.from.ensures)) refl,
      ),
    )

pub definitions-returns-in_err-d : goal.definitions-returns-in_err-d
definitions-returns-in_err-d t c =
    rw c.from_residual.ensures (record {
      plans = defines_over c.args.order.now c.loop-s-test.true c.from.ensures c.loop-s.invariant.0 c.in_err-d.ensures.plans;
      labels = tt;
      added = added_some c.args.order.now _
          (added_more c.args.order.now c.loop-s-test.true c.from.ensures c.loop-s.invariant.2 c.loop-s.invariant.3.0 c.in_err-d.ensures.added);
      rise = tt;
    })

pub definitions-loop-s-preserved : goal.definitions-loop-s-preserved
definitions-loop-s-preserved t c =
    let h = c.loop-s.invariant in
    let d = c.in_ok-d.ensures in (
      defines_more c.args.order.now c.loop-s-test.true c.from.ensures h.0 d.plans,
      labels_more _ c.args.order.now c.loop-s-test.true c.from.ensures h.0 h.1 d.labels,
      added_more c.args.order.now c.loop-s-test.true c.from.ensures h.2 h.3.0 d.added,
      (omega (arith, h.3.0, d.rise.0), d.rise.1),
    )

-- ---- `definition`

pub definition-returns-in_err-q : goal.definition-returns-in_err-q
definition-returns-in_err-q t c =
    rw c.from_residual.ensures (record {
      plans = define_over _ _ c.if-member.true c.member.ensures.is (c.in_err-q.ensures.grew c.args.source.now.forest.now tt).is;
      labels = tt;
      added = added_none _ refl;
      rise = tt;
    })

pub definition-build-requires : goal.definition-build-requires
definition-build-requires t c =
    let put = (c.in_ok-q.ensures.grew c.args.source.now.forest.now tt).is in
    (omega (arith, c.decreases), (site_on c.requires.site (omega arith) put.few c.put.auto.plan, c.requires.ids))

pub definition-returns-in_err-r : goal.definition-returns-in_err-r
definition-returns-in_err-r t c =
    let put = (c.in_ok-q.ensures.grew c.args.source.now.forest.now tt).is in
    rw c.from_residual-in_err-r.ensures (record {
      plans = value_over c.args.above _ _ c.if-member.true c.member.ensures.is put c.in_err-r.ensures.plans;
      labels = tt;
      added = added_none _ c.in_err-r.ensures.kept;
      rise = tt;
    })

pub definition-returns-then-member : goal.definition-returns-then-member
definition-returns-then-member t c =
    let put = (c.in_ok-q.ensures.grew c.args.source.now.forest.now tt).is in
    let fit : c.args.s < length c.args.ids.now =
    omega (arith, c.told-ids, c.requires.site.low, c.args.source.now.graph.scoped.few) in
    rw c.in_ok-r.ensures.kept (record {
      plans = defines_one _ _ c.if-member.true c.member.ensures.is fit put c.in_ok-r.ensures.plans;
      labels = labels_one _ _ _ c.member.ensures.is c.if-member.true c.in_ok-q.ensures.defining c.in_ok-r.ensures.labels;
      added = added_one (c.member.ensures.new c.if-member.true) fit;
      rise = (omega arith, up_to_one c.args.ids.now c.requires.ids.up_to fit);
    })

pub definition-returns : goal.definition-returns
definition-returns t c = record {
  plans = defines_other _ _ c.if-member.false c.member.ensures.is c.requires.site.count;
  labels = labels_other _ _ _ c.member.ensures.is c.if-member.false;
  added = added_none _ refl;
  rise = (omega arith, c.requires.ids.up_to);
}
