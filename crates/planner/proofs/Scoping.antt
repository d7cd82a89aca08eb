-- A scope planned. In order: definitions side by side; one symbol of the order, defined or not; one symbol more; a
-- scope without definitions; a block.
-- Assumes nothing.
use Prim.Native.Nat.{ℕ, suc, ◌+◌, ◌<◌, ◌≤◌, max}
use mathlib.Core.Path.{◌≡◌, refl, sym, ap, ◌∙◌, subst}
use mathlib.Core.Bool.{Bool, true, false}
use Rattle.std.specs.Prelude.{Option, None, Some}
use mathlib.Core.List.{List, [], ◌∷◌, ◌++◌}
use native.Mathlib.Omega.{arith}
use native.Mathlib.Numerals.{add-one}
use lib.ListN.{length, get_or, set, take, drop, take-append-drop}
use lib.Seq.{take-suc}
use Rattle.model.specs.Tree.{Row, Tree, Trees, nil, cons, rows, rows_of, depth}
use Rattle.model.specs.Intern.{Env}
use Rattle.model.specs.Gate as model
use Rattle.model.specs.Schedule.{schedule}
use Rattle.model.specs.Materialize.{Defined, member, val_def_of, define, build_value, process_scope}
use Rattle.laws.specs.Defining.{join_t, members_in}
use Rattle.laws.proofs.Trees.{rows_join, def_rows, def_depth}
use Rattle.laws.proofs.Defining.{define-member, members_member, define_other, members_other, along, define-append}
use Rattle.laws.proofs.Falls.{schedule_low}
use Rattle.laws.proofs.Building.{scope_none, scope_rows, scope_depth}
use Rattle.graph.specs.Tests.{held_in}
use Rattle.plan.specs.declared.Planned.TheVariants.{ValDef, Block}
use Rattle.plan.specs.Plan.{row_for}
use Rattle.planner.specs.declared.Plan.{Plan}
use Rattle.planner.specs.Grew.{Grew, Over, Grown, deep_in}
use Rattle.planner.specs.declared.source.Source.{Source}
use Rattle.planner.specs.Building.{Maps}
use Rattle.planner.specs.Sources.{GraphIn, Member, Members, AnyMember}
use Rattle.planner.specs.Planning.{Plans, DefinesIn, Defines, DefinesOver}
use Rattle.planner.proofs.Growing.{grew_none, grew_then, grew_as, grew_over, over_then, grows_then, grows_as}
use Rattle.planner.proofs.Ids.{maps_more}
use Rattle.planner.proofs.Membership.{graph_is, none_under, any_false}
use Rattle.planner.proofs.Graphs.{kids_low, only_arguments, scheduled_once}
use Rattle.planner.proofs.Applying.{deep_node}

-- ---- one definition, and definitions side by side

row_def : (bs : List ℕ) (last s : ℕ) (t : Tree) → row_for bs (ValDef (last + 1) s) ∷ rows t ≡ rows (val_def_of (suc last) t)
unfolding row_for
row_def bs last s t = rw (add-one last) (sym (def_rows (suc last) t))

one_defined : (gr : model.Graph) (sc : ℕ) (env : Env) (s last : ℕ) → member gr sc env s ≡ true
    → define gr (build_value gr) sc (s ∷ []) env last ≡ record {
      defs = cons (val_def_of (suc last) (build_value gr s sc env last)) nil;
      env = (s, suc last) ∷ env;
      last = suc last;
    }
unfolding define
one_defined gr sc env s last is = define-member gr sc s [] env is (build_value gr) last

-- its row has no room
pub define_over : {x : Source} {map : List ℕ} {p : Plan} {sc : ℕ} (s last : ℕ) {t : Bool}
    → t ≡ true → Member x map sc s t → Over p (row_for x.forest.now (ValDef (last + 1) s) ∷ [])
    → DefinesOver x map p sc (s ∷ []) last
unfolding rows
define_over {x} {map} {p} {sc} s last {t} is m h = record {
  over = λ gr env st maps.
      let v = build_value gr s sc env last in
      rw (one_defined gr sc env s last (sym (m gr env st maps) ∙ is), ← row_def x.forest.now last s v)
      (over_then (over_then h (rows v)) []);
}

-- its value has no room
pub value_over : {x : Source} {map pl : List ℕ} {p : Plan} {sc : ℕ} (above s last : ℕ) {t : Bool} {pl₁ pl₂ : List ℕ}
    {q : Plan} → t ≡ true → Member x map sc s t
    → Grew x.forest.now pl p (row_for x.forest.now (ValDef (last + 1) s) ∷ []) (above + 1) pl₁ q
    → Plans x map pl₁ q (above + 1) (λ gr sc env. build_value gr s sc env last) pl₂ None
    → DefinesOver x map p sc (s ∷ []) last
unfolding rows
value_over {x} {map} {pl} {p} {sc} above s last {t} {pl₁} {pl₂} {q} is m h v = record {
  over = λ gr env st maps.
      let inside = (v.grown gr sc env st maps).is in
      rw (one_defined gr sc env s last (sym (m gr env st maps) ∙ is), ← row_def x.forest.now last s (build_value gr s sc env last))
      (over_then (grew_over h inside) []);
}

deep_join : (a : ℕ) (ts us : Trees) → deep_in a (join_t ts us) ≡ max (deep_in a ts) (deep_in a us)
unfolding join_t
deep_join a nil us = omega arith
deep_join a (cons t ts) us = omega (arith, deep_join a ts us)

module _ {x : Source} {map pl : List ℕ} {p : Plan} {above sc : ℕ} where
  -- ---- no symbol

  pub defines_none : {last : ℕ} → p.rows ≤ 256 → Defines x map pl p above sc [] last 0 pl map p last
  unfolding define rows
  defines_none l = record {
    defined = λ gr env st maps. record { grown = grew_none x.forest.now pl p l; maps = maps; last_is = refl };
    few = l;
    ids = omega arith;
  }

  -- ---- one symbol

  module _ (s last : ℕ) where
    pub defines_other : {t : Bool} → t ≡ false → Member x map sc s t → p.rows ≤ 256
        → Defines x map pl p above sc (s ∷ []) last 1 pl map p last
    defines_other isnt m l =
        let h = defines_none {last = last} l in
        record {
          defined = λ gr env st maps.
              rw (define_other gr sc s [] env (sym (m gr env st maps) ∙ isnt) (build_value gr) last)
              (h.defined gr env st maps);
          few = l;
          ids = omega arith;
        }

    -- the value is built with the ids before its number is given
    pub defines_one : {t : Bool} {pl₁ pl₂ : List ℕ} {q r : Plan} → t ≡ true → Member x map sc s t → s < length map
        → Grew x.forest.now pl p (row_for x.forest.now (ValDef (last + 1) s) ∷ []) (above + 1) pl₁ q
        → Plans x map pl₁ q (above + 1) (λ gr sc env. build_value gr s sc env last) pl₂ (Some r)
        → Defines x map pl p above sc (s ∷ []) last 1 pl₂ (set map s (last + 1)) r (last + 1)
    unfolding rows
    defines_one {t} {pl₁} {pl₂} {q} {r} is m l h v = record {
      defined = λ gr env st maps.
          let v₁ = build_value gr s sc env last in
          let inside = (v.grown gr sc env st maps).is in
          rw (one_defined gr sc env s last (sym (m gr env st maps) ∙ is))
          (record {
            grown = grew_as (grew_then (grew_then h inside) (grew_none x.forest.now pl₂ r v.few))
                (ap (λ (z : List Row). z ++ []) (row_def x.forest.now last s v₁)) (omega (arith, def_depth (suc last) v₁));
            maps = maps_more map env s last maps l;
            last_is = omega arith;
          });
      few = v.few;
      ids = omega arith;
    }

  -- ---- one symbol more

  pub defines_more : (order : List ℕ) {last i s : ℕ} {pl₁ pl₂ map₁ map₂ : List ℕ} {q r : Plan} {last₁ last₂ : ℕ}
      → i < length order → s ≡ get_or order i 0
      → Defines x map pl p above sc (take i order) last i pl₁ map₁ q last₁
      → Defines x map₁ pl₁ q above sc (s ∷ []) last₁ 1 pl₂ map₂ r last₂
      → Defines x map pl p above sc (take (i + 1) order) last (i + 1) pl₂ map₂ r last₂
  defines_more order {last} {i} {s} {pl₁} {pl₂} {map₁} {map₂} {q} {r} {last₁} {last₂} lt e h d =
      let more : take (i + 1) order ≡ take i order ++ (s ∷ []) =
      rw (add-one i, e) (take-suc order i 0 lt) in
      record {
        defined = λ gr env st maps.
            let build = build_value gr in
            let a = h.defined gr env st maps in
            let first = define gr build sc (take i order) env last in
            let c = d.defined gr first.env st a.maps in
            let then = define gr build sc (s ∷ []) first.env last₁ in
            rw (more, define-append gr build sc (s ∷ []) (take i order) env last, ← a.last_is)
            (record {
              grown = grew_as (grew_then a.grown c.grown) (sym (rows_join first.defs then.defs))
                  (sym (deep_join above first.defs then.defs));
              maps = c.maps;
              last_is = c.last_is;
            });
        few = d.few;
        ids = omega (arith, h.ids, d.ids);
      }

  -- there is no room for it, whatever comes after it
  pub defines_over : (order : List ℕ) {last i s : ℕ} {pl₁ map₁ : List ℕ} {q : Plan} {last₁ : ℕ}
      → i < length order → s ≡ get_or order i 0
      → Defines x map pl p above sc (take i order) last i pl₁ map₁ q last₁
      → DefinesOver x map₁ q sc (s ∷ []) last₁
      → DefinesOver x map p sc order last
  defines_over order {last} {i} {s} {pl₁} {map₁} {q} {last₁} lt e h d = record {
    over = λ gr env st maps.
        let more : take (i + 1) order ≡ take i order ++ (s ∷ []) =
        rw (add-one i, e) (take-suc order i 0 lt) in
        let whole : order ≡ take i order ++ (s ∷ []) ++ drop (i + 1) order =
        sym (take-append-drop (i + 1) order) ∙ ap (λ (z : List ℕ). z ++ drop (i + 1) order) more in
        let build = build_value gr in
        let a = h.defined gr env st maps in
        let first = define gr build sc (take i order) env last in
        let then = define gr build sc (s ∷ []) first.env last₁ in
        let both : Over p (rows_of first.defs ++ rows_of then.defs) = grew_over a.grown (d.over gr first.env st a.maps) in
        let front : Over p (rows_of (define gr build sc (take i order ++ (s ∷ [])) env last).defs) =
        rw (define-append gr build sc (s ∷ []) (take i order) env last, ← a.last_is, rows_join first.defs then.defs) both in
        rw (whole, define-append gr build sc (drop (i + 1) order) (take i order ++ (s ∷ [])) env last, rows_join)
        (over_then front _);
  }

-- ---- a scope without definitions

none_defined : (gr : model.Graph) (sc : ℕ) (order : List ℕ) (env : Env) (last : ℕ) → members_in gr sc env order ≡ 0
    → define gr (build_value gr) sc order env last ≡ record { defs = nil; env = env; last = last }
none_defined gr sc =
    along gr (build_value gr) sc
    (λ order env last d. members_in gr sc env order ≡ 0 → d ≡ record { defs = nil; env = env; last = last })
    (λ env last z. refl)
    (λ s order env last e d rest z. absurd (omega (arith, members_member gr sc s order env e)))
    (λ s order env last e d rest z. rest (sym (members_other gr sc s order env e) ∙ z))

module _ (x : Source) (map : List ℕ) (root sc last : ℕ) where
  plans_none : {pl : List ℕ} {p : Plan} {above : ℕ} {pl₁ : List ℕ} {r : Option Plan}
      → ((gr : model.Graph) (env : Env) → GraphIn x gr → Maps map env
      → members_in gr sc env (schedule gr root sc) ≡ 0)
      → Plans x map pl p above (λ gr a env. build_value gr root a env last) pl₁ r
      → Plans x map pl p above (λ gr a env. process_scope gr (build_value gr) root sc env last) pl₁ r
  plans_none {pl} {p} {above} {pl₁} {r} none h = record {
    grown = λ gr a env st maps.
        subst (λ (t : Tree). Grown x.forest.now pl p above t pl₁ r) (sym (is gr env st maps)) (h.grown gr sc env st maps);
    few = h.few;
  }
    where
      is : (gr : model.Graph) (env : Env) → GraphIn x gr → Maps map env
          → process_scope gr (build_value gr) root sc env last ≡ build_value gr root sc env last
      is gr env st maps =
          let z = none gr env st maps in
          scope_none gr (only_arguments st) root sc (scheduled_once st root sc) env last 0 z refl
          ∙ ap (λ (d : Defined). build_value gr root sc d.env d.last)
          (none_defined gr sc (schedule gr root sc) env last z)

  -- no symbol up to the result's is a member, and the schedule has no others
  pub memberless : {any : Bool} → AnyMember x map sc root any → any ≡ false → (gr : model.Graph) (env : Env)
      → GraphIn x gr → Maps map env → members_in gr sc env (schedule gr root sc) ≡ 0
  memberless {any} m isnt gr env st maps =
      none_under gr sc env (root + 1) (any_false gr sc env (root + 1) any isnt (m gr env st maps))
      (schedule gr root sc) (λ s i. omega (arith, schedule_low gr (kids_low st) root sc s i))

  pub plans_memberless : {any : Bool} → AnyMember x map sc root any → any ≡ false
      → {pl : List ℕ} {p : Plan} {above : ℕ} {pl₁ : List ℕ} {r : Option Plan}
      → Plans x map pl p above (λ gr a env. build_value gr root a env last) pl₁ r
      → Plans x map pl p above (λ gr a env. process_scope gr (build_value gr) root sc env last) pl₁ r
  plans_memberless m isnt = plans_none (memberless m isnt)

module _ (x : Source) (map : List ℕ) (root sc last : ℕ) (list : List ℕ) (k : ℕ)
    (scheduled : (slots : List ℕ) → list ≡ schedule (held_in x.graph x.forest.now slots) root sc)
    (members : Members x map sc list k) where
  pub order_is : (gr : model.Graph) → GraphIn x gr → list ≡ schedule gr root sc
  order_is gr st = scheduled gr.slots ∙ ap (λ (h : model.Graph). schedule h root sc) (sym (graph_is st))

  pub count_is : (gr : model.Graph) (env : Env) → GraphIn x gr → Maps map env
      → members_in gr sc env (schedule gr root sc) ≡ k
  count_is gr env st maps = sym (members gr env st maps ∙ ap (members_in gr sc env) (order_is gr st))

  pub block_rows : 0 < k → (gr : model.Graph) (env : Env) → GraphIn x gr → Maps map env
      → let d = define gr (build_value gr) sc (schedule gr root sc) env last in
      rows (process_scope gr (build_value gr) root sc env last)
      ≡ row_for x.forest.now (Block (k + 1)) ∷ (rows_of d.defs ++ rows (build_value gr root sc d.env d.last))
  unfolding row_for
  block_rows some gr env st maps =
      scope_rows gr (only_arguments st) root sc (scheduled_once st root sc) env last k (count_is gr env st maps) some

  pub plans_result : {pl : List ℕ} {p : Plan} {above : ℕ} {pl₁ : List ℕ} {r : Option Plan} → k ≡ 0
      → Plans x map pl p above (λ gr a env. build_value gr root a env last) pl₁ r
      → Plans x map pl p above (λ gr a env. process_scope gr (build_value gr) root sc env last) pl₁ r
  plans_result z = plans_none x map root sc last (λ gr env st maps. count_is gr env st maps ∙ z)

  -- ---- a block

  pub plans_block : {pl : List ℕ} {p : Plan} {above : ℕ} {pl₁ pl₂ pl₃ map₂ : List ℕ} {q q₂ : Plan} {r : Option Plan}
      {last₂ count : ℕ} → 0 < k
      → Grew x.forest.now pl p (row_for x.forest.now (Block (k + 1)) ∷ []) (above + 1) pl₁ q
      → Defines x map pl₁ q (above + 1) sc list last count pl₂ map₂ q₂ last₂
      → Plans x map₂ pl₂ q₂ (above + 1) (λ gr a env. build_value gr root a env last₂) pl₃ r
      → Plans x map pl p above (λ gr a env. process_scope gr (build_value gr) root sc env last) pl₃ r
  plans_block {pl} {p} {above} {pl₁} {pl₂} {pl₃} {map₂} {q} {q₂} {r} {last₂} some h d v = record {
    grown = λ gr a env st maps.
        let d₁ = define gr (build_value gr) sc (schedule gr root sc) env last in
        let e : DefinesIn x.forest.now pl₁ q (above + 1) d₁ pl₂ map₂ q₂ last₂ =
        rw (← order_is gr st) (d.defined gr env st maps) in
        let w = v.grown gr sc d₁.env st e.maps in
        let f = e.last_is in
        grows_as (grows_then h (grows_then e.grown w))
        (sym (block_rows some gr env st maps ∙ rw (← f)))
        (omega (
          arith,
          deep_node above d₁.defs,
          scope_depth gr (only_arguments st) root sc (scheduled_once st root sc) env last k (count_is gr env st maps) some,
          ap (λ (l : ℕ). depth (build_value gr root sc d₁.env l)) f,
        ));
    few = v.few;
  }

  -- its definitions have no room
  pub block_over : {pl : List ℕ} {p : Plan} {above : ℕ} {pl₁ pl₂ : List ℕ} {q : Plan} → 0 < k
      → Grew x.forest.now pl p (row_for x.forest.now (Block (k + 1)) ∷ []) (above + 1) pl₁ q
      → DefinesOver x map q sc list last
      → Plans x map pl p above (λ gr a env. process_scope gr (build_value gr) root sc env last) pl₂ None
  block_over {pl} {p} {above} {pl₁} {pl₂} {q} some h d = record {
    grown = λ gr a env st maps.
        let d₁ = define gr (build_value gr) sc (schedule gr root sc) env last in
        let e : Over q (rows_of d₁.defs) = rw (← order_is gr st) (d.over gr env st maps) in
        let both = grew_over h (over_then e (rows (build_value gr root sc d₁.env d₁.last))) in
        record { is = rw (block_rows some gr env st maps) both };
    few = tt;
  }
