-- How plans grow. In order: no rows; one row more; what putting a row gives; rows and then rows; that they are few.
-- Assumes nothing.
use Prim.Native.Nat.{ℕ, ◌+◌, ◌*◌, ◌≤◌, ◌<◌, max}
use mathlib.Core.Path.{◌≡◌, refl, sym, ap, ◌∙◌}
use Rattle.std.specs.Prelude.{Option, None, Some, MatchOption, IfSome}
use mathlib.Core.List.{List, [], ◌∷◌, ◌++◌, append_assoc, append-nil}
use native.Mathlib.Omega.{arith}
use borrow.Author.Tests.{lt-ltb, le-ltb}
use lib.ListN.{length, length-append}
use Rattle.model.specs.Tree.{Row}
use Rattle.regions.specs.Regions.{PLAN}
use Rattle.plan.specs.Plan.{store_planned, plan_from, row_for, rows_for, symbol_of, symbols_in, Writable, planned_rows}
use Rattle.plan.specs.declared.Planned.{Planned}
use Rattle.plan.proofs.Laws.{stored_frame, plan_more, rows_append, symbols_append, writable_append}
use Rattle.planner.specs.declared.Plan.{Plan}
use Rattle.planner.specs.Grew.{Grew, Over, Grows, with_row, one_more, RowPut}

module _ (bs pl : List ℕ) (p : Plan) where
  -- ---- no rows

  pub grew_none : p.rows ≤ 256 → Grew bs pl p [] 0 pl p
  grew_none h = record {
    count = omega arith;
    few = h;
    plan = sym (append-nil (planned_rows bs pl 0 p.rows));
    writable = λ w. w;
    deepest = omega arith;
    rest = λ k lo. refl;
  }

  -- ---- one row more

  module _ (row : Planned) (d : ℕ) where
    pub grew_row : PLAN.size ≤ length pl → Writable bs row → p.rows < 256 → (pl' : List ℕ) (r : Plan)
        → pl' ≡ store_planned pl (3 * p.rows) row → r.rows ≡ p.rows + 1 → r.deepest ≡ max p.deepest d
        → Grew bs pl p (row_for bs row ∷ []) d pl' r
    unfolding rows_for
    grew_row long w room pl' r e f g =
        let zero : 0 + 3 * p.rows ≡ 3 * p.rows = omega arith in
        let more : plan_from pl' 0 r.rows ≡ plan_from pl 0 p.rows ++ (row ∷ []) =
        rw (e, f, ← zero) (plan_more pl 0 p.rows row (omega arith)) in
        record {
          count = f;
          few = omega arith;
          plan = rw more (rows_append bs (plan_from pl 0 p.rows) (row ∷ []));
          writable = λ all. rw more (writable_append bs (plan_from pl 0 p.rows) (row ∷ []) all (w, tt));
          deepest = g;
          rest = λ k lo. rw e ((stored_frame pl (3 * p.rows) row).after k (omega arith));
        }

-- ---- what putting a row gives

module _ (pl : List ℕ) (p : Plan) (row : Planned) (d : ℕ) where
  row_defines : PLAN.size ≤ length pl → p.rows < 256 → (pl' : List ℕ) → pl' ≡ store_planned pl (3 * p.rows) row
      → symbols_in (plan_from pl' 0 (p.rows + 1)) ≡ symbols_in (plan_from pl 0 p.rows) ++ symbol_of row
  unfolding symbols_in
  row_defines long room pl' e =
      let zero : 0 + 3 * p.rows ≡ 3 * p.rows = omega arith in
      let more : plan_from pl' 0 (p.rows + 1) ≡ plan_from pl 0 p.rows ++ (row ∷ []) =
      rw (e, ← zero) (plan_more pl 0 p.rows row (omega arith)) in
      rw more
      (symbols_append (plan_from pl 0 p.rows) (row ∷ [])
      ∙ ap (λ (ss : List ℕ). symbols_in (plan_from pl 0 p.rows) ++ ss) (append-nil (symbol_of row)))

  pub put_stored : PLAN.size ≤ length pl → p.rows < 256 → (pl' : List ℕ)
      → pl' ≡ store_planned pl (3 * p.rows) row → (deep : ℕ) → deep ≡ max p.deepest d
      → RowPut pl p row d pl' (Some (record { rows = p.rows + 1; deepest = deep }))
  unfolding with_row one_more
  put_stored long room pl' e deep f = record {
    words = rw (lt-ltb p.rows 256 room, with_row) e;
    plan = rw (lt-ltb p.rows 256 room, one_more) (ap (λ (x : ℕ). Some (record { rows = p.rows + 1; deepest = x })) f);
    grew = λ bs w. record { is = grew_row bs pl p row d long w room pl' _ e refl f };
    defining = row_defines long room pl' e;
  }

  pub put_full : 256 ≤ p.rows → RowPut pl p row d pl None
  unfolding with_row one_more
  put_full l =
      record {
        words = rw (le-ltb p.rows 256 l, with_row);
        plan = rw (le-ltb p.rows 256 l, one_more);
        grew = λ bs w. record { is = record { more = omega arith } };
        defining = tt;
      }

-- ---- rows, and then rows

-- more rows than there is room for, and then any
pub over_then : {p : Plan} {rs : List Row} → Over p rs → (ss : List Row) → Over p (rs ++ ss)
over_then {p} {rs} a ss = record { more = omega (arith, a.more, length-append rs ss) }

module _ {bs pl : List ℕ} {p : Plan} {rs : List Row} {d : ℕ} {pl₁ : List ℕ} where
  pub grew_then : {q : Plan} {ss : List Row} {e : ℕ} {pl₂ : List ℕ} {r : Plan} → Grew bs pl p rs d pl₁ q
      → Grew bs pl₁ q ss e pl₂ r → Grew bs pl p (rs ++ ss) (max d e) pl₂ r
  grew_then {q} {ss} {e} {pl₂} {r} a b = record {
    count = omega (arith, length-append rs ss, a.count, b.count);
    few = b.few;
    plan = b.plan ∙ (ap (λ (x : List Row). x ++ ss) a.plan ∙ append_assoc (planned_rows bs pl 0 p.rows) rs ss);
    writable = λ w. b.writable (a.writable w);
    deepest = omega (arith, a.deepest, b.deepest);
    rest = λ k lo. b.rest k lo ∙ a.rest k (omega (arith, b.count));
  }

  pub grew_over : {q : Plan} {ss : List Row} → Grew bs pl p rs d pl₁ q → Over q ss → Over p (rs ++ ss)
  grew_over {q} {ss} a b = record { more = omega (arith, length-append rs ss, a.count, b.more) }

  -- the same rows and depth, otherwise said
  pub grew_as : {ss : List Row} {e : ℕ} {q : Plan} → Grew bs pl p rs d pl₁ q → rs ≡ ss → d ≡ e → Grew bs pl p ss e pl₁ q
  grew_as {ss} {e} a f g = rw (f, g) at a

  pub grows_then : {q : Plan} {ss : List Row} {e : ℕ} {pl₂ : List ℕ} {r : Option Plan} → Grew bs pl p rs d pl₁ q
      → Grows bs pl₁ q ss e pl₂ r → Grows bs pl p (rs ++ ss) (max d e) pl₂ r
  grows_then {q} {ss} {e} {pl₂} {r} a b = record { is = go r b.is }
    where
      go : (r : Option Plan) → MatchOption r (Over q ss) (λ x. Grew bs pl₁ q ss e pl₂ x)
          → MatchOption r (Over p (rs ++ ss)) (λ x. Grew bs pl p (rs ++ ss) (max d e) pl₂ x)
      go None h = grew_over a h
      go (Some x) h = grew_then a h

  pub grows_as : {ss : List Row} {e : ℕ} {r : Option Plan} → Grows bs pl p rs d pl₁ r → rs ≡ ss → d ≡ e
      → Grows bs pl p ss e pl₁ r
  grows_as {ss} {e} a f g = rw (f, g) at a

-- ---- rows planned, if there is room: they are few

pub grows_few : {bs pl : List ℕ} {p : Plan} {rs : List Row} {d : ℕ} {pl' : List ℕ} {r : Option Plan}
    → Grows bs pl p rs d pl' r → IfSome r (λ q. q.rows ≤ 256)
grows_few {bs} {pl} {p} {rs} {d} {pl'} {r} g = go r g.is
  where
    go : (r : Option Plan) → MatchOption r (Over p rs) (λ q. Grew bs pl p rs d pl' q) → IfSome r (λ q. q.rows ≤ 256)
    go None h = tt
    go (Some q) h = h.few
