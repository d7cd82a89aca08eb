-- Which symbols get a definition. In order: the graph's symbol s from its words, and as the code tests it; the tests
-- of `member` one by one; one symbol more of an order; whether there is one among all symbols below a number.
-- Assumes nothing.
use Prim.Native.Nat.{ℕ, zero, suc, ◌+◌, ◌<◌}
use mathlib.Core.Path.{◌≡◌, refl, sym, ap, ap₂, ◌∙◌}
use mathlib.Core.Bool.{Bool, true, false, not, ◌&&◌, ◌||◌, and-true, and-false}
use Rattle.std.specs.Prelude.{Option, None, Some}
use mathlib.Core.Logic.{inl, inr}
use mathlib.Core.List.{List, [], ◌∷◌}
use native.Mathlib.Omega.{arith}
use native.Mathlib.Numerals.{add-one}
use lib.Dec.{eqb, ltb}
use lib.ListN.{length, get_or, take}
use lib.Seq.{take-suc}
use borrow.Author.Tests.{eqb-true, eqb-false, ltb-false, lt-ltb}
use Rattle.std.specs.List.{list_any, range_with_len}
use Rattle.model.specs.Intern.{Sym, Env, sym_at}
use Rattle.model.specs.Gate.{Graph, sym_of, usage, should_hoist}
use Rattle.model.specs.Schedule.{is_arg}
use Rattle.model.specs.Materialize.{id_given, member}
use Rattle.laws.specs.Defining.{members_in}
use Rattle.laws.specs.Range.{range}
use Rattle.laws.proofs.Defining.{members_append, members_member, members_other}
use Rattle.laws.specs.Members.{In, Under}
use Rattle.laws.proofs.Ranges.{in_range}
use Rattle.key.specs.declared.Symbol.{Symbol}
use Rattle.key.specs.Key.{symbol_at}
use Rattle.symbols.specs.Symbols.{syms_of, sym_from}
use Rattle.symbols.specs.Symbols as words
use Rattle.symbols.proofs.Laws.{sym_at_lem}
use Rattle.gate.proofs.Gate.{hoist_few}
use Rattle.graph.specs.Tests.{Tests, held_in}
use Rattle.planner.specs.declared.source.Source.{Source}
use Rattle.planner.specs.Building.{an_arg, Maps, id_in}
use Rattle.planner.specs.Sources.{GraphIn}

-- ---- the graph that a source has

-- that symbol s is an argument, as the code has tested it
pub arg_told : (x : Source) (s : ℕ) → s < x.graph.symbols → {r : Bool} → Tests x.graph (λ h. is_arg (sym_of h s).node) r
    → r ≡ an_arg x.forest.now x.graph.words.now s
unfolding words.sym_of
arg_told x s lt t =
    t x.forest.now [] ∙ ap (λ (y : Sym). is_arg y.node) (sym_at_lem x.forest.now x.graph.words.now x.graph.symbols s lt)

module _ {x : Source} {gr : Graph} (st : GraphIn x gr) where
  pub graph_is : gr ≡ held_in x.graph x.forest.now gr.slots
  graph_is = rw (← st.syms, ← st.scopes)

  module _ (s : ℕ) (lt : s < x.graph.symbols) where
    pub sym_is : sym_of gr s ≡ sym_from x.forest.now (syms_of x.forest.now x.graph.words.now s) x.graph.words.now s
    sym_is = ap (λ (ss : List Sym). sym_at ss s) st.syms ∙ sym_at_lem x.forest.now x.graph.words.now x.graph.symbols s lt

    pub scope_is : (sym_of gr s).scope ≡ (symbol_at x.graph.words.now s).scope
    unfolding words.sym_of
    scope_is = ap (λ (y : Sym). y.scope) sym_is

    -- what the code has loaded and tested
    pub in_scope : {y : Symbol} (sc : ℕ) → y ≡ symbol_at x.graph.words.now s → eqb (sym_of gr s).scope sc ≡ eqb y.scope sc
    in_scope {y} sc e = ap (λ (k : ℕ). eqb k sc) (scope_is ∙ sym (ap (λ (y : Symbol). y.scope) e))

    pub arg_is : {r : Bool} → Tests x.graph (λ h. is_arg (sym_of h s).node) r → is_arg (sym_of gr s).node ≡ r
    arg_is t = ap (λ (h : Graph). is_arg (sym_of h s).node) graph_is ∙ sym (t x.forest.now gr.slots)

    pub hoist_is : {r : Bool}
        → ((k : ℕ) → s < k → r ≡ should_hoist (sym_at (syms_of x.forest.now x.graph.words.now k) s) (get_or x.uses.now s 0))
        → r ≡ should_hoist (sym_of gr s) (usage gr s)
    hoist_is h =
        h x.graph.symbols lt ∙ ap₂ should_hoist (sym (ap (λ (ss : List Sym). sym_at ss s) st.syms)) (st.uses s lt)

    pub rare_is : get_or x.uses.now s 0 < 2 → should_hoist (sym_of gr s) (usage gr s) ≡ false
    rare_is l =
        ap (should_hoist (sym_of gr s)) (sym (st.uses s lt)) ∙ sym (hoist_few (sym_of gr s) (get_or x.uses.now s 0) l)

-- ---- a member's four tests

-- without an id
is_new : Option ℕ → Bool
is_new o = elim o [ None ↦ true | Some i ↦ false ]

given_old : (i : ℕ) → (i ≡ 0 → ⊥) → is_new (id_in i) ≡ false
unfolding is_new
given_old zero n = absurd (n refl)
given_old (suc i) n = refl

module _ (gr : Graph) (sc : ℕ) (ids : List ℕ) (env : Env) (s : ℕ) (few : s < 512) (maps : Maps ids env) where
  pub member-given : eqb (get_or ids s 0) 0 ≡ false → member gr sc env s ≡ false
  unfolding member is_new
  member-given n =
      let e : is_new (id_given env s) ≡ false = ap is_new (maps.is s few) ∙ given_old (get_or ids s 0) (eqb-false _ 0 n) in
      rw (e, member)
      (and-false
      (eqb (sym_of gr s).scope sc && not (is_arg (sym_of gr s).node) && should_hoist (sym_of gr s) (usage gr s)))

  pub member_rare : should_hoist (sym_of gr s) (usage gr s) ≡ false → member gr sc env s ≡ false
  unfolding member
  member_rare e = rw (e, member) (go (eqb (sym_of gr s).scope sc && not (is_arg (sym_of gr s).node)) _)
    where
      go : (a d : Bool) → ((a && false) && d) ≡ false
      go true d = refl
      go false d = refl

  pub member_elsewhere : eqb (sym_of gr s).scope sc ≡ false → member gr sc env s ≡ false
  unfolding member
  member_elsewhere n = rw (n, member)

  pub member_arg : is_arg (sym_of gr s).node ≡ true → member gr sc env s ≡ false
  unfolding member
  member_arg e = rw (e, member) (go (eqb (sym_of gr s).scope sc) (should_hoist (sym_of gr s) (usage gr s)) _)
    where
      go : (a h d : Bool) → (((a && false) && h) && d) ≡ false
      go true h d = refl
      go false h d = refl

  pub member_hoisted : eqb (get_or ids s 0) 0 ≡ true → eqb (sym_of gr s).scope sc ≡ true → is_arg (sym_of gr s).node ≡ false
      → member gr sc env s ≡ should_hoist (sym_of gr s) (usage gr s)
  unfolding member
  member_hoisted z e f =
      let id : id_given env s ≡ None = maps.is s few ∙ ap id_in (eqb-true _ 0 z) in
      rw (e, f, id, member) (and-true (should_hoist (sym_of gr s) (usage gr s)))

-- ---- one symbol more

pub members_none : (gr : Graph) (sc : ℕ) (env : Env) → 0 ≡ members_in gr sc env []
unfolding members_in
members_none gr sc env = refl

module _ (gr : Graph) (sc : ℕ) (env : Env) (order : List ℕ) (i s k : ℕ) (b : Bool) (lt : i < length order)
    (at : s ≡ get_or order i 0) (tested : b ≡ member gr sc env s) (counted : k ≡ members_in gr sc env (take i order)) where
  one_more : members_in gr sc env (take (i + 1) order)
      ≡ members_in gr sc env (take i order) + members_in gr sc env (s ∷ [])
  one_more = rw (add-one i, take-suc order i 0 lt, at) (members_append gr sc env (take i order) (get_or order i 0 ∷ []))

  pub members_found : b ≡ true → k + 1 ≡ members_in gr sc env (take (i + 1) order)
  members_found is =
      omega (arith, one_more, counted, members_none gr sc env, members_member gr sc s [] env (sym tested ∙ is))

  pub members_passed : b ≡ false → k ≡ members_in gr sc env (take (i + 1) order)
  members_passed isnt =
      omega (arith, one_more, counted, members_none gr sc env, members_other gr sc s [] env (sym tested ∙ isnt))

-- ---- all symbols below a number

range_is : (first n : ℕ) → range_with_len first n ≡ range first n
unfolding range
range_is first zero = refl
range_is first (suc n) = ap (λ (xs : List ℕ). first ∷ xs) (ap (λ (k : ℕ). range_with_len k n) (add-one first) ∙ range_is (suc first) n)

module _ (gr : Graph) (sc : ℕ) (env : Env) where
  members_some : (xs : List ℕ) (s : ℕ) → In s xs → member gr sc env s ≡ true → 0 < members_in gr sc env xs
  members_some [] s m is = elim m [ ]
  members_some (x ∷ xs) s (inl e) is =
      omega (arith, members_member gr sc x xs env (ap (member gr sc env) (sym e) ∙ is))
  members_some (x ∷ xs) s (inr m) is = go (member gr sc env x) refl (members_some xs s m is)
    where
      go : (b : Bool) → member gr sc env x ≡ b → 0 < members_in gr sc env xs → 0 < members_in gr sc env (x ∷ xs)
      go true e h = omega (arith, members_member gr sc x xs env e)
      go false e h = omega (arith, h, members_other gr sc x xs env e)

  -- none below n, so none in a list of numbers below n
  pub none_under : (n : ℕ) → members_in gr sc env (range 0 n) ≡ 0 → (xs : List ℕ) → Under n xs
      → members_in gr sc env xs ≡ 0
  none_under n z [] low = sym (members_none gr sc env)
  none_under n z (x ∷ xs) low =
      go (member gr sc env x) refl (none_under n z xs (λ y m. low y (inr m)))
    where
      go : (b : Bool) → member gr sc env x ≡ b → members_in gr sc env xs ≡ 0 → members_in gr sc env (x ∷ xs) ≡ 0
      go true e h =
          let l = low x (inl refl) in
          absurd (omega (arith, z, members_some (range 0 n) x (in_range 0 n x (omega arith) (omega arith)) e))
      go false e h = members_other gr sc x xs env e ∙ h

  -- the code asks of each whether it is one
  pub any_counted : (xs : List ℕ) → list_any (member gr sc env) xs ≡ ltb 0 (members_in gr sc env xs)
  unfolding members_in
  any_counted [] = refl
  any_counted (x ∷ xs) = go (member gr sc env x) refl (any_counted xs)
    where
      go : (b : Bool) → member gr sc env x ≡ b → list_any (member gr sc env) xs ≡ ltb 0 (members_in gr sc env xs)
          → list_any (member gr sc env) (x ∷ xs) ≡ ltb 0 (members_in gr sc env (x ∷ xs))
      go true e h = ap (λ (t : Bool). t || list_any (member gr sc env) xs) e
          ∙ sym (lt-ltb 0 _ (omega (arith, members_member gr sc x xs env e)))
      go false e h = ap (λ (t : Bool). t || list_any (member gr sc env) xs) e
          ∙ (h ∙ ap (ltb 0) (sym (members_other gr sc x xs env e)))

  pub any_below : (n : ℕ) (r : Bool) → r ≡ list_any (member gr sc env) (range_with_len 0 n)
      → r ≡ ltb 0 (members_in gr sc env (range 0 n))
  any_below n r e = e ∙ (ap (list_any (member gr sc env)) (range_is 0 n) ∙ any_counted (range 0 n))

  pub any_false : (n : ℕ) (b : Bool) → b ≡ false → b ≡ ltb 0 (members_in gr sc env (range 0 n))
      → members_in gr sc env (range 0 n) ≡ 0
  any_false n b isnt e = omega (arith, ltb-false 0 (members_in gr sc env (range 0 n)) (sym e ∙ isnt))
