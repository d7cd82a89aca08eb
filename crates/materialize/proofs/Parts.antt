-- The words in three parts: the graph's, the plan's, and those after it. In order: the parts, word by word; what a new
-- plan leaves alone; the plan's rows; a graph in the first part alone, which is what planning is lent.
-- Assumes nothing.
use Prim.Native.Nat.{ℕ, zero, suc, ◌+◌, ◌-◌, ◌*◌, ◌<◌, ◌≤◌}
use mathlib.Core.Path.{◌≡◌, refl, sym, ap, ap₂, ◌∙◌, subst}
use mathlib.Core.Bool.{true}
use mathlib.Core.List.{List, [], ◌∷◌, ◌++◌}
use native.Mathlib.Omega.{arith}
use lib.ListN.{length, get_or, get_or-append, length-append}
use lib.Seq.{get_or-append-add}
use Rattle.laws.specs.Frame.{Agree, Frame}
use Rattle.regions.specs.Regions.{SYMBOLS, SLOTS, SCOPES, PLAN}
use Rattle.model.specs.Schedule.{is_arg}
use Rattle.key.specs.declared.Func.{Func}
use Rattle.key.specs.declared.Node.TheVariants.{Lambda}
use Rattle.key.specs.declared.Symbol.{Symbol}
use Rattle.key.specs.Key.{symbol_at}
use Rattle.key.proofs.Laws.{symbol_agree}
use Rattle.symbols.specs.Symbols.{model_node, syms_of}
use Rattle.symbols.specs.Sourced.{Sourced}
use Rattle.symbols.proofs.Laws.{syms_agree, sounds_agree}
use Rattle.scopes.specs.Scopes.{scopes_of}
use Rattle.scopes.proofs.Open.{scopes_agree, nested_agree}
use Rattle.graph.specs.Graph.{Scoped, graph_of}
use Rattle.free_lists.specs.FreeLists.{Lists}
use Rattle.free_lists.proofs.Laws.{lists_agree}
use Rattle.plan.specs.declared.Planned.{Planned}
use Rattle.plan.specs.Plan.{planned_at, plan_from}
use Rattle.planner.specs.Building.{Opens, NoUse, ArgOf, Buildable}

-- ---- the parts, word by word

module _ (made pl others : List ℕ) where
  pub in_made : (k : ℕ) → k < length made → get_or (made ++ (pl ++ others)) k 0 ≡ get_or made k 0
  in_made k l = get_or-append made (pl ++ others) 0 k l

  pub in_plan : (j : ℕ) → j < length pl → get_or (made ++ (pl ++ others)) (length made + j) 0 ≡ get_or pl j 0
  in_plan j l = get_or-append-add made (pl ++ others) j 0 ∙ get_or-append pl others 0 j l

  pub past_plan : (j : ℕ) → get_or (made ++ (pl ++ others)) (length made + (length pl + j)) 0 ≡ get_or others j 0
  past_plan j = get_or-append-add made (pl ++ others) (length pl + j) 0 ∙ get_or-append-add pl others j 0

  parts_length : length (made ++ (pl ++ others)) ≡ length made + (length pl + length others)
  parts_length = omega (arith, length-append made (pl ++ others), length-append pl others)

-- ---- a new plan leaves the other parts alone

pub plan_frame : (made pl pl' others : List ℕ) → length pl' ≡ length pl
    → Frame (length made) (length made + length pl) (made ++ (pl ++ others)) (made ++ (pl' ++ others))
plan_frame made pl pl' others e = record {
  long = omega (arith, parts_length made pl others, parts_length made pl' others, e);
  before = λ k l. in_made made pl' others k l ∙ sym (in_made made pl others k l);
  after = λ k le.
      let j = k - (length made + length pl) in
      let a : length made + (length pl + j) ≡ k = omega (arith, le) in
      let b : length made + (length pl' + j) ≡ k = omega (arith, le, e) in
      ap (λ (i : ℕ). get_or (made ++ (pl' ++ others)) i 0) (sym b)
      ∙ (past_plan made pl' others j
      ∙ (sym (past_plan made pl others j) ∙ ap (λ (i : ℕ). get_or (made ++ (pl ++ others)) i 0) a));
}

-- ---- the plan's rows, `to` words on

pub shifted : (ws pl : List ℕ) (to at n : ℕ)
    → ((j : ℕ) → at ≤ j → j < at + 3 * n → get_or ws (to + j) 0 ≡ get_or pl j 0)
    → plan_from ws (to + at) n ≡ plan_from pl at n
unfolding plan_from planned_at
shifted ws pl to at zero h = refl
shifted ws pl to at (suc n) h =
    let a : to + at + 1 ≡ to + (at + 1) = omega arith in
    let b : to + at + 2 ≡ to + (at + 2) = omega arith in
    let c : to + at + 3 ≡ to + (at + 3) = omega arith in
    let tag = h at (omega arith) (omega arith) in
    let first = h (at + 1) (omega arith) (omega arith) in
    let second = h (at + 2) (omega arith) (omega arith) in
    ap₂ (λ (p : Planned) (ps : List Planned). p ∷ ps) (rw (a, b, tag, first, second))
    (rw c (shifted ws pl to (at + 3) n (λ j lo hi. h j (omega arith) (omega arith))))

-- ---- the graph in the first part

module _ {bs ws : List ℕ} {n m : ℕ} (b : Buildable bs ws n m) (made : List ℕ) (same : Agree ws made 0 PLAN.first)
    (long : length made ≡ PLAN.first) where
  scoped : Scoped ws n m
  scoped = b.arena.scoped

  own : Agree ws made SYMBOLS.first (5 * n)
  own k l r = same k (omega arith) (omega (arith, r, scoped.few))

  slots : Agree ws made SLOTS.first (SLOTS.first + SLOTS.size)
  slots k l r = same k (omega arith) (omega (arith, r))

  in_scopes : Agree ws made SCOPES.first (SCOPES.first + m)
  in_scopes k l r = same k (omega arith) (omega (arith, r, scoped.few_scopes))

  pub syms_made : syms_of bs made n ≡ syms_of bs ws n
  syms_made = syms_agree bs ws made SLOTS.size slots n own b.arena.sound

  pub scopes_made : scopes_of made m ≡ scopes_of ws m
  scopes_made = scopes_agree ws made m in_scopes

  symbol_same : (s : ℕ) → s < n → symbol_at made s ≡ symbol_at ws s
  symbol_same s lt = symbol_agree ws made s (λ k l r. own k (omega arith) (omega (arith, lt, r)))

  lists_made : Lists (graph_of bs made n m []) made n
  lists_made =
      rw (syms_made, scopes_made)
      (lists_agree _ ws made n scoped.few (λ k l r. same k (omega arith) (omega (arith, r))) b.lists)

  pub buildable_made : Buildable bs made n m
  buildable_made = record {
    arena = record {
      scoped = record {
        few = scoped.few;
        long = omega (arith, long);
        some_scope = scoped.some_scope;
        few_scopes = scoped.few_scopes;
        nested = nested_agree ws made m scoped.some_scope in_scopes scoped.nested;
        placed = λ s lt. rw (symbol_same s lt) (scoped.placed s lt);
      };
      sound = sounds_agree bs ws made SLOTS.size slots n own b.arena.sound;
    };
    lists = lists_made;
    sourced = λ s lt. kept (λ y. Sourced bs y.node y.count) s lt (b.sourced s lt);
    opens = λ s lt. kept (λ y. Opens bs m s y.node) s lt (b.opens s lt);
    no_use = λ s lt. kept (λ y. NoUse bs y.node) s lt (b.no_use s lt);
    args_are = λ s a f lt e h.
        let d = node_was s f lt e in
        kept (λ y. is_arg (model_node bs y.node) ≡ true) a (arg_low s a f lt d h) (b.args_are s a f lt d h);
    apart = λ s t a f g lt below e d.
        b.apart s t a f g lt below (node_was s f lt e) (node_was t g (omega (arith, lt, below)) d);
  }
    where
      kept : (P : Symbol → Type 0) (s : ℕ) → s < n → P (symbol_at ws s) → P (symbol_at made s)
      kept P s lt = subst P (sym (symbol_same s lt))

      node_was : (s : ℕ) (f : Func) → s < n → (symbol_at made s).node ≡ Lambda f → (symbol_at ws s).node ≡ Lambda f
      node_was s f lt e = rw (symbol_same s lt) at e

      -- a lambda's arguments are lower symbols
      arg_low : (s a : ℕ) (f : Func) → s < n → (symbol_at ws s).node ≡ Lambda f → ArgOf bs f a → a < n
      arg_low s a f lt e h =
          let o = subst (Opens bs m s) e (b.opens s lt) in
          let first = o.first (omega (arith, h.0, h.1)) in
          omega (arith, h.1, first, lt)
