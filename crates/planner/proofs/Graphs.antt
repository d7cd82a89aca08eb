-- The graph that a source has, as the laws of building ask for it. In order: symbol s by its node; children are lower; a
-- lambda has a child; only arguments have records of uses; a schedule holds each symbol once.
-- Assumes nothing.
use Prim.Native.Nat.{ℕ, ◌+◌, ◌<◌}
use mathlib.Core.Path.{◌≡◌, sym, ap, ◌∙◌, subst}
use mathlib.Core.Bool.{false}
use mathlib.Core.List.{List}
use native.Mathlib.Omega.{arith}
use lib.Dec.{eqb}
use lib.ListN.{length}
use borrow.Author.Tests.{ne_eqb}
use Rattle.model.specs.Tree.{Rec}
use Rattle.model.specs.Intern.{Sym, func}
use Rattle.model.specs.Intern as intern
use Rattle.model.specs.Gate.{Graph, sym_of}
use Rattle.model.specs.Schedule.{is_arg, schedule}
use Rattle.laws.specs.Members.{Once, Under}
use Rattle.laws.proofs.Apart.{false_true}
use Rattle.laws.specs.ArgLists.{ArgList}
use Rattle.laws.proofs.Short.{schedule_once}
use Rattle.laws.proofs.Building.{BodyLow, body_low, NoUses, no_uses}
use Rattle.regions.specs.Regions.{SLOTS}
use Rattle.key.specs.declared.Node.{Node}
use Rattle.key.specs.declared.Node.TheVariants.{Const, Unparsed, Arg, Lambda, Op}
use Rattle.key.specs.Key.{symbol_at}
use Rattle.symbols.specs.Symbols.{rec_of, model_node, kids_at}
use Rattle.symbols.specs.Symbols as words
use Rattle.symbols.proofs.Laws.{syms_length}
use Rattle.symbols.proofs.Words.{words_length}
use Rattle.graph.proofs.Laws as graph
use Rattle.symbols.specs.Sourced.{Sourced}
use Rattle.planner.specs.declared.source.Source.{Source}
use Rattle.planner.specs.Building.{NoUse}
use Rattle.planner.specs.Sources.{GraphIn}
use Rattle.planner.proofs.Membership.{graph_is, sym_is}

module _ {x : Source} {gr : Graph} (st : GraphIn x gr) where
  -- ---- symbol s

  module _ (s : ℕ) (lt : s < x.graph.symbols) where
    pub node_is : (sym_of gr s).node ≡ model_node x.forest.now (symbol_at x.graph.words.now s).node
    unfolding words.sym_of
    node_is = ap (λ (y : Sym). y.node) (sym_is st s lt)

    pub rec_is : (sym_of gr s).rec ≡ rec_of x.forest.now (symbol_at x.graph.words.now s).node
    unfolding words.sym_of
    rec_is = ap (λ (y : Sym). y.rec) (sym_is st s lt)

    pub kids_is : (sym_of gr s).kids ≡ kids_at x.graph.words.now s
    unfolding words.sym_of
    kids_is = ap (λ (y : Sym). y.kids) (sym_is st s lt)

    kid_some : (xs : ArgList) (body : ℕ) → (sym_of gr s).node ≡ func xs body → 0 < length (sym_of gr s).kids
    kid_some xs body e =
        let one = go (symbol_at x.graph.words.now s).node (sym node_is ∙ e) (x.buildable.sourced s lt) in
        omega (arith, ap length kids_is, words_length x.graph.words.now (SLOTS.first + (symbol_at x.graph.words.now s).kids) (symbol_at x.graph.words.now s).count)
      where
        go : (nd : Node) → model_node x.forest.now nd ≡ func xs body → Sourced x.forest.now nd (symbol_at x.graph.words.now s).count
            → (symbol_at x.graph.words.now s).count ≡ 1
        go (Const l) e h = absurd (omega (arith, apart e))
          where
            apart : intern.constant ≡ func xs body → ◌≡◌ {A = ℕ} 0 1
            apart e = cc
        go (Unparsed l) e h = absurd (omega (arith, apart e))
          where
            apart : intern.unparsed ≡ func xs body → ◌≡◌ {A = ℕ} 0 1
            apart e = cc
        go (Arg l) e h = absurd (omega (arith, apart e))
          where
            apart : intern.argument ≡ func xs body → ◌≡◌ {A = ℕ} 0 1
            apart e = cc
        go (Lambda f) e h = h.1
        go (Op o) e h = absurd (omega (arith, apart e))
          where
            apart : {brs : List ℕ} → intern.operation brs ≡ func xs body → ◌≡◌ {A = ℕ} 0 1
            apart e = cc

    no_use_here : is_arg (sym_of gr s).node ≡ false → eqb (sym_of gr s).rec.shape 7 ≡ false
    no_use_here e =
        ap (λ (r : Rec). eqb r.shape 7) rec_is
        ∙ go (symbol_at x.graph.words.now s).node (sym (ap is_arg node_is) ∙ e) (x.buildable.no_use s lt)
      where
        go : (nd : Node) → is_arg (model_node x.forest.now nd) ≡ false → NoUse x.forest.now nd → eqb (rec_of x.forest.now nd).shape 7 ≡ false
        go (Const l) f h = ne_eqb _ 7 h
        go (Unparsed l) f h = ne_eqb _ 7 h
        go (Arg l) f h = false_true (sym f)
        go (Lambda l) f h = ne_eqb _ 7 h
        go (Op o) f h = ne_eqb _ 7 h

  -- ---- all symbols

  many_syms : length gr.syms ≡ x.graph.symbols
  many_syms = ap length st.syms ∙ syms_length x.forest.now x.graph.words.now x.graph.symbols

  pub kids_low : (s : ℕ) → Under s (sym_of gr s).kids
  kids_low s =
      subst (λ (h : Graph). Under s (sym_of h s).kids) (sym (graph_is st))
      (graph.kids_low x.forest.now x.graph.words.now x.graph.symbols x.graph.scopes x.buildable.arena gr.slots s)

  pub body_lower : (s : ℕ) → s < x.graph.symbols → BodyLow gr s
  body_lower s lt = body_low gr s (kids_low s) (kid_some s lt)

  pub only_arguments : NoUses gr
  only_arguments = no_uses gr (λ s l. no_use_here s (omega (arith, many_syms)))

  pub scheduled_once : (root sc : ℕ) → Once (schedule gr root sc)
  scheduled_once = schedule_once gr kids_low
