-- The rule of a symbol. In order: the parts of a stored symbol; the rule, by the first test that holds.
-- Assumes nothing.
use Prim.Native.Nat.{ℕ, ◌<◌, ◌≤◌}
use mathlib.Core.Path.{◌≡◌, sym, ap, ◌∙◌}
use mathlib.Core.Bool.{Bool, true, false}
use mathlib.Core.List.{List}
use borrow.Author.Tests.{lt-ltb, le-ltb}
use Rattle.model.specs.Intern.{Sym, sym_at}
use Rattle.model.specs.Gate.{is_context_property, is_internal, is_const}
use Rattle.model.specs.Schedule.{is_arg}
use Rattle.model.specs.Rules.{first_rule, tests, is_argument, used_at_most_once, context_property, global, scalar_constant}
use Rattle.model.specs.Rules.{hoisted, no_definition}
use Rattle.key.specs.declared.Symbol.{Symbol}
use Rattle.key.specs.Key.{symbol_at}
use Rattle.symbols.specs.Symbols.{model_node, sym_of, syms_of}
use Rattle.symbols.proofs.Laws.{sym_at_lem}
use Rattle.rules.specs.Rules.{rule_at}

-- ---- the parts of a stored symbol

module _ (bs ws : List ℕ) (s : ℕ) (x : Symbol) (loads : x ≡ symbol_at ws s) (n : ℕ) (lt : s < n) where
  pub stored_node : model_node bs x.node ≡ (sym_at (syms_of bs ws n) s).node
  unfolding sym_of
  stored_node = rw loads (sym (ap (λ (z : Sym). z.node) (sym_at_lem bs ws n s lt)))

  pub stored_scope : x.scope ≡ (sym_at (syms_of bs ws n) s).scope
  unfolding sym_of
  stored_scope = rw loads (sym (ap (λ (z : Sym). z.scope) (sym_at_lem bs ws n s lt)))

  pub stored_argument : {a : Bool} → ((zs : List ℕ) → a ≡ is_arg (model_node zs x.node))
      → a ≡ is_arg (sym_at (syms_of bs ws n) s).node
  stored_argument h = h bs ∙ ap is_arg stored_node

-- ---- the rule, by the first test that holds

module _ (y : Sym) (uses : ℕ) (defined : Bool) where
  pub said_argument : true ≡ is_arg y.node → is_argument ≡ rule_at y uses defined
  unfolding first_rule tests
  said_argument a = rw (← a)

  module _ (no_arg : false ≡ is_arg y.node) where
    pub said_few : uses < 2 → used_at_most_once ≡ rule_at y uses defined
    unfolding first_rule tests
    said_few l = rw (← no_arg, lt-ltb uses 2 l)

    module _ (many : 2 ≤ uses) where
      pub said_context : true ≡ is_context_property y → context_property ≡ rule_at y uses defined
      unfolding first_rule tests
      said_context e = rw (← no_arg, le-ltb uses 2 many, ← e)

      module _ (no_context : false ≡ is_context_property y) where
        pub said_global : true ≡ is_internal y → global ≡ rule_at y uses defined
        unfolding first_rule tests
        said_global e = rw (← no_arg, le-ltb uses 2 many, ← no_context, ← e)

        module _ (no_global : false ≡ is_internal y) where
          pub said_scalar : true ≡ is_const y → scalar_constant ≡ rule_at y uses defined
          unfolding first_rule tests
          said_scalar e = rw (← no_arg, le-ltb uses 2 many, ← no_context, ← no_global, ← e)

          module _ (no_scalar : false ≡ is_const y) where
            pub said_hoisted : (sc : ℕ) → sc ≡ y.scope → true ≡ defined → hoisted sc ≡ rule_at y uses defined
            unfolding first_rule tests
            said_hoisted sc es e = rw (← no_arg, le-ltb uses 2 many, ← no_context, ← no_global, ← no_scalar, ← e, es)

            pub said_none : false ≡ defined → no_definition ≡ rule_at y uses defined
            unfolding first_rule tests
            said_none e = rw (← no_arg, le-ltb uses 2 many, ← no_context, ← no_global, ← no_scalar, ← e)
