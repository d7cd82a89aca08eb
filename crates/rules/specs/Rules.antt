-- Rules in words. In order: a rule as the definitions have it; the rule of a symbol, by whether it is defined; the rules of
-- the symbols that words call reached.
-- Assumes nothing.
use Rattle.std.specs.Prelude.{ℕ, zero, suc, Bool, true, false, List, [], ◌∷◌, ◌++◌, map, eqb}
use Rattle.std.specs.Bool.{then_some}
use Rattle.model.specs.Lists.{is_in}
use Rattle.model.specs.Intern.{Sym, sym_at}
use Rattle.model.specs.Rules.{first_rule, tests, by_blocks}
use Rattle.model.specs.Rules as model
use Rattle.regions.specs.Regions.{PLAN}
use Rattle.symbols.specs.Symbols.{syms_of}
use Rattle.gate.specs.Gate.{uses_at, reached_at}
use Rattle.plan.specs.Plan.{plan_from, symbols_in}
use Rattle.rules.specs.declared.Rule.{Rule}
use Rattle.rules.specs.declared.Rule.TheVariants.{Argument, UsedAtMostOnce, ContextProperty, Global, ScalarConstant, Hoisted}
use Rattle.rules.specs.declared.Rule.TheVariants.{NoDefinition}

abbrev pub rule_in : Rule → model.Rule
rule_in Argument = model.is_argument
rule_in UsedAtMostOnce = model.used_at_most_once
rule_in ContextProperty = model.context_property
rule_in Global = model.global
rule_in ScalarConstant = model.scalar_constant
rule_in (Hoisted sc) = model.hoisted sc
rule_in NoDefinition = model.no_definition

-- of a symbol that is used so often, and is defined in its scope or not at all
abbrev pub rule_at : Sym → ℕ → Bool → model.Rule
rule_at y uses defined = first_rule (tests y uses) (by_blocks (then_some defined y.scope))

-- ---- of the symbols that are reached, as their words say

-- those below k
unfoldable pub reached_to : List ℕ → ℕ → List ℕ
reached_to ws zero = []
reached_to ws (suc k) = reached_to ws k ++ elim (eqb (reached_at ws k) 1) [ true ↦ k ∷ [] | false ↦ [] ]

-- the rule of symbol s of n
abbrev pub rule_here : List ℕ → List ℕ → ℕ → ℕ → ℕ → model.Rule
rule_here bs ws n rows s =
    rule_at (sym_at (syms_of bs ws n) s) (uses_at ws s) (is_in s (symbols_in (plan_from ws PLAN.first rows)))

unfoldable pub rules_to : List ℕ → List ℕ → ℕ → ℕ → ℕ → List (ℕ × model.Rule)
rules_to bs ws n rows k = map (λ s. (s, rule_here bs ws n rows s)) (reached_to ws k)
