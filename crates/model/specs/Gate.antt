-- Usage and the gate (gate.rs): what is reached from the root, how often a symbol is used, and whether it may be
-- hoisted.
-- Assumes nothing.
use Rattle.std.specs.Prelude.{ℕ, zero, suc, Bool, true, false, not, ◌&&◌, List, [], ◌∷◌, ◌++◌, eqb, ltb}
use Rattle.model.specs.Lists.{is_in, union, count}
use Rattle.model.specs.Tree.{class}
use Rattle.model.specs.Opcodes.{Const, HeightOp, InputsOp, OutputsOp, SelfBoxOp, GlobalOp}
use Rattle.model.specs.Intern.{Sym, Scope, sym_at}

-- what is materialized: symbols, scopes, and the child slots of the symbols reached from the root
pub record Graph : Type 0 where
  pub syms : List Sym
  pub scopes : List Scope
  pub slots : List ℕ

abbrev pub sym_of : Graph → ℕ → Sym
sym_of g s = sym_at g.syms s

-- ---- usage

-- what is in `seen`, and what is reached from the symbols below n that are in it; a child is lower than its parent
unfoldable pub reach : List Sym → ℕ → List ℕ → List ℕ
reach ss zero seen = seen
reach ss (suc n) seen =
    elim (is_in n seen) [ true ↦ reach ss n (union seen (sym_at ss n).kids) | false ↦ reach ss n seen ]

-- the child slots of some symbols
unfoldable pub slots_of : List Sym → List ℕ → List ℕ
slots_of ss [] = []
slots_of ss (s ∷ is) = (sym_at ss s).kids ++ slots_of ss is

unfoldable pub reachable : List Sym → List Scope → ℕ → Graph
reachable ss scs root = record { syms = ss; scopes = scs; slots = slots_of ss (reach ss (suc root) (root ∷ [])) }

-- `flat_usage_reachable` of a symbol
unfoldable pub usage : Graph → ℕ → ℕ
usage g s = count s g.slots

-- ---- the gate

unfoldable pub is_context_property : Sym → Bool
is_context_property s = is_in s.rec.opcode (HeightOp ∷ InputsOp ∷ OutputsOp ∷ SelfBoxOp ∷ [])

unfoldable pub is_internal : Sym → Bool
is_internal s = eqb s.rec.opcode GlobalOp

-- a constant of a primitive class, SBoolean to SString, whatever its mark
unfoldable pub is_const : Sym → Bool
is_const s = eqb s.rec.shape Const && ltb (class s.rec.aux) 6

unfoldable pub should_hoist : Sym → ℕ → Bool
should_hoist s uses = ltb 1 uses && not (is_context_property s) && not (is_internal s) && not (is_const s)
