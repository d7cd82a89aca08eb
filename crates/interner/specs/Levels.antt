-- Stored levels and the definition's deps. In order: levels of some symbols; a symbol's levels are those of its deps;
-- a lambda's arguments have its level; both, of all symbols and scopes; arguments in force.
--
-- Why the law of levels stands: an argument symbol depends on itself alone, and its one level is that of its lambda's
-- body. Any other symbol has the levels of its children, whose deps it has too; a lambda takes its own level out, and
-- with it exactly its own arguments, since no other lambda around the body is at that level.
-- Assumes nothing.
use Rattle.std.specs.Prelude.{ℕ, suc, ◌<◌, ◌≡◌, Bool, false, ◌||◌, List, [], ◌∷◌, eqb, Some}
use Rattle.model.specs.Intern.{Scope, scope_at, sym_at}
use Rattle.laws.specs.Members.{In, Every}
use Rattle.key.specs.Key.{symbol_at}
use Rattle.symbols.specs.Symbols.{syms_of}
use Rattle.scopes.specs.Levels.{has}
use Rattle.scopes.specs.Scopes.{scope_word, level_of, args_in, outward}

-- level j is among those of some symbol of a list
unfoldable pub any_has : List ℕ → ℕ → List ℕ → Bool
any_has ws j [] = false
any_has ws j (a ∷ more) = has (symbol_at ws a).levels j || any_has ws j more

-- what symbol s depends on
abbrev pub stored_deps : List ℕ → List ℕ → ℕ → List ℕ
stored_deps bs ws s = (sym_at (syms_of bs ws (suc s)) s).deps

-- symbol s depends on no higher symbols, and its levels are theirs
pub record Levelled (bs ws : List ℕ) (s : ℕ) : Type 0 where
  pub low : Every (λ a. a < suc s) (stored_deps bs ws s)
  pub is : (j : ℕ) → has (symbol_at ws s).levels j ≡ any_has ws j (stored_deps bs ws s)

-- symbol x is one of the first n, and k is its one level
pub record AtLevel (ws : List ℕ) (n k x : ℕ) : Type 0 where
  pub low : x < n
  pub one : (j : ℕ) → has (symbol_at ws x).levels j ≡ eqb j k

-- the arguments of each of the first m scopes are at its level
abbrev pub ArgLevels : List ℕ → ℕ → ℕ → Type 0
ArgLevels ws n m =
    (c : ℕ) → c < m → (xs : List ℕ) → args_in (scope_word ws c) ≡ Some xs →
    Every (AtLevel ws n (level_of (scope_word ws c))) xs

-- levels of n symbols and m scopes stand for what the symbols depend on
pub record AllLevelled (bs ws : List ℕ) (n m : ℕ) : Type 0 where
  pub each : (s : ℕ) → s < n → Levelled bs ws s
  pub arguments : ArgLevels ws n m

-- symbol a is an argument of a lambda from scope `cur` outwards
pub record Bound (scs : List Scope) (cur a : ℕ) : Type 0 where
  pub scope : ℕ
  pub around : In scope (outward scs cur)
  pub args : List ℕ
  pub args_is : (scope_at scs scope).args ≡ Some args
  pub member : In a args

abbrev pub InForce : List Scope → ℕ → List ℕ → Type 0
InForce scs cur deps = Every (Bound scs cur) deps
