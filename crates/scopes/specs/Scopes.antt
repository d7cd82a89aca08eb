-- Scopes in words, one to a scope, from SCOPES on.
-- In order: a scope's word and its parts; a scope opened; the scopes of the words, and what is asked of them; where a
-- symbol is placed. Assumes nothing.
use Rattle.std.specs.Prelude.{ℕ, zero, suc, ◌+◌, ◌*◌, ◌/◌, ◌%◌, ◌<◌, ◌≡◌, Bool, not, ◌&&◌, List, [], ◌∷◌, ◌++◌, eqb, get_or, set, Option, None, Some}
use Rattle.model.specs.Lists.{any_in}
use Rattle.model.specs.Intern.{Scope, root_scope, scope_at, climb}
use Rattle.scopes.specs.Levels.{has}
use Rattle.laws.specs.Range.{range}
use Rattle.regions.specs.Regions.{SCOPES}

-- ---- a scope's word

abbrev pub scope_word : List ℕ → ℕ → ℕ
scope_word ws k = get_or ws (SCOPES.first + k) 0

-- parent; a lambda's first argument; 1 more than its number of arguments, or 0 of a thunk; nesting level of lambdas
abbrev pub packed_of : ℕ → ℕ → ℕ → ℕ → ℕ
packed_of parent first code level = parent + 4096 * first + 2097152 * code + 67108864 * level

abbrev pub parent_of : ℕ → ℕ
parent_of w = w % 4096

abbrev pub first_of : ℕ → ℕ
first_of w = w / 4096 % 512

abbrev pub code_of : ℕ → ℕ
code_of w = w / 2097152 % 32

abbrev pub level_of : ℕ → ℕ
level_of w = w / 67108864

abbrev pub args_from : ℕ → ℕ → Option (List ℕ)
args_from first zero = None
args_from first (suc n) = Some (range first n)

-- a lambda's argument symbols; none of a thunk and of the outermost scope
abbrev pub args_in : ℕ → Option (List ℕ)
args_in w = args_from (first_of w) (code_of w)

-- a thunk, and a lambda with n arguments, inside scope `cur`
abbrev pub thunk_word : List ℕ → ℕ → ℕ
thunk_word ws cur = packed_of cur 0 0 (level_of (scope_word ws cur))

abbrev pub lambda_word : List ℕ → ℕ → ℕ → ℕ → ℕ
lambda_word ws cur first n = packed_of cur first (n + 1) (level_of (scope_word ws cur) + 1)

-- ---- a scope opened: scope m, inside `cur`

abbrev pub with_thunk : List ℕ → ℕ → ℕ → List ℕ
with_thunk ws m cur = set ws (SCOPES.first + m) (thunk_word ws cur)

abbrev pub with_lambda : List ℕ → ℕ → ℕ → ℕ → ℕ → List ℕ
with_lambda ws m cur first n = set ws (SCOPES.first + m) (lambda_word ws cur first n)

-- ---- the scopes of the words, and what is asked of them

-- scope k over the scopes below it
abbrev pub scope_from : List Scope → List ℕ → ℕ → Scope
scope_from lower ws zero = root_scope
scope_from lower ws (suc k) = record {
  around = parent_of (scope_word ws (suc k)) ∷ (scope_at lower (parent_of (scope_word ws (suc k)))).around;
  args = args_in (scope_word ws (suc k));
}

-- the first m scopes
unfoldable pub scopes_of : List ℕ → ℕ → List Scope
scopes_of ws zero = []
scopes_of ws (suc m) = scopes_of ws m ++ (scope_from (scopes_of ws m) ws m ∷ [])

-- a lambda is one level deeper than the scope around it
abbrev pub own_level : Option (List ℕ) → ℕ
own_level None = 0
own_level (Some xs) = 1

-- the word of scope 0 is 0; each other of the first m scopes lies in a lower one, and is at its level or, a lambda, at
-- the next
pub record Nested (ws : List ℕ) (m : ℕ) : Type 0 where
  pub outermost : scope_word ws 0 ≡ 0
  pub lower : (k : ℕ) → 0 < k → k < m → parent_of (scope_word ws k) < k
  pub level : (k : ℕ) → 0 < k → k < m
      → level_of (scope_word ws k)
      ≡ own_level (args_in (scope_word ws k)) + level_of (scope_word ws (parent_of (scope_word ws k)))

-- ---- where a symbol is placed

-- the scopes from `cur` outwards
abbrev pub outward : List Scope → ℕ → List ℕ
outward scs cur = cur ∷ (scope_at scs cur).around

-- a symbol with these levels moves out of a scope: a lambda whose level is not among them
unfoldable pub left_by : ℕ → ℕ → Bool
left_by levels w = not (eqb (code_of w) 0) && not (has levels (level_of w))

-- the lambdas in a list of scopes
abbrev pub lambdas : List Scope → List ℕ → ℕ
lambdas scs [] = 0
lambdas scs (s ∷ out) = own_level (scope_at scs s).args + lambdas scs out

-- of each lambda in a list of scopes, from the inmost outwards: its nesting level is in the set where one of its
-- arguments is in `deps`
abbrev pub Tracks : List Scope → ℕ → List ℕ → List ℕ → Type 0
Tracks scs levels deps [] = Unit {0}
Tracks scs levels deps (s ∷ out) =
    ((xs : List ℕ) → (scope_at scs s).args ≡ Some xs → has levels (lambdas scs (s ∷ out)) ≡ any_in xs deps)
    × Tracks scs levels deps out

-- r is where a symbol that is met in scope `cur` is placed, whatever deps its levels track
abbrev pub Placed : List ℕ → ℕ → ℕ → ℕ → Type 0
Placed ws cur levels r =
    (m : ℕ) (deps : List ℕ) → cur < m → Tracks (scopes_of ws m) levels deps (outward (scopes_of ws m) cur)
    → r ≡ climb (scopes_of ws m) deps (outward (scopes_of ws m) cur)
