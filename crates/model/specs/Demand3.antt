-- Demand 3: "the main call gives 0 exactly when none of its refusals applies, and then the written tree is the one
-- document 01 defines, its unfolding equals that of the forest's root, and, as input, it meets none of refusals 2 to 10", nor
-- 16 (request A.9).
-- Conditions says what each refusal is. `theory` proves `Demand3` of every call, and the main call's contract has it.
-- In order: uses of an id; what is written; the statement.
-- Assumes nothing.
use Rattle.std.specs.Prelude.{◌≡◌, ◌↔◌, List, ◌++◌, ℕ, ◌≤◌, length, drop}
use Rattle.model.specs.Tree.{Tree, Trees, node, nil, cons, root}
use Rattle.model.specs.Forest.{trees_of}
use Rattle.model.specs.Opcodes.{ValUse}
use Rattle.model.specs.Binding.{id_of}
use Rattle.model.specs.Unfold.{unfolded}
use Rattle.model.specs.Intern.{State}
use Rattle.model.specs.Call.{Call, tree_of, bytes_of, Numbers, numbers, out_after}
use Rattle.model.specs.Trace.{Interned}
use Rattle.model.specs.Conditions.{Accepted, NoneApplies, FirstApplies}

-- ---- uses of an id

-- no record of a tree is a use of id i
abbrev mutual
  pub NoUse : ℕ → Tree → Type 0
  NoUse i (node r ts) = (r.shape ≡ ValUse → id_of r ≡ i → ⊥) × NoUses i ts

  pub NoUses : ℕ → Trees → Type 0
  NoUses i nil = Unit {0}
  NoUses i (cons t ts) = NoUse i t × NoUses i ts

-- ---- what is written

-- by call c, lent the output `out`, where it gives the numbers ns and leaves the output out'
pub record Writes (c : Call) (out : List ℕ) (ns : Numbers) (out' : List ℕ) : Type 0 where
  -- the root's symbol, with all symbols and scopes: document 01 defines a tree for the forest, `tree_of` of these
  pub interned : ℕ × State
  pub defined : Interned c.forest interned
  -- its bytes stand in the output, "as many bytes as the written length counts"; those past them "keep their values"
  pub stands : out' ≡ bytes_of interned ++ drop (length (bytes_of interned)) out
  -- number, place, written length, symbols, readings
  pub answers : ns ≡ record {
    number = 0;
    place = 0;
    len = length (bytes_of interned);
    symbols = length interned.1.syms;
    readings = interned.1.readings;
  }
  pub fits_in : length (bytes_of interned) ≤ c.room
  -- "as input, it meets none of refusals 2 to 10", nor 16
  pub accepted : Accepted (bytes_of interned)
  -- read, the bytes are a forest of one tree, the one that document 01 defines
  pub reads_back : trees_of (bytes_of interned) ≡ cons (tree_of interned) nil
  -- no record of it is a use of id 0, as which an argument outside its lambda would be written: none is met
  pub no_zero_use : NoUse 0 (tree_of interned)
  -- "its unfolding equals that of the forest's root"; Failing says what is kept of values where operations may fail
  pub keeps : unfolded (root (trees_of (bytes_of interned))) ≡ unfolded (root (trees_of c.forest))

-- ---- the statement

-- of a call that gives the numbers ns and leaves the output out'
pub record Demanded (c : Call) (out : List ℕ) (ns : Numbers) (out' : List ℕ) : Type 0 where
  -- the call gives 0 exactly when none of its refusals applies
  pub zero_exactly : (ns.number ≡ 0) ↔ NoneApplies c
  -- it gives number n with place p exactly when n applies there, and none before it in the order does
  pub refusal_exactly : (n p : ℕ) → 1 ≤ n → ((ns.number ≡ n) × (ns.place ≡ p)) ↔ FirstApplies c n p
  -- and after 0 the written tree is the one that document 01 defines, means what the root means, and is accepted
  pub writes : ns.number ≡ 0 → Writes c out ns out'

-- of the call as it is defined, with any output of its length
abbrev pub Demand3 : Call → Type 0
Demand3 c = (out : List ℕ) → length out ≡ c.room → Demanded c out (numbers c) (out_after c out)
