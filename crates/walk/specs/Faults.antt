-- Checks 7 to 10 as tests of one walk, which knows of a record all that they have to know; and a test for all four.
-- In order: where a record stands; the tests.
-- Assumes nothing.
use Rattle.std.specs.Prelude.{ℕ, suc, Bool, false, not, ◌&&◌, ◌||◌, List, ◌++◌, [], ltb}
use Rattle.model.specs.Tree.{Rec, is_nil}
use Rattle.model.specs.Faults.{Check}
use Rattle.walk.specs.declared.Test.{Test}
use Rattle.walk.specs.declared.Test.TheVariants.{Any, Depth, Definitions, Bindings, Uses}
use Rattle.model.specs.Binding.{is_block, inside, after, misplaced_at, rebound_at, unbound_at}

-- ---- where a record stands

-- its depth; whether a definition has to stand here (of trees in a row: whether they are a block's children); the ids
-- in force
pub record Ctx : Type 0 where
  pub depth : ℕ
  pub def : Bool
  pub ids : List ℕ

-- a forest's trees
abbrev pub start : Ctx
start = record { depth = 1; def = false; ids = [] }

-- the check with a test of a record where it stands
abbrev pub testing : (Ctx → Rec → Bool) → Check Ctx
testing test = record {
  offends = test;
  inner = λ r c. record { depth = suc c.depth; def = is_block r; ids = inside r ++ c.ids };
  here = λ c ts. record { depth = c.depth; def = c.def && not (is_nil ts); ids = c.ids };
  later = λ t c. record { depth = c.depth; def = c.def; ids = after t ++ c.ids };
}

-- ---- the tests

-- any of the four
unfoldable pub any_at : Ctx → Rec → Bool
any_at c r = ltb 64 c.depth || misplaced_at c.def r || rebound_at c.ids r || unbound_at c.ids r

-- each of them
abbrev pub test_at : Test → Ctx → Rec → Bool
test_at Any c r = any_at c r
test_at Depth c r = ltb 64 c.depth
test_at Definitions c r = misplaced_at c.def r
test_at Bindings c r = rebound_at c.ids r
test_at Uses c r = unbound_at c.ids r

-- the check of a test
abbrev pub check_by : Test → Check Ctx
check_by t = testing (test_at t)
