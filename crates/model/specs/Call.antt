-- The main call, whole: its five numbers, and what the output and the work memory hold afterwards, refused calls too.
-- In order: what a call is given; its checks before and after interning; its answer; its numbers, output and words.
-- Assumes nothing.
use Rattle.std.specs.Prelude.{ℕ, true, false, ◌||◌, List, [], ◌∷◌, ◌++◌, map, ltb, length, drop, replicate, Option}
use Rattle.model.specs.Answer.{Answer, refused, good, ◌>>=◌, checked, at0}
use Rattle.model.specs.Tree.{Tree, nil, cons, size, depth, serialise}
use Rattle.model.specs.Accept.{accept}
use Rattle.model.specs.Intern.{State, Out, intern_last, intern_forest}
use Rattle.model.specs.Gate.{Graph, reachable}
use Rattle.model.specs.Materialize.{materialize}

-- ---- what a call is given

-- the forest's bytes, how many bytes the output has, how many work words there are
pub record Call : Type 0 where
  pub forest : List ℕ
  pub room : ℕ
  pub words : ℕ

-- of a call that is lent these bytes, this output and these work words
abbrev pub call_of : List ℕ → List ℕ → List ℕ → Call
call_of forest out work = record { forest = forest; room = length out; words = length work }

-- of a call on a forest that is lent as much as any needs: 65,535 output bytes and 16,384 work words
abbrev pub ample : List ℕ → Call
ample forest = record { forest = forest; room = 65535; words = 16384 }

-- ---- the checks before and after interning

-- 1: under 16,384 work words
unfoldable pub check1 : ℕ → Option ℕ
check1 words = at0 (ltb words 16384)

-- those of what is lent, before the forest is looked at
unfoldable pub lent_checks : Call → List (ℕ × Option ℕ)
lent_checks c = (1, check1 c.words) ∷ []

-- the root's symbol, and the state that interning leaves: the root is the last tree
unfoldable pub interned : List ℕ → Out
interned bs = do
  ts ← accept bs
  intern_last (intern_forest ts)

-- the symbols and scopes, with what the root's symbol reaches of them: by it the gate and the lister count uses
abbrev pub reached_of : ℕ × State → Graph
reached_of o = reachable o.1.syms o.1.scopes o.0

-- "the tree document 01 defines", and its bytes: a forest of one tree
unfoldable pub tree_of : ℕ × State → Tree
tree_of o = materialize o.1.syms o.1.scopes o.0

unfoldable pub bytes_of : ℕ × State → List ℕ
bytes_of o = serialise (cons (tree_of o) nil)

-- 13: over 256 records, over 65,535 bytes or longer than the output. 14: deeper than 64
unfoldable pub check13 : ℕ → ℕ × State → Option ℕ
check13 room o = at0 (ltb 256 (size (tree_of o)) || ltb 65535 (length (bytes_of o)) || ltb room (length (bytes_of o)))

unfoldable pub check14 : ℕ × State → Option ℕ
check14 o = at0 (ltb 64 (depth (tree_of o)))

-- those of the tree that is to be written, once it is known
unfoldable pub tree_checks : ℕ → List (ℕ × (ℕ × State → Option ℕ))
tree_checks room = (13, check13 room) ∷ (14, check14) ∷ []

-- ---- the answer

-- a success: the written tree, its bytes, symbols and readings
pub record Written : Type 0 where
  pub tree : Tree
  pub bytes : List ℕ
  pub symbols : ℕ
  pub readings : ℕ

unfoldable pub written_of : ℕ × State → Written
written_of o = record { tree = tree_of o; bytes = bytes_of o; symbols = length o.1.syms; readings = o.1.readings }

-- the tree that document 01 defines, unless a check of it fails
unfoldable pub measured : ℕ → ℕ × State → Answer Written
measured room o = checked (map (λ c. (c.0, c.1 o)) (tree_checks room)) (written_of o)

-- the call, once what is lent suffices
unfoldable pub written : Call → Answer Written
written c = do
  o ← interned c.forest
  measured c.room o

unfoldable pub run : Call → Answer Written
run c = do
  lent ← checked (lent_checks c) c
  written lent

-- ---- the numbers, the output and the work words

-- number, place, written length, symbols, readings. "A refusal gives zero for the last three"
pub record Numbers : Type 0 where
  pub number : ℕ
  pub place : ℕ
  pub len : ℕ
  pub symbols : ℕ
  pub readings : ℕ

unfoldable pub numbers_of : Answer Written → Numbers
numbers_of (refused n p) = record { number = n; place = p; len = 0; symbols = 0; readings = 0 }
numbers_of (good w) =
    record { number = 0; place = 0; len = length w.bytes; symbols = w.symbols; readings = w.readings }

unfoldable pub numbers : Call → Numbers
numbers c = numbers_of (run c)

-- "changes no output byte"; "output bytes past the written length keep their values"
unfoldable pub out_with : Answer Written → List ℕ → List ℕ
out_with (refused n p) out = out
out_with (good w) out = w.bytes ++ drop (length w.bytes) out

-- what the call leaves in the output
unfoldable pub out_after : Call → List ℕ → List ℕ
out_after c out = out_with (run c) out

-- "After 1 the work memory is unchanged; after all else its first 16,384 words are 0 and later words unchanged"
unfoldable pub work_after : List ℕ → List ℕ
work_after work = elim (ltb (length work) 16384) [ true ↦ work | false ↦ replicate 16384 0 ++ drop 16384 work ]
