-- Which words the scopes hang on, and one more scope.
-- In order: words kept; the outermost scope; one more scope, whatever its word; a thunk, a lambda. Assumes nothing.
use Prim.Native.Nat.{ℕ, zero, suc, ◌+◌, ◌<◌, ◌≤◌}
use mathlib.Core.Path.{◌≡◌, refl, ap, ◌∙◌}
use Rattle.std.specs.Prelude.{Option, None, Some}
use mathlib.Core.List.{List, [], ◌∷◌, ◌++◌}
use native.Mathlib.Omega.{arith}
use native.Mathlib.Numerals.{add-one}
use borrow.Author.Count.{below_more}
use lib.ListN.{length, set}
use lib.Seq.{get_or-set_same}
use Rattle.model.specs.Intern.{Scope, root_scope}
use Rattle.laws.specs.Range.{range}
use Rattle.laws.specs.Frame.{Agree}
use Rattle.laws.proofs.Frame.{agree_store}
use Rattle.regions.specs.Regions.{SCOPES}
use Rattle.scopes.specs.Scopes.{scope_word, packed_of, parent_of, level_of, args_from, args_in, thunk_word, lambda_word}
use Rattle.scopes.specs.Scopes.{with_thunk, with_lambda, scope_from, scopes_of, own_level, Nested, outward}
use Rattle.scopes.proofs.Laws.{packed_parent, packed_level, packed_args}

-- ---- words kept

from_kept : (l : List Scope) (us ws : List ℕ) (k : ℕ) → scope_word us k ≡ scope_word ws k
    → scope_from l us k ≡ scope_from l ws k
from_kept l us ws zero e = refl
from_kept l us ws (suc k) e = rw e

-- the word of one of the first m scopes
pub word_agree : (ws us : List ℕ) (m : ℕ) → Agree ws us SCOPES.first (SCOPES.first + m) → (k : ℕ) → k < m →
    scope_word us k ≡ scope_word ws k
word_agree ws us m e k lt = e (SCOPES.first + k) (omega arith) (omega arith)

pub scopes_agree : (ws us : List ℕ) (m : ℕ) → Agree ws us SCOPES.first (SCOPES.first + m) →
    scopes_of us m ≡ scopes_of ws m
unfolding scopes_of
scopes_agree ws us zero e = refl
scopes_agree ws us (suc m) e =
    rw (
      scopes_agree ws us m (λ k l r. e k l (omega arith)),
      from_kept (scopes_of ws m) us ws m (word_agree ws us (suc m) e m (omega arith)),
    )

pub nested_agree : (ws us : List ℕ) (m : ℕ) → 0 < m → Agree ws us SCOPES.first (SCOPES.first + m) → Nested ws m →
    Nested us m
nested_agree ws us m z e h =
    let word = word_agree ws us m e in
    record {
      outermost = word 0 z ∙ h.outermost;
      lower = λ k p lt. rw (word k lt) (h.lower k p lt);
      level = λ k p lt.
          let q = h.lower k p lt in
          rw (word k lt, word (parent_of (scope_word ws k)) (omega arith)) (h.level k p lt);
    }

-- ---- the outermost scope

pub scopes_outermost : (ws : List ℕ) → scopes_of ws 1 ≡ root_scope ∷ []
unfolding scopes_of
scopes_outermost ws = refl

pub nested_outermost : (ws : List ℕ) → SCOPES.first < length ws → Nested (set ws SCOPES.first 0) 1
nested_outermost ws lt = record {
  outermost = get_or-set_same ws SCOPES.first 0 0 lt;
  lower = λ k p q. absurd (omega arith);
  level = λ k p q. absurd (omega arith);
}

-- ---- one more scope, whatever its word

module _ (ws : List ℕ) (m w : ℕ) (room : SCOPES.first + m < length ws) where
  abbrev grown : List ℕ
  grown = set ws (SCOPES.first + m) w

  word_new : scope_word grown m ≡ w
  word_new = get_or-set_same ws (SCOPES.first + m) w 0 room

  old_kept : Agree ws grown SCOPES.first (SCOPES.first + m)
  old_kept = agree_store ws (SCOPES.first + m) w SCOPES.first (SCOPES.first + m) (omega arith)

  scopes_one : 0 < m
      → scopes_of grown (m + 1)
      ≡ scopes_of ws m ++ (record { around = outward (scopes_of ws m) (parent_of w); args = args_in w } ∷ [])
  unfolding scopes_of
  scopes_one z =
      rw (add-one m, scopes_agree ws grown m old_kept)
      (ap (λ (s : Scope). scopes_of ws m ++ (s ∷ [])) (one m z word_new))
    where
      one : (k : ℕ) → 0 < k → scope_word grown k ≡ w
          → ◌≡◌ {A = Scope}
          (scope_from (scopes_of ws m) grown k)
          (record { around = outward (scopes_of ws m) (parent_of w); args = args_in w })
      one zero z e = absurd (omega arith)
      one (suc k) z e = rw e

  nested_one : 0 < m → parent_of w < m
      → level_of w ≡ own_level (args_in w) + level_of (scope_word ws (parent_of w)) → Nested ws m
      → Nested grown (m + 1)
  nested_one z p l h =
      let o = nested_agree ws grown m z old_kept h in
      record {
        outermost = o.outermost;
        lower = λ k i lt.
            below_more (λ k. 0 < k → parent_of (scope_word grown k) < k) m (λ k q i. o.lower k i q) (λ i. rw word_new p) k lt i;
        level = λ k i lt.
            below_more (λ k. 0 < k → level_of (scope_word grown k)
            ≡ own_level (args_in (scope_word grown k)) + level_of (scope_word grown (parent_of (scope_word grown k)))) m
            (λ k q i. o.level k i q) (λ i. rw (word_new, word_agree ws grown m old_kept (parent_of w) p) l) k lt i;
      }

-- ---- a thunk, a lambda

module _ (ws : List ℕ) (m cur : ℕ) (room : SCOPES.first + m < length ws) (lt : cur < m) (few : m ≤ 4096) where
  -- the parts of a word inside `cur`, as the laws of one more scope want them
  module _ (first code own : ℕ) (f : first < 512) (c : code < 32) (o : own_level (args_from first code) ≡ own) where
    abbrev word : ℕ
    word = packed_of cur first code (own + level_of (scope_word ws cur))

    word_parent : parent_of word ≡ cur
    word_parent = packed_parent cur first code (own + level_of (scope_word ws cur)) (omega arith) f c

    word_args : args_in word ≡ args_from first code
    word_args = packed_args cur first code (own + level_of (scope_word ws cur)) (omega arith) f c

    word_level : level_of word ≡ own + level_of (scope_word ws cur)
    word_level = packed_level cur first code (own + level_of (scope_word ws cur)) (omega arith) f c

    scopes_word : scopes_of (set ws (SCOPES.first + m) word) (m + 1)
        ≡ scopes_of ws m ++ (record { around = outward (scopes_of ws m) cur; args = args_from first code } ∷ [])
    scopes_word =
        scopes_one ws m word room (omega arith)
        ∙ ap (λ (p : ℕ). scopes_of ws m ++ (record { around = outward (scopes_of ws m) p; args = args_in word } ∷ []))
        word_parent
        ∙ ap (λ (a : Option (List ℕ)).
        scopes_of ws m ++ (record { around = outward (scopes_of ws m) cur; args = a } ∷ []))
        word_args

    nested_word : Nested ws m → Nested (set ws (SCOPES.first + m) word) (m + 1)
    nested_word h =
        nested_one ws m word room (omega arith) (rw word_parent lt) (word_level ∙ rw (word_args, o, word_parent)) h

  thunk_word_lem : thunk_word ws cur ≡ packed_of cur 0 0 (0 + level_of (scope_word ws cur))
  thunk_word_lem = omega arith

  pub scopes_thunk : scopes_of (with_thunk ws m cur) (m + 1)
      ≡ scopes_of ws m ++ (record { around = outward (scopes_of ws m) cur; args = None } ∷ [])
  scopes_thunk = rw thunk_word_lem (scopes_word 0 0 0 (omega arith) (omega arith) refl)

  pub nested_thunk : Nested ws m → Nested (with_thunk ws m cur) (m + 1)
  nested_thunk h = rw thunk_word_lem (nested_word 0 0 0 (omega arith) (omega arith) refl h)

  module _ (first n : ℕ) (f : first < 512) (c : n < 31) where
    lambda_word_lem : lambda_word ws cur first n ≡ packed_of cur first (suc n) (1 + level_of (scope_word ws cur))
    lambda_word_lem = omega arith

    pub scopes_lambda : scopes_of (with_lambda ws m cur first n) (m + 1)
        ≡ scopes_of ws m ++ (record { around = outward (scopes_of ws m) cur; args = Some (range first n) } ∷ [])
    scopes_lambda = rw lambda_word_lem (scopes_word first (suc n) 1 f (omega arith) refl)

    pub nested_lambda : Nested ws m → Nested (with_lambda ws m cur first n) (m + 1)
    nested_lambda h = rw lambda_word_lem (nested_word first (suc n) 1 f (omega arith) refl h)
