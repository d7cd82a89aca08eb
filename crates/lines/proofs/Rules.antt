-- The lines of symbols with their rules. In order: a line from its parts; how long lines are; the lines of the first symbols.
-- Assumes nothing.
use Prim.Native.Nat.{ℕ, zero, suc, ◌+◌, ◌*◌, ◌<◌, ◌≤◌}
use mathlib.Core.Path.{◌≡◌, refl, sym}
use mathlib.Core.Bool.{Bool, true, false}
use mathlib.Core.List.{List, [], ◌∷◌, ◌++◌, append_assoc, append-nil}
use native.Mathlib.Omega.{arith}
use native.Mathlib.Numerals.{add-one}
use borrow.Author.Tests.{eqb-true, eqb-false}
use lib.Dec.{eqb, ltb}
use lib.ListN.{length, length-append}
use Rattle.std.specs.Bool.{then_some}
use Rattle.model.specs.Text.{text}
use Rattle.model.specs.Lists.{is_in}
use Rattle.model.specs.Intern.{Sym, sym_at}
use Rattle.model.specs.Gate.{is_context_property, is_internal, is_const}
use Rattle.model.specs.Schedule.{is_arg}
use Rattle.model.specs.Lister.{numeral, rule_text, rule_line, rule_lines}
use Rattle.model.specs.Rules.{Rule, is_argument, used_at_most_once, context_property, global, scalar_constant, hoisted}
use Rattle.model.specs.Rules.{no_definition, first_rule, tests, by_blocks}
use Rattle.laws.proofs.Walks.{if_holds}
use Rattle.regions.specs.Regions.{PLAN}
use Rattle.key.specs.Key.{symbol_at}
use Rattle.symbols.specs.Symbols.{sym_of, syms_of}
use Rattle.symbols.proofs.Laws.{sym_at_lem}
use Rattle.gate.specs.Gate.{uses_at, reached_at}
use Rattle.plan.specs.Plan.{plan_from, symbols_in}
use Rattle.rules.specs.Rules.{rule_at, rule_here, reached_to, rules_to}
use Rattle.rules.proofs.Reached.{rules_more, rules_same}
use Rattle.output.specs.declared.Output.{Output}
use Rattle.output.specs.Output.{Put}
use Rattle.output.proofs.Put.{put_none, put_as, put_then}
use Rattle.text.proofs.Numbers.{ten, numeral-length, numeral-few}
use Rattle.text.proofs.Line.{newline}
use Rattle.lines.proofs.Line.{space}

-- ---- a line from its parts

pub rule_parts : (s : ℕ) (r : Rule) {o o₁ o₂ o₃ : Output} → Put o (numeral s ++ (32 ∷ [])) o₁ → Put o₁ (rule_text r) o₂ →
    Put o₂ (10 ∷ []) o₃ → Put o (rule_line (s, r)) o₃
unfolding rule_line
rule_parts s r w₁ w₂ w₃ = rw (← space, ← newline) (put_then (put_then w₁ w₂) w₃)

-- ---- how long lines are

text_length : (r : Rule) → length (rule_text r) ≤ 37
unfolding rule_text text
text_length is_argument = omega arith
text_length used_at_most_once = omega arith
text_length context_property = omega arith
text_length global = omega arith
text_length scalar_constant = omega arith
text_length (hoisted sc) = omega (arith, numeral-length sc)
text_length no_definition = omega arith

pub text_ends : (r : Rule) {o o₁ : Output} → Put o (rule_text r) o₁ → o₁.at ≤ o.at + 37
text_ends r w = omega (arith, w.ends, text_length r)

-- of a symbol whose scope's number has at most four digits
placed_few : (defined : Bool) (sc : ℕ) → sc < 4096 → length (rule_text (by_blocks (then_some defined sc))) ≤ 21
unfolding rule_text text ten
placed_few true sc lt = omega (arith, numeral-few 3 sc (omega arith))
placed_few false sc lt = omega arith

text_few : (y : Sym) (uses : ℕ) (defined : Bool) → y.scope < 4096 → length (rule_text (rule_at y uses defined)) ≤ 21
unfolding first_rule tests rule_text text
text_few y uses defined lt =
    let P = λ (r : Rule). length (rule_text r) ≤ 21 in
    if_holds P (is_arg y.node) _ _ (omega arith)
    (if_holds P (ltb uses 2) _ _ (omega arith)
    (if_holds P (is_context_property y) _ _ (omega arith)
    (if_holds P (is_internal y) _ _ (omega arith)
    (if_holds P (is_const y) _ _ (omega arith) (placed_few defined y.scope lt)))))

scope_low : (bs ws : List ℕ) (n s : ℕ) → s < n → (sym_at (syms_of bs ws n) s).scope < 4096
unfolding sym_of symbol_at
scope_low bs ws n s lt = rw (sym_at_lem bs ws n s lt) (omega arith)

module _ (bs ws : List ℕ) (n rows : ℕ) where
  line_few : (s : ℕ) → s < n → n ≤ 512 → length (rule_line (s, rule_here bs ws n rows s)) ≤ 32
  unfolding rule_line ten
  line_few s lt few =
      let y = sym_at (syms_of bs ws n) s in
      let t = text_few y (uses_at ws s) (is_in s (symbols_in (plan_from ws PLAN.first rows))) (scope_low bs ws n s lt) in
      rw (← space, ← newline) (simp length-append (omega (arith, numeral-few 2 s (omega arith))))

-- ---- the lines of the first symbols

rule_lines-append : (a b : List (ℕ × Rule)) → rule_lines (a ++ b) ≡ rule_lines a ++ rule_lines b
unfolding rule_lines
rule_lines-append [] b = refl
rule_lines-append (r ∷ a) b =
    rw (rule_lines-append a b) (sym (append_assoc (rule_line r) (rule_lines a) (rule_lines b)))

rule_lines-last : (a : List (ℕ × Rule)) (r : ℕ × Rule) → rule_lines (a ++ (r ∷ [])) ≡ rule_lines a ++ rule_line r
unfolding rule_lines
rule_lines-last a r = rw (rule_lines-append a (r ∷ []), append-nil)

pub rules_start : (bs ws : List ℕ) (n rows : ℕ) (o : Output) → Put o (rule_lines (rules_to bs ws n rows 0)) o
unfolding rule_lines rules_to reached_to
rules_start bs ws n rows o = put_none o

module _ (bs ws : List ℕ) (n rows k : ℕ) where
  abbrev before : List (ℕ × Rule)
  before = rules_to bs ws n rows k

  pub rules_turn : reached_at ws k ≡ 1 → {o o₁ o₂ : Output} → Put o (rule_lines before) o₁ →
      Put o₁ (rule_line (k, rule_here bs ws n rows k)) o₂ → Put o (rule_lines (rules_to bs ws n rows (k + 1))) o₂
  rules_turn e w₁ w₂ =
      rw (add-one k, rules_more bs ws n rows k e)
      (put_as (sym (rule_lines-last before (k, rule_here bs ws n rows k))) (put_then w₁ w₂))

  pub rules_pass : (reached_at ws k ≡ 1 → ⊥) → {o o₁ : Output} → Put o (rule_lines before) o₁ →
      Put o (rule_lines (rules_to bs ws n rows (k + 1))) o₁
  rules_pass h w = rw (add-one k, rules_same bs ws n rows k h) w

module _ (bs ws : List ℕ) (n rows : ℕ) (few : n ≤ 512) where
  one_longer : (k : ℕ) → k < n → length (rule_lines (rules_to bs ws n rows k)) ≤ 32 * k →
      length (rule_lines (rules_to bs ws n rows (suc k))) ≤ 32 * suc k
  one_longer k lt le = go (eqb (reached_at ws k) 1) refl
    where
      r : ℕ × Rule
      r = (k, rule_here bs ws n rows k)

      l : List (ℕ × Rule)
      l = rules_to bs ws n rows k

      go : (b : Bool) → eqb (reached_at ws k) 1 ≡ b → length (rule_lines (rules_to bs ws n rows (suc k))) ≤ 32 * suc k
      go true e =
          rw (rules_more bs ws n rows k (eqb-true _ _ e), rule_lines-last l r)
          (omega (arith, le, length-append (rule_lines l) (rule_line r), line_few bs ws n rows k lt few))
      go false e = rw (rules_same bs ws n rows k (eqb-false _ _ e)) (omega (arith, le))

  rules_length : (k : ℕ) → k ≤ n → length (rule_lines (rules_to bs ws n rows k)) ≤ 32 * k
  unfolding rule_lines rules_to reached_to
  rules_length zero le = omega arith
  rules_length (suc k) le = one_longer k (omega arith) (rules_length k (omega arith))

  pub rules_end : (k : ℕ) → k ≤ n → {o o₁ : Output} → Put o (rule_lines (rules_to bs ws n rows k)) o₁ →
      o₁.at ≤ o.at + 32 * k
  rules_end k le w = omega (arith, w.ends, rules_length k le)
