-- Symbols as the pass leaves them in the words. In order: their forest stands; they can be listed; lines by uses that are the same; the lines
-- are the definition's; so are their rules.
-- Assumes nothing.
use Prim.Native.Nat.{ℕ, suc, ◌+◌, ◌<◌}
use mathlib.Core.Path.{◌≡◌, refl, sym, ap, ap₂, ◌∙◌}
use mathlib.Core.Logic.{inl, inr}
use mathlib.Core.List.{List, [], ◌∷◌, map}
use native.Mathlib.Omega.{arith}
use lib.ListN.{length}
use Rattle.model.specs.Answer.{good}
use Rattle.model.specs.Forest.{trees_of}
use Rattle.model.specs.Intern.{Sym, State}
use Rattle.model.specs.Tree.{size}
use Rattle.model.specs.Gate.{Graph, reach, reachable, usage}
use Rattle.model.specs.Call.{interned, tree_of, reached_of}
use Rattle.model.specs.Rules.{Rule, rule_of, in_order, written_blocks, rules_of}
use Rattle.model.specs.Lister.{lines_from, symbol_lines}
use Rattle.laws.specs.Members.{In}
use Rattle.laws.proofs.Apart.{good_inj}
use Rattle.labels.proofs.Rules.{rule_is, order_in}
use Rattle.record.specs.Record.{Laid}
use Rattle.codec.proofs.Accepting.{accept-passed}
use Rattle.symbols.specs.Symbols.{syms_of}
use Rattle.symbols.proofs.Laws.{syms_length}
use Rattle.gate.specs.Gate.{uses_at}
use Rattle.rules.specs.Rules.{reached_to, rule_here, rules_to}
use Rattle.rules.proofs.Reached.{reached_same}
use Rattle.lines.specs.Lines.{Listable}
use Rattle.cse.specs.Call.{Held}

-- the forest stands
pub held_laid : (bs ws : List ℕ) (n : ℕ) → Held bs ws n → Laid bs
held_laid bs ws n held = (accept-passed bs (trees_of bs) held.accepted).shaped.sound.laid

pub listable : (bs ws : List ℕ) (n : ℕ) → Held bs ws n → Listable bs ws n
listable bs ws n held = record {
  few = held.arena.scoped.few;
  words = held.words;
  sound = held.arena.sound;
}

-- ---- lines

lines_agree : (u v : ℕ → ℕ) (i : ℕ) (ss : List Sym) → ((s : ℕ) → s < i + length ss → u s ≡ v s) →
    lines_from u i ss ≡ lines_from v i ss
unfolding lines_from
lines_agree u v i [] same = refl
lines_agree u v i (y ∷ ss) same =
    rw (same i (omega arith), lines_agree u v (suc i) ss (λ s l. same s (omega arith)))

-- of the symbols that the definitions make, with their uses
pub lines_same : (bs ws : List ℕ) (n : ℕ) → Held bs ws n → (o : ℕ × State) → interned bs ≡ good o →
    symbol_lines (uses_at ws) (syms_of bs ws n) ≡ symbol_lines (usage (reached_of o)) o.1.syms
unfolding symbol_lines
lines_same bs ws n held o is =
    rw (lines_agree (uses_at ws) (usage (reached_of held.made)) 0 (syms_of bs ws n)
    (λ s l. held.uses s (omega (arith, syms_length bs ws n))))
    (ap (symbol_lines (usage (reached_of held.made))) held.syms
    ∙ ap (λ (x : ℕ × State). symbol_lines (usage (reached_of x)) x.1.syms) (good_inj (sym held.interns ∙ is)))

-- ---- rules

map_agree : (f h : ℕ → ℕ × Rule) (is : List ℕ) → ((s : ℕ) → In s is → f s ≡ h s) → map f is ≡ map h is
map_agree f h [] same = refl
map_agree f h (s ∷ is) same = ap₂ ◌∷◌ (same s (inl refl)) (map_agree f h is (λ d i. same d (inr i)))

module _ (bs ws : List ℕ) (n : ℕ) (held : Held bs ws n) (rows : ℕ) (many : rows ≡ size (tree_of held.made)) where
  abbrev g : Graph
  g = reached_of held.made

  rule_held : (s : ℕ) → s < n → rule_here bs ws n rows s ≡ rule_of g (written_blocks g held.made.0) s
  unfolding reachable
  rule_held s lt = rw (many, held.syms, held.uses s lt, held.defined) (sym (rule_is g held.made.0 s))

  rules_held : rules_to bs ws n rows n ≡ rules_of held.made
  unfolding rules_to rules_of
  rules_held =
      let is = reach held.made.1.syms (suc held.made.0) (held.made.0 ∷ []) in
      let long : n ≡ length held.made.1.syms = sym (syms_length bs ws n) ∙ ap length held.syms in
      let rule : ℕ → ℕ × Rule = λ s. (s, rule_of g (written_blocks g held.made.0) s) in
      map_agree _ rule (reached_to ws n) (λ s i.
      ap (λ (r : Rule). (s, r)) (rule_held s (order_in is n s (rw (reached_same ws is n held.reached) at i)).0))
      ∙ ap (map rule) (reached_same ws is n held.reached)
      ∙ ap (λ (k : ℕ). map rule (in_order k is)) long

  pub rules_told : (o : ℕ × State) → interned bs ≡ good o → rules_to bs ws n rows n ≡ rules_of o
  rules_told o is = rules_held ∙ ap rules_of (good_inj (sym held.interns ∙ is))
