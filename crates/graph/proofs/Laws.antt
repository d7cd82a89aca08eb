-- Laws of the graph in the words. In order: a symbol's parts; its children, which are lower; slots in
-- use; the words that it hangs on; the tests of it.
-- Assumes nothing.
use Prim.Native.Nat.{ℕ, ◌+◌, ◌*◌, ◌<◌, ◌≤◌}
use mathlib.Core.Path.{◌≡◌, refl, sym, ap, subst, ◌∙◌}
use mathlib.Core.Bool.{Bool, true, false, not}
use mathlib.Core.List.{List}
use native.Mathlib.Omega.{arith}
use lib.Dec.{ltb}
use lib.ListN.{length, get_or-eq_default}
use borrow.Author.Tests.{ltb-true, ltb-false}
use Rattle.regions.specs.Regions.{SYMBOLS, SLOTS, SCOPES, end}
use Rattle.model.specs.Intern.{Sym, no_sym, sym_at}
use Rattle.model.specs.Gate.{sym_of}
use Rattle.model.specs.Schedule.{is_arg, is_outside, rel_of}
use Rattle.laws.specs.Frame.{Agree, Frame}
use Rattle.laws.specs.Members.{Under}
use Rattle.key.specs.declared.Symbol.{Symbol}
use Rattle.key.specs.declared.Leaf.{Leaf}
use Rattle.key.specs.declared.Node.{Node}
use Rattle.key.specs.declared.Node.TheVariants.{Const, Unparsed, Arg, Lambda, Op}
use Rattle.key.specs.Key.{symbol_at}
use Rattle.key.proofs.Laws.{symbol_agree}
use Rattle.symbols.specs.Symbols.{model_node, syms_of, AllSound}
use Rattle.symbols.specs.Symbols as symbols
use Rattle.symbols.proofs.Words.{words_under}
use Rattle.symbols.proofs.Laws.{syms_length, sym_at_lem, kids_at_lem, syms_agree, sounds_agree}
use Rattle.scopes.specs.declared.Rel.{Rel}
use Rattle.scopes.specs.Scopes.{Nested}
use Rattle.scopes.specs.Relation.{rel_in, Classified}
use Rattle.scopes.proofs.Open.{scopes_agree, nested_agree}
use Rattle.graph.specs.declared.held.Graph.{Graph}
use Rattle.graph.specs.Graph.{Within, Scoped, Arena, graph_of}
use Rattle.graph.specs.Tests.{Related, Tests, is_outsider}

-- ---- a symbol's parts

module _ (bs ws : List ℕ) (n m : ℕ) (slots : List ℕ) (s : ℕ) (lt : s < n) where
  pub node_of_lem : (sym_of (graph_of bs ws n m slots) s).node ≡ model_node bs (symbol_at ws s).node
  unfolding symbols.sym_of
  node_of_lem = ap (λ (z : Sym). z.node) (sym_at_lem bs ws n s lt)

  pub scope_of : (sym_of (graph_of bs ws n m slots) s).scope ≡ (symbol_at ws s).scope
  unfolding symbols.sym_of
  scope_of = ap (λ (z : Sym). z.scope) (sym_at_lem bs ws n s lt)

-- ---- its children

-- a symbol's children are lower; past the last symbol there are none
pub kids_low : (bs ws : List ℕ) (n m : ℕ) → Arena bs ws n m → (slots : List ℕ) (s : ℕ) →
    Under s (sym_of (graph_of bs ws n m slots) s).kids
kids_low bs ws n m arena slots s = go (ltb s n) refl
  where
    go : (b : Bool) → ltb s n ≡ b → Under s (sym_at (syms_of bs ws n) s).kids
    go true e =
        let lt = ltb-true s n e in
        subst (Under s) (sym (kids_at_lem bs ws n s lt)) (words_under ws _ _ s (arena.sound s lt).lower)
    go false e =
        subst (λ (y : Sym). Under s y.kids) (sym (get_or-eq_default (syms_of bs ws n) no_sym
        (omega (arith, syms_length bs ws n, ltb-false s n e)))) (λ x i. absurd i)

-- ---- slots in use

pub within_sound : (bs ws : List ℕ) (used n : ℕ) → Within ws used n → AllSound bs ws SLOTS.size n →
    AllSound bs ws used n
within_sound bs ws used n within sound i lt =
    let s = sound i lt in record { from = s.from; slots = within i lt; lower = s.lower }

-- ---- the words that they hang on: the symbols' own, `used` slots, and the scopes'

pub record Still (ws ws' : List ℕ) (used n m : ℕ) : Type 0 where
  pub long : length ws' ≡ length ws
  pub own : Agree ws ws' SYMBOLS.first (5 * n)
  pub slots : Agree ws ws' SLOTS.first (SLOTS.first + used)
  pub scopes : Agree ws ws' SCOPES.first (SCOPES.first + m)

-- nothing is changed but after the scopes
pub still_above : {lo hi used n m : ℕ} {ws ws' : List ℕ} → Frame lo hi ws ws' → end SCOPES ≤ lo → used ≤ SLOTS.size →
    Scoped ws n m → Still ws ws' used n m
still_above f le u h = record {
  long = f.long;
  own = λ k l r. f.before k (omega (arith, h.few));
  slots = λ k l r. f.before k (omega arith);
  scopes = λ k l r. f.before k (omega (arith, h.few_scopes));
}

module _ {ws ws' : List ℕ} {used n m : ℕ} (still : Still ws ws' used n m) where
  pub node_agree : (s : ℕ) → s < n → symbol_at ws' s ≡ symbol_at ws s
  node_agree s lt = symbol_agree ws ws' s (λ k l r. still.own k (omega arith) (omega arith))

  scoped_agree : Scoped ws n m → Scoped ws' n m
  scoped_agree h = record {
    few = h.few;
    long = omega (arith, still.long, h.long);
    some_scope = h.some_scope;
    few_scopes = h.few_scopes;
    nested = nested_agree ws ws' m h.some_scope still.scopes h.nested;
    placed = λ s lt. rw (node_agree s lt) (h.placed s lt);
  }

  pub arena_agree : (bs : List ℕ) → Within ws used n → Arena bs ws n m → Arena bs ws' n m
  arena_agree bs within h = record {
    scoped = scoped_agree h.scoped;
    sound = λ i lt.
        let s = sounds_agree bs ws ws' used still.slots n still.own
        (within_sound bs ws used n within h.sound) i lt in
        record { from = s.from; slots = rw (node_agree i lt) (h.sound i lt).slots; lower = s.lower };
  }

  pub graph_agree : (bs : List ℕ) → AllSound bs ws used n → (slots : List ℕ) →
      graph_of bs ws' n m slots ≡ graph_of bs ws n m slots
  graph_agree bs sound slots =
      rw (syms_agree bs ws ws' used still.slots n still.own sound, scopes_agree ws ws' m still.scopes)

-- ---- the tests

other_node : (bs : List ℕ) (x : Node) → ((l : Leaf) → x ≡ Arg l → ⊥) → false ≡ is_arg (model_node bs x)
other_node bs (Const l) other = refl
other_node bs (Unparsed l) other = refl
other_node bs (Arg l) other = absurd (other l refl)
other_node bs (Lambda f) other = refl
other_node bs (Op o) other = refl

-- the first k scopes are nested as the first m are
nested_part : (ws : List ℕ) (k m : ℕ) → k ≤ m → Nested ws m → Nested ws k
nested_part ws k m le h = record {
  outermost = h.outermost;
  lower = λ j p l. h.lower j p (omega arith);
  level = λ j p l. h.level j p (omega arith);
}

module _ (g : Graph) (s : ℕ) (y : Symbol) (loaded : y ≡ symbol_at g.words.now s) (lt : s < g.symbols) where
  node_tests : (a : Bool) → ((bs : List ℕ) → a ≡ is_arg (model_node bs y.node)) →
      Tests g (λ h. is_arg (sym_of h s).node) a
  node_tests a h bs slots =
      h bs
      ∙ sym (ap is_arg (node_of_lem bs g.words.now g.symbols g.scopes slots s lt
      ∙ ap (λ (z : Symbol). model_node bs z.node) (sym loaded)))

  pub arg_in : (l : Leaf) → y.node ≡ Arg l → Tests g (λ h. is_arg (sym_of h s).node) true
  arg_in l e = node_tests true (λ bs. rw e)

  pub arg_not_in : ((l : Leaf) → y.node ≡ Arg l → ⊥) → Tests g (λ h. is_arg (sym_of h s).node) false
  arg_not_in other = node_tests false (λ bs. other_node bs y.node other)

  scope_low : y.scope < g.scopes
  scope_low = subst (λ (z : Symbol). z.scope < g.scopes) (sym loaded) (g.scoped.placed s lt)

  pub scope_inside : SCOPES.first + y.scope < length g.words.now
  scope_inside = omega (arith, scope_low, g.scoped.long, g.scoped.few_scopes)

  pub scope_nested : Nested g.words.now (y.scope + 1)
  scope_nested = nested_part g.words.now (y.scope + 1) g.scopes (omega (arith, scope_low)) g.scoped.nested

  pub relation_is : (cur : ℕ) (r : Rel) → Classified g.words.now y.scope cur r → Related g s cur r
  unfolding rel_of
  relation_is cur r h bs slots =
      let k = graph_of bs g.words.now g.symbols g.scopes slots in
      let e : (sym_of k s).scope ≡ y.scope =
      scope_of bs g.words.now g.symbols g.scopes slots s lt ∙ ap (λ (z : Symbol). z.scope) (sym loaded) in
      rw e (h k g.scopes scope_low refl)

module _ (g : Graph) (cs d : ℕ) (a : Bool) (arg : Tests g (λ h. is_arg (sym_of h d).node) a) where
  pub outsider_arg : a ≡ true → Tests g (is_outsider cs d) (not a)
  outsider_arg e bs slots = rw (e, sym (arg bs slots) ∙ e)

  pub outsider_rel : a ≡ false → (r : Rel) → Related g d cs r → (b : Bool) → b ≡ is_outside (rel_in r) →
      Tests g (is_outsider cs d) b
  outsider_rel e r h b f bs slots = rw (sym (arg bs slots) ∙ e) (f ∙ ap is_outside (h bs slots))
