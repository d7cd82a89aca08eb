-- The symbol of a key, found or made, as model's `finish` has it. In order: a symbol that is found is one of those that
-- stand; `finish` by what is found.
-- Assumes nothing.
use Prim.Native.Nat.{ℕ, zero, suc, ◌+◌, ◌-◌, ◌<◌, ◌≤◌}
use mathlib.Core.Path.{◌≡◌, refl, sym, ap, ◌∙◌}
use mathlib.Core.Logic.{inl, inr}
use mathlib.Core.Bool.{Bool, true, false}
use Rattle.std.specs.Prelude.{Option, None, Some, Ok}
use mathlib.Core.List.{List, [], ◌∷◌}
use native.Mathlib.Omega.{arith}
use lib.ListN.{length, get_or}
use Rattle.model.specs.Answer.{good}
use Rattle.model.specs.Tree.{Rec}
use Rattle.model.specs.Lists.{without}
use Rattle.model.specs.Intern.{Sym, is_key, lookup_in, lookup, union_deps, alloc, finish}
use Rattle.model.specs.Intern as intern
use Rattle.laws.specs.Members.{Under}
use Rattle.laws.proofs.Apart.{none_some}
use Rattle.laws.specs.Stack.{stack_of}
use Rattle.key.specs.declared.Node.{Node}
use Rattle.key.specs.declared.Node.TheVariants.{Const, Unparsed, Arg, Lambda, Op}
use Rattle.key.specs.declared.Parts.{Parts}
use Rattle.key.specs.Key.{parts_of}
use Rattle.symbols.specs.Words.{pending_from}
use Rattle.symbols.specs.Symbols.{syms_of, key_rec, rec_of, own_of, model_node}
use Rattle.tables.specs.declared.Tables.{Tables}
use Rattle.tables.specs.Tables.{entries, tables, tables_of, Open, EntriesBelow}
use Rattle.interner.specs.declared.State.{State}
use Rattle.interner.specs.declared.Step.{Step}
use Rattle.interner.specs.State.{abs_of, Rep}
use Rattle.interner.specs.Step.{given, state_after, Answers, alloc_of, finish_of, new_deps, Keyed, Ready}
use Rattle.interner.proofs.Sharing.{answers_as, given_answers, old_state}

-- ---- what is found is below what all entries are

abbrev AllUnder : ℕ → List (List ℕ) → Type 0
AllUnder n [] = Unit {0}
AllUnder n (t ∷ ts) = Under n t × AllUnder n ts

module _ (ss : List Sym) (r : Rec) (ks : List ℕ) (n : ℕ) where
  in_low : (es : List ℕ) (i : ℕ) → Under n es → lookup_in ss r ks es ≡ Some i → i < n
  unfolding lookup_in
  in_low [] i b e = none_some e
  in_low (x ∷ es) i b e = go (is_key ss r ks x) (in_low es i (λ a h. b a (inr h))) e
    where
      go : (t : Bool) → (lookup_in ss r ks es ≡ Some i → i < n) →
          elim t [ true ↦ Some x | false ↦ lookup_in ss r ks es ] ≡ Some i → i < n
      go true rest e = let p : i ≡ x = cc in b i (inl p)
      go false rest e = rest e

  lookup_low : (ts : List (List ℕ)) (i : ℕ) → AllUnder n ts → lookup ss r ks ts ≡ Some i → i < n
  unfolding lookup
  lookup_low [] i b e = none_some e
  lookup_low (t ∷ ts) i b e = go (lookup_in ss r ks t) refl (lookup_low ts i b.1) e
    where
      go : (o : Option ℕ) → lookup_in ss r ks t ≡ o → (lookup ss r ks ts ≡ Some i → i < n) →
          elim o [ Some j ↦ Some j | None ↦ lookup ss r ks ts ] ≡ Some i → i < n
      go (Some j) f rest e = in_low t i b.0 (f ∙ e)
      go None f rest e = rest e

module _ (ws : List ℕ) (top n : ℕ) (below : EntriesBelow ws top n) where
  entries_low : (start k : ℕ) → k ≤ top - start → Under n (entries ws start k)
  unfolding entries stack_of
  entries_low start zero le a h = absurd h
  entries_low start (suc k) le a (inl e) = rw e (below (start + k) (omega arith))
  entries_low start (suc k) le a (inr h) = entries_low start k (omega arith) a h

  tables_low : (base : List ℕ) (d end : ℕ) → ((e : ℕ) → e < d → get_or base e 0 ≤ top) → end ≤ top →
      AllUnder n (tables ws base d end)
  unfolding tables
  tables_low base zero end starts le = tt
  tables_low base (suc d) end starts le = (
    entries_low (get_or base d 0) (end - get_or base d 0) (omega arith),
    tables_low base d (get_or base d 0) (λ e lt. starts e (omega arith)) (starts d (omega arith)),
  )

-- ---- `finish`, by what is found

finish_some : (at cur : ℕ) (r : Rec) (ks own : List ℕ) (nd : intern.Node) (s : intern.State) (i : ℕ) →
    lookup s.syms r ks s.tables ≡ Some i → finish at cur r ks own nd s ≡ good (i, s)
unfolding finish
finish_some at cur r ks own nd s i e = rw (e, finish)

finish_none : (at cur : ℕ) (r : Rec) (ks own : List ℕ) (nd : intern.Node) (s : intern.State) →
    lookup s.syms r ks s.tables ≡ None →
    finish at cur r ks own nd s ≡ alloc at cur r ks (without (union_deps s.syms ks) own) true nd s
unfolding finish
finish_none at cur r ks own nd s e = rw (e, finish)

module _ {bs ws : List ℕ} {t : Tables} {st : State} {cur : ℕ} {node : Node} {held count : ℕ} (rep : Rep bs ws st)
    (opened : Open t st.entries) (ready : Ready bs ws st cur node held count) where
  abbrev sought : Option ℕ
  sought = lookup (syms_of bs ws st.symbols) (rec_of bs node) (pending_from ws held count)
      (tables_of ws t st.entries)

  found_low : (s : ℕ) → Some s ≡ sought → s < st.symbols
  found_low s f =
      lookup_low (syms_of bs ws st.symbols) (rec_of bs node) (pending_from ws held count) st.symbols
      (tables_of ws t st.entries) s
      (tables_low ws st.entries st.symbols rep.entries.below t (length t) st.entries opened.starts
      (omega arith))
      (sym f)

  pub found_answers : (s : ℕ) → Some s ≡ sought →
      Answers bs ws t st (finish_of bs ws t st cur node held count) ws (given st s)
  found_answers s f =
      answers_as (given_answers rep (found_low s f) refl)
      (sym (finish_some (parts_of node).source cur (rec_of bs node) (pending_from ws held count) (own_of bs node)
      (model_node bs node) (abs_of bs ws t st) s (sym f)))

  pub found_state : (s : ℕ) → Some s ≡ sought → st ≡ state_after st count (Ok s)
  found_state s f = old_state st count s (found_low s f)

  -- the deps of a node that has a key
  key_deps : (nd : Node) → Keyed bs ws st.scopes cur nd →
      new_deps bs ws st nd held count
      ≡ without (union_deps (syms_of bs ws st.symbols) (pending_from ws held count)) (own_of bs nd)
  key_deps (Const l) k = refl
  key_deps (Unparsed l) k = refl
  key_deps (Arg l) k = absurd k
  key_deps (Lambda f) k = refl
  key_deps (Op o) k = refl

  pub made_answers : {ws' : List ℕ} {r : Step} → None ≡ sought →
      Answers bs ws t st (alloc_of bs ws t st cur node held count true) ws' r →
      Answers bs ws t st (finish_of bs ws t st cur node held count) ws' r
  made_answers f a =
      answers_as a
      (ap (λ (z : List ℕ). alloc (parts_of node).source cur (rec_of bs node) (pending_from ws held count) z true
      (model_node bs node) (abs_of bs ws t st)) (key_deps node ready.keyed)
      ∙ sym (finish_none (parts_of node).source cur (rec_of bs node) (pending_from ws held count) (own_of bs node)
      (model_node bs node) (abs_of bs ws t st) (sym f)))

  -- what `find` answers

  pub found_is : (p : Parts) → p ≡ parts_of node → (f o : Option ℕ) → ((n : ℕ) → EntriesBelow ws st.entries n →
      f ≡ lookup (syms_of bs ws n) (key_rec bs p.source p.field) (pending_from ws held count)
      (tables_of ws t st.entries)) →
      f ≡ o → o ≡ sought
  found_is p is f o h e = sym e ∙ (h st.symbols rep.entries.below ∙ rw is)
