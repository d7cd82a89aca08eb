-- The symbol of a key, sought again: once it was found or made it is found in every later state (`finish_calm`).
-- In order: searches among more symbols; a new symbol, which is found, and hides no other; `finish`.
-- Assumes nothing.
use mathlib.Core.Path.{◌≡◌, refl, ap, sym, ◌∙◌}
use mathlib.Core.Logic.{inl, inr}
use mathlib.Core.Bool.{Bool, true, false, ◌&&◌}
use Rattle.std.specs.Prelude.{Option, None, Some}
use mathlib.Core.List.{List, [], ◌∷◌, ◌++◌}
use Prim.Native.Nat.{ℕ, suc, ◌≤◌, ◌<◌}
use native.Mathlib.Omega.{arith}
use lib.ListN.{length, get_or-append}
use lib.Seq.{get_or-append_seam}
use borrow.Author.Tests.{eq-eqb}
use Rattle.model.specs.Lists.{same, without}
use Rattle.model.specs.Tree.{Rec, same_rec}
use Rattle.model.specs.Intern.{Node, Sym, State, sym_at, no_sym, is_key, lookup_in, lookup, union_deps, enter, push}
use Rattle.model.specs.Intern.{finish}
use Rattle.laws.proofs.Apart.{none_some}
use Rattle.laws.proofs.Holds.{Holds}
use Rattle.laws.specs.Members.{In}
use Rattle.laws.proofs.Members.{both_and, same_refl}
use Rattle.theory.specs.Good.{sym_count}
use Rattle.theory.proofs.Bounds.Steps.{enter_low, enter-length}
use Rattle.theory.specs.Inv.{InAny}
use Rattle.theory.proofs.Interning.Push.{new_sym, one_more}
use Rattle.theory.proofs.Interning.Finish.{lookup_found, is_key_true, finish_cases}
use Rattle.theory.proofs.Interning.Reread.Later.{Tabled, Later, later_none, Calm, calm_still}

-- ---- among more symbols

-- what a search gives, by what its first place gives
abbrev here : Bool → ℕ → Option ℕ → Option ℕ
here b i rest = elim b [ true ↦ Some i | false ↦ rest ]

abbrev or_else : Option ℕ → Option ℕ → Option ℕ
or_else o rest = elim o [ Some i ↦ Some i | None ↦ rest ]

module _ (ss : List Sym) (y : Sym) (r : Rec) (ks : List ℕ) where
  is_key-more : (i : ℕ) → i < length ss → is_key (ss ++ (y ∷ [])) r ks i ≡ is_key ss r ks i
  unfolding is_key
  is_key-more i l =
      ap (λ (z : Sym). same_rec z.rec r && same z.kids ks) (get_or-append ss (y ∷ []) no_sym i l)

  lookup_in-more : (t : List ℕ) → ((i : ℕ) → In i t → i < length ss) →
      lookup_in (ss ++ (y ∷ [])) r ks t ≡ lookup_in ss r ks t
  unfolding lookup_in
  lookup_in-more [] h = refl
  lookup_in-more (i ∷ t) h =
      ap (λ (b : Bool). here b i (lookup_in (ss ++ (y ∷ [])) r ks t)) (is_key-more i (h i (inl refl)))
      ∙ ap (here (is_key ss r ks i) i) (lookup_in-more t (λ j k. h j (inr k)))

  lookup-more : (ts : List (List ℕ)) → ((i : ℕ) → InAny i ts → i < length ss) →
      lookup (ss ++ (y ∷ [])) r ks ts ≡ lookup ss r ks ts
  unfolding lookup
  lookup-more [] h = refl
  lookup-more (t ∷ ts) h =
      ap (λ (o : Option ℕ). or_else o (lookup (ss ++ (y ∷ [])) r ks ts)) (lookup_in-more t (λ i k. h i (inl k)))
      ∙ ap (or_else (lookup_in ss r ks t)) (lookup-more ts (λ i k. h i (inr k)))

-- ---- a new symbol

same_rec_self : (r : Rec) → same_rec r r ≡ true
unfolding same_rec
same_rec_self r =
    rw (eq-eqb r.shape r.shape refl, eq-eqb r.opcode r.opcode refl, eq-eqb r.aux r.aux refl)
    (same_refl r.lit)

-- the last symbol has its own key
is_key-own : (ss : List Sym) (y : Sym) → is_key (ss ++ (y ∷ [])) y.rec y.kids (length ss) ≡ true
unfolding is_key
is_key-own ss y =
    ap (λ (z : Sym). same_rec z.rec y.rec && same z.kids y.kids) (get_or-append_seam ss y [] no_sym)
    ∙ both_and _ _ (same_rec_self y.rec) (same_refl y.kids)

-- entered in the newest table it is found
own_found : (ss : List Sym) (y : Sym) (ts : List (List ℕ)) → 0 < length ts →
    lookup (ss ++ (y ∷ [])) y.rec y.kids (enter (length ss) ts) ≡ Some (length ss)
unfolding lookup lookup_in
own_found ss y [] l = absurd (omega arith)
own_found ss y (t ∷ ts) l =
    let more : List Sym = ss ++ (y ∷ []) in
    ap (λ (b : Bool).
    or_else (here b (length ss) (lookup_in more y.rec y.kids t)) (lookup more y.rec y.kids ts))
    (is_key-own ss y)

-- a symbol with another key is passed over
enter-passed : (ss : List Sym) (r : Rec) (ks : List ℕ) (n : ℕ) (ts : List (List ℕ)) → is_key ss r ks n ≡ false →
    lookup ss r ks (enter n ts) ≡ lookup ss r ks ts
unfolding lookup lookup_in
enter-passed ss r ks n [] e = refl
enter-passed ss r ks n (t ∷ ts) e =
    ap (λ (b : Bool). or_else (here b n (lookup_in ss r ks t)) (lookup ss r ks ts)) e

-- what was found before a symbol of no key in the tables is found after it
old_found : (ss : List Sym) (y : Sym) (ts : List (List ℕ)) → ((i : ℕ) → InAny i ts → i < length ss) →
    lookup ss y.rec y.kids ts ≡ None → (r : Rec) (ks : List ℕ) (i : ℕ) → lookup ss r ks ts ≡ Some i →
    lookup (ss ++ (y ∷ [])) r ks (enter (length ss) ts) ≡ Some i
old_found ss y ts low new r ks i e =
    enter-passed (ss ++ (y ∷ [])) r ks (length ss) ts (other (is_key (ss ++ (y ∷ [])) r ks (length ss)) refl)
    ∙ lookup-more ss y r ks ts low
    ∙ e
  where
    last : sym_at (ss ++ (y ∷ [])) (length ss) ≡ y
    last = get_or-append_seam ss y [] no_sym

    other : (b : Bool) → is_key (ss ++ (y ∷ [])) r ks (length ss) ≡ b → b ≡ false
    other false k = refl
    other true k =
        let w = is_key_true (ss ++ (y ∷ [])) r ks (length ss) k in
        let p : y.rec ≡ r = sym (ap (λ (z : Sym). z.rec) last) ∙ w.0 in
        let q : y.kids ≡ ks = sym (ap (λ (z : Sym). z.kids) last) ∙ w.1 in
        none_some {a = i} (sym new ∙ rw (p, q) e)

-- ---- the symbol of a key

-- what finishing owes: the key is found afterwards; only symbols and tables change, by one symbol at most
pub record Found (s : State) (r : Rec) (ks : List ℕ) (o : ℕ × State) : Type 0 where
  pub scopes_are : o.1.scopes ≡ s.scopes
  pub readings_are : o.1.readings ≡ s.readings
  pub memo_is : o.1.memo ≡ s.memo
  pub few : sym_count o.1 ≤ suc (sym_count s)
  pub tabled : Tabled s → Tabled o.1
  pub later : Tabled s → Later s o.1
  pub found : Tabled s → lookup o.1.syms r ks o.1.tables ≡ Some o.0

push_found : (cur : ℕ) (r : Rec) (ks deps : List ℕ) (nd : Node) (s : State) →
    lookup s.syms r ks s.tables ≡ None →
    Found s r ks (length s.syms, push cur r ks deps true nd s)
unfolding push
push_found cur r ks deps nd s e = record {
  scopes_are = refl;
  readings_are = refl;
  memo_is = refl;
  few = omega (arith, more);
  tabled = λ h. record {
    some_table = omega (arith, h.some_table, enter-length (sym_count s) s.tables);
    entries_low = enter_low _ (sym_count s) s.tables (omega (arith, more))
        (λ i k. omega (arith, h.entries_low i k, more));
    memo_low = λ p a b k. (omega (arith, (h.memo_low p a b k).0, more), omega (arith, (h.memo_low p a b k).1, more));
  };
  later = λ h. record {
    more = omega (arith, more);
    same = λ i l. sym (get_or-append s.syms (new ∷ []) no_sym i l);
    finds = old_found s.syms new s.tables h.entries_low e;
    recalls = λ p ab k. k;
  };
  found = λ h. own_found s.syms new s.tables h.some_table;
}
  where
    new : Sym
    new = new_sym cur r ks deps nd s

    more : length (s.syms ++ (new ∷ [])) ≡ suc (sym_count s)
    more = one_more s.syms new

pub finish_found : (at cur : ℕ) (r : Rec) (ks own : List ℕ) (nd : Node) (s : State) →
    Holds (Found s r ks) (finish at cur r ks own nd s)
finish_found at cur r ks own nd s =
    finish_cases (Found s r ks) at cur r ks own nd s
    (λ i e. record {
      scopes_are = refl;
      readings_are = refl;
      memo_is = refl;
      few = omega arith;
      tabled = λ h. h;
      later = λ h. later_none s;
      found = λ h. e;
    })
    (λ e l. push_found cur r ks (without (union_deps s.syms ks) own) nd s e)

module _ (s : State) (r : Rec) (ks : List ℕ) (o : ℕ × State) (h : Tabled s) (w : Found s r ks o) where
  pub found_low : o.0 < sym_count o.1
  found_low = (w.tabled h).entries_low o.0 (lookup_found o.1.syms r ks o.1.tables o.0 (w.found h)).0

  pub finish_calm : (at cur : ℕ) (own : List ℕ) (nd : Node) →
      Calm (λ v. finish at cur r ks own nd v) s o.1 (λ v. (o.0, v))
  unfolding finish
  finish_calm at cur own nd =
      calm_still w.readings_are (w.tabled h)
      (w.later h) λ u l. rw (finish, l.finds r ks o.0 (w.found h))
