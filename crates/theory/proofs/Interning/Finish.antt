-- The symbol of a key, found or made: it has the record and children that were sought, and the invariant is kept.
--
-- In order: what a search finds is in a table and has the key (`found_key`); a symbol is found or made (`finish_cases`);
-- results, what a step owes (`Result`, `Made`, `Step`), and steps one after the other (`step_then`); the symbol of a
-- plain record (`finish-plain`). Keep and Fields take the last for every record that is no lambda; a lambda's symbol is
-- found or made likewise, in Lambda.
-- Assumes nothing.
use mathlib.Core.Path.{◌≡◌, refl, ap, sym, ◌∙◌}
use mathlib.Core.Logic.{inl, inr}
use mathlib.Core.Bool.{Bool, true, false}
use Rattle.std.specs.Prelude.{Option, None, Some}
use mathlib.Core.List.{List, [], ◌∷◌}
use Prim.Native.Nat.{ℕ, ◌≤◌, ◌<◌}
use native.Mathlib.Omega.{arith}
use lib.Dec.{ltb}
use lib.ListN.{length}
use borrow.Author.Tests.{ltb-true}
use Rattle.model.specs.Lists.{same, without}
use Rattle.model.specs.Answer.{good}
use Rattle.model.specs.Tree.{Rec, same_rec}
use Rattle.model.specs.Shape.{fits, agrees}
use Rattle.model.specs.Binding.{kind}
use Rattle.model.specs.Intern.{Node, constant, unparsed, argument, func, operation, Sym, Scope, State, Out, sym_at}
use Rattle.model.specs.Intern.{is_key, lookup_in, lookup, union_deps, push, alloc, finish}
use Rattle.laws.proofs.Apart.{none_some}
use Rattle.laws.proofs.Holds.{Holds, holds_guard}
use Rattle.laws.specs.Members.{In}
use Rattle.laws.proofs.Members.{and_both, same_true, same_rec_true, without_keeps, without_cases}
use Rattle.theory.specs.Good.{rec_at, sym_kids, deps_at, sym_count, is_plain, no_arg, PairsOk, Plain, NodeOk, SymOk}
use Rattle.theory.proofs.Interning.Good.{plain_of}
use Rattle.theory.specs.Inv.{Args, arg_syms, InAny, HasKey, Inv, Fits, Grow}
use Rattle.theory.proofs.Interning.Inv.{grow_none, grow_then, fits_back}
use Rattle.theory.proofs.Interning.Push.{new_sym, push_grows, push-more, PartsAt, push_parts, push_inv}
use Rattle.theory.proofs.Interning.Push.{union_deps_covers, union_deps_from}

-- ---- what a search finds

module _ (ss : List Sym) (r : Rec) (ks : List ℕ) where
  lookup_in_found : (t : List ℕ) (i : ℕ) → lookup_in ss r ks t ≡ Some i → In i t × (is_key ss r ks i ≡ true)
  unfolding lookup_in
  lookup_in_found [] i e = none_some e
  lookup_in_found (j ∷ t) i e = go (is_key ss r ks j) refl (lookup_in_found t i) e
    where
      go : (b : Bool) → is_key ss r ks j ≡ b → (lookup_in ss r ks t ≡ Some i → In i t × (is_key ss r ks i ≡ true)) →
          elim b [ true ↦ Some j | false ↦ lookup_in ss r ks t ] ≡ Some i → In i (j ∷ t) × (is_key ss r ks i ≡ true)
      go true k rest e = let p : i ≡ j = cc in (inl p, rw p k)
      go false k rest e = (inr (rest e).0, (rest e).1)

  pub lookup_found : (ts : List (List ℕ)) (i : ℕ) → lookup ss r ks ts ≡ Some i →
      InAny i ts × (is_key ss r ks i ≡ true)
  unfolding lookup
  lookup_found [] i e = none_some e
  lookup_found (t ∷ ts) i e = go (lookup_in ss r ks t) refl (lookup_found ts i) e
    where
      go : (o : Option ℕ) → lookup_in ss r ks t ≡ o →
          (lookup ss r ks ts ≡ Some i → InAny i ts × (is_key ss r ks i ≡ true)) →
          elim o [ Some j ↦ Some j | None ↦ lookup ss r ks ts ] ≡ Some i →
          InAny i (t ∷ ts) × (is_key ss r ks i ≡ true)
      go (Some j) k rest e = let w = lookup_in_found t i (k ∙ e) in (inl w.0, w.1)
      go None k rest e = (inr (rest e).0, (rest e).1)

  -- what has the key has its record and children
  pub is_key_true : (i : ℕ) → is_key ss r ks i ≡ true → (rec_at ss i ≡ r) × (sym_kids ss i ≡ ks)
  unfolding is_key
  is_key_true i e =
      let p = and_both (same_rec (rec_at ss i) r) (same (sym_kids ss i) ks) e in
      (same_rec_true (rec_at ss i) r p.0, same_true (sym_kids ss i) ks p.1)

-- so it is, seen from the end
pub found_key : {fin : List Sym} {scs : List Scope} {st : State} {A : Args} {cur i : ℕ} {r : Rec} {ks : List ℕ} →
    Fits fin scs st → Inv fin scs st A cur → lookup st.syms r ks st.tables ≡ Some i →
    HasKey fin (sym_count st) r ks i
found_key {st} {i} {r} {ks} f h e =
    let w = lookup_found st.syms r ks st.tables i e in
    let low = (h.tables_ok i w.0).0 in
    let key = is_key_true st.syms r ks i w.1 in
    record {
      low = low;
      rec_is = sym (ap (λ (z : Sym). z.rec) (f.syms_fit i low)) ∙ key.0;
      kids_is = sym (ap (λ (z : Sym). z.kids) (f.syms_fit i low)) ∙ key.1;
      made_is = (h.tables_ok i w.0).1;
    }

-- found, or made
pub finish_cases : (P : ℕ × State → Type 0) (at cur : ℕ) (r : Rec) (ks own : List ℕ) (nd : Node) (st : State) →
    ((i : ℕ) → lookup st.syms r ks st.tables ≡ Some i → P (i, st)) →
    (lookup st.syms r ks st.tables ≡ None → sym_count st < 512 →
    P (sym_count st, push cur r ks (without (union_deps st.syms ks) own) true nd st)) →
    Holds P (finish at cur r ks own nd st)
unfolding finish alloc
finish_cases P at cur r ks own nd st found made = go (lookup st.syms r ks st.tables) refl
  where
    go : (o : Option ℕ) → lookup st.syms r ks st.tables ≡ o → Holds P (elim o as (λ z. Out) [
      | Some i ↦ good (i, st)
      | None ↦ alloc at cur r ks (without (union_deps st.syms ks) own) true nd st
    ])
    go (Some i) e = found i e
    go None e = holds_guard P (ltb (sym_count st) 512) 12 at _ λ l. made e (ltb-true (sym_count st) 512 l)

-- ---- what a step owes

-- a symbol that depends on arguments in force only
pub record Result (fin : List Sym) (n : ℕ) (A : Args) (s : ℕ) : Type 0 where
  pub low : s < n
  pub within : (a : ℕ) → In a (deps_at fin s) → In a (arg_syms A)

abbrev pub Results : List Sym → ℕ → Args → List ℕ → Type 0
Results fin n A ks = (k : ℕ) → In k ks → Result fin n A k

pub result_later : {fin : List Sym} {n : ℕ} (m : ℕ) {A : Args} {s : ℕ} → n ≤ m → Result fin n A s → Result fin m A s
result_later m l h = record { low = omega (arith, h.low); within = h.within }

-- one with this record and these children
pub record Made (fin : List Sym) (n : ℕ) (A : Args) (r : Rec) (ks : List ℕ) (s : ℕ) : Type 0 where
  pub key : HasKey fin n r ks s
  pub within : (a : ℕ) → In a (deps_at fin s) → In a (arg_syms A)

-- a plain symbol depends on what its children depend on
pub key_made : {fin : List Sym} {scs : List Scope} {n : ℕ} {A : Args} {r : Rec} {ks : List ℕ} {s : ℕ} →
    SymOk fin scs s → is_plain (kind r.shape) ≡ true → HasKey fin n r ks s →
    ((k : ℕ) → In k ks → (a : ℕ) → In a (deps_at fin k) → In a (arg_syms A)) → Made fin n A r ks s
key_made {fin} {scs} {A} {s} ok plain-is key kids = record { key = key; within = within }
  where
    within : (a : ℕ) → In a (deps_at fin s) → In a (arg_syms A)
    within a la =
        let w = (plain_of fin scs s ok (rw key.rec_is plain-is) key.made_is).from a la in
        kids w.0 (rw key.kids_is at w.1) a w.2

-- a node for a plain record with these children
abbrev pub PlainNode : List Sym → List Scope → Rec → List ℕ → Node → Type 0
PlainNode fin scs r ks constant = ks ≡ []
PlainNode fin scs r ks unparsed = ks ≡ []
PlainNode fin scs r ks argument = ⊥
PlainNode fin scs r ks (func xs b) = ⊥
PlainNode fin scs r ks (operation brs) = PairsOk fin scs r.opcode 0 ks brs

-- from one state to another: it grows, and keeps the invariant, with a fact of the symbols and scopes at the end
pub record Step (st st' : State) (A : Args) (cur : ℕ) (Pre Post : List Sym → List Scope → Type 0) : Type 0 where
  pub grows : Grow st st'
  pub keeps : (fin : List Sym) (scs : List Scope) → Fits fin scs st' → Inv fin scs st A cur → Pre fin scs →
      Inv fin scs st' A cur × Post fin scs

module _ {a b : State} {A : Args} {cur : ℕ} {Pre Mid : List Sym → List Scope → Type 0} where
  -- a step, and what follows from its end
  pub step_gives : {End : List Sym → List Scope → Type 0} → Step a b A cur Pre Mid →
      ((fin : List Sym) (scs : List Scope) → Mid fin scs → End fin scs) → Step a b A cur Pre End
  step_gives s end = record {
    grows = s.grows;
    keeps = λ fin scs f inv pre. let m = s.keeps fin scs f inv pre in (m.0, end fin scs m.1);
  }

  -- a step, and then another
  pub step_then : {c : State} {Use Post End : List Sym → List Scope → Type 0} →
      Step a b A cur Pre Mid → Step b c A cur Use Post →
      ((fin : List Sym) (scs : List Scope) → Pre fin scs → Mid fin scs → Use fin scs) →
      ((fin : List Sym) (scs : List Scope) → Inv fin scs c A cur → Mid fin scs → Post fin scs → End fin scs) →
      Step a c A cur Pre End
  step_then {c} s t turn end = record {
    grows = grow_then s.grows t.grows;
    keeps = λ fin scs f inv pre.
        let m = s.keeps fin scs (fits_back fin scs b c t.grows f) inv pre in
        let e = t.keeps fin scs f m.0 (turn fin scs pre m.1) in
        (e.0, end fin scs e.0 m.1 e.1);
  }

-- ---- the symbol of a plain record

-- the deps of a new one, and the state with it
abbrev plain_deps : State → List ℕ → List ℕ
plain_deps st ks = without (union_deps st.syms ks) []

abbrev with_plain : ℕ → Rec → List ℕ → Node → State → State
with_plain cur r ks nd st = push cur r ks (plain_deps st ks) true nd st

plain-made : (fin : List Sym) (scs : List Scope) (r : Rec) (ks : List ℕ) (nd : Node) → PlainNode fin scs r ks nd →
    no_arg nd ≡ true
plain-made fin scs r ks constant p = refl
plain-made fin scs r ks unparsed p = refl
plain-made fin scs r ks argument p = absurd p
plain-made fin scs r ks (func xs b) p = refl
plain-made fin scs r ks (operation brs) p = refl

module _ (cur : ℕ) (r : Rec) (ks : List ℕ) (st : State) (A : Args) (fin : List Sym) (scs : List Scope)
    (plain-is : is_plain (kind r.shape) ≡ true) (h : Inv fin scs st A cur)
    (res : Results fin (sym_count st) A ks) where
  -- one that is there
  found_made : Fits fin scs st → (i : ℕ) → lookup st.syms r ks st.tables ≡ Some i →
      Made fin (sym_count st) A r ks i
  found_made f i e =
      let key = found_key f h e in
      key_made (h.good i key.low) plain-is key (λ k l. (res k l).within)

  -- a new one
  module _ (nd : Node) (fits_is : fits (record { rec = r; kids = length ks }) ≡ true) (agrees_is : agrees r ≡ true)
      (f : Fits fin scs (with_plain cur r ks nd st)) (pn : PlainNode fin scs r ks nd) where
    new_made : Inv fin scs (with_plain cur r ks nd st) A cur
        × Made fin (sym_count (with_plain cur r ks nd st)) A r ks (sym_count st)
    new_made = (
      push_inv fin scs A cur r ks deps true nd st f h ok (λ xs c e. absurd (rw e at pn)) (λ e. made) (λ e. within),
      record {
        key = record {
          low = push-more cur r ks deps true nd st;
          rec_is = new.rec_is;
          kids_is = new.kids_is;
          made_is = rw new.node_is made;
        };
        within = λ a la. within a (rw new.deps_is at la);
      },
    )
      where
        deps : List ℕ
        deps = plain_deps st ks

        n : ℕ
        n = sym_count st

        made : no_arg nd ≡ true
        made = plain-made fin scs r ks nd pn

        new : PartsAt fin n (new_sym cur r ks deps nd st)
        new = push_parts fin scs cur r ks deps true nd st f

        old : Fits fin scs st
        old = fits_back fin scs st (with_plain cur r ks nd st) (push_grows cur r ks deps true nd st) f

        same : (k : ℕ) → In k ks → sym_at st.syms k ≡ sym_at fin k
        same k lk = old.syms_fit k (res k lk).low

        cover : (k a : ℕ) → In k ks → In a (deps_at fin k) → In a deps
        cover k a lk la =
            without_keeps a (union_deps st.syms ks) [] (union_deps_covers fin st.syms ks same k a lk la) (λ x. x)

        from : (a : ℕ) → In a deps → (k : ℕ) × In k ks × In a (deps_at fin k)
        from a la = union_deps_from fin st.syms ks same a (without_cases a (union_deps st.syms ks) [] la).0

        within : (a : ℕ) → In a deps → In a (arg_syms A)
        within a la = let w = from a la in (res w.0 w.1).within a w.2

        deps_low : (a : ℕ) → In a deps → a ≤ n
        deps_low a la =
            let w = from a la in
            let l = (res w.0 w.1).low in
            omega (arith, (h.good w.0 l).deps_low a w.2)

        plain : Plain fin n
        plain = record {
          kind_is = rw new.rec_is plain-is;
          fits_is = rw (new.rec_is, new.kids_is) fits_is;
          agrees_is = rw new.rec_is agrees_is;
          cover = λ k a lk la. rw new.deps_is (cover k a (rw new.kids_is at lk) la);
          from = λ a la. let w = from a (rw new.deps_is at la) in (w.0, rw new.kids_is w.1, w.2);
        }

        node : (nd : Node) → PlainNode fin scs r ks nd → NodeOk fin scs n nd
        node constant p = (plain, new.kids_is ∙ p)
        node unparsed p = (plain, new.kids_is ∙ p)
        node argument p = absurd p
        node (func xs b) p = absurd p
        node (operation brs) p = (plain, rw (new.rec_is, new.kids_is) p)

        ok : SymOk fin scs n
        ok = record {
          low = λ k lk. (res k (rw new.kids_is at lk)).low;
          deps_low = λ a la. deps_low a (rw new.deps_is at la);
          node_is = rw new.node_is (node nd pn);
        }

-- what finishing a plain record owes: the symbol of its key
abbrev Finished : ℕ → Rec → List ℕ → Node → State → Args → ℕ × State → Type 0
Finished cur r ks nd st A o =
    Step st o.1 A cur (λ fin scs. Results fin (sym_count st) A ks × PlainNode fin scs r ks nd)
    (λ fin scs. Made fin (sym_count o.1) A r ks o.0)

pub finish-plain : (at cur : ℕ) (r : Rec) (ks : List ℕ) (nd : Node) (st : State) (A : Args) →
    is_plain (kind r.shape) ≡ true → fits (record { rec = r; kids = length ks }) ≡ true → agrees r ≡ true →
    Holds (Finished cur r ks nd st A) (finish at cur r ks [] nd st)
finish-plain at cur r ks nd st A plain-is fits_is agrees_is =
    finish_cases (Finished cur r ks nd st A) at cur r ks [] nd st
    (λ i e. record {
      grows = grow_none st;
      keeps = λ fin scs f h pre. (h, found_made cur r ks st A fin scs plain-is h pre.0 f i e);
    })
    (λ e l. record {
      grows = push_grows cur r ks (plain_deps st ks) true nd st;
      keeps = λ fin scs f h pre. new_made cur r ks st A fin scs plain-is h pre.0 nd fits_is agrees_is f pre.1;
    })
