-- What the symbols of a body give, by the lists in the words. In order: lists filed; what some give, one after the
-- other; what one gives; a list gathered.
-- Assumes nothing.
use Prim.Native.Nat.{ℕ, ◌+◌, ◌<◌, ◌≤◌}
use mathlib.Core.Path.{◌≡◌, refl, sym, ap, ap₂, ◌∙◌}
use mathlib.Core.Bool.{Bool, true, false, ◌||◌}
use mathlib.Core.List.{List, [], ◌∷◌, ◌++◌}
use native.Mathlib.Omega.{arith}
use lib.ListN.{length, get_or, take}
use Rattle.std.proofs.lemmas.List.{nil_from_length}
use Rattle.model.specs.Lists.{union}
use Rattle.model.specs.Gate.{Graph, sym_of}
use Rattle.model.specs.Schedule.{is_arg, is_outside, rel_of, each, local_dep_order, body_only, outsiders}
use Rattle.model.specs.Schedule as model
use Rattle.laws.specs.Members.{Under}
use Rattle.laws.specs.Gather.{give_step, give, gather_step}
use Rattle.laws.proofs.Orders.{each_last, unless, each_body}
use Rattle.laws.proofs.Gather.{give_opens}
use Rattle.key.specs.declared.Symbol.{Symbol}
use Rattle.key.specs.Key.{symbol_at}
use Rattle.symbols.specs.Words.{slots_from}
use Rattle.symbols.proofs.Laws.{kids_at_lem}
use Rattle.scopes.specs.declared.Rel.{Rel}
use Rattle.scopes.specs.declared.Rel.TheVariants.{Local, Deeper, Outside}
use Rattle.scopes.specs.Relation.{rel_in}
use Rattle.graph.specs.declared.held.Graph as code
use Rattle.graph.specs.Tests.{held_in, Tests, Related}
use Rattle.graph.proofs.Laws.{scope_of}
use Rattle.outsiders.specs.Outsiders.{offered, Held, Listed}
use Rattle.outsiders.proofs.Lists.{next, held_union, listed_none, listed_then, listed_as}
use Rattle.free_lists.specs.FreeLists.{list_at, Filed, gives}

-- ---- lists filed

pub filed_less : {ws : List ℕ} {k n : ℕ} → k ≤ n → Filed ws n → Filed ws k
filed_less le h = record {
  rising = λ s lt. h.rising s (omega arith);
  few = λ s l. h.few s (omega arith);
  low = λ s lt. h.low s (omega arith);
}

-- ---- what some give, one after the other

-- one symbol, if it is of the body
abbrev if_body : List ℕ → ℕ → Graph → ℕ → List ℕ → List ℕ
if_body ws cs g d o = unless (is_arg (sym_of g d).node || is_outside (rel_of g d cs)) (give g (list_at ws) cs d) o

gives-last : (ws : List ℕ) (cs : ℕ) (ds : List ℕ) (d : ℕ) (g : Graph) (o : List ℕ) →
    gives ws cs (ds ++ (d ∷ [])) g o ≡ gives ws cs (d ∷ []) g (gives ws cs ds g o)
unfolding each
gives-last ws cs ds d g o =
    let f = give g (list_at ws) cs in
    each_body g cs f (ds ++ (d ∷ [])) o
    ∙ (each_last (if_body ws cs g) ds d o
    ∙ (ap (if_body ws cs g d) (sym (each_body g cs f ds o))
    ∙ sym (each_body g cs f (d ∷ []) (each f (body_only g cs ds) o))))

module _ {bs : List ℕ} {k : code.Graph} (cs : ℕ) {list : List ℕ} where
  pub gives_none : Held k.symbols list → Listed bs k (gives k.words.now cs []) list list
  unfolding each body_only
  gives_none h = listed_none h

  pub gives_next : (run : List ℕ) (j d : ℕ) → j < length run → d ≡ get_or run j 0 → {l l' : List ℕ} →
      Listed bs k (gives k.words.now cs (take j run)) list l → Listed bs k (gives k.words.now cs (d ∷ [])) l l' →
      Listed bs k (gives k.words.now cs (take (j + 1) run)) list l'
  gives_next run j d lt e p q =
      listed_as (listed_then p q) (λ slots o. let g = held_in k bs slots in
      sym (ap (λ (z : List ℕ). gives k.words.now cs z g o) (next run j d lt e) ∙ gives-last k.words.now cs (take j run) d g o))

-- ---- what one gives, by its list

module _ (k : code.Graph) (d : ℕ) (filed : Filed k.words.now (d + 1)) where
  listed_low : Under d (list_at k.words.now d)
  listed_low = filed.low d (omega arith)

  -- by where it lies
  abbrev given : ℕ → Graph → model.Rel → List ℕ → List ℕ
  given cs g ρ o = elim ρ [
    | model.local ↦ union o (list_at k.words.now d)
    | model.deeper ↦ outsiders g cs (list_at k.words.now d) (gives k.words.now cs (list_at k.words.now d) g o)
    | model.outside ↦ o
  ]

  given_is : (cs : ℕ) (g : Graph) (o : List ℕ) (ρ : model.Rel) → rel_of g d cs ≡ ρ →
      give g (list_at k.words.now) cs d o ≡ given cs g ρ o
  unfolding give_step
  given_is cs g o ρ q = give_opens g (list_at k.words.now) cs d o listed_low ∙ ap (λ (z : model.Rel). given cs g z o) q

  one_is : (cs : ℕ) (g : Graph) (o : List ℕ) (a : Bool) → a ≡ is_arg (sym_of g d).node → (ρ : model.Rel) →
      ρ ≡ rel_of g d cs → gives k.words.now cs (d ∷ []) g o ≡ unless (a || is_outside ρ) (given cs g ρ) o
  unfolding each
  one_is cs g o a p ρ q =
      each_body g cs (give g (list_at k.words.now) cs) (d ∷ []) o
      ∙ (ap₂ (λ (x : Bool) (z : model.Rel). unless (x || is_outside z) (give g (list_at k.words.now) cs d) o) (sym p) (sym q)
      ∙ go (a || is_outside ρ))
    where
      go : (b : Bool) → unless b (give g (list_at k.words.now) cs d) o ≡ unless b (given cs g ρ) o
      go true = refl
      go false = given_is cs g o ρ (sym q)

  module _ (run : List ℕ) (is : run ≡ list_at k.words.now d) where
    pub run_low : Under d run
    run_low = rw is listed_low

    pub run_inside : {n : ℕ} → d < n → Under n run
    run_inside lt a i = omega (arith, run_low a i)

    module _ (bs : List ℕ) (cs : ℕ) (list : List ℕ) where
      -- nothing changes
      nothing : ((slots o : List ℕ) → gives k.words.now cs (d ∷ []) (held_in k bs slots) o ≡ o) → Held k.symbols list →
          Listed bs k (gives k.words.now cs (d ∷ [])) list list
      nothing none h = listed_as (listed_none h) (λ slots o. sym (none slots o))

      -- its list is empty
      pub gives_empty : length run ≡ 0 → Held k.symbols list → Listed bs k (gives k.words.now cs (d ∷ [])) list list
      unfolding union outsiders each body_only
      gives_empty none h =
          nothing (λ slots o. let g = held_in k bs slots in
          one_is cs g o (is_arg (sym_of g d).node) refl (rel_of g d cs) refl
          ∙ go g o (is_arg (sym_of g d).node || is_outside (rel_of g d cs)) (rel_of g d cs)) h
        where
          at : (g : Graph) (o : List ℕ) (ρ : model.Rel) → given cs g ρ o ≡ o
          at g o model.local = ap (union o) (sym is ∙ nil_from_length run none)
          at g o model.deeper =
              ap (λ (z : List ℕ). outsiders g cs z (gives k.words.now cs z g o)) (sym is ∙ nil_from_length run none)
          at g o model.outside = refl

          go : (g : Graph) (o : List ℕ) (b : Bool) (ρ : model.Rel) → unless b (given cs g ρ) o ≡ o
          go g o true ρ = refl
          go g o false ρ = at g o ρ

      module _ (a : Bool) (arg : Tests k (λ h. is_arg (sym_of h d).node) a) where
        pub gives_arg : a ≡ true → Held k.symbols list → Listed bs k (gives k.words.now cs (d ∷ [])) list list
        gives_arg t =
            nothing (λ slots o. let g = held_in k bs slots in
            one_is cs g o true (sym t ∙ arg bs slots) (rel_of g d cs) refl)

        module _ (no : a ≡ false) (r : Rel) (rel : Related k d cs r) where
          placed : (R : Rel) → r ≡ R → (slots o : List ℕ) → gives k.words.now cs (d ∷ []) (held_in k bs slots) o
              ≡ unless (is_outside (rel_in R)) (given cs (held_in k bs slots) (rel_in R)) o
          placed R t slots o =
              one_is cs (held_in k bs slots) o false (sym no ∙ arg bs slots) (rel_in R)
              (ap rel_in (sym t) ∙ rel bs slots)

          pub gives_outside : r ≡ Outside → Held k.symbols list → Listed bs k (gives k.words.now cs (d ∷ [])) list list
          gives_outside t = nothing (placed Outside t)

          pub gives_local : r ≡ Local → {l : List ℕ} → Held k.symbols list → d < k.symbols → l ≡ union list run →
              Listed bs k (gives k.words.now cs (d ∷ [])) list l
          gives_local t h lt e = record {
            held = rw e (held_union k.symbols list run h (run_inside lt));
            is = λ slots. e ∙ (ap (union list) is ∙ sym (placed Local t slots list));
          }

          pub gives_deeper : r ≡ Deeper → {l l' : List ℕ} → Listed bs k (gives k.words.now cs run) list l →
              Listed bs k (offered cs run) l l' → Listed bs k (gives k.words.now cs (d ∷ [])) list l'
          gives_deeper t p q =
              listed_as (listed_then p q) (λ slots o. let g = held_in k bs slots in
              ap (λ (z : List ℕ). outsiders g cs z (gives k.words.now cs z g o)) is ∙ sym (placed Deeper t slots o))

-- ---- a list gathered

module _ {bs : List ℕ} {k : code.Graph} {c : ℕ} (lt : c < k.symbols) {y : Symbol} (loaded : y ≡ symbol_at k.words.now c) where
  pub gathered : {run : List ℕ} → run ≡ slots_from k.words.now y.kids y.count → {l l₁ l₂ : List ℕ} → l ≡ [] →
      Listed bs k (gives k.words.now y.scope run) l l₁ →
      Listed bs k (λ h. outsiders h y.scope (local_dep_order (sym_of h c))) l₁ l₂ →
      Listed bs k (λ h _. gather_step h (list_at k.words.now) c) [] l₂
  unfolding gather_step
  gathered r e p q =
      let both = rw e at (listed_then p q) in
      record {
        held = both.held;
        is = λ slots.
            let g = held_in k bs slots in
            let sc : y.scope ≡ (sym_of g c).scope =
            ap (λ (z : Symbol). z.scope) loaded ∙ sym (scope_of bs k.words.now k.symbols k.scopes slots c lt) in
            let ks : slots_from k.words.now y.kids y.count ≡ (sym_of g c).kids =
            ap (λ (z : Symbol). slots_from k.words.now z.kids z.count) loaded ∙ sym (kids_at_lem bs k.words.now k.symbols c lt) in
            both.is slots
            ∙ ap₂ (λ (z : ℕ) (ds : List ℕ). outsiders g z (local_dep_order (sym_of g c)) (gives k.words.now z ds g [])) sc
            (r ∙ ks);
      }
