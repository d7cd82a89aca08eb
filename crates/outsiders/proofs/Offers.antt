-- Outsiders put into a list. In order: one symbol; a run of them; those among operands, thunks or others; the children
-- of a symbol.
-- Assumes nothing.
use Prim.Native.Nat.{ℕ, ◌+◌, ◌<◌}
use mathlib.Core.Path.{◌≡◌, refl, sym, ap, ap₂, ◌∙◌}
use mathlib.Core.Bool.{Bool, true, false, beq}
use mathlib.Core.List.{List, [], ◌∷◌, ◌++◌}
use native.Mathlib.Omega.{arith}
use lib.ListN.{length, get_or, take}
use lib.Seq.{length-take-le}
use Rattle.model.specs.Lists.{add}
use Rattle.model.specs.Tree.{Rec}
use Rattle.model.specs.Intern.{thunked}
use Rattle.model.specs.Gate.{sym_of}
use Rattle.model.specs.Schedule.{operands, local_dep_order, outsiders}
use Rattle.laws.specs.Members.{Under}
use Rattle.laws.proofs.Orders.{outsiders_join, operands-last}
use Rattle.key.specs.declared.Symbol.{Symbol}
use Rattle.key.specs.Key.{parts_of, symbol_at}
use Rattle.record.specs.Record.{row_at}
use Rattle.symbols.specs.Words.{slots_from}
use Rattle.symbols.proofs.Same.{key_opcode}
use Rattle.symbols.proofs.Words.{words_under}
use Rattle.symbols.proofs.Laws.{rec_at_lem, kids_at_lem}
use Rattle.graph.specs.declared.held.Graph.{Graph}
use Rattle.graph.specs.Tests.{held_in, Over, Tests, is_outsider}
use Rattle.outsiders.specs.Outsiders.{offered, Held, Listed}
use Rattle.outsiders.proofs.Lists.{held_add, next, listed_none, listed_as, listed_then}

-- ---- one symbol

module _ (g : Graph) (cs d : ℕ) (b : Bool) (test : Tests g (is_outsider cs d) b) (list : List ℕ)
    (h : Held g.symbols list) (bs : List ℕ) where
  abbrev after : Bool → List ℕ → List ℕ
  after t o = elim t [ true ↦ add o d | false ↦ o ]

  one_is : (slots o : List ℕ) → after b o ≡ offered cs (d ∷ []) (held_in g bs slots) o
  unfolding outsiders
  one_is slots o = ap (λ (t : Bool). after t o) (test bs slots)

  pub offer_no : b ≡ false → Listed bs g (offered cs (d ∷ [])) list list
  offer_no e = record { held = h; is = λ slots. ap (λ (t : Bool). after t list) (sym e) ∙ one_is slots list }

  pub offer_yes : d < g.symbols → b ≡ true → (list' : List ℕ) → list' ≡ add list d →
      Listed bs g (offered cs (d ∷ [])) list list'
  offer_yes lt e list' is = rw is (record {
    held = held_add g.symbols d list h lt;
    is = λ slots. ap (λ (t : Bool). after t list) (sym e) ∙ one_is slots list;
  })

-- ---- a run of symbols

module _ {bs : List ℕ} {g : Graph} (cs : ℕ) {list : List ℕ} where
  pub offered_none : Held g.symbols list → Listed bs g (offered cs []) list list
  unfolding outsiders
  offered_none h = listed_none h

  -- after xs, and then ys
  pub offered_join : (xs ys zs : List ℕ) {l l' : List ℕ} → Listed bs g (offered cs xs) list l →
      Listed bs g (offered cs ys) l l' → zs ≡ xs ++ ys → Listed bs g (offered cs zs) list l'
  offered_join xs ys zs p q e =
      listed_as (listed_then p q) (λ slots o. let k = held_in g bs slots in
      sym (ap (λ (z : List ℕ). outsiders k cs z o) e ∙ outsiders_join k cs xs ys o))

  pub offered_next : (run : List ℕ) (j d : ℕ) → j < length run → d ≡ get_or run j 0 → {l l' : List ℕ} →
      Listed bs g (offered cs (take j run)) list l → Listed bs g (offered cs (d ∷ [])) l l' →
      Listed bs g (offered cs (take (j + 1) run)) list l'
  offered_next run j d lt e p q = offered_join (take j run) (d ∷ []) (take (j + 1) run) p q (next run j d lt e)

  -- ---- operands: thunks (b = true), or the others

  pub operands_none : (b : Bool) (op : ℕ) → Held g.symbols list → Listed bs g (offered cs (operands b op 0 [])) list list
  unfolding operands
  operands_none true op h = offered_none h
  operands_none false op h = offered_none h

-- t says whether operand j is a thunk, r whether it is one of those that are meant
module _ (b : Bool) (op j d : ℕ) (t : Bool) (is : t ≡ thunked op j) (r : Bool) (e : beq t b ≡ r) where
  operand_one : operands b op j (d ∷ []) ≡ elim r [ true ↦ d ∷ [] | false ↦ [] ]
  unfolding operands
  operand_one = go b t (sym is) ∙ ap (λ (z : Bool). elim z as (λ _. List ℕ) [ true ↦ d ∷ [] | false ↦ [] ]) e
    where
      go : (b t : Bool) → thunked op j ≡ t → operands b op j (d ∷ []) ≡ elim (beq t b) [ true ↦ d ∷ [] | false ↦ [] ]
      go true true e = rw (e, operands)
      go true false e = rw (e, operands)
      go false true e = rw (e, operands)
      go false false e = rw (e, operands)

  pub operands_next : (run : List ℕ) → j < length run → d ≡ get_or run j 0 →
      operands b op 0 (take (j + 1) run) ≡ operands b op 0 (take j run) ++ elim r [ true ↦ d ∷ [] | false ↦ [] ]
  operands_next run lt f =
      let long : 0 + length (take j run) ≡ j = omega (arith, length-take-le j run (omega arith)) in
      ap (operands b op 0) (next run j d lt f)
      ∙ (operands-last b op 0 (take j run) d
      ∙ ap (λ (l : List ℕ). operands b op 0 (take j run) ++ l) (rw long operand_one))

-- ---- the children of a symbol

module _ (bs : List ℕ) (g : Graph) (s : ℕ) (arena : Over bs g) (lt : s < g.symbols) (y : Symbol)
    (loaded : y ≡ symbol_at g.words.now s) where
  -- they are lower
  pub kids_below : (run : List ℕ) → run ≡ slots_from g.words.now y.kids y.count → Under s run
  kids_below run e = rw (e, loaded) (words_under g.words.now _ _ s (arena.sound s lt).lower)

  pub kids_inside : (run : List ℕ) → run ≡ slots_from g.words.now y.kids y.count → Under g.symbols run
  kids_inside run e a i = omega (arith, kids_below run e a i)

  kids_is : (source : ℕ) → source ≡ (parts_of (symbol_at g.words.now s).node).source → (op : ℕ) →
      op ≡ (row_at bs source).rec.opcode → (slots : List ℕ) →
      local_dep_order (sym_of (held_in g bs slots) s)
      ≡ operands true op 0 (slots_from g.words.now y.kids y.count)
      ++ operands false op 0 (slots_from g.words.now y.kids y.count)
  unfolding local_dep_order
  kids_is source e op f slots =
      let node = (symbol_at g.words.now s).node in
      let q : op ≡ (sym_of (held_in g bs slots) s).rec.opcode =
      f ∙ (ap (λ (z : ℕ). (row_at bs z).rec.opcode) e
      ∙ (sym (key_opcode bs (parts_of node).source (parts_of node).field)
      ∙ sym (ap (λ (r : Rec). r.opcode) (rec_at_lem bs g.words.now g.symbols s lt)))) in
      let ks : slots_from g.words.now y.kids y.count ≡ (sym_of (held_in g bs slots) s).kids =
      ap (λ (z : Symbol). slots_from g.words.now z.kids z.count) loaded
      ∙ sym (kids_at_lem bs g.words.now g.symbols s lt) in
      sym (ap₂ (λ (o : ℕ) (l : List ℕ). operands true o 0 l ++ operands false o 0 l) q ks)

  pub kids_offered : (source : ℕ) → source ≡ (parts_of (symbol_at g.words.now s).node).source → (op : ℕ) →
      op ≡ (row_at bs source).rec.opcode → (cs : ℕ) (run : List ℕ) → run ≡ slots_from g.words.now y.kids y.count →
      {l l₁ l₂ : List ℕ} → Listed bs g (offered cs (operands true op 0 run)) l l₁ →
      Listed bs g (offered cs (operands false op 0 run)) l₁ l₂ →
      Listed bs g (λ h. outsiders h cs (local_dep_order (sym_of h s))) l l₂
  kids_offered source e op f cs run q a b =
      listed_as (offered_join cs (operands true op 0 run) (operands false op 0 run) _ a b refl)
      (λ slots o. let k = held_in g bs slots in
      ap (λ (ds : List ℕ). outsiders k cs ds o) (sym (rw (← q) at (kids_is source e op f slots))))
