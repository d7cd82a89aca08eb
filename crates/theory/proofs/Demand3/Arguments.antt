-- The ids that `arg_ids` reads of a lambda are those of its literal, part by part: `argument_read`.
-- Assumes nothing.
use mathlib.Core.Path.{◌≡◌, refl, ap, sym, ◌∙◌, subst}
use mathlib.Core.Logic.{◌↔◌}
use Rattle.std.specs.Prelude.{Some}
use Rattle.std.proofs.lemmas.Option.{same_Some}
use mathlib.Core.List.{List, [], ◌∷◌, ◌++◌, map, append_assoc}
use Prim.Native.Nat.{ℕ, zero, suc, ◌<◌}
use native.Mathlib.Omega.{arith}
use lib.ListN.{get_or, drop}
use lib.Seq.{drop_at}
use Rattle.model.specs.Bytes.{u32}
use Rattle.model.specs.Shape.{a_arg}
use Rattle.model.specs.Tree.{Rec}
use Rattle.model.specs.Binding.{args_of, arg_ids}
use Rattle.laws.proofs.ArgLists.{next_arg_lem}
use Rattle.model.specs.ShapeRules.{IsId, IsOpt, ◌followed◌, Many, IdAt}
use Rattle.model.specs.Nesting.{Argument}
use Rattle.theory.proofs.Demand3.Literals.{arg_exact, opt_exact}

ids : ℕ → List ℕ → List ℕ
ids n bs = map (λ a. a.0) (args_of n bs)

u32_front : (id rest : List ℕ) → IsId id → u32 (id ++ rest) ≡ u32 id
unfolding u32
u32_front [] rest e = absurd (omega arith)
u32_front (a ∷ []) rest e = absurd (omega arith)
u32_front (a ∷ b ∷ []) rest e = absurd (omega arith)
u32_front (a ∷ b ∷ c ∷ []) rest e = absurd (omega arith)
u32_front (a ∷ b ∷ c ∷ d ∷ ds) rest e = refl

-- the first id, and the ids after it
first_id : (n : ℕ) (bs : List ℕ) → get_or (ids (suc n) bs) 0 0 ≡ u32 bs
unfolding ids args_of
first_id n bs = refl

next_ids : (n k : ℕ) (bs id o b : List ℕ) → bs ≡ id ++ (o ++ b) → IsId id → IsOpt o →
    get_or (ids (suc n) bs) (suc k) 0 ≡ get_or (ids n b) k 0
unfolding ids args_of
next_ids n k bs id o b e h g =
    let d : drop 4 bs ≡ o ++ b = ap (drop 4) e ∙ drop_at id (o ++ b) 4 h in
    ap (λ z. get_or (map (λ a. a.0) (args_of n z)) k 0) (next_arg_lem bs o b d (λ rest. opt_exact.finds o rest g)).1

id_there : (n : ℕ) (bs : List ℕ) → Many n (IsId followed IsOpt) bs → (k : ℕ) → k < n → IdAt bs k (get_or (ids n bs) k 0)
id_there zero bs h k l = absurd (omega arith)
id_there (suc n) bs (a, b, e, (id, o, f, hi, ho), hb) zero l =
    let z : bs ≡ id ++ (o ++ b) = e ∙ ap (◌++ b) f ∙ append_assoc id o b in
    ([], id, o ++ b, z, refl, hi, sym (u32_front id (o ++ b) hi) ∙ ap u32 (sym z) ∙ sym (first_id n bs))
id_there (suc n) bs (a, b, e, (id, o, f, hi, ho), hb) (suc k) l =
    let z : bs ≡ id ++ (o ++ b) = e ∙ ap (◌++ b) f ∙ append_assoc id o b in
    let w = id_there n b hb k (omega arith) in (
      a ++ w.0,
      w.1,
      w.2,
      e ∙ ap (a ++◌) w.3 ∙ sym (append_assoc a w.0 (w.1 ++ w.2)),
      (a, w.0, refl, (id, o, f, hi, ho), w.4),
      w.5,
      w.6 ∙ sym (next_ids n k bs id o b z hi ho),
    )

there_id : (n : ℕ) (bs : List ℕ) → Many n (IsId followed IsOpt) bs → (k i : ℕ) → k < n → IdAt bs k i →
    get_or (ids n bs) k 0 ≡ i
there_id zero bs h k i l w = absurd (omega arith)
there_id (suc n) bs h zero i l (c, id, rest, e, m, hi, u) =
    let z : bs ≡ id ++ rest = e ∙ ap (◌++ (id ++ rest)) m in
    first_id n bs ∙ ap u32 z ∙ u32_front id rest hi ∙ u
there_id (suc n) bs (a, b, e, (id, o, f, hi, ho), hb) (suc k) i l (c, jd, rest, g, (p, q, m, hp, hq), hj, u) =
    let z : bs ≡ id ++ (o ++ b) = e ∙ ap (◌++ b) f ∙ append_assoc id o b in
    let y : bs ≡ p ++ (q ++ (jd ++ rest)) = g ∙ ap (◌++ (jd ++ rest)) m ∙ append_assoc p q (jd ++ rest) in
    let r : a_arg bs ≡ Some b = ap a_arg e ∙ arg_exact.finds a b (id, o, f, hi, ho) in
    let s : a_arg bs ≡ Some (q ++ (jd ++ rest)) = ap a_arg y ∙ arg_exact.finds p (q ++ (jd ++ rest)) hp in
    let v : b ≡ q ++ (jd ++ rest) = same_Some _ _ (sym r ∙ s) in
    next_ids n k bs id o b z hi ho ∙ there_id n b hb k i (omega arith) (q, jd, rest, v, hq, hj, u)

-- of a lambda whose literal is right
pub argument_read : (r : Rec) → Many r.aux (IsId followed IsOpt) r.lit → (k i : ℕ) →
    ((k < r.aux) × (get_or (arg_ids r) k 0 ≡ i)) ↔ Argument r k i
unfolding arg_ids ids
argument_read r h k i = (
  λ w. (w.0, subst (IdAt r.lit k) w.1 (id_there r.aux r.lit h k w.0)),
  λ w. (w.0, there_id r.aux r.lit h k i w.0 w.1),
)
