-- The constants of a built tree are those of symbols that are reached from the tree's own; and each symbol that is reached
-- stands, by a path, in what the top one stands for.
-- In order: paths; a reached symbol, and a constant's (`constant_stands`); definitions and blocks; the trees of reached
-- symbols (`tree_constants`).
-- Promise/Parameters uses these two. Assumes nothing.
use mathlib.Core.Path.{◌≡◌, refl, ap, ◌∙◌}
use mathlib.Core.Logic.{inl, inr}
use mathlib.Core.Bool.{true}
use Rattle.std.specs.Prelude.{Option, None, Some}
use Rattle.std.proofs.lemmas.Option.{same_Some}
use mathlib.Core.List.{List, [], ◌∷◌, ◌++◌}
use Prim.Native.Nat.{ℕ, zero, suc, ◌+◌, ◌<◌}
use native.Mathlib.Omega.{arith}
use lib.ListN.{length, get_or, drop_of_length-le}
use Rattle.model.specs.Down.{under, down_fuel, down}
use Rattle.model.specs.Tree.{Rec, rec, Tree, Trees, node, nil, cons, below, snoc}
use Rattle.model.specs.Unfold.{Unfolded, made}
use Rattle.model.specs.Intern.{Node, constant, unparsed, argument, func, operation, Sym, Scope, Env, thunked}
use Rattle.model.specs.Gate.{Graph, sym_of}
use Rattle.model.specs.Schedule.{schedule}
use Rattle.model.specs.Materialize.{Builder, val_use_of, val_def_of, renames, only_of, wrap_block, id_given, define}
use Rattle.model.specs.Materialize.{process_scope, build_op, arg_env, build_node, build_step, build_value}
use Rattle.model.specs.Parameters.{operand_in, operand, part_at, ConstantAt, EachConstant, EachConstants}
use Rattle.laws.proofs.Apart.{none_some}
use Rattle.laws.specs.Members.{In, Every}
use Rattle.laws.proofs.Walks.{if_holds, under_holds}
use Rattle.laws.proofs.Defining.{along}
use Rattle.theory.proofs.Meaning.Mean.{Val, Mean, bind_syms, mean_all, mean}
use Rattle.theory.proofs.Meaning.Coincide.{mean_lam, mean_plain}
use Rattle.theory.proofs.Acceptance.Records.{const_child}
use Rattle.theory.specs.Good.{rec_at, sym_kids, node_at, no_arg, Plain, NodeOk, Goods}
use Rattle.theory.proofs.Building.Reach.{Below, here, kid, below_then, below_low, schedule-below}

-- ---- paths

-- a path, and then another
part_then : (p q : List ℕ) (u v : Unfolded) → part_at p u ≡ Some v → part_at (p ++ q) u ≡ part_at q v
unfolding part_at
part_then [] q u v e = ap (part_at q) (same_Some _ _ e)
part_then (j ∷ p) q u v e = go (operand u j) e (λ w f. part_then p q w v f)
  where
    step : List ℕ → Option Unfolded → Option Unfolded
    step path o = elim o [ None ↦ None | Some w ↦ part_at path w ]

    go : (o : Option Unfolded) → step p o ≡ Some v →
        ((w : Unfolded) → part_at p w ≡ Some v → part_at (p ++ q) w ≡ part_at q v) → step (p ++ q) o ≡ part_at q v
    go None e rest = none_some e
    go (Some w) e rest = rest w e

-- ---- a reached symbol

-- one of some symbols is one of the operands
operand_in_lem : (f : ℕ → Mean) (ks : List ℕ) (k : ℕ) → In k ks → (ρ : Val) (d : ℕ) →
    (j : ℕ) × (operand_in (mean_all f ks ρ d) j ≡ Some (f k ρ d))
unfolding operand_in mean_all
operand_in_lem f [] k m ρ d = absurd m
operand_in_lem f (x ∷ ks) k (inl e) ρ d = (0, rw e)
operand_in_lem f (x ∷ ks) k (inr m) ρ d = let w = operand_in_lem f ks k m ρ d in (suc w.0, w.1)

module _ (fin : List Sym) (scs : List Scope) (n : ℕ) (good : Goods fin scs n) where
  -- operand j of what y stands for is what k stands for, with some valuation, at some depth
  record AsOperand (y k : ℕ) (ρ : Val) (d : ℕ) : Type 0 where
    number : ℕ
    val : Val
    depth : ℕ
    is : operand (mean fin y ρ d) number ≡ Some (mean fin k val depth)

  kid_operand : (y k : ℕ) → y < n → In k (sym_kids fin y) → (ρ : Val) (d : ℕ) → AsOperand y k ρ d
  unfolding operand
  kid_operand y k l m ρ d = go (node_at fin y) refl (good y l).node_is
    where
      plain : Plain fin y → no_arg (node_at fin y) ≡ true → AsOperand y k ρ d
      plain p q =
          let w = operand_in_lem (mean fin) (sym_kids fin y) k m ρ d in
          record {
            number = w.0;
            val = ρ;
            depth = d;
            is = rw (mean_plain fin scs y (good y l) p.kind_is q ρ d) w.1;
          }

      go : (nd : Node) → node_at fin y ≡ nd → NodeOk fin scs y nd → AsOperand y k ρ d
      go constant e h = plain h.0 (ap no_arg e)
      go unparsed e h = plain h.0 (ap no_arg e)
      go argument e h = absurd (rw h.1 at m)
      go (func xs b) e h =
          let w = operand_in_lem (mean fin) (sym_kids fin y) k m (bind_syms (suc d) 0 xs ρ) (suc d) in
          record {
            number = w.0;
            val = bind_syms (suc d) 0 xs ρ;
            depth = suc d;
            is = rw (mean_lam fin scs y xs b (good y l) e ρ d) w.1;
          }
      go (operation brs) e h = plain h.0 (ap no_arg e)

  -- what s stands for stands in what r stands for
  record Within (r s : ℕ) (ρ : Val) (d : ℕ) : Type 0 where
    path : List ℕ
    val : Val
    depth : ℕ
    is : part_at path (mean fin r ρ d) ≡ Some (mean fin s val depth)

  module _ (r : ℕ) (low : r < n) (ρ : Val) (d : ℕ) where
    below_within : (s : ℕ) → Below fin r s → Within r s ρ d
    unfolding part_at
    below_within s here = record { path = []; val = ρ; depth = d; is = refl }
    below_within s (kid y k b m) =
        let w = below_within y b in
        let o = kid_operand y k (omega (arith, below_low fin scs n good r low y b)) m w.val w.depth in
        record {
          path = w.path ++ (o.number ∷ []);
          val = o.val;
          depth = o.depth;
          is = part_then w.path (o.number ∷ []) _ _ w.is ∙ rw (o.is, part_at);
        }

    -- a constant stands for its record
    pub constant_stands : (s : ℕ) → Below fin r s → Plain fin s → no_arg (node_at fin s) ≡ true → (rec_at fin s).shape ≡ 0 →
        (path : List ℕ) × ConstantAt path (mean fin r ρ d) (rec_at fin s)
    unfolding mean_all
    constant_stands s b p q e =
        let w = below_within s b in
        let l : s < n = omega (arith, below_low fin scs n good r low s b) in
        let count = const_child (rec_at fin s) (length (sym_kids fin s)) e p.fits_is in
        let None = drop_of_length-le (sym_kids fin s) {i = 0} (omega (arith, count)) in (
          w.path,
          w.is ∙ ap Some (mean_plain fin scs s (good s l) p.kind_is q w.val w.depth) ∙
              ap (λ (ks : List ℕ). Some (made (rec_at fin s) (mean_all (mean fin) ks w.val w.depth))) None,
        )

-- ---- definitions and blocks

module _ (P : Rec → Type 0) where
  use_each : (i : ℕ) → EachConstant P (val_use_of i)
  unfolding val_use_of
  use_each i = (λ e. absurd (omega arith), tt)

  def_each : (i : ℕ) (v : Tree) → EachConstant P v → EachConstant P (val_def_of i v)
  unfolding val_def_of
  def_each i v h = (λ e. absurd (omega arith), (h, tt))

  snoc-each : (ds : Trees) (r : Tree) → EachConstants P ds → EachConstant P r → EachConstants P (snoc ds r)
  unfolding snoc
  snoc-each nil r h k = (k, tt)
  snoc-each (cons d ds) r h k = (h.0, snoc-each ds r h.1 k)

  only_each : (d r : Tree) → EachConstant P d → EachConstant P r → EachConstant P (only_of (below d) r)
  only_each (node q nil) r h k = k
  only_each (node q (cons t ts)) r h k = h.1.0

  block_each : (ts : Trees) → EachConstants P ts → EachConstant P (node (rec 11 0xD8 0 []) ts)
  block_each ts h = (λ e. absurd (omega arith), h)

  wrap_each : (ds : Trees) (r : Tree) → EachConstants P ds → EachConstant P r → EachConstant P (wrap_block ds r)
  unfolding wrap_block
  wrap_each nil r h k = k
  wrap_each (cons d nil) r h k =
      if_holds (EachConstant P) (renames d (below d) r) _ _ (only_each d r h.0 k)
      (block_each (cons d (cons r nil)) (h.0, (k, tt)))
  wrap_each (cons d (cons e ds)) r h k =
      block_each (cons d (cons e (snoc ds r))) (h.0, (h.1.0, snoc-each ds r h.1.1 k))

-- ---- the trees of reached symbols

module _ (g : Graph) (n : ℕ) (good : Goods g.syms g.scopes n) (top : ℕ) (low : top < n) (P : Rec → Type 0)
    (own : (s : ℕ) → Below g.syms top s → Plain g.syms s → no_arg (node_at g.syms s) ≡ true →
    (rec_at g.syms s).shape ≡ 0 → P (rec_at g.syms s)) where
  abbrev Reached : ℕ → Type 0
  Reached = Below g.syms top

  -- a builder that has only such constants in the trees of reached symbols
  abbrev Each : Builder → ℕ → Type 0
  Each f s = Reached s → (sc : ℕ) (env : Env) (last : ℕ) → EachConstant P (f s sc env last)

  module _ (f : Builder) (ok : (s : ℕ) → Each f s) where
    define-each : (sc : ℕ) (order : List ℕ) (env : Env) (last : ℕ) → Every Reached order →
        EachConstants P (define g f sc order env last).defs
    define-each sc =
        along g f sc (λ order env last d. Every Reached order → EachConstants P d.defs)
        (λ env last every. tt)
        (λ s order env last e d rest every. (
          def_each P (suc last) (f s sc env last) (ok s (every s (inl refl)) sc env last),
          rest (λ t m. every t (inr m)),
        ))
        (λ s order env last e d rest every. rest (λ t m. every t (inr m)))

    scope_each : (r sc : ℕ) (env : Env) (last : ℕ) → Reached r → EachConstant P (process_scope g f r sc env last)
    unfolding process_scope
    scope_each r sc env last b =
        let d = define g f sc (schedule g r sc) env last in
        wrap_each P d.defs (f r sc d.env d.last)
        (define-each sc (schedule g r sc) env last
        (λ t m. below_then g.syms top r t b (schedule-below g r sc t m)))
        (ok r b sc d.env d.last)

    op_each : (sc : ℕ) (env : Env) (last op j : ℕ) (ks brs : List ℕ) → Every Reached ks →
        EachConstants P (build_op g f sc env last op j ks brs)
    unfolding build_op
    op_each sc env last op j [] brs h = tt
    op_each sc env last op j (k ∷ ks) [] h =
        (ok k (h k (inl refl)) sc env last, op_each sc env last op (suc j) ks [] (λ t m. h t (inr m)))
    op_each sc env last op j (k ∷ ks) (b ∷ brs) h =
        if_holds (EachConstants P) (thunked op j) _ _
        (scope_each k b env last (h k (inl refl)), op_each sc env last op (suc j) ks brs (λ t m. h t (inr m)))
        (ok k (h k (inl refl)) sc env last, op_each sc env last op (suc j) ks (b ∷ brs) (λ t m. h t (inr m)))

    step_each : (s : ℕ) → Each (build_step g f) s
    unfolding build_step build_node
    step_each s b sc env last = given (id_given env s)
      where
        l : s < n
        l = omega (arith, below_low g.syms g.scopes n good top low s b)

        kids : Every Reached (sym_kids g.syms s)
        kids k m = kid s k b m

        built : (nd : Node) → node_at g.syms s ≡ nd → NodeOk g.syms g.scopes s nd →
            EachConstant P (build_node g f (sym_of g s) nd sc env last)
        built constant e h = (own s b h.0 (ap no_arg e), tt)
        built unparsed e h = (own s b h.0 (ap no_arg e), tt)
        built argument e h = use_each P 0
        built (func xs c) e h =
            let first : In (get_or (sym_kids g.syms s) 0 0) (sym_kids g.syms s) = rw h.kids_is (inl refl) in (
              λ z. absurd (omega arith),
              (scope_each (get_or (sym_kids g.syms s) 0 0) c (arg_env last xs env) (suc (last + length xs)) (kids _ first), tt),
            )
        built (operation brs) e h =
            (own s b h.0 (ap no_arg e), op_each sc env last (sym_of g s).rec.opcode 0 (sym_of g s).kids brs kids)

        given : (o : Option ℕ) → EachConstant P (elim o [
          | Some i ↦ val_use_of i
          | None ↦ build_node g f (sym_of g s) (sym_of g s).node sc env last
        ])
        given (Some i) = use_each P i
        given None = built (node_at g.syms s) refl (good s l).node_is

  abbrev zero_use : ℕ → Env → ℕ → Tree
  zero_use sc env last = val_use_of 0

  fuel_each : (m s : ℕ) → Each (down_fuel zero_use (build_step g) m) s
  unfolding down_fuel
  fuel_each zero s = λ b sc env last. use_each P 0
  fuel_each (suc m) s =
      step_each (under zero_use s (down_fuel zero_use (build_step g) m))
      (λ t b sc env last. under_holds (λ (x : ℕ → Env → ℕ → Tree). EachConstant P (x sc env last)) zero_use s
      (down_fuel zero_use (build_step g) m) t (λ l. fuel_each m t b sc env last) (use_each P 0)) s

  -- the tree of the top symbol, in a scope
  pub tree_constants : (sc : ℕ) → EachConstant P (process_scope g (build_value g) top sc [] 0)
  unfolding build_value down
  tree_constants sc = scope_each (build_value g) (λ s. fuel_each (suc s) s) top sc [] 0 here
