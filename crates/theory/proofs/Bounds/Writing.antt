-- Every number of a built tree's records is a byte, and so each id is below 2^32, if the symbols' records are of bytes
-- and the tree is not too large: a record gives at most 16 ids, so from `last` on a tree of n records has ids up to
-- last + 16 × n.
-- In order: ids as bytes; definitions and blocks; scopes; operations; lambdas; symbols, `build_has`.
-- Assumes nothing.
use mathlib.Core.Path.{◌≡◌, refl, ap, sym, ◌∙◌, subst}
use mathlib.Core.Logic.{inl, inr}
use mathlib.Core.Bool.{Bool, true, false}
use Rattle.std.specs.Prelude.{Option, None, Some}
use mathlib.Core.List.{List, [], ◌∷◌, ◌++◌}
use Prim.Native.Nat.{ℕ, zero, suc, ◌+◌, ◌*◌, ◌≤◌, ◌<◌}
use native.Mathlib.Omega.{arith}
use lib.ListN.{length, get_or}
use Rattle.model.specs.Bytes.{put32}
use Rattle.model.specs.Down.{under, down_fuel, down}
use Rattle.model.specs.Tree.{rec, Tree, Trees, node, nil, cons, below, snoc, size, sizes}
use Rattle.model.specs.Intern.{Node, constant, unparsed, argument, func, operation, Env, thunked}
use Rattle.model.specs.Gate.{Graph, sym_of}
use Rattle.model.specs.Schedule.{schedule}
use Rattle.model.specs.Materialize.{Builder, Defined, val_use_of, val_def_of, renames, only_of, wrap_block, id_given, define}
use Rattle.model.specs.Materialize.{process_scope, build_op, arg_lit, arg_env, build_node, build_step, build_value}
use Rattle.laws.proofs.Apart.{none_some}
use Rattle.laws.specs.Members.{Every}
use Rattle.laws.proofs.Walks.{if_holds, under_holds, every_cons, every_join}
use Rattle.theory.proofs.Building.Given.{ids_low_def}
use Rattle.laws.specs.ArgLists.{opts_in}
use Rattle.laws.proofs.Defining.{along}
use Rattle.laws.proofs.Trees.{sizes_snoc, def_size}
use Rattle.theory.specs.Sound.{RecHas, TreeHas, TreesHave, OptsHave}

abbrev pub Byte : ℕ → Type 0
Byte b = b < 256

-- from `last` on, n records give ids below 2^32
abbrev pub Fit : ℕ → ℕ → Type 0
Fit last n = last + 16 * n < 4294967296

-- ---- ids as bytes

id_has : (i : ℕ) → i < 4294967296 → Every Byte (put32 i)
unfolding put32
id_has i l x (inl e) = omega arith
id_has i l x (inr (inl e)) = omega arith
id_has i l x (inr (inr (inl e))) = omega arith
id_has i l x (inr (inr (inr (inl e)))) = omega arith
id_has i l x (inr (inr (inr (inr e)))) = absurd e

use_has : (i : ℕ) → i < 4294967296 → TreeHas Byte (val_use_of i)
unfolding val_use_of
use_has i l =
    (record { shape_has = omega arith; opcode_has = omega arith; aux_has = omega arith; lit_has = id_has i l }, tt)

def_has : (i : ℕ) (v : Tree) → i < 4294967296 → TreeHas Byte v → TreeHas Byte (val_def_of i v)
unfolding val_def_of
def_has i v l h =
    let zero_has = every_cons Byte 0 [] (omega arith) (λ x i. absurd i) in
    let lit = every_join Byte (put32 i) (0 ∷ []) (id_has i l) zero_has in
    (record { shape_has = omega arith; opcode_has = omega arith; aux_has = omega arith; lit_has = lit }, (h, tt))

-- ---- definitions and blocks

-- a definition whose id is the next after at most l
abbrev DefHas : ℕ → Tree → Type 0
DefHas l d = (i : ℕ) × (v : Tree) × (d ≡ val_def_of i v) × (i ≤ suc l) × (Fit l (size v) → TreeHas Byte v)

abbrev DefsHave : ℕ → Trees → Type 0
DefsHave l nil = Unit {0}
DefsHave l (cons d ds) = DefHas l d × DefsHave (l + 16 * size d) ds

snoc_have : (ds : Trees) (d : Tree) → TreesHave Byte ds → TreeHas Byte d → TreesHave Byte (snoc ds d)
unfolding snoc
snoc_have nil d h k = (k, tt)
snoc_have (cons e ds) d h k = (h.0, snoc_have ds d h.1 k)

one_has : (l : ℕ) (d : Tree) → DefHas l d → Fit l (size d) → TreeHas Byte d
one_has l d (i, v, e, li, h) f = rw e (def_has i v (omega (arith, f, s)) (h (omega (arith, f, s))))
  where
    s : size d ≡ suc (size v)
    s = ap size e ∙ def_size i v

defs_have : (l : ℕ) (ds : Trees) → DefsHave l ds → Fit l (sizes ds) → TreesHave Byte ds
unfolding sizes
defs_have l nil h f = tt
defs_have l (cons d ds) h f = (one_has l d h.0 (omega arith), defs_have (l + 16 * size d) ds h.1 (omega arith))

block_has : (ts : Trees) → TreesHave Byte ts → TreeHas Byte (node (rec 11 0xD8 0 []) ts)
block_has ts h =
    (record { shape_has = omega arith; opcode_has = omega arith; aux_has = omega arith; lit_has = λ x i. absurd i }, h)

only_has : (l : ℕ) (d r : Tree) → DefHas l d → Fit l (size (only_of (below d) r)) → TreeHas Byte (only_of (below d) r)
unfolding val_def_of
only_has l d r (i, v, e, li, h) f =
    subst (λ (z : Tree). Fit l (size (only_of (below z) r)) → TreeHas Byte (only_of (below z) r)) (sym e) h f

wrap_has : (l : ℕ) (ds : Trees) (r : Tree) → DefsHave l ds → (Fit (l + 16 * sizes ds) (size r) → TreeHas Byte r) →
    Fit l (size (wrap_block ds r)) → TreeHas Byte (wrap_block ds r)
unfolding wrap_block sizes size
wrap_has l nil r h k f = k (omega arith)
wrap_has l (cons d nil) r h k f = go (renames d (below d) r) f
  where
    value : (b : Bool) → Tree
    value b = elim b [ true ↦ only_of (below d) r | false ↦ node (rec 11 0xD8 0 []) (cons d (cons r nil)) ]

    go : (b : Bool) → Fit l (size (value b)) → TreeHas Byte (value b)
    go true f = only_has l d r h.0 f
    go false f =
        block_has (cons d (cons r nil)) (one_has l d h.0 (omega arith), (k (omega arith), tt))
wrap_has l (cons d (cons e ds)) r h k f =
    let w = defs_have l (cons d (cons e ds)) h (omega (arith, sizes_snoc ds r)) in
    block_has (cons d (cons e (snoc ds r))) (
      w.0,
      (
        w.1.0,
        snoc_have ds r w.1.1 (k (omega (arith, sizes_snoc ds r))),
      ),
    )

-- ---- scopes

abbrev IdsTo : Env → ℕ → Type 0
IdsTo env last = (s i : ℕ) → id_given env s ≡ Some i → i ≤ last

ids_args : (xs : List (ℕ × List ℕ)) (env : Env) (last : ℕ) → IdsTo env last →
    IdsTo (arg_env last xs env) (last + length xs)
ids_args [] env last h t i e = omega (arith, h t i e)
ids_args (x ∷ xs) env last h t i e =
    omega (arith, ids_args xs ((x.0, suc last) ∷ env) (suc last) (ids_low_def env last x.0 h) t i e)

-- a builder whose trees are of bytes
abbrev Writes : Builder → ℕ → Type 0
Writes f s =
    (sc : ℕ) (env : Env) (last : ℕ) → IdsTo env last → Fit last (size (f s sc env last)) → TreeHas Byte
    (f s sc env last)

-- of definitions from `last` on: no id after them is above the last, and the last is as low as their records allow
record DefinedHas (last : ℕ) (d : Defined) : Type 0 where
  ids : IdsTo d.env d.last
  low : d.last ≤ last + 16 * sizes d.defs
  have : DefsHave last d.defs

module _ (g : Graph) (f : Builder) (ok : (s : ℕ) → Writes f s) where
  define-has : (sc : ℕ) (order : List ℕ) (env : Env) (last : ℕ) → IdsTo env last →
      (l : ℕ) → last ≤ l → DefinedHas l (define g f sc order env last)
  unfolding sizes
  define-has sc =
      along g f sc (λ order env last d. IdsTo env last → (l : ℕ) → last ≤ l → DefinedHas l d)
      (λ env last ids l low. record { ids = ids; low = omega arith; have = tt })
      (λ s order env last e d rest ids l low.
      let v = f s sc env last in
      let size_is = def_size (suc last) v in
      let w = rest (ids_low_def env last s ids) (l + 16 * size (val_def_of (suc last) v)) (omega arith) in
      record {
        ids = w.ids;
        low = omega (arith, w.low);
        have = ((suc last, v, refl, omega arith, λ q. ok s sc env last ids (omega arith)), w.have);
      })
      (λ s order env last e d rest ids. rest ids)

  process_has : (root sc : ℕ) (env : Env) (last : ℕ) → IdsTo env last →
      Fit last (size (process_scope g f root sc env last)) →
      TreeHas Byte (process_scope g f root sc env last)
  unfolding process_scope
  process_has root sc env last ids ft =
      let d = define g f sc (schedule g root sc) env last in
      let w = define-has sc (schedule g root sc) env last ids last (omega arith) in
      wrap_has last d.defs (f root sc d.env d.last) w.have
      (λ q. ok root sc d.env d.last w.ids (omega (arith, w.low))) ft

  -- ---- operations

  op_has : (sc : ℕ) (env : Env) (last op j : ℕ) (ks brs : List ℕ) → IdsTo env last →
      Fit last (sizes (build_op g f sc env last op j ks brs)) →
      TreesHave Byte (build_op g f sc env last op j ks brs)
  unfolding build_op sizes
  op_has sc env last op j [] brs ids = λ ft. tt
  op_has sc env last op j (k ∷ ks) [] ids = λ ft.
      (ok k sc env last ids (omega arith), op_has sc env last op (suc j) ks [] ids (omega arith))
  op_has sc env last op j (k ∷ ks) (b ∷ brs) ids =
      if_holds (λ ts. Fit last (sizes ts) → TreesHave Byte ts) (thunked op j) _ _
      (λ ft. (process_has k b env last ids (omega arith), op_has sc env last op (suc j) ks brs ids (omega arith)))
      (λ ft. (ok k sc env last ids (omega arith), op_has sc env last op (suc j) ks (b ∷ brs) ids (omega arith)))

  -- ---- lambdas and symbols

  lit_has : (last : ℕ) (xs : List (ℕ × List ℕ)) → last + length xs < 4294967296 → OptsHave Byte (opts_in xs) →
      Every Byte (arg_lit last xs)
  unfolding arg_lit
  lit_has last [] l h = λ x i. absurd i
  lit_has last (a ∷ xs) l h =
      every_join Byte (put32 (suc last)) (a.1 ++ arg_lit (suc last) xs) (id_has (suc last) (omega arith))
      (every_join Byte a.1 (arg_lit (suc last) xs) h.0 (lit_has (suc last) xs (omega arith) h.1))

-- a node whose opts are of bytes
abbrev pub NodeHas : Node → Type 0
NodeHas constant = Unit {0}
NodeHas unparsed = Unit {0}
NodeHas argument = Unit {0}
NodeHas (func xs b) = (length xs ≤ 15) × OptsHave Byte (opts_in xs)
NodeHas (operation brs) = Unit {0}

module _ (g : Graph) (recs : (s : ℕ) → RecHas Byte (sym_of g s).rec) (nodes : (s : ℕ) → NodeHas (sym_of g s).node) where
  step_has : (f : Builder) → ((s : ℕ) → Writes f s) → (s : ℕ) → Writes (build_step g f) s
  unfolding build_step build_node size
  step_has f ok s sc env last ids ft = given (id_given env s) refl ft
    where
      built : (nd : Node) → NodeHas nd → Fit last (size (build_node g f (sym_of g s) nd sc env last)) →
          TreeHas Byte (build_node g f (sym_of g s) nd sc env last)
      built constant h ft = (recs s, tt)
      built unparsed h ft = (recs s, tt)
      built argument h ft = use_has 0 (omega arith)
      built (func xs b) h ft = (
        record {
          shape_has = omega arith;
          opcode_has = omega arith;
          aux_has = omega (arith, h.0);
          lit_has = lit_has g f ok last xs (omega (arith, h.0)) h.1;
        },
        (
          process_has g f ok (get_or (sym_of g s).kids 0 0) b (arg_env last xs env) (suc (last + length xs))
              (λ t i e. omega (arith, ids_args xs env last ids t i e)) (omega (arith, h.0)),
          tt,
        ),
      )
      built (operation brs) h ft =
          (recs s, op_has g f ok sc env last (sym_of g s).rec.opcode 0 (sym_of g s).kids brs ids (omega arith))

      tree : Option ℕ → Tree
      tree o = elim o [ Some i ↦ val_use_of i | None ↦ build_node g f (sym_of g s) (sym_of g s).node sc env last ]

      given : (o : Option ℕ) → id_given env s ≡ o → Fit last (size (tree o)) → TreeHas Byte (tree o)
      given (Some i) e ft = use_has i (omega (arith, ids s i e))
      given None e ft = built (sym_of g s).node (nodes s) ft

  abbrev zero_use : ℕ → Env → ℕ → Tree
  zero_use sc env last = val_use_of 0

  under-has : (n : ℕ) (f : Builder) → ((s : ℕ) → Writes f s) → (s : ℕ) → Writes (under zero_use n f) s
  under-has n f ok s =
      under_holds (λ (x : ℕ → Env → ℕ → Tree). (sc : ℕ) (env : Env) (last : ℕ) → IdsTo env last →
      Fit last (size (x sc env last)) → TreeHas Byte (x sc env last)) zero_use n f s
      (λ l. ok s) (λ sc env last ids ft. use_has 0 (omega arith))

  fuel_has : (m s : ℕ) → Writes (down_fuel zero_use (build_step g) m) s
  unfolding down_fuel
  fuel_has zero s = λ sc env last ids ft. use_has 0 (omega arith)
  fuel_has (suc m) s = step_has (under zero_use s (down_fuel zero_use (build_step g) m)) (under-has s _ (fuel_has m)) s

  build_has : (s : ℕ) → Writes (build_value g) s
  unfolding build_value down
  build_has s = fuel_has (suc s) s

  pub scope_has : (root sc : ℕ) → Fit 0 (size (process_scope g (build_value g) root sc [] 0)) →
      TreeHas Byte (process_scope g (build_value g) root sc [] 0)
  unfolding id_given
  scope_has root sc ft = process_has g (build_value g) build_has root sc [] 0 (λ s i e. none_some e) ft
