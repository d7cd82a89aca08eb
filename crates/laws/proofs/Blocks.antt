-- A block whose definitions do not only rename: it is written whole, so its first row is known once it is known how
-- many definitions there are.
--
-- In order: definitions that do not only rename (`NoRenames`); what a scope defines is such (`defs_no_renames`); a
-- block's tree, and its rows, size and depth. A definition of a use is what interning never leaves (`value_no_use`,
-- Building).
-- Assumes nothing.
use mathlib.Core.Path.{◌≡◌, refl, ap, sym, ◌∙◌, subst}
use mathlib.Core.Bool.{true, false}
use mathlib.Core.List.{List, [], ◌∷◌, ◌++◌}
use Prim.Native.Nat.{ℕ, suc, ◌+◌, ◌<◌, max}
use native.Mathlib.Omega.{arith}
use lib.Dec.{eqb}
use Rattle.model.specs.Tree.{rec, Tree, Trees, node, nil, cons, top, below, many, snoc, depth, depths, rows}
use Rattle.model.specs.Tree.{rows_of}
use Rattle.model.specs.Intern.{Env}
use Rattle.model.specs.Gate.{Graph}
use Rattle.model.specs.Materialize.{Builder, val_def_of, renames, wrap_block, member, define}
use Rattle.laws.proofs.Defining.{along}
use Rattle.laws.proofs.Trees.{node_rows, node_depth, many-snoc, rows_snoc, depths_snoc}

-- ---- definitions whose values are no uses

abbrev pub NoRename : Tree → Type 0
NoRename d = (i : ℕ) × (v : Tree) × (d ≡ val_def_of i v) × (eqb (top v).shape 7 ≡ false)

pub no_rename : (d r : Tree) → NoRename d → renames d (below d) r ≡ false
unfolding renames val_def_of
no_rename d r (i, v, e, f) = subst (λ (x : Tree). renames x (below x) r ≡ false) (sym e) (rw (f, renames))

abbrev pub NoRenames : Trees → Type 0
NoRenames nil = Unit {0}
NoRenames (cons d ds) = NoRename d × NoRenames ds

-- a builder that makes no use of a symbol that gets a definition
abbrev pub BuildsValues : Graph → Builder → ℕ → Type 0
BuildsValues g build sc = (s : ℕ) (env : Env) (last : ℕ) → member g sc env s ≡ true →
    eqb (top (build s sc env last)).shape 7 ≡ false

pub defs_no_renames : (g : Graph) (build : Builder) (sc : ℕ) → BuildsValues g build sc →
    (order : List ℕ) (env : Env) (last : ℕ) → NoRenames (define g build sc order env last).defs
defs_no_renames g build sc h =
    along g build sc (λ order env last d. NoRenames d.defs) (λ env last. tt)
    (λ s order env last e d k. ((suc last, build s sc env last, refl, h s env last e), k))
    (λ s order env last e d k. k)

-- ---- the block: no definition, or k of them

pub wrap_none : (ds : Trees) (r : Tree) → many ds ≡ 0 → wrap_block ds r ≡ r
unfolding wrap_block many
wrap_none nil r e = refl
wrap_none (cons d ds) r e = absurd (omega arith)

-- a definition whose value is no use is kept
wrap_whole : (d : Tree) (ds : Trees) (r : Tree) → NoRename d →
    wrap_block (cons d ds) r ≡ node (rec 11 0xD8 0 []) (snoc (cons d ds) r)
unfolding wrap_block snoc
wrap_whole d nil r h = rw (no_rename d r h, wrap_block)
wrap_whole d (cons x ds) r h = refl

module _ (ds : Trees) (r : Tree) (h : NoRenames ds) (k : ℕ) (count : many ds ≡ k) (some : 0 < k) where
  wrap_some : wrap_block ds r ≡ node (rec 11 0xD8 0 []) (snoc ds r)
  unfolding many
  wrap_some = go ds h (omega arith)
    where
      go : (ds : Trees) → NoRenames ds → 0 < many ds → wrap_block ds r ≡ node (rec 11 0xD8 0 []) (snoc ds r)
      go nil h l = absurd (omega arith)
      go (cons d ds) h l = wrap_whole d ds r h.0

  pub wrap_rows : rows (wrap_block ds r) ≡ record { rec = rec 11 0xD8 0 []; kids = k + 1 } ∷ (rows_of ds ++ rows r)
  wrap_rows =
      let kids : many (snoc ds r) ≡ k + 1 = omega (arith, many-snoc ds r) in
      ap rows wrap_some ∙ (node_rows (rec 11 0xD8 0 []) (snoc ds r) ∙ rw (kids, rows_snoc ds r))

  pub wrap_depth : depth (wrap_block ds r) ≡ suc (max (depths ds) (depth r))
  wrap_depth =
      ap depth wrap_some ∙ (node_depth (rec 11 0xD8 0 []) (snoc ds r) ∙ ap suc (depths_snoc ds r))
