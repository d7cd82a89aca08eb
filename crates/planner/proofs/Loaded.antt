-- A symbol loaded from the words, as its tree's first row. In order: a record copied; what the code has loaded, and a
-- row that it has put; a symbol of a known node; an operation's row.
-- Assumes nothing.
use Prim.Native.Nat.{ℕ, ◌+◌, ◌<◌}
use mathlib.Core.Path.{◌≡◌, refl, sym, ap, ◌∙◌, subst}
use Rattle.std.specs.Prelude.{Option, None, Some}
use Rattle.std.specs.Option.{unwrap_or}
use mathlib.Core.List.{List, [], ◌∷◌}
use native.Mathlib.Omega.{arith}
use lib.ListN.{length}
use Rattle.model.specs.Tree.{Rec, Row, node, nil, rows, depth}
use Rattle.model.specs.Forest.{record_count}
use Rattle.model.specs.Intern.{Env}
use Rattle.model.specs.Intern as intern
use Rattle.model.specs.Gate.{sym_of}
use Rattle.model.specs.Gate as model
use Rattle.model.specs.Materialize.{build_node, build_value}
use Rattle.laws.proofs.Trees.{leaf_rows, leaf_depth}
use Rattle.regions.specs.Regions.{SLOTS}
use Rattle.record.specs.Record.{row_at}
use Rattle.key.specs.declared.Symbol.{Symbol}
use Rattle.key.specs.declared.Operation.{Operation}
use Rattle.key.specs.declared.Node.{Node}
use Rattle.key.specs.declared.Node.TheVariants.{Op}
use Rattle.key.specs.Key.{parts_of, node_field, FieldFits, symbol_at}
use Rattle.key.proofs.Laws.{loaded_field}
use Rattle.symbols.specs.Words.{slots_from}
use Rattle.symbols.specs.Symbols.{key_rec, rec_of, model_node, kids_at}
use Rattle.symbols.proofs.Words.{words_length}
use Rattle.symbols.specs.Sourced.{Sourced, OpSourced}
use Rattle.symbols.proofs.Same.{key_plain, key_field}
use Rattle.plan.specs.declared.Planned.{Planned}
use Rattle.plan.specs.declared.Planned.TheVariants.{Copy}
use Rattle.plan.specs.Plan.{row_for, Writable}
use Rattle.planner.specs.declared.Plan.{Plan}
use Rattle.planner.specs.Grew.{Grows}
use Rattle.planner.specs.declared.source.Source.{Source}
use Rattle.planner.specs.Building.{Opens, row_by, row_of}
use Rattle.planner.specs.Sources.{GraphIn}
use Rattle.planner.specs.Planning.{fresh_tree}
use Rattle.planner.proofs.Graphs.{node_is, rec_is}

-- a record copied, if it has so many children
copied_row : (bs : List ℕ) (i k : ℕ) → (row_at bs i).kids ≡ k → record { rec = (row_at bs i).rec; kids = k } ≡ row_at bs i
copied_row bs i k e = rw (← e)

pub leaf_is : (bs : List ℕ) (i : ℕ) → (row_at bs i).kids ≡ 0 → (y : Rec) → y ≡ key_rec bs i 0
    → (rows (node y nil) ≡ row_for bs (Copy i) ∷ []) × (depth (node y nil) ≡ 1)
unfolding key_rec row_for
leaf_is bs i k y f = (
  leaf_rows y ∙ ap (λ (x : Row). x ∷ []) (ap (λ (x : Rec). record { rec = x; kids = 0 }) f ∙ copied_row bs i 0 k),
  leaf_depth y,
)

-- ---- what the code has loaded, and a row that it has put

pub node_loaded : (ws : List ℕ) (s : ℕ) {y : Symbol} {nd : Node} → y ≡ symbol_at ws s → y.node ≡ nd
    → (symbol_at ws s).node ≡ nd
node_loaded ws s e f = sym (ap (λ (y : Symbol). y.node) e) ∙ f

pub kids_many : (ws : List ℕ) (s : ℕ) → length (kids_at ws s) ≡ (symbol_at ws s).count
kids_many ws s = words_length ws (SLOTS.first + (symbol_at ws s).kids) (symbol_at ws s).count

pub kids_loaded : (ws : List ℕ) (s : ℕ) {y : Symbol} {ks : List ℕ} → y ≡ symbol_at ws s
    → ks ≡ slots_from ws y.kids y.count → ks ≡ kids_at ws s
kids_loaded ws s e f = f ∙ ap (λ (z : Symbol). slots_from ws z.kids z.count) e

pub put_as : {bs pl : List ℕ} {p : Plan} {row row₁ : Planned} {d : ℕ} {pl' : List ℕ} {r : Option Plan} → row ≡ row₁
    → ((cs : List ℕ) → Writable cs row → Grows cs pl p (row_for cs row ∷ []) d pl' r) → Writable bs row₁
    → Grows bs pl p (row_for bs row₁ ∷ []) d pl' r
put_as {bs} {pl} {p} {row} {row₁} {d} {pl'} {r} e h w =
    subst (λ (x : Planned). Grows bs pl p (row_for bs x ∷ []) d pl' r) e (h bs (subst (Writable bs) (sym e) w))

-- ---- symbol s

module _ (x : Source) (s : ℕ) (lt : s < x.graph.symbols) where
  -- a symbol of node nd
  module _ (nd : Node) (e : (symbol_at x.graph.words.now s).node ≡ nd) where
    pub fresh_is : (gr : model.Graph) (sc : ℕ) (env : Env) (last : ℕ) → GraphIn x gr
        → fresh_tree s last gr sc env ≡ build_node gr (build_value gr) (sym_of gr s) (model_node x.forest.now nd) sc env last
    fresh_is gr sc env last st =
        ap (λ (y : intern.Node). build_node gr (build_value gr) (sym_of gr s) y sc env last)
        (node_is st s lt ∙ ap (model_node x.forest.now) e)

    pub rec_of_lem : (gr : model.Graph) → GraphIn x gr → (sym_of gr s).rec ≡ rec_of x.forest.now nd
    rec_of_lem gr st = rec_is st s lt ∙ ap (rec_of x.forest.now) e

    pub source_low : (parts_of nd).source < record_count x.forest.now
    source_low = subst (λ (y : Node). (parts_of y).source < record_count x.forest.now) e (x.buildable.arena.sound s lt).from

    pub source_fits : Sourced x.forest.now nd (symbol_at x.graph.words.now s).count
    source_fits = subst (λ (y : Node). Sourced x.forest.now y (symbol_at x.graph.words.now s).count) e (x.buildable.sourced s lt)

    pub node_opens : Opens x.forest.now x.graph.scopes s nd
    node_opens = subst (Opens x.forest.now x.graph.scopes s) e (x.buildable.opens s lt)

  -- ---- an operation's row

  op_field : (o : Operation) → (symbol_at x.graph.words.now s).node ≡ Op o → FieldFits o.field
  op_field o e = subst (λ (y : Node). FieldFits (node_field y)) e (loaded_field x.graph.words.now s)

  pub row_writable : (o : Operation) → (symbol_at x.graph.words.now s).node ≡ Op o → Writable x.forest.now (row_of o)
  row_writable o e = go o.field (op_field o e)
    where
      go : (f : Option ℕ) → FieldFits f → Writable x.forest.now (row_by o.source f)
      go None h = source_low (Op o) e
      go (Some f) h = omega (arith, h.1)

  pub row_is : (o : Operation) → (symbol_at x.graph.words.now s).node ≡ Op o
      → row_for x.forest.now (row_of o)
      ≡ record { rec = rec_of x.forest.now (Op o); kids = (symbol_at x.graph.words.now s).count }
  unfolding row_for
  row_is o e = go o.field (op_field o e) (source_fits (Op o) e)
    where
      go : (f : Option ℕ) → FieldFits f → OpSourced x.forest.now o.source f (symbol_at x.graph.words.now s).count
          → row_for x.forest.now (row_by o.source f)
          ≡ record {
            rec = key_rec x.forest.now o.source (unwrap_or f 0);
            kids = (symbol_at x.graph.words.now s).count;
          }
      go None h k = rw (key_plain x.forest.now o.source 0 refl) (sym (copied_row x.forest.now o.source _ k))
      go (Some f) h m =
          rw (key_field x.forest.now o.source f (λ z. omega (arith, h.0)), m.shape, m.opcode, m.one)
