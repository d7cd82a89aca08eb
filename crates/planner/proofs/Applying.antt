-- An operation's operands, one by one. In order: depths of trees side by side; children, and those left; before the first
-- operand; one more; none left; the operation.
-- Assumes nothing.
use Prim.Native.Nat.{ℕ, suc, ◌+◌, ◌<◌, ◌≤◌, max}
use mathlib.Core.Path.{◌≡◌, sym, ap, ap₂, ◌∙◌, subst}
use Rattle.std.specs.Prelude.{Option, None, Some, IfSome}
use mathlib.Core.List.{List, [], ◌∷◌}
use native.Mathlib.Omega.{arith}
use native.Mathlib.Numerals.{add-one}
use lib.ListN.{length, get_or, drop, drop_of_length-le}
use lib.Seq.{drop-cons}
use Rattle.model.specs.Tree.{Rec, Row, Trees, node, nil, cons, many, rows, rows_of, depth, depths}
use Rattle.model.specs.Intern.{Env}
use Rattle.model.specs.Gate.{sym_of}
use Rattle.model.specs.Gate as model
use Rattle.model.specs.Materialize.{build_op, build_node, build_value}
use Rattle.laws.proofs.Trees.{node_rows, node_depth}
use Rattle.laws.proofs.Building.{many_op, op_none}
use Rattle.regions.specs.Regions.{SLOTS}
use Rattle.record.specs.Record.{row_at}
use Rattle.key.specs.declared.Operation.{Operation}
use Rattle.key.specs.declared.Node.TheVariants.{Op}
use Rattle.key.specs.Key.{branches_of, symbol_at}
use Rattle.symbols.specs.Symbols.{kids_at}
use Rattle.symbols.proofs.Same.{key_opcode}
use Rattle.symbols.proofs.Words.{words_at}
use Rattle.plan.specs.Plan.{row_for}
use Rattle.planner.specs.declared.source.Source.{Source}
use Rattle.planner.specs.declared.Plan.{Plan}
use Rattle.planner.specs.Grew.{Grew, GrownAll, deep_in}
use Rattle.planner.specs.Building.{Maps, row_of, left_at, opened_at, operand_tree}
use Rattle.planner.specs.Sources.{GraphIn}
use Rattle.planner.specs.Planning.{Plans, fresh_tree, operands_left, Leads}
use Rattle.planner.proofs.Growing.{grew_none, over_then, grows_then, grows_as}
use Rattle.planner.proofs.Graphs.{kids_is}
use Rattle.planner.proofs.Loaded.{kids_many, fresh_is, rec_of_lem, row_is}
use Rattle.planner.proofs.Operands.{operand_next}

-- ---- depths

pub deep_node : (a : ℕ) (ts : Trees) → max (a + 1) (deep_in (a + 1) ts) ≡ a + suc (depths ts)
unfolding depth
deep_node a nil = omega arith
deep_node a (cons t ts) = omega (arith, deep_node a ts)

-- ---- a child, as loaded

module _ (x : Source) (s : ℕ) (lt : s < x.graph.symbols) {ks : List ℕ} (e : ks ≡ kids_at x.graph.words.now s) where
  same : (j : ℕ) → get_or (kids_at x.graph.words.now s) j 0 ≡ get_or ks j 0
  same j = ap (λ (l : List ℕ). get_or l j 0) (sym e)

  pub operand_low : {j : ℕ} → j < length ks → get_or ks j 0 < s
  operand_low {j} l =
      let few : j < (symbol_at x.graph.words.now s).count =
      omega (arith, l, ap length e, kids_many x.graph.words.now s) in
      subst (λ (k : ℕ). k < s)
      (sym (words_at x.graph.words.now (SLOTS.first + (symbol_at x.graph.words.now s).kids) _ j few) ∙ same j)
      ((x.buildable.arena.sound s lt).lower j few)

  pub kids_split : {j : ℕ} → j < length ks
      → drop j (kids_at x.graph.words.now s) ≡ get_or ks j 0 ∷ drop (j + 1) (kids_at x.graph.words.now s)
  kids_split {j} l =
      rw (add-one j)
      (drop-cons (kids_at x.graph.words.now s) j 0 (omega (arith, l, ap length e))
      ∙ ap (λ (k : ℕ). k ∷ drop (suc j) (kids_at x.graph.words.now s)) (same j))

  -- none is left
  pub kids_done : {j : ℕ} → length ks ≤ j → drop j (kids_at x.graph.words.now s) ≡ []
  kids_done l = drop_of_length-le (kids_at x.graph.words.now s) (omega (arith, l, ap length e))

module _ (x : Source) {ids pl : List ℕ} {p : Plan} {above : ℕ} (s : ℕ) (lt : s < x.graph.symbols) (op : ℕ)
    (o : Operation) (last : ℕ) where
  -- ---- before the first operand

  pub operands-start : Leads x ids pl p above s op o last 0 pl p
  operands-start = record { all = λ gr sc env st maps pl₂ r rest. rest }

  module _ {ks : List ℕ} (e : ks ≡ kids_at x.graph.words.now s) {pl₁ : List ℕ} {q : Plan} {j : ℕ} where
    -- ---- operand j

    module _ {scope : Option ℕ} (l : j < length ks) (f : scope ≡ opened_at op (branches_of o.branches) j)
        (before : Leads x ids pl p above s op o last j pl₁ q) where
      left : (gr : model.Graph) (sc : ℕ) (env : Env) → operands_left x s op o last j gr sc env
          ≡ cons (operand_tree scope gr (get_or ks j 0) sc env last) (operands_left x s op o last (j + 1) gr sc env)
      left gr sc env =
          ap (λ (ks : List ℕ). build_op gr (build_value gr) sc env last op j ks (left_at op (branches_of o.branches) j))
          (kids_split x s lt e l)
          ∙ (operand_next gr sc env last op (branches_of o.branches) j (get_or ks j 0) (drop (j + 1) (kids_at x.graph.words.now s))
          ∙ rw (f, add-one j))

      pub operands_next : {pl₂ : List ℕ} {q₂ : Plan}
          → Plans x ids pl₁ q above (λ gr sc env. operand_tree scope gr (get_or ks j 0) sc env last) pl₂ (Some q₂)
          → Leads x ids pl p above s op o last (j + 1) pl₂ q₂
      unfolding rows
      operands_next {pl₂} {q₂} h = record {
        all = λ gr sc env st maps pl₃ r₃ rest.
            before.all gr sc env st maps pl₃ r₃
            (subst (λ (ts : Trees). GrownAll x.forest.now pl₁ q above ts pl₃ r₃) (sym (left gr sc env))
            (grows_then (h.grown gr sc env st maps).is rest));
      }

      -- operand j has no room, whatever comes after it
      pub operands_over : {pl₂ : List ℕ}
          → Plans x ids pl₁ q above (λ gr sc env. operand_tree scope gr (get_or ks j 0) sc env last) pl₂ None
          → (gr : model.Graph) (sc : ℕ) (env : Env) → GraphIn x gr → Maps ids env
          → GrownAll x.forest.now pl p above (operands_left x s op o last 0 gr sc env) pl₂ None
      unfolding rows
      operands_over {pl₂} h gr sc env st maps =
          before.all gr sc env st maps pl₂ None
          (subst (λ (ts : Trees). GrownAll x.forest.now pl₁ q above ts pl₂ None) (sym (left gr sc env))
          (record {
            is = over_then (h.grown gr sc env st maps).is
                (rows_of (operands_left x s op o last (j + 1) gr sc env));
          }))

    -- ---- none is left

    pub operands_end : length ks ≤ j → q.rows ≤ 256 → Leads x ids pl p above s op o last j pl₁ q
        → (gr : model.Graph) (sc : ℕ) (env : Env) → GraphIn x gr → Maps ids env
        → GrownAll x.forest.now pl p above (operands_left x s op o last 0 gr sc env) pl₁ (Some q)
    unfolding rows
    operands_end l few h gr sc env st maps =
        h.all gr sc env st maps pl₁ (Some q)
        (subst (λ (ts : Trees). GrownAll x.forest.now pl₁ q above ts pl₁ (Some q)) (sym none)
        (record { is = grew_none x.forest.now pl₁ q few }))
      where
        none : operands_left x s op o last j gr sc env ≡ nil
        none =
            ap (λ (ks : List ℕ). build_op gr (build_value gr) sc env last op j ks (left_at op (branches_of o.branches) j))
            (kids_done x s lt e l)
            ∙ op_none gr (build_value gr) sc env last op j (left_at op (branches_of o.branches) j)

-- ---- the operation

module _ (x : Source) (s : ℕ) (lt : s < x.graph.symbols) (op : ℕ) (o : Operation) (last : ℕ)
    (e : (symbol_at x.graph.words.now s).node ≡ Op o) (f : op ≡ (row_at x.forest.now o.source).rec.opcode)
  where
    module _ (gr : model.Graph) (sc : ℕ) (env : Env) (st : GraphIn x gr) where
      operands_all : Trees
      operands_all = operands_left x s op o last 0 gr sc env

      pub opcode : (sym_of gr s).rec.opcode ≡ op
      opcode = ap (λ (r : Rec). r.opcode) (rec_of_lem x s lt (Op o) e gr st)
          ∙ (key_opcode x.forest.now o.source _ ∙ sym f)

      operation_is : fresh_tree s last gr sc env ≡ node (sym_of gr s).rec operands_all
      unfolding build_node left_at operands_all
      operation_is = fresh_is x s lt (Op o) e gr sc env last st
          ∙ ap₂ (λ (c : ℕ) (ks : List ℕ).
          node (sym_of gr s).rec (build_op gr (build_value gr) sc env last c 0 ks (branches_of o.branches))) opcode
          (kids_is st s lt)

      row : record { rec = (sym_of gr s).rec; kids = many operands_all } ≡ row_for x.forest.now (row_of o)
      unfolding left_at operands_all
      row =
          ap₂ (λ (r : Rec) (n : ℕ). record { rec = r; kids = n }) (rec_of_lem x s lt (Op o) e gr st)
          (many_op gr (build_value gr) sc env last op 0 (kids_at x.graph.words.now s) (branches_of o.branches)
          ∙ kids_many x.graph.words.now s)
          ∙ sym (row_is x s lt o e)

      pub operation_rows : rows (fresh_tree s last gr sc env)
          ≡ row_for x.forest.now (row_of o) ∷ rows_of (operands_left x s op o last 0 gr sc env)
      unfolding operands_all
      operation_rows = ap rows operation_is
          ∙ (node_rows (sym_of gr s).rec operands_all ∙ ap (λ (r : Row). r ∷ rows_of operands_all) row)

      operation_depth : (above : ℕ)
          → above + depth (fresh_tree s last gr sc env) ≡ max (above + 1) (deep_in (above + 1) operands_all)
      operation_depth above =
          ap (λ (d : ℕ). above + d) (ap depth operation_is ∙ node_depth (sym_of gr s).rec operands_all)
          ∙ sym (deep_node above operands_all)

    pub plans_operation : {ids pl : List ℕ} {p : Plan} {above : ℕ} {pl₁ pl₂ : List ℕ} {q : Plan} {r : Option Plan}
        → Grew x.forest.now pl p (row_for x.forest.now (row_of o) ∷ []) (above + 1) pl₁ q
        → IfSome r (λ z. z.rows ≤ 256)
        → ((gr : model.Graph) (sc : ℕ) (env : Env) → GraphIn x gr → Maps ids env
        → GrownAll x.forest.now pl₁ q (above + 1) (operands_left x s op o last 0 gr sc env) pl₂ r)
        → Plans x ids pl p above (fresh_tree s last) pl₂ r
    unfolding operands_all
    plans_operation {ids} {pl} {p} {above} {pl₁} {pl₂} {q} {r} h few rest = record {
      grown = λ gr sc env st maps.
          let planned : GrownAll x.forest.now pl₁ q (above + 1) (operands_all gr sc env st) pl₂ r = rest gr sc env st maps in
          grows_as (grows_then h planned) (sym (operation_rows gr sc env st)) (sym (operation_depth gr sc env st above));
      few = few;
    }
