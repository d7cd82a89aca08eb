-- Which symbols the planned rows define: those of the tree with labels. In order: rows, and then rows; the same symbols,
-- otherwise said; a symbol by its node; an operation's operands; an operation; a lambda.
-- Assumes nothing.
use Prim.Native.Nat.{ℕ, suc, ◌+◌, ◌<◌, ◌≤◌}
use mathlib.Core.Path.{◌≡◌, refl, sym, ap, ap₂, ◌∙◌, subst}
use mathlib.Core.Logic.{◌⊎◌, inl, inr}
use Rattle.std.specs.Prelude.{Option, None, Some}
use mathlib.Core.List.{List, [], ◌++◌, append_assoc, append-nil}
use native.Mathlib.Omega.{arith}
use native.Mathlib.Numerals.{add-one}
use lib.ListN.{length, get_or, drop}
use lib.Seq.{sets}
use Rattle.model.specs.Intern.{Env}
use Rattle.model.specs.Gate.{sym_of}
use Rattle.model.specs.Gate as model
use Rattle.model.specs.Materialize.{arg_env}
use Rattle.model.specs.Labels.{LTrees, lnil, lcons, l_val_use_of, l_process_scope, l_build_op, l_build_node, l_build_value}
use Rattle.model.specs.Labels.{defined_of, defined_in}
use Rattle.laws.specs.Range.{range}
use Rattle.laws.proofs.Numbering.{with_range_length}
use Rattle.labels.proofs.Steps.{value_use, value_new, l_op_none}
use Rattle.record.specs.Record.{row_at}
use Rattle.key.specs.declared.Func.{Func}
use Rattle.key.specs.declared.Leaf.{Leaf}
use Rattle.key.specs.declared.Node.{Node}
use Rattle.key.specs.declared.Node.TheVariants.{Const, Unparsed, Arg, Lambda, Op}
use Rattle.key.specs.declared.Operation.{Operation}
use Rattle.key.specs.Key.{branches_of, symbol_at}
use Rattle.symbols.specs.Symbols.{model_node, kids_at}
use Rattle.plan.specs.declared.Planned.{Planned}
use Rattle.plan.specs.Plan.{symbol_of}
use Rattle.planner.specs.declared.Plan.{Plan}
use Rattle.planner.specs.declared.source.Source.{Source}
use Rattle.planner.specs.Grew.{defined_to, Defining}
use Rattle.planner.specs.Building.{Maps, id_in, row_by, row_of, left_at, opened_at, l_operand_tree}
use Rattle.planner.specs.Sources.{GraphIn}
use Rattle.planner.specs.Planning.{Labels, l_fresh_tree, l_operands_left, LeadsLabels}
use Rattle.planner.proofs.Operands.{l_operand_next}
use Rattle.planner.proofs.Graphs.{node_is, kids_is, kids_low, body_lower}
use Rattle.planner.proofs.Nodes.{given_some}
use Rattle.planner.proofs.Applying.{kids_split, kids_done, opcode}
use Rattle.planner.proofs.Binding.{aux, ys, xs, many_args, maps_in}

-- ---- rows, and then rows

module _ (pl : List ℕ) (p : Plan) (ss pl₁ : List ℕ) (q : Plan) (h : Defining pl p ss pl₁ (Some q)) (ts pl₂ : List ℕ) where
  pub defining_then : (r : Option Plan) → Defining pl₁ q ts pl₂ r → Defining pl p (ss ++ ts) pl₂ r
  defining_then None k = tt
  defining_then (Some z) k = k ∙ ap (λ (l : List ℕ). l ++ ts) h ∙ append_assoc (defined_to pl p) ss ts

-- ---- the same symbols, otherwise said

module _ {x : Source} {ids pl : List ℕ} {p : Plan} {pl' : List ℕ} {r : Option Plan} where
  labels_as : {ss ts : model.Graph → ℕ → Env → List ℕ} → Labels x ids pl p ss pl' r
      → ((gr : model.Graph) (sc : ℕ) (env : Env) → GraphIn x gr → Maps ids env → ss gr sc env ≡ ts gr sc env)
      → Labels x ids pl p ts pl' r
  labels_as h e = record {
    are = λ gr sc env st maps.
        subst (λ (ss : List ℕ). Defining pl p ss pl' r) (e gr sc env st maps) (h.are gr sc env st maps);
  }

  -- a row that defines no symbol, and is all
  labels_row : Defining pl p [] pl' r → (ts : model.Graph → ℕ → Env → List ℕ)
      → ((gr : model.Graph) (sc : ℕ) (env : Env) → GraphIn x gr → Maps ids env → ts gr sc env ≡ [])
      → Labels x ids pl p ts pl' r
  labels_row h ts e = record {
    are = λ gr sc env st maps.
        subst (λ (ss : List ℕ). Defining pl p ss pl' r) (sym (e gr sc env st maps)) h;
  }

  -- an operand in a thunk
  pub labels_thunk : (s last : ℕ) {scope : Option ℕ} (b : ℕ) → scope ≡ Some b
      → Labels x ids pl p (λ gr sc env. defined_of (l_process_scope gr (l_build_value gr) s b env last)) pl' r
      → Labels x ids pl p (λ gr sc env. defined_of (l_operand_tree scope gr s sc env last)) pl' r
  labels_thunk s last b e h =
      labels_as h (λ gr sc env st maps.
      ap (λ (y : Option ℕ). defined_of (l_operand_tree y gr s sc env last)) (sym e))

-- a row that defines no symbol, and then rows
pub labels_then : {x : Source} {ids ids₁ pl pl₁ pl₂ : List ℕ} {p q : Plan} {r : Option Plan}
    {ss ts : model.Graph → ℕ → Env → List ℕ} → Defining pl p [] pl₁ (Some q) → Labels x ids₁ pl₁ q ss pl₂ r
    → (inside : Env → Env) → ((env : Env) → Maps ids env → Maps ids₁ (inside env))
    → ((gr : model.Graph) (sc : ℕ) (env : Env) → GraphIn x gr → ss gr sc (inside env) ≡ ts gr sc env)
    → Labels x ids pl p ts pl₂ r
labels_then {pl = pl} {pl₁ = pl₁} {pl₂ = pl₂} {p = p} {q = q} {r = r} {ss = ss} h k inside m e = record {
  are = λ gr sc env st maps.
      subst (λ (l : List ℕ). Defining pl p l pl₂ r) (e gr sc env st)
      (defining_then pl p [] pl₁ q h (ss gr sc (inside env)) pl₂ r (k.are gr sc (inside env) st (m env maps)));
}

-- where there is no room, nothing is said
pub labels_over : {x : Source} {ids pl : List ℕ} {p : Plan} (ss : model.Graph → ℕ → Env → List ℕ) {pl' : List ℕ}
    → Labels x ids pl p ss pl' None
labels_over ss = record { are = λ gr sc env st maps. tt }

-- ---- symbol s

module _ (x : Source) (s : ℕ) (lt : s < x.graph.symbols) where
  l_fresh_is : (nd : Node) → (symbol_at x.graph.words.now s).node ≡ nd → (gr : model.Graph) (sc : ℕ) (env : Env) (last : ℕ)
      → GraphIn x gr → l_fresh_tree s last gr sc env
      ≡ l_build_node gr (l_build_value gr) (sym_of gr s) (model_node x.forest.now nd) sc env last
  l_fresh_is nd e gr sc env last st =
      ap (λ y. l_build_node gr (l_build_value gr) (sym_of gr s) y sc env last)
      (node_is st s lt ∙ ap (model_node x.forest.now) e)

module _ {x : Source} {ids pl : List ℕ} {p : Plan} {pl' : List ℕ} {r : Option Plan} (s : ℕ) (lt : s < x.graph.symbols)
    (last : ℕ) where
  -- its id
  pub labels_use : (get_or ids s 0 ≡ 0 → ⊥) → Defining pl p [] pl' r
      → Labels x ids pl p (λ gr sc env. defined_of (l_build_value gr s sc env last)) pl' r
  labels_use n h =
      labels_row h _ (λ gr sc env st maps.
      value_use gr (kids_low st) s (body_lower st s lt) sc env last (get_or ids s 0)
      (maps.is s (omega (arith, x.graph.scoped.few)) ∙ given_some (get_or ids s 0) n))

  -- it has no id
  pub labels_new : get_or ids s 0 ≡ 0 → Labels x ids pl p (λ gr sc env. defined_of (l_fresh_tree s last gr sc env)) pl' r
      → Labels x ids pl p (λ gr sc env. defined_of (l_build_value gr s sc env last)) pl' r
  labels_new z h =
      labels_as h (λ gr sc env st maps.
      sym (ap defined_of (value_new gr (kids_low st) s (body_lower st s lt) sc env last
      (maps.is s (omega (arith, x.graph.scoped.few)) ∙ ap id_in z))))

  -- a leaf
  pub labels_leaf : (l : Leaf) → ((symbol_at x.graph.words.now s).node ≡ Const l) ⊎ ((symbol_at x.graph.words.now s).node ≡ Unparsed l)
      → Defining pl p [] pl' r → Labels x ids pl p (λ gr sc env. defined_of (l_fresh_tree s last gr sc env)) pl' r
  unfolding l_build_node defined_of
  labels_leaf l (inl e) h =
      labels_row h _ (λ gr sc env st maps. ap defined_of (l_fresh_is x s lt (Const l) e gr sc env last st))
  labels_leaf l (inr e) h =
      labels_row h _ (λ gr sc env st maps. ap defined_of (l_fresh_is x s lt (Unparsed l) e gr sc env last st))

  pub labels_argument : (l : Leaf) → (symbol_at x.graph.words.now s).node ≡ Arg l → Defining pl p [] pl' r
      → Labels x ids pl p (λ gr sc env. defined_of (l_fresh_tree s last gr sc env)) pl' r
  unfolding l_build_node l_val_use_of defined_of
  labels_argument l e h =
      labels_row h _ (λ gr sc env st maps. ap defined_of (l_fresh_is x s lt (Arg l) e gr sc env last st))

-- ---- an operation's operands

module _ (x : Source) {ids pl : List ℕ} {p : Plan} (s : ℕ) (lt : s < x.graph.symbols) (op : ℕ) (o : Operation)
    (last : ℕ) where
  pub leads_none : LeadsLabels x ids pl p s op o last 0 pl p
  leads_none = record { are = λ gr sc env st maps. refl }

  module _ {ks : List ℕ} (e : ks ≡ kids_at x.graph.words.now s) {pl₁ : List ℕ} {q : Plan} {j : ℕ}
      (before : LeadsLabels x ids pl p s op o last j pl₁ q) where
    pub leads_next : {scope : Option ℕ} → j < length ks → scope ≡ opened_at op (branches_of o.branches) j
        → {pl₂ : List ℕ} {q₂ : Plan}
        → Labels x ids pl₁ q (λ gr sc env. defined_of (l_operand_tree scope gr (get_or ks j 0) sc env last)) pl₂ (Some q₂)
        → LeadsLabels x ids pl p s op o last (j + 1) pl₂ q₂
    unfolding defined_in
    leads_next {scope} l f {pl₂} {q₂} h = record {
      are = λ gr sc env st maps.
          let first = defined_of (l_operand_tree scope gr (get_or ks j 0) sc env last) in
          let rest = defined_in (l_operands_left x s op o last (j + 1) gr sc env) in
          ap (λ (ss : List ℕ). ss ++ rest) (h.are gr sc env st maps)
          ∙ append_assoc (defined_to pl₁ q) first rest
          ∙ ap (λ (ts : LTrees). defined_to pl₁ q ++ defined_in ts) (sym (left gr sc env))
          ∙ before.are gr sc env st maps;
    }
      where
        left : (gr : model.Graph) (sc : ℕ) (env : Env) → l_operands_left x s op o last j gr sc env
            ≡ lcons (l_operand_tree scope gr (get_or ks j 0) sc env last) (l_operands_left x s op o last (j + 1) gr sc env)
        left gr sc env =
            ap (λ (ks : List ℕ). l_build_op gr (l_build_value gr) sc env last op j ks (left_at op (branches_of o.branches) j))
            (kids_split x s lt e l)
            ∙ l_operand_next gr sc env last op (branches_of o.branches) j (get_or ks j 0) (drop (j + 1) (kids_at x.graph.words.now s))
            ∙ rw (f, add-one j)

    -- none is left
    pub leads_end : length ks ≤ j
        → Labels x ids pl p (λ gr sc env. defined_in (l_operands_left x s op o last 0 gr sc env)) pl₁ (Some q)
    unfolding defined_in
    leads_end l = record {
      are = λ gr sc env st maps.
          sym (append-nil (defined_to pl₁ q))
          ∙ ap (λ (ts : LTrees). defined_to pl₁ q ++ defined_in ts) (sym (none gr sc env))
          ∙ before.are gr sc env st maps;
    }
      where
        none : (gr : model.Graph) (sc : ℕ) (env : Env) → l_operands_left x s op o last j gr sc env ≡ lnil
        none gr sc env =
            ap (λ (ks : List ℕ). l_build_op gr (l_build_value gr) sc env last op j ks (left_at op (branches_of o.branches) j))
            (kids_done x s lt e l)
            ∙ l_op_none gr (l_build_value gr) sc env last op j (left_at op (branches_of o.branches) j)

-- ---- an operation

row_defines_none : (o : Operation) → symbol_of (row_of o) ≡ []
row_defines_none o = go o.field
  where
    go : (f : Option ℕ) → symbol_of (row_by o.source f) ≡ []
    go None = refl
    go (Some f) = refl

pub labels_operation : (x : Source) (s : ℕ) (lt : s < x.graph.symbols) (op : ℕ) (o : Operation) (last : ℕ)
    (e : (symbol_at x.graph.words.now s).node ≡ Op o) (f : op ≡ (row_at x.forest.now o.source).rec.opcode)
    {ids pl pl₁ pl₂ : List ℕ} {p q : Plan} {r : Option Plan} {row : Planned} → row ≡ row_of o
    → Defining pl p (symbol_of row) pl₁ (Some q)
    → Labels x ids pl₁ q (λ gr sc env. defined_in (l_operands_left x s op o last 0 gr sc env)) pl₂ r
    → Labels x ids pl p (λ gr sc env. defined_of (l_fresh_tree s last gr sc env)) pl₂ r
unfolding l_build_node left_at defined_of
labels_operation x s lt op o last e f {pl = pl} {pl₁ = pl₁} {p = p} {q = q} put h k =
    labels_then (subst (λ (ss : List ℕ). Defining pl p ss pl₁ (Some q)) (ap symbol_of put ∙ row_defines_none o) h) k (λ env. env) (λ env m. m)
    (λ gr sc env st.
    sym (ap defined_of (l_fresh_is x s lt (Op o) e gr sc env last st)
    ∙ ap₂ (λ (c : ℕ) (ks : List ℕ).
    defined_in (l_build_op gr (l_build_value gr) sc env last c 0 ks (branches_of o.branches)))
    (opcode x s lt op o last e f gr sc env st) (kids_is st s lt)))

-- ---- a lambda

pub labels_lambda : (x : Source) (s : ℕ) (lt : s < x.graph.symbols) (f : Func) (last : ℕ)
    (e : (symbol_at x.graph.words.now s).node ≡ Lambda f) {ks : List ℕ} (kids : ks ≡ kids_at x.graph.words.now s)
    {ids pl : List ℕ} {p : Plan} → length ids ≡ 512 → {pl₁ pl₂ map : List ℕ} {q : Plan} {r : Option Plan} {many count : ℕ}
    → many ≡ (row_at x.forest.now f.source).rec.aux → count ≡ (row_at x.forest.now f.source).rec.aux
    → map ≡ sets ids f.first (range (last + 1) many) → Defining pl p [] pl₁ (Some q)
    → Labels x map pl₁ q
    (λ gr sc env. defined_of (l_process_scope gr (l_build_value gr) (get_or ks 0 0) f.body env (last + count + 1))) pl₂ r
    → Labels x ids pl p (λ gr sc env. defined_of (l_fresh_tree s last gr sc env)) pl₂ r
unfolding l_build_node defined_of
labels_lambda x s lt f last e {ks} kids {ids} long {many = many} {count = count} ea ec em h body =
    labels_then h body (arg_env last (xs x.forest.now f)) (maps_in x s lt f last e kids long ea em) (λ gr sc env st. is gr sc env st)
  where
    inside : model.Graph → Env → ℕ → ℕ → List ℕ
    inside gr env k next =
        defined_of (l_process_scope gr (l_build_value gr) k f.body (arg_env last (xs x.forest.now f) env) next)

    is : (gr : model.Graph) (sc : ℕ) (env : Env) → GraphIn x gr
        → inside gr env (get_or ks 0 0) (last + count + 1) ≡ defined_of (l_fresh_tree s last gr sc env)
    is gr sc env st =
        let k : suc (last + length (xs x.forest.now f)) ≡ last + count + 1 =
        omega (arith, with_range_length f.first (aux x.forest.now f) (ys x.forest.now f) (many_args x.forest.now f), ec) in
        sym (ap defined_of (l_fresh_is x s lt (Lambda f) e gr sc env last st)
        ∙ append-nil _
        ∙ ap₂ (inside gr env) (ap (λ (l : List ℕ). get_or l 0 0) (kids_is st s lt ∙ sym kids)) k)
