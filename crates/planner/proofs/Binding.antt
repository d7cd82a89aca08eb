-- A lambda planned. In order: what it has; its arguments, and its record with their new numbers; its row, then its
-- body with the arguments numbered.
-- Assumes nothing.
use Prim.Native.Nat.{ℕ, suc, ◌+◌, ◌<◌, ◌≤◌}
use mathlib.Core.Path.{◌≡◌, sym, ap, ap₂, ◌∙◌, subst}
use Rattle.std.specs.Prelude.{Option}
use mathlib.Core.List.{List, [], ◌∷◌}
use native.Mathlib.Omega.{arith}
use lib.ListN.{length, get_or}
use lib.Seq.{sets}
use Rattle.model.specs.Tree.{Rec, rec, Row, Tree, node, nil, cons, rows, depth}
use Rattle.model.specs.Binding.{args_of}
use Rattle.model.specs.Intern.{Env, with_opts}
use Rattle.model.specs.Gate as model
use Rattle.model.specs.Materialize.{arg_lit, arg_env, build_node, build_value, process_scope}
use Rattle.laws.specs.Range.{range}
use Rattle.laws.specs.ArgLists.{ArgList}
use Rattle.laws.proofs.ArgLists.{args_length}
use Rattle.laws.proofs.Trees.{one_rows, one_depth}
use Rattle.laws.proofs.Numbering.{with_range_length, with_range_lit}
use Rattle.record.specs.Record.{row_at}
use Rattle.key.specs.declared.Func.{Func}
use Rattle.key.specs.declared.Node.TheVariants.{Lambda}
use Rattle.key.specs.Key.{symbol_at}
use Rattle.symbols.specs.Symbols.{kids_at}
use Rattle.plan.specs.declared.Planned.TheVariants as planned
use Rattle.plan.specs.Plan.{row_for, Writable}
use Rattle.planner.specs.declared.Plan.{Plan}
use Rattle.planner.specs.Grew.{Grew}
use Rattle.planner.specs.declared.source.Source.{Source}
use Rattle.planner.specs.Building.{Lambdas, Maps}
use Rattle.planner.specs.Sources.{GraphIn}
use Rattle.planner.specs.Planning.{Plans, fresh_tree}
use Rattle.planner.proofs.Growing.{grows_then, grows_as}
use Rattle.planner.proofs.Ids.{maps_args}
use Rattle.planner.proofs.Graphs.{kids_is}
use Rattle.planner.proofs.Loaded.{kids_many, fresh_is, source_low, source_fits, node_opens}
use Rattle.planner.proofs.Applying.{operand_low}

module _ (x : Source) (s : ℕ) (lt : s < x.graph.symbols) (f : Func)
    (e : (symbol_at x.graph.words.now s).node ≡ Lambda f) where
  pub lambda_fits : Lambdas x.forest.now x.graph.scopes s f
  lambda_fits = node_opens x s lt (Lambda f) e

  -- it has one child
  pub lambda_one : (symbol_at x.graph.words.now s).count ≡ 1
  lambda_one = (source_fits x s lt (Lambda f) e).1

  pub lambda_writable : (last : ℕ) → last ≤ 524288 → Writable x.forest.now (planned.Lambda f.source last)
  lambda_writable last l = (
    source_low x s lt (Lambda f) e,
    record { args = lambda_fits.args; fit = omega (arith, lambda_fits.few) },
  )

  module _ {ks : List ℕ} (kids : ks ≡ kids_at x.graph.words.now s) where
    pub lambda_child : length ks ≡ 1
    lambda_child = ap length kids ∙ (kids_many x.graph.words.now s ∙ lambda_one)

    pub body_low : get_or ks 0 0 < s
    body_low = operand_low x s lt kids (omega (arith, lambda_child))

-- ---- its arguments, and its record with their new numbers

module _ (bs : List ℕ) (f : Func) where
  abbrev pub aux : ℕ
  aux = (row_at bs f.source).rec.aux

  abbrev pub ys : ArgList
  ys = args_of aux (row_at bs f.source).rec.lit

  abbrev pub xs : ArgList
  xs = with_opts ys (range f.first aux)

  pub many_args : length ys ≡ aux
  many_args = args_length aux (row_at bs f.source).rec.lit

  abbrev lam : ℕ → Rec
  lam last = rec 12 0xD9 (length xs) (arg_lit last xs)

  lambda_row : (last : ℕ) → record { rec = lam last; kids = 1 } ≡ row_for bs (planned.Lambda f.source last)
  unfolding row_for
  lambda_row last =
      ap₂ (λ (k : ℕ) (l : List ℕ). record { rec = rec 12 0xD9 k l; kids = 1 })
      (with_range_length f.first aux ys many_args ∙ sym many_args)
      (with_range_lit f.first aux ys many_args last)

-- ---- its row, then its body

module _ (x : Source) (s : ℕ) (lt : s < x.graph.symbols) (f : Func) (last : ℕ)
    (e : (symbol_at x.graph.words.now s).node ≡ Lambda f) {ks : List ℕ} (kids : ks ≡ kids_at x.graph.words.now s)
  where
    module _ (count : ℕ) (ec : count ≡ (row_at x.forest.now f.source).rec.aux) (gr : model.Graph) (sc : ℕ) (env : Env)
        (st : GraphIn x gr) where
      abbrev inside : Tree
      inside = process_scope gr (build_value gr) (get_or ks 0 0) f.body (arg_env last (xs x.forest.now f) env) (last + count + 1)

      lambda_is : fresh_tree s last gr sc env ≡ node (lam x.forest.now f last) (cons inside nil)
      unfolding build_node
      lambda_is =
          let k : suc (last + length (xs x.forest.now f)) ≡ last + count + 1 =
          omega (arith, with_range_length f.first (aux x.forest.now f) (ys x.forest.now f) (many_args x.forest.now f), ec) in
          fresh_is x s lt (Lambda f) e gr sc env last st
          ∙ ap₂ (λ (r z : ℕ). node (lam x.forest.now f last) (cons (process_scope gr (build_value gr) r f.body (arg_env last (xs x.forest.now f) env) z) nil))
          (ap (λ (l : List ℕ). get_or l 0 0) (kids_is st s lt ∙ sym kids)) k

      pub lambda_rows : rows (fresh_tree s last gr sc env) ≡ row_for x.forest.now (planned.Lambda f.source last) ∷ rows inside
      lambda_rows =
          ap rows lambda_is
          ∙ (one_rows (lam x.forest.now f last) inside ∙ ap (λ (r : Row). r ∷ rows inside) (lambda_row x.forest.now f last))

    -- the ids inside
    pub maps_in : {ids map : List ℕ} {many : ℕ} → length ids ≡ 512 → many ≡ (row_at x.forest.now f.source).rec.aux
        → map ≡ sets ids f.first (range (last + 1) many) → (env : Env) → Maps ids env
        → Maps map (arg_env last (xs x.forest.now f) env)
    maps_in {ids} {map} {many} long ea em env maps =
        let fit = lambda_fits x s lt f e in
        subst (λ (z : List ℕ). Maps z (arg_env last (xs x.forest.now f) env))
        (sym (em ∙ rw ea))
        (maps_args ids env f.first (aux x.forest.now f) last (ys x.forest.now f) (many_args x.forest.now f) maps
        (λ some. omega (arith, fit.first some, long, x.graph.scoped.few, lt)))

    pub plans_lambda : {ids pl : List ℕ} {p : Plan} {above : ℕ} → length ids ≡ 512 → {pl₁ pl₂ map : List ℕ} {q : Plan}
        {r : Option Plan} {many count : ℕ}
        → many ≡ (row_at x.forest.now f.source).rec.aux → count ≡ (row_at x.forest.now f.source).rec.aux
        → map ≡ sets ids f.first (range (last + 1) many)
        → Grew x.forest.now pl p (row_for x.forest.now (planned.Lambda f.source last) ∷ []) (above + 1) pl₁ q
        → Plans x map pl₁ q (above + 1)
        (λ gr sc env. process_scope gr (build_value gr) (get_or ks 0 0) f.body env (last + count + 1)) pl₂ r
        → Plans x ids pl p above (fresh_tree s last) pl₂ r
    plans_lambda {ids} {pl} {p} {above} long {pl₁} {pl₂} {map} {q} {r} {many} {count} ea ec em h body =
        record {
          grown = λ gr sc env st maps.
              let planned = body.grown gr sc (arg_env last (xs x.forest.now f) env) st (maps_in long ea em env maps) in
              grows_as (grows_then h planned) (sym (lambda_rows count ec gr sc env st))
              (omega (arith, ap depth (lambda_is count ec gr sc env st), one_depth (lam x.forest.now f last) (inside count ec gr sc env st)));
          few = body.few;
        }
