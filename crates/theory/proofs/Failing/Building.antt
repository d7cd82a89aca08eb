-- Building keeps the value: where a scope is entered, the tree that is built in it has the value of its symbol.
-- In order: records that are written; definitions and their result; ids given and their values; a scope; operands; any
-- symbol; the root.
-- Assumes nothing.
use mathlib.Core.Path.{◌≡◌, refl, ap, sym, ◌∙◌}
use mathlib.Core.Logic.{◌⊎◌, inl, inr}
use mathlib.Core.Bool.{Bool, true, false}
use Rattle.std.specs.Prelude.{Option, None, Some}
use mathlib.Core.List.{List, [], ◌∷◌, map}
use Prim.Native.Nat.{ℕ, suc, ◌≤◌, ◌<◌}
use native.Mathlib.Omega.{arith}
use lib.Dec.{eqb}
use lib.ListN.{get_or}
use borrow.Author.Tests.{eq-eqb, ne_eqb}
use Rattle.model.specs.Bytes.{put32}
use Rattle.model.specs.Tree.{Rec, Tree, Trees, node, nil, cons, top, snoc}
use Rattle.model.specs.Binding.{Kind, kind, id_of}
use Rattle.model.specs.Intern.{Node, constant, unparsed, argument, func, operation, Env, thunked}
use Rattle.model.specs.Gate.{Graph, sym_of}
use Rattle.model.specs.Schedule.{schedule}
use Rattle.model.specs.Materialize.{Builder, Defined, val_use_of, val_def_of, renames, wrap_block, id_given, define}
use Rattle.model.specs.Materialize.{process_scope, build_op, build_node, build_step, build_value}
use Rattle.model.specs.Failing.{◌>>=◌, Semantics, Values, value_in, skipped, applied, eval_kind, eval, eval_all, eval_last}
use Rattle.laws.proofs.Down.{down_holds}
use Rattle.laws.proofs.Defining.{along}
use Rattle.laws.specs.Members.{In, Every}
use Rattle.theory.specs.Good.{rec_at, sym_kids, scope_at, node_at, is_plain, Plain, NodeOk, Goods}
use Rattle.theory.proofs.Building.Reach.{Below, schedule-below, below_low}
use Rattle.theory.proofs.Building.Written.{read_id, def_id, plain_cases}
use Rattle.theory.proofs.Building.Blocks.{AllDefs, block_of, kind_use, renames_is, wrap_cases}
use Rattle.theory.proofs.Building.Given.{given_cases, none_given, ids_low_def}
use Rattle.theory.proofs.Building.Scopes.{member_is}
use Rattle.theory.proofs.Failing.Values.{thunks_of, OperationOrLeaf, AgreeFound, applied-agrees, value, value_is, KidsLive}
use Rattle.theory.proofs.Failing.Values.{SymLive}

module _ {W : Type 0} (sem : Semantics W) where
  abbrev ev : Tree → Values W → Option W
  ev t ms = eval sem t ms

  -- ---- records that are written

  use_eval : (i : ℕ) (ms : Values W) → ev (val_use_of i) ms ≡ value_in ms i
  unfolding val_use_of eval eval_kind kind id_of put32
  use_eval i ms = ap (λ (z : ℕ). value_in ms z) (read_id i [])

  def_eval : (i : ℕ) (t : Tree) (ms : Values W) → ev (val_def_of i t) ms ≡ ev t ms
  unfolding val_def_of eval eval_kind kind
  def_eval i t ms = refl

  block_eval : (ts : Trees) (ms : Values W) → ev (block_of ts) ms ≡ eval_last sem ts ms
  unfolding eval eval_kind kind
  block_eval ts ms = refl

  plain_eval : (r : Rec) (ts : Trees) → is_plain (kind r.shape) ≡ true → (ms : Values W) →
      ev (node r ts) ms ≡ applied sem r (eval_all sem ts ms)
  unfolding eval eval_kind
  plain_eval r ts p ms =
      plain_cases (λ k.
      eval_kind sem k r ms (eval_all sem ts ms) (eval_last sem ts ms) ≡ applied sem r (eval_all sem ts ms))
      refl refl (kind r.shape) p

  -- ---- definitions, one after the other, and their result

  -- the values of ids after them, if each has one
  eval_defs : Trees → Values W → Option (Values W)
  eval_defs nil ms = Some ms
  eval_defs (cons d ds) ms = ev d ms >>= λ w. eval_defs ds ((id_of (top d), w) ∷ ms)

  last_snoc : (ds : Trees) (r : Tree) (ms : Values W) → eval_last sem (snoc ds r) ms ≡ (eval_defs ds ms >>= λ m. ev r m)
  unfolding snoc eval_last eval_defs
  last_snoc nil r ms = refl
  last_snoc (cons d ds) r ms = first ds ∙ go (ev d ms) (λ w. last_snoc ds r ((id_of (top d), w) ∷ ms))
    where
      first : (ds : Trees) → eval_last sem (cons d (snoc ds r)) ms ≡
          (ev d ms >>= λ w. eval_last sem (snoc ds r) ((id_of (top d), w) ∷ ms))
      first nil = refl
      first (cons e ds) = refl

      go : (o : Option W) →
          ((w : W) → eval_last sem (snoc ds r) ((id_of (top d), w) ∷ ms)
          ≡ (eval_defs ds ((id_of (top d), w) ∷ ms) >>= λ m. ev r m)) →
          (o >>= λ w. eval_last sem (snoc ds r) ((id_of (top d), w) ∷ ms))
          ≡ (o >>= (λ w. eval_defs ds ((id_of (top d), w) ∷ ms)) >>= λ m. ev r m)
      go None h = refl
      go (Some w) h = h w

  use_of : (r : Tree) (ms : Values W) → eqb (top r).shape 7 ≡ true → ev r ms ≡ value_in ms (id_of (top r))
  unfolding eval eval_kind
  use_of (node r ts) ms e =
      ap (λ (k : Kind). eval_kind sem k r ms (eval_all sem ts ms) (eval_last sem ts ms)) (kind_use r.shape e)

  -- a definition that is a use, and a result that uses it: the definition's value alone has the same value
  renamed_eval : (i : ℕ) (v r : Tree) (ms : Values W) → renames (val_def_of i v) (cons v nil) r ≡ true →
      ev v ms ≡ (eval_defs (cons (val_def_of i v) nil) ms >>= λ m. ev r m)
  unfolding value_in eval_defs
  renamed_eval i v r ms e = rw (def_eval i v ms) (go (ev v ms))
    where
      x : Tree
      x = val_def_of i v

      uses : (w : W) → ev r ((id_of (top x), w) ∷ ms) ≡ Some w
      uses w =
          let is = renames_is x v r e in
          use_of r ((id_of (top x), w) ∷ ms) is.0 ∙ rw (is.1, value_in) refl

      go : (o : Option W) → o ≡ (o >>= (λ w. Some ((id_of (top x), w) ∷ ms)) >>= λ m. ev r m)
      go None = refl
      go (Some w) = sym (uses w)

  wrap_eval : (ds : Trees) (r : Tree) → AllDefs ds → (ms : Values W) →
      ev (wrap_block ds r) ms ≡ (eval_defs ds ms >>= λ m. ev r m)
  unfolding eval_defs
  wrap_eval ds r h ms =
      wrap_cases (λ t. ev t ms ≡ (eval_defs ds ms >>= λ m. ev r m)) ds r h (λ e. rw e refl)
      (λ i v e q. rw e (renamed_eval i v r ms q)) (block_eval (snoc ds r) ms ∙ last_snoc ds r ms)

  -- ---- symbols of which those in scopes M are live

  module _ (g : Graph) (n : ℕ) (good : Goods g.syms g.scopes n) (M : List ℕ)
      (lives : (x : ℕ) → x < n → In (scope_at g.syms x) M → SymLive sem g.syms M x) where
    abbrev val : ℕ → Option W
    val s = value sem g.syms s

    -- ---- ids given are at most the last one, and have the values of their symbols

    record GivenValues (env : Env) (last : ℕ) (ms : Values W) : Type 0 where
      low : (s i : ℕ) → id_given env s ≡ Some i → i ≤ last
      stands : (s i : ℕ) → id_given env s ≡ Some i → value_in ms i ≡ val s

    abbrev Evaluates : Builder → ℕ → Type 0
    Evaluates f k = In (scope_at g.syms k) M → (sc : ℕ) (env : Env) (last : ℕ) (ms : Values W) → GivenValues env last ms →
        ev (f k sc env last) ms ≡ val k

    given-more : (env : Env) (last s : ℕ) (ms : Values W) (w : W) → val s ≡ Some w → GivenValues env last ms →
        GivenValues ((s, suc last) ∷ env) (suc last) ((suc last, w) ∷ ms)
    unfolding value_in
    given-more env last s ms w e h = record {
      low = ids_low_def env last s h.low;
      stands = λ t i q. stands t i (given_cases s (suc last) env t i q);
    }
      where
        stands : (t i : ℕ) → ((s ≡ t) × (suc last ≡ i)) ⊎ (id_given env t ≡ Some i) →
            elim (eqb (suc last) i) [ true ↦ Some w | false ↦ value_in ms i ] ≡ val t
        stands t i (inl q) = rw (eq-eqb (suc last) i q.1) (sym e ∙ ap val q.0)
        stands t i (inr q) =
            rw (ne_eqb (suc last) i (λ z. absurd (omega (arith, h.low t i q)))) (h.stands t i q)

    -- ---- a scope that is entered, by a builder that is right for every symbol up to its result

    -- definitions that have values, seen from before the first of them
    record DefsValued (env : Env) (last : ℕ) (d : Defined) (ms : Values W) : Type 0 where
      are_defs : AllDefs d.defs
      after : Values W
      found_is : eval_defs d.defs ms ≡ Some after
      given : GivenValues d.env d.last after

    module _ (f : Builder) (r sc : ℕ) (l : r < n) (right : (k : ℕ) → k ≤ r → Evaluates f k) (entered : In sc M)
        (result : In (scope_at g.syms r) M) where
      define_valued : (order : List ℕ) (env : Env) (last : ℕ) → Every (Below g.syms r) order → (ms : Values W) →
          GivenValues env last ms → DefsValued env last (define g f sc order env last) ms
      unfolding eval_defs
      define_valued =
          along g f sc
          (λ order env last d.
          Every (Below g.syms r) order → (ms : Values W) → GivenValues env last ms → DefsValued env last d ms)
          (λ env last every ms h. record { are_defs = tt; after = ms; found_is = refl; given = h })
          (λ s order env last e d rest every ms h.
          let v = f s sc env last in
          let low = below_low g.syms g.scopes n good r l s (every s (inl refl)) in
          let in_scope : In (scope_at g.syms s) M = rw (member_is g sc env s e).0 entered in
          let live = lives s (omega arith) in_scope in
          let is : ev v ms ≡ Some live.found = right s low in_scope sc env last ms h ∙ live.found_is in
          let p = rest (λ t m. every t (inr m)) ((suc last, live.found) ∷ ms)
          (given-more env last s ms live.found live.found_is h) in
          record {
            are_defs = ((suc last, v, refl), p.are_defs);
            after = p.after;
            found_is = rw (def_eval (suc last) v ms, is, def_id (suc last) v) p.found_is;
            given = p.given;
          })
          (λ s order env last e d rest every ms h. rest (λ t m. every t (inr m)) ms h)

      scope_right : (env : Env) (last : ℕ) (ms : Values W) → GivenValues env last ms →
          ev (process_scope g f r sc env last) ms ≡ val r
      unfolding process_scope
      scope_right env last ms h =
          let d = define g f sc (schedule g r sc) env last in
          let p = define_valued (schedule g r sc) env last (schedule-below g r sc) ms h in
          wrap_eval d.defs (f r sc d.env d.last) p.are_defs ms
          ∙ (ap (λ (z : Option (Values W)). z >>= λ m. ev (f r sc d.env d.last) m) p.found_is
          ∙ right r (omega arith) result sc d.env d.last p.after p.given)

    -- ---- operands of a symbol, by a builder that is right below it

    module _ (f : Builder) (s : ℕ) (l : s < n) (right : (k : ℕ) → k < s → Evaluates f k) (sc : ℕ)
        (env : Env) (last : ℕ) (ms : Values W) (h : GivenValues env last ms) where
      kids_right : (op j : ℕ) (c : Option W) (ks brs : List ℕ) → ((k : ℕ) → In k ks → k < s) →
          KidsLive sem g.syms M op j c ks brs →
          AgreeFound sem op j c (map val ks) (eval_all sem (build_op g f sc env last op j ks brs) ms)
      unfolding build_op eval_all
      kids_right op j c [] brs low p = tt
      kids_right op j c (k ∷ ks) [] low p = (
        λ e. right k (low k (inl refl)) p.1 sc env last ms h,
        kids_right op (suc j) c ks [] (λ i m. low i (inr m)) p.2,
      )
      kids_right op j c (k ∷ ks) (b ∷ brs) low p =
          go (thunked op j) p.1 (λ cs. kids_right op (suc j) c ks cs (λ i m. low i (inr m)))
        where
          lk : k < s
          lk = low k (inl refl)

          go : (t : Bool) →
              elim t as (λ z. Type 0) [
                | true ↦ (skipped sem op j c ≡ false → In b M) × KidsLive sem g.syms M op (suc j) c ks brs
                | false ↦ KidsLive sem g.syms M op (suc j) c ks (b ∷ brs)
              ] →
              ((cs : List ℕ) → KidsLive sem g.syms M op (suc j) c ks cs →
              AgreeFound sem op (suc j) c (map val ks) (eval_all sem (build_op g f sc env last op (suc j) ks cs) ms)) →
              AgreeFound sem op j c (val k ∷ map val ks) (eval_all sem (elim t [
                | true ↦ cons (process_scope g f k b env last) (build_op g f sc env last op (suc j) ks brs)
                | false ↦ cons (f k sc env last) (build_op g f sc env last op (suc j) ks (b ∷ brs))
              ]) ms)
          go true q rest = (
            λ e. scope_right f k b (omega (arith, lk, l)) (λ i li. right i (omega (arith, lk))) (q.0 e) (p.0 e)
                env last ms h,
            rest brs q.1,
          )
          go false q rest = (λ e. right k lk (p.0 e) sc env last ms h, rest (b ∷ brs) q)

      -- ---- any symbol: a use if it has an id, else by its node

      abbrev kids : List (Option W)
      kids = map val (sym_kids g.syms s)

      is_applied : val s ≡ applied sem (rec_at g.syms s) kids
      is_applied = value_is sem g.syms s (good s l).low

      leaf_right : Plain g.syms s → sym_kids g.syms s ≡ [] → ev (node (rec_at g.syms s) nil) ms ≡ val s
      unfolding eval_all
      leaf_right p e =
          plain_eval (rec_at g.syms s) nil p.kind_is ms
          ∙ sym (is_applied ∙ ap (λ (z : List ℕ). applied sem (rec_at g.syms s) (map val z)) e)

      node_right : (nd : Node) → NodeOk g.syms g.scopes s nd → OperationOrLeaf nd →
          KidsLive sem g.syms M (rec_at g.syms s).opcode 0 (get_or kids 0 None) (sym_kids g.syms s) (thunks_of nd) →
          ev (build_node g f (sym_of g s) nd sc env last) ms ≡ val s
      unfolding build_node
      node_right constant ok q k = leaf_right ok.0 ok.1
      node_right unparsed ok q k = leaf_right ok.0 ok.1
      node_right argument ok q k = absurd q
      node_right (func xs b) ok q k = absurd q
      node_right (operation brs) ok q k =
          plain_eval (rec_at g.syms s) _ ok.0.kind_is ms
          ∙ (applied-agrees sem (rec_at g.syms s) kids _
          (kids_right (rec_at g.syms s).opcode 0 _ (sym_kids g.syms s) brs (good s l).low k)
          ∙ sym is_applied)

      step_right : In (scope_at g.syms s) M → ev (build_step g f s sc env last) ms ≡ val s
      unfolding build_step
      step_right live = go (id_given env s) refl
        where
          is_live : SymLive sem g.syms M s
          is_live = lives s l live

          go : (o : Option ℕ) → id_given env s ≡ o → ev (elim o [
            | Some i ↦ val_use_of i
            | None ↦ build_node g f (sym_of g s) (sym_of g s).node sc env last
          ]) ms ≡ val s
          go (Some i) e = use_eval i ms ∙ h.stands s i e
          go None e = node_right (node_at g.syms s) (good s l).node_is is_live.node_is is_live.kids_live

    value_right : (s : ℕ) → s < n → Evaluates (build_value g) s
    unfolding build_value
    value_right =
        down_holds (λ sc env last. val_use_of 0) (build_step g) (λ s t. s < n → Evaluates (λ k. t) s)
        λ f s right l live sc env last ms h.
        step_right f s l (λ k lk. right k lk (omega arith)) sc env last ms h live

    -- ---- the root, in the outermost scope, with no ids given

    pub root_right : (r : ℕ) → r < n → In 0 M → In (scope_at g.syms r) M →
        ev (process_scope g (build_value g) r 0 [] 0) [] ≡ val r
    root_right r l entered result =
        scope_right (build_value g) r 0 l (λ k lk. value_right k (omega (arith, lk, l))) entered result [] 0 []
        (record { low = λ s i e. absurd (none_given s i e); stands = λ s i e. absurd (none_given s i e) })
