-- Building keeps the meaning, and what is built is checked: the tree of every symbol is right, and so is the root's.
--
-- In order: children, in scopes of their own where they are thunks; a symbol that binds nothing; a lambda; any symbol,
-- from lower ones (`step_built`), and so `build_value` of all; the root (`root_built`).
-- The promise of the main call uses `root_built`: the written tree unfolds to what the root's symbol stands for, and
-- is checked.
-- Assumes nothing.
use mathlib.Core.Path.{◌≡◌, refl, ap, ap₂, sym, ◌∙◌}
use mathlib.Core.Logic.{inl, inr}
use mathlib.Core.Bool.{Bool, true, false, ◌||◌}
use Rattle.std.specs.Prelude.{Option, None, Some}
use mathlib.Core.List.{List, [], ◌∷◌, ◌++◌}
use Prim.Native.Nat.{ℕ, suc, ◌<◌}
use native.Mathlib.Omega.{arith}
use lib.ListN.{length, get_or}
use Rattle.model.specs.Lists.{any_in, twice}
use Rattle.model.specs.Tree.{rec, Tree, Trees, node, nil, cons, many, size, sizes}
use Rattle.model.specs.Binding.{args_of}
use Rattle.model.specs.Unfold.{Unfolded, lam, made, done, more, Meaning, bind_from, unfold_at, unfold_all}
use Rattle.model.specs.Intern.{Node, constant, unparsed, argument, func, operation, Sym, Scope, Env, thunked}
use Rattle.model.specs.Gate.{Graph, sym_of}
use Rattle.model.specs.Materialize.{Builder, val_use_of, id_given, process_scope, build_op, arg_lit, arg_env, build_node}
use Rattle.model.specs.Materialize.{build_step, build_value}
use Rattle.laws.proofs.Apart.{none_some}
use Rattle.laws.proofs.Down.{down_holds}
use Rattle.laws.specs.Members.{In}
use Rattle.laws.proofs.Members.{neither_or, apart_any_in}
use Rattle.laws.specs.ArgLists.{ArgList, syms_in, opts_in}
use Rattle.theory.proofs.Meaning.Mean.{Val, bind_syms, mean_all, mean}
use Rattle.theory.proofs.Meaning.Coincide.{mean_lam, mean_plain}
use Rattle.theory.specs.Checked.{FitsWith, Checked, CheckedIn}
use Rattle.theory.proofs.Acceptance.Checked.{plain_join, nil-checked}
use Rattle.theory.specs.Good.{no_arg, args_at, out, PairOk, PairsOk, Plain, Lam, NodeOk, Goods, deps_at, sym_kids, node_at, rec_at, scope_at}
use Rattle.theory.proofs.Interning.Good.{lam_of_lem, pairs_none}
use Rattle.theory.proofs.Building.Written.{use_unfold, use_checked, plain_unfold, plain-checked, lam_unfold}
use Rattle.theory.proofs.Building.Written.{lam_checked}
use Rattle.theory.proofs.Building.Numbered.{numbered, numbered_opts, numbered_high, numbered_once, args_read}
use Rattle.theory.proofs.Building.Numbered.{lam_fits, lam_agrees}
use Rattle.theory.proofs.Building.Given.{Covers, EnvFor, env_lower, IdsOk, Stand, Small, Built, Builds}
use Rattle.theory.proofs.Building.Given.{none_given, last_in, InBody, in_body}
use Rattle.theory.proofs.Building.Scopes.{GraphSound, scope_built}

module _ (g : Graph) (n : ℕ) (sound : GraphSound g n) where
  abbrev fin : List Sym
  fin = g.syms

  abbrev scs : List Scope
  scs = g.scopes

  -- ---- children

  -- trees that are right for these symbols
  record BuiltAll (env : Env) (last : ℕ) (ks : List ℕ) (ts : Trees) : Type 0 where
    means : (ρ : Val) (ms : Meaning) → Stand fin env ms ρ → (d : ℕ) → unfold_all ts ms d ≡ mean_all (mean fin) ks ρ d
    checked : sizes ts < 65535 → (ids : List ℕ) → IdsOk env last ids → CheckedIn ts false ids
    count : many ts ≡ length ks

  built_nil : (env : Env) (last : ℕ) → BuiltAll env last [] nil
  unfolding unfold_all mean_all many
  built_nil env last = record {
    means = λ ρ ms st d. refl;
    checked = λ small ids ok. nil-checked false ids;
    count = refl;
  }

  built_cons : (env : Env) (last k : ℕ) (ks : List ℕ) (t : Tree) (ts : Trees) → Built fin env last k t →
      BuiltAll env last ks ts → BuiltAll env last (k ∷ ks) (cons t ts)
  unfolding unfold_all mean_all sizes many
  built_cons env last k ks t ts h q = record {
    means = λ ρ ms st d. ap₂ more (h.means ρ ms st d) (q.means ρ ms st d);
    checked = λ small ids ok. plain_join t ts ids (h.checked (omega arith) ids ok) (q.checked (omega arith) ids ok);
    count = ap suc q.count;
  }

  -- ---- a symbol that binds nothing

  plain_built : (env : Env) (last s : ℕ) (ts : Trees) → s < n → Plain fin s → no_arg (node_at fin s) ≡ true →
      BuiltAll env last (sym_kids fin s) ts → Built fin env last s (node (rec_at fin s) ts)
  unfolding size
  plain_built env last s ts l p na q = record {
    means = λ ρ ms st d.
        plain_unfold (rec_at fin s) ts p.kind_is ms d
        ∙ (ap (made (rec_at fin s)) (q.means ρ ms st d)
        ∙ sym (mean_plain fin scs s (sound.good s l) p.kind_is na ρ d));
    checked = λ small ids ok.
        plain-checked (rec_at fin s) ts ids p.kind_is fits p.agrees_is (q.checked (omega arith) ids ok);
  }
    where
      fits : FitsWith (rec_at fin s) (many ts)
      fits = rw q.count p.fits_is

  leaf_built : (env : Env) (last s : ℕ) → s < n → Plain fin s → no_arg (node_at fin s) ≡ true → sym_kids fin s ≡ [] →
      Built fin env last s (node (rec_at fin s) nil)
  leaf_built env last s l p na e = plain_built env last s nil l p na (rw e (built_nil env last))

  -- ---- symbol s, by a builder that is right below it

  module _ (f : Builder) (s : ℕ) (l : s < n) (right : (k : ℕ) → k < s → Builds fin n f k)
      (env : Env) (last : ℕ) (eb : EnvFor fin n env last s) where
    -- a lower symbol in a scope of its own
    body_built : (k b : ℕ) → k < s → PairOk fin scs k b → (e : Env) (la : ℕ) → EnvFor fin n e la k → Covers fin e k →
        Built fin e la k (process_scope g f k b e la)
    body_built k b lk pair = scope_built g n sound f k b (omega arith) (λ j lj. right j (omega arith)) pair

    kids_built : (sc op j : ℕ) (ks brs : List ℕ) → ((k : ℕ) → In k ks → k < s) →
        ((k : ℕ) → In k ks → Covers fin env k) → PairsOk fin scs op j ks brs →
        BuiltAll env last ks (build_op g f sc env last op j ks brs)
    unfolding build_op
    kids_built sc op j [] brs low cov p = built_nil env last
    kids_built sc op j (k ∷ ks) [] low cov p =
        let lk = low k (inl refl) in
        let ek = env_lower fin n env last s k (omega arith) eb in
        built_cons env last k ks _ _ (right k lk sc env last ek (cov k (inl refl)))
        (kids_built sc op (suc j) ks [] (λ i m. low i (inr m)) (λ i m. cov i (inr m))
        (pairs_none fin scs op (suc j) ks))
    kids_built sc op j (k ∷ ks) (b ∷ brs) low cov p =
        go (thunked op j) p (λ cs. kids_built sc op (suc j) ks cs (λ i m. low i (inr m)) (λ i m. cov i (inr m)))
      where
        lk : k < s
        lk = low k (inl refl)

        ek : EnvFor fin n env last k
        ek = env_lower fin n env last s k (omega (arith, lk)) eb

        go : (t : Bool) →
            elim t as (λ z. Type 0) [
              | true ↦ PairOk fin scs k b × PairsOk fin scs op (suc j) ks brs
              | false ↦ PairsOk fin scs op (suc j) ks (b ∷ brs)
            ] →
            ((cs : List ℕ) → PairsOk fin scs op (suc j) ks cs →
            BuiltAll env last ks (build_op g f sc env last op (suc j) ks cs)) →
            BuiltAll env last (k ∷ ks) (elim t [
              | true ↦ cons (process_scope g f k b env last) (build_op g f sc env last op (suc j) ks brs)
              | false ↦ cons (f k sc env last) (build_op g f sc env last op (suc j) ks (b ∷ brs))
            ])
        go true q rest =
            built_cons env last k ks _ _ (body_built k b lk q.0 env last ek (cov k (inl refl))) (rest brs q.1)
        go false q rest =
            built_cons env last k ks _ _ (right k lk sc env last ek (cov k (inl refl))) (rest (b ∷ brs) q)

    -- ---- a lambda

    module _ (xs : ArgList) (b : ℕ) (nd : node_at fin s ≡ func xs b) (cov : Covers fin env s) where
      lm : Lam fin scs s xs b
      lm = lam_of_lem fin scs s xs b (sound.good s l) nd

      abbrev lambda_of : ℕ → Tree
      lambda_of k =
          node (rec 12 0xD9 (length xs) (arg_lit last xs))
          (cons (process_scope g f k b (arg_env last xs env) (last_in last xs)) nil)

      lambda_built : Built fin env last s (lambda_of (get_or (sym_kids fin s) 0 0))
      unfolding lm unfold_all mean_all size many
      lambda_built = rw lm.kids_is (record { means = means; checked = checked })
        where
          new : ArgList
          new = numbered last xs

          body : Tree
          body = process_scope g f lm.body b (arg_env last xs env) (last_in last xs)

          inside : InBody fin n env last s xs lm.body
          inside = in_body fin scs n sound.good env last s l xs b nd eb

          right_body : Built fin (arg_env last xs env) (last_in last xs) lm.body body
          right_body = body_built lm.body b inside.low lm.pair _ _ inside.envs (inside.covers cov)

          read : args_of (length xs) (arg_lit last xs) ≡ new
          read = args_read last xs lm.valid

          means : (ρ : Val) (ms : Meaning) → Stand fin env ms ρ → (d : ℕ) →
              unfold_at (lambda_of lm.body) ms d ≡ mean fin s ρ d
          means ρ ms st d =
              lam_unfold (length xs) (arg_lit last xs) (cons body nil) ms d
              ∙ (ap lam_with read
              ∙ sym (mean_lam fin scs s xs b (sound.good s l) nd ρ d
              ∙ λ i. lam (lm.shape_is i) (lm.opcode_is i) (lm.aux_is i) (sym (numbered_opts last xs) i) (kids i)))
            where
              lam_with : ArgList → Unfolded
              lam_with ys =
                  lam 12 0xD9 (length xs) (opts_in ys) (unfold_all (cons body nil) (bind_from (suc d) 0 ys ms) (suc d))

              σ : Val
              σ = bind_syms (suc d) 0 xs ρ

              inner : Meaning
              inner = bind_from (suc d) 0 new ms

              standing : Stand fin (arg_env last xs env) inner σ
              standing = inside.stands ρ ms st d

              kids : mean_all (mean fin) (sym_kids fin s) σ (suc d) ≡ unfold_all (cons body nil) inner (suc d)
              kids =
                  ap (λ (z : List ℕ). mean_all (mean fin) z σ (suc d)) lm.kids_is
                  ∙ sym (ap (λ (u : Unfolded). more u done) (right_body.means σ inner standing (suc d)))

          checked : Small (lambda_of lm.body) → (ids : List ℕ) → IdsOk env last ids →
              Checked (lambda_of lm.body) false ids
          checked small ids ok =
              lam_checked (length xs) (arg_lit last xs) (cons body nil) ids
              (lam_fits last xs (omega (arith, lm.aux_is, lm.aux_low)) lm.valid)
              (lam_agrees (length xs) (arg_lit last xs)) (rw read fresh) (rw read checked_body)
            where
              above : (i : ℕ) → In i (syms_in new) → In i ids → ⊥
              above i m q = absurd (omega (arith, (numbered_high last xs i m).0, ok.low i q))

              fresh : (any_in (syms_in new) ids || twice (syms_in new)) ≡ false
              fresh =
                  neither_or (any_in (syms_in new) ids) (twice (syms_in new))
                  (apart_any_in (syms_in new) ids above) (numbered_once last xs)

              checked_body : CheckedIn (cons body nil) false (syms_in new ++ ids)
              checked_body =
                  let value = right_body.checked (omega arith) (syms_in new ++ ids) (inside.ids ids ok) in
                  plain_join body nil (syms_in new ++ ids) value (nil-checked false (syms_in new ++ ids))

    -- ---- any symbol: a use if it has an id, else by its node

    node_built : id_given env s ≡ None → Covers fin env s → (sc : ℕ) (nd : Node) → node_at fin s ≡ nd →
        NodeOk fin scs s nd → Built fin env last s (build_node g f (sym_of g s) nd sc env last)
    unfolding build_node
    node_built e cov sc constant q k = leaf_built env last s l k.0 (ap no_arg q) k.1
    node_built e cov sc unparsed q k = leaf_built env last s l k.0 (ap no_arg q) k.1
    node_built e cov sc argument q k = none_some (sym e ∙ (cov s (rw k.0 (inl refl))).1)
    node_built e cov sc (func xs b) q k = lambda_built xs b q cov
    node_built e cov sc (operation brs) q k =
        plain_built env last s _ l k.0 (ap no_arg q)
        (kids_built sc (rec_at fin s).opcode 0 (sym_kids fin s) brs (sound.good s l).low
        (λ i m a d. cov a (k.0.cover i a m d)) k.1)

    step_built : (sc : ℕ) → Covers fin env s → Built fin env last s (build_step g f s sc env last)
    unfolding build_step
    step_built sc cov = go (id_given env s) refl
      where
        go : (o : Option ℕ) → id_given env s ≡ o →
            Built fin env last s (elim o [
              | Some i ↦ val_use_of i
              | None ↦ build_node g f (sym_of g s) (sym_of g s).node sc env last
            ])
        go (Some i) e = record {
          means = λ ρ ms st d. use_unfold i ms d ∙ st s i e d;
          checked = λ small ids ok. use_checked i ids (ok.given s i e);
        }
        go None e = node_built e cov sc (node_at fin s) refl (sound.good s l).node_is

  -- what `build_value` would give for a symbol that is not lower; none is asked for
  abbrev no_tree : ℕ → Env → ℕ → Tree
  no_tree sc env last = val_use_of 0

  value_built : (s : ℕ) → s < n → Builds fin n (build_value g) s
  unfolding build_value
  value_built = down_holds no_tree (build_step g) (λ s t. s < n → Builds fin n (λ k. t) s) λ f s right l sc env last eb cov.
      step_built f s l (λ k lk. right k lk (omega arith)) env last eb sc cov

-- ---- the root, in the outermost scope, with no ids given

pub root_built : (g : Graph) (n : ℕ) → Goods g.syms g.scopes n →
    ((s a b : ℕ) → s < n → no_arg (node_at g.syms s) ≡ true → In a (deps_at g.syms s) →
    b < length g.scopes → In a (args_at g.scopes b) → In b (out g.scopes (scope_at g.syms s))) →
    ((x : ℕ) → x < n → (xs : ArgList) (b : ℕ) → node_at g.syms x ≡ func xs b → b < length g.scopes) →
    (r : ℕ) → r < n → PairOk g.syms g.scopes r 0 → ((a : ℕ) → In a (deps_at g.syms r) → ⊥) →
    Built g.syms [] 0 r (process_scope g (build_value g) r 0 [] 0)
root_built g n good placed scoped r l pair closed =
    let sound : GraphSound g n = record { good = good; placed = placed; scoped = scoped } in
    scope_built g n sound (build_value g) r 0 l (λ k lk. value_built g n sound k (omega arith)) pair [] 0
    (record {
      ids_low = λ t i e. absurd (none_given t i e);
      low = λ t i e. absurd (none_given t i e);
      covers = λ t i e. absurd (none_given t i e);
      outer = λ x lx xs b e a m q. absurd (none_given a q.0 q.1);
    })
    (λ a d. absurd (closed a d))
