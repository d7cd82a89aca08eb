-- A scope's block: its definitions, each built in its turn, then its result. If the builder is right for every symbol
-- up to the result, the block is right for the result.
--
-- In order: what building rests on (`GraphSound`); what gets a definition (`member_is`); that a symbol of the schedule may
-- be built in the scope (`may_build`); definitions seen from before the first of them (`DefinedFor`), and one before them;
-- the whole scope (`scope_built`).
-- Built uses `scope_built` for thunks, lambdas' bodies and the root.
-- Assumes nothing.
use mathlib.Core.Path.{◌≡◌, refl, ◌∙◌}
use mathlib.Core.Logic.{◌⊎◌, inl, inr}
use mathlib.Core.Bool.{true, not, ◌&&◌}
use Rattle.std.specs.Prelude.{Some}
use mathlib.Core.List.{List, ◌∷◌, ◌++◌}
use Prim.Native.Nat.{ℕ, suc, ◌≤◌, ◌<◌}
use native.Mathlib.Omega.{arith}
use lib.Dec.{eqb}
use lib.ListN.{length}
use borrow.Author.Tests.{eqb-true}
use Rattle.model.specs.Tree.{Tree, size}
use Rattle.model.specs.Binding.{after}
use Rattle.model.specs.Unfold.{Meaning, unfold_at}
use Rattle.model.specs.Intern.{Node, constant, unparsed, argument, func, operation, Sym, Scope, Env}
use Rattle.model.specs.Gate.{Graph, sym_of, usage, should_hoist}
use Rattle.model.specs.Schedule.{is_arg, schedule}
use Rattle.model.specs.Materialize.{Builder, Defined, val_def_of, id_given, member, define, process_scope}
use Rattle.laws.specs.Members.{In, Every}
use Rattle.laws.proofs.Members.{and_both}
use Rattle.laws.specs.ArgLists.{ArgList}
use Rattle.laws.proofs.Defining.{defined_first, along}
use Rattle.laws.proofs.Trees.{def_size}
use Rattle.theory.specs.Checked.{Checked}
use Rattle.theory.proofs.Meaning.Mean.{Val}
use Rattle.theory.specs.Good.{no_arg, args_at, out, PairOk, Goods, deps_at, node_at, scope_at}
use Rattle.theory.proofs.Interning.Good.{lam_of_lem}
use Rattle.theory.proofs.Building.Reach.{Below, schedule-below, BoundUpTo, below_low, below_deps}
use Rattle.theory.proofs.Building.Written.{def_id, def_unfold, def_after, def_checked}
use Rattle.theory.proofs.Building.Blocks.{AllDefs, bind_def, bind_defs, ids_after, CheckedDefs, SmallDefs}
use Rattle.theory.proofs.Building.Blocks.{wrap_unfold, wrap_checked}
use Rattle.theory.proofs.Building.Given.{Covers, has_more, EnvFor, env_lower, IdsOk, Stand, Built, Builds}
use Rattle.theory.proofs.Building.Given.{env_def, ids_def, stand_def}

-- ---- what building rests on

-- symbols are good; one that depends on an argument lies within the scope that has it; a lambda's body has a scope
pub record GraphSound (g : Graph) (n : ℕ) : Type 0 where
  pub good : Goods g.syms g.scopes n
  pub placed : (s a b : ℕ) → s < n → no_arg (node_at g.syms s) ≡ true → In a (deps_at g.syms s) →
      b < length g.scopes → In a (args_at g.scopes b) → In b (out g.scopes (scope_at g.syms s))
  pub scoped : (x : ℕ) → x < n → (xs : ArgList) (b : ℕ) → node_at g.syms x ≡ func xs b → b < length g.scopes

no_arg_lem : (nd : Node) → not (is_arg nd) ≡ true → no_arg nd ≡ true
no_arg_lem constant e = refl
no_arg_lem unparsed e = refl
no_arg_lem argument e = e
no_arg_lem (func xs b) e = refl
no_arg_lem (operation brs) e = refl

-- a symbol that gets a definition in scope sc is of that scope, and no argument
pub member_is : (g : Graph) (sc : ℕ) (env : Env) (s : ℕ) → member g sc env s ≡ true →
    (scope_at g.syms s ≡ sc) × (no_arg (node_at g.syms s) ≡ true)
unfolding member
member_is g sc env s e =
    let here = eqb (sym_of g s).scope sc in
    let no-argument = not (is_arg (sym_of g s).node) in
    let a = and_both (here && no-argument && should_hoist (sym_of g s) (usage g s)) _ e in
    let b = and_both (here && no-argument) (should_hoist (sym_of g s) (usage g s)) a.0 in
    let c = and_both here no-argument b.0 in
    (eqb-true (sym_of g s).scope sc c.0, no_arg_lem (sym_of g s).node c.1)

module _ (g : Graph) (n : ℕ) (sound : GraphSound g n) where
  abbrev fin : List Sym
  fin = g.syms

  abbrev scs : List Scope
  scs = g.scopes

  -- what s depends on and r does not is bound by a lambda on the way; then s would lie within that lambda's body, and
  -- `PairOk` says that sc does not
  may_build : (r sc : ℕ) → r < n → PairOk fin scs r sc → (env : Env) → Covers fin env r →
      (s : ℕ) → Below fin r s → scope_at fin s ≡ sc → no_arg (node_at fin s) ≡ true → Covers fin env s
  may_build r sc l pair env cov s below e na a d = go (below_deps fin scs n sound.good r l s a below d)
    where
      s_low : s < n
      s_low = omega (arith, below_low fin scs n sound.good r l s below, l)

      go : In a (deps_at fin r) ⊎ BoundUpTo fin r a → (i : ℕ) × (id_given env a ≡ Some i)
      go (inl m) = cov a m
      go (inr w) =
          let x-low : w.lam < n = omega (arith, w.low, l) in
          let lm = lam_of_lem fin scs w.lam w.args w.scope (sound.good w.lam x-low) w.node_is in
          let body = sound.scoped w.lam x-low w.args w.scope w.node_is in
          let within = sound.placed s a w.scope s_low na d body (rw lm.scope_is w.has) in
          absurd (pair w.lam w.low w.args w.scope w.node_is (rw e at within))

  -- ---- definitions, seen from before the first of them

  record DefinedFor (r : ℕ) (env : Env) (last : ℕ) (d : Defined) : Type 0 where
    envs : EnvFor fin n d.env d.last r
    covers : Covers fin d.env r
    are_defs : AllDefs d.defs
    stands : (ρ : Val) (ms : Meaning) → Stand fin env ms ρ → Stand fin d.env (bind_defs d.defs ms) ρ
    ids : (l : List ℕ) → IdsOk env last l → IdsOk d.env d.last (ids_after d.defs l)
    checks : (l : List ℕ) → IdsOk env last l → SmallDefs d.defs → CheckedDefs d.defs l

  define-one : (r : ℕ) (env : Env) (last s : ℕ) (v : Tree) → EnvFor fin n env last r → Built fin env last s v →
      (d : Defined) → DefinedFor r ((s, suc last) ∷ env) (suc last) d →
      DefinedFor r env last (defined_first (val_def_of (suc last) v) d)
  define-one r env last s v envs b d p = record {
    envs = p.envs;
    covers = p.covers;
    are_defs = ((suc last, v, refl), p.are_defs);
    stands = λ ρ ms st. p.stands ρ (bind_def x ms) (stands ρ ms st);
    ids = λ ls ok. p.ids (after x ++ ls) (ids ls ok);
    checks = λ ls ok small. (checks ls ok small.0, p.checks (after x ++ ls) (ids ls ok) small.1);
  }
    where
      x : Tree
      x = val_def_of (suc last) v

      stands : (ρ : Val) (ms : Meaning) → Stand fin env ms ρ → Stand fin ((s, suc last) ∷ env) (bind_def x ms) ρ
      stands ρ ms st =
          rw (def_id (suc last) v)
          (stand_def env last s fin ms ρ (λ e. unfold_at x ms e) envs.ids_low
          (λ d. def_unfold (suc last) v ms d ∙ b.means ρ ms st d) st)

      ids : (ls : List ℕ) → IdsOk env last ls → IdsOk ((s, suc last) ∷ env) (suc last) (after x ++ ls)
      ids ls ok = rw (def_after (suc last) v) (ids_def env last s ls ok)

      checks : (ls : List ℕ) → IdsOk env last ls → size x ≤ 65535 → Checked x true ls
      checks ls ok small =
          let value = b.checked (omega (arith, def_size (suc last) v)) ls ok in
          def_checked (suc last) v ls (λ m. absurd (omega (arith, ok.low (suc last) m))) value

  -- ---- a scope, by a builder that is right for every symbol up to its result

  module _ (f : Builder) (r sc : ℕ) (l : r < n) (right : (k : ℕ) → k ≤ r → Builds fin n f k)
      (pair : PairOk fin scs r sc) where
    define_built : (order : List ℕ) (env : Env) (last : ℕ) → Every (Below fin r) order → EnvFor fin n env last r →
        Covers fin env r → DefinedFor r env last (define g f sc order env last)
    define_built =
        along g f sc
        (λ order env last d.
        Every (Below fin r) order → EnvFor fin n env last r → Covers fin env r → DefinedFor r env last d)
        (λ env last every envs cov. record {
          envs = envs;
          covers = cov;
          are_defs = tt;
          stands = λ ρ ms st. st;
          ids = λ ls ok. ok;
          checks = λ ls ok small. tt;
        })
        (λ s order env last e d rest every envs cov.
        let is = member_is g sc env s e in
        let below = every s (inl refl) in
        let s_low = below_low fin scs n sound.good r l s below in
        let own = may_build r sc l pair env cov s below is.0 is.1 in
        let value = right s s_low sc env last (env_lower fin n env last r s s_low envs) own in
        define-one r env last s (f s sc env last) envs value d
        (rest (λ t m. every t (inr m)) (env_def env last s fin scs n sound.good (omega arith) is.1 own r envs)
        (λ x m. has_more s (suc last) env x (cov x m))))
        (λ s order env last e d rest every envs cov. rest (λ t m. every t (inr m)) envs cov)

    pub scope_built : (env : Env) (last : ℕ) → EnvFor fin n env last r → Covers fin env r →
        Built fin env last r (process_scope g f r sc env last)
    unfolding process_scope
    scope_built env last envs cov =
        let d = define g f sc (schedule g r sc) env last in
        let p = define_built (schedule g r sc) env last (schedule-below g r sc) envs cov in
        let b = right r (omega arith) sc d.env d.last p.envs p.covers in
        let result = f r sc d.env d.last in
        record {
          means = λ ρ ms st e.
              wrap_unfold d.defs result p.are_defs ms e
              ∙ b.means ρ (bind_defs d.defs ms) (p.stands ρ ms st) e;
          checked = λ small ls ok.
              wrap_checked d.defs result ls small p.are_defs (p.checks ls ok)
              (λ s. b.checked s (ids_after d.defs ls) (p.ids ls ok));
        }
