-- What the contracts say of the words. In order: a lambda's arguments; a definition. Assumes nothing.
use Prim.Native.Nat.{ℕ, ◌+◌, ◌*◌, ◌<◌, ◌≤◌}
use mathlib.Core.Path.{◌≡◌, sym, ap, ◌∙◌, subst}
use mathlib.Core.List.{List, ◌∷◌}
use native.Mathlib.Omega.{arith}
use borrow.Author.Tests.{eq-eqb, ne_eqb}
use lib.ListN.{length}
use Rattle.model.specs.Tree.{Tree, top}
use Rattle.model.specs.Forest.{record_count}
use Rattle.model.specs.Binding.{id_of, args_of}
use Rattle.model.specs.Intern.{Env, bind_args, bind_def}
use Rattle.laws.specs.Range.{range}
use Rattle.laws.specs.Frame.{Frame}
use Rattle.laws.proofs.Frame.{frame_none}
use Rattle.laws.proofs.ArgLists.{args_length}
use Rattle.laws.proofs.Ranges.{range_length}
use Rattle.walk.specs.Walk.{rec_at, tree_at, WellFormed}
use Rattle.walk.proofs.Bridge.{func_literal}
use Rattle.regions.specs.Regions.{BINDINGS}
use Rattle.bindings.specs.Bindings.{env_of, bound, bound_all}
use Rattle.bindings.specs.Made.{top_after, words_after, ArgsBound, DefBound}
use Rattle.bindings.proofs.Laws.{bound_frame, env_bound, all_frame, env_args}
use Rattle.bindings.proofs.Args.{arg_pairs, arg_pairs_length}

-- ---- a lambda's arguments

module _ (bs : List ℕ) (i n first a : ℕ) (lit ws ws' : List ℕ) (h : WellFormed bs) (l : i < record_count bs)
    (e : a ≡ (rec_at bs i).aux) (f : lit ≡ (rec_at bs i).lit) (g : (rec_at bs i).shape ≡ 12) where
  pub args_bound : BINDINGS.first + 2 * (n + 15) ≤ length ws → ws' ≡ bound_all ws n (arg_pairs a lit first)
      → ArgsBound bs i n first ws ws' (n + a)
  args_bound room is =
      let few = (func_literal bs i h l a lit e f g).0 in
      record {
        is = omega arith;
        words = rw (← e, ← f) is;
        most = omega arith;
        env = rw (is, ← e, ← f) (env (omega arith));
        kept =
            rw is
            (subst (λ (m : ℕ). Frame (BINDINGS.first + 2 * n) (BINDINGS.first + 2 * (n + m)) ws (bound_all ws n (arg_pairs a lit first)))
            (arg_pairs_length a lit first) (all_frame n (arg_pairs a lit first) ws));
      }
    where
      env : BINDINGS.first + 2 * (n + a) ≤ length ws
          → env_of (bound_all ws n (arg_pairs a lit first)) (n + a) ≡ bind_args (args_of a lit) (range first a) (env_of ws n)
      env fits =
          let m = args_length a lit in
          ap (λ (m : ℕ). env_of (bound_all ws n (arg_pairs a lit first)) (n + m)) (sym m)
          ∙ env_args ws n (args_of a lit) (range first a) (range_length first a ∙ sym m) (omega arith)

-- ---- a definition

pub bind_def_lem : (t : Tree) (symbol : ℕ) (env : Env) → (top t).shape ≡ 10
    → bind_def t symbol env ≡ (id_of (top t), symbol) ∷ env
unfolding bind_def
bind_def_lem t symbol env e = rw (bind_def, eq-eqb (top t).shape 10 e)

bind_other : (t : Tree) (symbol : ℕ) (env : Env) → ((top t).shape ≡ 10 → ⊥) → bind_def t symbol env ≡ env
unfolding bind_def
bind_other t symbol env h = rw (bind_def, ne_eqb (top t).shape 10 h)

module _ (bs : List ℕ) (i n symbol : ℕ) (ws : List ℕ) where
  pub def_bound : (id : ℕ) (ws' : List ℕ) → (rec_at bs i).shape ≡ 10 → id ≡ id_of (rec_at bs i)
      → BINDINGS.first + 2 * n + 1 < length ws → ws' ≡ bound ws n id symbol → DefBound bs i n symbol ws ws' (n + 1)
  def_bound id ws' e f room is = record {
    is = rw (eq-eqb (rec_at bs i).shape 10 e, top_after);
    words = rw (eq-eqb (rec_at bs i).shape 10 e, words_after, ← f) is;
    least = omega arith;
    most = omega arith;
    env = rw (is, env_bound ws n id symbol room, f) (sym (bind_def_lem (tree_at bs i) symbol (env_of ws n) e));
    kept = rw is (bound_frame ws n id symbol);
  }

  pub def_none : ((rec_at bs i).shape ≡ 10 → ⊥) → DefBound bs i n symbol ws ws n
  def_none h = record {
    is = rw (ne_eqb (rec_at bs i).shape 10 h, top_after);
    words = rw (ne_eqb (rec_at bs i).shape 10 h, words_after);
    least = omega arith;
    most = omega arith;
    env = sym (bind_other (tree_at bs i) symbol (env_of ws n) h);
    kept = frame_none _ _ ws;
  }
