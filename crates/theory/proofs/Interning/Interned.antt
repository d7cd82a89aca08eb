-- Interning an accepted forest: the root's symbol stands for the root, at every depth, and the invariant holds.
--
-- In order: the invariant at the start; what interning leaves (`Ready`); a forest that the checks let through
-- (`forest_ready`); an accepted forest (`interned_ready`).
-- The proof that building keeps the meaning starts from `interned_ready`.
-- Assumes nothing.
use mathlib.Core.Path.{◌≡◌, refl, ap, sym}
use mathlib.Core.Logic.{◌⊎◌, inl, inr}
use mathlib.Core.Bool.{false}
use mathlib.Core.List.{List, [], ◌∷◌}
use Prim.Native.Nat.{ℕ, ◌≤◌, ◌<◌}
use native.Mathlib.Omega.{arith}
use lib.ListN.{get_or}
use Rattle.model.specs.Lists.{last}
use Rattle.model.specs.Answer.{refused, good, ◌>>=◌}
use Rattle.model.specs.Tree.{Tree, Trees, nil, cons, many, root}
use Rattle.model.specs.Accept.{accept}
use Rattle.model.specs.Unfold.{unfold_at, unfold_all}
use Rattle.model.specs.Intern.{Sym, Scope, State, Outs, root_scope, start, recall, intern_forest, intern_last}
use Rattle.model.specs.Call.{interned}
use Rattle.laws.proofs.Holds.{Holds, holds_map}
use Rattle.laws.specs.Members.{In}
use Rattle.theory.proofs.Meaning.Mean.{Val, mean_all, mean}
use Rattle.theory.specs.Checked.{CheckedIn}
use Rattle.theory.proofs.Acceptance.Accept.{accepted}
use Rattle.theory.specs.Good.{args_in, PairOk, deps_at, sym_count}
use Rattle.theory.specs.Inv.{Inv, EnvOk, Fits}
use Rattle.theory.proofs.Interning.Finish.{Result}
use Rattle.theory.proofs.Interning.Scopes.{pair_of}
use Rattle.theory.proofs.Interning.Keep.{Symbols, AllStand, KeepsMeanings, last_in_lem}
use Rattle.theory.proofs.Interning.Walk.{intern_all_keeps}

-- ---- the start

pub start_inv : (fin : List Sym) (scs : List Scope) → get_or scs 0 root_scope ≡ root_scope → Inv fin scs start [] 0
unfolding start recall
start_inv fin scs e = record {
  good = λ i l. absurd (omega arith);
  cur_low = omega arith;
  chain = λ b l. inl (ap (λ (z : Scope). z.around) (at b l));
  tables_ok = λ i h. absurd (no_table i h);
  memo_ok = λ p a b f. let z : ◌≡◌ {A = ℕ} 0 1 = cc in absurd (omega arith);
  args_low = λ b a l h. absurd (no_args b a l h);
  arg_low = λ i a h. absurd h;
  lam_ok = λ x l. absurd (omega arith);
  arg_scope = λ i a b h. absurd h;
  place_ok = λ s a b l. absurd (omega arith);
}
  where
    at : (b : ℕ) → b < 1 → get_or scs b root_scope ≡ root_scope
    at b l = let z : b ≡ 0 = omega arith in rw z e

    no_table : (i : ℕ) → (In i [] ⊎ ⊥) → ⊥
    no_table i (inl h) = h
    no_table i (inr h) = h

    no_args : (b a : ℕ) → b < 1 → In a (args_in (get_or scs b root_scope).args) → ⊥
    no_args b a l h = rw (at b l) at h

-- ---- what interning leaves

-- s is the symbol of tree t, which depends on no argument and may be built in the outermost scope
pub record RootInterned (st : State) (s : ℕ) (t : Tree) : Type 0 where
  pub inv : Inv st.syms st.scopes st [] 0
  pub low : s < sym_count st
  pub closed : (a : ℕ) → In a (deps_at st.syms s) → ⊥
  pub pair : PairOk st.syms st.scopes s 0
  pub means : (ρ : Val) (d : ℕ) → mean st.syms s ρ d ≡ unfold_at t [] d

-- where symbols stand for trees, each for one, the last stands for the root
last_means : (fin : List Sym) (ρ : Val) (d : ℕ) (ks : List ℕ) (ts : Trees) → 1 ≤ many ts →
    mean_all (mean fin) ks ρ d ≡ unfold_all ts [] d → mean fin (last ks) ρ d ≡ unfold_at (root ts) [] d
unfolding many mean_all unfold_all last root
last_means fin ρ d ks nil l e = absurd (omega arith)
last_means fin ρ d [] (cons t ts) l e = cc
last_means fin ρ d (k ∷ []) (cons t nil) l e = cc
last_means fin ρ d (k ∷ []) (cons t (cons u ts)) l e = cc
last_means fin ρ d (k ∷ j ∷ ks) (cons t nil) l e = cc
last_means fin ρ d (k ∷ j ∷ ks) (cons t (cons u ts)) l e = last_means fin ρ d (j ∷ ks) (cons u ts) (omega arith) (cc)

kept_ready : (ts : Trees) → 1 ≤ many ts → (os : Symbols) → KeepsMeanings start [] 0 [] 0 0 false ts os →
    RootInterned os.2 (last os.0) (root ts)
unfolding start
kept_ready ts l os k = record {
  inv = w.0;
  low = res.low;
  closed = res.within;
  pair = pair_of os.2.syms os.2.scopes os.2 [] 0 (last os.0) w.0 res.low;
  means = λ ρ d. last_means os.2.syms ρ d os.0 ts l (w.1.each_means refl ρ [] (λ i h. absurd h) d);
}
  where
    whole : Fits os.2.syms os.2.scopes os.2
    whole = record { syms_fit = λ i l. refl; scopes_fit = λ b l. refl }

    none_bound : EnvOk os.2.syms (sym_count start) [] []
    none_bound = record { low = λ i h. absurd h; deps_in = λ i a h. absurd h; ids = λ i a h. absurd h }

    at_start : Inv os.2.syms os.2.scopes start [] 0
    at_start = start_inv os.2.syms os.2.scopes (sym (k.step.grows.same_scopes 0 (omega arith)))

    w : Inv os.2.syms os.2.scopes os.2 [] 0 ×
        AllStand os.2.syms os.2.scopes (sym_count os.2) [] [] 0 0 false ts os.0 os.1
    w = k.step.keeps os.2.syms os.2.scopes whole at_start none_bound

    res : Result os.2.syms (sym_count os.2) [] (last os.0)
    res = w.1.results (last os.0) (last_in_lem os.0 (omega (arith, k.count)))

-- ---- forests

forest_ready : (ts : Trees) → CheckedIn ts false [] → 1 ≤ many ts →
    Holds (λ os. RootInterned os.2 (last os.0) (root ts)) (intern_forest ts)
unfolding intern_forest
forest_ready ts c l =
    holds_map (KeepsMeanings start [] 0 [] 0 0 false ts) _ (intern_forest ts) (intern_all_keeps ts 0 0 0 0 [] [] false start c)
    (kept_ready ts l)

pub interned_ready : (bs : List ℕ) (ts : Trees) → accept bs ≡ good ts →
    Holds (λ o. RootInterned o.1 o.0 (root ts)) (interned bs)
unfolding interned ◌>>=◌ intern_last
interned_ready bs ts e = rw e (go (intern_forest ts) (forest_ready ts (accepted bs ts e).0 (accepted bs ts e).1))
  where
    go : (m : Outs) → Holds (λ os. RootInterned os.2 (last os.0) (root ts)) m →
        Holds (λ o. RootInterned o.1 o.0 (root ts)) (intern_last m)
    go (refused n p) h = tt
    go (good os) h = h
