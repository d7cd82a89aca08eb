-- Environments in words.
-- In order: the search; which words an environment hangs on; one more entry; a lambda's arguments. Assumes nothing.
use Prim.Native.Nat.{ℕ, suc, ◌+◌, ◌-◌, ◌*◌, ◌<◌, ◌≤◌}
use mathlib.Core.Path.{◌≡◌, refl, sym, ap, ◌∙◌}
use mathlib.Core.List.{List, [], ◌∷◌, ◌++◌}
use native.Mathlib.Omega.{arith}
use native.Mathlib.Numerals.{add-one}
use borrow.Author.Tests.{eq-eqb, ne_eqb}
use lib.ListN.{length, set, length-set}
use lib.Seq.{get_or-set_same, get_or-set_other}
use Rattle.model.specs.Intern.{Env, resolve, bind_args}
use Rattle.laws.specs.Frame.{Agree, Frame}
use Rattle.laws.specs.Stack.{stack_of}
use Rattle.laws.proofs.Frame.{frame_none, frame_then, frame_wider, frame_below, frame_store}
use Rattle.laws.proofs.Stack.{stack_kept, search_none, search_hit, search_miss}
use Rattle.regions.specs.Regions.{BINDINGS}
use Rattle.bindings.specs.Bindings.{entry_at, bound, env_of, arg_bindings, bound_all}

-- ---- the search, from the newest entry of k downwards

module _ (id : ℕ) where
  here : (b : ℕ × ℕ) (bs : Env) → b.0 ≡ id → b.1 ≡ resolve (b ∷ bs) id
  unfolding resolve
  here b bs e = rw (eq-eqb b.0 id e, resolve)

  there : (b : ℕ × ℕ) (bs : Env) → (b.0 ≡ id → ⊥) → resolve bs id ≡ resolve (b ∷ bs) id
  unfolding resolve
  there b bs n = sym (rw (ne_eqb b.0 id n, resolve))

  module _ (ws : List ℕ) (k : ℕ) where
    pub resolve_none : k ≤ 0 → 0 ≡ resolve (env_of ws k) id
    unfolding resolve env_of
    resolve_none = search_none (entry_at ws) (λ bs. resolve bs id) (λ b. b.0 ≡ id) (λ b. b.1) here there k

    pub resolve_hit : 0 < k → (entry_at ws (k - 1)).0 ≡ id → (entry_at ws (k - 1)).1 ≡ resolve (env_of ws k) id
    unfolding env_of
    resolve_hit = search_hit (entry_at ws) (λ bs. resolve bs id) (λ b. b.0 ≡ id) (λ b. b.1) here there k

    pub resolve_miss : 0 < k → ((entry_at ws (k - 1)).0 ≡ id → ⊥) → resolve (env_of ws (k - 1)) id ≡ resolve (env_of ws k) id
    unfolding env_of
    resolve_miss = search_miss (entry_at ws) (λ bs. resolve bs id) (λ b. b.0 ≡ id) (λ b. b.1) here there k

pub ruleset resolving = (resolve_none, resolve_hit, resolve_miss)

-- ---- which words

pub env_words : (us ws : List ℕ) (n : ℕ) → Agree ws us BINDINGS.first (BINDINGS.first + 2 * n)
    → env_of us n ≡ env_of ws n
unfolding env_of
env_words us ws n h =
    stack_kept (entry_at us) (entry_at ws) n
    (λ j lt. rw (
      h (BINDINGS.first + 2 * j) (omega arith) (omega arith),
      h (BINDINGS.first + 2 * j + 1) (omega arith) (omega arith),
    ))

-- ---- one more entry

module _ (ws : List ℕ) (k id symbol : ℕ) where
  abbrev half : List ℕ
  half = set ws (BINDINGS.first + 2 * k) id

  pub bound_frame : Frame (BINDINGS.first + 2 * k) (BINDINGS.first + 2 * (k + 1)) ws (bound ws k id symbol)
  bound_frame =
      frame_then _ _ ws half (bound ws k id symbol)
      (frame_store _ _ (BINDINGS.first + 2 * k) id ws (omega arith) (omega arith))
      (frame_store _ _ (BINDINGS.first + 2 * k + 1) symbol half (omega arith) (omega arith))

  bound_at : BINDINGS.first + 2 * k + 1 < length ws → entry_at (bound ws k id symbol) k ≡ (id, symbol)
  bound_at lt =
      rw (
        get_or-set_other half (BINDINGS.first + 2 * k + 1) (BINDINGS.first + 2 * k) symbol 0 (λ e. omega arith),
        get_or-set_same ws (BINDINGS.first + 2 * k) id 0 (omega arith),
        get_or-set_same half (BINDINGS.first + 2 * k + 1) symbol 0 (simp length-set lt),
      )

  -- the newest entry
  pub env_bound : BINDINGS.first + 2 * k + 1 < length ws
      → env_of (bound ws k id symbol) (k + 1) ≡ (id, symbol) ∷ env_of ws k
  unfolding env_of stack_of
  env_bound lt =
      rw (add-one k, env_words (bound ws k id symbol) ws k (frame_below _ _ _ _ _ _ bound_frame (omega arith)))
      (ap (λ (x : ℕ × ℕ). x ∷ env_of ws k) (bound_at lt))

-- ---- a lambda's arguments: the first is the newest

pub all_frame : (n : ℕ) (bs : Env) (ws : List ℕ)
    → Frame (BINDINGS.first + 2 * n) (BINDINGS.first + 2 * (n + length bs)) ws (bound_all ws n bs)
unfolding bound_all
all_frame n [] ws = frame_none _ _ ws
all_frame n (b ∷ bs) ws =
    let k = n + length bs in
    let us = bound ws k b.0 b.1 in
    frame_then _ _ ws us (bound_all us n bs)
    (frame_wider _ _ _ _ ws us (bound_frame ws k b.0 b.1) (omega arith) (omega arith))
    (frame_wider _ _ _ _ us (bound_all us n bs) (all_frame n bs us) (omega arith) (omega arith))

env_all : (ws : List ℕ) (n : ℕ) (bs : Env) → BINDINGS.first + 2 * (n + length bs) ≤ length ws
    → env_of (bound_all ws n bs) (n + length bs) ≡ bs ++ env_of ws n
unfolding bound_all env_of stack_of
env_all ws n [] le = let e : n + 0 ≡ n = omega arith in rw e
env_all ws n (b ∷ bs) le =
    let k = n + length bs in
    let us = bound ws k b.0 b.1 in
    let e : n + suc (length bs) ≡ suc k = omega arith in
    let f = all_frame n bs us in
    let room : BINDINGS.first + 2 * (n + length bs) ≤ length us = simp length-set (omega arith) in
    let old : env_of us n ≡ env_of ws n =
    env_words us ws n (frame_below _ _ _ _ ws us (bound_frame ws k b.0 b.1) (omega arith)) in
    let new : entry_at (bound_all us n bs) k ≡ b =
    rw (f.after (BINDINGS.first + 2 * k) (omega arith), f.after (BINDINGS.first + 2 * k + 1) (omega arith))
    (bound_at ws k b.0 b.1 (omega arith)) in
    rw e
    (ap (λ (x : ℕ × ℕ). x ∷ env_of (bound_all us n bs) k) new
    ∙ ap (λ (x : Env). b ∷ x) (env_all us n bs room ∙ ap (λ (x : Env). bs ++ x) old))

bind_args_pairs : (xs : List (ℕ × List ℕ)) (ss : List ℕ) (env : Env) → bind_args xs ss env ≡ arg_bindings xs ss ++ env
bind_args_pairs [] ss env = refl
bind_args_pairs (a ∷ xs) [] env = refl
bind_args_pairs (a ∷ xs) (s ∷ ss) env = ap (λ (x : Env). (a.0, s) ∷ x) (bind_args_pairs xs ss env)

pub pairs_length : (xs : List (ℕ × List ℕ)) (ss : List ℕ) → length ss ≡ length xs → length (arg_bindings xs ss) ≡ length xs
pairs_length [] ss e = refl
pairs_length (a ∷ xs) [] e = absurd (omega arith)
pairs_length (a ∷ xs) (s ∷ ss) e = ap suc (pairs_length xs ss (omega arith))

-- the environment of a lambda's body
pub env_args : (ws : List ℕ) (n : ℕ) (xs : List (ℕ × List ℕ)) (ss : List ℕ) → length ss ≡ length xs
    → BINDINGS.first + 2 * (n + length xs) ≤ length ws
    → env_of (bound_all ws n (arg_bindings xs ss)) (n + length xs) ≡ bind_args xs ss (env_of ws n)
env_args ws n xs ss e le =
    let p = pairs_length xs ss e in
    ap (λ (m : ℕ). env_of (bound_all ws n (arg_bindings xs ss)) (n + m)) (sym p)
    ∙ env_all ws n (arg_bindings xs ss) (omega arith)
    ∙ sym (bind_args_pairs xs ss (env_of ws n))
