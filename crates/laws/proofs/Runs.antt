-- What a list holds after a run of stores, `sets l i vs` (lib.Seq): the run itself, what stands before it and after it;
-- a run with one store more.
-- Assumes nothing.
use Prim.Native.Nat.{ℕ, suc, ◌+◌, ◌<◌, ◌≤◌}
use mathlib.Core.Path.{◌≡◌, refl, sym, ap, ◌∙◌}
use mathlib.Core.List.{List, [], ◌∷◌, ◌++◌, append_assoc}
use native.Mathlib.Omega.{arith}
use lib.ListN.{length, get_or, set, take, drop, get_or-append}
use lib.Seq.{sets, sets-eq, length-take-le, get_or-append-add, get_or-set_other}

pub sets_run : (vs l : List ℕ) (i j : ℕ) → j < length vs → i + length vs ≤ length l →
    get_or (sets l i vs) (i + j) 0 ≡ get_or vs j 0
sets_run vs l i j lt h =
    let rest = vs ++ drop (i + length vs) l in
    let long : length (take i l) ≡ i = length-take-le i l (omega arith) in
    ap (λ (x : List ℕ). get_or x (i + j) 0) (sets-eq vs l i h ∙ append_assoc (take i l) vs (drop (i + length vs) l))
    ∙ ap (λ (n : ℕ). get_or (take i l ++ rest) (n + j) 0) (sym long)
    ∙ get_or-append-add (take i l) rest j 0
    ∙ get_or-append vs (drop (i + length vs) l) 0 j lt

pub sets_before : (vs l : List ℕ) (i k : ℕ) → k < i → get_or (sets l i vs) k 0 ≡ get_or l k 0
sets_before [] l i k h = refl
sets_before (a ∷ vs) l i k h =
    sets_before vs (set l i a) (suc i) k (omega arith) ∙ get_or-set_other l i k a 0 (λ e. omega arith)

pub sets_after : (vs l : List ℕ) (i k : ℕ) → i + length vs ≤ k → get_or (sets l i vs) k 0 ≡ get_or l k 0
sets_after [] l i k h = refl
sets_after (a ∷ vs) l i k h =
    sets_after vs (set l i a) (suc i) k (omega arith) ∙ get_or-set_other l i k a 0 (λ e. omega arith)

pub sets_more : (vs l : List ℕ) (i v : ℕ) → sets l i (vs ++ (v ∷ [])) ≡ set (sets l i vs) (i + length vs) v
sets_more [] l i v = let e : i + 0 ≡ i = omega arith in rw e
sets_more (a ∷ vs) l i v =
    let e : i + suc (length vs) ≡ suc i + length vs = omega arith in
    rw e (sets_more vs (set l i a) (suc i) v)
