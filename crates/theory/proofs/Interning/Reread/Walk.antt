-- Trees read again: where no scope was added, the same symbols come of them in every later state, for the same number
-- of readings (`intern_rereads`, `intern_all_rereads`).
-- In order: a record that counts as a reading; an operand and those after it; trees, by induction.
-- Assumes nothing.
use mathlib.Core.Path.{◌≡◌, refl, ap, ◌∙◌}
use mathlib.Core.Bool.{Bool, true, false}
use Rattle.std.specs.Prelude.{None}
use mathlib.Core.List.{List, [], ◌∷◌}
use Prim.Native.Nat.{ℕ, suc, ◌+◌, ◌<◌}
use native.Mathlib.Omega.{arith}
use lib.Dec.{ltb}
use lib.ListN.{length}
use borrow.Author.Tests.{lt-ltb}
use Rattle.model.specs.Lists.{last}
use Rattle.model.specs.Answer.{good, ◌>>=◌, guard}
use Rattle.model.specs.Tree.{Tree, Trees, node, nil, cons, size}
use Rattle.model.specs.Binding.{kind}
use Rattle.model.specs.Intern.{State, Out, Outs, Env, Kids, bind_def, open_thunk, thunked, intern_scoped}
use Rattle.model.specs.Intern.{branch, read, intern_kind, intern, intern_all}
use Rattle.laws.proofs.Holds.{Holds, holds_bind, holds_guard, holds_map}
use Rattle.theory.specs.Good.{sym_count, scope_count}
use Rattle.theory.proofs.Bounds.Steps.{open_more}
use Rattle.theory.proofs.Interning.Reread.Later.{with_readings, tabled_with, Low, later_none}
use Rattle.theory.proofs.Interning.Reread.Later.{later_with, calm_still, calm_then, calm_map}
use Rattle.theory.proofs.Interning.Reread.Kinds.{EnvFits, fits_more, fits_def, CalmOne, Rereads}
use Rattle.theory.proofs.Interning.Reread.Kinds.{RereadsAll, kind_rereads}

-- ---- a reading

module _ (P : Type 0) (at : ℕ) (f : State → Out) (s : State) where
  -- f on the state with one more reading
  abbrev counting : State → Out
  counting v = guard (ltb v.readings 2048) 11 at (f (read v))

  read_calm : (o : ℕ × State) → CalmOne f (read s) o → CalmOne counting s o
  unfolding guard
  read_calm o c = record {
    calm = record {
      count = suc c.calm.count;
      counted = omega (arith, c.calm.counted);
      tabled = c.calm.tabled;
      later = later_with (read s) o.1 s.readings o.1.readings c.calm.later;
      again = λ u l b.
          let n : ℕ = c.calm.count in
          let z : suc u.readings + n ≡ u.readings + suc n = omega arith in
          ap (λ (t : Bool). guard t 11 at (f (read u))) (lt-ltb u.readings 2048 (omega arith))
          ∙ c.calm.again (read u) (later_with o.1 u o.1.readings (suc u.readings) l) (omega arith)
          ∙ ap (λ (n : ℕ). good (o.0, with_readings u n)) z;
    };
    low = c.low;
  }

  read_rereads : Holds (Rereads P f (read s)) (f (read s)) → Holds (Rereads P counting s) (counting s)
  read_rereads h =
      holds_guard (Rereads P counting s) (ltb s.readings 2048) 11 at (f (read s)) λ e.
      holds_map (Rereads P f (read s)) (Rereads P counting s) (f (read s)) h λ o w.
      record {
        rises = w.rises;
        calm = λ p t e. read_calm o (w.calm p (tabled_with s (suc s.readings) t) e);
      }

-- ---- operands

last_low : (n x : ℕ) (xs : List ℕ) → Low n x → Low n (last xs) → Low n (last (x ∷ xs))
unfolding last
last_low n x [] l h = l
last_low n x (y ∷ xs) l h = h

-- an operand, in its own thunk or not, and those after it
abbrev then_rest : Bool → ℕ → (ℕ → State → Out) → (ℕ → State → Outs) → State → Outs
then_rest b cur child rest s = do
  o ← intern_scoped b cur child s
  os ← rest o.0 o.1
  good (o.0 ∷ os.0, branch b (length s.scopes) os.1, os.2)

module _ (t : Tree) (env : Env) (cur : ℕ) (child : ℕ → State → Out) (rest : ℕ → State → Outs) (s : State)
    (first : (c : ℕ) (v : State) → Holds (Rereads (EnvFits env (sym_count v)) (λ v. child c v) v) (child c v))
    (others : (x : ℕ) (v : State) →
    Holds (RereadsAll (EnvFits (bind_def t x env) (sym_count v)) (λ v. rest x v) v) (rest x v)) where
  abbrev Bound : Type 0
  Bound = EnvFits env (sym_count s)

  -- a thunk adds a scope
  thunk_rereads : Holds (RereadsAll Bound (then_rest true cur child rest) s) (then_rest true cur child rest s)
  unfolding intern_scoped
  thunk_rereads =
      let inner : State = open_thunk cur s in
      holds_bind (λ (o : ℕ × State). scope_count s < scope_count o.1)
      (RereadsAll Bound (then_rest true cur child rest) s) _ _
      (holds_bind (Rereads (EnvFits env (sym_count inner)) (λ v. child (scope_count s) v) inner)
      (λ (o : ℕ × State). scope_count s < scope_count o.1) _ _
      (first (scope_count s) inner) λ o w. omega (arith, open_more cur None ([] ∷ s.tables) s, w.rises)) λ o l.
      holds_bind (RereadsAll (EnvFits (bind_def t o.0 env) (sym_count o.1)) (λ v. rest o.0 v) o.1)
      (RereadsAll Bound (then_rest true cur child rest) s) _ _ (others o.0 o.1) λ os w.
      record { rises = omega (arith, w.rises); calm = λ p h e. absurd (omega (arith, w.rises)) }

  plain_rereads : Holds (RereadsAll Bound (then_rest false cur child rest) s) (then_rest false cur child rest s)
  unfolding intern_scoped
  plain_rereads =
      holds_bind (Rereads Bound (λ v. child cur v) s) (RereadsAll Bound (then_rest false cur child rest) s) _ _
      (first cur s) λ o w.
      holds_bind (RereadsAll (EnvFits (bind_def t o.0 env) (sym_count o.1)) (λ v. rest o.0 v) o.1)
      (RereadsAll Bound (then_rest false cur child rest) s) _ _ (others o.0 o.1) λ os v.
      record {
        rises = omega (arith, w.rises, v.rises);
        calm = λ p h e.
            let c = w.calm p h (omega (arith, w.rises, v.rises)) in
            let env-fits = fits_def t o.0 env (sym_count o.1) c.low
            (fits_more env (sym_count s) (sym_count o.1) c.calm.later.more p) in
            let d = v.calm env-fits c.calm.tabled (omega (arith, w.rises, v.rises)) in
            record {
              calm = calm_then
                  (λ (o : ℕ × State). rest o.0 o.1 >>= λ os. good (o.0 ∷ os.0, os.1, os.2)) c.calm
                  (calm_map (λ (os : List ℕ × List ℕ × State). (o.0 ∷ os.0, os.1, os.2)) d.calm);
              low = last_low (sym_count os.2) o.0 os.0 (omega (arith, c.low, d.calm.later.more)) d.low;
              no_thunks = d.no_thunks;
            };
      }

  operand_rereads : (b : Bool) → Holds (RereadsAll Bound (then_rest b cur child rest) s) (then_rest b cur child rest s)
  operand_rereads true = thunk_rereads
  operand_rereads false = plain_rereads

-- ---- trees

mutual
  unfolding intern last

  intern_rereads : (t : Tree) (at cur : ℕ) (env : Env) (s : State) →
      Holds (Rereads (EnvFits env (sym_count s)) (λ v. intern t at cur env v) s) (intern t at cur env s)
  intern_rereads (node r ts) at cur env s =
      let kids : Kids = λ c e v. intern_all ts r.opcode 0 (suc at) c e v in
      read_rereads (EnvFits env (sym_count s)) at (λ v. intern_kind (kind r.shape) at cur r env kids v) s
      (kind_rereads at cur r env kids (λ c e v. intern_all_rereads ts r.opcode 0 (suc at) c e v) (kind r.shape)
      refl (read s))

  pub intern_all_rereads : (ts : Trees) (op j at cur : ℕ) (env : Env) (s : State) →
      Holds (RereadsAll (EnvFits env (sym_count s)) (λ v. intern_all ts op j at cur env v) s)
      (intern_all ts op j at cur env s)
  intern_all_rereads nil op j at cur env s = record {
    rises = omega arith;
    calm = λ p t e. record {
      calm = calm_still refl t (later_none s) (λ u l. refl);
      low = omega arith;
      no_thunks = refl;
    };
  }
  intern_all_rereads (cons t ts) op j at cur env s =
      operand_rereads t env cur (λ c v. intern t at c env v)
      (λ x v. intern_all ts op (suc j) (at + size t) cur (bind_def t x env) v) s
      (λ c v. intern_rereads t at c env v)
      (λ x v. intern_all_rereads ts op (suc j) (at + size t) cur (bind_def t x env) v) (thunked op j)
