-- What model's `finish` leaves of a state. In order: what is kept; a new symbol; the symbol of a key.
-- Assumes nothing.
use Prim.Native.Nat.{ℕ, ◌+◌, ◌<◌, ◌≤◌}
use mathlib.Core.Path.{◌≡◌, refl}
use mathlib.Core.Bool.{Bool, true}
use Rattle.std.specs.Prelude.{Option, None, Some}
use mathlib.Core.List.{List, [], ◌∷◌}
use native.Mathlib.Omega.{arith}
use lib.Dec.{ltb}
use lib.ListN.{length, get_or-append}
use Rattle.model.specs.Answer.{good}
use Rattle.model.specs.Lists.{without}
use Rattle.model.specs.Tree.{Rec}
use Rattle.model.specs.Intern.{Node, Sym, no_sym, sym_at, placement, push, alloc, lookup, union_deps, finish}
use Rattle.model.specs.Intern as intern
use Rattle.laws.specs.Slots.{slots_in}
use Rattle.laws.proofs.Slots.{slots_more}
use Rattle.laws.proofs.Holds.{Holds, holds_guard}

-- ---- what is kept of state s, with at most n slots more

pub record Keeps (s : intern.State) (n : ℕ) (o : ℕ × intern.State) : Type 0 where
  pub syms : (i : ℕ) → i < length s.syms → sym_at o.1.syms i ≡ sym_at s.syms i
  pub slots : slots_in o.1.syms ≤ slots_in s.syms + n
  pub scopes : o.1.scopes ≡ s.scopes
  pub memo : o.1.memo ≡ s.memo

-- ---- a new symbol

push_keeps : (cur : ℕ) (r : Rec) (ks deps : List ℕ) (b : Bool) (nd : Node) (s : intern.State) →
    Keeps s (length ks) (length s.syms, push cur r ks deps b nd s)
unfolding push
push_keeps cur r ks deps b nd s =
    let y : Sym = record { rec = r; kids = ks; deps = deps; scope = placement s cur deps; node = nd } in
    record {
      syms = λ i l. get_or-append s.syms (y ∷ []) no_sym i l;
      slots = omega (arith, slots_more s.syms y);
      scopes = refl;
      memo = refl;
    }

alloc_keeps : (at cur : ℕ) (r : Rec) (ks deps : List ℕ) (b : Bool) (nd : Node) (s : intern.State) →
    Holds (Keeps s (length ks)) (alloc at cur r ks deps b nd s)
unfolding alloc
alloc_keeps at cur r ks deps b nd s =
    holds_guard (Keeps s (length ks)) (ltb (length s.syms) 512) 12 at _ λ e. push_keeps cur r ks deps b nd s

-- ---- the symbol of a key

pub finish_keeps : (at cur : ℕ) (r : Rec) (ks own : List ℕ) (nd : Node) (s : intern.State) →
    Holds (Keeps s (length ks)) (finish at cur r ks own nd s)
unfolding finish
finish_keeps at cur r ks own nd s = go (lookup s.syms r ks s.tables)
  where
    deps : List ℕ
    deps = without (union_deps s.syms ks) own

    same : (i : ℕ) → Keeps s (length ks) (i, s)
    same i = record { syms = λ k l. refl; slots = omega arith; scopes = refl; memo = refl }

    go : (o : Option ℕ) →
        Holds {A = ℕ × intern.State} (Keeps s (length ks))
        (elim o [ Some i ↦ good (i, s) | None ↦ alloc at cur r ks deps true nd s ])
    go (Some i) = same i
    go None = alloc_keeps at cur r ks deps true nd s
