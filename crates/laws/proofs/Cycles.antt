-- A function of a cycle of calls: what it asks where its measure is t, and where it is below t. Assumes nothing.
use Prim.Native.Nat.{ℕ, ◌<◌}
use mathlib.Core.List.{List}
use borrow.Fn.Kind.{ParamKind}
use borrow.Fn.Kinds.{In}
use borrow.Fn.PlainCycle.{Measures, is, falls, and}

module _ (k : ℕ) (ps : List (ParamKind k)) (μ : Measures k ps ℕ) (pre : In k ps) (t : ℕ) where
  abbrev pub at : In k ps
  at = and k ps (is k ps μ t) pre

  abbrev pub below : In k ps
  below = and k ps (falls k ps ◌<◌ μ t) pre
