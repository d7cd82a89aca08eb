-- `tables::find` in its loops: what stays. Assumes nothing.
use Prim.Native.Nat.{ℕ, ◌-◌, ◌≤◌}
use mathlib.Core.Path.{◌≡◌}
use Rattle.std.specs.Prelude.{Option}
use mathlib.Core.List.{List}
use Rattle.model.specs.Intern.{lookup_in, lookup}
use Rattle.symbols.specs.Words.{pending_from}
use Rattle.symbols.specs.Symbols.{key_rec, syms_of}
use Rattle.tables.specs.Tables.{entries, tables, tables_of, EntriesBelow}
use Rattle.tables.proofs.find.Given as given

-- what the search finds in a table, and in tables, among n symbols
abbrev pub in_table : List ℕ → List ℕ → ℕ → ℕ → ℕ → ℕ → ℕ → List ℕ → Option ℕ
in_table bs ws i field held count n = lookup_in (syms_of bs ws n) (key_rec bs i field) (pending_from ws held count)

abbrev pub in_tables : List ℕ → List ℕ → ℕ → ℕ → ℕ → ℕ → ℕ → List (List ℕ) → Option ℕ
in_tables bs ws i field held count n = lookup (syms_of bs ws n) (key_rec bs i field) (pending_from ws held count)

abbrev pub invariant-loop-k : given.invariant-loop-k
invariant-loop-k l =
    (n : ℕ) → EntriesBelow l.work l.top n →
    in_table l.forest l.work l.i l.field l.held l.count n (entries l.work l.start (l.end - l.start))
    ≡ in_table l.forest l.work l.i l.field l.held l.count n (entries l.work l.start (l.k - l.start))

abbrev pub invariant-loop-d : given.invariant-loop-d
invariant-loop-d l =
    (l.end ≤ l.top) × ((n : ℕ) → EntriesBelow l.work l.top n →
    in_tables l.forest l.work l.i l.field l.held l.count n (tables_of l.work l.fn.t l.top)
    ≡ in_tables l.forest l.work l.i l.field l.held l.count n (tables l.work l.fn.t l.d l.end))
