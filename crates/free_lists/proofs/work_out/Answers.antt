-- `free_lists::work_out` meets its contract. Assumes nothing.
use mathlib.Core.Path.{ap, ◌∙◌}
use mathlib.Core.List.{[]}
use native.Mathlib.Omega.{arith}
use Rattle.free_lists.specs.FreeLists.{with_list}
use Rattle.free_lists.proofs.Keeping.{files, worked}
use Rattle.free_lists.proofs.work_out.Goals as goal

pub gather-requires-clause-c_lt_symbols : goal.gather-requires-clause-c_lt_symbols
gather-requires-clause-c_lt_symbols c =
    let p = c.requires in (omega arith, files _ _ _ _ p.arena p.lists p.c_bound)

pub returns : goal.returns
returns c =
    let p = c.requires in
    c.store.ensures
    ∙ ap (with_list _ _) (c.deref.ensures.0 ∙ worked _ _ _ _ p.arena p.lists p.c_bound _ (c.gather.ensures.is []))
