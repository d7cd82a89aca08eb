-- The gate by a record's parts. In order: a symbol that is used less than twice; the record of a symbol; the sets of
-- laws that the tests are proved by.
-- Assumes nothing.
use Prim.Native.Nat.{ℕ, ◌<◌}
use mathlib.Core.Path.{◌≡◌, sym, ap, ◌∙◌}
use mathlib.Core.Bool.{false}
use mathlib.Core.List.{List}
use native.Mathlib.Omega.{arith}
use borrow.Author.Tests.{le-ltb}
use Rattle.model.specs.Tree.{Rec}
use Rattle.model.specs.Forest.{record_count}
use Rattle.model.specs.Intern.{Sym, sym_at}
use Rattle.model.specs.Gate.{should_hoist}
use Rattle.key.specs.declared.Parts.{Parts}
use Rattle.key.specs.declared.Symbol.{Symbol}
use Rattle.key.specs.Key.{parts_of, symbol_at}
use Rattle.regions.specs.Regions.{SLOTS}
use Rattle.record.specs.Record.{row_at}
use Rattle.symbols.specs.Symbols.{key_rec, syms_of, Sound}
use Rattle.symbols.proofs.Same.{key_shape, key_opcode, key_plain, key_field}
use Rattle.symbols.proofs.Laws.{rec_at_lem}

pub hoist_few : (y : Sym) (uses : ℕ) → uses < 2 → false ≡ should_hoist y uses
unfolding should_hoist
hoist_few y uses l = rw (le-ltb 1 uses (omega arith))

-- the record of symbol s, by what is loaded
module _ (bs ws : List ℕ) (s : ℕ) (x : Symbol) (p : Parts) (loads : x ≡ symbol_at ws s) (is : p ≡ parts_of x.node)
  where
    pub loaded_from : Sound bs ws SLOTS.size s → p.source < record_count bs
    loaded_from sound = rw (is, loads) sound.from

    module _ (n : ℕ) (lt : s < n) where
      pub loaded_rec : (sym_at (syms_of bs ws n) s).rec ≡ key_rec bs p.source p.field
      loaded_rec = rw (is, loads) (rec_at_lem bs ws n s lt)

      pub loaded_opcode : (o : ℕ) → o ≡ (row_at bs p.source).rec.opcode → (sym_at (syms_of bs ws n) s).rec.opcode ≡ o
      loaded_opcode o e =
          ap (λ (r : Rec). r.opcode) loaded_rec ∙ (key_opcode bs p.source p.field ∙ sym e)

pub ruleset records = (key_shape, key_plain, key_field)

pub ruleset loaded = (loaded_from, loaded_rec, loaded_opcode)
