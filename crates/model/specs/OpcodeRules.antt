-- Condition 5: the opcodes and shapes that go together, as the paper lists them.
-- Assumes nothing.
use Rattle.std.specs.Prelude.{◌≡◌, ◌↔◌, List, ℕ, ◌≤◌, ◌<◌}
use Rattle.model.specs.Forest.{record_count}
use Rattle.model.specs.Places.{record_at}

-- opcode o and shape s of one record
pub record Together (o s : ℕ) : Type 0 where
  -- "Opcode 00 for shapes 0 and 1 and no other"
  pub const : (o ≡ 0) ↔ (s ≤ 1)
  -- "Only together, both ways: 72 ValUse, D6 ValDef, D8 BlockValue, D9 FuncValue, 8C SelectField, 86 Tuple"
  pub val_use : (o ≡ 0x72) ↔ (s ≡ 7)
  pub val_def : (o ≡ 0xD6) ↔ (s ≡ 10)
  pub block_value : (o ≡ 0xD8) ↔ (s ≡ 11)
  pub func_value : (o ≡ 0xD9) ↔ (s ≡ 12)
  pub select_field : (o ≡ 0x8C) ↔ (s ≡ 17)
  pub tuple : (o ≡ 0x86) ↔ (s ≡ 16)
  -- "IF 95 is Three; ED and EC are Two"
  pub if95 : o ≡ 0x95 → s ≡ 5
  pub and_ed : o ≡ 0xED → s ≡ 4
  pub or_ec : o ≡ 0xEC → s ≡ 4
  -- "HEIGHT A3, INPUTS A4, OUTPUTS A5, SELF_BOX A7, GLOBAL DD are Zero"
  pub height_a3 : o ≡ 0xA3 → s ≡ 2
  pub inputs_a4 : o ≡ 0xA4 → s ≡ 2
  pub outputs_a5 : o ≡ 0xA5 → s ≡ 2
  pub self_a7 : o ≡ 0xA7 → s ≡ 2
  pub global_dd : o ≡ 0xDD → s ≡ 2

-- "5, opcode against shape"
abbrev pub OpcodeOffends : List ℕ → ℕ → Type 0
OpcodeOffends forest p =
    (p < record_count forest) × (Together (record_at forest p).rec.opcode (record_at forest p).rec.shape → ⊥)
