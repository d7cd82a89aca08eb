-- Planned rows written one by one. In order: a lambda's row; lengths; what is left of a plan from row i on; the loops that
-- write the directory and the records, their start, a turn, their end; the whole tree from its parts; rows as pieces of
-- the words.
-- Assumes nothing.
use Prim.Native.Nat.{ℕ, zero, suc, ◌+◌, ◌*◌, ◌-◌, ◌<◌, ◌≤◌}
use mathlib.Core.Path.{◌≡◌, refl, sym, ap, ◌∙◌, subst}
use mathlib.Core.List.{List, [], ◌∷◌, ◌++◌}
use native.Mathlib.Omega.{arith}
use lib.ListN.{length, get_or, take, drop, length-append, length-drop}
use lib.Seq.{length-take-le, drop-drop, drop-append_seam}
use Rattle.std.proofs.Math.ListN.{get_or-append}
use Rattle.std.proofs.lemmas.List.{get_or-drop, get_or-take}
use Rattle.model.specs.Bytes.{put16}
use Rattle.model.specs.Opcodes.{FuncValue, FuncValueOp}
use Rattle.model.specs.Tree.{Row, row_bytes, row_len, directory, bodies, forest_of}
use Rattle.model.specs.Binding.{args_of}
use Rattle.model.specs.Materialize.{arg_lit}
use Rattle.laws.specs.Rows.{total}
use Rattle.laws.proofs.ArgLists.{args_length}
use Rattle.laws.proofs.Lengths.{row_length, forest_length}
use Rattle.record.specs.Record.{row_at}
use Rattle.plan.specs.declared.Planned.{Planned}
use Rattle.plan.specs.declared.Planned.TheVariants.{Lambda}
use Rattle.plan.specs.Plan.{planned_at, plan_from, row_for, rows_for, Renumbered, Writable, AllWritable, planned_rows}
use Rattle.output.specs.declared.Output.{Output}
use Rattle.output.specs.Output.{Room, Put}
use Rattle.writer.specs.Writer.{fixed}
use Rattle.output.proofs.Put.{put_none, put_as, put_then}
use Rattle.serialise.specs.Serialise.{planned_bytes}
use Rattle.serialise.proofs.Args.{put32-length, lit_length}

-- ---- a lambda's row: its arguments numbered anew take as many bytes as they took

module _ (bs : List ℕ) (i last : ℕ) where
  pub lambda_length : Renumbered (row_at bs i) last → row_len (row_for bs (Lambda i last)) ≡ row_len (row_at bs i)
  unfolding row_for row_len
  lambda_length h =
      let r = (row_at bs i).rec in
      omega (arith, lit_length r.aux r.lit last h.args)

-- how long an id is, and a lambda's row
pub ruleset lengths = (put32-length, length-append, lambda_length)

module _ (bs : List ℕ) (i last : ℕ) where
  lambda-bytes :
      row_bytes (row_for bs (Lambda i last)) ≡
      fixed FuncValue FuncValueOp 1 (row_at bs i).rec.aux ++ arg_lit last (args_of (row_at bs i).rec.aux (row_at bs i).rec.lit)
  unfolding row_for row_bytes fixed put16
  lambda-bytes = rw args_length

  pub lambda_put : {o o₁ o₂ : Output} {lit : List ℕ} {aux : ℕ} → aux ≡ (row_at bs i).rec.aux → lit ≡ (row_at bs i).rec.lit
      → Put o (fixed FuncValue FuncValueOp 1 aux) o₁ → Put o₁ (arg_lit last (args_of aux lit)) o₂
      → Put o (row_bytes (row_for bs (Lambda i last))) o₂
  lambda_put e f p q = put_as (rw (e, f) (sym lambda-bytes)) (put_then p q)

-- ---- lengths

pub planned_length : (bs ws : List ℕ) (at n : ℕ) → length (planned_rows bs ws at n) ≡ n
unfolding plan_from rows_for
planned_length bs ws at zero = refl
planned_length bs ws at (suc n) = ap suc (planned_length bs ws (at + 3) n)

pub tree_length : (bs ws : List ℕ) (at n : ℕ) → length (planned_bytes bs ws at n) ≡ 4 + 4 * n + total (planned_rows bs ws at n)
tree_length bs ws at n = omega (arith, forest_length 1 (planned_rows bs ws at n), planned_length bs ws at n)

-- ---- what is left of a plan

-- the rows from row i on
abbrev pub left : List ℕ → ℕ → ℕ → ℕ → List Planned
left ws at n i = plan_from ws (at + 3 * i) (n - i)

abbrev pub left_rows : List ℕ → List ℕ → ℕ → ℕ → ℕ → List Row
left_rows bs ws at n i = rows_for bs (left ws at n i)

module _ (bs ws : List ℕ) (at n : ℕ) where
  pub left_all : left ws at n 0 ≡ plan_from ws at n
  left_all = let e : at + 3 * 0 ≡ at = omega arith in let f : n - 0 ≡ n = omega arith in rw (e, f)

  pub rows_all : left_rows bs ws at n 0 ≡ planned_rows bs ws at n
  rows_all = ap (rows_for bs) left_all

  -- from row n on nothing is left
  rows_none : (i : ℕ) → n ≤ i → left_rows bs ws at n i ≡ []
  unfolding plan_from rows_for
  rows_none i h = let e : n - i ≡ 0 = omega arith in rw e

  pub total_none : (i : ℕ) → n ≤ i → total (left_rows bs ws at n i) ≡ 0
  total_none i h = ap total (rows_none i h)

-- p stands before what is left after it: both can be written, and their lengths add up
pub record Next (bs ws : List ℕ) (at n i : ℕ) (p : Planned) : Type 0 where
  pub here : Writable bs p
  pub after : AllWritable bs (left ws at n (i + 1))
  pub adds : total (left_rows bs ws at n i) ≡ row_len (row_for bs p) + total (left_rows bs ws at n (i + 1))

-- p is row i of n
module _ (bs ws : List ℕ) (at n i : ℕ) (p : Planned) (h : i < n) (e : p ≡ planned_at ws (at + 3 * i)) where
  left_next : left ws at n i ≡ p ∷ left ws at n (i + 1)
  unfolding plan_from
  left_next =
      let f : n - i ≡ suc (n - (i + 1)) = omega arith in
      let g : at + 3 * (i + 1) ≡ at + 3 * i + 3 = omega arith in
      rw (f, g, e)

  rows_next : left_rows bs ws at n i ≡ row_for bs p ∷ left_rows bs ws at n (i + 1)
  unfolding rows_for
  rows_next = ap (rows_for bs) left_next

  pub next_row : AllWritable bs (left ws at n i) → Next bs ws at n i p
  next_row w =
      let s = subst (AllWritable bs) left_next w in
      record { here = s.0; after = s.1; adds = ap total rows_next }

-- ---- the records

-- the rows from row i on are left; once their records are put, so are all
pub record Bodies (bs ws : List ℕ) (at n : ℕ) (o₀ o : Output) (i : ℕ) : Type 0 where
  pub writable : AllWritable bs (left ws at n i)
  pub room : Room o (total (left_rows bs ws at n i))
  pub rest : (o' : Output) → Put o (bodies (left_rows bs ws at n i)) o' → Put o₀ (bodies (planned_rows bs ws at n)) o'

module _ (bs ws : List ℕ) (at n : ℕ) (o₀ : Output) where
  pub bodies_start : AllWritable bs (plan_from ws at n) → Room o₀ (total (planned_rows bs ws at n)) →
      Bodies bs ws at n o₀ o₀ 0
  bodies_start w room = record {
    writable = subst (AllWritable bs) (sym (left_all bs ws at n)) w;
    room = omega (arith, ap total (rows_all bs ws at n));
    rest = λ o' p. put_as (ap bodies (rows_all bs ws at n)) p;
  }

  module _ (o : Output) (i : ℕ) (b : Bodies bs ws at n o₀ o i) where
    module _ (p : Planned) (h : i < n) (e : p ≡ planned_at ws (at + 3 * i)) where
      pub body_room : Room o (row_len (row_for bs p))
      body_room = omega (arith, b.room, (next_row bs ws at n i p h e b.writable).adds)

      pub bodies_turn : {o₁ : Output} → Put o (row_bytes (row_for bs p)) o₁ → Bodies bs ws at n o₀ o₁ (i + 1)
      unfolding bodies
      bodies_turn put =
          let x = next_row bs ws at n i p h e b.writable in
          record {
            writable = x.after;
            room = omega (arith, b.room, x.adds, put.ends, put.len, row_length (row_for bs p));
            rest = λ o' q. b.rest o' (put_as (sym (ap bodies (rows_next bs ws at n i p h e))) (put_then put q));
          }

    pub bodies_end : n ≤ i → Put o₀ (bodies (planned_rows bs ws at n)) o
    unfolding bodies
    bodies_end h =
        b.rest o (put_as (sym (ap bodies (rows_none bs ws at n i h))) (put_none o))

-- ---- the directory

-- the rows from row i on are left, whose records begin at `offset`; once their pairs are put, so are all
pub record Pairs (bs ws : List ℕ) (at n : ℕ) (o₀ o : Output) (i offset : ℕ) : Type 0 where
  pub writable : AllWritable bs (left ws at n i)
  pub room : Room o (4 * (n - i))
  pub sum : offset + total (left_rows bs ws at n i) ≡ 4 + 4 * n + total (planned_rows bs ws at n)
  pub rest : (o' : Output) → Put o (directory offset (left_rows bs ws at n i)) o' →
      Put o₀ (directory (4 + 4 * n) (planned_rows bs ws at n)) o'

module _ (bs ws : List ℕ) (at n : ℕ) (o₀ : Output) where
  pub pairs_start : AllWritable bs (plan_from ws at n) → Room o₀ (4 * n) → Pairs bs ws at n o₀ o₀ 0 (4 + 4 * n)
  pairs_start w room = record {
    writable = subst (AllWritable bs) (sym (left_all bs ws at n)) w;
    room = omega arith;
    sum = omega (arith, ap total (rows_all bs ws at n));
    rest = λ o' p. put_as (ap (directory (4 + 4 * n)) (rows_all bs ws at n)) p;
  }

  module _ (o : Output) (i offset : ℕ) (d : Pairs bs ws at n o₀ o i offset) where
    module _ (p : Planned) (h : i < n) (e : p ≡ planned_at ws (at + 3 * i)) where
      pub pairs_turn : {o₁ o₂ : Output} (size : ℕ) → size ≡ row_len (row_for bs p) → Put o (put16 offset) o₁ →
          Put o₁ (put16 size) o₂ → Pairs bs ws at n o₀ o₂ (i + 1) (offset + size)
      unfolding directory put16
      pairs_turn size is first second =
          let x = next_row bs ws at n i p h e d.writable in
          let after = left_rows bs ws at n (i + 1) in
          let whole = ap (directory offset) (rows_next bs ws at n i p h e) in
          record {
            writable = x.after;
            room = omega (arith, d.room, first.ends, first.len, second.ends, second.len);
            sum = omega (arith, d.sum, x.adds);
            rest = λ o' q. d.rest o' (put_as
                (ap (λ (k : ℕ). put16 offset ++ put16 k ++ directory (offset + k) after) is ∙ sym whole)
                (put_then (put_then first second) q));
          }

    pub pairs_end : n ≤ i → Put o₀ (directory (4 + 4 * n) (planned_rows bs ws at n)) o
    unfolding directory
    pairs_end h =
        d.rest o (put_as (sym (ap (directory offset) (rows_none bs ws at n i h))) (put_none o))

-- ---- the whole tree

module _ (bs ws : List ℕ) (at n : ℕ) where
  pub tree_parts : {o o₁ o₂ o₃ o₄ : Output} → Put o (put16 1) o₁ → Put o₁ (put16 n) o₂
      → Put o₂ (directory (4 + 4 * n) (planned_rows bs ws at n)) o₃ → Put o₃ (bodies (planned_rows bs ws at n)) o₄
      → Put o (planned_bytes bs ws at n) o₄
  unfolding forest_of
  tree_parts p₁ p₂ p₃ p₄ =
      let rs = planned_rows bs ws at n in
      put_as
      (ap (λ (m : ℕ). put16 1 ++ put16 m ++ directory (4 + 4 * m) rs ++ bodies rs) (sym (planned_length bs ws at n)))
      (put_then (put_then (put_then p₁ p₂) p₃) p₄)

-- ---- rows as pieces of the words

-- the words of the rows
abbrev pieces : List ℕ → ℕ → ℕ → List ℕ
pieces ws at n = take (3 * n) (drop at ws)

-- what is left of them from row i on, to be read in threes
pub record Reads (ws : List ℕ) (at n i : ℕ) (rest : List ℕ) (size : ℕ) : Type 0 where
  pub from : rest ≡ drop (3 * i) (pieces ws at n)
  pub three : size ≡ 3

-- the words of row i, and what is left after them
pub record Piece (ws : List ℕ) (at n i : ℕ) (row rest : List ℕ) (size : ℕ) : Type 0 where
  pub within : i < n
  pub is : planned_at row 0 ≡ planned_at ws (at + 3 * i)
  pub left : Reads ws at n (i + 1) rest size

module _ (ws : List ℕ) (at n : ℕ) (room : at + 3 * n ≤ length ws) where
  pieces_long : length (pieces ws at n) ≡ 3 * n
  pieces_long = omega (arith, length-take-le (3 * n) (drop at ws) (omega (arith, length-drop at ws)))

  pub reads_start : {rest : List ℕ} {size : ℕ} → rest ≡ take (at + 3 * n - at) (drop at ws) → size ≡ 3 →
      Reads ws at n 0 rest size
  reads_start e f =
      let m : at + 3 * n - at ≡ 3 * n = omega arith in
      record { from = e ∙ ap (λ (k : ℕ). take k (drop at ws)) m; three = f }

  module _ {i size : ℕ} {now : List ℕ} (r : Reads ws at n i now size) where
    pub reads_end : length now < size → n ≤ i
    reads_end l = omega (arith, ap length r.from, length-drop (3 * i) (pieces ws at n), pieces_long, l, r.three)

    module _ (row rest : List ℕ) (e : now ≡ row ++ rest) (l : length row ≡ size) where
      in_row : i < n
      in_row =
          let d = length-drop (3 * i) (pieces ws at n) in
          omega (arith, ap length r.from, ap length e, length-append row rest, d, pieces_long, l, r.three)

      item : (j : ℕ) → j < 3 → get_or row j 0 ≡ get_or ws (at + 3 * i + j) 0
      item j less =
          let f : at + (3 * i + j) ≡ at + 3 * i + j = omega arith in
          sym (get_or-append row rest 0 j (omega (arith, l, r.three)))
          ∙ (ap (λ (x : List ℕ). get_or x j 0) (sym e ∙ r.from)
          ∙ (get_or-drop (3 * i) (pieces ws at n) j 0
          ∙ (get_or-take (3 * n) (drop at ws) (3 * i + j) 0 (omega (arith, in_row))
          ∙ (get_or-drop at ws (3 * i + j) 0 ∙ ap (λ (k : ℕ). get_or ws k 0) f))))

      pub piece : {size' : ℕ} → size' ≡ size → Piece ws at n i row rest size'
      unfolding planned_at
      piece g =
          let f : 3 * (i + 1) ≡ 3 * i + length row = omega (arith, l, r.three) in
          let z : at + 3 * i + 0 ≡ at + 3 * i = omega arith in
          record {
            within = in_row;
            is = rw (item 0 (omega arith), item 1 (omega arith), item 2 (omega arith), z);
            left = record {
              from =
                  sym (ap (λ (k : ℕ). drop k (pieces ws at n)) f ∙ sym (drop-drop (length row) (3 * i) (pieces ws at n))
                  ∙ ap (drop (length row)) (sym r.from ∙ e) ∙ drop-append_seam row rest);
              three = g ∙ r.three;
            };
          }

-- one row more was read
pub one_more : {A : Type 0} (xs : List A) (x : A) → length (xs ++ x ∷ []) ≡ length xs + 1
one_more xs x = length-append xs (x ∷ [])
