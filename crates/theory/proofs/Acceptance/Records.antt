-- What checks 4, 5 and 10 say of one record, by its kind: how many children it has, its opcode, its literal.
--
-- In order: the shape of a kind (`kind_shape`); check 4 in its parts (`fits_at`) and the children it asks for; check
-- 5, where an opcode and a shape go only together, so that definitions and blocks have no thunks (`def_eager`,
-- `block_eager`); a field's record, known but for its number (`field_rec_lem`); a lambda's record, whose opts read back
-- (`lam_rec`); a use (`use_bound`).
-- Interning uses each law at a record of its kind.
-- Assumes nothing.
use mathlib.Core.Path.{◌≡◌, refl, ap, sym, ◌∙◌, subst}
use mathlib.Core.Logic.{inl, inr}
use mathlib.Core.Bool.{Bool, true, false, not, ◌&&◌, beq}
use Rattle.std.specs.Prelude.{Option, None, Some}
use mathlib.Core.List.{List, [], ◌∷◌, map}
use Prim.Native.Nat.{ℕ, suc, ◌≤◌}
use native.Mathlib.Omega.{arith}
use lib.Dec.{eqb, leb}
use lib.ListN.{length, get_or}
use borrow.Author.Tests.{eqb-true, eq-eqb, leb-true, not-false}
use Rattle.model.specs.Lists.{is_in}
use Rattle.model.specs.Tree.{Rec, rec, Trees, node}
use Rattle.model.specs.Shape.{Shape, shapes, fits, agrees, Pairs, shape_of, both_ways, one_way, a_byte, whole}
use Rattle.model.specs.Faults.{faults}
use Rattle.model.specs.Binding.{Kind, kind, val_use, val_def, block, lambda, field, other, id_of, unbound}
use Rattle.model.specs.Intern.{thunked}
use Rattle.laws.specs.Clear.{Clear}
use Rattle.laws.proofs.Apart.{none_some, false_true}
use Rattle.laws.specs.Members.{In}
use Rattle.laws.proofs.Members.{clash, and_both, in_one, is_in_true}
use Rattle.laws.specs.ArgLists.{opts_in, bound_by, AllOpts}
use Rattle.laws.proofs.ArgLists.{args_length, args_opts}
use Rattle.theory.specs.Checked.{FitsWith}

-- ---- kinds and shapes

pub record KindIs (s : ℕ) (k : Kind) : Type 0 where
  pub shape : s ≡ elim k [ val_use ↦ 7 | val_def ↦ 10 | block ↦ 11 | lambda ↦ 12 | field ↦ 17 | other ↦ s ]

abbrev when : Bool → Kind → Kind → Kind
when b k rest = elim b [ true ↦ k | false ↦ rest ]

pub kind_shape : (s : ℕ) (k : Kind) → kind s ≡ k → KindIs s k
unfolding kind
kind_shape s k e =
    subst (KindIs s) e (go (eqb s 7) (eqb s 10) (eqb s 11) (eqb s 12) (eqb s 17) refl refl refl refl refl)
  where
    go : (a b c d f : Bool) → eqb s 7 ≡ a → eqb s 10 ≡ b → eqb s 11 ≡ c → eqb s 12 ≡ d → eqb s 17 ≡ f →
        KindIs s (when a val_use (when b val_def (when c block (when d lambda (when f field other)))))
    go true b c d f p q r t u = record { shape = eqb-true s 7 p }
    go false true c d f p q r t u = record { shape = eqb-true s 10 q }
    go false false true d f p q r t u = record { shape = eqb-true s 11 r }
    go false false false true f p q r t u = record { shape = eqb-true s 12 t }
    go false false false false true p q r t u = record { shape = eqb-true s 17 u }
    go false false false false false p q r t u = record { shape = refl }

-- ---- check 4, in parts

-- a row of the shapes' table, against an aux, a literal and a count of children
pub record FitsIs (s : Shape) (a : ℕ) (bs : List ℕ) (n : ℕ) : Type 0 where
  pub least_is : s.least ≤ n
  pub most_is : n ≤ s.most
  pub aux_is : a ≤ s.aux
  pub right_is : s.right a bs ≡ true

abbrev pub shape_at : ℕ → Shape
shape_at i = get_or shapes i (record { least = 1; most = 0; aux = 0; right = λ a bs. false })

pub fits_at : (r : Rec) (n i : ℕ) → r.shape ≡ i → FitsWith r n → FitsIs (shape_at i) r.aux r.lit n
unfolding fits
fits_at r n i e h = subst (λ (z : ℕ). FitsIs (shape_at z) r.aux r.lit n) e (split (shape_at r.shape) h)
  where
    split : (s : Shape) →
        (leb s.least n && leb n s.most && leb r.aux s.aux && s.right r.aux r.lit) ≡ true →
        FitsIs s r.aux r.lit n
    split s e =
        let p = and_both (leb s.least n && leb n s.most && leb r.aux s.aux) _ e in
        let q = and_both (leb s.least n && leb n s.most) _ p.0 in
        let w = and_both (leb s.least n) (leb n s.most) q.0 in
        record {
          least_is = leb-true _ _ w.0;
          most_is = leb-true _ _ w.1;
          aux_is = leb-true _ _ q.1;
          right_is = p.1;
        }

-- children: none of a constant, one of a definition, a lambda and a field

pub const_child : (r : Rec) (n : ℕ) → r.shape ≡ 0 → FitsWith r n → n ≡ 0
unfolding shapes
const_child r n e h = omega (arith, (fits_at r n 0 e h).most_is)

pub unparsed_child : (r : Rec) (n : ℕ) → r.shape ≡ 1 → FitsWith r n → n ≡ 0
unfolding shapes
unparsed_child r n e h = omega (arith, (fits_at r n 1 e h).most_is)

one_child : (r : Rec) (n i : ℕ) → r.shape ≡ i → FitsWith r n → (shape_at i).least ≡ 1 → (shape_at i).most ≡ 1 → n ≡ 1
one_child r n i e h p q = let w = fits_at r n i e h in omega (arith, w.least_is, w.most_is)

pub def_child : (r : Rec) (n : ℕ) → r.shape ≡ 10 → FitsWith r n → n ≡ 1
unfolding shapes
def_child r n e h = one_child r n 10 e h refl refl

pub lam_child : (r : Rec) (n : ℕ) → r.shape ≡ 12 → FitsWith r n → n ≡ 1
unfolding shapes
lam_child r n e h = one_child r n 12 e h refl refl

pub field_child : (r : Rec) (n : ℕ) → r.shape ≡ 17 → FitsWith r n → n ≡ 1
unfolding shapes
field_child r n e h = one_child r n 17 e h refl refl

-- ---- check 5: where an opcode and a shape go only together

-- the opcodes to which a table gives shape s
opcodes_of : Pairs → ℕ → List ℕ
opcodes_of [] s = []
opcodes_of (p ∷ ps) s = elim (eqb p.1 s) [ true ↦ p.0 ∷ opcodes_of ps s | false ↦ opcodes_of ps s ]

shape_opcode : (ps : Pairs) (o s : ℕ) → shape_of ps o ≡ Some s → In o (opcodes_of ps s)
unfolding shape_of opcodes_of
shape_opcode [] o s e = none_some e
shape_opcode (p ∷ ps) o s e = go (eqb p.0 o) refl (eqb p.1 s) refl (shape_opcode ps o s) e
  where
    go : (a : Bool) → eqb p.0 o ≡ a → (b : Bool) → eqb p.1 s ≡ b →
        (shape_of ps o ≡ Some s → In o (opcodes_of ps s)) →
        elim a [ true ↦ Some p.1 | false ↦ shape_of ps o ] ≡ Some s →
        In o (elim b [ true ↦ p.0 ∷ opcodes_of ps s | false ↦ opcodes_of ps s ])
    go true f true g rest e = inl (sym (eqb-true p.0 o f))
    go true f false g rest e = let d : p.1 ≡ s = cc in absurd (clash (eqb p.1 s) (eq-eqb p.1 s d) g)
    go false f true g rest e = inr (rest e)
    go false f false g rest e = rest e

-- the shapes that stand in the table
abbrev bound : ℕ → Bool
bound s = is_in s (map (λ p. p.1) both_ways)

module _ (r : Rec) where
  -- what the table gives the record's opcode, and the part of check 5 that looks at it
  found : Option ℕ
  found = shape_of both_ways r.opcode

  middle : Option ℕ → Bool
  middle o = elim o [ None ↦ not (bound r.shape) | Some s ↦ eqb s r.shape ]

  agreed : agrees r ≡ true → middle found ≡ true
  unfolding agrees found middle
  agreed h = (and_both first (middle found) (and_both (first && middle found) _ h).0).1
    where
      first : Bool
      first = beq (eqb r.opcode 0) (leb r.shape 1)

  bound_opcode : (s : ℕ) → r.shape ≡ s → bound s ≡ true → agrees r ≡ true → In r.opcode (opcodes_of both_ways s)
  unfolding found middle
  bound_opcode s e i h = go found refl (agreed h)
    where
      go : (o : Option ℕ) → found ≡ o → middle o ≡ true → In r.opcode (opcodes_of both_ways s)
      go None f g = false_true (sym (ap (λ (z : ℕ). not (bound z)) e ∙ ap not i) ∙ g)
      go (Some t) f g = shape_opcode both_ways r.opcode s (f ∙ ap (λ (z : ℕ). Some z) (eqb-true t r.shape g ∙ e))

  -- a shape that the table gives the opcode is the record's
  pub shape_bound : (s : ℕ) → agrees r ≡ true → shape_of both_ways r.opcode ≡ Some s → s ≡ r.shape
  unfolding found middle
  shape_bound s h e = eqb-true s r.shape (rw e at (agreed h))

pub op_field : (r : Rec) → r.shape ≡ 17 → agrees r ≡ true → r.opcode ≡ 0x8C
unfolding both_ways is_in opcodes_of
op_field r e h = in_one (bound_opcode r 17 e refl h)

pub op_lambda : (r : Rec) → r.shape ≡ 12 → agrees r ≡ true → r.opcode ≡ 0xD9
unfolding both_ways is_in opcodes_of
op_lambda r e h = in_one (bound_opcode r 12 e refl h)

-- so neither a definition nor a block has thunks

pub def_eager : (r : Rec) → r.shape ≡ 10 → agrees r ≡ true → (j : ℕ) → thunked r.opcode j ≡ false
unfolding both_ways is_in opcodes_of thunked
def_eager r e h j = rw (in_one (bound_opcode r 10 e refl h)) refl

pub block_eager : (r : Rec) → r.shape ≡ 11 → agrees r ≡ true → (j : ℕ) → thunked r.opcode j ≡ false
unfolding both_ways is_in opcodes_of thunked
block_eager r e h j = rw (in_one (bound_opcode r 11 e refl h)) refl

-- ---- a field: its record is known but for the number

pub field_rec_lem : (r : Rec) (n : ℕ) → r.shape ≡ 17 → FitsWith r n → agrees r ≡ true →
    r ≡ rec 17 0x8C 0 (get_or r.lit 0 0 ∷ [])
unfolding shapes whole a_byte
field_rec_lem r n e h g = go r.lit refl (fits_at r n 17 e h).right_is
  where
    aux_0 : r.aux ≡ 0
    aux_0 = omega (arith, (fits_at r n 17 e h).aux_is)

    path : (l : List ℕ) → r.lit ≡ l → r ≡ rec 17 0x8C 0 l
    path l k = λ i. record { shape = e i; opcode = op_field r e g i; aux = aux_0 i; lit = k i }

    go : (l : List ℕ) → r.lit ≡ l → whole a_byte l ≡ true → r ≡ rec 17 0x8C 0 (get_or r.lit 0 0 ∷ [])
    go [] f w = false_true w
    go (b ∷ []) f w = path (get_or r.lit 0 0 ∷ []) (f ∙ ap (λ (l : List ℕ). get_or l 0 0 ∷ []) (sym f))
    go (b ∷ c ∷ l) f w = absurd (omega (arith, eqb-true (suc (length l)) 0 w))

pub field_fits : (j : ℕ) → FitsWith (rec 17 0x8C 0 (j ∷ [])) 1 × (agrees (rec 17 0x8C 0 (j ∷ [])) ≡ true)
unfolding fits shapes whole a_byte agrees shape_of both_ways one_way is_in
field_fits j = (refl, refl)

-- ---- a lambda: its opts read back

pub record LamRec (r : Rec) : Type 0 where
  pub shape_is : r.shape ≡ 12
  pub opcode_is : r.opcode ≡ 0xD9
  pub aux_is : r.aux ≡ length (bound_by r)
  pub aux_low : r.aux ≤ 15
  pub valid : AllOpts (opts_in (bound_by r))

pub lam_rec : (r : Rec) (n : ℕ) → r.shape ≡ 12 → FitsWith r n → agrees r ≡ true → LamRec r
unfolding shapes
lam_rec r n e h g = record {
  shape_is = e;
  opcode_is = op_lambda r e g;
  aux_is = sym (args_length r.aux r.lit);
  aux_low = (fits_at r n 12 e h).aux_is;
  valid = args_opts r.aux r.lit (fits_at r n 12 e h).right_is;
}

-- ---- a use: check 10 says that its id is in force where it stands

pub use_bound : (r : Rec) (ts : Trees) (ids : List ℕ) → Clear (unbound (node r ts) ids) → r.shape ≡ 7 → In (id_of r) ids
unfolding faults
use_bound r ts ids known e =
    let test = subst (λ (z : Bool). (z && not (is_in (id_of r) ids)) ≡ false) (eq-eqb r.shape 7 e) known.0 in
    is_in_true (id_of r) ids (not-false (is_in (id_of r) ids) test)
