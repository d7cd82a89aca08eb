-- A row of the list, from what two reads gave. In order: the forest of a row; the number in front of it; a row that is
-- not there; one that is.
-- Assumes nothing.
use Rattle.std.proofs.Common.{◌≡◌, ℕ, ◌+◌, ◌-◌, ◌*◌, ◌<◌, ◌≤◌, Bool, true, false, List, [], ◌++◌, length, take, drop, get_or, Option, Some, None, IfSome, refl, sym, ap, subst, ◌∙◌, arith, zero, suc, append_assoc, append-nil, length-append}
use borrow.Author.Tests.{le-leb, lt-leb}
use mathlib.Core.Bool.{true≢false}
use Rattle.std.specs.Io.KnownBytes.{Appends, Consumes}
use Rattle.std.proofs.KnownBytes.{Appends-nil, Appends-trans}
use Rattle.std.proofs.lemmas.Option.{IfSome_then}
use Rattle.std.proofs.lemmas.List.{get_or_append_left, length-take, take_all}
use Rattle.std.proofs.Math.Seq.{take-append_seam, drop-append_seam, drop-append-add}
use Rattle.model.specs.Bytes.{u32}
use Rattle.replay_check.specs.Line.{line, forest_of, Answered, lines}

-- ---- the forest of a row

module _ (room : ℕ) (bs : List ℕ) where
  forest_short : length bs < 4 → forest_of room bs ≡ None
  unfolding forest_of
  forest_short l = rw (forest_of, lt-leb 4 (length bs) l)

  module _ (long : 4 ≤ length bs) where
    forest_large : room < u32 bs → forest_of room bs ≡ None
    unfolding forest_of
    forest_large l = rw (forest_of, le-leb 4 (length bs) long, lt-leb (u32 bs) room l)

    module _ (small : u32 bs ≤ room) where
      forest_cut : length bs < 4 + u32 bs → forest_of room bs ≡ None
      unfolding forest_of
      forest_cut l = rw (forest_of, le-leb 4 (length bs) long, le-leb (u32 bs) room small, lt-leb (4 + u32 bs) (length bs) l)

      forest_whole : 4 + u32 bs ≤ length bs → forest_of room bs ≡ Some (take (u32 bs) (drop 4 bs))
      unfolding forest_of
      forest_whole l = rw (forest_of, le-leb 4 (length bs) long, le-leb (u32 bs) room small, le-leb (4 + u32 bs) (length bs) l)

-- ---- the number in front of it

-- what four bytes say
abbrev pub number : List ℕ → ℕ
number head = get_or head 0 0 + get_or head 1 0 * 256 + get_or head 2 0 * 65536 + get_or head 3 0 * 16777216

number_first : (head rest : List ℕ) → length head ≡ 4 → number head ≡ u32 (head ++ rest)
unfolding u32
number_first head rest e =
    rw (
      get_or_append_left head rest 0 0 (omega arith),
      get_or_append_left head rest 0 1 (omega arith),
      get_or_append_left head rest 0 2 (omega arith),
      get_or_append_left head rest 0 3 (omega arith),
    ) (omega arith)

-- ---- a row that is not there

none : (room : ℕ) (bs : List ℕ) (left held : Option (List ℕ)) → forest_of room bs ≡ None →
    Answered (forest_of room bs) bs false left held held
none room bs left held e =
    subst (λ (o : Option (List ℕ)). Answered o bs false left held held) (sym e) (refl, Appends-nil held)

-- the list ends before the number does
pub row_short : (room : ℕ) (known left held : Option (List ℕ)) (head : List ℕ) (k : ℕ) → length head ≡ 4 →
    k ≤ length head → IfSome known (λ bs. take k head ≡ take (length head) bs) → k < 4 →
    IfSome known (λ bs. Answered (forest_of room bs) bs false left held held)
row_short room None left held head k four few read l = tt
row_short room (Some bs) left held head k four few read l =
    none room bs left held
    (forest_short room bs (omega (arith, ap length read, length-take k head, length-take (length head) bs)))

-- what four bytes read leave of the list
split : (bs head more : List ℕ) (k : ℕ) → bs ≡ take k head ++ more → length head ≡ 4 → 4 ≤ k → bs ≡ head ++ more
split bs head more k e four l = e ∙ ap (λ (z : List ℕ). z ++ more) (take_all k head (omega arith))

-- the number is over the forest's room
pub row_large : (room : ℕ) (known between left held : Option (List ℕ)) (head : List ℕ) (k n : ℕ) → length head ≡ 4 →
    4 ≤ k → Consumes known between (take k head) → n ≡ number head → room < n →
    IfSome known (λ bs. Answered (forest_of room bs) bs false left held held)
row_large room None between left held head k n four l rest is over = tt
row_large room (Some bs) None left held head k n four l rest is over = absurd rest
row_large room (Some bs) (Some more) left held head k n four l rest is over =
    let e = split bs head more k rest four l in
    none room bs left held
    (rw e
    (forest_large room (head ++ more) (omega (arith, length-append head more))
    (omega (arith, number_first head more four))))

-- the list ends before the forest does
pub row_cut : (room : ℕ) (known between left held : Option (List ℕ)) (head part : List ℕ) (k m n : ℕ) →
    length head ≡ 4 → 4 ≤ k → Consumes known between (take k head) → n ≡ number head → n ≤ room → length part ≡ n →
    m ≤ length part → IfSome between (λ bs. take m part ≡ take (length part) bs) → m < n →
    IfSome known (λ bs. Answered (forest_of room bs) bs false left held held)
row_cut room None between left held head part k m n four l rest is fits long few read under = tt
row_cut room (Some bs) None left held head part k m n four l rest is fits long few read under = absurd rest
row_cut room (Some bs) (Some more) left held head part k m n four l rest is fits long few read under =
    let e = split bs head more k rest four l in
    let same = number_first head more four in
    let all = length-append head more in
    none room bs left held
    (rw e
    (forest_cut room (head ++ more) (omega (arith, all)) (omega (arith, same))
    (omega (arith, same, all, ap length read, length-take m part, length-take (length part) more))))

-- ---- a row that is there

pub row_whole : (room : ℕ) (known between left old new : Option (List ℕ)) (head part : List ℕ) (k m n : ℕ) →
    length head ≡ 4 → 4 ≤ k → Consumes known between (take k head) → n ≡ number head → n ≤ room → length part ≡ n →
    n ≤ m → Consumes between left (take m part) → Appends old new (line part) →
    IfSome known (λ bs. Answered (forest_of room bs) bs true left old new)
row_whole room None between left old new head part k m n four l rest is fits long all rest' wrote = tt
row_whole room (Some bs) None left old new head part k m n four l rest is fits long all rest' wrote = absurd rest
row_whole room (Some bs) (Some more) None old new head part k m n four l rest is fits long all rest' wrote = absurd rest'
row_whole room (Some bs) (Some more) (Some after) old new head part k m n four l rest is fits long all rest' wrote =
    rw (split bs head more k rest four l, rest', take_all m part (omega arith)) answered
  where
    bytes : List ℕ
    bytes = head ++ (part ++ after)

    same : u32 bytes ≡ n
    same = sym (is ∙ number_first head (part ++ after) four)

    behind : drop 4 bytes ≡ part ++ after
    behind = rw (← four) (drop-append_seam head (part ++ after))

    sizes : length bytes ≡ 4 + (n + length after)
    sizes = omega (arith, length-append head (part ++ after), length-append part after)

    forest : forest_of room bytes ≡ Some part
    forest =
        forest_whole room bytes (omega (arith, sizes)) (omega (arith, same)) (omega (arith, same, sizes))
        ∙ ap Some (rw (behind, same, ← long) (take-append_seam part after))

    rests : Some after ≡ Some (drop (4 + length part) bytes)
    rests =
        ap Some (sym (rw (← four) (drop-append-add head (part ++ after) (length part) ∙ drop-append_seam part after)))

    answered : Answered (forest_of room bytes) bytes true (Some after) old new
    answered =
        subst (λ (o : Option (List ℕ)). Answered o bytes true (Some after) old new) (sym forest) (refl, rests, wrote)

-- ---- rows one after the other

-- of a list of at most n rows k were answered: what is left of it, and what was printed
pub record Going (room n k : ℕ) (bs : List ℕ) (left old new : Option (List ℕ)) : Type 0 where
  pub rest : List ℕ
  pub printed : List ℕ
  pub reads : left ≡ Some rest
  pub writes : Appends old new printed
  pub whole : printed ++ lines room (n - k) rest ≡ lines room n bs

pub going_start : (room n : ℕ) (known held : Option (List ℕ)) →
    IfSome known (λ bs. Going room n 0 bs known held held)
going_start room n None held = tt
going_start room n (Some bs) held =
    let e : n - 0 ≡ n = omega arith in
    record { rest = bs; printed = []; reads = refl; writes = Appends-nil held; whole = ap (λ (m : ℕ). lines room m bs) e }

-- the lines of a list that begins with a row, and of one that does not
lines-row : (room m : ℕ) (bs f : List ℕ) → forest_of room bs ≡ Some f →
    lines room (suc m) bs ≡ line f ++ lines room m (drop (4 + length f) bs)
unfolding lines
lines-row room m bs f e = rw (lines, e)

lines-none : (room m : ℕ) (bs : List ℕ) → forest_of room bs ≡ None → lines room m bs ≡ []
unfolding lines
lines-none room zero bs e = refl
lines-none room (suc m) bs e = rw (lines, e)

-- the answer for the row that is next
next : (room : ℕ) (more : Bool) (between left mid new : Option (List ℕ)) (rest : List ℕ) → between ≡ Some rest →
    IfSome between (λ bs. Answered (forest_of room bs) bs more left mid new) →
    Answered (forest_of room rest) rest more left mid new
next room more between left mid new rest e a =
    subst (λ (o : Option (List ℕ)). IfSome o (λ bs. Answered (forest_of room bs) bs more left mid new)) e a

module _ (room n k : ℕ) (known between left old mid new : Option (List ℕ)) where
  turn : (bs : List ℕ) → k < n → (h : Going room n k bs between old mid) (o : Option (List ℕ)) →
      forest_of room h.rest ≡ o → Answered o h.rest true left mid new → Going room n (k + 1) bs left old new
  turn bs l h None e a = absurd (true≢false a.0)
  turn bs l h (Some f) e a = record {
    rest = drop (4 + length f) h.rest;
    printed = h.printed ++ line f;
    reads = a.1;
    writes = Appends-trans old mid new h.printed (line f) h.writes a.2;
    whole =
        let m : n - k ≡ suc (n - (k + 1)) = omega arith in
        rw append_assoc
        (ap (λ (z : List ℕ). h.printed ++ z) (sym (lines-row room (n - (k + 1)) h.rest f e))
        ∙ ap (λ (i : ℕ). h.printed ++ lines room i h.rest) (sym m)
        ∙ h.whole);
  }

  pub going_turn : k < n → IfSome known (λ bs. Going room n k bs between old mid) →
      IfSome between (λ bs. Answered (forest_of room bs) bs true left mid new) →
      IfSome known (λ bs. Going room n (k + 1) bs left old new)
  going_turn l h a =
      IfSome_then known h (λ bs h. turn bs l h (forest_of room h.rest) refl (next room _ between left mid new h.rest h.reads a))

  stop : (bs : List ℕ) (h : Going room n k bs between old mid) (o : Option (List ℕ)) →
      forest_of room h.rest ≡ o → Answered o h.rest false left mid new → Appends old new (lines room n bs)
  stop bs h (Some f) e a = absurd (true≢false (sym a.0))
  stop bs h None e a =
      subst (Appends old new)
      (ap (λ (z : List ℕ). h.printed ++ z) (sym (lines-none room (n - k) h.rest e)) ∙ h.whole)
      (Appends-trans old mid new h.printed [] h.writes a.1)

  pub going_stop : IfSome known (λ bs. Going room n k bs between old mid) →
      IfSome between (λ bs. Answered (forest_of room bs) bs false left mid new) →
      IfSome known (λ bs. Appends old new (lines room n bs))
  going_stop h a =
      IfSome_then known h (λ bs h. stop bs h (forest_of room h.rest) refl (next room _ between left mid new h.rest h.reads a))

pub going_end : (room n k : ℕ) (known left old new : Option (List ℕ)) → n ≤ k →
    IfSome known (λ bs. Going room n k bs left old new) → IfSome known (λ bs. Appends old new (lines room n bs))
unfolding lines
going_end room n k known left old new l h =
    IfSome_then known h (λ bs h. let e : n - k ≡ 0 = omega arith in
    subst (Appends old new)
    (sym (append-nil h.printed) ∙ ap (λ (i : ℕ). h.printed ++ lines room i h.rest) (sym e) ∙ h.whole) h.writes)
