-- `replay::agrees` meets its contract. Assumes nothing.
use Rattle.std.proofs.Common.{◌≡◌, ℕ, ◌-◌, ◌≤◌, List, ◌++◌, length, take, drop, replicate, arith, rules, sym, ap, ap₂}
use Rattle.std.proofs.Common.{◌∙◌, length-append, length-drop, length-take-le}
use Rattle.std.proofs.lemmas.List.{take-replicate, drop-replicate, length-replicate}
use Rattle.model.specs.Call.{call_of, out_after}
use Rattle.replay.specs.declared.Row.{Row}
use Rattle.replay.specs.Rows.{call_in, before}
use Rattle.replay.proofs.agrees.Goals as goal
use Rattle.replay.proofs.agrees.Goals.{then-eq, else-eq}

-- what the definitions leave in the bytes that are lent, and those past them, is what was looked at
seen : (row : Row) (bs tree fill fill' out' : List ℕ) (n x : ℕ) → row.room ≤ n → row.words ≤ length fill' →
    fill ≡ replicate n x →
    out' ≡ out_after (call_of bs (take row.room fill) (take row.words fill')) (take row.room fill) →
    length out' ≡ length (take row.room fill) →
    out' ++ drop row.room fill ≡ before tree (length (out' ++ drop row.room fill)) x →
    out_after (call_in row bs) (replicate row.room x) ++ replicate (n - row.room) x ≡ before tree n x
seen row bs tree fill fill' out' n x room words e left long same =
    let size : length fill ≡ n = ap length e ∙ length-replicate n x in
    let lent : take row.room fill ≡ replicate row.room x = ap (take row.room) e ∙ take-replicate row.room n x room in
    let past : drop row.room fill ≡ replicate (n - row.room) x = ap (drop row.room) e ∙ drop-replicate row.room n x in
    let called : call_of bs (take row.room fill) (take row.words fill') ≡ call_in row bs =
    ap₂ (λ (r w : ℕ). record { forest = bs; room = r; words = w })
    (length-take-le row.room fill (omega arith)) (length-take-le row.words fill' words) in
    let gives : out' ≡ out_after (call_in row bs) (replicate row.room x) = left ∙ ap₂ out_after called lent in
    let whole : length (out' ++ drop row.room fill) ≡ n =
    omega (
      arith,
      length-append out' (drop row.room fill),
      length-drop row.room fill,
      length-take-le row.room fill (omega arith),
    ) in
    ap₂ (λ (a b : List ℕ). a ++ b) (sym gives) (sym past) ∙ same ∙ ap (λ m. before tree m x) whole

pub returns-then-is_output-clause-output : goal.returns-then-is_output-clause-output
returns-then-is_output-clause-output c h =
    elim c.if-eq.branch [
      | then-eq w ↦
          seen c.args.row c.args.forest.now c.args.tree.now c.fill.new.self c.fill-2.new.self c.cse-answer.new.out
          (length c.args.out.now) 165 c.if-out-row.false (omega arith) (search rules) c.cse-answer.ensures.out_after
          c.cse-answer.auto.out (w.is_output.ensures.0 (sym w.value-is ∙ c.if-is_output.true))
      | else-eq w ↦ cc
    ]
