-- `show::run` meets its contract. Assumes nothing.
use Rattle.std.proofs.Common.{◌≡◌, ℕ, ◌-◌, List, take, length, arith, ap, ◌∙◌}
use Rattle.model.specs.Sheet.{sheet}
use Rattle.sheet.specs.Clip.{Clipped}
use Rattle.streams.proofs.Taken.{taken}
use Rattle.streams.proofs.Puts.{puts_as, puts_read}
use Rattle.show.proofs.run.Goals as goal

-- the text, taken from the buffer's start
shown_text : (size : ℕ) (s : List ℕ) {text text' : List ℕ} {k : ℕ} → size ≡ length text → Clipped text 0 s text' k →
    take k text' ≡ take size s
shown_text size s {text} e w =
    taken w.is ∙ ap (λ n. take n s) (let same : length text - 0 ≡ size = omega arith in same)

pub returns : goal.returns
returns g c =
    let held = g.O.Write.contents c.args.output.now in
    let holds = g.O.Write.contents c.write_all.new.self in
    puts_read c.write_all.result held holds (λ bs. take 262144 (sheet bs))
    (g.I.Read.remaining c.args.input.now) _ _ 65536 c.read_full.auto.buf c.in_ok-n.ensures.read
    (puts_as c.write_all.result held holds (shown_text 262144 _ c.room-text.ensures c.shown-k.ensures)
    c.write_all.ensures.bytes)
