-- `archive_lister::run` meets its contract. Assumes nothing.
use Rattle.model.specs.ArchiveLister.{archive_lister}
use Rattle.streams.proofs.Puts.{puts_as, puts_read}
use Rattle.archive_lister.proofs.run.Goals as goal

pub returns : goal.returns
returns g c =
    let held = g.O.Write.contents c.args.output.now in
    let holds = g.O.Write.contents c.write_all.new.self in
    puts_read c.write_all.result held holds archive_lister (g.I.Read.remaining c.args.input.now) _ _ 65536
    c.read_full.auto.buf c.in_ok-n.ensures.read
    (puts_as c.write_all.result held holds c.list-length.ensures.text c.write_all.ensures.bytes)
