use Rattle.trace_file.proofs.LineLaws as laws
use Rattle.trace_file.specs.Reads.{Legally, verbs_in}
use Rattle.trace_file.proofs.trace.take_line.Goals as goal

pub returns : goal.returns
returns g c =
    let verbs = verbs_in c.args.version in
    let before = g.P.Player.Played c.args.player.now in
    let after = g.P.Player.Played c.take_read.new.player in
    laws.takes_read verbs (Legally verbs before) (Legally verbs after) c.args.line.now c.read_event.result c.take_read.result c.requires.short c.read_event.ensures.exact
    (laws.legally_read verbs before after c.read_event.result c.take_read.result (laws.known_read verbs c.args.line.now c.read_event.result c.read_event.ensures.found) c.take_read.ensures)
