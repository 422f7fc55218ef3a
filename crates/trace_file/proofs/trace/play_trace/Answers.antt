use Rattle.std.proofs.Common.{ℕ}
use Rattle.outside.specs.Outside.{content_of}
use Rattle.psi_lines.specs.Lines.{left}
use Rattle.psi_spec.specs.Header.{header_with}
use Rattle.psi_spec.specs.Trace.{limits_of}
use Rattle.psi_spec.specs.World.{first_world}
use Rattle.trace_file.specs.Reads.{rest_from, verbs_in}
use Rattle.trace_file.proofs.LineLaws as laws
use Rattle.trace_file.proofs.StopLaws as stop
use Rattle.outside.proofs.ReadOrder.{file_then}
use Rattle.trace_file.proofs.OrderLaws.{nothing_read}
use Rattle.trace_file.proofs.trace.play_trace.Goals as goal

pub returns-in-Ok-play_events-clause-content : goal.returns-in-Ok-play_events-clause-content
returns-in-Ok-play_events-clause-content g c =
    let fresh = c.in_ok-lines.ensures in
    let is = c.in-Ok.ensures.head in
    let head = rw fresh at c.in-Ok.ensures.content in
    let rest = rw (c.in-Ok.ensures.unchanged, c.in-Ok.ensures.reads.name, fresh) at c.in-Ok-play_events.ensures.content in
    laws.trace_played c.in-Ok.head.version (g.P.Player.Played c.play_events.new.player) c.args.tick c.in-Ok.head.cpus (λ bytes. bytes) (left c.read_head.new.lines) (content_of (g.S.Shelf.holds c.args.shelf.now) c.args.name.now) tt is.numbered is.counted head rest

pub returns-in-Err-clause-stops : goal.returns-in-Err-clause-stops
returns-in-Err-clause-stops g c =
    stop.head_stops ℕ c.args.tick (content_of (g.S.Shelf.holds c.args.shelf.now)) c.args.name.now c.in_ok-lines.lines c.read_head.new.lines (g.S.Shelf.bytes_read c.args.shelf.now) (g.S.Shelf.bytes_read c.read_head.new.shelf) _ c.in_ok-lines.ensures c.in-Err.ensures.reads.counted c.in-Err.ensures.reads.place c.in-Err.ensures.stays

pub returns-clause-stops : goal.returns-clause-stops
returns-clause-stops g c =
    let head = c.in-Ok.head in
    let stops = rw c.in-Ok.ensures.unchanged at c.in-Err-play_events.ensures.stops in
    stop.rest_stops ℕ c.args.tick (content_of (g.S.Shelf.holds c.args.shelf.now)) c.args.name.now c.in_ok-lines.lines c.read_head.new.lines c.play_events.new.lines (g.S.Shelf.bytes_read c.args.shelf.now) (g.S.Shelf.bytes_read c.read_head.new.shelf) (g.S.Shelf.bytes_read c.play_events.new.shelf) (header_with head.version head.cpus) head (λ bytes. rest_from (verbs_in head.version) (limits_of c.args.tick head.cpus) first_world 2 (left c.read_head.new.lines bytes)) _ c.in_ok-lines.ensures c.in-Ok.ensures.reads.name c.in-Ok.ensures.reads.counted c.in-Ok.ensures.stays c.in-Ok.ensures.content stops

pub returns-in-Err-clause-order : goal.returns-in-Err-clause-order
returns-in-Err-clause-order g c = rw c.in_ok-lines.ensures at c.in-Err.ensures.order

pub returns-in-Ok-play_events-clause-order : goal.returns-in-Ok-play_events-clause-order
returns-in-Ok-play_events-clause-order g c =
    let fresh = c.in_ok-lines.ensures in
    file_then _ _ _ _ _ _ _ (rw fresh at c.in-Ok.ensures.order) (rw (c.in-Ok.ensures.reads.name, fresh) at c.in-Ok-play_events.ensures.order)

pub returns-clause-order : goal.returns-clause-order
returns-clause-order g c =
    let fresh = c.in_ok-lines.ensures in
    file_then _ _ _ _ _ _ _ (rw fresh at c.in-Ok.ensures.order) (rw (c.in-Ok.ensures.reads.name, fresh) at c.in-Err-play_events.ensures.order)

pub returns-in_err-lines-clause-order : goal.returns-in_err-lines-clause-order
returns-in_err-lines-clause-order g c = nothing_read _ _ _ c.from_residual.result c.from_residual.ensures.0 c.from_residual.ensures.1
