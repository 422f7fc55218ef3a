use Rattle.std.proofs.Common.{ℕ}
use Rattle.outside.specs.Outside.{content_of}
use Rattle.ftrace_import.proofs.Orders as order
use Rattle.ftrace_import.proofs.Stops as stop
use Rattle.ftrace_import.proofs.Texts as laws
use Rattle.ftrace_import.proofs.text.gather.Goals as goal

pub returns-in-Ok-clause-content : goal.returns-in-Ok-clause-content
returns-in-Ok-clause-content g c =
    laws.gathered_all _ c.args.cpus c.take_lines.new.g c.in_ok-lines.lines c.args.name.now (content_of (g.S.Shelf.holds c.args.shelf.now)) tt c.in_ok-g.ensures.cpus c.in_ok-lines.ensures c.in-Ok.ensures.content

pub returns-clause-content : goal.returns-clause-content
returns-clause-content g c =
    laws.gathered_none _ c.args.cpus c.take_lines.new.g c.in_ok-lines.lines c.args.name.now (content_of (g.S.Shelf.holds c.args.shelf.now)) c.in-Err.fault c.in_ok-g.ensures.cpus c.in_ok-lines.ensures c.in-Err.ensures.content

pub returns-clause-stops : goal.returns-clause-stops
returns-clause-stops g c =
    stop.gather_stops ℕ ℕ _ c.args.cpus (content_of (g.S.Shelf.holds c.args.shelf.now)) c.args.name.now c.in_ok-lines.lines (g.S.Shelf.bytes_read c.args.shelf.now) (g.S.Shelf.bytes_read c.take_lines.new.shelf) c.in-Err.fault c.in_ok-g.ensures.cpus c.in_ok-lines.ensures c.in-Err.ensures.stops

pub returns-in-Ok-clause-order : goal.returns-in-Ok-clause-order
returns-in-Ok-clause-order g c = rw c.in_ok-lines.ensures at c.in-Ok.ensures.order

pub returns-clause-order : goal.returns-clause-order
returns-clause-order g c = rw c.in_ok-lines.ensures at c.in-Err.ensures.order

pub returns-in_err-lines-clause-order : goal.returns-in_err-lines-clause-order
returns-in_err-lines-clause-order g c = order.nothing_read _ _ _ c.from_residual.result c.from_residual.ensures.0 c.from_residual.ensures.1

pub returns-in_err-g-clause-order : goal.returns-in_err-g-clause-order
returns-in_err-g-clause-order g c = order.nothing_read _ _ _ c.from_residual-in_err-g.result c.from_residual-in_err-g.ensures.0 c.from_residual-in_err-g.ensures.1
