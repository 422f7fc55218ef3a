use Rattle.std.proofs.Common.{arith, refl}
use Rattle.outside.specs.Outside.{content_of}
use Rattle.psi_lines.specs.Lines.{left}
use Rattle.ftrace_import.specs.Gathers.{reached_in}
use Rattle.ftrace_import.proofs.Texts as laws
use Rattle.ftrace_import.proofs.Stops as stop
use Rattle.outside.proofs.ReadOrder.{file_read}
use Rattle.ftrace_import.proofs.Orders as order
use Rattle.ftrace_import.proofs.text.take_next.Goals as goal

pub returns-in-Ok-clause-content : goal.returns-in-Ok-clause-content
returns-in-Ok-clause-content g c =
    laws.next_taken c.args.g.now c.take_line.new.g c.args.lines.now.number c.in-Ok-Some.line.now (left c.args.lines.now) (left c.next_bytes.follows.lender-at-none) (content_of (g.S.Shelf.holds c.args.shelf.now) c.args.lines.now.name) c.requires.number c.in-Ok.ensures
    (λ bytes shows. let found = rw (c.in-Ok-Some.is, c.in-Ok-Some.field-0-is) at c.next_bytes.follows.holds-at-none.line bytes shows in found.0)

pub returns-in-Err-take_line-clause-content : goal.returns-in-Err-take_line-clause-content
returns-in-Err-take_line-clause-content g c =
    laws.next_refused c.args.g.now c.take_line.new.g c.args.lines.now.number c.in-Ok-Some.line.now (left c.args.lines.now) (left c.next_bytes.follows.lender-at-none) (content_of (g.S.Shelf.holds c.args.shelf.now) c.args.lines.now.name) c.in-Err-take_line.fault _ c.requires.number (rw c.number-number.ensures at c.fault_at.ensures) c.in-Err-take_line.ensures
    (λ bytes shows. let found = rw (c.in-Ok-Some.is, c.in-Ok-Some.field-0-is) at c.next_bytes.follows.holds-at-none.line bytes shows in found.0)

pub returns-in-Ok-None-clause-content : goal.returns-in-Ok-None-clause-content
returns-in-Ok-None-clause-content g c = (
  refl,
  λ bytes shows.
      let found = rw (c.in-Ok-None.is, c.in-Ok-None.field-0-is) at c.next_bytes.follows.holds-at-none.line bytes shows in
      laws.rest_none c.args.g.now.cpus (reached_in c.args.g.now) c.args.lines.now.number _ found.0,
)

pub returns-in-Err-clause-content : goal.returns-in-Err-clause-content
returns-in-Err-clause-content g c =
    λ bytes shows.
    let found = rw c.in-Err.is at c.next_bytes.follows.holds-at-none.line bytes shows in
    rw c.import_fault.ensures (laws.not_read c.args.g.now bytes c.args.lines.now c.next_bytes.follows.lender-at-none c.in-Err.fault c.requires.number found)

pub returns-in-Ok-clause-stays : goal.returns-in-Ok-clause-stays
returns-in-Ok-clause-stays g c =
    stop.taken_keeps (g.S.Shelf.holds c.args.shelf.now) (g.S.Shelf.bytes_read c.args.shelf.now) (g.S.Shelf.bytes_read c.next_bytes.new.shelf) c.args.lines.now c.next_bytes.follows.lender-at-none c.next_bytes.result _ c.next_bytes.follows.holds-at-none

pub returns-in-Err-take_line-clause-stays : goal.returns-in-Err-take_line-clause-stays
returns-in-Err-take_line-clause-stays g c =
    stop.faulted_keeps (g.S.Shelf.holds c.args.shelf.now) (g.S.Shelf.bytes_read c.args.shelf.now) (g.S.Shelf.bytes_read c.next_bytes.new.shelf) c.args.lines.now c.next_bytes.follows.lender-at-none c.next_bytes.result c.in-Err-take_line.fault _ c.next_bytes.follows.holds-at-none (rw c.number-number.ensures at c.fault_at.ensures)

pub returns-in-Ok-None-clause-stays : goal.returns-in-Ok-None-clause-stays
returns-in-Ok-None-clause-stays g c =
    stop.taken_keeps (g.S.Shelf.holds c.args.shelf.now) (g.S.Shelf.bytes_read c.args.shelf.now) (g.S.Shelf.bytes_read c.next_bytes.new.shelf) c.args.lines.now c.next_bytes.follows.lender-at-none c.next_bytes.result _ c.next_bytes.follows.holds-at-none

pub returns-in-Err-clause-stays : goal.returns-in-Err-clause-stays
returns-in-Err-clause-stays g c =
    stop.unread_keeps (g.S.Shelf.holds c.args.shelf.now) (g.S.Shelf.bytes_read c.args.shelf.now) (g.S.Shelf.bytes_read c.next_bytes.new.shelf) c.args.lines.now c.next_bytes.follows.lender-at-none c.next_bytes.result c.in-Err.fault _ c.next_bytes.follows.holds-at-none c.in-Err.is c.next_bytes.ensures.numbered c.import_fault.ensures

pub returns-in-Ok-clause-order : goal.returns-in-Ok-clause-order
returns-in-Ok-clause-order g c =
    order.place_is _ _ _ _ _ _ (rw (c.in-Ok-Some.is, c.in-Ok-Some.field-0-is) at c.next_bytes.ensures.order) (omega (arith, c.next_bytes.follows.holds-at-none.counted))

pub returns-in-Err-take_line-clause-order : goal.returns-in-Err-take_line-clause-order
returns-in-Err-take_line-clause-order g c =
    order.faulted_order _ _ _ _ _ _ c.in-Err-take_line.fault _ (rw (c.in-Ok-Some.is, c.in-Ok-Some.field-0-is) at c.next_bytes.ensures.order) c.fault_at.ensures

pub returns-in-Ok-None-clause-order : goal.returns-in-Ok-None-clause-order
returns-in-Ok-None-clause-order g c = file_read _ _ _ _ _ (rw (c.in-Ok-None.is, c.in-Ok-None.field-0-is) at c.next_bytes.ensures.order)

pub returns-in-Err-clause-order : goal.returns-in-Err-clause-order
returns-in-Err-clause-order g c = order.unread_order _ _ _ _ _ c.in-Err.fault _ (rw c.in-Err.is at c.next_bytes.ensures.order) c.import_fault.ensures
