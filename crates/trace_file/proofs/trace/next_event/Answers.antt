use Rattle.std.proofs.Common.{arith, refl}
use Rattle.outside.specs.Outside.{content_of}
use Rattle.psi_base.specs.declared.event.Cause.TheVariants as cause
use Rattle.psi_base.specs.declared.event.Fault.TheVariants as fault
use Rattle.psi_lines.specs.Lines.{left}
use Rattle.trace_file.specs.Reads.{Legally, verbs_in}
use Rattle.trace_file.proofs.LineLaws as laws
use Rattle.trace_file.proofs.StopLaws as stop
use Rattle.trace_file.proofs.OrderLaws as order
use Rattle.trace_file.proofs.trace.next_event.Goals as goal

pub returns-in-Ok-clause-content : goal.returns-in-Ok-clause-content
returns-in-Ok-clause-content g c =
    laws.line_played (verbs_in c.args.version) (Legally (verbs_in c.args.version) (g.P.Player.Played c.args.player.now)) (Legally (verbs_in c.args.version) (g.P.Player.Played c.take_line.new.player)) c.args.lines.now.number c.in-Ok-Some.bytes.now (left c.args.lines.now) (left c.next_bytes.follows.lender-at-none) (content_of (g.S.Shelf.holds c.args.shelf.now) c.args.lines.now.name) tt c.in-Ok.ensures
    (λ bytes shows. let found = rw (c.in-Ok-Some.is, c.in-Ok-Some.field-0-is) at c.next_bytes.follows.holds-at-none.line bytes shows in found.0)

pub returns-in-Err-take_line-clause-content : goal.returns-in-Err-take_line-clause-content
returns-in-Err-take_line-clause-content g c =
    laws.line_faulted (verbs_in c.args.version) (Legally (verbs_in c.args.version) (g.P.Player.Played c.args.player.now)) (Legally (verbs_in c.args.version) (g.P.Player.Played c.take_line.new.player)) c.args.lines.now.number c.in-Ok-Some.bytes.now (left c.args.lines.now) (left c.next_bytes.follows.lender-at-none) (content_of (g.S.Shelf.holds c.args.shelf.now) c.args.lines.now.name) c.in-Err-take_line.fault _ (rw c.number-line.ensures at c.fault_at.ensures) c.in-Err-take_line.ensures
    (λ bytes shows. let found = rw (c.in-Ok-Some.is, c.in-Ok-Some.field-0-is) at c.next_bytes.follows.holds-at-none.line bytes shows in found.0)

pub returns-in-Ok-None-clause-content : goal.returns-in-Ok-None-clause-content
returns-in-Ok-None-clause-content g c =
    λ limits events played running bytes shows.
    let found = rw (c.in-Ok-None.is, c.in-Ok-None.field-0-is) at c.next_bytes.follows.holds-at-none.line bytes shows in
    rw (c.refused.ensures, c.number-line.ensures) (laws.none_left (verbs_in c.args.version) limits _ _ _ found.0 running)

pub returns-in-Err-clause-content : goal.returns-in-Err-clause-content
returns-in-Err-clause-content g c =
    λ limits events played running bytes shows.
    let found = rw c.in-Err.is at c.next_bytes.follows.holds-at-none.line bytes shows in
    rw c.trace_fault.ensures (laws.line_not_read (verbs_in c.args.version) limits _ bytes c.args.lines.now c.next_bytes.follows.lender-at-none c.in-Err.fault found running)

pub returns-in-Ok-clause-stays : goal.returns-in-Ok-clause-stays
returns-in-Ok-clause-stays g c =
    stop.taken_keeps (g.S.Shelf.holds c.args.shelf.now) (g.S.Shelf.bytes_read c.args.shelf.now) (g.S.Shelf.bytes_read c.next_bytes.new.shelf) c.args.lines.now c.next_bytes.follows.lender-at-none c.next_bytes.result tt c.next_bytes.follows.holds-at-none

pub returns-in-Err-take_line-clause-stays : goal.returns-in-Err-take_line-clause-stays
returns-in-Err-take_line-clause-stays g c =
    stop.faulted_keeps (g.S.Shelf.holds c.args.shelf.now) (g.S.Shelf.bytes_read c.args.shelf.now) (g.S.Shelf.bytes_read c.next_bytes.new.shelf) c.args.lines.now c.next_bytes.follows.lender-at-none c.next_bytes.result _ c.in-Err-take_line.fault _ c.next_bytes.follows.holds-at-none refl (rw c.number-line.ensures at c.fault_at.ensures)

pub returns-in-Ok-None-clause-stays : goal.returns-in-Ok-None-clause-stays
returns-in-Ok-None-clause-stays g c =
    stop.faulted_keeps (g.S.Shelf.holds c.args.shelf.now) (g.S.Shelf.bytes_read c.args.shelf.now) (g.S.Shelf.bytes_read c.next_bytes.new.shelf) c.args.lines.now c.next_bytes.follows.lender-at-none c.next_bytes.result _ (fault.Refused cause.NoEnd) _ c.next_bytes.follows.holds-at-none refl (rw c.number-line.ensures at c.refused.ensures)

pub returns-in-Err-clause-stays : goal.returns-in-Err-clause-stays
returns-in-Err-clause-stays g c =
    stop.unread_keeps (g.S.Shelf.holds c.args.shelf.now) (g.S.Shelf.bytes_read c.args.shelf.now) (g.S.Shelf.bytes_read c.next_bytes.new.shelf) c.args.lines.now c.next_bytes.follows.lender-at-none c.next_bytes.result c.in-Err.fault cause.NoEnd _ c.next_bytes.follows.holds-at-none c.in-Err.is c.next_bytes.ensures.numbered c.trace_fault.ensures

pub returns-in-Ok-clause-order : goal.returns-in-Ok-clause-order
returns-in-Ok-clause-order g c =
    order.place_is _ _ _ _ _ _ (rw (c.in-Ok-Some.is, c.in-Ok-Some.field-0-is) at c.next_bytes.ensures.order) (omega (arith, c.next_bytes.follows.holds-at-none.counted))

pub returns-in-Err-take_line-clause-order : goal.returns-in-Err-take_line-clause-order
returns-in-Err-take_line-clause-order g c =
    order.faulted_order _ _ _ _ _ _ c.in-Err-take_line.fault _ (rw (c.in-Ok-Some.is, c.in-Ok-Some.field-0-is) at c.next_bytes.ensures.order) c.fault_at.ensures

pub returns-in-Ok-None-clause-order : goal.returns-in-Ok-None-clause-order
returns-in-Ok-None-clause-order g c =
    order.refused_order _ _ _ _ _ _ _ (rw (c.in-Ok-None.is, c.in-Ok-None.field-0-is) at c.next_bytes.ensures.order) refl c.refused.ensures

pub returns-in-Err-clause-order : goal.returns-in-Err-clause-order
returns-in-Err-clause-order g c =
    order.unread_order _ _ _ _ _ cause.NoEnd c.in-Err.fault _ (rw c.in-Err.is at c.next_bytes.ensures.order) c.trace_fault.ensures
