use Rattle.std.proofs.Common.{arith, refl, sym}
use Rattle.psi_base.specs.declared.event.Cause.TheVariants as cause
use Rattle.psi_base.specs.declared.event.Fault.TheVariants as fault
use Rattle.psi_spec.specs.Grammar.{versions}
use Rattle.psi_spec.specs.Header.{header_with}
use Rattle.trace_file.proofs.HeadLaws as laws
use Rattle.trace_file.proofs.StopLaws as stop
use Rattle.trace_file.proofs.OrderLaws as order
use Rattle.trace_file.proofs.trace.read_head.Goals as goal

pub returns-in-Ok-clause-content : goal.returns-in-Ok-clause-content
returns-in-Ok-clause-content g c =
    λ bytes shows.
    let found = rw (c.in-Ok-Some.is, c.in-Ok-Some.field-0-is) at c.next_bytes.follows.holds-at-none.line bytes shows in
    let head = c.in-Ok.head in
    laws.header_read versions c.args.tick head.version head.cpus _ _ _ found.0 (laws.first_known versions _ (header_with head.version head.cpus) found.0.short c.in-Ok.ensures.exact)

pub returns-in-Err-read_header-clause-content : goal.returns-in-Err-read_header-clause-content
returns-in-Err-read_header-clause-content g c =
    λ bytes shows.
    let found = rw (c.in-Ok-Some.is, c.in-Ok-Some.field-0-is) at c.next_bytes.follows.holds-at-none.line bytes shows in
    rw (c.refused.ensures, c.in-Err-read_header.ensures.spelled.0) (laws.header_refused versions c.args.tick _ _ _ _ found.0 (laws.first_other versions _ found.0.short c.in-Err-read_header.ensures.exact))

pub returns-in-Ok-None-clause-content : goal.returns-in-Ok-None-clause-content
returns-in-Ok-None-clause-content g c =
    λ bytes shows.
    let found = rw (c.in-Ok-None.is, c.in-Ok-None.field-0-is) at c.next_bytes.follows.holds-at-none.line bytes shows in
    rw c.refused-in-Ok-None.ensures (laws.header_none versions c.args.tick _ found.0)

pub returns-in-Err-clause-content : goal.returns-in-Err-clause-content
returns-in-Err-clause-content g c =
    λ bytes shows.
    let found = rw c.in-Err.is at c.next_bytes.follows.holds-at-none.line bytes shows in
    rw c.trace_fault.ensures (laws.header_not_read versions c.args.tick bytes c.args.lines.now c.next_bytes.follows.lender-at-none c.in-Err.fault c.requires found)

pub returns-in-Ok-clause-stays : goal.returns-in-Ok-clause-stays
returns-in-Ok-clause-stays g c =
    stop.taken_keeps (g.S.Shelf.holds c.args.shelf.now) (g.S.Shelf.bytes_read c.args.shelf.now) (g.S.Shelf.bytes_read c.next_bytes.new.shelf) c.args.lines.now c.next_bytes.follows.lender-at-none c.next_bytes.result c.in-Ok.head c.next_bytes.follows.holds-at-none

pub returns-in-Err-read_header-clause-stays : goal.returns-in-Err-read_header-clause-stays
returns-in-Err-read_header-clause-stays g c =
    stop.faulted_keeps (g.S.Shelf.holds c.args.shelf.now) (g.S.Shelf.bytes_read c.args.shelf.now) (g.S.Shelf.bytes_read c.next_bytes.new.shelf) c.args.lines.now c.next_bytes.follows.lender-at-none c.next_bytes.result 1 (fault.Refused c.in-Err-read_header.cause) _ c.next_bytes.follows.holds-at-none (sym c.requires) c.refused.ensures

pub returns-in-Ok-None-clause-stays : goal.returns-in-Ok-None-clause-stays
returns-in-Ok-None-clause-stays g c =
    stop.faulted_keeps (g.S.Shelf.holds c.args.shelf.now) (g.S.Shelf.bytes_read c.args.shelf.now) (g.S.Shelf.bytes_read c.next_bytes.new.shelf) c.args.lines.now c.next_bytes.follows.lender-at-none c.next_bytes.result 1 (fault.Refused cause.BadHeader) _ c.next_bytes.follows.holds-at-none (sym c.requires) c.refused-in-Ok-None.ensures

pub returns-in-Err-clause-stays : goal.returns-in-Err-clause-stays
returns-in-Err-clause-stays g c =
    stop.unread_keeps (g.S.Shelf.holds c.args.shelf.now) (g.S.Shelf.bytes_read c.args.shelf.now) (g.S.Shelf.bytes_read c.next_bytes.new.shelf) c.args.lines.now c.next_bytes.follows.lender-at-none c.next_bytes.result c.in-Err.fault cause.BadHeader _ c.next_bytes.follows.holds-at-none c.in-Err.is c.next_bytes.ensures.numbered c.trace_fault.ensures

pub returns-in-Ok-clause-order : goal.returns-in-Ok-clause-order
returns-in-Ok-clause-order g c =
    order.place_is _ _ _ _ _ _ (rw (c.in-Ok-Some.is, c.in-Ok-Some.field-0-is) at c.next_bytes.ensures.order) (omega (arith, c.next_bytes.follows.holds-at-none.counted))

pub returns-in-Err-read_header-clause-order : goal.returns-in-Err-read_header-clause-order
returns-in-Err-read_header-clause-order g c =
    order.refused_order _ _ _ _ _ _ _ (rw (c.in-Ok-Some.is, c.in-Ok-Some.field-0-is) at c.next_bytes.ensures.order) refl c.refused.ensures

pub returns-in-Ok-None-clause-order : goal.returns-in-Ok-None-clause-order
returns-in-Ok-None-clause-order g c =
    order.refused_order _ _ _ _ _ _ _ (rw (c.in-Ok-None.is, c.in-Ok-None.field-0-is) at c.next_bytes.ensures.order) refl c.refused-in-Ok-None.ensures

pub returns-in-Err-clause-order : goal.returns-in-Err-clause-order
returns-in-Err-clause-order g c =
    order.unread_order _ _ _ _ _ cause.BadHeader c.in-Err.fault _ (rw c.in-Err.is at c.next_bytes.ensures.order) c.trace_fault.ensures
