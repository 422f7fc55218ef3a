use Rattle.std.proofs.Common.{◌∙◌, refl, sym}
use Rattle.outside.specs.Outside.{content_of}
use Rattle.psi_base.specs.declared.event.Cause.TheVariants as cause
use Rattle.psi_base.specs.declared.event.Fault.TheVariants as fault
use Rattle.outside.proofs.ReadOrder.{file_read}
use Rattle.trace_file.proofs.StopLaws as stop
use Rattle.trace_file.proofs.OrderLaws as order
use Rattle.trace_file.proofs.trace.close.Goals as goal

pub returns-in-Ok-true-clause-stays : goal.returns-in-Ok-true-clause-stays
returns-in-Ok-true-clause-stays g c =
    stop.look_keeps (content_of (g.S.Shelf.holds c.args.shelf.now) c.args.lines.now.name) c.args.lines.now c.is_at_end.new.self _ (λ bytes shows. let found = c.is_at_end.ensures.left bytes shows in found.0) c.is_at_end.ensures.same.1 (λ is. absurd (cc is)) (λ refusal is. absurd (cc is))

pub returns-in-Ok-false-clause-stays : goal.returns-in-Ok-false-clause-stays
returns-in-Ok-false-clause-stays g c =
    stop.look_keeps (content_of (g.S.Shelf.holds c.args.shelf.now) c.args.lines.now.name) c.args.lines.now c.is_at_end.new.self _ (λ bytes shows. let found = c.is_at_end.ensures.left bytes shows in found.0) c.is_at_end.ensures.same.1
    (λ is. absurd (stop.line_was_read _ (fault.Refused cause.AfterEnd) c.refused.result c.refused.ensures (cc is)))
    (λ refusal is. stop.line_number _ (fault.Refused cause.AfterEnd) c.refused.result refusal c.refused.ensures (cc is) ∙ c.number.ensures ∙ c.is_at_end.ensures.same.1)

pub returns-in-Err-clause-stays : goal.returns-in-Err-clause-stays
returns-in-Err-clause-stays g c =
    stop.look_keeps (content_of (g.S.Shelf.holds c.args.shelf.now) c.args.lines.now.name) c.args.lines.now c.is_at_end.new.self _ (λ bytes shows. let found = c.is_at_end.ensures.left bytes shows in found.0) c.is_at_end.ensures.same.1
    (λ is. c.is_at_end.ensures.unread (stop.same_look _ c.in-Err.fault c.in-Err.is (stop.read_failed cause.AfterEnd c.in-Err.fault (sym c.trace_fault.ensures ∙ cc is))))
    (λ refusal is. absurd (stop.no_refusal cause.AfterEnd c.in-Err.fault refusal (rw c.in-Err.is at c.is_at_end.ensures.faults) (sym c.trace_fault.ensures ∙ cc is)))

pub returns-in-Ok-true-clause-order : goal.returns-in-Ok-true-clause-order
returns-in-Ok-true-clause-order g c = file_read _ _ _ _ _ (rw (c.in-Ok-true.is, c.in-Ok-true.field-0-test) at c.is_at_end.ensures.order)

pub returns-in-Ok-false-clause-order : goal.returns-in-Ok-false-clause-order
returns-in-Ok-false-clause-order g c = order.refused_order _ _ _ _ _ _ _ (rw (c.in-Ok-false.is, c.in-Ok-false.field-0-test) at c.is_at_end.ensures.order) refl c.refused.ensures

pub returns-in-Err-clause-order : goal.returns-in-Err-clause-order
returns-in-Err-clause-order g c = order.unread_order _ _ _ _ _ cause.AfterEnd c.in-Err.fault _ (rw c.in-Err.is at c.is_at_end.ensures.order) c.trace_fault.ensures
