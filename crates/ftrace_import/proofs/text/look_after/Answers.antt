use Rattle.std.proofs.Common.{◌≡◌, ◌∙◌, ◌<◌, arith, refl}
use Rattle.ftrace_import.specs.Gathers.{reached_in}
use Rattle.ftrace_import.proofs.Texts.{rest_many, rest_none}
use Rattle.outside.specs.Outside.{content_of}
use Rattle.ftrace_import.proofs.Stops as stop
use Rattle.outside.proofs.ReadOrder.{file_read}
use Rattle.ftrace_import.proofs.Orders as order
use Rattle.ftrace_import.proofs.text.look_after.Goals as goal

pub returns-in-Ok-true-clause-content : goal.returns-in-Ok-true-clause-content
returns-in-Ok-true-clause-content g c = (
  refl,
  λ bytes shows.
      let found = rw (c.in-Ok-true.is, c.in-Ok-true.field-0-test) at c.is_at_end.ensures.left bytes shows in
      rest_none c.args.g.now.cpus (reached_in c.args.g.now) c.args.lines.now.number _ (found.1.0 refl),
)

pub returns-in-Ok-false-clause-content : goal.returns-in-Ok-false-clause-content
returns-in-Ok-false-clause-content g c =
    λ bytes shows.
    let found = rw (c.in-Ok-false.is, c.in-Ok-false.field-0-test) at c.is_at_end.ensures.left bytes shows in
    let many : 16000000 < c.args.lines.now.number = omega (arith, c.requires.number) in
    let same : c.number.result ≡ c.args.lines.now.number = c.number.ensures ∙ c.is_at_end.ensures.same.1 in
    rw same (rest_many c.args.g.now.cpus (reached_in c.args.g.now) c.args.lines.now.number _ many (λ none. let no = found.1.1 none in absurd (cc no)))

pub returns-in-Ok-true-clause-stays : goal.returns-in-Ok-true-clause-stays
returns-in-Ok-true-clause-stays g c = stop.ended_keeps (content_of (g.S.Shelf.holds c.args.shelf.now) c.args.lines.now.name) c.args.lines.now c.is_at_end.new.self _ (λ bytes shows. let found = c.is_at_end.ensures.left bytes shows in found.0) c.is_at_end.ensures.same.1

pub returns-in-Ok-false-clause-stays : goal.returns-in-Ok-false-clause-stays
returns-in-Ok-false-clause-stays g c = stop.many_keeps (content_of (g.S.Shelf.holds c.args.shelf.now) c.args.lines.now.name) c.args.lines.now c.is_at_end.new.self _ _ (λ bytes shows. let found = c.is_at_end.ensures.left bytes shows in found.0) c.is_at_end.ensures.same.1 (c.number.ensures ∙ c.is_at_end.ensures.same.1)

pub returns-in-Err-clause-stays : goal.returns-in-Err-clause-stays
returns-in-Err-clause-stays g c = stop.unseen_keeps (content_of (g.S.Shelf.holds c.args.shelf.now) c.args.lines.now.name) c.args.lines.now c.is_at_end.new.self c.is_at_end.result c.in-Err.fault _ (λ bytes shows. let found = c.is_at_end.ensures.left bytes shows in found.0) c.is_at_end.ensures.same.1 c.is_at_end.ensures.unread c.is_at_end.ensures.faults c.in-Err.is c.import_fault.ensures

pub returns-in-Ok-true-clause-order : goal.returns-in-Ok-true-clause-order
returns-in-Ok-true-clause-order g c = file_read _ _ _ _ _ (rw (c.in-Ok-true.is, c.in-Ok-true.field-0-test) at c.is_at_end.ensures.order)

pub returns-in-Ok-false-clause-order : goal.returns-in-Ok-false-clause-order
returns-in-Ok-false-clause-order g c = file_read _ _ _ _ _ (rw (c.in-Ok-false.is, c.in-Ok-false.field-0-test) at c.is_at_end.ensures.order)

pub returns-in-Err-clause-order : goal.returns-in-Err-clause-order
returns-in-Err-clause-order g c = order.unread_order _ _ _ _ _ c.in-Err.fault _ (rw c.in-Err.is at c.is_at_end.ensures.order) c.import_fault.ensures
