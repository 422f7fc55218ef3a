use Rattle.std.proofs.Common.{◌+◌, ◌*◌, ◌∙◌, Err, arith, rules, subst, sym}
use Rattle.outside.proofs.ReadOrder.{file_then}
use Rattle.page_spec.specs.declared.cause.PageCause.TheVariants.{TooMany}
use Rattle.page_spec.specs.Items.{byte_fault, fault_at, file_found, page_found, pages_found}
use Rattle.page_files.specs.Puts.{PutsFile}
use Rattle.page_files.specs.declared.file.FileStop.{FileStop}
use Rattle.page_files.proofs.Filled.{filled_short, filled_whole}
use Rattle.page_files.proofs.Pages.{beyond_page, ends_faulty, ends_well, next_page, no_page, page_sent, page_stops, pages_from}
use Rattle.page_files.proofs.Stops.{page_ends, part_ends, parts_read, read_ends}
use Rattle.page_files.proofs.file.put_file.Goals as goal

pub returns-in-Ok-clause-bytes : goal.returns-in-Ok-clause-bytes
returns-in-Ok-clause-bytes g c = λ whole shows.
    let i = c.pages.invariant in
    let layout = c.args.layout.now in
    let size = layout.page in
    let is = c.in-Ok.ensures.bytes whole (rw i.unchanged shows) in
    let short = filled_short whole c.fill.new.bytes (c.pages.number * size) c.in-Ok.count size (omega arith) (omega (arith, c.in-Ok.ensures.bound)) is in
    ends_well _ _ c.args.cpu (pages_found layout c.pages.number (pages_from size c.pages.number whole)) (file_found layout whole) (i.sent whole shows) (no_page layout c.pages.number whole short)

pub returns-in-Ok-clause-order : goal.returns-in-Ok-clause-order
returns-in-Ok-clause-order g c =
    file_then c.args.name.now 0 (c.pages.number * c.args.layout.now.page) _ _ _ _ c.pages.invariant.order (c.in-Ok.ensures.order.1 (omega arith))

pub returns-in-Err-clause-order : goal.returns-in-Err-clause-order
returns-in-Err-clause-order g c =
    read_ends c.args.name.now (c.pages.number * c.args.layout.now.page) _ _ _ c.in-Err.fault c.read_stop.result c.pages.invariant.order c.in-Err.ensures.order c.read_stop.ensures

pub returns-then-number-eq-MOST_PAGES-clause-bytes : goal.returns-then-number-eq-MOST_PAGES-clause-bytes
returns-then-number-eq-MOST_PAGES-clause-bytes g c = λ whole shows.
    let i = c.pages.invariant in
    let layout = c.args.layout.now in
    let size = layout.page in
    let is = c.in-Ok.ensures.bytes whole (rw i.unchanged shows) in
    let filled = filled_whole whole c.fill.new.bytes (c.pages.number * size) c.in-Ok.count size (omega arith) (omega (arith, c.in-Ok.ensures.bound)) is in
    ends_faulty _ _ c.args.cpu (fault_at c.pages.number (byte_fault 0 TooMany)) (pages_found layout c.pages.number (pages_from size c.pages.number whole)) (file_found layout whole) (i.sent whole shows)
    (beyond_page layout c.pages.number whole (omega arith) (omega arith) filled.1)

pub returns-then-number-eq-MOST_PAGES-clause-order : goal.returns-then-number-eq-MOST_PAGES-clause-order
returns-then-number-eq-MOST_PAGES-clause-order g c =
    part_ends c.args.name.now c.pages.number c.args.layout.now.page c.in-Ok.count _ _ _ c.pages.invariant.order (c.in-Ok.ensures.order.0 (omega (arith, c.in-Ok.ensures.bound)))

pub pages-preserved : goal.pages-preserved
pages-preserved g c =
    let i = c.pages.invariant in
    let layout = c.args.layout.now in
    let size = layout.page in
    let number = c.pages.number in
    let page = c.fill.new.bytes in
    let cause = c.in-Ok.ensures.cause in record {
      few = omega arith;
      unchanged = c.in-Ok.ensures.unchanged ∙ i.unchanged;
      size = c.in-Ok.ensures.size ∙ i.size;
      sent = λ whole shows.
          let is = c.in-Ok.ensures.bytes whole (rw i.unchanged shows) in
          page_sent (g.K.Sink.has c.args.out.now) (g.K.Sink.has c.pages.out) (g.K.Sink.has c.put_page.new.out) c.args.cpu number (page_found layout page)
          (pages_found layout number (pages_from size number whole)) (pages_found layout (number + 1) (pages_from size (number + 1) whole)) (file_found layout whole) (i.sent whole shows)
          (next_page layout number page whole (omega arith) (omega arith) (filled_whole whole page (number * size) c.in-Ok.count size (omega arith) (omega (arith, c.in-Ok.ensures.bound)) is)) c.in-Ok-put_page.ensures.bytes;
      faults = cause.faults_same (λ failed. cc failed) ∙ i.faults;
      absent = cause.absent_same (λ missed. cc missed) ∙ i.absent;
      writes = c.in-Ok-put_page.ensures.cause.same (λ failed. cc failed) ∙ i.writes;
      below = search rules;
      order = parts_read c.args.name.now number size c.in-Ok.count _ _ _ i.order (c.in-Ok.ensures.order.0 (omega (arith, c.in-Ok.ensures.bound))) (omega (arith, c.in-Ok.ensures.bound));
    }

pub returns-in-Err-put_page-clause-bytes : goal.returns-in-Err-put_page-clause-bytes
returns-in-Err-put_page-clause-bytes g c = λ whole shows.
    let i = c.pages.invariant in
    let layout = c.args.layout.now in
    let size = layout.page in
    let number = c.pages.number in
    let page = c.fill.new.bytes in
    let is = c.in-Ok.ensures.bytes whole (rw i.unchanged shows) in
    subst (λ (stop : FileStop). PutsFile {T = Unit {0}} (g.K.Sink.has c.args.out.now) (g.K.Sink.has c.put_page.new.out) c.args.cpu (file_found layout whole) (Err stop)) (sym c.page_stop.ensures)
    (page_stops (Unit {0}) (g.K.Sink.has c.args.out.now) (g.K.Sink.has c.pages.out) (g.K.Sink.has c.put_page.new.out) c.args.cpu number (page_found layout page)
    (pages_found layout number (pages_from size number whole)) (pages_found layout (number + 1) (pages_from size (number + 1) whole)) (file_found layout whole) c.in-Err-put_page.stop (i.sent whole shows)
    (next_page layout number page whole (omega arith) (omega arith) (filled_whole whole page (number * size) c.in-Ok.count size (omega arith) (omega (arith, c.in-Ok.ensures.bound)) is)) c.in-Err-put_page.ensures.bytes)

pub returns-in-Err-put_page-clause-order : goal.returns-in-Err-put_page-clause-order
returns-in-Err-put_page-clause-order g c =
    page_ends c.args.name.now c.pages.number c.args.layout.now.page c.in-Ok.count _ _ _ c.page_stop.result c.in-Err-put_page.stop c.pages.invariant.order (c.in-Ok.ensures.order.0 (omega (arith, c.in-Ok.ensures.bound))) c.page_stop.ensures
