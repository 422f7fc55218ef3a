use Rattle.std.proofs.Common.{◌≡◌, ◌∙◌, ℕ, Ok, ap, arith, refl, true}
use Rattle.psi_lines.specs.Lines.{left}
use Rattle.outside.specs.Outside.{content_of}
use Rattle.ftrace_import.proofs.Stops as stop
use Rattle.ftrace_import.proofs.Texts as laws
use Rattle.outside.proofs.ReadOrder.{file_then, no_reads, reads_then}
use Rattle.ftrace_import.proofs.text.take_lines.Goals as goal

pub lines-init : goal.lines-init
lines-init g c = record {
  kept = refl;
  faults = refl;
  absent = refl;
  bytes_read = refl;
  order = no_reads _ _ _;
  name = refl;
  few = omega (arith, c.requires.number);
  missing = λ lacks. c.requires.buffered;
  lines = λ bytes shows. refl;
  so_far = laws.none_so_far c.args.g.now.cpus c.args.lines.now.number c.args.g.now (left c.args.lines.now) _ c.requires.so refl c.requires.fresh c.requires.none c.requires.number;
}

pub returns-in-Err-clause-stops : goal.returns-in-Err-clause-stops
returns-in-Err-clause-stops g c =
    let i = c.lines.invariant in
    let keeps = stop.known_keeps _ _ _ _ c.lines.lines c.next_step.new.lines _ i.kept i.name c.in-Err.ensures.stays in
    stop.stops_here ℕ c.args.g.now.cpus c.lines.g (content_of (g.S.Shelf.holds c.args.shelf.now) c.args.lines.now.name) c.args.lines.now c.lines.lines c.next_step.new.lines (g.S.Shelf.bytes_read c.args.shelf.now) (g.S.Shelf.bytes_read c.lines.shelf) (g.S.Shelf.bytes_read c.next_step.new.shelf) _ c.requires.number c.requires.buffered c.requires.place i.bytes_read c.in-Err.ensures.reads.counted c.in-Err.ensures.reads.place i.lines i.so_far keeps

pub returns-in-Err-clause-order : goal.returns-in-Err-clause-order
returns-in-Err-clause-order g c =
    let i = c.lines.invariant in
    file_then _ _ _ _ _ _ _ i.order (rw i.name at c.in-Err.ensures.order)

pub returns-in-Ok-false-clause-order : goal.returns-in-Ok-false-clause-order
returns-in-Ok-false-clause-order g c =
    let i = c.lines.invariant in
    let ended = rw (c.in-Ok-false.is, c.in-Ok-false.field-0-test) at c.next_step.ensures.order in
    file_then _ _ _ _ _ _ _ i.order (rw i.name at ended)

pub lines-preserved : goal.lines-preserved
lines-preserved g c =
    let i = c.lines.invariant in
    let step = c.next_step.ensures in
    let goes_on : c.next_step.result ≡ Ok true = c.in-Ok-true.is ∙ ap Ok c.in-Ok-true.field-0-test in
    let number = step.number goes_on in
    let taken = rw goes_on at step.content in
    let order = rw goes_on at step.order in
    record {
      kept = step.unchanged ∙ i.kept;
      faults = step.reads.cause.faults_same (λ is. cc (is, goes_on)) ∙ i.faults;
      absent = step.reads.cause.absent_same (λ is. cc (is, goes_on)) ∙ i.absent;
      bytes_read = omega (arith, step.reads.counted, i.bytes_read);
      order = reads_then _ _ _ _ _ _ _ i.order (rw i.name at order);
      name = step.reads.name ∙ i.name;
      few = number.1;
      missing = λ lacks. absurd (let gone = rw (i.kept, i.name, goes_on) at step.missing in gone (i.missing lacks) lacks);
      lines = λ bytes shows. let keeps = rw (i.kept, i.name) at step.stays in keeps.lines bytes shows ∙ i.lines bytes shows;
      so_far = rw number.0 (laws.one_more _ _ _ _ _ _ _ _ i.so_far (rw (i.kept, i.name) at taken));
    }
