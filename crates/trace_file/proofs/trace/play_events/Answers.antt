use Rattle.std.proofs.Common.{arith, ◌∙◌}
use Rattle.outside.specs.Outside.{content_of}
use Rattle.psi_lines.specs.Lines.{left}
use Rattle.trace_file.specs.Reads.{Legally, verbs_in}
use Rattle.psi_spec.specs.Trace.{limits_of}
use Rattle.trace_file.proofs.LineLaws as laws
use Rattle.trace_file.proofs.StopLaws as stop
use Rattle.outside.proofs.ReadOrder.{file_then, reads_then}
use Rattle.trace_file.proofs.trace.play_events.Goals as goal

pub lines-preserved : goal.lines-preserved
lines-preserved g c =
    let i = c.lines.invariant in
    let known = content_of (g.S.Shelf.holds c.args.shelf.now) c.args.lines.now.name in
    let next = rw (i.kept, i.name) at c.in-Ok.ensures.content in
    let one = laws.one_more (verbs_in c.args.head.version) (Legally (verbs_in c.args.head.version) (g.P.Player.Played c.lines.player)) (Legally (verbs_in c.args.head.version) (g.P.Player.Played c.play_next.new.player)) (limits_of c.args.tick c.args.head.cpus) c.lines.lines.number _ (left c.args.lines.now) (left c.lines.lines) (left c.play_next.new.lines) known tt c.in-Ok.ensures.reads.number i.so_far next in
    record {
      kept = cc;
      faults = c.in-Ok.ensures.reads.cause.faults_same (λ is. cc is) ∙ i.faults;
      absent = c.in-Ok.ensures.reads.cause.absent_same (λ is. cc is) ∙ i.absent;
      bytes_read = omega (arith, c.in-Ok.ensures.reads.counted, i.bytes_read);
      order = reads_then _ _ _ _ _ _ _ i.order (rw i.name at c.in-Ok.ensures.order);
      name = cc;
      few = one.few;
      lines = λ bytes shows. let keeps = rw (i.kept, i.name) at c.in-Ok.ensures.stays in keeps.lines bytes shows ∙ i.lines bytes shows;
      so_far = laws.goes_on (verbs_in c.args.head.version) (Legally (verbs_in c.args.head.version) (g.P.Player.Played c.play_next.new.player)) (limits_of c.args.tick c.args.head.cpus) _ (left c.args.lines.now) (left c.play_next.new.lines) known c.is_ended.result one (λ limits events played. c.is_ended.ensures limits events played.0) c.if-is_ended.false;
    }

pub returns-then-is_ended-clause-content : goal.returns-then-is_ended-clause-content
returns-then-is_ended-clause-content g c =
    let i = c.lines.invariant in
    let known = content_of (g.S.Shelf.holds c.args.shelf.now) c.args.lines.now.name in
    let next = rw (i.kept, i.name) at c.in-Ok.ensures.content in
    let one = laws.one_more (verbs_in c.args.head.version) (Legally (verbs_in c.args.head.version) (g.P.Player.Played c.lines.player)) (Legally (verbs_in c.args.head.version) (g.P.Player.Played c.play_next.new.player)) (limits_of c.args.tick c.args.head.cpus) c.lines.lines.number _ (left c.args.lines.now) (left c.lines.lines) (left c.play_next.new.lines) known tt c.in-Ok.ensures.reads.number i.so_far next in
    laws.ends_here (verbs_in c.args.head.version) (Legally (verbs_in c.args.head.version) (g.P.Player.Played c.play_next.new.player)) (limits_of c.args.tick c.args.head.cpus) _ (left c.args.lines.now) (left c.play_next.new.lines) known c.is_ended.result c.close.result one (λ limits events played. c.is_ended.ensures limits events played.0) c.if-is_ended.true
    (λ bytes shows. rw (c.play_next.ensures.unchanged, i.kept, c.play_next.ensures.reads.name, i.name) at (c.close.ensures.content bytes) shows)

pub returns-in-Err-clause-bytes_read : goal.returns-in-Err-clause-bytes_read
returns-in-Err-clause-bytes_read g c =
    let i = c.lines.invariant in
    omega (arith, i.bytes_read, i.few, c.in-Err.ensures.reads.counted, c.in-Err.ensures.reads.place)

pub returns-then-is_ended-clause-bytes_read : goal.returns-then-is_ended-clause-bytes_read
returns-then-is_ended-clause-bytes_read g c =
    let i = c.lines.invariant in
    let known = content_of (g.S.Shelf.holds c.args.shelf.now) c.args.lines.now.name in
    let next = rw (i.kept, i.name) at c.in-Ok.ensures.content in
    let one = laws.one_more (verbs_in c.args.head.version) (Legally (verbs_in c.args.head.version) (g.P.Player.Played c.lines.player)) (Legally (verbs_in c.args.head.version) (g.P.Player.Played c.play_next.new.player)) (limits_of c.args.tick c.args.head.cpus) c.lines.lines.number _ (left c.args.lines.now) (left c.lines.lines) (left c.play_next.new.lines) known tt c.in-Ok.ensures.reads.number i.so_far next in
    omega (arith, i.bytes_read, one.few, c.in-Ok.ensures.reads.counted, c.close.ensures.bytes_read, c.close.ensures.place)

pub returns-in-Err-clause-stops : goal.returns-in-Err-clause-stops
returns-in-Err-clause-stops g c =
    let i = c.lines.invariant in
    let keeps = stop.known_keeps _ _ _ _ c.lines.lines c.play_next.new.lines _ i.kept i.name c.in-Err.ensures.stays in
    stop.stops_here (verbs_in c.args.head.version) (limits_of c.args.tick c.args.head.cpus) i.so_far.events (content_of (g.S.Shelf.holds c.args.shelf.now) c.args.lines.now.name) c.args.lines.now c.lines.lines c.play_next.new.lines (g.S.Shelf.bytes_read c.args.shelf.now) (g.S.Shelf.bytes_read c.lines.shelf) (g.S.Shelf.bytes_read c.play_next.new.shelf) _ i.bytes_read c.in-Err.ensures.reads.counted c.in-Err.ensures.reads.place i.lines i.so_far.read keeps

pub returns-then-is_ended-clause-stops : goal.returns-then-is_ended-clause-stops
returns-then-is_ended-clause-stops g c =
    let i = c.lines.invariant in
    let known = content_of (g.S.Shelf.holds c.args.shelf.now) c.args.lines.now.name in
    let next = rw (i.kept, i.name) at c.in-Ok.ensures.content in
    let one = laws.one_more (verbs_in c.args.head.version) (Legally (verbs_in c.args.head.version) (g.P.Player.Played c.lines.player)) (Legally (verbs_in c.args.head.version) (g.P.Player.Played c.play_next.new.player)) (limits_of c.args.tick c.args.head.cpus) c.lines.lines.number _ (left c.args.lines.now) (left c.lines.lines) (left c.play_next.new.lines) known tt c.in-Ok.ensures.reads.number i.so_far next in
    let before = rw (i.kept, i.name) at c.in-Ok.ensures.stays in
    let keeps = stop.known_keeps _ _ _ _ c.play_next.new.lines c.close.new.lines _ (c.play_next.ensures.unchanged ∙ i.kept) (c.in-Ok.ensures.reads.name ∙ i.name) c.close.ensures.stays in
    stop.stops_here (verbs_in c.args.head.version) (limits_of c.args.tick c.args.head.cpus) one.events known c.args.lines.now c.play_next.new.lines c.close.new.lines (g.S.Shelf.bytes_read c.args.shelf.now) (g.S.Shelf.bytes_read c.play_next.new.shelf) (g.S.Shelf.bytes_read c.close.new.shelf) _ (omega (arith, i.bytes_read, c.in-Ok.ensures.reads.counted)) c.close.ensures.bytes_read c.close.ensures.place
    (λ bytes shows. before.lines bytes shows ∙ i.lines bytes shows) one.read keeps

pub returns-in-Err-clause-order : goal.returns-in-Err-clause-order
returns-in-Err-clause-order g c =
    let i = c.lines.invariant in
    file_then _ _ _ _ _ _ _ i.order (rw i.name at c.in-Err.ensures.order)

pub returns-then-is_ended-clause-order : goal.returns-then-is_ended-clause-order
returns-then-is_ended-clause-order g c =
    let i = c.lines.invariant in
    let first = reads_then _ _ _ _ _ _ _ i.order (rw i.name at c.in-Ok.ensures.order) in
    file_then _ _ _ _ _ _ _ first (rw (c.in-Ok.ensures.reads.name ∙ i.name) at c.close.ensures.order)
