use Rattle.std.proofs.Common.{[]}
use Rattle.outside.proofs.Grows.{PutsAll-failed}
use Rattle.run_spec.specs.Replay.{group_report, last_line, root_group, stress_text, tick_count, with_rules}
use Rattle.replay_ticks.proofs.Pieces.{prefix_of_both, puts_then}
use Rattle.commands.proofs.GeneratedLaws.{end_made, none_made, stress_none, stress_some}
use Rattle.commands.proofs.generated.put_end.Goals as goal

pub returns-in_err-put_root-clause-bytes : goal.returns-in_err-put_root-clause-bytes
returns-in_err-put_root-clause-bytes g c = λ trace timing is.
    let so = c.ticks.invariant trace timing is in
    let ended = end_made c.ticks.replay c.pass.new.self trace timing c.ticks.ticked c.pass.result so c.if-not-ticked.false c.ticks-test.false (c.pass.ensures trace timing [] c.ticks.replay.made so.is) in
    let root = group_report trace timing (tick_count trace timing) root_group in
    let prefix = prefix_of_both (g.K.Sink.has c.args.out.now) (g.K.Sink.has c.put_root.new.out) root (last_line trace timing (with_rules [])) (c.in_err-put_root.ensures.bytes trace timing [] (tick_count trace timing) ended.1 ended.0) in
    PutsAll-failed (g.K.Sink.has c.args.out.now) (g.K.Sink.has c.put_root.new.out) c.from_residual.result (stress_text trace timing) c.from_residual.ensures.0
    (rw (stress_some trace timing ended.1) prefix)

pub returns-then-not-ticked-clause-bytes : goal.returns-then-not-ticked-clause-bytes
returns-then-not-ticked-clause-bytes g c = λ trace timing is.
    let so = c.ticks.invariant trace timing is in
    let ended = none_made c.ticks.replay c.pass.new.self trace timing c.ticks.ticked c.pass.result so c.if-not-ticked.true c.ticks-test.false (c.pass.ensures trace timing [] c.ticks.replay.made so.is) in
    rw (stress_none trace timing ended.1) (c.finish.ensures.bytes trace timing [] ended.0)

pub returns-clause-bytes : goal.returns-clause-bytes
returns-clause-bytes g c = λ trace timing is.
    let so = c.ticks.invariant trace timing is in
    let ended = end_made c.ticks.replay c.pass.new.self trace timing c.ticks.ticked c.pass.result so c.if-not-ticked.false c.ticks-test.false (c.pass.ensures trace timing [] c.ticks.replay.made so.is) in
    let root = group_report trace timing (tick_count trace timing) root_group in
    rw (stress_some trace timing ended.1)
    (puts_then (g.K.Sink.has c.args.out.now) (g.K.Sink.has c.put_root.new.out) (g.K.Sink.has c.finish-2.new.out) c.finish-2.result root (last_line trace timing (with_rules []))
    (c.in_ok-put_root.ensures.bytes trace timing [] (tick_count trace timing) ended.1 ended.0)
    (c.finish-2.ensures.bytes trace timing [] ended.0))
