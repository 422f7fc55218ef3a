use Rattle.std.proofs.Common.{ap, arith, rules, refl}
use Rattle.run_spec.specs.Run.{run_counts}
use Rattle.run_outcomes.proofs.RunOrder.{stopped_order}
use Rattle.replay_core.proofs.RunEnds.{runs_below, runs_sent, runs_unsent}
use Rattle.replay_core.proofs.entry.run_buffered.Goals as goal

pub returns-in-Done-clause-runs : goal.returns-in-Done-clause-runs
returns-in-Done-clause-runs g c =
    let made = c.new-buffered.ensures.made in
    let runs = rw (made.0, made.1) at c.in-Done.ensures.runs in
    let h = runs_unsent _ _ _ _ _ _ _ _ _ _ runs c.in-Err-flush.ensures.bytes (grind arith) refl c.in-Err-flush.ensures.cause.failed in
    search (rules, h)

pub returns-in-Ok-flush-clause-runs : goal.returns-in-Ok-flush-clause-runs
returns-in-Ok-flush-clause-runs g c =
    let made = c.new-buffered.ensures.made in
    let runs = rw (made.0, made.1) at c.in-Done.ensures.runs in
    let same = ap (run_counts (g.S.Shelf.faults c.run_command.new.shelf) (g.S.Shelf.absent c.run_command.new.shelf)) c.in-Ok-flush.ensures.cause.same in
    let h = runs_sent _ _ _ _ _ _ _ _ _ _ runs c.in-Ok-flush.ensures.bytes c.in-Ok-flush.ensures.all same in
    search (rules, h)

pub returns-clause-runs : goal.returns-clause-runs
returns-clause-runs g c =
    let made = c.new-buffered.ensures.made in
    let runs = rw (made.0, made.1) at c.run_command.ensures.runs in
    let h = runs_below _ _ _ _ _ _ _ c.run_command.result c.in_default.not-Done runs (grind arith) in
    search (rules, h)

pub returns-in-Err-clause-order : goal.returns-in-Err-clause-order
returns-in-Err-clause-order g c = stopped_order c.args.command.now (g.S.Shelf.holds c.args.shelf.now) _
