use Rattle.std.proofs.Common.{◌<◌, ◌^◌, rules}
use Rattle.trace_player.specs.TaskActs.{as_event}
use Rattle.psi_trace.specs.Prefix.{BeginsWithEvent}
use Rattle.psi_trace.proofs.Prefixes.{counted_prefix}
use Rattle.psi_trace.proofs.prefix.take_prefix.Goals as goal

pub take_task-answer-requires-clause-fits : goal.take_task-answer-requires-clause-fits
take_task-answer-requires-clause-fits g c = let fits : c.in_ok-at.at < 2 ^ 64 = search rules in (c.in_ok-act.ensures.begins c.in_ok-at.at fits).fits

pub returns-clause-prefix : goal.returns-clause-prefix
returns-clause-prefix g c =
    let fits : c.in_ok-at.at < 2 ^ 64 = search rules in
    let event = as_event c.in_ok-at.at c.in_ok-act.act in
    let begins : BeginsWithEvent c.args.bytes.now event c.in_ok-act.rest.now = rw c.in_ok-at.ensures (c.in_ok-act.ensures.begins c.in_ok-at.at fits) in
    record {
      event = event;
      prefix = counted_prefix c.args.bytes.now event c.in_ok-act.rest.now begins;
      takes = c.take_task-answer.ensures;
    }
