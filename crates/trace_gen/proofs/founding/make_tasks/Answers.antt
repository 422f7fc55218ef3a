use Rattle.std.proofs.Common.{◌+◌, ◌++◌, ap, ◌∙◌, arith, map}
use Rattle.std.specs.List.{range_with_len}
use Rattle.run_spec.specs.Generated.{at_start, made_task}
use Rattle.trace_gen.proofs.Drawing.{one_in_row}
use Rattle.trace_gen.proofs.FirstEvents.{task_legal}
use Rattle.trace_gen.proofs.founding.make_tasks.Goals as goal

pub tasks-preserved : goal.tasks-preserved
tasks-preserved c = record {
  items = one_in_row (λ pid. at_start (made_task c.args.shape pid)) c.args.events.now.items c.tasks.events.items c.play.new.events.items 1 c.tasks.index (c.tasks.index + 1) c.in_ok-made_task.field-0 (omega arith) c.tasks.invariant.items c.in_ok-play.ensures.items c.in_ok-made_task.ensures;
  world = c.in_ok-play.ensures.world;
  limits = c.in_ok-play.ensures.limits ∙ c.tasks.invariant.limits;
}

pub play-requires-clause-legal : goal.play-requires-clause-legal
play-requires-clause-legal c =
    let tasks = map (λ pid. at_start (made_task c.args.shape pid)) (range_with_len 1 c.tasks.index) in
    task_legal c.args.shape c.requires.shaped c.tasks.index (omega arith) c.tasks.table c.tasks.events.items c.in_ok-made_task.field-0 (c.tasks.invariant.limits ∙ c.requires.limits) c.tasks.invariant.world (c.tasks.invariant.items ∙ ap (λ es. es ++ tasks) c.requires.groups) c.in_ok-made_task.ensures
