use Rattle.std.proofs.Common.{refl}
use Rattle.run_spec.specs.Generated.{generated}
use Rattle.run_spec.specs.Outputs.{timing_of, stress_options}
use Rattle.commands.proofs.GeneratedLaws.{planned_generated}
use Rattle.commands.proofs.generated.write_stress.Goals as goal

pub prepare-requires-clause-planned : goal.prepare-requires-clause-planned
prepare-requires-clause-planned g c =
    rw c.stress_options-options.ensures
    (generated c.args.shape, planned_generated c.in-Ok.planner c.in-Ok-finish.plans c.args.shape c.args.workers c.requires.shape c.requires.workers c.in-Ok.ensures c.in-Ok-finish.ensures)

pub put_end-requires-after_bounds : goal.put_end-requires-after_bounds
put_end-requires-after_bounds g c κs within =
    let planned = planned_generated c.in-Ok.planner c.in-Ok-finish.plans c.args.shape c.args.workers c.requires.shape c.requires.workers c.in-Ok.ensures c.in-Ok-finish.ensures in
    let fresh = rw c.stress_options-options.ensures at c.in-Ok-prepare.ensures.replay (generated c.args.shape) planned refl in
    (generated c.args.shape, timing_of (stress_options c.args.workers), fresh)

pub returns-in-Ok-put_end-clause-writes : goal.returns-in-Ok-put_end-clause-writes
returns-in-Ok-put_end-clause-writes g c =
    let planned = planned_generated c.in-Ok.planner c.in-Ok-finish.plans c.args.shape c.args.workers c.requires.shape c.requires.workers c.in-Ok.ensures c.in-Ok-finish.ensures in
    let fresh = rw c.stress_options-options.ensures at c.in-Ok-prepare.ensures.replay (generated c.args.shape) planned refl in
    (c.in-Ok-put_end.ensures.bytes (generated c.args.shape) (timing_of (stress_options c.args.workers)) fresh, c.in-Ok-put_end.ensures.cause.same)

pub returns-clause-writes : goal.returns-clause-writes
returns-clause-writes g c =
    let planned = planned_generated c.in-Ok.planner c.in-Ok-finish.plans c.args.shape c.args.workers c.requires.shape c.requires.workers c.in-Ok.ensures c.in-Ok-finish.ensures in
    let fresh = rw c.stress_options-options.ensures at c.in-Ok-prepare.ensures.replay (generated c.args.shape) planned refl in
    (c.in-Err-put_end.ensures.bytes (generated c.args.shape) (timing_of (stress_options c.args.workers)) fresh, c.in-Err-put_end.ensures.cause.failed)
