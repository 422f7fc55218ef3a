use Rattle.std.proofs.Common.{◌≡◌, ◌<◌, length, arith, subst, None}
use Rattle.std.specs.Prelude.{slice_index_or}
use Rattle.std.proofs.lemmas.List.{get_or_read}
use Rattle.slot_clocks.specs.Clocks.{cell_at, parent_numbers}
use Rattle.world_tests.specs.Processor.{IsTask}
use Rattle.world_tests.proofs.Sums.{can_follow}
use Rattle.world_tests.proofs.processor.Processor.change.Goals as goal

pub apply-requires-clause-fits : goal.apply-requires-clause-fits
apply-requires-clause-fits c =
    let self = c.args.self.now in
    let room : c.args.task < length self.tasks.items = omega (arith, c.if-task-len.false) in
    let part : c.index.result.now ≡ slice_index_or self.tasks.items c.args.task None = get_or_read self.tasks.items c.args.task c.index.result.now room c.index.ensures None in
    let groups : c.len-groups.result ≡ length self.parents.items = omega (arith, c.len-groups.ensures) in
    let is_task : IsTask (length self.parents.items) c.args.now = subst (λ n. IsTask n c.args.now) groups (c.is_task.ensures c.if-not-is_task.false) in
    rw (c.deref.ensures.value, c.new.ensures, part) (λ slot.
    can_follow (parent_numbers self.parents.items) slot (length self.parents.items) c.args.task self.tasks.items c.args.now (cell_at self.clocks slot).counts (self.kept.sums slot) self.kept.are_tasks is_task self.kept.few room)
