use Rattle.std.proofs.Common.{rules}
use Rattle.task_table.proofs.Tabled as tabled
use Rattle.task_table.proofs.task_map.TaskMap.remove.Goals as goal

pub overflow_sub-self : goal.overflow_sub-self
overflow_sub-self c = tabled.count_some _ _ c.args.pid c.self.invariant (search rules)

pub invariant_of-self : goal.invariant_of-self
invariant_of-self c =
    rw (tabled.whole c.self.inside.listed.len c.take-old.new.listed c.self.inside.listed.items (search rules)) (tabled.count_less _ _ _ c.args.pid c.self.invariant (search rules) (search rules))

pub invariant_of-self-else-is_some : goal.invariant_of-self-else-is_some
invariant_of-self-else-is_some c =
    rw (tabled.whole c.self.inside.listed.len c.take-old.new.listed c.self.inside.listed.items (search rules)) (tabled.count_kept _ _ _ c.args.pid c.self.invariant (search rules) (search rules))
