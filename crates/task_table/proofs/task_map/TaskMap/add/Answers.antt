use Rattle.std.proofs.Common.{rules}
use Rattle.task_table.proofs.Tabled as tabled
use Rattle.task_table.proofs.task_map.TaskMap.add.Goals as goal

pub invariant_of-self-then-is_none : goal.invariant_of-self-then-is_none
invariant_of-self-then-is_none c =
    rw (tabled.whole c.self.inside.listed.len c.put.new.listed c.self.inside.listed.items (search rules)) (tabled.count_more _ _ _ c.args.pid c.args.task c.self.invariant (search rules) (search rules))

pub invariant_of-self-else-is_none : goal.invariant_of-self-else-is_none
invariant_of-self-else-is_none c =
    rw (tabled.whole c.self.inside.listed.len c.put.new.listed c.self.inside.listed.items (search rules)) (tabled.count_put _ _ _ c.args.pid c.args.task c.self.invariant (search rules) (search rules))
