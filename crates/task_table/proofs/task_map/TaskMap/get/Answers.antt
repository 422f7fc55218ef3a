use Rattle.std.proofs.Common.{rules}
use Rattle.task_table.proofs.Tabled as tabled
use Rattle.task_table.proofs.task_map.TaskMap.get.Goals as goal

pub returns-in-Some : goal.returns-in-Some
returns-in-Some c = rw (← c.self.view_is, tabled.get_listed c.self.inside.listed.items c.self.inside.others.entries c.args.pid (search rules)) (search rules)

pub returns-in-None : goal.returns-in-None
returns-in-None c = rw (← c.self.view_is, tabled.get_other c.self.inside.listed.items c.self.inside.others.entries c.args.pid (search rules)) (search rules)
