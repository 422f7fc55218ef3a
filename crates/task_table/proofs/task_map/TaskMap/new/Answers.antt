use Rattle.task_table.proofs.Tabled as tabled
use Rattle.task_table.proofs.task_map.TaskMap.new.Goals as goal

pub invariant_of-result : goal.invariant_of-result
invariant_of-result c = tabled.count_none 65536 _ _ c.in_ok-empty_places.ensures c.new.ensures.empty

pub returns : goal.returns
returns c = tabled.none_in 65536 _ _ c.in_ok-empty_places.ensures c.new.ensures.empty
