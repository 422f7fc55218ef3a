use Rattle.group_tree.proofs.Paths.{path_order_is}
use Rattle.group_tree.proofs.order.path_order.Goals as goal

pub returns : goal.returns
returns c = path_order_is c.args.lives.now c.in_ok-slots.slots.items _ c.in_ok-slots.ensures c.sorted_by_path.ensures.same c.sorted_by_path.ensures.sorted
