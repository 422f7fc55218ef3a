use Rattle.run_spec.proofs.WordTables.{order_is_free}
use Rattle.run_spec.proofs.command.law_option_order.Goals as goal

pub returns : goal.returns
returns c = order_is_free
