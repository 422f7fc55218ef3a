use Rattle.file_reader.proofs.Orders.{prefix_unread}
use Rattle.file_reader.proofs.prefix.read_prefix.Goals as goal

pub returns-in_err-bytes-clause-order : goal.returns-in_err-bytes-clause-order
returns-in_err-bytes-clause-order g c = prefix_unread _ _ _ c.from_residual.result c.from_residual.ensures.0 c.from_residual.ensures.1
