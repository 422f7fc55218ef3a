use Rattle.std.proofs.Common.{arith}
use Rattle.convert_table.proofs.Prefixed.{count_parts}
use Rattle.convert_table.proofs.read.read_table.Goals as goal

pub read_lines-requires : goal.read_lines-requires
read_lines-requires c = rw c.new.ensures (omega (arith, count_parts 10 c.args.bytes.now))
