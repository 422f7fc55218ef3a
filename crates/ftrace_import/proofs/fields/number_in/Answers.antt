use Rattle.std.proofs.Common.{arith}
use Rattle.ftrace_import.proofs.Bytes.{low_digits}
use Rattle.ftrace_import.proofs.fields.number_in.Goals as goal

pub returns-clause-below : goal.returns-clause-below
returns-clause-below c = low_digits c.args.digits.now c.args.most c.read_digits.result c.read_digits.ensures (omega arith)
