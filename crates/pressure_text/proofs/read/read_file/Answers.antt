use Rattle.pressure_text.proofs.KnownLaws.{file_exact, file_none}
use Rattle.pressure_text.proofs.read.read_file.Goals as goal

pub returns-clause-exact : goal.returns-clause-exact
returns-clause-exact c = file_exact c.args.bytes.now c.file_of.result c.file_of.ensures

pub returns-clause-none : goal.returns-clause-none
returns-clause-none c = file_none c.args.bytes.now c.file_of.result c.file_of.ensures
