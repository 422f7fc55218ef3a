use Rattle.std.proofs.Common.{◌∙◌, Global, arith, string_bytes}
use Rattle.convert_core.proofs.Names.{names_are}
use Rattle.convert_core.proofs.command.are_names.Goals as goal

pub returns-clause-exact : goal.returns-clause-exact
returns-clause-exact c = c.all_names.ensures ∙ names_are (string_bytes {Z = Global}) c.args.names.now (omega arith) (omega arith)
