-- Proofs that the values of a parsed command are in range.
use Rattle.std.proofs.Common.{Option, Result, Ok, Err, IfOk}
use Rattle.psi_base.specs.declared.event.Fault.{Fault}
use Rattle.run_spec.specs.declared.command.Command.{Command}
use Rattle.psi_base.specs.OptionSteps.{◌>>=◌}
use Rattle.run_spec.specs.Words.{ParsedWords}
use Rattle.run_spec.specs.LegalCommand.{IsCommand}
use Rattle.run_spec.proofs.RangeLaws.{GivesCommands, bind_some}
use Rattle.psi_words.specs.Reads.{ReadsWord}

pub in_range : {E : Type 0} (result : Result Command (Fault E)) (parsed : Option ParsedWords)
    (table : ParsedWords → Option Command) → GivesCommands table → ReadsWord result (parsed >>= table)
    → IfOk result IsCommand
in_range (Ok command) parsed table gives reads =
    let found = bind_some parsed table command reads in gives found.0 command found.2
in_range (Err why) parsed table gives reads = tt
