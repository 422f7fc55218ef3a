use Rattle.std.proofs.Common.{◌≡◌, take}
use Rattle.clap.specs.Simple.{app_of}
use Rattle.psi_words.proofs.Adding.{app_with, option_rules}
use Rattle.psi_words.proofs.parsed.command.Given as goal

abbrev pub invariant-options : goal.invariant-options
invariant-options l = app_of l.command ≡ app_with (option_rules (take l.name-index l.names))
