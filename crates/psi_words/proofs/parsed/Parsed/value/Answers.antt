use Rattle.std.proofs.Common.{◌∙◌, ap}
use Rattle.clap.proofs.WalkLemmas.{first_value-rows}
use Rattle.clap.specs.Words.{found_of, rows_of}
use Rattle.run_spec.specs.Words.{option_value}
use Rattle.psi_words.proofs.Exact.{first_valued}
use Rattle.psi_words.proofs.parsed.Parsed.value.Goals as goal

pub returns : goal.returns
returns c =
    c.get_str.ensures ∙ (first_value-rows (found_of c.self.inside.found) c.args.name.now
    ∙ (first_valued c.args.name.now (rows_of (found_of c.self.inside.found)) c.requires
    c.self.invariant ∙ ap (option_value c.args.name.now) c.self.view_is))
