use Rattle.std.proofs.Common.{◌∙◌, ap}
use Rattle.clap.proofs.WalkLemmas.{first_value-rows}
use Rattle.clap.specs.Words.{found_of}
use Rattle.run_spec.specs.Words.{ParsedWords}
use Rattle.psi_words.specs.Clap.{positional_id}
use Rattle.psi_words.proofs.parsed.Parsed.positional.Goals as goal

pub returns : goal.returns
returns c =
    c.get_str.ensures ∙ (first_value-rows (found_of c.self.inside.found) positional_id
    ∙ ap (λ (g : ParsedWords). g.positional) c.self.view_is)
