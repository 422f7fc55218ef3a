use Rattle.std.proofs.Common.{rules, tests, ◌∙◌}
use Rattle.std.specs.Str.{bytes_eq}
use Rattle.std.proofs.lemmas.Iterator.{YieldsList-from_slice}
use Rattle.std.proofs.lemmas.Iterator.Search.{find_from_yields_List}
use Rattle.psi_base.specs.Words.{preference_word, preferences}
use Rattle.psi_base.proofs.event.Preference.of.Goals as goal

pub returns : goal.returns
returns c =
    let found = find_from_yields_List (λ preference. bytes_eq c.args.word.now (preference_word preference)) _ _ _ c.find.ensures.ran (YieldsList-from_slice preferences cc) (λ x b q k. search (rules, tests)) in
    c.copied.ensures ∙ found
