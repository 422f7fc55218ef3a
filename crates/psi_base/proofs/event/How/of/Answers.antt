use Rattle.std.proofs.Common.{rules, tests, ◌∙◌}
use Rattle.std.specs.Str.{bytes_eq}
use Rattle.std.proofs.lemmas.Iterator.{YieldsList-from_slice}
use Rattle.std.proofs.lemmas.Iterator.Search.{find_from_yields_List}
use Rattle.psi_base.specs.Words.{how_word, hows}
use Rattle.psi_base.proofs.event.How.of.Goals as goal

pub returns : goal.returns
returns c =
    let found = find_from_yields_List (λ how. bytes_eq c.args.word.now (how_word how)) _ _ _ c.find.ensures.ran (YieldsList-from_slice hows cc) (λ x b q k. search (rules, tests)) in
    c.copied.ensures ∙ found
