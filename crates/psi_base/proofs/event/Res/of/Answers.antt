use Rattle.std.proofs.Common.{rules, tests, ◌∙◌}
use Rattle.std.specs.Str.{bytes_eq}
use Rattle.std.proofs.lemmas.Iterator.{YieldsList-from_slice}
use Rattle.std.proofs.lemmas.Iterator.Search.{find_from_yields_List}
use Rattle.psi_base.specs.Words.{resource_word, resources}
use Rattle.psi_base.proofs.event.Res.of.Goals as goal

pub returns : goal.returns
returns c =
    let found = find_from_yields_List (λ res. bytes_eq c.args.word.now (resource_word res)) _ _ _ c.find.ensures.ran (YieldsList-from_slice resources cc) (λ x b q k. search (rules, tests)) in
    c.copied.ensures ∙ found
