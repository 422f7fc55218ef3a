use Rattle.std.proofs.Common.{◌≡◌, ◌++◌, ◌∷◌, [], length, rules, arith}
use Rattle.std.proofs.lemmas.Grind.{common_steps}
use Rattle.std.proofs.lemmas.List.Elements.{All-push}
use Rattle.ruleset_json.specs.declared.fault.Place.TheVariants as place
use Rattle.ruleset_json.specs.Ranges.{FitsDetector}
use Rattle.ruleset_json.specs.Rules.{detector_in}
use Rattle.ruleset_json.proofs.Each.{item_taken, item_faulted}
use Rattle.ruleset_json.proofs.file.detectors.Goals as goal

pub returns-in-Err-clause-value : goal.returns-in-Err-clause-value
returns-in-Err-clause-value c = item_faulted (λ k. detector_in (place.Detector c.args.rule c.args.group k)) c.args.items.now c.items.index _ c.items.found.items _ _ (search rules) c.index-items-index.is c.items.invariant.read c.in-Err.ensures.value

pub items-preserved : goal.items-preserved
items-preserved c =
    let pushed : c.push.new.self.items ≡ c.items.found.items ++ c.in-Ok.one ∷ [] = search rules in
    let counted : length c.items.found.items ≡ c.items.index = c.items.invariant.count in
    rw pushed (record {
      read = item_taken (λ k. detector_in (place.Detector c.args.rule c.args.group k)) c.args.items.now c.items.index _ c.items.found.items _ _ (search rules) c.index-items-index.is c.items.invariant.read c.in-Ok.ensures.value;
      count = grind (arith, common_steps);
      fits = All-push FitsDetector c.items.found.items c.in-Ok.one c.items.invariant.fits c.in-Ok.ensures.range;
    })
