use Rattle.std.proofs.Common.{◌≡◌, ◌++◌, ◌∷◌, [], length, rules, arith}
use Rattle.std.proofs.lemmas.Grind.{common_steps}
use Rattle.ruleset_json.specs.Parts.{part_at}
use Rattle.ruleset_json.proofs.Each.{item_taken, item_faulted}
use Rattle.ruleset_json.proofs.file.parts.Goals as goal

pub returns-in-Err-clause-value : goal.returns-in-Err-clause-value
returns-in-Err-clause-value c = item_faulted part_at c.args.items.now c.items.index _ c.items.found.items _ _ (search rules) c.index-items-index.is c.items.invariant.read c.in-Err.ensures.value

pub items-preserved : goal.items-preserved
items-preserved c =
    let pushed : c.push.new.self.items ≡ c.items.found.items ++ c.in-Ok.one ∷ [] = search rules in
    let counted : length c.items.found.items ≡ c.items.index = c.items.invariant.count in
    rw pushed (record {
      read = item_taken part_at c.args.items.now c.items.index _ c.items.found.items _ _ (search rules) c.index-items-index.is c.items.invariant.read c.in-Ok.ensures.value;
      count = grind (arith, common_steps);
    })
