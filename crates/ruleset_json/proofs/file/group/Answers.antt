use Rattle.std.proofs.Common.{rules}
use Rattle.ruleset_json.specs.Rules.{group_at}
use Rattle.ruleset_json.proofs.file.group.Goals as goal

pub returns-clause-value : goal.returns-clause-value
unfolding group_at
returns-clause-value c = rw (c.in_ok-items.ensures.read, c.in_ok-first.ensures, c.in_ok-name.ensures, ← c.rest.ensures.rest, c.in_ok-detectors.ensures.value) (search rules)

pub returns-in_err-detectors-clause-value : goal.returns-in_err-detectors-clause-value
unfolding group_at
returns-in_err-detectors-clause-value c = rw (c.in_ok-items.ensures.read, c.in_ok-first.ensures, c.in_ok-name.ensures, ← c.rest.ensures.rest) (search rules)
