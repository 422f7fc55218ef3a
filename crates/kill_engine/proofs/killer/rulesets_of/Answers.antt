use Rattle.std.proofs.Common.{[]}
use Rattle.kill_engine.proofs.RulesetLaws as laws
use Rattle.kill_engine.proofs.killer.rulesets_of.Goals as goal

pub rules-preserved : goal.rules-preserved
rules-preserved c = rw c.in_ok-push.ensures.items (laws.rulesets_push c.args.lives.now [] 0 c.rules.rulesets.items c.rules.yielded c.in_ok-ruleset.ruleset c.in-Some.rule c.rules.invariant c.in_ok-ruleset.ensures)
