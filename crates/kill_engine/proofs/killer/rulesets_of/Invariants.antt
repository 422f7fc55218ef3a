use Rattle.std.proofs.Common.{[]}
use Rattle.kill_engine.specs.Killers.{RulesetsRepresent}
use Rattle.kill_engine.proofs.killer.rulesets_of.Given as goal

abbrev pub invariant-rules : goal.invariant-rules
invariant-rules l = RulesetsRepresent l.lives [] 0 l.rulesets.items l.yielded
