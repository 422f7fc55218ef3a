use Rattle.std.proofs.Common.{◌≡◌, take}
use Rattle.kill_engine.specs.Rulesets.{match_tables}
use Rattle.kill_engine.proofs.ruleset.tables_of.Given as goal

abbrev pub invariant-actions : goal.invariant-actions
invariant-actions l = l.tables.items ≡ match_tables l.lives (take l.action-index l.actions)
