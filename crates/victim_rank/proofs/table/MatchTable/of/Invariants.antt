use Rattle.std.proofs.Common.{◌≡◌, take}
use Rattle.detectors.specs.Tables.{match_table}
use Rattle.kill_spec.specs.Victims.{action_patterns}
use Rattle.victim_rank.proofs.table.MatchTable.of.Given as goal

abbrev pub invariant-lives : goal.invariant-lives
invariant-lives l = l.slots.items ≡ match_table (take l.life-index l.lives) (action_patterns l.action)
