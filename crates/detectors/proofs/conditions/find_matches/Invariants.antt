use Rattle.std.proofs.Common.{◌≡◌, take}
use Rattle.detectors.specs.Tables.{detector_patterns, match_table}
use Rattle.detectors.proofs.conditions.find_matches.Given as goal

abbrev pub invariant-lives : goal.invariant-lives
invariant-lives l = take l.slot l.matched ≡ match_table (take l.slot l.lives) (detector_patterns l.spec)
