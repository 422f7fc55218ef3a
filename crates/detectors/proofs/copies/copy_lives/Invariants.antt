use Rattle.std.proofs.Common.{◌≡◌, take}
use Rattle.detectors.proofs.copies.copy_lives.Given as goal

abbrev pub invariant-lives : goal.invariant-lives
invariant-lives l = l.copies.items ≡ take l.life-index l.lives
