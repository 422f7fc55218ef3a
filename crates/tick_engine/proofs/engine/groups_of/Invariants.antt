use Rattle.std.proofs.Common.{◌≡◌, take}
use Rattle.std.specs.Prelude.{map}
use Rattle.tick_engine.specs.Step.{unsampled_group}
use Rattle.tick_engine.proofs.engine.groups_of.Given as goal

abbrev pub invariant-lives : goal.invariant-lives
invariant-lives l = l.groups.items ≡ map unsampled_group (take l.life-index l.lives)
