use Rattle.std.proofs.Common.{ℕ, ◌<◌, get_or}
use Rattle.psi_spec.specs.declared.machine.GroupLife.{GroupLife}
use Rattle.psi_spec.specs.Within.{last_moment}
use Rattle.tick_engine.specs.Engine.{IsLifeWithin}
use Rattle.pressure_tests.proofs.engine.checks.are_lives.Given as goal

abbrev pub invariant-lives : goal.invariant-lives
invariant-lives l = (k : ℕ) (d : GroupLife) → k < l.life-index → IsLifeWithin last_moment (get_or l.lives k d)
