use Rattle.std.proofs.Common.{◌≡◌, take}
use Rattle.psi_spec.specs.Stall.{parents_of}
use Rattle.slot_clocks.specs.Clocks.{parent_numbers}
use Rattle.side_watch.proofs.watch.parents_of.Given as goal

abbrev pub invariant-lives : goal.invariant-lives
invariant-lives l = parent_numbers l.parents.items ≡ parents_of (take l.life-index l.lives)
