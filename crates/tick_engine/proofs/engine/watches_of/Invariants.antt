use Rattle.std.proofs.Common.{◌≡◌, take}
use Rattle.std.specs.Prelude.{map}
use Rattle.tick_engine.specs.Step.{new_watch}
use Rattle.tick_engine.proofs.engine.watches_of.Given as goal

abbrev pub invariant-triggers : goal.invariant-triggers
invariant-triggers l = l.watches.items ≡ map new_watch (take l.trigger-index l.triggers)
