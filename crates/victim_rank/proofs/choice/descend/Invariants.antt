use Rattle.std.proofs.Common.{◌≡◌, ◌-◌, List, length}
use Rattle.kill_spec.specs.Readings.{Reading}
use Rattle.kill_spec.specs.Victims.{descended}
use Rattle.victim_rank.specs.Pasts.{IsPastOf}
use Rattle.victim_rank.proofs.choice.descend.Given as goal

abbrev pub invariant-levels : goal.invariant-levels
invariant-levels l = (history : List Reading) → IsPastOf l.past history →
    descended l.scope.lives l.scope.act l.reading.seen history (length l.scope.lives - l.counter)
    l.last ≡ descended l.scope.lives l.scope.act l.reading.seen history (length l.scope.lives)
    l.fn.chosen
