use Rattle.std.proofs.Common.{◌≡◌, ◌+◌, None}
use Rattle.observe_core.specs.Observing.{HaveLooked}
use Rattle.observe_core.proofs.looks.look_at_all.Given as goal

abbrev pub invariant-cpus : goal.invariant-cpus
invariant-cpus g l = HaveLooked l.fn.slot.0 l.fn.lasts l.place l.fn.watcher l.watcher × (l.share.parts ≡ l.fn.share.parts)
    × (l.fell ≡ None → l.share.amount ≡ l.fn.share.amount + l.place)
