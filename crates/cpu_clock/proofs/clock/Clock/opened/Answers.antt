use Rattle.std.proofs.Common.{sym, ◌∙◌}
use Rattle.psi_counts.specs.Clock.{ClockView}
use Rattle.cpu_clock.proofs.Idle.{idle_clock}
use Rattle.cpu_clock.proofs.clock.Clock.opened.Goals as goal

pub returns-then-bits-eq0 : goal.returns-then-bits-eq0
returns-then-bits-eq0 c =
    let clock : ClockView = record { times = c.self.inside.times; mask = c.self.inside.mask; start = c.self.inside.start } in
    rw (← c.self.view_is) (idle_clock clock c.args.at c.self.invariant (sym c.bits.ensures.value ∙ c.if-bits-eq0.true))
