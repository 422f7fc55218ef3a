use Rattle.std.proofs.Common.{◌≡◌, ◌-◌, arith, refl}
use Rattle.pressure_spec.specs.Ticks.{tick_moment}
use Rattle.replay_rules.proofs.JudgeLaws.{tick_later}
use Rattle.replay_rules.proofs.schedule.is_due.Goals as goal

pub overflow_sub-before : goal.overflow_sub-before
overflow_sub-before c =
    let later = tick_later c.args.length c.requires.tick.0 c.requires.tick.1 in
    omega (arith, later, c.requires.tick.2)

pub returns : goal.returns
returns c = λ tick some moment.
    let later = tick_later c.args.length tick some in
    let before : c.args.at - c.args.length ≡ tick_moment c.args.length (tick - 1) =
    omega (arith, later, moment) in
    rw (before, moment) refl
