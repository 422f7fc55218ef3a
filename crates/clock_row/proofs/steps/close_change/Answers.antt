use Rattle.std.proofs.Common.{arith, rules, ℕ, ◌+◌, subst, sym}
use Rattle.clock_row.specs.Words.{AreClockWords}
use Rattle.clock_row.specs.Seats.{writer_on}
use Rattle.clock_row.proofs.Keeps.{close_keeps}
use Rattle.clock_row.proofs.steps.close_change.Goals as goal

pub store-requires : goal.store-requires
store-requires c = (
  search rules,
  search rules,
  close_keeps _ _ _ _ _ c.requires.writer (omega (arith, c.requires.count)) c.requires.changing
      (subst (λ (k : ℕ). AreClockWords (writer_on c.args.seat.now).plan (k + 1) (writer_on c.args.seat.now).body) (sym c.requires.count) c.requires.clocks),
)
