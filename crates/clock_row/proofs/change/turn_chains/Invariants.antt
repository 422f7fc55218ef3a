use Rattle.std.proofs.Common.{◌≡◌, ℕ, ◌+◌, ◌<◌}
use Rattle.std.specs.Prelude.{None, slice_index_or}
use Rattle.clock_row.specs.Seats.{writer_on}
use Rattle.clock_row.specs.Turning.{ChainIsDone, HasTurned, IsTurning}
use Rattle.clock_row.proofs.change.turn_chains.Given as goal

-- The chains that the loop has passed are updated.
abbrev pub invariant-chains : goal.invariant-chains
invariant-chains l = record {
  turning : IsTurning l.board.shared.table_id l.seat;
  turned : HasTurned l.fn.seat l.seat;
  plan : l.plan ≡ (writer_on l.seat).plan;
  clocks : l.clocks ≡ record { plan = (writer_on l.seat).plan; made = (writer_on l.seat).count + 1 };
  kept : l.clocks ≡ l.fn.clocks;
  done : (i : ℕ) → i < l.start-index → ChainIsDone l.seat (slice_index_or l.fn.starts i None);
}
