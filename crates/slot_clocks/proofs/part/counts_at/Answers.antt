use Rattle.std.proofs.Common.{refl}
use Rattle.slot_clocks.proofs.CountsTable.{are_rows, counts_table, row_is}
use Rattle.slot_clocks.proofs.part.counts_at.Goals as goal

pub returns : goal.returns
unfolding are_rows
returns c = rw c.from-place.ensures (row_is counts_table 16 c.args.bits refl c.requires)
