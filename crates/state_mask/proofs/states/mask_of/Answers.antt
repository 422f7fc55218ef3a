use Rattle.std.proofs.Common.{rules}
use Rattle.state_mask.proofs.Table.{are_masks, table_are_masks, table_shows}
use Rattle.state_mask.proofs.states.mask_of.Goals as goal

pub from_bits-requires : goal.from_bits-requires
unfolding are_masks
from_bits-requires c = search (table_are_masks, rules)

pub returns-clause-states : goal.returns-clause-states
returns-clause-states c = search (table_shows, rules)
