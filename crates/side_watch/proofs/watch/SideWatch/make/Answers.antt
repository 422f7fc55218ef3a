use Rattle.std.proofs.Common.{◌≡◌, length, rules}
use Rattle.std.specs.Prelude.{replicate}
use Rattle.slot_clocks.specs.Clocks.{parent_numbers}
use Rattle.side_watch.specs.Sides.{zero_side_cell}
use Rattle.side_watch.proofs.Watching as laws
use Rattle.side_watch.proofs.watch.SideWatch.make.Goals as goal

pub returns-clause-begins : goal.returns-clause-begins
returns-clause-begins c =
    let cells : c.in_ok-vec.field-0.items ≡ replicate (length c.args.lives.now) zero_side_cell = search rules in
    laws.begins_as c.args.lives.now c.in_ok-vec.field-0.items (parent_numbers c.in_ok-parents_of.field-0.items) cells c.in_ok-parents_of.ensures
