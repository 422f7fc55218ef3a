use Rattle.std.proofs.Common.{◌≡◌, ◌++◌, take, drop, length, sym, rules}
use Rattle.std.proofs.Math.Seq.{take-append_seam}
use Rattle.slot_clocks.specs.Clocks.{parent_numbers}
use Rattle.side_watch.proofs.Watching as laws
use Rattle.side_watch.proofs.watch.SideWatch.advance.Goals as goal

pub returns : goal.returns
returns c =
    let each = rw c.deref_mut.ensures.value at c.take_due-taken.ensures.each in
    let cells = rw (c.deref_mut.ensures.value, c.deref.ensures.value) at c.take_due-taken.ensures.cells in
    let kept : take c.self.inside.cells.len (c.take_due-taken.new.cells ++ drop (length c.take_due-taken.new.cells) c.self.inside.cells.items) ≡ c.take_due-taken.new.cells =
    rw (let size : c.self.inside.cells.len ≡ length c.take_due-taken.new.cells = search rules in size) (take-append_seam _ _) in
    record {
      advances = rw kept (laws.advances_by c.args.self.now c.self.inside.cells.items c.take_due-taken.new.cells (parent_numbers c.self.inside.parents.items) c.self.inside.host c.take_due-taken.new.host
          c.self.inside.taken c.take_due-taken.result c.args.sides.now c.args.at (sym c.self.view_is) each cells c.take_due-taken.ensures.hosts c.take_due-taken.ensures.taken);
    }
