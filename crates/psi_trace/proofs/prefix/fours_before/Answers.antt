use Rattle.std.proofs.Common.{arith}
use Rattle.psi_trace.proofs.Prefixes.{below_four, four_more, four_small, has_room_for_four}
use Rattle.psi_trace.proofs.prefix.fours_before.Goals as goal

pub overflow_mul-number : goal.overflow_mul-number
overflow_mul-number c =
    let room = has_room_for_four c.fours.count c.fours.number c.fours.invariant.below (omega (arith, c.fours-test.true, c.min-most.ensures)) in omega (arith, room)

pub overflow_add-number : goal.overflow_add-number
overflow_add-number c =
    let room = has_room_for_four c.fours.count c.fours.number c.fours.invariant.below (omega (arith, c.fours-test.true, c.min-most.ensures)) in
    let small = four_small c.args.bytes.now c.fours.count c.in-Some.four c.in-Some.ensures in
    omega (arith, room, small)

pub fours-preserved : goal.fours-preserved
fours-preserved c = record {
  are = four_more c.args.bytes.now c.fours.count c.fours.number c.in-Some.four c.fours.invariant.are (omega (arith, c.fours-test.true, c.min-most.ensures)) c.in-Some.ensures;
  below = below_four c.args.bytes.now c.fours.count c.fours.number c.in-Some.four c.fours.invariant.below c.in-Some.ensures;
  few = omega (arith, c.fours-test.true, c.min-most.ensures);
}
