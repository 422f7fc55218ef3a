use Rattle.std.proofs.Common.{arith, refl, ◌+◌}
use Rattle.psi_trace.proofs.Prefixes.{below_more, digit_more, has_room}
use Rattle.psi_trace.proofs.prefix.continue_digits.Goals as goal

pub overflow_mul-number : goal.overflow_mul-number
overflow_mul-number c =
    let room = has_room c.digits.count c.digits.number c.digits.invariant.below (omega (arith, c.digits-test.true, c.min-most.ensures)) in omega (arith, room)

pub overflow_add-number : goal.overflow_add-number
overflow_add-number c =
    let room = has_room c.digits.count c.digits.number c.digits.invariant.below (omega (arith, c.digits-test.true, c.min-most.ensures)) in omega (arith, room, c.in-Some.ensures.high, c.in-Some.ensures.is)

pub digits-preserved : goal.digits-preserved
digits-preserved c = record {
  are = digit_more c.args.bytes.now c.digits.count (c.digits.count + 1) c.digits.number c.in-Some.next refl c.digits.invariant.are (omega (arith, c.digits-test.true, c.min-most.ensures)) c.in-Some.ensures;
  below = below_more c.digits.count (c.digits.count + 1) c.digits.number c.in-Some.next _ refl c.digits.invariant.below c.in-Some.ensures;
  few = omega (arith, c.digits-test.true, c.min-most.ensures);
}
