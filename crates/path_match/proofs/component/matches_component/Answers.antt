use Rattle.std.proofs.Common.{arith, sym, ◌∙◌, drop}
use Rattle.std.proofs.lemmas.List.{take_rest}
use Rattle.path_match.proofs.Walk.{Fails, ended, fails, run_grows, star_passed, stars_left}
use Rattle.path_match.proofs.component.matches_component.Goals as goal
use Rattle.path_match.proofs.component.matches_component.Goals.{else-at-pattern-via-then-at-pattern+else-pattern-at-eq42, else-at-pattern-via-else-at-pattern, else-at-pattern-2-via-then-at-pattern-2+else-pattern-at, else-at-pattern-2-via-else-at-pattern-2}

pub walk-preserved-then-pattern-at-eq42 : goal.walk-preserved-then-pattern-at-eq42
walk-preserved-then-pattern-at-eq42 c = record {
  at_inside = omega arith;
  next_inside = omega arith;
  walked = star_passed c.args.pattern.now c.args.bytes.now c.walk.at c.walk.next c.walk.star c.walk.invariant.walked (omega arith) (omega arith);
}

pub walk-preserved : goal.walk-preserved
walk-preserved c =
    let other : Fails c.args.pattern.now c.args.bytes.now c.walk.at c.walk.next = λ inside. (
      elim c.else-at-pattern.branch [ else-at-pattern-via-then-at-pattern+else-pattern-at-eq42 w ↦ w.if-pattern-at-eq42.false | else-at-pattern-via-else-at-pattern w ↦ absurd (omega arith) ],
      elim c.else-at-pattern-2.branch [ else-at-pattern-2-via-then-at-pattern-2+else-pattern-at w ↦ w.if-pattern-at.false | else-at-pattern-2-via-else-at-pattern-2 w ↦ absurd (omega arith) ],
    ) in
    let after = rw c.in-Some.is at c.walk.invariant.walked in
    record {
      at_inside = omega (arith, after.inside);
      next_inside = omega (arith, after.inside, after.as_many);
      walked = run_grows c.args.pattern.now c.args.bytes.now c.walk.at c.walk.next c.in-Some.last.suffix c.in-Some.last.end after (omega arith) other;
    }

pub returns-in_default : goal.returns-in_default
returns-in_default c =
    let other : Fails c.args.pattern.now c.args.bytes.now c.walk.at c.walk.next = λ inside. (
      elim c.else-at-pattern.branch [ else-at-pattern-via-then-at-pattern+else-pattern-at-eq42 w ↦ w.if-pattern-at-eq42.false | else-at-pattern-via-else-at-pattern w ↦ absurd (omega arith) ],
      elim c.else-at-pattern-2.branch [ else-at-pattern-2-via-then-at-pattern-2+else-pattern-at w ↦ w.if-pattern-at.false | else-at-pattern-2-via-else-at-pattern-2 w ↦ absurd (omega arith) ],
    ) in
    let walked = rw c.in_default.is at c.walk.invariant.walked in
    sym (walked ∙ fails c.args.pattern.now c.args.bytes.now c.walk.at c.walk.next (omega arith) other)

pub returns : goal.returns
returns c =
    c.are_stars.ensures ∙ rw take_rest (stars_left (drop c.walk.at c.args.pattern.now) ∙ sym (ended c.args.pattern.now c.args.bytes.now c.walk.at c.walk.next c.walk.star c.walk.invariant.walked (omega arith) (omega arith)))
