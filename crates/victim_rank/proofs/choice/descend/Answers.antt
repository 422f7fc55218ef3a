use Rattle.std.proofs.Common.{◌-◌, ◌∙◌, ap, arith, length}
use Rattle.victim_rank.proofs.Chosen.{descent_step, descent_stops}
use Rattle.victim_rank.proofs.choice.descend.Goals as goal

pub levels-preserved : goal.levels-preserved
levels-preserved c = λ history past.
    let scope = c.args.scope.now in
    let chosen = rw (c.below.ensures, c.in-Some.is) at (c.choose.ensures history past) in
    descent_step scope.lives scope.act c.args.reading.now.seen history (length scope.lives)
    c.levels.counter c.levels.last c.in-Some.child
    (omega (arith, c.levels-test.true, ap length c.lives-end.ensures)) chosen
    ∙ c.levels.invariant history past

pub returns-in-None : goal.returns-in-None
returns-in-None c = λ history past.
    let scope = c.args.scope.now in
    let chosen = rw (c.below.ensures, c.in-None.is) at (c.choose.ensures history past) in
    descent_stops scope.lives scope.act c.args.reading.now.seen history
    (length scope.lives - c.levels.counter) c.levels.last chosen
    ∙ c.levels.invariant history past
