use Rattle.replay_ticks.proofs.AheadLaws as ahead
use Rattle.replay_ticks.proofs.TickLaws as laws
use Rattle.replay_ticks.proofs.replay.sample.Goals as goal

pub fill-requires-clause-first : goal.fill-requires-clause-first
fill-requires-clause-first c =
    let is = c.requires.3 in
    ahead.first_is c.args.crew.now.plans c.args.crew.now c.requires.0 c.requires.1 c.requires.2 c.args.at is.ready is.at_is

pub tick-requires-clause-next : goal.tick-requires-clause-next
tick-requires-clause-next c =
    let is = c.requires.3 in
    laws.tick_next c.args.crew.now.plans c.args.engine.now c.requires.0 c.requires.1 c.requires.2 c.args.at c.fill.new.rows is.planned is.left is.at_is is.ticked c.fill.ensures.table

pub returns-clause-sampled : goal.returns-clause-sampled
returns-clause-sampled c = λ trace timing i is.
    let after = ahead.handed_out c.args.crew.now.plans c.args.crew.now c.fill.new.self trace timing i is.ready c.fill.ensures.unchanged in
    laws.is_sampled c.args.crew.now.plans c.fill.new.self c.fill.new.rows c.args.engine.now c.tick.new.self trace timing i c.args.at
    is.planned is.at_is is.ticked after c.fill.ensures.table c.tick.ensures.stands
