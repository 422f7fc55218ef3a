use Rattle.replay_rules.proofs.SeenLaws.{six_rows}
use Rattle.tick_engine.specs.Engine.{averages_in}
use Rattle.replay_rules.proofs.seen.averages_of.Goals as goal

pub returns-clause-averages : goal.returns-clause-averages
returns-clause-averages c =
    rw (
      c.get.ensures.value,
      c.get-2.ensures.value,
      c.get-3.ensures.value,
      c.get-4.ensures.value,
      c.get-5.ensures.value,
      c.get-6.ensures.value,
      c.averages-averages.ensures,
    )
    (six_rows (averages_in c.args.engine.now c.args.slot.0).averages c.requires.rows)
