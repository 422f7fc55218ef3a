use Rattle.replay_rules.proofs.ReadingLaws.{readings_are_readings}
use Rattle.replay_rules.proofs.laws.law_readings.Goals as goal

pub returns : goal.returns
returns c = readings_are_readings
