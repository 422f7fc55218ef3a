use Rattle.replay_workers.proofs.Tables.{table_is_of_events}
use Rattle.replay_workers.proofs.laws.law_tables.Goals as goal

pub returns : goal.returns
returns c = table_is_of_events
