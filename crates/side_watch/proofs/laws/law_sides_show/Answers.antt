use Rattle.side_watch.proofs.SideValues as known
use Rattle.side_watch.proofs.laws.law_sides_show.Goals as goal

pub returns-clause-memory : goal.returns-clause-memory
returns-clause-memory c = known.memory_is_last

pub returns-clause-preference : goal.returns-clause-preference
returns-clause-preference c = known.preference_is_last

pub returns-clause-host : goal.returns-clause-host
returns-clause-host c = known.host_is_last

pub returns-clause-populated : goal.returns-clause-populated
returns-clause-populated c = known.populated_is_counted
