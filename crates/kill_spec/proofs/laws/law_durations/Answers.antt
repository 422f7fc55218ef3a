use Rattle.kill_spec.proofs.DurationLaws as laws
use Rattle.kill_spec.proofs.laws.law_durations.Goals as goal

pub returns-clause-shows : goal.returns-clause-shows
returns-clause-shows c = laws.shows

pub returns-clause-anew : goal.returns-clause-anew
returns-clause-anew c = laws.anew

pub returns-clause-later : goal.returns-clause-later
returns-clause-later c = laws.later
