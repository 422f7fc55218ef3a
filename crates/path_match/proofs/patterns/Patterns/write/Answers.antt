use Rattle.path_match.proofs.PatternLaws.{reads_patterns}
use Rattle.path_match.proofs.patterns.Patterns.write.Goals as goal

pub returns-clause-patterns : goal.returns-clause-patterns
returns-clause-patterns c = rw (← c.self.view_is) (reads_patterns c.self.inside.text _ c.self.invariant)
