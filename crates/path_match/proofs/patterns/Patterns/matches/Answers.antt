use Rattle.std.proofs.Common.{◌≡◌, rules}
use Rattle.path_match.specs.Match.{is_match}
use Rattle.path_match.proofs.MatchLaws.{known}
use Rattle.path_match.proofs.PatternLaws.{reads_patterns}
use Rattle.path_match.proofs.patterns.Patterns.matches.Goals as goal

pub returns-clause-relation : goal.returns-clause-relation
returns-clause-relation c =
    let test : c.some_matches.result ≡ is_match c.args.self.now c.args.path.now = search rules in
    known c.some_matches.result c.args.self.now c.args.path.now test

pub returns-clause-patterns : goal.returns-clause-patterns
returns-clause-patterns c = rw (← c.self.view_is) (reads_patterns c.self.inside.text _ c.self.invariant)
