use Rattle.std.proofs.Common.{◌≡◌, length}
use Rattle.psi_base.specs.Path.{parts_at}
use Rattle.path_match.specs.Match.{are_matches}
use Rattle.path_match.proofs.component.matches_components.Given as goal

abbrev pub invariant-parts : goal.invariant-parts
invariant-parts l = are_matches l.wanted l.found ≡ are_matches (parts_at 47 l.pattern) (parts_at 47 l.path)

abbrev pub decreases-parts : goal.decreases-parts
decreases-parts l = length l.wanted
