use Rattle.std.proofs.Common.{◌≡◌, length}
use Rattle.std.specs.Prelude.{map}
use Rattle.psi_base.specs.Path.{parts_at}
use Rattle.path_match.specs.Match.{components, is_match}
use Rattle.path_match.proofs.patterns.some_matches.Given as goal

abbrev pub invariant-parts : goal.invariant-parts
invariant-parts l = is_match (map components l.parts) l.path ≡ is_match (map components (parts_at 44 l.text)) l.path

abbrev pub decreases-parts : goal.decreases-parts
decreases-parts l = length l.parts
