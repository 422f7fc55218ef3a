use Rattle.std.proofs.Common.{◌≡◌, length}
use Rattle.std.specs.List.{list_all}
use Rattle.psi_base.specs.Path.{parts_at}
use Rattle.path_match.specs.Match.{is_pattern_component}
use Rattle.path_match.proofs.form.are_components.Given as goal

abbrev pub invariant-parts : goal.invariant-parts
invariant-parts l = list_all is_pattern_component l.parts ≡ list_all is_pattern_component (parts_at 47 l.text)

abbrev pub decreases-parts : goal.decreases-parts
decreases-parts l = length l.parts
