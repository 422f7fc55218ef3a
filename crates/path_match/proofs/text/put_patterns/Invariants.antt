use Rattle.std.proofs.Common.{◌≡◌, ◌++◌, length, take}
use Rattle.std.specs.Prelude.{map}
use Rattle.psi_base.specs.Path.{parts_at}
use Rattle.path_match.specs.Match.{components, patterns_text}
use Rattle.path_match.proofs.Texts.{suffix}
use Rattle.path_match.proofs.text.put_patterns.Given as goal

abbrev pub invariant-parts : goal.invariant-parts
invariant-parts l = record {
  text : l.to.items ++ suffix l.parts ≡ l.fn.to.items ++ patterns_text (map components (parts_at 44 l.text));
  prefix : take (length l.fn.to.items) l.to.items ≡ l.fn.to.items;
}

abbrev pub decreases-parts : goal.decreases-parts
decreases-parts l = length l.parts
