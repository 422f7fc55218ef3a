use Rattle.std.proofs.Common.{◌≡◌, ◌+◌, length}
use Rattle.psi_base.specs.Path.{parts_at}
use Rattle.path_match.proofs.form.are_few.Given as goal

abbrev pub invariant-parts : goal.invariant-parts
invariant-parts l = l.counter + length l.parts ≡ length (parts_at 44 l.text)
