use Rattle.std.proofs.Common.{◌≡◌, ◌-◌, [], get_or}
use Rattle.psi_base.specs.Path.{parts_at}
use Rattle.test_support.proofs.text.line_of.Given as goal

abbrev pub invariant-skips : goal.invariant-skips
invariant-skips l = get_or l.lines (l.number - l.counter) [] ≡ get_or (parts_at 10 l.text) l.number []
