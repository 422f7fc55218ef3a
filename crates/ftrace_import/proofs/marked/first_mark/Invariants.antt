use Rattle.std.proofs.Common.{◌-◌, ◌≤◌, length}
use Rattle.import_spec.specs.Laws.{NonePasses}
use Rattle.import_spec.specs.Marked.{begins_marked}
use Rattle.ftrace_import.proofs.marked.first_mark.Given as goal

abbrev pub invariant-places : goal.invariant-places
invariant-places l = record {
  inside : l.from ≤ length l.line;
  none : NonePasses begins_marked l.line 0 l.from;
}

abbrev pub decreases-places : goal.decreases-places
decreases-places l = length l.line - l.from
