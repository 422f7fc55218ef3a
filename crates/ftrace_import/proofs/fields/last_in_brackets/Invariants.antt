use Rattle.std.proofs.Common.{◌≤◌, length}
use Rattle.import_spec.specs.Laws.{NonePasses}
use Rattle.import_spec.specs.Tails.{is_bracketed}
use Rattle.ftrace_import.proofs.fields.last_in_brackets.Given as goal

abbrev pub invariant-places : goal.invariant-places
invariant-places l = record {
  inside : l.at ≤ length l.bytes;
  none : NonePasses is_bracketed l.bytes l.at (length l.bytes);
}

abbrev pub decreases-places : goal.decreases-places
decreases-places l = l.at
