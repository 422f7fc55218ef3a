use Rattle.std.proofs.Common.{◌≤◌, length}
use Rattle.import_spec.specs.Places.{begins_with}
use Rattle.import_spec.specs.Laws.{NonePasses}
use Rattle.ftrace_import.proofs.places.last_text.Given as goal

abbrev pub invariant-places : goal.invariant-places
invariant-places l = record {
  inside : l.end ≤ length l.bytes;
  none : NonePasses (begins_with l.text) l.bytes l.end (length l.bytes);
}

abbrev pub decreases-places : goal.decreases-places
decreases-places l = l.end
