use Rattle.std.proofs.Common.{◌≡◌, ◌≤◌, length}
use Rattle.page_spec.specs.Items.{events_of}
use Rattle.page_events.proofs.event.next_event.Given as goal

abbrev pub invariant-records : goal.invariant-records
invariant-records l = record {
  events : events_of l.layout l.records ≡ events_of l.fn.layout l.fn.records;
  fewer : length l.records ≤ length l.fn.records;
}

abbrev pub decreases-records : goal.decreases-records
decreases-records l = length l.records
