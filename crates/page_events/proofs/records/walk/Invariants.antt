use Rattle.std.proofs.Common.{◌≡◌, length}
use Rattle.page_spec.specs.Records.{records_after}
use Rattle.page_events.proofs.records.walk.Given as goal

abbrev pub invariant-parts : goal.invariant-parts
invariant-parts l = record { records : records_after l.end l.time l.rest ≡ records_after l.end l.fn.time l.fn.rest }

abbrev pub decreases-parts : goal.decreases-parts
decreases-parts l = length l.rest
