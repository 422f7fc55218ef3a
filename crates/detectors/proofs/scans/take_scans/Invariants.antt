use Rattle.std.proofs.Common.{◌≡◌, ℕ, ◌<◌, take}
use Rattle.std.specs.Prelude.{◌==◌, None, find}
use Rattle.kill_spec.specs.declared.reading.GroupReading.{GroupReading}
use Rattle.detectors.specs.Tables.{scan_in, scan_of}
use Rattle.detectors.proofs.scans.take_scans.Given as goal

abbrev pub invariant-clear : goal.invariant-clear
invariant-clear l = (slot : ℕ) → slot < l.scan-index → scan_in l.scans slot ≡ None

-- The loop invariant: the table has the counts of the groups visited so far.
abbrev pub invariant-groups : goal.invariant-groups
invariant-groups l = (slot : ℕ) →
    scan_in l.scans slot ≡ scan_of (find (λ (group : GroupReading). group.slot.0 == slot) (take l.group-index l.groups))
