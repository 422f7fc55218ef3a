use Rattle.std.proofs.Common.{arith}
use Rattle.detectors.proofs.ScanTables.{no_group, scan_next}
use Rattle.detectors.proofs.scans.take_scans.Goals as goal

pub groups-preserved : goal.groups-preserved
groups-preserved c =
    let i = c.groups.group-index in
    let inside = c.requires i no_group (omega arith) in
    scan_next c.groups.scans c.args.groups.now i no_group c.or.result (omega arith) (omega (arith, inside)) c.or.ensures
    c.groups.invariant
