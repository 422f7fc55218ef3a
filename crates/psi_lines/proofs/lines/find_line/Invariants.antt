use Rattle.std.proofs.Common.{◌≡◌, ℕ, ◌+◌, ◌-◌, ◌≤◌, [], length, List, ◌++◌, drop}
use Rattle.std.specs.Prelude.{Some}
use Rattle.outside.specs.Outside.{content_of, IsAbsent}
use Rattle.outside.specs.Reads.{ReadsFrom}
use Rattle.outside.specs.Reads.Progress.{Next}
use Rattle.psi_lines.specs.Next.{ReadsOn, ShowsLine}
use Rattle.psi_lines.proofs.lines.find_line.Given as goal

abbrev pub invariant-reads : goal.invariant-reads
invariant-reads g l = record {
  kept : g.S.Shelf.holds l.shelf ≡ g.S.Shelf.holds l.fn.shelf;
  on : ReadsOn l.fn.buffered l.fn.at l.buffered l.at;
  short : length l.buffered ≤ 66048;
  left : (bytes : List ℕ) → content_of (g.S.Shelf.holds l.fn.shelf) l.fn.name ≡ Some bytes → l.buffered ++ drop l.at bytes ≡ l.fn.buffered ++ drop l.fn.at bytes;
  faults : g.S.Shelf.faults l.shelf ≡ g.S.Shelf.faults l.fn.shelf;
  absent : g.S.Shelf.absent l.shelf ≡ g.S.Shelf.absent l.fn.shelf;
  bytes_read : g.S.Shelf.bytes_read l.shelf + l.fn.at ≡ g.S.Shelf.bytes_read l.fn.shelf + l.at;
  order : ReadsFrom l.fn.name (Next l.fn.at) (g.S.Shelf.reads l.fn.shelf) (g.S.Shelf.reads l.shelf) (Next l.at);
  buffered : ShowsLine l.fn.buffered → (l.shelf ≡ l.fn.shelf) × (l.buffered ≡ l.fn.buffered);
  missing : l.fn.buffered ≡ [] → IsAbsent (g.S.Shelf.holds l.fn.shelf) l.fn.name → l.buffered ≡ [];
}

abbrev pub decreases-reads : goal.decreases-reads
decreases-reads g l = 513 - length l.buffered
