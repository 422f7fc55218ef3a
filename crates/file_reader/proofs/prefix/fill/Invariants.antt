use Rattle.std.proofs.Common.{◌+◌, ◌-◌, ◌≡◌, ◌≤◌, ℕ, List, length, take, Some}
use Rattle.outside.specs.Outside.{IsAbsent, content_of}
use Rattle.outside.specs.Reads.{ReadsFrom}
use Rattle.outside.specs.Reads.Progress.{Next}
use Rattle.file_reader.proofs.prefix.fill.Given as goal

abbrev pub invariant-reads : goal.invariant-reads
invariant-reads g l = record {
  kept : g.S.Shelf.holds l.shelf ≡ g.S.Shelf.holds l.fn.shelf;
  size : length l.bytes ≡ length l.fn.bytes;
  inside : l.buffered ≤ length l.bytes;
  prefix : (whole : List ℕ) → content_of (g.S.Shelf.holds l.fn.shelf) l.fn.name ≡ Some whole → take l.buffered l.bytes ≡ take l.buffered whole;
  faults : g.S.Shelf.faults l.shelf ≡ g.S.Shelf.faults l.fn.shelf;
  absent : g.S.Shelf.absent l.shelf ≡ g.S.Shelf.absent l.fn.shelf;
  bytes_read : g.S.Shelf.bytes_read l.shelf ≡ g.S.Shelf.bytes_read l.fn.shelf + l.buffered;
  within : (whole : List ℕ) → content_of (g.S.Shelf.holds l.fn.shelf) l.fn.name ≡ Some whole → l.buffered ≤ length whole;
  order : ReadsFrom l.fn.name (Next 0) (g.S.Shelf.reads l.fn.shelf) (g.S.Shelf.reads l.shelf) (Next l.buffered);
  missing : IsAbsent (g.S.Shelf.holds l.fn.shelf) l.fn.name → l.buffered ≡ 0;
}

abbrev pub decreases-reads : goal.decreases-reads
decreases-reads g l = length l.bytes - l.buffered
