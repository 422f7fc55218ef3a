use Rattle.std.proofs.Common.{◌+◌, ◌-◌, ◌≡◌, ◌≤◌, ℕ, List, length, take, drop, Some}
use Rattle.outside.specs.Outside.{IsAbsent, content_of}
use Rattle.outside.specs.Reads.{ReadsFrom}
use Rattle.outside.specs.Reads.Progress.{Next}
use Rattle.page_files.proofs.fill.fill.Given as goal

abbrev pub invariant-reads : goal.invariant-reads
invariant-reads g l = record {
  unchanged : g.S.Shelf.holds l.shelf ≡ g.S.Shelf.holds l.fn.shelf;
  size : length l.bytes ≡ length l.fn.bytes;
  inside : l.filled ≤ length l.bytes;
  bytes : (whole : List ℕ) → content_of (g.S.Shelf.holds l.fn.shelf) l.fn.name ≡ Some whole → take l.filled l.bytes ≡ take l.filled (drop l.fn.at whole);
  faults : g.S.Shelf.faults l.shelf ≡ g.S.Shelf.faults l.fn.shelf;
  absent : g.S.Shelf.absent l.shelf ≡ g.S.Shelf.absent l.fn.shelf;
  order : ReadsFrom l.fn.name (Next l.fn.at) (g.S.Shelf.reads l.fn.shelf) (g.S.Shelf.reads l.shelf) (Next (l.fn.at + l.filled));
  missing : IsAbsent (g.S.Shelf.holds l.fn.shelf) l.fn.name → l.filled ≡ 0;
}

abbrev pub decreases-reads : goal.decreases-reads
decreases-reads g l = length l.bytes - l.filled
