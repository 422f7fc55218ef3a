use Rattle.std.proofs.Common.{◌≡◌, ◌+◌, ◌-◌, ◌≤◌, ℕ, List, []}
use Rattle.outside.specs.Outside.{IsAbsent, content_of}
use Rattle.outside.specs.Reads.{ReadsFrom}
use Rattle.outside.specs.Reads.Progress.{Next}
use Rattle.std.specs.Prelude.{Some}
use Rattle.psi_lines.specs.Lines.{left, line_count}
use Rattle.ftrace_import.proofs.Texts.{SoFar}
use Rattle.ftrace_import.proofs.text.take_lines.Given as goal

abbrev pub invariant-lines : goal.invariant-lines
invariant-lines g l = record {
  kept : g.S.Shelf.holds l.shelf ≡ g.S.Shelf.holds l.fn.shelf;
  faults : g.S.Shelf.faults l.shelf ≡ g.S.Shelf.faults l.fn.shelf;
  absent : g.S.Shelf.absent l.shelf ≡ g.S.Shelf.absent l.fn.shelf;
  bytes_read : g.S.Shelf.bytes_read l.shelf + l.fn.lines.at ≡ g.S.Shelf.bytes_read l.fn.shelf + l.lines.at;
  order : ReadsFrom l.fn.lines.name (Next l.fn.lines.at) (g.S.Shelf.reads l.fn.shelf) (g.S.Shelf.reads l.shelf) (Next l.lines.at);
  name : l.lines.name ≡ l.fn.lines.name;
  few : l.lines.number ≤ 16000001;
  missing : IsAbsent (g.S.Shelf.holds l.fn.shelf) l.fn.lines.name → l.lines.buffered ≡ [];
  lines : (bytes : List ℕ) → content_of (g.S.Shelf.holds l.fn.shelf) l.fn.lines.name ≡ Some bytes → l.lines.number + line_count (left l.lines bytes) ≡ l.fn.lines.number + line_count (left l.fn.lines bytes);
  so_far : SoFar l.fn.g.cpus l.lines.number l.g (left l.fn.lines) (left l.lines) (content_of (g.S.Shelf.holds l.fn.shelf) l.fn.lines.name);
}

abbrev pub decreases-lines : goal.decreases-lines
decreases-lines g l = 16000002 - l.lines.number
