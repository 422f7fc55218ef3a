use Rattle.std.proofs.Common.{◌-◌, ◌*◌, ◌≡◌, ◌≤◌, ℕ, List, length, Some}
use Rattle.outside.specs.Outside.{SameInner, content_of}
use Rattle.outside.specs.Reads.{ReadsFrom}
use Rattle.outside.specs.Reads.Progress.{Next}
use Rattle.page_spec.specs.Items.{file_found, pages_found}
use Rattle.event_lines.proofs.Sent.{AreSent}
use Rattle.page_files.proofs.Pages.{pages_from}
use Rattle.page_files.proofs.file.put_file.Given as goal

abbrev pub invariant-pages : goal.invariant-pages
invariant-pages g l = record {
  few : l.number ≤ 4294967295;
  unchanged : g.S.Shelf.holds l.shelf ≡ g.S.Shelf.holds l.fn.shelf;
  size : length l.page ≡ length l.fn.page;
  sent : (whole : List ℕ) → content_of (g.S.Shelf.holds l.fn.shelf) l.fn.name ≡ Some whole → AreSent (g.K.Sink.has l.fn.out) (g.K.Sink.has l.out) l.fn.cpu (pages_found l.layout l.number (pages_from l.layout.page l.number whole)) (file_found l.layout whole);
  faults : g.S.Shelf.faults l.shelf ≡ g.S.Shelf.faults l.fn.shelf;
  absent : g.S.Shelf.absent l.shelf ≡ g.S.Shelf.absent l.fn.shelf;
  writes : g.K.Sink.faults l.out ≡ g.K.Sink.faults l.fn.out;
  below : SameInner (g.K.Sink.below l.fn.out) (g.K.Sink.below l.out);
  order : ReadsFrom l.fn.name (Next 0) (g.S.Shelf.reads l.fn.shelf) (g.S.Shelf.reads l.shelf) (Next (l.number * l.layout.page));
}

abbrev pub decreases-pages : goal.decreases-pages
decreases-pages g l = 4294967296 - l.number
