use Rattle.std.proofs.Common.{◌≡◌, ◌<◌, ℕ, take, length}
use Rattle.observer_log.specs.Entries.{list_of}
use Rattle.observer_log.specs.Journal.{IsTaken, place_of}
use Rattle.observer_log.proofs.order.in_order.Given as goal

abbrev pub invariant-entries : goal.invariant-entries
invariant-entries l = IsTaken (take l.entry-index l.fn.journal) l.fn.own l.places.items l.taken.items

abbrev pub invariant-lists : goal.invariant-lists
invariant-lists l = (o : ℕ) → o < l.observer → place_of l.places.items o ≡ length (list_of l.fn.own o)
