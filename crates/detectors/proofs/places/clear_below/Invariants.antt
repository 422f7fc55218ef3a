use Rattle.std.proofs.Common.{◌≡◌, ℕ, ◌<◌, ◌≤◌, [], length, get_or}
use Rattle.detectors.specs.Inner.{PlacesView, places_with}
use Rattle.detectors.proofs.places.clear_below.Given as goal

abbrev pub invariant-slots : goal.invariant-slots
invariant-slots l = record {
  long : length l.below.items ≡ length l.fn.below.items;
  cleared : (k : ℕ) (d : PlacesView) → k < l.slot →
      get_or l.below.items k d ≡ places_with [] (get_or l.fn.below.items k d).room;
  rest : (k : ℕ) (d : PlacesView) → l.slot ≤ k →
      get_or l.below.items k d ≡ get_or l.fn.below.items k d;
}
