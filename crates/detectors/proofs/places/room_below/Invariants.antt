use Rattle.std.proofs.Common.{◌≡◌, ℕ, ◌<◌, [], length, get_or}
use Rattle.detectors.specs.Inner.{AreHeld, PlacesView, child_count, is_child}
use Rattle.detectors.proofs.places.room_below.Given as goal

abbrev pub invariant-slots : goal.invariant-slots
invariant-slots l = record {
  long : length l.below.items ≡ l.slot;
  below : (k : ℕ) (d : PlacesView) → k < l.slot →
      AreHeld (is_child l.lives k) [] (child_count l.lives k) (get_or l.below.items k d);
}
