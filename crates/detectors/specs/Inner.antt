-- Lists of places. A *place* is the index of a group in a reading. There is a list of all groups,
-- and a list of the children of each group. With these lists a loop over the children of a group
-- skips all other groups.
use Rattle.std.specs.Prelude.{◌≡◌, ℕ, ◌<◌, ◌≤◌, List, [], ◌∷◌, ◌++◌, All, length, map, filter}
use Rattle.std.specs.Prelude.{Bool, true, false, if◌then◌else◌, None, slice_index_or}
use Rattle.psi_base.specs.declared.event.Preference.TheVariants.{Plain}
use Rattle.psi_spec.specs.declared.machine.GroupLife.{GroupLife}
use Rattle.psi_spec.specs.Stall.{parents_of}
use Rattle.kill_spec.specs.declared.reading.GroupReading.{GroupReading}
use Rattle.kill_spec.specs.Victims.{names_slot}

-- ---- places

-- A dummy group: the result of `group_at` for an index past the end of the list.
abbrev pub no_group : GroupReading
no_group = record {
  slot = record { 0 = 0 };
  averages = [];
  current = 0;
  swap = 0;
  scan = 0;
  preference = Plain;
  populated = false;
}

-- The group at index `place` of the list.
abbrev pub group_at : List GroupReading → ℕ → GroupReading
group_at groups place = slice_index_or groups place no_group

-- The groups at the indexes `places` of the list, in that order.
abbrev pub groups_at : List GroupReading → List ℕ → List GroupReading
groups_at groups places = map (group_at groups) places

-- Every index in `places` is the index of a group in `groups`.
abbrev pub AreAmong : List GroupReading → List ℕ → Type 0
AreAmong groups places = All (λ place. place < length groups) places

-- ---- children

-- Whether `group` is a child of the group in slot `slot`.
abbrev pub is_child : List GroupLife → ℕ → GroupReading → Bool
is_child lives slot group = names_slot slot (slice_index_or (parents_of lives) group.slot.0 None)

-- The number of children that the trace ever creates in the group in slot `slot`.
abbrev pub child_count : List GroupLife → ℕ → ℕ
child_count lives slot = length (filter (names_slot slot) (parents_of lives))

-- ---- storage of places

-- A list of places, and the capacity `room` of the vector that stores it.
pub record PlacesView : Type 0 where
  pub places : List ℕ
  pub room : ℕ

abbrev pub places_with : List ℕ → ℕ → PlacesView
places_with places room = record { places = places; room = room }

-- The list `held` has the places of all groups that pass `test`, and only these, in the order of
-- `groups`. The capacity of `held` is at least `room`.
pub record AreHeld (test : GroupReading → Bool) (groups : List GroupReading) (room : ℕ)
    (held : PlacesView) : Type 0 where
  pub passed : groups_at groups held.places ≡ filter test groups
  pub within : AreAmong groups held.places
  pub spare : room ≤ held.room

-- For every slot, `below` has the places of the group's children in the reading. Each list has
-- capacity for all children that the trace ever creates in the group.
abbrev pub AreBelow : List GroupLife → List GroupReading → List PlacesView → Type 0
AreBelow lives groups below = (slot : ℕ) (d : PlacesView) → slot < length lives →
    AreHeld (is_child lives slot) groups (child_count lives slot) (slice_index_or below slot d)

-- The invariant of the place lists of a reading. The list `all` has the places of all groups. For
-- each slot, `below` has the places of the children of the slot's group.
pub record ArePlaces (lives : List GroupLife) (groups : List GroupReading) (all : PlacesView)
    (below : List PlacesView) : Type 0 where
  pub each : AreHeld (λ group. true) groups (length lives) all
  pub slots : length below ≡ length lives
  pub children : AreBelow lives groups below

-- If `is_placed` is true, `new` is `old` with `place` appended. If it is false, `new` has the same
-- places as `old`. The capacity doesn't shrink.
pub record HasPlaced (is_placed : Bool) (place : ℕ) (old new : PlacesView) : Type 0 where
  pub places : new.places ≡ (if is_placed then old.places ++ place ∷ [] else old.places)
  pub room : old.room ≤ new.room
