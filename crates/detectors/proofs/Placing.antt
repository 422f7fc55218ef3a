-- Proves that the lists of places stay correct after a group is appended to a reading, and that
-- their capacity suffices for its place.
use Rattle.std.proofs.Common.{◌≡◌, ℕ, ◌+◌, ◌<◌, ◌≤◌, List, [], ◌∷◌, ◌++◌, length, get_or, refl, sym, ap, subst, ◌∙◌, arith}
use Rattle.std.specs.Prelude.{All, Bool, true, filter, map, Option, None}
use Rattle.std.proofs.lemmas.List.{get_or-map, length-map}
use Rattle.std.proofs.lemmas.List.Elements.{filter-append}
use Rattle.psi_spec.specs.declared.machine.GroupLife.{GroupLife}
use Rattle.psi_spec.specs.Stall.{number_of_slot, parents_of}
use Rattle.kill_spec.specs.declared.reading.GroupReading.{GroupReading}
use Rattle.kill_spec.specs.Readings.{path_of}
use Rattle.kill_spec.specs.LegalReadings.{Ascend, IsGroupReading}
use Rattle.kill_spec.specs.Victims.{names_slot}
use Rattle.kill_spec.proofs.Foremost.{by_test}
use Rattle.detectors.specs.Views.{ComesLast, IsReadingView, ReadingView}
use Rattle.detectors.specs.Inner.{AreHeld, ArePlaces, HasPlaced, PlacesView, child_count, group_at, is_child}
use Rattle.detectors.proofs.Order.{at_most_slots, each_more}
use Rattle.detectors.proofs.Children.{at_most_children, held_more, one_more}

-- ---- one more group

-- The groups with `group` appended are in range and in the order of their paths.
pub record AreMore (lives : List GroupLife) (groups : List GroupReading) (group : GroupReading) : Type 0 where
  pub fit : All (IsGroupReading (length lives)) (groups ++ group ∷ [])
  pub order : Ascend (map (path_of lives) (groups ++ group ∷ []))

pub are_more : (old view : ReadingView) (group : GroupReading) → old ≡ view → IsReadingView old →
    IsGroupReading (length view.lives) group → ComesLast view group →
    AreMore old.lives old.seen.groups group
are_more old view group same within fits last =
    let P : ReadingView → Type 0 = λ reading. IsGroupReading (length reading.lives) group in
    let Q : ReadingView → Type 0 = λ reading. ComesLast reading group in
    record {
      fit = each_more (length old.lives) old.seen.groups group within.within.each (subst P (sym same) fits);
      order = subst Q (sym same) last;
    }

pub fewer : (lives : List GroupLife) (groups : List GroupReading) (group : GroupReading) →
    AreMore lives groups group → length groups < length lives
fewer lives groups group more =
    omega (arith, one_more groups group, at_most_slots lives (groups ++ group ∷ []) more.fit more.order)

-- ---- room

pub whole : (groups : List GroupReading) → filter (λ group. true) groups ≡ groups
whole [] = refl
whole (first ∷ groups) = ap (λ rest. first ∷ rest) (whole groups)

pub held_count : (test : GroupReading → Bool) (groups : List GroupReading) (room : ℕ) (held : PlacesView) →
    AreHeld test groups room held → length held.places ≡ length (filter test groups)
held_count test groups room held is = sym (length-map held.places (group_at groups)) ∙ ap length is.passed

pub room_for_all : (lives : List GroupLife) (groups : List GroupReading) (group : GroupReading) (all : PlacesView) →
    AreHeld (λ g. true) groups (length lives) all → AreMore lives groups group → length all.places < all.room
room_for_all lives groups group all is more =
    omega (arith, held_count (λ g. true) groups (length lives) all is, ap length (whole groups), fewer lives groups group more, is.spare)

pub room_for_child : (lives : List GroupLife) (groups : List GroupReading) (group : GroupReading) (slot : ℕ) (held : PlacesView) →
    AreHeld (is_child lives slot) groups (child_count lives slot) held → AreMore lives groups group →
    is_child lives slot group ≡ true → length held.places < held.room
room_for_child lives groups group slot held is more child =
    let test : GroupReading → Bool = is_child lives slot in
    let last : filter test (group ∷ []) ≡ group ∷ [] = rw child refl in
    let found : filter test (groups ++ group ∷ []) ≡ filter test groups ++ group ∷ [] =
    filter-append test groups (group ∷ []) ∙ ap (λ rest. filter test groups ++ rest) last in
    omega (
      arith,
      held_count test groups (child_count lives slot) held is,
      ap length found,
      one_more (filter test groups) group,
      at_most_children lives slot (groups ++ group ∷ []) more.fit more.order,
      is.spare,
    )

-- The parent in the life of a group is the parent in the list of all parents.
pub parent_is : (lives : List GroupLife) (slot : ℕ) (life : GroupLife) → life ≡ get_or lives slot life →
    slot < length lives → number_of_slot life.parent ≡ get_or (parents_of lives) slot None
parent_is lives slot life is below =
    ap (λ (group : GroupLife). number_of_slot group.parent) is
    ∙ sym (get_or-map (λ (group : GroupLife). number_of_slot group.parent) lives slot life None below)

-- ---- the whole reading

pub places_kept : (lives : List GroupLife) (groups : List GroupReading) (group : GroupReading) (parent : Option ℕ) (place : ℕ)
    (all all_new : PlacesView) (below below_new : List PlacesView) → ArePlaces lives groups all below →
    place ≡ length groups → parent ≡ get_or (parents_of lives) group.slot.0 None →
    HasPlaced true place all all_new → length below_new ≡ length below →
    ((slot : ℕ) (d : PlacesView) → slot < length below →
    HasPlaced (names_slot slot parent) place (get_or below slot d) (get_or below_new slot d)) →
    ArePlaces lives (groups ++ group ∷ []) all_new below_new
places_kept lives groups group parent place all all_new below below_new is at has placed long each =
    let P : ℕ → Type 0 = λ n. HasPlaced true n all all_new in
    record {
      each = held_more (λ g. true) groups group (length lives) all all_new is.each (subst P at placed);
      slots = long ∙ is.slots;
      children = λ slot d inside.
          let Q : ℕ → Type 0 = λ n. HasPlaced (names_slot slot parent) n (get_or below slot d) (get_or below_new slot d) in
          let R : Option ℕ → Type 0 = λ p. HasPlaced (names_slot slot p) (length groups) (get_or below slot d) (get_or below_new slot d) in
          held_more (is_child lives slot) groups group (child_count lives slot) (get_or below slot d) (get_or below_new slot d)
          (is.children slot d inside) (subst R has (subst Q at (each slot d (omega (arith, inside, is.slots)))));
    }

-- ---- the number of places

fewer_pass : (test : GroupReading → Bool) (groups : List GroupReading) →
    length (filter test groups) ≤ length groups
fewer_pass test [] = omega arith
fewer_pass test (group ∷ groups) =
    let rest = fewer_pass test groups in
    by_test _ (test group) (λ holds. rw holds (omega (arith, rest))) (λ fails. rw fails (omega (arith, rest)))

pub few_buffered : (reading : ReadingView) (test : GroupReading → Bool) (room : ℕ) (held : PlacesView) →
    IsReadingView reading → AreHeld test reading.seen.groups room held → length held.places ≤ 1024
few_buffered reading test room held view is =
    let lives = reading.lives in
    let groups = reading.seen.groups in
    omega (arith, held_count test groups room held is, fewer_pass test groups, at_most_slots lives groups view.within.each view.within.order, view.few)

pub few_groups : (reading : ReadingView) → IsReadingView reading → length reading.seen.groups ≤ 1024
few_groups reading view =
    omega (arith, at_most_slots reading.lives reading.seen.groups view.within.each view.within.order, view.few)
