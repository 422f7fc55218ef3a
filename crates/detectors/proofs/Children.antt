-- Proofs about the places of groups that pass a test, and about the number of children of a group.
use Rattle.std.proofs.Common.{◌≡◌, ℕ, zero, suc, ◌+◌, ◌<◌, ◌≤◌, List, [], ◌∷◌, ◌++◌, length, get_or, length-append}
use Rattle.std.proofs.Common.{⊎_elim, refl, sym, ap, ◌∙◌, arith, eqb}
use Rattle.std.specs.Prelude.{All, Bool, true, false, filter, map, if◌then◌else◌, Option, None}
use Rattle.std.specs.List.{AllByRecursion, IsDistinct, list_any}
use Rattle.std.proofs.Math.ListN.{get_or-append}
use Rattle.std.proofs.Math.Seq.{get_or-append_seam}
use Rattle.std.proofs.Math.Bool.{or-true}
use Rattle.std.proofs.lemmas.Bool.{eqb-true}
use Rattle.std.proofs.lemmas.Cmp.{nat_eq_equiv}
use Rattle.std.proofs.lemmas.List.{append-nil, length-map, map-append}
use Rattle.std.proofs.lemmas.List.Elements.{All-cons, All-nil, filter-append}
use Rattle.std.proofs.lemmas.Map.Made.{length-le_from_is_member}
use Rattle.psi_spec.specs.declared.machine.GroupLife.{GroupLife}
use Rattle.psi_spec.specs.Stall.{parents_of}
use Rattle.kill_spec.specs.declared.reading.GroupReading.{GroupReading}
use Rattle.kill_spec.specs.Readings.{path_of}
use Rattle.kill_spec.specs.LegalReadings.{Ascend, IsGroupReading}
use Rattle.kill_spec.specs.Victims.{names_slot}
use Rattle.kill_spec.proofs.Foremost.{by_test}
use Rattle.detectors.specs.Inner.{AreAmong, AreHeld, HasPlaced, PlacesView, child_count}
use Rattle.detectors.specs.Inner.{group_at, groups_at, is_child, no_group}
use Rattle.detectors.proofs.Order.{either, slots_differ, slots_in}

-- ---- places

-- Appending groups to a list doesn't change the groups at the earlier indexes.
same_at : (groups more : List GroupReading) (places : List ℕ) → AreAmong groups places →
    groups_at (groups ++ more) places ≡ groups_at groups places
same_at groups more [] among = refl
same_at groups more (place ∷ places) among =
    rw (
      get_or-append groups more no_group place (among 0 place (omega arith)),
      same_at groups more places (λ k d below. among (suc k) d (omega (arith, below))),
    ) refl

places_next : (n : ℕ) (places : List ℕ) → All (λ place. place < n) places →
    All (λ place. place < n + 1) places
places_next n places all = λ k d below. let here = all k d below in omega (arith, here)

places_more : (n : ℕ) (places : List ℕ) → All (λ place. place < n) places →
    All (λ place. place < n + 1) (places ++ n ∷ [])
places_more n [] all = All-cons (λ place. place < n + 1) n [] (omega arith) (All-nil _)
places_more n (place ∷ places) all =
    All-cons (λ place. place < n + 1) place (places ++ n ∷ []) (places_next n (place ∷ places) all 0 place (omega arith))
    (places_more n places (λ k d below. all (suc k) d (omega (arith, below))))

pub one_more : (groups : List GroupReading) (group : GroupReading) →
    length (groups ++ group ∷ []) ≡ length groups + 1
one_more groups group = omega (arith, length-append groups (group ∷ []))

-- The list of places is still correct after a group is appended to the reading and its place is
-- appended to the list if the group passes the test.
pub held_more : (test : GroupReading → Bool) (groups : List GroupReading) (group : GroupReading) (room : ℕ) (old new : PlacesView) →
    AreHeld test groups room old → HasPlaced (test group) (length groups) old new →
    AreHeld test (groups ++ group ∷ []) room new
held_more test groups group room old new held placed =
    let more = groups ++ group ∷ [] in
    let kept : groups_at more old.places ≡ filter test groups =
    same_at groups (group ∷ []) old.places held.within ∙ held.passed in
    by_test _ (test group)
    (λ holds.
    let places : new.places ≡ old.places ++ length groups ∷ [] = rw holds at placed.places in
    record {
      passed = rw (
        places,
        map-append (group_at more) old.places (length groups ∷ []),
        kept,
        filter-append test groups (group ∷ []),
        holds,
        get_or-append_seam groups group [] no_group,
      ) refl;
      within = rw (places, one_more groups group) (places_more (length groups) old.places held.within);
      spare = omega (arith, held.spare, placed.room);
    })
    (λ fails.
    let places : new.places ≡ old.places = rw fails at placed.places in
    record {
      passed = rw (places, kept, filter-append test groups (group ∷ []), fails) (sym (append-nil (filter test groups)));
      within = rw (places, one_more groups group) (places_next (length groups) old.places held.within);
      spare = omega (arith, held.spare, placed.room);
    })

-- ---- the number of children

-- The indexes of the parents that pass the test. The first parent has the index `at`.
abbrev numbers_from : (Option ℕ → Bool) → ℕ → List (Option ℕ) → List ℕ
numbers_from test at [] = []
numbers_from test at (parent ∷ parents) =
    if test parent then at ∷ numbers_from test (suc at) parents else numbers_from test (suc at) parents

length_numbers : (test : Option ℕ → Bool) (at : ℕ) (parents : List (Option ℕ)) →
    length (numbers_from test at parents) ≡ length (filter test parents)
length_numbers test at [] = refl
length_numbers test at (parent ∷ parents) = by_test _ (test parent)
    (λ holds. rw holds (ap suc (length_numbers test (suc at) parents)))
    (λ fails. rw fails (length_numbers test (suc at) parents))

-- `numbers_from` has the index of every parent that passes the test.
has_number : (test : Option ℕ → Bool) (at k : ℕ) (parents : List (Option ℕ)) → k < length parents →
    test (get_or parents k None) ≡ true → list_any (eqb (at + k)) (numbers_from test at parents) ≡ true
has_number test at k [] below passes = absurd (omega (arith, below))
has_number test at zero (parent ∷ parents) below passes = rw passes (grind arith)
has_number test at (suc k) (parent ∷ parents) below passes =
    let suffix : list_any (eqb (suc at + k)) (numbers_from test (suc at) parents) ≡ true =
    has_number test (suc at) k parents (omega (arith, below)) passes in
    let same : at + suc k ≡ suc at + k = omega arith in
    rw same (by_test _ (test parent)
    (λ holds. rw (holds, suffix) (or-true (eqb (suc at + k) at)))
    (λ fails. rw fails suffix))

-- If the slot `s` is the slot of a child of the group in slot `slot`, its parent is `slot`.
child_in : (lives : List GroupLife) (slot s : ℕ) (groups : List GroupReading) →
    All (IsGroupReading (length lives)) groups →
    list_any (eqb s) (slots_in (filter (is_child lives slot) groups)) ≡ true →
    (s < length lives) × (names_slot slot (get_or (parents_of lives) s None) ≡ true)
child_in lives slot s [] each is = absurd cc
child_in lives slot s (group ∷ groups) each is =
    let rest : All (IsGroupReading (length lives)) groups = λ k d below. each (suc k) d (omega (arith, below)) in
    by_test _ (is_child lives slot group)
    (λ holds. ⊎_elim
    (λ here. let same = eqb-true s group.slot.0 here in
    (rw same (each 0 group (omega arith)).slot, rw same holds))
    (λ suffix. child_in lives slot s groups rest suffix)
    (either (eqb s group.slot.0) (list_any (eqb s) (slots_in (filter (is_child lives slot) groups))) (rw holds at is)))
    (λ fails. child_in lives slot s groups rest (rw fails at is))

-- Distinct slots remain distinct if some groups are left out.
others_left : (slot : ℕ) (test : GroupReading → Bool) (groups : List GroupReading) →
    AllByRecursion (λ other. eqb slot other ≡ false) (slots_in groups) →
    AllByRecursion (λ other. eqb slot other ≡ false) (slots_in (filter test groups))
others_left slot test [] all = tt
others_left slot test (group ∷ groups) all = by_test _ (test group)
    (λ holds. rw holds (all.0, others_left slot test groups all.1))
    (λ fails. rw fails (others_left slot test groups all.1))

differ_left : (test : GroupReading → Bool) (groups : List GroupReading) → IsDistinct eqb (slots_in groups) →
    IsDistinct eqb (slots_in (filter test groups))
unfolding IsDistinct
differ_left test [] differ = tt
differ_left test (group ∷ groups) differ = by_test _ (test group)
    (λ holds. rw holds (others_left group.slot.0 test groups differ.0, differ_left test groups differ.1))
    (λ fails. rw fails (differ_left test groups differ.1))

-- The number of a group's children in a reading is at most the number of children that the trace
-- ever creates in the group.
pub at_most_children : (lives : List GroupLife) (slot : ℕ) (groups : List GroupReading) →
    All (IsGroupReading (length lives)) groups → Ascend (map (path_of lives) groups) →
    length (filter (is_child lives slot) groups) ≤ child_count lives slot
at_most_children lives slot groups each order =
    let found = slots_in (filter (is_child lives slot) groups) in
    let made = numbers_from (names_slot slot) 0 (parents_of lives) in
    let long : length (parents_of lives) ≡ length lives = length-map lives _ in
    let most : length found ≤ length made = length-le_from_is_member nat_eq_equiv found made
    (differ_left (is_child lives slot) groups (slots_differ lives groups order))
    (λ s among. let child = child_in lives slot s groups each among in
    let start : 0 + s ≡ s = omega arith in
    let number : list_any (eqb (0 + s)) made ≡ true =
    has_number (names_slot slot) 0 s (parents_of lives) (omega (arith, long, child.0)) child.1 in
    rw start at number) in
    omega (
      arith,
      most,
      length-map (filter (is_child lives slot) groups) (λ (group : GroupReading). group.slot.0),
      length_numbers (names_slot slot) 0 (parents_of lives),
    )
