-- Proves that groups in the byte order of their paths have distinct slots. Therefore there are at
-- most as many groups as slots.
use Rattle.std.proofs.Common.{◌≡◌, ℕ, suc, ◌<◌, ◌≤◌, List, [], ◌∷◌, ◌++◌, length, ⊎_elim, inl, inr}
use Rattle.std.proofs.Common.{◌⊎◌, refl, ap, subst, arith, eqb}
use Rattle.std.specs.Prelude.{All, Bool, true, false, ◌||◌, map}
use Rattle.std.specs.List.{AllByRecursion, IsDistinct, list_any}
use Rattle.std.specs.Ordering.{nat_cmp}
use Rattle.std.specs.declared.cmp.Ordering.{Ordering}
use Rattle.std.specs.declared.cmp.Ordering.TheVariants.{Less, Equal, Greater}
use Rattle.std.specs.Ordering.{ordering_reverse}
use Rattle.std.specs.Cmp.Lexicographic.{slice_cmp}
use Rattle.std.proofs.lemmas.Bool.{eqb-true, ne_eqb}
use Rattle.std.proofs.lemmas.Cmp.{nat_list_cmp_total}
use Rattle.std.proofs.lemmas.List.{length-map}
use Rattle.std.proofs.lemmas.List.Elements.{All-cons, All-nil}
use Rattle.std.proofs.lemmas.Map.Steps.{length-le_from_distinct_below}
use Rattle.psi_spec.specs.declared.machine.GroupLife.{GroupLife}
use Rattle.psi_spec.specs.Groups.{path_at}
use Rattle.kill_spec.specs.declared.reading.GroupReading.{GroupReading}
use Rattle.kill_spec.specs.Readings.{path_of}
use Rattle.kill_spec.specs.LegalReadings.{Ascend, ComesBefore, IsGroupReading}

-- An ordering that equals its reverse isn't `Less`.
turned : (order : Ordering) → order ≡ ordering_reverse order → order ≡ Less → ⊥
turned Less same is = cc
turned Equal same is = cc
turned Greater same is = cc

not_itself : (path : List ℕ) → ComesBefore path path → ⊥
not_itself path before = turned (slice_cmp nat_cmp path path) (nat_list_cmp_total.antisymm path path) before

-- The slots of the groups.
abbrev pub slots_in : List GroupReading → List ℕ
slots_in groups = map (λ (group : GroupReading). group.slot.0) groups

differ : (lives : List GroupLife) (group other : GroupReading) →
    ComesBefore (path_of lives group) (path_of lives other) →
    eqb group.slot.0 other.slot.0 ≡ false
differ lives group other before = ne_eqb group.slot.0 other.slot.0 (λ same.
    let paths : path_of lives group ≡ path_of lives other = ap (path_at lives) same in
    let P : List ℕ → Type 0 = λ path. ComesBefore path (path_of lives other) in
    not_itself (path_of lives other) (subst P paths before))

-- Removing the second path from ascending paths leaves ascending paths.
skipped : (first second : List ℕ) (paths : List (List ℕ)) → Ascend (first ∷ second ∷ paths) →
    Ascend (first ∷ paths)
skipped first second [] order = tt
skipped first second (third ∷ paths) order =
    (nat_list_cmp_total.trans first second third order.0 order.1.0, order.1.1)

others_differ : (lives : List GroupLife) (group : GroupReading) (groups : List GroupReading) →
    Ascend (path_of lives group ∷ map (path_of lives) groups) →
    AllByRecursion (λ slot. eqb group.slot.0 slot ≡ false) (slots_in groups)
others_differ lives group [] order = tt
others_differ lives group (other ∷ groups) order = (
  differ lives group other order.0,
  others_differ lives group groups (skipped (path_of lives group) (path_of lives other) (map (path_of lives) groups) order),
)

rest_ascends : (path : List ℕ) (paths : List (List ℕ)) → Ascend (path ∷ paths) → Ascend paths
rest_ascends path [] order = tt
rest_ascends path (next ∷ paths) order = order.1

pub slots_differ : (lives : List GroupLife) (groups : List GroupReading) →
    Ascend (map (path_of lives) groups) →
    IsDistinct eqb (slots_in groups)
unfolding IsDistinct
slots_differ lives [] order = tt
slots_differ lives (group ∷ groups) order = (
  others_differ lives group groups order,
  slots_differ lives groups (rest_ascends (path_of lives group) (map (path_of lives) groups) order),
)

-- If a disjunction is true, one of its sides is true.
pub either : (a b : Bool) → (a || b) ≡ true → (a ≡ true) ⊎ (b ≡ true)
either true b is = inl refl
either false b is = inr is

slot_below : (slots slot : ℕ) (groups : List GroupReading) → All (IsGroupReading slots) groups →
    list_any (eqb slot) (slots_in groups) ≡ true → slot < slots
slot_below slots slot [] each is = absurd cc
slot_below slots slot (group ∷ groups) each is =
    ⊎_elim
    (λ here. let same = eqb-true slot group.slot.0 here in omega (arith, same, (each 0 group (omega arith)).slot))
    (λ there. slot_below slots slot groups (λ k d below. each (suc k) d (omega (arith, below))) there)
    (either (eqb slot group.slot.0) (list_any (eqb slot) (slots_in groups)) is)

-- There are at most as many groups as slots.
pub at_most_slots : (lives : List GroupLife) (groups : List GroupReading) →
    All (IsGroupReading (length lives)) groups →
    Ascend (map (path_of lives) groups) → length groups ≤ length lives
at_most_slots lives groups each order =
    let most = length-le_from_distinct_below (slots_in groups) (length lives) (slots_differ lives groups order)
    (λ slot among. slot_below (length lives) slot groups each among) in
    omega (arith, most, length-map groups (λ (group : GroupReading). group.slot.0))

-- Appending a group that is in range to groups in range gives groups in range.
pub each_more : (slots : ℕ) (groups : List GroupReading) (group : GroupReading) →
    All (IsGroupReading slots) groups →
    IsGroupReading slots group → All (IsGroupReading slots) (groups ++ group ∷ [])
each_more slots [] group each is = All-cons (IsGroupReading slots) group [] is (All-nil _)
each_more slots (first ∷ groups) group each is =
    All-cons (IsGroupReading slots) first (groups ++ group ∷ []) (each 0 first (omega arith))
    (each_more slots groups group (λ k d below. each (suc k) d (omega (arith, below))) is)
