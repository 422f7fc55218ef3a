-- Proves properties of a table indexed by slot that is updated by groups of distinct slots, in
-- order.
use Rattle.std.proofs.Common.{◌≡◌, ◌≢◌, ℕ, ◌<◌, List, [], ◌∷◌, ◌++◌, length, get_or, set, take}
use Rattle.std.proofs.Common.{refl, sym, ap, ◌∙◌, arith, false}
use Rattle.std.specs.Prelude.{Option, None, Some, ◌==◌, find, map, option_map}
use Rattle.std.specs.Ordering.{nat_cmp}
use Rattle.std.specs.declared.cmp.Ordering.TheVariants.{Less}
use Rattle.std.specs.Cmp.Lexicographic.{slice_cmp}
use Rattle.std.proofs.lemmas.Cmp.{nat_list_cmp_total, tied_itself}
use Rattle.std.proofs.lemmas.Bool.{true≢false}
use Rattle.std.proofs.lemmas.Bool.Decides.{nat_tests}
use Rattle.std.proofs.lemmas.List.{get_or-set_same, get_or-set_other, length-set, take-take}
use Rattle.psi_spec.specs.declared.machine.GroupLife.{GroupLife}
use Rattle.kill_spec.specs.declared.reading.GroupReading.{GroupReading}
use Rattle.kill_spec.specs.Readings.{Reading, group_in, path_of}
use Rattle.kill_spec.specs.LegalReadings.{Ascend, IsGroupReading, IsReading}
use Rattle.kill_spec.specs.Victims.{is_less, size_at}
use Rattle.kill_spec.proofs.Foremost.{Each, Pairs, by_test, each_all, each_map}
use Rattle.kill_spec.proofs.ChoiceLaws.{IsBefore, in_order}
use Rattle.victim_rank.specs.Tables.{newer_sizes}

-- The table after each group, in order, has updated the entry of its slot.
abbrev pub taken : {A : Type 0} → (GroupReading → A → A) → A → List A → List GroupReading → List A
taken f d xs [] = xs
taken f d xs (group ∷ groups) = taken f d (set xs group.slot.0 (f group (get_or xs group.slot.0 d)))
    groups

-- An entry after the update by a group. The entry doesn't change if there is no group.
abbrev pub applied : {A : Type 0} → (GroupReading → A → A) → Option GroupReading → A → A
applied f None x = x
applied f (Some group) x = f group x

abbrev pub in_slot : ℕ → List GroupReading → Option GroupReading
in_slot slot groups = find (λ (group : GroupReading). group.slot.0 == slot) groups

abbrev pub AreApart : List GroupReading → Type 0
AreApart groups = Pairs (λ first second. first.slot.0 ≢ second.slot.0) groups

none_in : (slot : ℕ) (groups : List GroupReading) → Each (λ group. slot ≢ group.slot.0) groups →
    in_slot slot groups ≡ None
none_in slot [] each = refl
none_in slot (group ∷ groups) each =
    let other : (group.slot.0 == slot) ≡ false = grind (arith, nat_tests, each.0) in
    rw other (none_in slot groups each.1)

pub taken_at : {A : Type 0} (f : GroupReading → A → A) (d : A) (xs : List A)
    (groups : List GroupReading) → Each (λ group. group.slot.0 < length xs) groups →
    AreApart groups →
    (slot : ℕ) → get_or (taken f d xs groups) slot d ≡ applied f (in_slot slot groups)
    (get_or xs slot d)
taken_at f d xs [] within apart slot = refl
taken_at f d xs (group ∷ groups) within apart slot =
    let next = set xs group.slot.0 (f group (get_or xs group.slot.0 d)) in
    let rest = taken_at f d next groups (each_map _ _ groups
    (λ other less. omega (
      arith,
      less,
      length-set xs group.slot.0
          (f group (get_or xs group.slot.0 d)),
    )) within.1) apart.1 slot in
    by_test _ (group.slot.0 == slot)
    (λ holds.
    let same : group.slot.0 ≡ slot = grind (arith, nat_tests) in
    let none = rw same at (none_in group.slot.0 groups apart.0) in
    rw holds (rest ∙ rw none (rw (← same) (get_or-set_same xs group.slot.0
    (f group (get_or xs group.slot.0 d)) d within.0))))
    (λ fails.
    let other : slot ≢ group.slot.0 = grind (arith, nat_tests) in
    rw fails (rest ∙ ap (applied f (in_slot slot groups))
    (get_or-set_other xs group.slot.0 slot (f group (get_or xs group.slot.0 d)) d other)))

pairs_weaker : (R Q : GroupReading → GroupReading → Type 0) →
    ((first second : GroupReading) → R first second → Q first second) →
    (groups : List GroupReading) → Pairs R groups → Pairs Q groups
pairs_weaker R Q weaker [] pairs = tt
pairs_weaker R Q weaker (first ∷ groups) pairs = (
  each_map (R first) (Q first) groups (weaker first) pairs.0,
  pairs_weaker R Q weaker groups pairs.1,
)

not_before_itself : (path : List ℕ) → slice_cmp nat_cmp path path ≡ Less → ⊥
not_before_itself path before = true≢false (ap is_less
    (sym before ∙ tied_itself nat_list_cmp_total path))

-- Groups with different paths have different slots.
pub slots_apart : (lives : List GroupLife) (groups : List GroupReading) →
    Ascend (map (path_of lives) groups) → AreApart groups
slots_apart lives groups ascend = pairs_weaker (IsBefore lives)
    (λ first second. first.slot.0 ≢ second.slot.0)
    (λ first second before same. not_before_itself (path_of lives second) (rw same at before))
    groups (in_order lives groups ascend)

-- ---- sizes and scan counts

-- The stored sizes of a group after a reading of the group.
abbrev pub with_size : GroupReading → List ℕ → List ℕ
with_size group sizes = take 4 (group.current ∷ sizes)

-- The stored scan count of a group after a reading of the group.
abbrev pub with_scan : GroupReading → Option ℕ → Option ℕ
with_scan group scan = Some group.scan

applied_size : (o : Option GroupReading) (sizes : List ℕ) →
    applied with_size o sizes ≡ newer_sizes o sizes
applied_size None sizes = refl
applied_size (Some group) sizes = refl

applied_scan : (o : Option GroupReading) → applied with_scan o None ≡ option_map
    (λ (group : GroupReading). group.scan) o
applied_scan None = refl
applied_scan (Some group) = refl

slots_within : (lives : List GroupLife) (reading : Reading) → IsReading lives reading →
    (count : ℕ) → count ≡ length lives → Each (λ group. group.slot.0 < count) reading.groups
slots_within lives reading is count long = each_map (IsGroupReading (length lives))
    (λ group. group.slot.0 < count) reading.groups
    (λ group one. omega (arith, one.slot, long))
    (each_all (IsGroupReading (length lives)) reading.groups is.each)

pub sizes_taken : (lives : List GroupLife) (reading : Reading) → IsReading lives reading →
    (sizes : List (List ℕ)) → length sizes ≡ length lives →
    (slot : ℕ) → get_or (taken with_size [] sizes reading.groups) slot [] ≡ newer_sizes
    (group_in reading slot) (get_or sizes slot [])
sizes_taken lives reading is sizes long slot =
    taken_at with_size [] sizes reading.groups (slots_within lives reading is (length sizes) long)
    (slots_apart lives reading.groups is.order) slot
    ∙ applied_size (group_in reading slot) (get_or sizes slot [])

pub scans_taken : (lives : List GroupLife) (reading : Reading) → IsReading lives reading →
    (scans : List (Option ℕ)) → length scans ≡ length lives →
    ((slot : ℕ) → get_or scans slot None ≡ None) →
    (slot : ℕ) → get_or (taken with_scan None scans reading.groups) slot None ≡ option_map
    (λ (group : GroupReading). group.scan) (group_in reading slot)
scans_taken lives reading is scans long cleared slot =
    taken_at with_scan None scans reading.groups (slots_within lives reading is (length scans) long)
    (slots_apart lives reading.groups is.order) slot
    ∙ rw (cleared slot) (applied_scan (group_in reading slot))

-- ---- one more reading

pub newer_history : (o : Option GroupReading) (sizes : List ℕ) →
    newer_sizes o (take 4 sizes) ≡ take 4 (size_at o ++ sizes)
newer_history None sizes = refl
newer_history (Some group) sizes = ap (λ rest. group.current ∷ rest)
    (take-take 3 4 sizes (omega arith))
