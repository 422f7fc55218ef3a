-- Proofs about heights on chains of groups, in which each parent is an older slot.
use Rattle.std.proofs.Common.{◌≡◌, ◌≢◌, ℕ, zero, suc, ◌+◌, ◌≤◌, ◌<◌, List, refl, sym, ap, ◌∙◌, arith, Bool, true, false, ◌⊎◌, ⊎_elim, Option, None, Some}
use Rattle.std.specs.Prelude.{slice_index_or, ◌==◌, ◌||◌, if◌then◌else◌}
use Rattle.std.proofs.lemmas.Bool.Decides.{nat_tests}
use Rattle.psi_base.specs.declared.event.Slot.{Slot}
use Rattle.psi_spec.specs.Stall.{is_under, number_of_slot}
use Rattle.psi_spec.specs.LegalGroups.{AreOlder, leads_to}
use Rattle.psi_spec.proofs.GroupLaws.{ancestors_older, by_step}
use Rattle.slot_clocks.specs.Walk.{height, passed, reaches}

-- The parent of a slot; `None` if it has none.
abbrev parent_of : List (Option ℕ) → ℕ → Option ℕ
parent_of parents slot = slice_index_or parents slot None

-- ---- the chain upwards

not_true : (b : Bool) → (b ≡ true → ⊥) → b ≡ false
not_true true denied = absurd (denied refl)
not_true false denied = refl

-- A greater slot isn't on the chain of a smaller slot.
no_higher : (parents : List (Option ℕ)) (low high : ℕ) → AreOlder parents → low < high → is_under parents low high ≡ false
no_higher parents low high older below = not_true (is_under parents low high) (λ is. omega (arith, below, ancestors_older parents low high older is))

either_true : (a b : Bool) → a ≡ true → (a || b) ≡ true
either_true true b is = refl
either_true false b is = cc is

under_itself : (parents : List (Option ℕ)) (slot : ℕ) → AreOlder parents → is_under parents slot slot ≡ true
under_itself parents slot older =
    let same : (slot == slot) ≡ true = grind (arith, nat_tests) in
    by_step parents slot slot older ∙ either_true (slot == slot) (leads_to parents (parent_of parents slot) slot) same

-- The chain of a slot contains the same slots as the chain from the slot's height.
leads : (parents : List (Option ℕ)) (place : Option Slot) (high : ℕ) → leads_to parents (number_of_slot place) high ≡ reaches parents (height place) high
leads parents None high = refl
leads parents (Some place) high = refl

-- ---- heights on a chain

-- From a height that is at most a slot's height, the slot is reached only if the heights are equal.
pub reaches_at : (parents : List (Option ℕ)) (place slot : ℕ) → AreOlder parents → place ≤ slot + 1 → reaches parents place slot ≡ (place == slot + 1)
reaches_at parents zero slot older within = let apart : (0 == slot + 1) ≡ false = grind (arith, nat_tests) in sym apart
reaches_at parents (suc p) slot older within =
    let case : (p ≡ slot) ⊎ (p < slot) = grind (arith, within) in
    ⊎_elim
    (λ same. let itself : (suc p == slot + 1) ≡ true = grind (arith, nat_tests, same) in ap (λ n. is_under parents n slot) same ∙ under_itself parents slot older ∙ sym itself)
    (λ below. let apart : (suc p == slot + 1) ≡ false = grind (arith, nat_tests, below) in no_higher parents p slot older below ∙ sym apart)
    case

passed_by : (here : Bool) (parents : List (Option ℕ)) (place : ℕ) (parent : Option Slot) (slot other : ℕ) → AreOlder parents → number_of_slot parent ≡ parent_of parents slot → other ≢ slot → (place == slot + 1) ≡ here → reaches parents (if here then height parent else place) other ≡ reaches parents place other
passed_by false parents place parent slot other older is apart here = refl
passed_by true parents zero parent slot other older is apart here = let none : (0 == slot + 1) ≡ false = grind (arith, nat_tests) in absurd (cc (here, none))
passed_by true parents (suc p) parent slot other older is apart here =
    let same : p ≡ slot = grind (arith, nat_tests, here) in
    let apart_too : (p == other) ≡ false = grind (arith, nat_tests, same, apart) in
    let up : parent_of parents p ≡ number_of_slot parent = ap (parent_of parents) same ∙ sym is in
    sym (by_step parents p other older ∙ ap (λ b. b || leads_to parents (parent_of parents p) other) apart_too ∙ ap (λ o. leads_to parents o other) up ∙ leads parents parent other)

-- Passing a slot doesn't change whether another slot is reached.
pub reaches_passed : (parents : List (Option ℕ)) (place : ℕ) (parent : Option Slot) (slot other : ℕ) → AreOlder parents → number_of_slot parent ≡ parent_of parents slot → other ≢ slot → reaches parents (passed (slot + 1) (height parent) place) other ≡ reaches parents place other
reaches_passed parents place parent slot other older is apart = passed_by (place == slot + 1) parents place parent slot other older is apart refl

lower_by : (here : Bool) (place up slot : ℕ) → up ≤ slot → place ≤ slot + 1 → (place == slot + 1) ≡ here → (if here then up else place) ≤ slot
lower_by true place up slot low within here = low
lower_by false place up slot low within here =
    let apart : place ≢ slot + 1 = grind (arith, nat_tests, here) in
    grind (arith, apart, within)

parent_height : (parents : List (Option ℕ)) (parent : Option Slot) (slot : ℕ) → AreOlder parents → number_of_slot parent ≡ parent_of parents slot → height parent ≤ slot
parent_height parents None slot older is = omega arith
parent_height parents (Some p) slot older is = omega (arith, older slot p.0 (sym is))

-- A chain that has passed a slot is at a lower height.
pub passed_height : (parents : List (Option ℕ)) (place : ℕ) (parent : Option Slot) (slot : ℕ) → AreOlder parents → number_of_slot parent ≡ parent_of parents slot → place ≤ slot + 1 → passed (slot + 1) (height parent) place ≤ slot
passed_height parents place parent slot older is within = lower_by (place == slot + 1) place (height parent) slot (parent_height parents parent slot older is) within refl

-- A chain at a lower height than a slot's isn't at the slot.
pub not_at : (place slot : ℕ) → place ≤ slot → (place == slot + 1) ≡ false
not_at place slot below = grind (arith, nat_tests, below)

-- A chain at the height of a slot reaches the slot.
pub stands : (parents : List (Option ℕ)) (place slot : ℕ) → AreOlder parents → place ≡ slot + 1 → reaches parents place slot ≡ true
stands parents place slot older is = let at : place ≡ suc slot = omega (arith, is) in ap (λ n. reaches parents n slot) at ∙ under_itself parents slot older

-- A chain at height 0, after the root, reaches no slot.
pub ended : (parents : List (Option ℕ)) (place slot : ℕ) → place ≡ 0 → reaches parents place slot ≡ false
ended parents place slot is = ap (λ n. reaches parents n slot) is
