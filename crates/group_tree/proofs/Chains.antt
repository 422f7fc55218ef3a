-- Lemmas about the chain of a group, one step at a time.
use Rattle.std.proofs.Common.{◌≡◌, ℕ, zero, suc, ◌<◌, ◌≤◌, List, [], ◌∷◌, refl, ap, ◌∙◌, sym, subst, Bool, true, false, arith, Option, None, Some, ◌==◌, length, map, ⊎_elim, ◌⊎◌}
use Rattle.std.specs.Prelude.{◌||◌, if◌then◌else◌, IfSome, slice_get, slice_index_or}
use Rattle.std.proofs.lemmas.Bool.Decides.{nat_tests}
use Rattle.std.proofs.lemmas.List.{length-map, get_or_past}
use Rattle.psi_base.specs.declared.event.Slot.{Slot}
use Rattle.psi_spec.specs.declared.machine.GroupLife.{GroupLife}
use Rattle.psi_spec.specs.Stall.{number_of_slot, parents_of, is_under}
use Rattle.psi_spec.specs.LegalGroups.{AreOlder, leads_to}
use Rattle.psi_spec.proofs.GroupLaws.{by_step, ancestors_older}
use Rattle.group_tree.specs.Tree.{slot_at, down_from, chain_of, chain_from}

-- ---- numbers that pass a test

-- Tests that agree on all numbers below `n` select the same numbers.
same_down : (n : ℕ) (p q : ℕ → Bool) → ((k : ℕ) → k < n → p k ≡ q k) → down_from n p ≡ down_from n q
same_down zero p q same = refl
same_down (suc n) p q same =
    let here : p n ≡ q n = same n (omega arith) in
    let rest = same_down n p q (λ k room. same k (omega (arith, room))) in
    ap (λ b. if b then n ∷ down_from n p else down_from n p) here ∙ ap (λ ks. if q n then n ∷ ks else ks) rest

-- Numbers that fail the test can be left out at the start.
fewer_down : (n m : ℕ) (test : ℕ → Bool) → m ≤ n → ((k : ℕ) → m ≤ k → test k ≡ false) → down_from n test ≡ down_from m test
fewer_down zero m test below none = let same : 0 ≡ m = omega (arith, below) in ap (λ k. down_from k test) same
fewer_down (suc n) m test below none =
    let case : (m ≡ suc n) ⊎ (m ≤ n) = grind arith in
    ⊎_elim
    (λ same. ap (λ k. down_from k test) (sym same))
    (λ less. ap (λ b. if b then n ∷ down_from n test else down_from n test) (none n less) ∙ fewer_down n m test less none)
    case

-- ---- chains

-- Each number passes the equality test with itself.
itself : (n : ℕ) → (n == n) ≡ true
itself n = grind (arith, nat_tests)

-- A number fails the equality test with a smaller number.
not_equal : (n k : ℕ) → k < n → (n == k) ≡ false
not_equal n k less = grind (arith, nat_tests)

-- A number fails the equality test with a greater number.
not_same : (n k : ℕ) → suc n ≤ k → (n == k) ≡ false
not_same n k less = grind (arith, nat_tests)

-- Each slot is under itself.
under_itself : (parents : List (Option ℕ)) → AreOlder parents → (slot : ℕ) → is_under parents slot slot ≡ true
under_itself parents older slot = by_step parents slot slot older ∙ ap (λ b. b || leads_to parents (slice_index_or parents slot None) slot) (itself slot)

-- No slot is under a slot with a greater number.
not_newer : (parents : List (Option ℕ)) → AreOlder parents → (low high : ℕ) → suc low ≤ high → is_under parents low high ≡ false
not_newer parents older low high newer =
    elim (is_under parents low high) as (λ b. is_under parents low high ≡ b → b ≡ false) [
      | true ↦ λ is. let bound = ancestors_older parents low high older is in absurd (omega (arith, bound, newer))
      | false ↦ λ _. refl
    ] refl

-- A slot is under a smaller slot exactly if the slot's parent leads to the smaller slot.
rest_of : (parents : List (Option ℕ)) → AreOlder parents → (slot : ℕ) (o : Option ℕ) → slice_index_or parents slot None ≡ o → (k : ℕ) → k < slot → is_under parents slot k ≡ leads_to parents o k
rest_of parents older slot o is k less =
    by_step parents slot k older ∙ ap (λ b. b || leads_to parents (slice_index_or parents slot None) k) (not_equal slot k less) ∙ ap (λ o. leads_to parents o k) is

-- Returns the numbers of the chain that starts at a slot, or the empty list for `None`.
abbrev numbers_from : List (Option ℕ) → Option ℕ → List ℕ
numbers_from parents None = []
numbers_from parents (Some slot) = down_from (suc slot) (is_under parents slot)

-- The rest of a chain after its first slot is the chain of the parent.
numbers_step : (parents : List (Option ℕ)) → AreOlder parents → (slot : ℕ) (o : Option ℕ) → slice_index_or parents slot None ≡ o → down_from slot (is_under parents slot) ≡ numbers_from parents o
numbers_step parents older slot None is =
    same_down slot (is_under parents slot) (λ k. false) (rest_of parents older slot None is) ∙ fewer_down slot 0 (λ k. false) (omega arith) (λ k least. refl)
numbers_step parents older slot (Some parent) is =
    let less = older slot parent is in
    same_down slot (is_under parents slot) (is_under parents parent) (rest_of parents older slot (Some parent) is)
    ∙ fewer_down slot (suc parent) (is_under parents parent) (omega (arith, less)) (λ k newer. not_newer parents older parent k newer)

-- The slots of a chain are its numbers as slots.
slots_of : (groups : List GroupLife) (next : Option Slot) → chain_from groups next ≡ map slot_at (numbers_from (parents_of groups) (number_of_slot next))
slots_of groups None = refl
slots_of groups (Some slot) = refl

-- A chain consists of its first slot and the chain of the parent.
pub chain_step : (groups : List GroupLife) (slot : Slot) (next : Option Slot) → AreOlder (parents_of groups) → number_of_slot next ≡ slice_index_or (parents_of groups) slot.0 None → chain_of groups slot.0 ≡ slot ∷ chain_from groups next
chain_step groups slot next older is =
    ap (λ b. map slot_at (if b then slot.0 ∷ down_from slot.0 (is_under (parents_of groups) slot.0) else down_from slot.0 (is_under (parents_of groups) slot.0))) (under_itself (parents_of groups) older slot.0)
    ∙ ap (λ ks. slot ∷ map slot_at ks) (numbers_step (parents_of groups) older slot.0 (number_of_slot next) (sym is))
    ∙ ap (λ slots. slot ∷ slots) (sym (slots_of groups next))

-- The parent of an existing slot exists.
pub parent_made : (groups : List GroupLife) (slot : Slot) (next : Option Slot) → AreOlder (parents_of groups) → number_of_slot next ≡ slice_index_or (parents_of groups) slot.0 None → slot.0 < length groups → IfSome next (λ parent. parent.0 < length groups)
parent_made groups slot None older is made = tt
parent_made groups slot (Some parent) older is made = let less = older slot.0 parent.0 (sym is) in omega (arith, less, made)

-- The parent of a slot has a smaller number.
pub parent_older : (groups : List GroupLife) (slot : ℕ) (next : Option Slot) → AreOlder (parents_of groups) → number_of_slot next ≡ slice_index_or (parents_of groups) slot None → IfSome next (λ parent. parent.0 < slot)
parent_older groups slot None older is = tt
parent_older groups slot (Some parent) older is = older slot parent.0 (sym is)

-- ---- one slot under another

-- If a slot is greater than the searched slot, the search continues at the parent.
pub climb_on : (groups : List GroupLife) (at high : ℕ) (next : Option Slot) → AreOlder (parents_of groups) → high < at → number_of_slot next ≡ slice_index_or (parents_of groups) at None → is_under (parents_of groups) at high ≡ leads_to (parents_of groups) (number_of_slot next) high
climb_on groups at high next older less is = rest_of (parents_of groups) older at (number_of_slot next) (sym is) high less

-- If a slot isn't greater than the searched slot, the search ends: the slot is found exactly if
-- both are equal.
pub climb_end : (groups : List GroupLife) (at high : ℕ) → AreOlder (parents_of groups) → at ≤ high → (at == high) ≡ is_under (parents_of groups) at high
climb_end groups at high older past =
    let case : (high ≡ at) ⊎ (suc at ≤ high) = grind arith in
    ⊎_elim
    (λ same. subst (λ n. (at == n) ≡ is_under (parents_of groups) at n) (sym same) (itself at ∙ sym (under_itself (parents_of groups) older at)))
    (λ less. not_same at high less ∙ sym (not_newer (parents_of groups) older at high less))
    case

-- ---- a slot's parent

-- The list of parents has the parent of each group at the group's slot.
pub parent_got : (groups : List GroupLife) (at : ℕ) (group : GroupLife) → slice_get groups at ≡ Some group → slice_index_or (parents_of groups) at None ≡ number_of_slot group.parent
parent_got [] at group is = absurd (cc is)
parent_got (first ∷ groups) zero group is = let same : first ≡ group = cc is in ap (λ (g : GroupLife). number_of_slot g.parent) same
parent_got (first ∷ groups) (suc at) group is = parent_got groups at group is

-- A slot past the last group has no parent.
pub parent_past : (groups : List GroupLife) (at : ℕ) → length groups ≤ at → slice_index_or (parents_of groups) at None ≡ None
parent_past groups at past =
    let len : length (parents_of groups) ≡ length groups = length-map groups (λ (g : GroupLife). number_of_slot g.parent) in
    get_or_past (parents_of groups) at None (omega (arith, len, past))

pub ruleset parents = (parent_got, parent_past)
