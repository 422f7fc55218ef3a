-- Proves that sorting all slots by path gives the order that psi_spec defines.
use Rattle.std.proofs.Common.{◌≡◌, ℕ, ◌+◌, ◌<◌, List, [], ◌∷◌, refl, ap, ◌∙◌, subst, arith, length, map}
use Rattle.std.specs.Prelude.{IsPermutation, IsSortedByKey}
use Rattle.std.specs.List.{range_with_len}
use Rattle.std.specs.Ordering.{nat_cmp}
use Rattle.std.specs.Cmp.Lexicographic.{slice_cmp}
use Rattle.std.proofs.lemmas.List.{get_or-map, length-map}
use Rattle.std.proofs.lemmas.List.Sorted.{IsPermutation-map}
use Rattle.psi_base.specs.declared.event.Slot.{Slot}
use Rattle.psi_spec.specs.declared.machine.GroupLife.{GroupLife}
use Rattle.psi_spec.specs.Groups.{path_at}
use Rattle.psi_spec.specs.LegalGroups.{IsPathOrder}
use Rattle.group_tree.specs.Tree.{numbers_of, slot_at}

-- Converting numbers to slots and back gives the same numbers.
same_numbers : (ns : List ℕ) → numbers_of (map slot_at ns) ≡ ns
same_numbers [] = refl
same_numbers (n ∷ ns) = ap (λ rest. n ∷ rest) (same_numbers ns)

-- All slots, sorted by their paths, are in the path order.
pub path_order_is : (groups : List GroupLife) (slots sorted : List Slot) → slots ≡ map slot_at (range_with_len 0 (length groups)) → IsPermutation slots sorted
    → IsSortedByKey (λ (slot : Slot). path_at groups slot.0) (slice_cmp nat_cmp) sorted → IsPathOrder groups (numbers_of sorted)
path_order_is groups slots sorted all same order =
    let len = length-map sorted (λ (slot : Slot). slot.0) in
    record {
      each = subst (λ ns. IsPermutation ns (numbers_of sorted)) (ap numbers_of all ∙ same_numbers (range_with_len 0 (length groups))) (IsPermutation-map (λ (slot : Slot). slot.0) slots sorted same);
      sorted = λ k d low high.
          let next : k + 1 < length sorted = omega (arith, high, len) in
          let here = get_or-map (λ (slot : Slot). slot.0) sorted k (slot_at d) d (omega (arith, next)) in
          let there = get_or-map (λ (slot : Slot). slot.0) sorted (k + 1) (slot_at d) d next in
          rw (here, there) (order k (slot_at d) low next);
    }
