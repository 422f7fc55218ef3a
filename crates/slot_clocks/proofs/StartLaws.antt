-- Proofs about the heights at which the four walks of a change may start.
use Rattle.std.proofs.Common.{◌≡◌, ℕ, ◌≤◌, ◌<◌, refl, sym, ap, ◌∙◌, arith, Bool, true, false, ◌⊎◌, inl, inr, Option, None, Some}
use Rattle.std.specs.Prelude.{IfSome, if◌then◌else◌}
use Rattle.std.specs.Option.{option_or}
use Rattle.psi_base.specs.declared.event.Slot.{Slot}
use Rattle.psi_counts.specs.declared.changes.Change.{Change}
use Rattle.psi_counts.specs.declared.changes.Counts.{Counts}
use Rattle.psi_counts.specs.Touch.{HasSlotsBelow}
use Rattle.slot_clocks.specs.declared.chains.Chains.{Chains}
use Rattle.slot_clocks.specs.Walk.{MayStart, MayStartAt, chains_of, height, slot_in, top}

-- ---- each walk at its slot

-- A chain may start at the slot that the change names.
at_slot : {A : Type 0} (side : Option (Slot × A)) → MayStartAt side (height (slot_in side))
at_slot None = tt
at_slot (Some pair) = refl

-- The first chain may start at the switched slot, or else at the slot whose counts are subtracted.
at_account : (account : Option (Slot × Bool)) (minus : Option (Slot × Counts)) → MayStartAt account (height (option_or (slot_in account) (slot_in minus)))
at_account None minus = tt
at_account (Some switched) minus = refl

at_minus : (account : Option (Slot × Bool)) (minus : Option (Slot × Counts)) → IfSome account (λ _. minus ≡ None) → MayStartAt minus (height (option_or (slot_in account) (slot_in minus)))
at_minus account None alone = tt
at_minus None (Some part) alone = refl
at_minus (Some switched) (Some part) alone = absurd (cc alone)

-- The chains of a change may start at the slots that the change names.
pub may_start : (current : Option (Slot × Bool)) (change : Change) → IfSome change.account (λ _. change.minus ≡ None) → MayStart current change (chains_of current change)
may_start current change alone = record {
  account = at_account change.account change.minus;
  minus = at_minus change.account change.minus alone;
  plus = at_slot change.plus;
  before = inl (at_slot current);
  after = refl;
}

-- ---- walks that start together

-- A chain whose first height is `other`, or 0 because it has no slot, may start at height `other`.
moved : {A : Type 0} (side : Option (Slot × A)) (place other : ℕ) → MayStartAt side place → (place ≡ 0) ⊎ (place ≡ other) → MayStartAt side other
moved None place other at either = tt
moved (Some pair) place other at (inl nowhere) = absurd (cc (at, nowhere))
moved (Some pair) place other at (inr same) = sym same ∙ at

-- The chain of the task that ran may start at any height if the running task and its stall don't
-- change.
moved_before : (current : Option (Slot × Bool)) (change : Change) (stays : Bool) (other : ℕ) → (stays ≡ true → current ≡ change.current) → ((if stays then 0 else height (slot_in current)) ≡ 0) ⊎ ((if stays then 0 else height (slot_in current)) ≡ other) → MayStartAt current other ⊎ (current ≡ change.current)
moved_before current change true other same either = inr (same refl)
moved_before current change false other same either = inl (moved current (height (slot_in current)) other (at_slot current) either)

-- The chains of a change may start at one height, if each chain is at this height or has no slot.
pub start_together : (current : Option (Slot × Bool)) (change : Change) (stays : Bool) (other : ℕ) → (stays ≡ true → current ≡ change.current) → IfSome change.account (λ _. change.minus ≡ None) → (chains : Chains) → chains ≡ chains_of current change
    → (chains.minus ≡ 0) ⊎ (chains.minus ≡ other) → (chains.plus ≡ 0) ⊎ (chains.plus ≡ other) → ((if stays then 0 else chains.before) ≡ 0) ⊎ ((if stays then 0 else chains.before) ≡ other)
    → MayStart current change (record { minus = other; plus = other; before = other; after = chains.after })
start_together current change stays other same alone chains is minus plus before =
    let start = may_start current change alone in
    record {
      account = moved change.account (chains_of current change).minus other start.account (rw is at minus);
      minus = moved change.minus (chains_of current change).minus other start.minus (rw is at minus);
      plus = moved change.plus (chains_of current change).plus other start.plus (rw is at plus);
      before = moved_before current change stays other same (rw is at before);
      after = ap (λ (c : Chains). c.after) is;
    }

-- ---- upper bounds of heights

side_low : {A : Type 0} (side : Option (Slot × A)) (slots : ℕ) → IfSome side (λ pair. pair.0.0 < slots) → height (slot_in side) ≤ slots
side_low None slots below = omega arith
side_low (Some pair) slots below = omega (arith, below)

first_low : (account : Option (Slot × Bool)) (minus : Option (Slot × Counts)) (slots : ℕ) → IfSome account (λ switched. switched.0.0 < slots) → IfSome minus (λ part. part.0.0 < slots) → height (option_or (slot_in account) (slot_in minus)) ≤ slots
first_low None minus slots below part_below = side_low minus slots part_below
first_low (Some switched) minus slots below part_below = omega (arith, below)

-- Each chain of a change starts at an existing slot.
pub starts_low : (current : Option (Slot × Bool)) (change : Change) (slots : ℕ) → HasSlotsBelow slots change → IfSome current (λ running. running.0.0 < slots) → top (chains_of current change) ≤ slots
starts_low current change slots below running =
    let minus = first_low change.account change.minus slots below.account below.minus in
    let plus = side_low change.plus slots below.plus in
    let before = side_low current slots running in
    let after = side_low change.current slots below.current in
    omega (arith, minus, plus, before, after)
