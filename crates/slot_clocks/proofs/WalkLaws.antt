-- Proofs about the walk up the chains of a change, slot by slot.
use Rattle.std.proofs.Common.{◌≡◌, ◌≢◌, ℕ, ◌+◌, ◌≤◌, ◌<◌, List, length, refl, sym, ap, ◌∙◌, subst, arith, Bool, false, max, ◌⊎◌, inl, inr, ⊎_elim, Option, None}
use Rattle.std.specs.Prelude.{slice_index_or, slice_set, ◌==◌, ◌&&◌, if◌then◌else◌}
use Rattle.std.proofs.lemmas.List.{get_or-set_same, get_or-set_other, get_or_default}
use Rattle.std.proofs.Math.ListN.{get_or-map}
use Rattle.psi_base.specs.declared.event.Slot.{Slot}
use Rattle.psi_base.specs.declared.event.State.{State}
use Rattle.psi_counts.specs.declared.changes.Change.{Change}
use Rattle.psi_counts.specs.Clock.{ClockFollows}
use Rattle.psi_counts.specs.Counts.{mask_holds, shows}
use Rattle.psi_spec.specs.LegalGroups.{AreOlder}
use Rattle.psi_spec.specs.Stall.{number_of_slot}
use Rattle.psi_counts.specs.Touch.{Follows, is_current_in, is_current_stalled, no_counts, on_chain}
use Rattle.slot_clocks.specs.declared.cell.Cell.{Cell}
use Rattle.slot_clocks.specs.declared.chains.Chains.{Chains}
use Rattle.slot_clocks.specs.Clocks.{CanFollow, IsUpTo, MaskShows, StaysByMask, cell_in, parent_numbers, zero_cell}
use Rattle.slot_clocks.specs.Walk.{AreTogether, IsApart, IsTurned, MayStart, all_passed, counts_in, height, passed, reaches, top}
use Rattle.slot_clocks.proofs.ChainLaws.{ended, not_at, passed_height, reaches_at, reaches_passed, stands}
use Rattle.slot_clocks.proofs.TurnLaws.{chain_is, current_is, is_apart, stays_turned}

-- ---- the progress of a walk

-- No chain reaches the slot from its current height.
pub record IsNotPast (parents : List (Option ℕ)) (chains : Chains) (slot : ℕ) : Type 0 where
  pub minus : reaches parents chains.minus slot ≡ false
  pub plus : reaches parents chains.plus slot ≡ false
  pub before : reaches parents chains.before slot ≡ false
  pub after : reaches parents chains.after slot ≡ false

-- The slot is reached by the same chains from their current heights as from their first heights.
pub record IsAhead (parents : List (Option ℕ)) (starts chains : Chains) (slot : ℕ) : Type 0 where
  pub minus : reaches parents chains.minus slot ≡ reaches parents starts.minus slot
  pub plus : reaches parents chains.plus slot ≡ reaches parents starts.plus slot
  pub before : reaches parents chains.before slot ≡ reaches parents starts.before slot
  pub after : reaches parents chains.after slot ≡ reaches parents starts.after slot

-- Either the change was applied to the group and no chain reaches it from its current height, or
-- the group is unchanged and the chains that reach it haven't passed it.
abbrev pub IsWalked : List (Option ℕ) → Change → Chains → Chains → ℕ → Cell → Cell → Type 0
IsWalked parents change starts chains slot old now = (IsTurned parents change slot old now × IsNotPast parents chains slot) ⊎ ((now ≡ old) × IsAhead parents starts chains slot)

-- At first the walk has visited no group.
pub none_walked : (parents : List (Option ℕ)) (change : Change) (starts : Chains) (slot : ℕ) (cell : Cell) → IsWalked parents change starts starts slot cell cell
none_walked parents change starts slot cell = inr (refl, record { minus = refl; plus = refl; before = refl; after = refl })

-- ---- the next slot of a walk

-- The height of each chain is at most `limit`.
pub record AreWithin (chains : Chains) (limit : ℕ) : Type 0 where
  pub minus : chains.minus ≤ limit
  pub plus : chains.plus ≤ limit
  pub before : chains.before ≤ limit
  pub after : chains.after ≤ limit

pub within_top : (chains : Chains) (limit : ℕ) → top chains ≡ limit → AreWithin chains limit
within_top chains limit is = record { minus = omega (arith, is); plus = omega (arith, is); before = omega (arith, is); after = omega (arith, is) }

some_top : (a b c d limit : ℕ) → max (max a b) (max c d) ≡ limit → (a ≡ limit) ⊎ ((b ≡ limit) ⊎ ((c ≡ limit) ⊎ (d ≡ limit)))
some_top a b c d limit is = grind (arith, is)

-- The walk hasn't visited the slot at the greatest height.
not_after_it : (parents : List (Option ℕ)) (chains : Chains) (slot : ℕ) → AreOlder parents → top chains ≡ slot + 1 → IsNotPast parents chains slot → ⊥
not_after_it parents chains slot older is suffix =
    ⊎_elim
    (λ minus. cc (suffix.minus, stands parents chains.minus slot older minus))
    (λ others. ⊎_elim
    (λ plus. cc (suffix.plus, stands parents chains.plus slot older plus))
    (λ running. ⊎_elim
    (λ before. cc (suffix.before, stands parents chains.before slot older before))
    (λ after. cc (suffix.after, stands parents chains.after slot older after))
    running)
    others)
    (some_top chains.minus chains.plus chains.before chains.after (slot + 1) is)

pub ahead_at_top : (parents : List (Option ℕ)) (change : Change) (starts chains : Chains) (slot : ℕ) (old now : Cell) → AreOlder parents → top chains ≡ slot + 1 → IsWalked parents change starts chains slot old now → (now ≡ old) × IsAhead parents starts chains slot
ahead_at_top parents change starts chains slot old now older is (inl done) = absurd (not_after_it parents chains slot older is done.1)
ahead_at_top parents change starts chains slot old now older is (inr ahead) = ahead

-- The part of a change at a slot, by which chains are at the slot's height.
pub record IsShare (parents : List (Option ℕ)) (change : Change) (chains : Chains) (here slot : ℕ) : Type 0 where
  pub minus : on_chain parents slot change.minus ≡ (if chains.minus == here then counts_in change.minus else no_counts)
  pub plus : on_chain parents slot change.plus ≡ (if chains.plus == here then counts_in change.plus else no_counts)
  pub after : is_current_in parents slot change.current ≡ (chains.after == here)
  pub account : (chains.minus == here) ≡ false → IsApart change.account slot

pub share_at_top : (parents : List (Option ℕ)) (current : Option (Slot × Bool)) (change : Change) (starts chains : Chains) (here slot : ℕ) → AreOlder parents → MayStart current change starts → here ≡ slot + 1 → top chains ≡ here → IsAhead parents starts chains slot → IsShare parents change chains here slot
share_at_top parents current change starts chains here slot older start at is ahead =
    let within = within_top chains here is in
    let here_in : (place : ℕ) → place ≤ here → reaches parents place slot ≡ (place == here) = λ place low. reaches_at parents place slot older (omega (arith, low, at)) ∙ ap (λ h. place == h) (sym at) in
    record {
      minus = chain_is parents slot change.minus starts.minus (chains.minus == here) start.minus (sym ahead.minus ∙ here_in chains.minus within.minus);
      plus = chain_is parents slot change.plus starts.plus (chains.plus == here) start.plus (sym ahead.plus ∙ here_in chains.plus within.plus);
      after = current_is parents slot change.current (chains.after == here) (ap (λ (h : ℕ). reaches parents h slot) (sym start.after) ∙ sym ahead.after ∙ here_in chains.after within.after);
      account = λ off. is_apart parents slot change.account starts.minus older start.account (sym ahead.minus ∙ here_in chains.minus within.minus ∙ off);
    }

-- ---- one step of the walk

-- After the walk passed the slot at the greatest height, no chain reaches it.
after_passed : (parents : List (Option ℕ)) (chains : Chains) (parent : Option Slot) (slot : ℕ) → AreOlder parents → number_of_slot parent ≡ slice_index_or parents slot None → top chains ≡ slot + 1 → IsNotPast parents (all_passed (slot + 1) (height parent) chains) slot
after_passed parents chains parent slot older up is =
    let within = within_top chains (slot + 1) is in
    let off : (place : ℕ) → place ≤ slot + 1 → reaches parents (passed (slot + 1) (height parent) place) slot ≡ false = λ place at.
    let low = passed_height parents place parent slot older up at in
    reaches_at parents (passed (slot + 1) (height parent) place) slot older (omega (arith, low)) ∙ not_at (passed (slot + 1) (height parent) place) slot low in
    record {
      minus = off chains.minus within.minus;
      plus = off chains.plus within.plus;
      before = off chains.before within.before;
      after = off chains.after within.after;
    }

-- Whether another slot was visited doesn't change when the walk passes a slot.
other_walked : (parents : List (Option ℕ)) (change : Change) (starts chains : Chains) (parent : Option Slot) (slot other : ℕ) (old now : Cell) → AreOlder parents → number_of_slot parent ≡ slice_index_or parents slot None → other ≢ slot
    → IsWalked parents change starts chains other old now → IsWalked parents change starts (all_passed (slot + 1) (height parent) chains) other old now
other_walked parents change starts chains parent slot other old now older up apart (inl done) = inl (
  done.0,
  record {
    minus = reaches_passed parents chains.minus parent slot other older up apart ∙ done.1.minus;
    plus = reaches_passed parents chains.plus parent slot other older up apart ∙ done.1.plus;
    before = reaches_passed parents chains.before parent slot other older up apart ∙ done.1.before;
    after = reaches_passed parents chains.after parent slot other older up apart ∙ done.1.after;
  },
)
other_walked parents change starts chains parent slot other old now older up apart (inr ahead) = inr (
  ahead.0,
  record {
    minus = reaches_passed parents chains.minus parent slot other older up apart ∙ ahead.1.minus;
    plus = reaches_passed parents chains.plus parent slot other older up apart ∙ ahead.1.plus;
    before = reaches_passed parents chains.before parent slot other older up apart ∙ ahead.1.before;
    after = reaches_passed parents chains.after parent slot other older up apart ∙ ahead.1.after;
  },
)

same_or_other : (one other : ℕ) → (one ≡ other) ⊎ (one ≢ other)
same_or_other one other = grind arith

walked_past : (parents : List (Option ℕ)) (change : Change) (starts chains : Chains) (parent : Option Slot) (slot : ℕ) (olds nows : List Cell) (new : Cell) → AreOlder parents → number_of_slot parent ≡ slice_index_or parents slot None → top chains ≡ slot + 1 → slot < length nows
    → IsTurned parents change slot (cell_in olds slot) new → ((other : ℕ) → IsWalked parents change starts chains other (cell_in olds other) (cell_in nows other))
    → (other : ℕ) → IsWalked parents change starts (all_passed (slot + 1) (height parent) chains) other (cell_in olds other) (cell_in (slice_set nows slot new) other)
walked_past parents change starts chains parent slot olds nows new older up is room turned walked other =
    ⊎_elim
    (λ same.
    let here : cell_in (slice_set nows slot new) other ≡ new = ap (cell_in (slice_set nows slot new)) same ∙ get_or-set_same nows slot new zero_cell room in
    subst (λ s. IsWalked parents change starts (all_passed (slot + 1) (height parent) chains) s (cell_in olds s) (cell_in (slice_set nows slot new) other)) (sym same)
    (subst (IsWalked parents change starts (all_passed (slot + 1) (height parent) chains) slot (cell_in olds slot)) (sym here)
    (inl (turned, after_passed parents chains parent slot older up is))))
    (λ apart.
    subst (IsWalked parents change starts (all_passed (slot + 1) (height parent) chains) other (cell_in olds other)) (sym (get_or-set_other nows slot other new zero_cell apart))
    (other_walked parents change starts chains parent slot other (cell_in olds other) (cell_in nows other) older up apart (walked other)))
    (same_or_other other slot)

-- If the change was applied to the group at the greatest height and the walk passed it, each group
-- is still visited or unchanged.
pub walked_on : (parents : List (Option ℕ)) (change : Change) (starts chains : Chains) (parent : Option Slot) (here slot : ℕ) (olds nows : List Cell) (new : Cell) → AreOlder parents → number_of_slot parent ≡ slice_index_or parents slot None → here ≡ slot + 1 → top chains ≡ here → slot < length nows
    → IsTurned parents change slot (cell_in olds slot) new → ((other : ℕ) → IsWalked parents change starts chains other (cell_in olds other) (cell_in nows other))
    → (other : ℕ) → IsWalked parents change starts (all_passed here (height parent) chains) other (cell_in olds other) (cell_in (slice_set nows slot new) other)
walked_on parents change starts chains parent here slot olds nows new older up at is room turned walked other =
    subst (λ h. IsWalked parents change starts (all_passed h (height parent) chains) other (cell_in olds other) (cell_in (slice_set nows slot new) other)) (sym at)
    (walked_past parents change starts chains parent slot olds nows new older up (is ∙ at) room turned walked other)

-- Passing the slot at the greatest height lowers the greatest height.
pub top_passed : (parents : List (Option ℕ)) (chains : Chains) (parent : Option Slot) (here slot : ℕ) → AreOlder parents → number_of_slot parent ≡ slice_index_or parents slot None → here ≡ slot + 1 → top chains ≡ here → top (all_passed here (height parent) chains) ≤ slot
top_passed parents chains parent here slot older up at is =
    let within = within_top chains (slot + 1) (is ∙ at) in
    let low : top (all_passed (slot + 1) (height parent) chains) ≤ slot = omega (arith, passed_height parents chains.minus parent slot older up within.minus, passed_height parents chains.plus parent slot older up within.plus, passed_height parents chains.before parent slot older up within.before, passed_height parents chains.after parent slot older up within.after) in
    subst (λ h. top (all_passed h (height parent) chains) ≤ slot) (sym at) low

-- ---- the end of the walk

-- After the walk passed the root, the change was applied to each group.
pub all_walked : (parents : List (Option ℕ)) (current : Option (Slot × Bool)) (change : Change) (starts chains : Chains) (slot : ℕ) (old now : Cell) → AreOlder parents → MayStart current change starts → top chains ≡ 0 → (IsApart change.account slot → MaskShows parents current slot old) → IsUpTo change.at old.clock
    → IsWalked parents change starts chains slot old now → IsTurned parents change slot old now
all_walked parents current change starts chains slot old now older start is known up_to (inl done) = done.0
all_walked parents current change starts chains slot old now older start is known up_to (inr ahead) =
    let within = within_top chains 0 is in
    subst (IsTurned parents change slot old) (sym ahead.0)
    (stays_turned parents current change starts slot old start
    (sym ahead.1.minus ∙ ended parents chains.minus slot (omega (arith, within.minus)))
    (sym ahead.1.plus ∙ ended parents chains.plus slot (omega (arith, within.plus)))
    (sym ahead.1.before ∙ ended parents chains.before slot (omega (arith, within.before)))
    (sym ahead.1.after ∙ ended parents chains.after slot (omega (arith, within.after)))
    older known up_to)

-- Chains that are at one height are still at one height after they passed a slot.
pub together_passed : (here parent : ℕ) (chains : Chains) → AreTogether chains → AreTogether (all_passed here parent chains)
together_passed here parent chains are = record { plus = ap (passed here parent) are.plus; before = ap (passed here parent) are.before }

-- ---- parents as numbers

pub parent_number : (parents : List (Option Slot)) (slot : ℕ) → number_of_slot (slice_index_or parents slot None) ≡ slice_index_or (parent_numbers parents) slot None
parent_number parents slot = sym (get_or-map number_of_slot parents slot None)

-- The cell of an existing slot, whatever default is used for missing slots.
pub cell_here : (cells : List Cell) (slot : ℕ) (other : Cell) → slot < length cells → slice_index_or cells slot other ≡ cell_in cells slot
cell_here cells slot other room = get_or_default cells slot other zero_cell room

-- ---- a group that the walk visits

-- The effect of a change on the group that the walk visits, from the parts that apply to it.
pub turned_here : (parents : List (Option ℕ)) (change : Change) (chains : Chains) (here slot : ℕ) (old now new : Cell) → IsShare parents change chains here slot → now ≡ old
    → Follows now.counts (if chains.minus == here then counts_in change.minus else no_counts) (if chains.plus == here then counts_in change.plus else no_counts) new.counts
    → new.on ≡ now.on → ClockFollows now.clock change.at new.clock → StaysByMask now.clock new.clock → IsUpTo change.at new.clock → ((state : State) → mask_holds new.clock.mask state ≡ (new.on && shows state new.counts (chains.after == here) (is_current_stalled change.current))) → IsTurned parents change slot old new
turned_here parents change chains here slot old now new share same counts on clock kept up_to known = record {
  counts = subst (λ m. Follows old.counts m (on_chain parents slot change.plus) new.counts) (sym share.minus)
      (subst (λ p. Follows old.counts (if chains.minus == here then counts_in change.minus else no_counts) p new.counts) (sym share.plus)
      (subst (λ (n : Cell). Follows n.counts (if chains.minus == here then counts_in change.minus else no_counts) (if chains.plus == here then counts_in change.plus else no_counts) new.counts) same counts));
  on = on ∙ ap (λ (n : Cell). n.on) same;
  clock = subst (λ (n : Cell). ClockFollows n.clock change.at new.clock) same clock;
  kept = subst (λ (n : Cell). StaysByMask n.clock new.clock) same kept;
  up_to = up_to;
  known = λ state. known state ∙ ap (λ runs. new.on && shows state new.counts runs (is_current_stalled change.current)) (sym share.after);
}

-- The group's counts can follow the parts that apply to it.
pub can_turn : (parents : List (Option ℕ)) (change : Change) (chains : Chains) (here slot : ℕ) (old now : Cell) → IsShare parents change chains here slot → now ≡ old → CanFollow old.counts (on_chain parents slot change.minus) (on_chain parents slot change.plus)
    → CanFollow now.counts (if chains.minus == here then counts_in change.minus else no_counts) (if chains.plus == here then counts_in change.plus else no_counts)
can_turn parents change chains here slot old now share same fits =
    subst (λ (n : Cell). CanFollow n.counts (if chains.minus == here then counts_in change.minus else no_counts) (if chains.plus == here then counts_in change.plus else no_counts)) (sym same)
    (subst (λ p. CanFollow old.counts (if chains.minus == here then counts_in change.minus else no_counts) p) share.plus
    (subst (λ m. CanFollow old.counts m (on_chain parents slot change.plus)) share.minus fits))

-- If the running task doesn't change, the group's mask has the states of its counts after the
-- change.
pub known_at_place : (parents : List (Option ℕ)) (current : Option (Slot × Bool)) (change : Change) (chains : Chains) (here slot : ℕ) (old now : Cell) → IsShare parents change chains here slot → now ≡ old → (IsApart change.account slot → MaskShows parents current slot old) → current ≡ change.current → (chains.minus == here) ≡ false
    → (state : State) → mask_holds now.clock.mask state ≡ (now.on && shows state now.counts (chains.after == here) (is_current_stalled change.current))
known_at_place parents current change chains here slot old now share same known stays off =
    let known_then : MaskShows parents change.current slot old = subst (λ c. MaskShows parents c slot old) stays (known (share.account off)) in
    subst (λ (n : Cell). (state : State) → mask_holds n.clock.mask state ≡ (n.on && shows state n.counts (chains.after == here) (is_current_stalled change.current))) (sym same)
    (λ state. known_then state ∙ ap (λ runs. old.on && shows state old.counts runs (is_current_stalled change.current)) share.after)
