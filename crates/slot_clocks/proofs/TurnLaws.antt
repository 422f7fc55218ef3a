-- Proofs about groups that the walk of a change reaches, and about groups that it doesn't reach.
use Rattle.std.proofs.Common.{◌≡◌, ℕ, suc, ◌+◌, arith, List, refl, sym, ap, ◌∙◌, subst, Bool, true, false, ⊎_elim, Option, None, Some}
use Rattle.std.specs.Prelude.{◌&&◌, if◌then◌else◌}
use Rattle.psi_base.specs.declared.event.Slot.{Slot}
use Rattle.psi_base.specs.declared.event.State.{State}
use Rattle.psi_base.specs.declared.event.State.TheVariants.{IoSome, IoFull, MemSome, MemFull, CpuSome, CpuFull, Nonidle}
use Rattle.psi_counts.specs.declared.changes.Counts.{Counts}
use Rattle.psi_counts.specs.declared.changes.Change.{Change}
use Rattle.psi_counts.specs.Counts.{shows}
use Rattle.psi_counts.specs.Touch.{Follows, is_current_in, is_current_stalled, no_counts, on_chain}
use Rattle.psi_counts.proofs.ClockLaws.{clock_stays}
use Rattle.psi_spec.specs.LegalGroups.{AreOlder}
use Rattle.slot_clocks.specs.declared.cell.Cell.{Cell}
use Rattle.slot_clocks.specs.Clocks.{IsUpTo, MaskShows}
use Rattle.slot_clocks.specs.declared.chains.Chains.{Chains}
use Rattle.slot_clocks.specs.Walk.{IsApart, IsTurned, MayStart, MayStartAt, counts_in, height, reaches, slot_in}
use Rattle.slot_clocks.proofs.ChainLaws.{stands}

-- ---- the parts of a change at a group

-- The counts of a part that apply to a slot: all of them if the part's chain reaches the slot,
-- otherwise none.
pub chain_is : (parents : List (Option ℕ)) (slot : ℕ) (side : Option (Slot × Counts)) (place : ℕ) (here : Bool) → MayStartAt side place → reaches parents place slot ≡ here → on_chain parents slot side ≡ (if here then counts_in side else no_counts)
chain_is parents slot None place true start reached = refl
chain_is parents slot None place false start reached = refl
chain_is parents slot (Some part) place here start reached = ap (λ b. if b then part.1 else no_counts) (ap (λ (h : ℕ). reaches parents h slot) (sym start) ∙ reached)

-- The running task is in a group exactly if its chain reaches the group's slot.
pub current_is : (parents : List (Option ℕ)) (slot : ℕ) (current : Option (Slot × Bool)) (here : Bool) → reaches parents (height (slot_in current)) slot ≡ here → is_current_in parents slot current ≡ here
current_is parents slot None here reached = reached
current_is parents slot (Some running) here reached = reached

-- ---- groups that the walk doesn't reach

-- If the running task isn't in the group, its stall doesn't matter.
known_off : (state : State) (counts : Counts) (one other : Bool) → shows state counts false one ≡ shows state counts false other
known_off IoSome counts one other = refl
known_off IoFull counts one other = refl
known_off MemSome counts one other = refl
known_off MemFull counts one other = refl
known_off CpuSome counts one other = refl
known_off CpuFull counts one other = refl
known_off Nonidle counts one other = refl

follows_none : (counts : Counts) → Follows counts no_counts no_counts counts
follows_none counts = record { io = refl; stalled = refl; running = refl; stalled_running = refl }

-- If a running task's chain doesn't reach a group, the task isn't in the group.
not_in : (parents : List (Option ℕ)) (slot : ℕ) (current : Option (Slot × Bool)) (place : ℕ) → MayStartAt current place → reaches parents place slot ≡ false → is_current_in parents slot current ≡ false
not_in parents slot None place start reached = refl
not_in parents slot (Some running) place start reached = ap (λ (h : ℕ). reaches parents h slot) (sym start) ∙ reached

-- If the first chain doesn't reach a group, the group's accounting isn't switched.
pub is_apart : (parents : List (Option ℕ)) (slot : ℕ) (account : Option (Slot × Bool)) (place : ℕ) → AreOlder parents → MayStartAt account place → reaches parents place slot ≡ false → IsApart account slot
is_apart parents slot None place older start reached = tt
is_apart parents slot (Some account) place older start reached = λ same. cc (reached, stands parents place slot older (place_is place account.0.0 slot start same))
  where
    place_is : (place number slot : ℕ) → place ≡ suc number → slot ≡ number → place ≡ slot + 1
    place_is place number slot is same = omega (arith, is, same)

-- A group that no chain of a change reaches is unchanged.
pub stays_turned : (parents : List (Option ℕ)) (current : Option (Slot × Bool)) (change : Change) (starts : Chains) (slot : ℕ) (cell : Cell) → MayStart current change starts → reaches parents starts.minus slot ≡ false → reaches parents starts.plus slot ≡ false
    → reaches parents starts.before slot ≡ false → reaches parents starts.after slot ≡ false → AreOlder parents → (IsApart change.account slot → MaskShows parents current slot cell) → IsUpTo change.at cell.clock → IsTurned parents change slot cell cell
stays_turned parents current change starts slot cell start minus plus before after older known_apart up_to =
    let known = known_apart (is_apart parents slot change.account starts.minus older start.account minus) in
    let taken : on_chain parents slot change.minus ≡ no_counts = chain_is parents slot change.minus starts.minus false start.minus minus in
    let added : on_chain parents slot change.plus ≡ no_counts = chain_is parents slot change.plus starts.plus false start.plus plus in
    let runs : is_current_in parents slot change.current ≡ false = current_is parents slot change.current false (ap (λ (h : ℕ). reaches parents h slot) (sym start.after) ∙ after) in
    let ran : is_current_in parents slot current ≡ false = ⊎_elim (λ at. not_in parents slot current starts.before at before) (λ same. ap (is_current_in parents slot) same ∙ runs) start.before in
    record {
      counts = subst (λ m. Follows cell.counts m (on_chain parents slot change.plus) cell.counts) (sym taken) (subst (λ p. Follows cell.counts no_counts p cell.counts) (sym added) (follows_none cell.counts));
      on = refl;
      clock = clock_stays cell.clock change.at up_to.start;
      kept = λ _. refl;
      up_to = up_to;
      known = λ state.
          known state
          ∙ ap (λ b. cell.on && b) (ap (λ on. shows state cell.counts on (is_current_stalled current)) ran
          ∙ known_off state cell.counts (is_current_stalled current) (is_current_stalled change.current)
          ∙ ap (λ on. shows state cell.counts on (is_current_stalled change.current)) (sym runs));
    }
