-- Defines the walk over the groups that a change affects. The walk climbs the chains of several
-- slots. A chain is a slot and its ancestors.
use Rattle.std.specs.Prelude.{◌≡◌, ◌≢◌, ◌⊎◌, ◌≤◌, ℕ, zero, suc, List, length, max, Bool, true, false, ◌==◌, if◌then◌else◌, Option, None, Some}
use Rattle.std.specs.Option.{option_or}
use Rattle.psi_base.specs.declared.event.Slot.{Slot}
use Rattle.psi_counts.specs.declared.changes.Counts.{Counts}
use Rattle.psi_counts.specs.declared.changes.Change.{Change}
use Rattle.psi_counts.specs.Clock.{ClockFollows}
use Rattle.psi_spec.specs.LegalGroups.{AreOlder}
use Rattle.psi_spec.specs.Stall.{is_under}
use Rattle.psi_spec.specs.Within.{last_moment}
use Rattle.psi_counts.specs.Touch.{Follows, on_with, is_current_stalled, no_counts, on_chain}
use Rattle.slot_clocks.specs.declared.cell.Cell.{Cell}
use Rattle.slot_clocks.specs.declared.chains.Chains.{Chains}
use Rattle.slot_clocks.specs.declared.chains.Parts.{Parts}
use Rattle.slot_clocks.specs.Clocks.{CanFollow, IsUpTo, MaskShows, StaysByMask, cell_in, parent_numbers}

-- Returns the slot in a pair, or `None` if there is no pair.
abbrev pub slot_in : {A : Type 0} → Option (Slot × A) → Option Slot
slot_in None = None
slot_in (Some pair) = Some pair.0

-- Returns the counts that a change subtracts or adds, or zeros for `None`.
abbrev pub counts_in : Option (Slot × Counts) → Counts
counts_in None = no_counts
counts_in (Some part) = part.1

-- Returns the height of a slot, which is the slot's number plus one. The height 0 means no slot: a
-- walk that is past the root has this height.
abbrev pub height : Option Slot → ℕ
height None = 0
height (Some slot) = suc slot.0

-- `reaches parents height slot`: whether the walk from the height `height` up to the root visits
-- `slot`.
abbrev pub reaches : List (Option ℕ) → ℕ → ℕ → Bool
reaches parents zero slot = false
reaches parents (suc place) slot = is_under parents place slot

-- `chains_of current change`: the heights (slot numbers plus one) at which the four walks of a
-- change start. The walks climb from the slots of the subtracted counts, of the added counts, of
-- the task that ran before, and of the task that runs after the change. A change that turns
-- accounting on or off subtracts no counts, so its first walk starts at that group's slot.
abbrev pub chains_of : Option (Slot × Bool) → Change → Chains
chains_of current change =
    record {
      minus = height (option_or (slot_in change.account) (slot_in change.minus));
      plus = height (slot_in change.plus);
      before = height (slot_in current);
      after = height (slot_in change.current);
    }

-- `MayStartAt pair place`: a walk for the slot in `pair` may start at the height `place`. This must
-- be the height of the slot (the slot's number plus one). If `pair` is `None`, every height is
-- allowed.
abbrev pub MayStartAt : {A : Type 0} → Option (Slot × A) → ℕ → Type 0
MayStartAt None place = Unit {0}
MayStartAt (Some pair) place = place ≡ suc pair.0.0

-- `MayStart current change starts`: the four walks of a change may start at the heights `starts`.
-- The first walk starts at the slot of the subtracted counts or of the group whose accounting is
-- turned on or off. The walk for the task that ran before may start anywhere if the change doesn't
-- affect the running task and its stall.
pub record MayStart (current : Option (Slot × Bool)) (change : Change) (starts : Chains) : Type 0 where
  pub account : MayStartAt change.account starts.minus
  pub minus : MayStartAt change.minus starts.minus
  pub plus : MayStartAt change.plus starts.plus
  pub before : MayStartAt current starts.before ⊎ (current ≡ change.current)
  pub after : starts.after ≡ height (slot_in change.current)

-- `AreParts current change parts`: `parts` has the parts of the change that affect groups.
-- `current` is the task that ran before the change.
pub record AreParts (current : Option (Slot × Bool)) (change : Change) (parts : Parts) : Type 0 where
  pub at : parts.at ≡ change.at
  pub minus : parts.minus ≡ counts_in change.minus
  pub plus : parts.plus ≡ counts_in change.plus
  pub stalled : parts.stalled ≡ is_current_stalled change.current
  pub stays : parts.stays ≡ true → current ≡ change.current

-- The walks for the subtracted counts, the added counts and the task that ran before are at the
-- same height.
pub record AreTogether (chains : Chains) : Type 0 where
  pub plus : chains.plus ≡ chains.minus
  pub before : chains.before ≡ chains.minus

-- `passed here parent place`: the height of a walk after it passes the height `here`. If the walk
-- was at `here`, its new height is `parent`. If not, its height is still `place`.
abbrev pub passed : ℕ → ℕ → ℕ → ℕ
passed here parent place = if place == here then parent else place

-- `all_passed here parent chains`: the heights of the four walks after they pass the height `here`.
abbrev pub all_passed : ℕ → ℕ → Chains → Chains
all_passed here parent chains =
    record {
      minus = passed here parent chains.minus;
      plus = passed here parent chains.plus;
      before = passed here parent chains.before;
      after = passed here parent chains.after;
    }

-- Returns the greatest of the four heights.
abbrev pub top : Chains → ℕ
top chains = max (max chains.minus chains.plus) (max chains.before chains.after)

-- `IsTurned parents change slot old new`: a change was applied to the counts and the clock of a
-- group, and the mask shows the new states. The group's accounting is unchanged.
pub record IsTurned (parents : List (Option ℕ)) (change : Change) (slot : ℕ) (old new : Cell) : Type 0 where
  pub counts : Follows old.counts (on_chain parents slot change.minus) (on_chain parents slot change.plus) new.counts
  pub on : new.on ≡ old.on
  pub clock : ClockFollows old.clock change.at new.clock
  pub kept : StaysByMask old.clock new.clock
  pub up_to : IsUpTo change.at new.clock
  pub known : MaskShows parents change.current slot new

-- `AreTurned parents change olds news`: a change was applied to the counts and the clock of each
-- group (`IsTurned`).
abbrev pub AreTurned : List (Option ℕ) → Change → List Cell → List Cell → Type 0
AreTurned parents change olds news = (slot : ℕ) → IsTurned parents change slot (cell_in olds slot) (cell_in news slot)

-- `IsApart account slot`: the change doesn't turn the accounting of the group in `slot` on or off.
abbrev pub IsApart : Option (Slot × Bool) → ℕ → Type 0
IsApart None slot = Unit {0}
IsApart (Some account) slot = slot ≢ account.0.0

-- `IsOnWith account slot old new`: if the change turns the group's accounting on or off, the field
-- `on` has the new value; otherwise it is unchanged. The counts and the clock are unchanged.
pub record IsOnWith (account : Option (Slot × Bool)) (slot : ℕ) (old new : Cell) : Type 0 where
  pub counts : new.counts ≡ old.counts
  pub on : new.on ≡ on_with slot old.on account
  pub clock : new.clock ≡ old.clock

-- `AreOnWith account olds news`: `IsOnWith` holds for each group.
abbrev pub AreOnWith : Option (Slot × Bool) → List Cell → List Cell → Type 0
AreOnWith account olds news = (slot : ℕ) → IsOnWith account slot (cell_in olds slot) (cell_in news slot)

-- `CanClimb parents current change starts cells`: the counts and running tasks of a change can be
-- applied by walks that start at the heights `starts`. If the change turns accounting on or off,
-- this happens before the walks. `current` is the task that ran before the change.
pub record CanClimb (parents : List (Option Slot)) (current : Option (Slot × Bool)) (change : Change) (starts : Chains)
    (cells : List Cell) : Type 0 where
  pub older : AreOlder (parent_numbers parents)
  pub start : MayStart current change starts
  pub slots : top starts ≤ length parents
  pub room : length parents ≤ length cells
  pub known : (slot : ℕ) → IsApart change.account slot → MaskShows (parent_numbers parents) current slot (cell_in cells slot)
  pub fits : (slot : ℕ) → CanFollow (cell_in cells slot).counts (on_chain (parent_numbers parents) slot change.minus)
      (on_chain (parent_numbers parents) slot change.plus)
  pub up_to : (slot : ℕ) → IsUpTo change.at (cell_in cells slot).clock
  pub early : change.at ≤ last_moment
