-- States that the choice of a victim depends on earlier readings only through the stored past. A
-- stored past *represents* a list of readings if it is the past stored after these readings.
use Rattle.std.specs.Prelude.{◌≡◌, ℕ, List, length, filter, option_map, Option}
use Rattle.psi_base.specs.declared.event.Slot.{Slot}
use Rattle.psi_spec.specs.declared.machine.GroupLife.{GroupLife}
use Rattle.ruleset_json.specs.declared.types.Action.{Action}
use Rattle.kill_spec.specs.declared.reading.GroupReading.{GroupReading}
use Rattle.kill_spec.specs.Readings.{Reading}
use Rattle.kill_spec.specs.Victims.{◌or_else◌, best_of, choice, count_above, descended}
use Rattle.kill_spec.specs.Victims.{large_choice, largest, largest_few, unbeaten, victim}
use Rattle.victim_rank.specs.Pasts.{IsPastOf, Kept}
use Rattle.victim_rank.specs.Growth.{has_grown_more_over, is_growing_over}
use Rattle.victim_rank.specs.Scopes.{ScopeView, among}

-- `result` is the slot of the group that the action kills at the reading `now`, or `None` if there
-- is no victim. This holds for all lists of earlier readings (newest first) that the stored past
-- represents.
abbrev pub IsVictim : List GroupLife → Action → Reading → Kept → Option Slot → Type 0
IsVictim lives act now kept result = (history : List Reading) → IsPastOf kept history →
    result ≡ option_map (λ (group : GroupReading). group.slot) (victim lives act now history)

-- `result` is the action's choice among the groups of the scope. This holds for all lists of
-- earlier readings that the stored past represents.
abbrev pub Chooses : ScopeView → Reading → Kept → Option GroupReading → Type 0
Chooses scope now kept result = (history : List Reading) → IsPastOf kept history →
    result ≡ choice scope.lives scope.act now history (among scope.lives scope.act scope.above now)

-- `result` is the group chosen last, after at most `count` further choices. The first choice is
-- among the children of the group `chosen`, and each later choice is among the children of the
-- group chosen before.
abbrev pub Descends : ScopeView → Reading → Kept → ℕ → GroupReading → GroupReading → Type 0
Descends scope now kept count chosen result = (history : List Reading) → IsPastOf kept history →
    result ≡ descended scope.lives scope.act now history count chosen

-- Chooses by size or growth among `groups`; `sizes` returns the past sizes of a group. Returns the
-- largest group of the best preference if its share of the memory is large enough. If it isn't,
-- returns the group that has grown most. If no group is growing, returns the largest group of the
-- best preference.
abbrev pub size_choice : (GroupReading → List ℕ) → List GroupLife → ℕ → ℕ → ℕ →
    List GroupReading → Option GroupReading
size_choice sizes lives size_threshold percentile ratio groups =
    large_choice lives size_threshold groups
    or_else unbeaten (has_grown_more_over sizes lives)
    (filter (is_growing_over sizes ratio)
    (largest_few lives (count_above percentile (length (best_of groups))) (best_of groups)))
    or_else largest lives (best_of groups)
