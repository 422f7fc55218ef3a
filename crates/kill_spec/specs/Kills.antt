-- Defines which groups are killed at an evaluation. A ruleset tries its actions as a chain, and
-- pauses after a kill.
use Rattle.std.specs.Prelude.{ℕ, ◌+◌, List, [], ◌∷◌, ◌++◌, find, nat_lt, ◌&&◌, not}
use Rattle.std.specs.Prelude.{Bool, false, if◌then◌else◌, slice_get, Option, None, Some}
use Rattle.psi_base.specs.Missing.{is_some_and}
use Rattle.psi_spec.specs.declared.machine.GroupLife.{GroupLife}
use Rattle.ruleset_json.specs.declared.types.Action.{Action}
use Rattle.ruleset_json.specs.declared.types.Rule.{Rule}
use Rattle.kill_spec.specs.declared.reading.GroupReading.{GroupReading}
use Rattle.kill_spec.specs.declared.kill.Kill.{Kill}
use Rattle.kill_spec.specs.Readings.{Reading}
use Rattle.kill_spec.specs.Detectors.{of_seconds, ruleset_fires}
use Rattle.kill_spec.specs.Victims.{◌or_else◌, after_of, victim}

-- ---- chains of actions

-- The kill of `group` at time `at` (ns) by action number `act` of ruleset number `rule` (both from
-- 0).
abbrev pub kill_of : ℕ → ℕ → ℕ → GroupReading → Kill
kill_of at rule act group = record { at = at; rule = rule; action = act; victim = group.slot }

-- The kills of an action, followed by the kills `rest` of the later actions. If the action kills a
-- group, the later actions run only if the action always continues (`goes_on`).
abbrev pub and_then : Bool → Option Kill → List Kill → List Kill
and_then goes_on None rest = rest
and_then goes_on (Some kill) rest = kill ∷ (if goes_on then rest else [])

-- `kill_by rule act now victim`: the kill of the group `victim` at the reading `now` by action
-- number `act` of ruleset number `rule`, or `None` if `victim` is `None`.
abbrev pub kill_by : ℕ → ℕ → Reading → Option GroupReading → Option Kill
kill_by rule act now None = None
kill_by rule act now (Some group) = Some (kill_of now.at rule act group)

-- The kills of a chain of actions at the reading `now`, given the earlier readings `past`. The
-- actions are tried in order, and each action that has a victim kills it. The first such action
-- that doesn't always continue ends the chain. `rule` and `act` are the numbers of the ruleset and
-- of the first action.
abbrev pub chain : List GroupLife → ℕ → ℕ → List Action → Reading → List Reading → List Kill
chain lives rule act [] now past = []
chain lives rule act (first ∷ rest) now past =
    and_then (after_of first).always_continue (kill_by rule act now (victim lives first now past))
    (chain lives rule (act + 1) rest now past)

-- ---- pauses of rulesets

-- Whether a kill ended its chain of actions: the action of the kill doesn't always continue.
abbrev pub ends_chain : List Action → Kill → Bool
ends_chain actions kill = is_some_and (slice_get actions kill.action) (λ act. not (after_of act).always_continue)

-- The latest kill that ended a chain of actions, or `None`. The argument contains the kills at each
-- reading, with the newest reading first.
abbrev pub last_ending : List Action → List (List Kill) → Option Kill
last_ending actions [] = None
last_ending actions (kills ∷ earlier) = find (ends_chain actions) kills or_else last_ending actions earlier

-- `delay_of act`: the delay (ns) for which a ruleset pauses after a kill by the action `act`. The
-- delay is 0 if `act` is `None`.
abbrev pub delay_of : Option Action → ℕ
delay_of None = 0
delay_of (Some act) = of_seconds (after_of act).delay_s

-- Whether a ruleset pauses at time `at` (ns): the time since the latest kill that ended its chain
-- of actions is less than the delay of that kill's action.
abbrev pub is_resting : List Action → ℕ → Option Kill → Bool
is_resting actions at None = false
is_resting actions at (Some kill) = nat_lt at (kill.at + delay_of (slice_get actions kill.action))

-- ---- the kills of rulesets

-- The kills of the ruleset `rule`, which has the number `number`, at the reading `now`. `past` are
-- the earlier readings, and `earlier` are the ruleset's kills at these readings. The actions run
-- only if the ruleset fires and doesn't pause; otherwise it kills no group.
abbrev pub kills_at : List GroupLife → ℕ → Rule → Reading → List Reading → List (List Kill) → List Kill
kills_at lives number rule now past earlier =
    if ruleset_fires lives rule now past && not (is_resting rule.actions now.at (last_ending rule.actions earlier))
    then chain lives number 0 rule.actions now past
    else []

-- The kills of a ruleset at each of the readings. The newest reading comes first.
unfoldable pub kills_of : List GroupLife → ℕ → Rule → List Reading → List (List Kill)
kills_of lives number rule [] = []
kills_of lives number rule (now ∷ past) =
    kills_at lives number rule now past (kills_of lives number rule past) ∷ kills_of lives number rule past

-- The kills of the rulesets at the reading `now`, given the earlier readings `past`, in the order
-- of rulesets and actions. `number` is the number of the first ruleset.
abbrev pub kills_from : List GroupLife → ℕ → List Rule → Reading → List Reading → List Kill
kills_from lives number [] now past = []
kills_from lives number (rule ∷ rules) now past =
    kills_at lives number rule now past (kills_of lives number rule past)
    ++ kills_from lives (number + 1) rules now past

-- The kills of all rulesets of a rules file at the reading `now`, given the earlier readings
-- `past`.
unfoldable pub kills : List GroupLife → List Rule → Reading → List Reading → List Kill
kills lives rules now past = kills_from lives 0 rules now past
