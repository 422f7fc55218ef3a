-- Laws of detectors, victims and chains of actions that follow from the definitions.
use Rattle.std.specs.Prelude.{◌≡◌, ◌↔◌, ℕ, ◌-◌, ◌≤◌, List, ◌∷◌, ◌++◌, All, Bool, true, false, ◌+◌, length, Some, Contains, slice_get, Any}
use Rattle.psi_spec.specs.declared.machine.GroupLife.{GroupLife}
use Rattle.path_match.specs.Match.{is_match}
use Rattle.ruleset_json.specs.declared.types.Rule.{Rule}
use Rattle.kill_spec.specs.declared.reading.GroupReading.{GroupReading}
use Rattle.kill_spec.specs.Readings.{Reading, path_of}
use Rattle.kill_spec.specs.LegalReadings.{IsReading, AreReadings}
use Rattle.psi_spec.specs.Stall.{parents_of}
use Rattle.psi_spec.specs.LegalGroups.{AreOlder}
use Rattle.ruleset_json.specs.declared.types.Action.{Action}
use Rattle.kill_spec.specs.Detectors.{held_for, holds_for, ruleset_fires}
use Rattle.kill_spec.specs.declared.kill.Kill.{Kill}
use Rattle.kill_spec.specs.Victims.{action_patterns, after_of, descended, victim}
use Rattle.kill_spec.specs.Kills.{delay_of, ends_chain, kills, kills_at, kills_of}

-- ---- laws of durations

-- `condition` has been true for `duration` (ns) at time `at` (ns). Among the readings (the newest
-- first) there is a reading at least `duration` earlier than `at` at which the condition is true,
-- and the condition is true at every later reading.
pub record HeldFor (condition : Reading → Bool) (duration at : ℕ) (readings : List Reading) : Type 0 where
  pub since : List Reading
  pub first : Reading
  pub earlier : List Reading
  pub all : readings ≡ since ++ first ∷ earlier
  pub each : All (λ reading. condition reading ≡ true) since
  pub starts : condition first ≡ true
  pub long : duration ≤ at - first.at

-- The Boolean test `held_for` is true if and only if the relation `HeldFor` holds.
abbrev pub HeldForShows : Type 0
HeldForShows = (condition : Reading → Bool) (duration at : ℕ) (readings : List Reading) →
    (held_for condition duration at readings ≡ true) ↔ HeldFor condition duration at readings

-- For a duration of 0, only the current reading counts: the condition has been true for 0 s if and
-- only if it is true at the current reading.
abbrev pub HoldsAtOnce : Type 0
HoldsAtOnce = (condition : Reading → Bool) (now : Reading) (past : List Reading) →
    holds_for condition 0 now past ≡ condition now

-- A reading at which the condition is false restarts the duration: readings before it don't count.
abbrev pub BreakStartsAnew : Type 0
BreakStartsAnew = (condition : Reading → Bool) (duration_s : ℕ) (now broken : Reading) (newer older : List Reading) →
    condition broken ≡ false →
    holds_for condition duration_s now (newer ++ broken ∷ older) ≡ holds_for condition duration_s now newer

-- A condition that has been true for a duration has also been true for every shorter duration.
abbrev pub LongerIsLater : Type 0
LongerIsLater = (condition : Reading → Bool) (shorter_s longer_s : ℕ) (now : Reading) (past : List Reading) →
    shorter_s ≤ longer_s → holds_for condition longer_s now past ≡ true → holds_for condition shorter_s now past ≡ true

-- ---- laws of victims

-- The group is live at the reading, and some live task is in the group or in a descendant.
abbrev pub IsPopulatedIn : Reading → GroupReading → Type 0
IsPopulatedIn reading group = Contains reading.groups group × (group.populated ≡ true)

-- The victim of an action has a live task in it or in a descendant. It matches the action's
-- patterns unless the action is recursive.
abbrev pub VictimsMatch : Type 0
VictimsMatch = (lives : List GroupLife) (act : Action) (now : Reading) (past : List Reading) (group : GroupReading) →
    victim lives act now past ≡ Some group →
    IsPopulatedIn now group × ((after_of act).recursive ≡ false → is_match (action_patterns act) (path_of lives group) ≡ true)

-- A recursive action repeats its choice at most once for each group: allowing more repetitions
-- doesn't change the result.
abbrev pub DescentEnds : Type 0
DescentEnds = (lives : List GroupLife) (act : Action) (now : Reading) (past : List Reading) (more : ℕ) (group : GroupReading) →
    AreOlder (parents_of lives) → IsReading lives now →
    descended lives act now past (length lives + more) group ≡ descended lives act now past (length lives) group

-- ---- laws of kills

-- The kill is among the ruleset's kills at some reading, and it ended the chain of actions.
abbrev pub EndedBy : List GroupLife → ℕ → Rule → List Reading → Kill → Type 0
EndedBy lives number rule readings kill =
    Any (λ kills. Contains kills kill) (kills_of lives number rule readings) × (ends_chain rule.actions kill ≡ true)

-- The times of two kills that each ended a ruleset's chain of actions differ by at least the delay
-- of the earlier kill's action.
abbrev pub EndingsApart : Type 0
EndingsApart = (lives : List GroupLife) (number : ℕ) (rule : Rule) (now : Reading) (past : List Reading) (first second : Kill) →
    AreReadings lives (now ∷ past) →
    EndedBy lives number rule past first →
    Contains (kills_at lives number rule now past (kills_of lives number rule past)) second →
    ends_chain rule.actions second ≡ true →
    first.at + delay_of (slice_get rule.actions first.action) ≤ second.at

-- At one reading, at most one kill of a ruleset ends the chain of actions.
abbrev pub EndsOnce : Type 0
EndsOnce = (lives : List GroupLife) (number : ℕ) (rule : Rule) (now : Reading) (past : List Reading)
    (first second : Kill) →
    Contains (kills_at lives number rule now past (kills_of lives number rule past)) first →
    Contains (kills_at lives number rule now past (kills_of lives number rule past)) second →
    ends_chain rule.actions first ≡ true → ends_chain rule.actions second ≡ true → first ≡ second

-- An action of the ruleset `rule` decided the kill at the reading `now`: the ruleset fires, and the
-- killed group is the victim of that action.
pub record IsKillOf (lives : List GroupLife) (number : ℕ) (rule : Rule) (now : Reading) (past : List Reading) (kill : Kill) : Type 0 where
  pub at : kill.at ≡ now.at
  pub rule_is : kill.rule ≡ number
  pub act : Action
  pub by : slice_get rule.actions kill.action ≡ Some act
  pub group : GroupReading
  pub chosen : victim lives act now past ≡ Some group
  pub slot : kill.victim ≡ group.slot
  pub fired : ruleset_fires lives rule now past ≡ true

-- Each kill of a ruleset was decided by one of its actions: a group is killed only as the victim of
-- an action of a ruleset that fires.
abbrev pub KillsAreOfActions : Type 0
KillsAreOfActions = (lives : List GroupLife) (number : ℕ) (rule : Rule) (now : Reading) (past : List Reading) (kill : Kill) →
    Contains (kills_at lives number rule now past (kills_of lives number rule past)) kill →
    IsKillOf lives number rule now past kill
