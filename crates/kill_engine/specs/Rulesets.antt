-- Relates the state of a ruleset to the readings that the ruleset has evaluated. A detector or a
-- ruleset *represents* a list of readings if processing these readings leads to its state. A
-- ruleset *rests* during the delay after a kill that ended its chain of actions: then it runs no
-- actions.
use Rattle.std.specs.Prelude.{◌≡◌, ℕ, ◌+◌, List, ◌∷◌, ◌++◌, length, find, map, option_map, slice_get}
use Rattle.std.specs.Prelude.{Bool, Option, None, Some, All}
use Rattle.std.specs.List.{AllZip, list_all, list_any}
use Rattle.psi_spec.specs.declared.machine.GroupLife.{GroupLife}
use Rattle.ruleset_json.specs.declared.types.Action.{Action}
use Rattle.ruleset_json.specs.declared.types.DetectorSpec.{DetectorSpec}
use Rattle.ruleset_json.specs.declared.types.DetectorGroup.{DetectorGroup}
use Rattle.ruleset_json.specs.declared.types.Rule.{Rule}
use Rattle.kill_spec.specs.declared.kill.Kill.{Kill}
use Rattle.kill_spec.specs.Readings.{Reading}
use Rattle.kill_spec.specs.Detectors.{group_holds, is_true}
use Rattle.kill_spec.specs.Victims.{action_patterns, victim}
use Rattle.kill_spec.specs.Kills.{chain, delay_of, ends_chain, kill_by}
use Rattle.kill_spec.specs.Kills.{kills_at, kills_of, last_ending}
use Rattle.detectors.specs.Tables.{match_table}
use Rattle.detectors.specs.Views.{DetectorView, IsAfter, ReadingView, slots_of}
use Rattle.detectors.specs.Stands.{Represents}
use Rattle.victim_rank.specs.Pasts.{IsPastOf, Kept}

-- ---- preconditions of a reading

-- The precondition for passing `reading` to `detector`. The detector was created for the reading's
-- number of groups, and the reading is later than the detector's last reading.
pub record IsStateReady (reading : ReadingView) (detector : DetectorView) : Type 0 where
  pub later : IsAfter detector.last reading.seen.at
  pub slots : length reading.lives ≡ slots_of detector

-- The detector was created for `slots` groups, and `moment` is the time (ns) of its last reading.
-- `None` means that it hasn't processed a reading.
pub record IsAt (moment : Option ℕ) (slots : ℕ) (detector : DetectorView) : Type 0 where
  pub last : detector.last ≡ moment
  pub places : slots_of detector ≡ slots

-- ---- groups of detectors

-- Each detector in `detectors` represents the readings `history`. The detector's definition is at
-- its index in `specs`.
abbrev pub DetectorsRepresent :
    List GroupLife → List Reading → List DetectorView → List DetectorSpec → Type 0
DetectorsRepresent lives history detectors specs =
    AllZip (λ (detector : DetectorView) (spec : DetectorSpec).
    Represents detector lives spec history)
    detectors specs

-- `answer` says whether all detectors are true at `reading`. This holds for all definitions `specs`
-- of detectors and all earlier readings that lead to the detectors' states `old`.
abbrev pub AllAnswer : List DetectorView → ReadingView → Bool → Type 0
AllAnswer old reading answer = (specs : List DetectorSpec) (history : List Reading) →
    DetectorsRepresent reading.lives history old specs →
    answer ≡
    list_all (λ (spec : DetectorSpec). is_true reading.lives spec reading.seen history) specs

-- Processing `reading` changes the detectors' states from `old` to `new`: if `old` represents the
-- readings `history`, `new` represents `reading` followed by `history`.
abbrev pub AllTake : List DetectorView → ReadingView → List DetectorView → Type 0
AllTake old reading new = (specs : List DetectorSpec) (history : List Reading) →
    DetectorsRepresent reading.lives history old specs →
    DetectorsRepresent reading.lives (reading.seen ∷ history) new specs

-- In every group of detectors, each detector represents the readings `history`. The group's
-- arguments are at its index in `specs`.
abbrev pub GroupsRepresent :
    List GroupLife → List Reading → List (List DetectorView) → List DetectorGroup → Type 0
GroupsRepresent lives history groups specs =
    AllZip (λ (group : List DetectorView) (spec : DetectorGroup).
    DetectorsRepresent lives history group spec.detectors)
    groups specs

-- `answer` says whether at least one group has only true detectors at `reading`. This holds for all
-- definitions `specs` of groups and all earlier readings that lead to the states `old`.
abbrev pub SomeAnswers : List (List DetectorView) → ReadingView → Bool → Type 0
SomeAnswers old reading answer = (specs : List DetectorGroup) (history : List Reading) →
    GroupsRepresent reading.lives history old specs →
    answer ≡
    list_any (λ (group : DetectorGroup). group_holds reading.lives group reading.seen history) specs

-- Processing `reading` changes the states of all groups of detectors from `old` to `new`: if `old`
-- represents the readings `history`, `new` represents `reading` followed by `history`.
abbrev pub GroupsTake : List (List DetectorView) → ReadingView → List (List DetectorView) → Type 0
GroupsTake old reading new = (specs : List DetectorGroup) (history : List Reading) →
    GroupsRepresent reading.lives history old specs →
    GroupsRepresent reading.lives (reading.seen ∷ history) new specs

-- `Holds` is true for every detector in every group.
abbrev pub EachDetector : (DetectorView → Type 0) → List (List DetectorView) → Type 0
EachDetector Holds groups = All (λ (group : List DetectorView). All Holds group) groups

-- ---- tables of the groups that actions match

-- For each action, a table that says for each slot whether the action's patterns match its group.
abbrev pub match_tables : List GroupLife → List Action → List (List Bool)
match_tables lives actions =
    map (λ (action : Action). match_table lives (action_patterns action)) actions

-- ---- chains of actions

-- The end (ns) of a ruleset's delay after the kill `kill`, which ended its chain of actions. The
-- action of the kill determines the length of the delay.
abbrev pub rest_of : List Action → Kill → ℕ
rest_of actions kill = kill.at + delay_of (slice_get actions kill.action)

-- The end (ns) of a ruleset's delay after the last kill that ended its chain of actions. `None`
-- means that no kill has ended the chain, and the result is then 0.
abbrev pub rest_after : List Action → Option Kill → ℕ
rest_after actions None = 0
rest_after actions (Some kill) = rest_of actions kill

-- `kill` is the kill of `action` at `reading`, or `None`. This holds for all earlier readings that
-- lead to the stored past `past`. `number` is the index of the ruleset, and `act` is the index of
-- the action.
abbrev pub IsKillBy : ℕ → ℕ → Action → ReadingView → Kept → Option Kill → Type 0
IsKillBy number act action reading past kill = (history : List Reading) → IsPastOf past history →
    kill ≡ kill_by number act reading.seen (victim reading.lives action reading.seen history)

-- `after` is the list `before` followed by the kills of a ruleset's chain of actions. `act` is the
-- index of the first action in `actions`.
abbrev pub HasChain :
    ℕ → ℕ → List Action → ReadingView → Kept → List Kill → List Kill → Type 0
HasChain number act actions reading past before after =
    (history : List Reading) → IsPastOf past history →
    after ≡ before ++ chain reading.lives number act actions reading.seen history

-- `until` is the end (ns) of the ruleset's delay after its chain of actions, or `None` if no kill
-- ends the chain.
abbrev pub IsRestOf : ℕ → List Action → ReadingView → Kept → Option ℕ → Type 0
IsRestOf number actions reading past until = (history : List Reading) → IsPastOf past history →
    until ≡
    option_map (rest_of actions)
    (find (ends_chain actions) (chain reading.lives number 0 actions reading.seen history))

-- ---- rulesets

-- The state of a ruleset: its groups of detectors, its actions, and for each action a table of the
-- groups that match. `rests_until` is the end (ns) of the delay after a kill, in which the ruleset
-- runs no actions.
pub record RulesetView : Type 0 where
  pub groups : List (List DetectorView)
  pub actions : List Action
  pub tables : List (List Bool)
  pub rests_until : ℕ

-- Builds the state of a ruleset. The arguments are the fields of `RulesetView`, in order.
abbrev pub ruleset_of :
    List (List DetectorView) → List Action → List (List Bool) → ℕ → RulesetView
ruleset_of groups actions tables rests_until =
    record { groups = groups; actions = actions; tables = tables; rests_until = rests_until }

-- The ruleset's state is the state after the readings `history` (newest first). Its detectors
-- represent `history`, and it has the actions of `rule` and their tables. `rests_until` is the end
-- of its delay after the last kill that ended its chain. `number` is the index of the ruleset.
pub record RulesetRepresents (lives : List GroupLife) (history : List Reading) (number : ℕ)
    (state : RulesetView) (rule : Rule) : Type 0 where
  pub groups : GroupsRepresent lives history state.groups rule.groups
  pub actions : state.actions ≡ rule.actions
  pub tables : state.tables ≡ match_tables lives rule.actions
  pub rests : state.rests_until ≡
      rest_after rule.actions (last_ending rule.actions (kills_of lives number rule history))

-- The precondition for passing `reading` to a ruleset: each of its detectors satisfies
-- `IsStateReady`.
abbrev pub IsRulesetReady : ReadingView → RulesetView → Type 0
IsRulesetReady reading state = EachDetector (IsStateReady reading) state.groups

-- The ruleset's state is valid for the groups `lives`: some rule and readings lead to this state.
-- `number` is the index of the ruleset.
abbrev pub IsStanding : List GroupLife → ℕ → RulesetView → Type 0
IsStanding lives number state = (rule : Rule) × (history : List Reading) ×
    RulesetRepresents lives history number state rule

-- Each detector of the ruleset was created for `slots` groups, and `moment` is the time (ns) of its
-- last reading. `None` means that the detectors haven't processed a reading.
abbrev pub IsRulesetAt : Option ℕ → ℕ → RulesetView → Type 0
IsRulesetAt moment slots state = EachDetector (IsAt moment slots) state.groups

-- `after` is the list `before` followed by the kills of the ruleset at `reading`. This holds for
-- all rules and earlier readings that lead to the ruleset's state `old` and to the stored past
-- `past`.
abbrev pub HasKills : ℕ → RulesetView → ReadingView → Kept → List Kill → List Kill → Type 0
HasKills number old reading past before after = (rule : Rule) (history : List Reading) →
    RulesetRepresents reading.lives history number old rule → IsPastOf past history →
    after ≡
    before
    ++ kills_at reading.lives number rule reading.seen history
    (kills_of reading.lives number rule history)

-- Evaluating `reading` changes the ruleset's state from `old` to `new`: if `old` represents the
-- readings `history`, `new` represents `reading` followed by `history`.
abbrev pub RulesetTakes : ℕ → RulesetView → ReadingView → Kept → RulesetView → Type 0
RulesetTakes number old reading past new = (rule : Rule) (history : List Reading) →
    RulesetRepresents reading.lives history number old rule → IsPastOf past history →
    RulesetRepresents reading.lives (reading.seen ∷ history) number new rule
