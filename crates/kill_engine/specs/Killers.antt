-- Relates the state of a killer (all rulesets of a rules file) to the readings that the killer has
-- evaluated. A killer, a ruleset or a stored past *represents* a list of readings if evaluating
-- these readings leads to its state.
use Rattle.std.specs.Prelude.{◌≡◌, ℕ, ◌+◌, ◌≤◌, List, [], ◌∷◌, length, Option, All}
use Rattle.psi_spec.specs.declared.machine.GroupLife.{GroupLife}
use Rattle.ruleset_json.specs.declared.types.Rule.{Rule}
use Rattle.kill_spec.specs.declared.kill.Kill.{Kill}
use Rattle.kill_spec.specs.Readings.{Reading}
use Rattle.kill_spec.specs.Kills.{kills}
use Rattle.detectors.specs.Views.{ReadingView}
use Rattle.detectors.specs.Stands.{newest_moment}
use Rattle.victim_rank.specs.Pasts.{IsPastOf, Kept}
use Rattle.kill_engine.specs.Rulesets.{IsRulesetAt, RulesetRepresents, RulesetView}

-- A killer: its rulesets, the stored past of the groups, the time (ns) of its last reading, and the
-- kills at that reading.
pub record KillerView : Type 0 where
  pub rulesets : List RulesetView
  pub past : Kept
  pub last : Option ℕ
  pub found : List Kill

-- Builds the state of a killer. The arguments are the fields of `KillerView`, in order.
abbrev pub killer_of : List RulesetView → Kept → Option ℕ → List Kill → KillerView
killer_of rulesets past last found =
    record { rulesets = rulesets; past = past; last = last; found = found }

-- The number of groups that the killer was created for.
abbrev pub killer_slots : KillerView → ℕ
killer_slots killer = length killer.past.sizes

-- ---- the readings that a killer represents

-- Each ruleset in `states` has the state of the rule at its index in `rules` after the readings
-- `history`. `number` is the index of the first ruleset in the rules file.
abbrev pub RulesetsRepresent :
    List GroupLife → List Reading → ℕ → List RulesetView → List Rule → Type 0
RulesetsRepresent lives history number [] [] = Unit {0}
RulesetsRepresent lives history number [] (rule ∷ rules) = ⊥
RulesetsRepresent lives history number (state ∷ states) [] = ⊥
RulesetsRepresent lives history number (state ∷ states) (rule ∷ rules) =
    RulesetRepresents lives history number state rule
    × RulesetsRepresent lives history (number + 1) states rules

-- The kills at the newest reading. Empty before the first reading.
abbrev pub newest_kills : List GroupLife → List Rule → List Reading → List Kill
newest_kills lives rules [] = []
newest_kills lives rules (now ∷ past) = kills lives rules now past

-- The killer's state is the state after the readings `history` (newest first), for the rules
-- `rules` and the groups `lives`. Its rulesets and its stored past represent `history`. `last` is
-- the time (ns) of the newest reading, and `found` has the kills at that reading.
pub record Represents (killer : KillerView) (lives : List GroupLife) (rules : List Rule)
    (history : List Reading) : Type 0 where
  pub slots : killer_slots killer ≡ length lives
  pub rulesets : RulesetsRepresent lives history 0 killer.rulesets rules
  pub past : IsPastOf killer.past history
  pub last : killer.last ≡ newest_moment history
  pub found : killer.found ≡ newest_kills lives rules history

-- The killer's state is valid for the groups `lives`: some rules and readings lead to this state.
abbrev pub IsStanding : KillerView → List GroupLife → Type 0
IsStanding killer lives = (rules : List Rule) × (history : List Reading) ×
    Represents killer lives rules history

-- `found` has the kills at `reading`, for all rules and earlier readings that lead to the killer's
-- state `old`.
abbrev pub Decides : KillerView → ReadingView → List Kill → Type 0
Decides old reading found = (rules : List Rule) (history : List Reading) →
    Represents old reading.lives rules history →
    found ≡ kills reading.lives rules reading.seen history

-- Evaluating `reading` changes the killer's state from `old` to `new`: if `old` represents the
-- readings `history`, `new` represents `reading` followed by `history`.
abbrev pub KillerTakes : KillerView → ReadingView → KillerView → Type 0
KillerTakes old reading new = (rules : List Rule) (history : List Reading) →
    Represents old reading.lives rules history →
    Represents new reading.lives rules (reading.seen ∷ history)

-- ---- lists of rulesets

-- The states of the rulesets are valid for the groups `lives`: some rules and readings lead to
-- these states.
abbrev pub AreStanding : List GroupLife → List RulesetView → Type 0
AreStanding lives states = (rules : List Rule) × (history : List Reading) ×
    RulesetsRepresent lives history 0 states rules

-- `found` has the kills of all rulesets at `reading`. This holds for all rules and earlier readings
-- that lead to the rulesets' states `old` and to the stored past `past`.
abbrev pub AllDecide : List RulesetView → ReadingView → Kept → List Kill → Type 0
AllDecide old reading past found = (rules : List Rule) (history : List Reading) →
    RulesetsRepresent reading.lives history 0 old rules → IsPastOf past history →
    found ≡ kills reading.lives rules reading.seen history

-- Evaluating `reading` changes the rulesets' states from `old` to `new`: if `old` represents the
-- readings `history`, `new` represents `reading` followed by `history`.
abbrev pub RulesetsTake : List RulesetView → ReadingView → Kept → List RulesetView → Type 0
RulesetsTake old reading past new = (rules : List Rule) (history : List Reading) →
    RulesetsRepresent reading.lives history 0 old rules → IsPastOf past history →
    RulesetsRepresent reading.lives (reading.seen ∷ history) 0 new rules

-- ---- the invariant of a killer

-- The invariant of a killer. It has at most 64 rulesets. Each detector of these rulesets was
-- created for the killer's number of groups. The detector's last reading was at the time
-- `killer.last`.
pub record IsKiller (killer : KillerView) : Type 0 where
  pub few : length killer.rulesets ≤ 64
  pub at : All (λ state. IsRulesetAt killer.last (killer_slots killer) state) killer.rulesets
