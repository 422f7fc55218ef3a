-- Defines each plugin (detector or action) by its arguments, in the order in which they are parsed.
-- The plugins are core plugins of oomd, with the arguments that this program supports.
use Rattle.std.specs.Prelude.{ℕ, List, [], ◌∷◌, false}
use Rattle.ruleset_json.specs.declared.name.DetectorName.{DetectorName}
use Rattle.ruleset_json.specs.declared.name.DetectorName.TheVariants.{PressureAbove, PressureRisingBeyond, MemoryAbove, MemoryReclaim, SwapFree, Exists}
use Rattle.ruleset_json.specs.declared.name.ActionName.{ActionName}
use Rattle.ruleset_json.specs.declared.name.ActionName.TheVariants.{SizeOrGrowth, SwapUsage, Pressure, PgScan}
use Rattle.ruleset_json.specs.declared.name.Key.TheVariants as key
use Rattle.ruleset_json.specs.declared.types.Size.TheVariants as bytes_or_percent
use Rattle.ruleset_json.specs.declared.types.After.{After}
use Rattle.ruleset_json.specs.declared.types.DetectorSpec.{DetectorSpec}
use Rattle.ruleset_json.specs.declared.types.DetectorSpec.TheVariants as detector
use Rattle.ruleset_json.specs.declared.types.Action.{Action}
use Rattle.ruleset_json.specs.declared.types.Action.TheVariants as action
use Rattle.ruleset_json.specs.Arguments.{Argument, ArgumentsMaker, required, optional, patterns, resource, number, ratio, size, truth}

-- A plugin: its arguments, and the function that makes a detector or an action from the arguments'
-- values.
pub record Plugin (Made : Type 0) : Type 0 where
  pub arguments : List Argument
  pub make : ArgumentsMaker arguments Made

-- `plugin arguments make`: the plugin with these arguments and this function.
abbrev pub plugin : {Made : Type 0} (arguments : List Argument) → ArgumentsMaker arguments Made → Plugin Made
plugin arguments make = record { arguments = arguments; make = make }

-- The greatest percentage that an argument may have.
abbrev pub percent : ℕ
percent = 100

-- The longest time (s) that an argument may have.
abbrev pub longest : ℕ
longest = 1000000

-- The arguments of each kind of detector.
unfoldable pub detector_of : DetectorName → Plugin DetectorSpec
detector_of PressureAbove =
    plugin (required key.Cgroup patterns ∷ required key.Resource resource ∷ required key.Threshold (number percent)
    ∷ required key.Duration (number longest) ∷ []) detector.PressureAbove
detector_of PressureRisingBeyond =
    plugin (required key.Cgroup patterns ∷ required key.Resource resource ∷ required key.Threshold (number percent)
    ∷ required key.Duration (number longest) ∷ optional key.FastFallRatio ratio 850 ∷ []) detector.PressureRisingBeyond
detector_of MemoryAbove =
    plugin (required key.Cgroup patterns ∷ required key.Threshold size ∷ required key.Duration (number longest) ∷ []) detector.MemoryAbove
detector_of MemoryReclaim = plugin (required key.Cgroup patterns ∷ required key.Duration (number longest) ∷ []) detector.MemoryReclaim
detector_of SwapFree = plugin (required key.ThresholdPct (number percent) ∷ []) detector.SwapFree
detector_of Exists = plugin (required key.Cgroup patterns ∷ optional key.Negate truth false ∷ []) detector.Exists

-- The arguments of each kind of action, without the settings that every action has. The plugin
-- makes a function that takes these settings and returns the action.
unfoldable pub action_of : ActionName → Plugin (After → Action)
action_of SizeOrGrowth =
    plugin (required key.Cgroup patterns ∷ optional key.SizeThreshold (number percent) 50
    ∷ optional key.GrowingSizePercentile (number percent) 80 ∷ optional key.MinGrowthRatio ratio 1250 ∷ [])
    (λ cgroup threshold percentile ratio after. action.SizeOrGrowth cgroup threshold percentile ratio after)
action_of SwapUsage =
    plugin (required key.Cgroup patterns ∷ optional key.Threshold size (bytes_or_percent.Bytes 1) ∷ [])
    (λ cgroup threshold after. action.SwapUsage cgroup threshold after)
action_of Pressure =
    plugin (required key.Cgroup patterns ∷ required key.Resource resource ∷ [])
    (λ cgroup resource after. action.Pressure cgroup resource after)
action_of PgScan = plugin (required key.Cgroup patterns ∷ []) (λ cgroup after. action.PgScan cgroup after)

-- `after_arguments delay`: the arguments for the settings that every action has. `delay` is the
-- ruleset's delay (s) after a kill, and the default for the action's delay.
unfoldable pub after_arguments : ℕ → Plugin After
after_arguments delay =
    plugin (optional key.Recursive truth false ∷ optional key.AlwaysContinue truth false
    ∷ optional key.PostActionDelay (number longest) delay ∷ [])
    (λ recursive always_continue delay. record { recursive = recursive; always_continue = always_continue; delay_s = delay })
