-- The names of detectors and actions, and the keys of their arguments. oomd uses the same names and
-- keys.
use Rattle.std.specs.Prelude.{ℕ, List, [], ◌∷◌, codes, Option}
use Rattle.psi_spec.specs.Fields.{named}
use Rattle.ruleset_json.specs.declared.name.DetectorName.{DetectorName}
use Rattle.ruleset_json.specs.declared.name.DetectorName.TheVariants as detector
use Rattle.ruleset_json.specs.declared.name.ActionName.{ActionName}
use Rattle.ruleset_json.specs.declared.name.ActionName.TheVariants as action
use Rattle.ruleset_json.specs.declared.name.Key.{Key}
use Rattle.ruleset_json.specs.declared.name.Key.TheVariants as key

-- The detector's name in a rules file.
unfoldable pub detector_word : DetectorName → List ℕ
detector_word detector.PressureAbove = codes "pressure_above"
detector_word detector.PressureRisingBeyond = codes "pressure_rising_beyond"
detector_word detector.MemoryAbove = codes "memory_above"
detector_word detector.MemoryReclaim = codes "memory_reclaim"
detector_word detector.SwapFree = codes "swap_free"
detector_word detector.Exists = codes "exists"

-- All kinds of detectors.
abbrev pub detector_names : List DetectorName
detector_names =
    detector.PressureAbove ∷ detector.PressureRisingBeyond ∷ detector.MemoryAbove ∷ detector.MemoryReclaim ∷ detector.SwapFree
    ∷ detector.Exists ∷ []

-- The kind of detector with the name `text`, or `None` if there is no such detector.
unfoldable pub detector_named : List ℕ → Option DetectorName
detector_named text = named detector_word detector_names text

-- The action's name in a rules file.
unfoldable pub action_word : ActionName → List ℕ
action_word action.SizeOrGrowth = codes "kill_by_memory_size_or_growth"
action_word action.SwapUsage = codes "kill_by_swap_usage"
action_word action.Pressure = codes "kill_by_pressure"
action_word action.PgScan = codes "kill_by_pg_scan"

-- All kinds of actions.
abbrev pub action_names : List ActionName
action_names = action.SizeOrGrowth ∷ action.SwapUsage ∷ action.Pressure ∷ action.PgScan ∷ []

-- The kind of action with the name `text`, or `None` if there is no such action.
unfoldable pub action_named : List ℕ → Option ActionName
action_named text = named action_word action_names text

-- The spelling of a key in a rules file.
unfoldable pub key_word : Key → List ℕ
key_word key.Cgroup = codes "cgroup"
key_word key.Resource = codes "resource"
key_word key.Threshold = codes "threshold"
key_word key.ThresholdPct = codes "threshold_pct"
key_word key.Duration = codes "duration"
key_word key.FastFallRatio = codes "fast_fall_ratio"
key_word key.Negate = codes "negate"
key_word key.SizeThreshold = codes "size_threshold"
key_word key.GrowingSizePercentile = codes "growing_size_percentile"
key_word key.MinGrowthRatio = codes "min_growth_ratio"
key_word key.Recursive = codes "recursive"
key_word key.AlwaysContinue = codes "always_continue"
key_word key.PostActionDelay = codes "post_action_delay"
