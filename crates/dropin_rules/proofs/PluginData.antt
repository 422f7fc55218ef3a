-- Proves that parsing the JSON object of a plugin returns the plugin.
use Rattle.std.proofs.Common.{◌≡◌, ℕ, Ok, refl, arith}
use Rattle.ruleset_json.specs.declared.fault.Place.{Place}
use Rattle.ruleset_json.specs.declared.types.Action.{Action}
use Rattle.ruleset_json.specs.declared.types.Action.TheVariants as action
use Rattle.ruleset_json.specs.declared.types.DetectorSpec.{DetectorSpec}
use Rattle.ruleset_json.specs.declared.types.DetectorSpec.TheVariants as detector
use Rattle.ruleset_json.specs.Arguments.{argument_at, argument_of, number, value_at}
use Rattle.ruleset_json.specs.Names.{action_named, action_word, detector_named, detector_word, key_word}
use Rattle.ruleset_json.specs.Plugins.{action_of, after_arguments, detector_of, longest, percent}
use Rattle.ruleset_json.specs.Ranges.{FitsAction, FitsDetector, IsPercent, IsTime}
use Rattle.ruleset_json.specs.Rules.{action_in, action_made_at, detector_in, made_at, plugin_at}
use Rattle.dropin_rules.specs.HasPatterns.{ActionHasPatterns, DetectorHasPatterns}
use Rattle.dropin_rules.specs.RulesText.{action_data, detector_data}
use Rattle.std.specs.Prelude.{decimal}
use Rattle.dropin_rules.proofs.ArgumentTexts.{number_again, patterns_again, ratio_again, resource_again, size_again, truth_again}

percent_again : (at : Place) (n : ℕ) → IsPercent n → argument_of at (number percent) (decimal n) ≡ Ok n
percent_again at n fits = number_again at percent n fits (omega arith)

time_again : (at : Place) (n : ℕ) → IsTime n → argument_of at (number longest) (decimal n) ≡ Ok n
time_again at n fits = number_again at longest n fits (omega arith)

pub detector_again : (at : Place) (d : DetectorSpec) → FitsDetector d → DetectorHasPatterns d → detector_in at (detector_data d) ≡ Ok d
unfolding plugin_at made_at detector_of argument_at value_at key_word detector_word detector_named
detector_again at (detector.PressureAbove cgroup resource threshold duration) fits are =
    rw (patterns_again at cgroup are, resource_again at resource fits.0, percent_again at threshold fits.1, time_again at duration fits.2) refl
detector_again at (detector.PressureRisingBeyond cgroup resource threshold duration ratio) fits are =
    rw (patterns_again at cgroup are, resource_again at resource fits.0, percent_again at threshold fits.1, time_again at duration fits.2, ratio_again at ratio fits.3) refl
detector_again at (detector.MemoryAbove cgroup threshold duration) fits are =
    rw (patterns_again at cgroup are, size_again at threshold fits.0, time_again at duration fits.1) refl
detector_again at (detector.MemoryReclaim cgroup duration) fits are = rw (patterns_again at cgroup are, time_again at duration fits) refl
detector_again at (detector.SwapFree threshold) fits are = rw (percent_again at threshold fits) refl
detector_again at (detector.Exists cgroup negate) fits are = rw (patterns_again at cgroup are, truth_again at negate) refl

pub action_again : (at : Place) (delay : ℕ) (a : Action) → FitsAction a → ActionHasPatterns a → action_in delay at (action_data a) ≡ Ok a
unfolding plugin_at made_at action_made_at action_of after_arguments argument_at value_at key_word action_word action_named
action_again at delay (action.SizeOrGrowth cgroup size_threshold percentile ratio after) fits are =
    rw (
      patterns_again at cgroup are,
      percent_again at size_threshold fits.0,
      percent_again at percentile fits.1,
      ratio_again at ratio fits.2,
      truth_again at after.recursive,
      truth_again at after.always_continue,
      time_again at after.delay_s fits.3,
    ) refl
action_again at delay (action.SwapUsage cgroup threshold after) fits are =
    rw (patterns_again at cgroup are, size_again at threshold fits.0, truth_again at after.recursive, truth_again at after.always_continue, time_again at after.delay_s fits.1) refl
action_again at delay (action.Pressure cgroup resource after) fits are =
    rw (patterns_again at cgroup are, resource_again at resource fits.0, truth_again at after.recursive, truth_again at after.always_continue, time_again at after.delay_s fits.1) refl
action_again at delay (action.PgScan cgroup after) fits are =
    rw (patterns_again at cgroup are, truth_again at after.recursive, truth_again at after.always_continue, time_again at after.delay_s fits) refl
