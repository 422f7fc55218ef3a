-- Defines the ranges of the argument values of detectors and actions.
use Rattle.std.specs.Prelude.{ℕ, ◌≤◌, ◌^◌, List, All, length}
use Rattle.psi_base.specs.declared.event.Res.{Res}
use Rattle.psi_base.specs.declared.event.Res.TheVariants as res
use Rattle.ruleset_json.specs.declared.types.Size.{Size}
use Rattle.ruleset_json.specs.declared.types.Size.TheVariants as size
use Rattle.ruleset_json.specs.declared.types.DetectorSpec.{DetectorSpec}
use Rattle.ruleset_json.specs.declared.types.DetectorSpec.TheVariants as detector
use Rattle.ruleset_json.specs.declared.types.Action.{Action}
use Rattle.ruleset_json.specs.declared.types.Action.TheVariants as action

-- The percentage is at most 100.
abbrev pub IsPercent : ℕ → Type 0
IsPercent n = n ≤ 100

-- The time is at most 1,000,000 s.
abbrev pub IsTime : ℕ → Type 0
IsTime n = n ≤ 1000000

-- The ratio, in thousandths, is at most 1,000,999.
abbrev pub IsRatio : ℕ → Type 0
IsRatio n = n ≤ 1000999

-- The resource is IO or memory. Detectors and actions use only these two resources.
abbrev pub IsStallable : Res → Type 0
IsStallable res.Io = Unit {0}
IsStallable res.Memory = Unit {0}
IsStallable res.Cpu = ⊥

-- The size is at most 2^60 bytes, or at most 100 percent.
abbrev pub IsSize : Size → Type 0
IsSize (size.Bytes n) = n ≤ 2 ^ 60
IsSize (size.Percent n) = IsPercent n

-- The arguments of the detector are in range.
abbrev pub FitsDetector : DetectorSpec → Type 0
FitsDetector (detector.PressureAbove cgroup resource threshold duration) = IsStallable resource × IsPercent threshold × IsTime duration
FitsDetector (detector.PressureRisingBeyond cgroup resource threshold duration ratio) =
    IsStallable resource × IsPercent threshold × IsTime duration × IsRatio ratio
FitsDetector (detector.MemoryAbove cgroup threshold duration) = IsSize threshold × IsTime duration
FitsDetector (detector.MemoryReclaim cgroup duration) = IsTime duration
FitsDetector (detector.SwapFree threshold) = IsPercent threshold
FitsDetector (detector.Exists cgroup negate) = Unit {0}

-- The arguments of the action are in range.
abbrev pub FitsAction : Action → Type 0
FitsAction (action.SizeOrGrowth cgroup size_threshold percentile ratio after) =
    IsPercent size_threshold × IsPercent percentile × IsRatio ratio × IsTime after.delay_s
FitsAction (action.SwapUsage cgroup threshold after) = IsSize threshold × IsTime after.delay_s
FitsAction (action.Pressure cgroup resource after) = IsStallable resource × IsTime after.delay_s
FitsAction (action.PgScan cgroup after) = IsTime after.delay_s

-- `FitsList Fits most xs`: the list `xs` has at most `most` items, and every item satisfies `Fits`.
pub record FitsList {A : Type 0} (Fits : A → Type 0) (most : ℕ) (xs : List A) : Type 0 where
  pub few : length xs ≤ most
  pub each : All Fits xs

abbrev pub FitsDetectors : List DetectorSpec → Type 0
FitsDetectors = FitsList FitsDetector 16

abbrev pub FitsActions : List Action → Type 0
FitsActions = FitsList FitsAction 16
