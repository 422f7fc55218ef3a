-- Proves that the greatest of several averages is at most 100 percent, because each average is.
use Rattle.std.proofs.Common.{ℕ, suc, ◌≤◌, ◌<◌, List, [], ◌∷◌, get_or, arith}
use Rattle.std.specs.Prelude.{All, Bool, max, map, fold}
use Rattle.std.proofs.Math.Nat.{max-le}
use Rattle.std.proofs.lemmas.List.Elements.{All-filter}
use Rattle.psi_base.specs.declared.event.Res.{Res}
use Rattle.psi_base.specs.declared.event.Res.TheVariants.{Io, Memory, Cpu}
use Rattle.psi_base.specs.declared.event.Level.TheVariants.{FullStalled}
use Rattle.psi_spec.specs.Stall.{state_number}
use Rattle.pressure_spec.specs.Within.{IsRow}
use Rattle.pressure_spec.specs.Samples.{state_of}
use Rattle.ruleset_json.specs.declared.types.DetectorSpec.{DetectorSpec}
use Rattle.ruleset_json.specs.declared.types.DetectorSpec.TheVariants as detector
use Rattle.kill_spec.specs.declared.reading.GroupReading.{GroupReading}
use Rattle.kill_spec.specs.Readings.{full_average, ten_seconds}
use Rattle.kill_spec.specs.LegalReadings.{IsGroupReading}
use Rattle.detectors.specs.Tables.{found, greatest_of, has}

full_place : (resource : Res) → state_number (state_of resource FullStalled) < 6
full_place Io = omega arith
full_place Memory = omega arith
full_place Cpu = omega arith

average_within : (slots : ℕ) (resource : Res) (window : ℕ) (group : GroupReading) → window < 3 →
    IsGroupReading slots group →
    full_average resource window group ≤ 204800
average_within slots resource window group inside is =
    let place = state_number (state_of resource FullStalled) in
    let row : IsRow (get_or group.averages place []) = is.each place [] (omega (arith, full_place resource, is.rows)) in
    row.most window 0 (omega (arith, inside, row.three))

greatest_from : (slots : ℕ) (resource : Res) (window : ℕ) → window < 3 →
    (before : ℕ) (groups : List GroupReading) →
    before ≤ 204800 → All (IsGroupReading slots) groups → fold max before (map (full_average resource window) groups) ≤ 204800
greatest_from slots resource window inside before [] least each = least
greatest_from slots resource window inside before (group ∷ groups) least each =
    let here = average_within slots resource window group inside (each 0 group (omega arith)) in
    greatest_from slots resource window inside (max before (full_average resource window group)) groups (max-le least here)
    (λ k d below. each (suc k) d (omega (arith, below)))

pub greatest_within : (spec : DetectorSpec) (slots : ℕ) (groups : List GroupReading) →
    All (IsGroupReading slots) groups →
    greatest_of spec groups ≤ 204800
greatest_within (detector.PressureAbove cgroup resource threshold duration_s) slots groups each = omega arith
greatest_within (detector.PressureRisingBeyond cgroup resource threshold duration_s ratio) slots groups each =
    greatest_from slots resource ten_seconds (omega arith) 0 groups (omega arith) each
greatest_within (detector.MemoryAbove cgroup threshold duration_s) slots groups each = omega arith
greatest_within (detector.MemoryReclaim cgroup duration_s) slots groups each = omega arith
greatest_within (detector.SwapFree threshold_pct) slots groups each = omega arith
greatest_within (detector.Exists cgroup negate) slots groups each = omega arith

-- Each group that the table finds is within its ranges.
pub found_within : (slots : ℕ) (matched : List Bool) (groups : List GroupReading) →
    All (IsGroupReading slots) groups →
    All (IsGroupReading slots) (found matched groups)
found_within slots matched groups each = All-filter (has matched) (IsGroupReading slots) groups each
