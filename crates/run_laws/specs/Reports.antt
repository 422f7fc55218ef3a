-- Defines the pressure reports of a tick, computed slot by slot in a given order of all slots, and
-- states that they are the specified reports.
use Rattle.std.specs.Prelude.{◌≡◌, ℕ, List, [], if◌then◌else◌}
use Rattle.std.specs.List.{flat_map}
use Rattle.psi_spec.specs.declared.machine.GroupLife.{GroupLife}
use Rattle.psi_spec.specs.Grammar.{Version}
use Rattle.psi_spec.specs.Groups.{is_live_at, path_at}
use Rattle.psi_spec.specs.LegalGroups.{IsPathOrder}
use Rattle.psi_spec.specs.Refusal.{AreLegal}
use Rattle.psi_spec.specs.Trace.{Trace}
use Rattle.psi_spec.specs.World.{Limits, first_world}
use Rattle.pressure_spec.specs.Average.{AverageState}
use Rattle.pressure_spec.specs.Ticks.{tick_moment, ticks_of}
use Rattle.pressure_spec.specs.Samples.{group_averages, life_of, totals_after}
use Rattle.run_spec.specs.Replay.{Timing, files_text, lives_of, reports}

-- `slot_report version at lives totals averages slot`: the report at time `at` (ns) on the group in
-- slot `slot`. The functions `totals` and `averages` map a slot to its totals (ns) and to its
-- averages. The report is empty if the group isn't live. The trace version determines the format.
abbrev pub slot_report : Version → ℕ → List GroupLife → (ℕ → List ℕ) → (ℕ → AverageState) → ℕ → List ℕ
slot_report version at lives totals averages slot =
    if is_live_at (life_of lives slot) at then files_text version at (path_at lives slot) slot (totals slot) (averages slot).averages
    else []

-- `slot_reports version at lives totals averages order`: the reports at time `at` (ns) on the live
-- groups in the slots `order`, in this order.
abbrev pub slot_reports : Version → ℕ → List GroupLife → (ℕ → List ℕ) → (ℕ → AverageState) → List ℕ → List ℕ
slot_reports version at lives totals averages order = flat_map (slot_report version at lives totals averages) order

-- `totals_at trace timing i slot`: the totals (ns) of the group in slot `slot` after the first `i`
-- ticks of a trace.
abbrev pub totals_at : Trace → Timing → ℕ → ℕ → List ℕ
totals_at trace timing i slot = totals_after trace.cpus (lives_of trace) (ticks_of trace.cpus trace.events timing.length i) slot

-- `average_state_at trace timing i slot`: the averages of the group in slot `slot` after the first
-- `i` ticks of a trace.
abbrev pub average_state_at : Trace → Timing → ℕ → ℕ → AverageState
average_state_at trace timing i slot = group_averages trace.cpus (lives_of trace) (ticks_of trace.cpus trace.events timing.length i) slot

-- ---- laws of the reports

-- The reports of a tick can be computed slot by slot, if all slots are visited in the byte order of
-- their paths. Slots with equal paths may be in any order.
abbrev pub ReportsByOrder : Type 0
ReportsByOrder = (limits : Limits) (trace : Trace) (timing : Timing) (i : ℕ) (order : List ℕ) →
    AreLegal limits first_world trace.events → IsPathOrder (lives_of trace) order →
    reports trace timing i ≡ slot_reports trace.version (tick_moment timing.length i) (lives_of trace) (totals_at trace timing i)
    (average_state_at trace timing i) order
