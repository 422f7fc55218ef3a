-- Defines the reading of an evaluation. The pressure averages of the groups come from the engine.
-- Their memory, preferences and tasks come from the side watch.
use Rattle.std.specs.Prelude.{◌≡◌, ℕ, List, length, map, filter, take}
use Rattle.psi_spec.specs.declared.machine.GroupLife.{GroupLife}
use Rattle.psi_spec.specs.Groups.{path_at}
use Rattle.pressure_spec.specs.Share.{irq_quantity, pressure_places}
use Rattle.plan_laws.specs.Moments.{is_live_slot}
use Rattle.kill_spec.specs.declared.reading.GroupReading.{GroupReading}
use Rattle.kill_spec.specs.Readings.{Reading}
use Rattle.kill_spec.specs.LegalReadings.{Ascend}
use Rattle.tick_engine.specs.Engine.{EngineView, averages_in}
use Rattle.detectors.specs.Views.{ReadingView, reading_of, seen_at}
use Rattle.side_watch.specs.Watch.{SideView, has_tasks, side_cell_at}

-- The engine has one row of averages for each pressure quantity of the group in slot `slot`.
abbrev pub HasRows : EngineView → ℕ → Type 0
HasRows engine slot = length (averages_in engine slot).averages ≡ length pressure_places

-- The values of the group in slot `slot` for a reading. The pressure averages come from the engine,
-- and the other values from the side watch.
abbrev pub group_by : EngineView → SideView → ℕ → GroupReading
group_by engine watch slot = record {
  slot = record { 0 = slot };
  averages = take irq_quantity (averages_in engine slot).averages;
  current = (side_cell_at watch slot).memory.current;
  swap = (side_cell_at watch slot).memory.swap;
  scan = (side_cell_at watch slot).memory.scan;
  preference = (side_cell_at watch slot).preference;
  populated = has_tasks watch slot;
}

-- The slots in `order` whose groups are live at time `at` (ns).
abbrev pub slots_live_at : List GroupLife → ℕ → List ℕ → List ℕ
slots_live_at lives at order = filter (is_live_slot lives at) order

-- The paths of the groups that are live at time `at` (ns), taken in the order of `order`, are in
-- ascending byte order.
abbrev pub LiveAscend : List GroupLife → ℕ → List ℕ → Type 0
LiveAscend lives at order = Ascend (map (path_at lives) (slots_live_at lives at order))

-- The values of the groups in `order` that are live at time `at` (ns). The pressure averages come
-- from the engine, and the other values from the side watch.
abbrev pub groups_by :
    EngineView → SideView → List GroupLife → ℕ → List ℕ → List GroupReading
groups_by engine watch lives at order = map (group_by engine watch) (slots_live_at lives at order)

-- The reading of all live groups at time `at` (ns). The host's memory comes from the side watch.
abbrev pub reading_by : EngineView → SideView → List GroupLife → ℕ → List ℕ → Reading
reading_by engine watch lives at order =
    seen_at at watch.host (groups_by engine watch lives at order)

-- The reading of all live groups at time `at` (ns), together with `lives`, all groups of the trace.
abbrev pub read_by : EngineView → SideView → List GroupLife → ℕ → List ℕ → ReadingView
read_by engine watch lives at order =
    reading_of lives (reading_by engine watch lives at order)
