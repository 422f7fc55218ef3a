-- Defines the readings on which rules decide. A reading is the state of the machine at an
-- evaluation. It contains the host's memory and, for each live group, the pressure, the memory, the
-- kill preference and whether the group has live tasks. In lists of readings, the newest reading
-- comes first.
use Rattle.std.specs.Prelude.{ℕ, ◌-◌, List, [], ◌∷◌, slice_index, slice_index_or}
use Rattle.std.specs.Prelude.{find, ◌==◌, Option, None, Some}
use Rattle.psi_base.specs.declared.event.Res.{Res}
use Rattle.psi_base.specs.declared.event.Level.TheVariants.{FullStalled}
use Rattle.psi_spec.specs.declared.machine.GroupLife.{GroupLife}
use Rattle.psi_spec.specs.Stall.{state_number}
use Rattle.psi_spec.specs.Groups.{path_at}
use Rattle.pressure_spec.specs.Samples.{state_of}
use Rattle.kill_spec.specs.declared.reading.GroupReading.{GroupReading}
use Rattle.kill_spec.specs.declared.reading.HostReading.{HostReading}

-- A reading: its time (ns), the latest sample of the host's memory, and the live groups in byte
-- order of their paths.
pub record Reading : Type 0 where
  pub at : ℕ
  pub host : HostReading
  pub groups : List GroupReading

-- The sample of the host's memory before the first sample: zeros.
abbrev pub no_host : HostReading
no_host = record { mem_total = 0; swap_total = 0; swap_free = 0 }

-- The path of a group in a reading. The slot of the group is its index in `lives`, which are all
-- groups that a trace ever creates.
abbrev pub path_of : List GroupLife → GroupReading → List ℕ
path_of lives group = path_at lives group.slot.0

-- The group in slot `slot` at a reading, or `None` if the group wasn't live then.
abbrev pub group_in : Reading → ℕ → Option GroupReading
group_in reading slot = find (λ (group : GroupReading). group.slot.0 == slot) reading.groups

-- ---- the pressure of a group

-- The index of the average over 10 s in the list of a state's averages.
abbrev pub ten_seconds : ℕ
ten_seconds = 0

-- The index of the average over 60 s in the list of a state's averages.
abbrev pub sixty_seconds : ℕ
sixty_seconds = 1

-- The `full` average of a resource over the window with index `window`, in fixed point (2,048 is 1
-- percent).
abbrev pub full_average : Res → ℕ → GroupReading → ℕ
full_average resource window group =
    slice_index (slice_index_or group.averages (state_number (state_of resource FullStalled)) []) window

-- ---- the scanned pages of a group

-- `grown_from scan before`: the increase of a group's count of scanned pages from its earlier
-- reading `before` to the count `scan`. The increase is 0 if the count decreased, or if `before` is
-- `None` because the group wasn't live then.
abbrev pub grown_from : ℕ → Option GroupReading → ℕ
grown_from scan None = 0
grown_from scan (Some before) = scan - before.scan

-- The number of pages scanned for a group since the previous reading. The number is 0 for the first
-- reading, for a group that wasn't live at the previous reading, and if the count decreased.
abbrev pub rise : List Reading → GroupReading → ℕ
rise [] group = 0
rise (before ∷ past) group = grown_from group.scan (group_in before group.slot.0)
