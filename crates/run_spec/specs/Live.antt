-- Defines what `--live` prints. At each tick at which the watched path is live, a replay prints
-- samples of that group's clocks on each processor. Reader threads take the samples while worker
-- threads replay the events. Therefore a sample on a processor may be taken after any number of the
-- processor's changes, between the number at the previous tick and the number at this tick. The
-- line of a sample contains that number.
use Rattle.std.specs.Prelude.{◌≡◌, ℕ, ◌-◌, ◌<◌, zero, suc, List, [], length, Option, None, Some}
use Rattle.std.specs.List.{flat_map, range_with_len}
use Rattle.psi_base.specs.declared.event.Event.{Event}
use Rattle.psi_spec.specs.World.{after, slot_of, up_to}
use Rattle.psi_spec.specs.Changes.{RiseWithin, count_at, times_after}
use Rattle.psi_spec.specs.Trace.{Trace}
use Rattle.pressure_spec.specs.Ticks.{tick_moment}
use Rattle.run_spec.specs.Lines.{live_line}

-- What `--live` watches: `path` is the path of a group, and `count` is the number of samples that
-- are taken on each processor between two ticks.
pub record LiveWatch : Type 0 where
  pub path : List ℕ
  pub count : ℕ

-- `live_slot_at events path at`: the slot of the group with the path `path` that is live at time
-- `at` (ns). The result is `None` if no such group is live.
abbrev pub live_slot_at : List Event → List ℕ → ℕ → Option ℕ
live_slot_at events path at = slot_of (after (up_to events at)).groups path

-- `changes_until trace tick cpu i`: the number of changes of processor `cpu` up to tick `i`. `tick`
-- is the length (ns) of a tick. The number is 0 for i = 0, because changes at time 0 are counted in
-- the interval that ends with tick 1.
abbrev pub changes_until : Trace → ℕ → ℕ → ℕ → ℕ
changes_until trace tick cpu zero = 0
changes_until trace tick cpu (suc i) = count_at cpu trace.events (tick_moment tick (suc i))

-- `AreCounts trace tick i cpu requested counts`: the list `counts` may be the numbers of changes of
-- processor `cpu` before each of its samples between tick i - 1 and tick `i`. `tick` is the length
-- (ns) of a tick. The list has `requested` numbers, which never decrease. They are from the number
-- of changes up to tick i - 1 to the number up to tick `i`.
pub record AreCounts (trace : Trace) (tick i cpu requested : ℕ) (counts : List ℕ) : Type 0 where
  pub many : length counts ≡ requested
  pub rise : RiseWithin (changes_until trace tick cpu (i - 1)) counts (changes_until trace tick cpu i)

-- `sample_lines trace slot at cpu counts`: one line for each sample of the group in slot `slot` on
-- processor `cpu`. `counts` are the numbers of the processor's changes before the samples. A line
-- has the group's times up to `at` (ns) if only that many changes are applied.
abbrev pub sample_lines : Trace → ℕ → ℕ → ℕ → List ℕ → List ℕ
sample_lines trace slot at cpu counts =
    flat_map (λ count. live_line at cpu count (times_after cpu slot trace.events count at)) counts

-- `live_lines trace slot at counts`: the lines of the samples of the group in slot `slot` on all
-- processors at time `at` (ns), in the order of processors. `counts` maps a processor to the
-- numbers of its changes before its samples.
abbrev pub live_lines : Trace → ℕ → ℕ → (ℕ → List ℕ) → List ℕ
live_lines trace slot at counts = flat_map (λ cpu. sample_lines trace slot at cpu (counts cpu)) (range_with_len 0 trace.cpus)

-- `IsLiveOf trace tick i requested slot text`: `text` consists of the sample lines of the group in
-- slot `slot` at tick `i`, for some possible numbers of changes before the samples. `tick` is the
-- length (ns) of a tick, and `requested` is the number of samples on each processor. If `slot` is
-- `None`, no group is live under the watched path, and `text` is empty.
abbrev pub IsLiveOf : Trace → ℕ → ℕ → ℕ → Option ℕ → List ℕ → Type 0
IsLiveOf trace tick i requested None text = text ≡ []
IsLiveOf trace tick i requested (Some slot) text =
    (counts : ℕ → List ℕ) × ((cpu : ℕ) → cpu < trace.cpus → AreCounts trace tick i cpu requested (counts cpu))
    × (text ≡ live_lines trace slot (tick_moment tick i) counts)

-- `IsLiveText trace tick watch i text`: `text` is what `--live` prints at tick `i`, namely the
-- samples of the watched group. `tick` is the length (ns) of a tick. `text` is empty if `watch` is
-- `None`, or if no group is live under its path at the tick.
abbrev pub IsLiveText : Trace → ℕ → Option LiveWatch → ℕ → List ℕ → Type 0
IsLiveText trace tick None i text = text ≡ []
IsLiveText trace tick (Some watch) i text =
    IsLiveOf trace tick i watch.count (live_slot_at trace.events watch.path (tick_moment tick i)) text
