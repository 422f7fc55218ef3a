-- Defines the output of psi_observe for a trace: the samples of all observers, the last state of
-- the board that each observer read, and the end line. A replay publishes its progress on the
-- *board*.
use Rattle.std.specs.Prelude.{◌≡◌, ℕ, List, [], ◌∷◌, ◌++◌, length, map, slice_index_or, codes, decimal}
use Rattle.std.specs.List.{flat_map, range_with_len}
use Rattle.psi_base.specs.declared.event.Event.{Event}
use Rattle.psi_spec.specs.Changes.{event_of_change, times_after}
use Rattle.psi_spec.specs.Trace.{Trace}
use Rattle.run_spec.specs.Lines.{labelled, line_of}
use Rattle.run_spec.specs.Replay.{Timing, signals_until, tick_count}
use Rattle.run_spec.specs.Text.{end_of}
use Rattle.observe_spec.specs.Samples.{AreObserved, Look}

-- The time (ns) of event number `i` (from 1). The time is 0 for i = 0.
abbrev pub moment_at : ℕ → List Event → ℕ
moment_at i events = slice_index_or (0 ∷ map (λ (event : Event). event.at) events) i 0

-- The time (ns) of change number `count` (from 1) of processor `cpu`. The time is 0 for count = 0.
abbrev pub moment_after : Trace → ℕ → ℕ → ℕ
moment_after trace cpu count = moment_at (event_of_change cpu trace.events count) trace.events

-- The times (ns) in the states that the sample `look` contains. They are the times of its group
-- after `count` changes of its processor, at the time of the last of these changes.
abbrev pub times_of : Trace → Look → List ℕ
times_of trace look = times_after look.cpu look.slot trace.events look.count (moment_after trace look.cpu look.count)

-- The line for a sample. It contains the observer, the processor, the number of changes before the
-- sample, the time (ns) of the last of these changes, and the times (ns) in the states.
abbrev pub sample_line : Trace → Look → List ℕ
sample_line trace look =
    line_of (codes "sample" ∷ labelled (codes "observer=") look.observer ∷ labelled (codes "cpu=") look.cpu
    ∷ labelled (codes "count=") look.count ∷ labelled (codes "at=") (moment_after trace look.cpu look.count)
    ∷ map decimal (times_of trace look))

-- The line for the last state of the board that an observer read. It contains the last tick, the
-- number of signals up to this tick, and the number of kills, which is 0.
abbrev pub board_line : Trace → Timing → ℕ → List ℕ
board_line trace timing observer =
    line_of (codes "board" ∷ labelled (codes "observer=") observer ∷ labelled (codes "tick=") (tick_count trace timing)
    ∷ labelled (codes "events=") (signals_until trace timing (tick_count trace timing)) ∷ labelled (codes "kills=") 0 ∷ [])

-- The last line: the end time (ns) and the number of samples.
abbrev pub observed_last_line : Trace → List Look → List ℕ
observed_last_line trace looks =
    line_of (codes "end" ∷ decimal (end_of trace.events) ∷ labelled (codes "samples=") (length looks) ∷ [])

-- The output of psi_observe for the samples `looks`, which `observers` observers took.
unfoldable pub observed_text : Trace → Timing → ℕ → List Look → List ℕ
observed_text trace timing observers looks =
    flat_map (sample_line trace) looks ++ flat_map (board_line trace timing) (range_with_len 0 observers) ++ observed_last_line trace looks

-- `text` is a valid output for `observers` observers of the group with path `path`: it is the
-- output for some samples that the observers may have taken.
abbrev pub IsObservedText : Trace → Timing → List ℕ → ℕ → List ℕ → Type 0
IsObservedText trace timing path observers text =
    (looks : List Look) × AreObserved trace timing path observers looks × (text ≡ observed_text trace timing observers looks)
