-- The lines that commands print, byte for byte, each with its newline.
use Rattle.std.specs.Prelude.{ℕ, ◌+◌, List, [], ◌∷◌, ◌++◌, map, codes, decimal, Bool}
use Rattle.psi_base.specs.declared.event.Res.{Res}
use Rattle.psi_base.specs.declared.event.TriggerSpec.{TriggerSpec}
use Rattle.psi_spec.specs.Fields.{resource_word, level_word}
use Rattle.psi_spec.specs.Grammar.{joined}
use Rattle.pressure_spec.specs.File.{file_text, irq_text}

-- `labelled label n`: the text `label` followed by the number `n` in decimal.
abbrev pub labelled : List ℕ → ℕ → List ℕ
labelled label n = label ++ decimal n

-- `line_of words`: the words separated by single spaces, and followed by a newline.
abbrev pub line_of : List (List ℕ) → List ℕ
line_of words = joined words ++ codes "\n"

-- ---- the lines of `stall` and `check`

-- `stall_line cpu path times`: the line that `stall` prints for the group with the path `path` on
-- processor `cpu`. `times` are the group's times (ns) in each state, and for a trace of version 2
-- also its interrupt time.
abbrev pub stall_line : ℕ → List ℕ → List ℕ → List ℕ
stall_line cpu path times =
    line_of (codes "stall" ∷ labelled (codes "cpu=") cpu ∷ path ∷ map decimal times)

-- `check_line events end`: the line that `check` prints for an accepted trace with `events` events
-- (including `end`) that ends at time `end` (ns). The number of lines in the trace includes the
-- header.
abbrev pub check_line : ℕ → ℕ → List ℕ
check_line events end =
    line_of (codes "ok" ∷ labelled (codes "lines=") (events + 1) ∷ labelled (codes "events=") events
    ∷ labelled (codes "end=") end ∷ [])

-- ---- the lines of `replay`

-- `live_line at cpu count seven`: the line for a live sample of the watched group on processor
-- `cpu`. `at` is the time (ns) of the tick, and `count` is the number of the processor's changes
-- before the sample. `seven` are the group's times (ns) in the seven states.
abbrev pub live_line : ℕ → ℕ → ℕ → List ℕ → List ℕ
live_line at cpu count seven =
    line_of (codes "live" ∷ decimal at ∷ labelled (codes "cpu=") cpu ∷ labelled (codes "count=") count
    ∷ map decimal seven)

-- `event_line at index path trigger`: the line for a trigger that fires at time `at` (ns). It
-- contains the trigger's number `index` (from 0), its group's path, its resource and level, and its
-- threshold and window (us).
abbrev pub event_line : ℕ → ℕ → List ℕ → TriggerSpec → List ℕ
event_line at index path trigger =
    line_of (codes "event" ∷ decimal at ∷ labelled (codes "trigger=") index ∷ path
    ∷ resource_word trigger.res ∷ level_word trigger.level
    ∷ decimal trigger.threshold_us ∷ decimal trigger.window_us ∷ [])

-- `kill_line at rule action path`: the line for a kill at time `at` (ns). It contains the number of
-- the ruleset, the number of the action in this ruleset (both from 0), and the victim's path.
abbrev pub kill_line : ℕ → ℕ → ℕ → List ℕ → List ℕ
kill_line at rule action path =
    line_of (codes "kill" ∷ decimal at ∷ labelled (codes "ruleset=") rule
    ∷ labelled (codes "action=") action ∷ path ∷ [])

-- `head_line at path word`: the line before a pressure file. It contains the time of the tick (ns),
-- the group's path, and the name of the file.
abbrev pub head_line : ℕ → List ℕ → List ℕ → List ℕ
head_line at path word = line_of (codes "report" ∷ decimal at ∷ path ∷ word ∷ [])

-- `report_head at path res`: the line before the pressure file of the resource `res`.
abbrev pub report_head : ℕ → List ℕ → Res → List ℕ
report_head at path res = head_line at path (resource_word res)

-- `report_text at path res is_root totals averages`: the report on the resource `res` of the group
-- with the path `path` at time `at` (ns). It consists of a head line and the pressure file with the
-- totals (ns) and averages.
abbrev pub report_text : ℕ → List ℕ → Res → Bool → List ℕ → List (List ℕ) → List ℕ
report_text at path res is_root totals averages =
    report_head at path res ++ file_text res is_root totals averages

-- `irq_report at path averages total`: the report on the interrupts of the group with the path
-- `path` at time `at` (ns). It consists of a head line and the pressure file with the averages and
-- the total (ns).
abbrev pub irq_report : ℕ → List ℕ → List ℕ → ℕ → List ℕ
irq_report at path averages total = head_line at path (codes "irq") ++ irq_text averages total

-- `end_line at ticks events kills`: the last line of a replay. It contains the end time (ns), and
-- the numbers of ticks, of signals and of kills.
abbrev pub end_line : ℕ → ℕ → ℕ → ℕ → List ℕ
end_line at ticks events kills =
    line_of (codes "end" ∷ decimal at ∷ labelled (codes "ticks=") ticks
    ∷ labelled (codes "events=") events ∷ labelled (codes "kills=") kills ∷ [])
