-- The output of `stall` and `check`, byte for byte, and the printed names of causes.
use Rattle.std.specs.Prelude.{ℕ, List, [], ◌∷◌, ◌++◌, length, map, Option, None, Some, codes, decimal}
use Rattle.std.specs.List.{flat_map, range_with_len}
use Rattle.psi_base.specs.declared.event.Event.{Event}
use Rattle.psi_base.specs.declared.event.Cause.{Cause}
use Rattle.psi_base.specs.declared.event.Cause.TheVariants as cause
use Rattle.psi_spec.specs.Grammar.{One, Two, Version}
use Rattle.psi_spec.specs.World.{after}
use Rattle.psi_spec.specs.Groups.{live_groups}
use Rattle.psi_spec.specs.Stall.{irq_time, stall, states}
use Rattle.psi_spec.specs.Trace.{Trace}
use Rattle.import_spec.specs.declared.cause.ImportCause.{ImportCause}
use Rattle.import_spec.specs.declared.cause.ImportCause.TheVariants as import_cause
use Rattle.run_spec.specs.Lines.{check_line, stall_line}

-- ---- the output of `stall`

-- `end_of events`: the end time (ns) of a trace, which is the time of its last event.
abbrev pub end_of : List Event → ℕ
end_of events = (after events).last

-- `stall_times cpu slot events`: the time (ns) that the group in slot `slot` was in each state on
-- processor `cpu`, up to the end of the trace. The times are in the order of the states.
abbrev pub stall_times : ℕ → ℕ → List Event → List ℕ
stall_times cpu slot events = map (λ state. stall state cpu slot events (end_of events)) states

-- `stall_times_of version cpu slot events`: the times (ns) that `stall` prints for the group in
-- slot `slot` on processor `cpu`. They are the times in each state, and for version 2 also the
-- interrupt time.
abbrev pub stall_times_of : Version → ℕ → ℕ → List Event → List ℕ
stall_times_of One cpu slot events = stall_times cpu slot events
stall_times_of Two cpu slot events = stall_times cpu slot events ++ irq_time cpu slot events ∷ []

-- `stall_lines version cpu events`: the lines of `stall` for processor `cpu`. There is one line for
-- each group that is live at the end of the trace, in the byte order of paths.
abbrev pub stall_lines : Version → ℕ → List Event → List ℕ
stall_lines version cpu events =
    flat_map (λ (pair : List ℕ × ℕ). stall_line cpu pair.0 (stall_times_of version cpu pair.1 events)) (live_groups (after events).groups)

-- `stall_text trace`: the output of `stall`, with the lines of all processors in the order of
-- processors.
unfoldable pub stall_text : Trace → List ℕ
stall_text trace = flat_map (λ cpu. stall_lines trace.version cpu trace.events) (range_with_len 0 trace.cpus)

-- ---- the output of `check`

-- `check_text trace`: the output of `check` for an accepted trace.
abbrev pub check_text : Trace → List ℕ
check_text trace = check_line (length trace.events) (end_of trace.events)

-- ---- the printed causes of rejection

-- The printed name of a cause of rejection.
abbrev pub cause_name : Cause → List ℕ
cause_name cause.BadHeader = codes "BadHeader"
cause_name cause.LineTooLong = codes "LineTooLong"
cause_name cause.BadTime = codes "BadTime"
cause_name cause.BadVerb = codes "BadVerb"
cause_name (cause.BadField field) = codes "BadField"
cause_name cause.TimeBack = codes "TimeBack"
cause_name cause.TimeTooLate = codes "TimeTooLate"
cause_name cause.TooManyEvents = codes "TooManyEvents"
cause_name cause.UnknownGroup = codes "UnknownGroup"
cause_name cause.GroupExists = codes "GroupExists"
cause_name cause.NoParent = codes "NoParent"
cause_name cause.GroupBusy = codes "GroupBusy"
cause_name cause.TooManyGroups = codes "TooManyGroups"
cause_name cause.UnknownTask = codes "UnknownTask"
cause_name cause.TaskExists = codes "TaskExists"
cause_name cause.TooManyTasks = codes "TooManyTasks"
cause_name cause.BadCpu = codes "BadCpu"
cause_name cause.NotRunning = codes "NotRunning"
cause_name cause.NotReady = codes "NotReady"
cause_name cause.NotBlocked = codes "NotBlocked"
cause_name cause.WrongHow = codes "WrongHow"
cause_name cause.InStall = codes "InStall"
cause_name cause.NotInStall = codes "NotInStall"
cause_name cause.TooManyTriggers = codes "TooManyTriggers"
cause_name cause.BadWindow = codes "BadWindow"
cause_name cause.AfterEnd = codes "AfterEnd"
cause_name cause.NoEnd = codes "NoEnd"
cause_name cause.IrqTooLong = codes "IrqTooLong"
cause_name cause.RootPressure = codes "RootPressure"
cause_name cause.TooManyPressures = codes "TooManyPressures"

-- `field_number cause`: the number (from 1) of the malformed, missing or superfluous field that a
-- cause reports, or `None` if the cause reports no field.
abbrev pub field_number : Cause → Option ℕ
field_number (cause.BadField field) = Some field
field_number _ = None

-- `field_text number`: a space and the number of the field, or no bytes for `None`.
abbrev pub field_text : Option ℕ → List ℕ
field_text None = []
field_text (Some field) = codes " " ++ decimal field

-- `cause_text why`: the printed text of the cause `why`. It is the cause's name, followed by the
-- number of the field (`field_number`), if the cause reports one.
abbrev pub cause_text : Cause → List ℕ
cause_text why = cause_name why ++ field_text (field_number why)

-- The printed name of a cause for which a line of an ftrace text is rejected.
abbrev pub import_cause_text : ImportCause → List ℕ
import_cause_text import_cause.LineTooLong = codes "LineTooLong"
import_cause_text import_cause.Cut = codes "Cut"
import_cause_text import_cause.BadLine = codes "BadLine"
import_cause_text import_cause.BadCpu = codes "BadCpu"
import_cause_text import_cause.TooLate = codes "TooLate"
import_cause_text import_cause.TooManyTasks = codes "TooManyTasks"
import_cause_text import_cause.TooManyEvents = codes "TooManyEvents"
import_cause_text import_cause.TooManyLines = codes "TooManyLines"
