-- The exit status for each status of a run of psi_observe, and the message that reports it.
use Rattle.std.specs.Prelude.{ℕ, List, [], ◌++◌, codes, Option, None, Some}
use Rattle.run_spec.specs.Status.{refusal_text}
use Rattle.observe_spec.specs.declared.status.ObserveStatus.{ObserveStatus}
use Rattle.observe_spec.specs.declared.status.ObserveStatus.TheVariants as status
use Rattle.observe_spec.specs.Words.{Request}

-- The exit status of psi_observe for a status of a run.
abbrev pub code_of : ObserveStatus → ℕ
code_of status.Done = 0
code_of status.Usage = 1
code_of (status.Trace line why) = 2
code_of status.NoFile = 4
code_of status.ReadFault = 5
code_of status.WriteFault = 6
code_of (status.NoMemory _) = 7
code_of (status.TooManySamples samples) = 8

-- The name of the trace's file in a request, or no bytes if there is no request (`None`).
abbrev pub trace_text : Option Request → List ℕ
trace_text None = []
trace_text (Some request) = request.trace

-- The message for a status: one line with its newline, or no bytes for Done.
abbrev pub observe_status_text : Option Request → ObserveStatus → List ℕ
observe_status_text request status.Done = []
observe_status_text request status.Usage = codes "usage: psi_observe TRACE OBSERVERS PATH\n"
observe_status_text request (status.Trace line why) = refusal_text line why
observe_status_text request status.NoFile = codes "no file: " ++ (trace_text request ++ codes "\n")
observe_status_text request status.ReadFault = codes "read fault\n"
observe_status_text request status.WriteFault = codes "write fault\n"
observe_status_text request (status.NoMemory _) = codes "out of memory\n"
observe_status_text request (status.TooManySamples samples) = codes "too many samples\n"
