-- Relates the result of a call, which may fail because memory runs out, to the result that the
-- call's definition specifies.
use Rattle.std.specs.Prelude.{◌≡◌, Result, Ok, Err, ⊤}
use Rattle.psi_base.specs.declared.event.Fault.{Fault}
use Rattle.psi_base.specs.declared.event.Fault.TheVariants.{Refused, NoMemory}
use Rattle.psi_base.specs.Memory.{no_memory}

-- The fault that reports out of memory.
abbrev pub out_of_memory : {E : Type 0} → Fault E
out_of_memory = NoMemory no_memory

-- `FaultOf fault read`: a call may fail with `fault` if `read` is the result that its definition
-- specifies. If `fault` is `Refused`, `read` must be the same error. If `fault` is `NoMemory`,
-- `read` may be any result.
abbrev pub FaultOf : {A E : Type 0} → Fault E → Result A E → Type 0
FaultOf (Refused fault) read = read ≡ Err fault
FaultOf (NoMemory _) read = ⊤

-- `Gives result read`: a call may return `result` if `read` is the result that its definition
-- specifies. The call returns the specified value or error, or fails because memory ran out.
abbrev pub Gives : {A E : Type 0} → Result A (Fault E) → Result A E → Type 0
Gives (Ok x) read = read ≡ Ok x
Gives (Err fault) read = FaultOf fault read
