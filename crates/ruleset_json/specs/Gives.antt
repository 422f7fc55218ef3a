-- Relates the result of a parsing function to the result that its specification defines. The
-- function may represent the specified value in another way: `seen` maps the representation to the
-- specified value.
use Rattle.std.specs.Prelude.{◌≡◌, Result, Ok, Err}
use Rattle.psi_base.specs.Gives.{FaultOf}
use Rattle.psi_base.specs.declared.event.Fault.{Fault}

-- `GivesBy seen result read`: the result of a call represents the specified value, or is the
-- specified fault. `read` is the specified result. If memory ran out, nothing is required.
abbrev pub GivesBy : {A B E : Type 0} → (A → B) → Result A (Fault E) → Result B E → Type 0
GivesBy seen (Ok x) read = read ≡ Ok (seen x)
GivesBy seen (Err fault) read = FaultOf fault read

-- `ReadsBy seen result read`: the result of a call that doesn't allocate represents the specified
-- value, or is the specified fault. `read` is the specified result.
abbrev pub ReadsBy : {A B E : Type 0} → (A → B) → Result A E → Result B E → Type 0
ReadsBy seen (Ok x) read = read ≡ Ok (seen x)
ReadsBy seen (Err fault) read = read ≡ Err fault
