-- Relates the result of a call that parses words to its specification. The specification is an
-- optional value: `None` means that the words must be rejected.
use Rattle.std.specs.Prelude.{◌≡◌, ℕ, List, map, Result, Ok, Err, Option, Some, None}
use Rattle.std.specs.Prelude.{IfSome, IsUtf8, ⊤}
use Rattle.std.specs.Borrow.{Bor}
use Rattle.psi_base.specs.declared.event.Fault.{Fault}
use Rattle.psi_base.specs.declared.event.Fault.TheVariants.{Refused, NoMemory}
use Rattle.run_spec.specs.declared.command.Command.{Command}
use Rattle.run_spec.specs.declared.command.Command.TheVariants.{Stall, Check, Replay, Gen, Stress, Import, Rules, Whatif}

-- The call returned the specified value `read`, or failed if `read` is `None`.
abbrev pub Finds : {A E : Type 0} → Result A E → Option A → Type 0
Finds (Ok x) read = read ≡ Some x
Finds (Err why) read = read ≡ None

-- The call returned the specified value `read`, or rejected the words if `read` is `None`. If
-- memory ran out, nothing is known.
abbrev pub ReadsWord : {A E : Type 0} → Result A (Fault E) → Option A → Type 0
ReadsWord (Ok x) read = read ≡ Some x
ReadsWord (Err (Refused why)) read = read ≡ None
ReadsWord (Err (NoMemory _)) read = ⊤

-- Converts a list of borrowed names to a list of names.
abbrev pub names_in : List (Bor (List ℕ)) → List (List ℕ)
names_in names = map (λ name. name.now) names

-- All file names in the command are valid UTF-8.
abbrev pub HasTextNames : Command → Type 0
HasTextNames (Stall trace) = IsUtf8 trace
HasTextNames (Check trace tick_ms) = IsUtf8 trace
HasTextNames (Replay trace options) = IsUtf8 trace × IfSome options.rules IsUtf8 × IfSome options.drop_in IsUtf8
HasTextNames (Gen shape) = ⊤
HasTextNames (Stress shape workers) = ⊤
HasTextNames (Import file cpus) = IsUtf8 file
HasTextNames (Rules file drop_in) = IsUtf8 file × IfSome drop_in IsUtf8
HasTextNames (Whatif trace options) = IsUtf8 trace × IfSome options.rules IsUtf8 × IfSome options.drop_in IsUtf8
