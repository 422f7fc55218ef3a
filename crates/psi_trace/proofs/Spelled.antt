-- Proofs that the results of parsing, as the contracts give them, are events that the grammar
-- spells.
use Rattle.std.proofs.Common.{◌≡◌, ◌≢◌, ℕ, List}
use Rattle.std.specs.Prelude.{Result, Ok, Err, IfOk}
use Rattle.psi_base.specs.Path.{parts_at}
use Rattle.psi_base.specs.declared.event.Cause.{Cause}
use Rattle.psi_base.specs.declared.event.Event.{Event}
use Rattle.psi_base.specs.declared.event.Fault.{Fault}
use Rattle.psi_base.specs.declared.event.Fault.TheVariants.{Refused, NoMemory}
use Rattle.psi_spec.specs.Grammar.{Fits, IsKnown, Verb, event_of, spelling}
use Rattle.psi_spec.specs.LineLaws.{IsCause}
use Rattle.trace_laws.proofs.GrammarReads.{reads_spelled}
use Rattle.trace_laws.proofs.GrammarCauses.{finds_causes}
use Rattle.psi_base.specs.Gives.{Gives}

pub found_event : (verbs : List Verb) (line : List ℕ) (result : Result Event (Fault Cause)) → Gives result (event_of verbs line) → IfOk result (λ event. Fits event × IsKnown verbs event × (line ≡ spelling event))
found_event verbs line (Ok event) gives = (reads_spelled verbs line event).0 gives
found_event verbs line (Err why) gives = tt

gives_refused : (verbs : List Verb) (line : List ℕ) (result : Result Event (Fault Cause)) (why : Cause) → Gives result (event_of verbs line) → result ≡ Err (Refused why) → event_of verbs line ≡ Err why
gives_refused verbs line (Ok event) why gives is = absurd cc
gives_refused verbs line (Err (Refused other)) why gives is = let same : other ≡ why = cc in cc
gives_refused verbs line (Err (NoMemory _)) why gives is = absurd cc

pub no_event : (verbs : List Verb) (line : List ℕ) (result : Result Event (Fault Cause)) → Gives result (event_of verbs line) → (why : Cause) → result ≡ Err (Refused why) → (event : Event) → Fits event → IsKnown verbs event → line ≢ spelling event
no_event verbs line result gives why is event fits known spelled =
    let read = (reads_spelled verbs line event).1 (fits, known, spelled) in
    let refused = gives_refused verbs line result why gives is in cc

pub caused : (verbs : List Verb) (line : List ℕ) (result : Result Event (Fault Cause)) → Gives result (event_of verbs line) → (why : Cause) → result ≡ Err (Refused why) → IsCause verbs (parts_at 32 line) why
caused verbs line result gives why is = (finds_causes verbs line why).0 (gives_refused verbs line result why gives is)
