-- Relates the requests that the program parses to the requests of the specification.
use Rattle.std.specs.Prelude.{◌≡◌, Option, None, Some, IsSome}
use Rattle.std.specs.Borrow.{Bor}
use Rattle.psi_base.specs.declared.event.Fault.{Fault}
use Rattle.psi_base.specs.declared.event.Fault.TheVariants.{Refused, NoMemory}
use Rattle.observe_spec.specs.Words as spec
use Rattle.observe_core.specs.declared.words.Request.{Request}
use Rattle.observe_core.specs.declared.words.BadWords.{BadWords}

-- Converts a request that the program parsed to a request of the specification.
abbrev pub request_in : Request → spec.Request
request_in request = record { trace = request.trace.now; observers = request.observers; path = request.path }

-- `RefusesWords fault requested`: what the parse error `fault` implies for `requested`, the request
-- that the command line forms. If the words are rejected, `requested` is `None`. If memory runs
-- out, `requested` is a request.
abbrev pub RefusesWords : Fault BadWords → Option spec.Request → Type 0
RefusesWords (Refused why) requested = requested ≡ None
RefusesWords (NoMemory _) requested = IsSome requested

-- Converts an optional request of the program to an optional request of the specification.
abbrev pub requested_in : Option (Bor Request) → Option spec.Request
requested_in None = None
requested_in (Some request) = Some (request_in request.now)
