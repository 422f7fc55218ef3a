-- Words that aren't a request.
use Rattle.std.proofs.Common.{◌≡◌, ◌≢◌, ℕ, List, Option}
use Rattle.std.specs.Io.KnownBytes.{Keeps}
use Rattle.observe_spec.specs.declared.status.ObserveStatus.{ObserveStatus}
use Rattle.observe_spec.specs.declared.status.ObserveStatus.TheVariants as status

-- nothing is written for them
pub idle_keeps : (had has : Option (List ℕ)) (ended : ObserveStatus) → (ended ≢ status.Done → ended ≢ status.WriteFault → Keeps had has) → ended ≡ status.Usage → Keeps had has
idle_keeps had has ended quiet is = quiet (λ no. cc (is, no)) (λ no. cc (is, no))
