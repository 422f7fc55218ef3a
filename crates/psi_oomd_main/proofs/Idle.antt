-- Words that aren't a command.
use Rattle.std.proofs.Common.{◌≡◌, ◌≢◌, ◌⊎◌, inl, inr, ℕ, List, Option}
use Rattle.std.specs.Io.KnownBytes.{Keeps}
use Rattle.psi_base.specs.Memory.{no_memory}
use Rattle.run_spec.specs.declared.status.Status.{Status}
use Rattle.run_spec.specs.declared.status.Status.TheVariants as status

-- nothing is written for them
pub idle_keeps : (had has : Option (List ℕ)) (ended : Status) → (ended ≢ status.Done → ended ≢ status.WriteFault → Keeps had has) → (ended ≡ status.Usage) ⊎ (ended ≡ status.NoMemory no_memory) → Keeps had has
idle_keeps had has ended quiet (inl is) = quiet (λ no. cc (is, no)) (λ no. cc (is, no))
idle_keeps had has ended quiet (inr is) = quiet (λ no. cc (is, no)) (λ no. cc (is, no))
