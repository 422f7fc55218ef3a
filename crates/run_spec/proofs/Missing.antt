-- Proofs about the statuses of a run if one of its files is known to be missing.
use Rattle.std.proofs.Common.{◌≡◌, ◌⊎◌, inl, inr, ℕ, List, refl, sym, ap, ◌∙◌, Option, true≢false, Some}
use Rattle.std.specs.Prelude.{IsSome, is_some}
use Rattle.psi_base.specs.Memory.{no_memory}
use Rattle.outside.specs.Outside.{Files, IsAbsent}
use Rattle.outside.specs.Reads.{ReadCall}
use Rattle.outside.specs.declared.shelf.ShelfFault.TheVariants as shelf
use Rattle.ruleset_json.specs.declared.fault.RulesFault.{RulesFault}
use Rattle.dropin_rules.specs.declared.fault.DropFault.{DropFault}
use Rattle.run_spec.specs.declared.command.Command.{Command}
use Rattle.run_spec.specs.declared.command.Command.TheVariants as words
use Rattle.run_spec.specs.declared.status.Status.{Status}
use Rattle.run_spec.specs.declared.status.Status.TheVariants as status
use Rattle.run_spec.specs.declared.status.Which.{Which}
use Rattle.run_spec.specs.declared.status.Which.TheVariants.{DropInFile, ImportFile, RulesFile, TraceFile}
use Rattle.run_spec.specs.Outputs.{drop_in_name, file_of, rules_name, source_name, source_of}
use Rattle.run_spec.specs.ReadOrder.{FailsAt, ReadsInOrder}
use Rattle.run_spec.specs.Run.{Ends, HasTrace, IsNoFile, IsPassed}

pub missing_rules : (command : Command) (files : Option Files) (old new : Option (List ℕ)) (result : Status) (name : List ℕ)
    → Ends command files old new result → rules_name command ≡ Some name → IsAbsent files name
    → (result ≡ status.NoFile RulesFile) ⊎ (result ≡ status.ReadFault) ⊎ (result ≡ status.NoMemory no_memory)
missing_rules command files old new status.Done name ends named lacks = absurd (ends.4.0 name named lacks)
missing_rules command files old new status.WriteFault name ends named lacks = absurd (ends.4.0 name named lacks)
missing_rules command files old new (status.Rules fault) name ends named lacks = absurd (ends.1 name named lacks)
missing_rules command files old new (status.Trace line why) name ends named lacks = absurd (ends.2.2.0 name named lacks)
missing_rules command files old new (status.DropIn fault) name ends named lacks = absurd (ends.2.3 name named lacks)
missing_rules command files old new (status.TooLarge events) name ends named lacks = absurd (ends.1.rules_there.0 name named lacks)
missing_rules command files old new (status.NoFile RulesFile) name ends named lacks = inl refl
missing_rules command files old new (status.Import line why) name ends named lacks = absurd (ends.2.2.0 name named lacks)
missing_rules command files old new (status.NoFile DropInFile) name ends named lacks = absurd (ends.1.3 name named lacks)
missing_rules command files old new (status.NoFile TraceFile) name ends named lacks = absurd (ends.1.2.0 name named lacks)
missing_rules command files old new (status.NoFile ImportFile) name ends named lacks = absurd (ends.1.2.0 name named lacks)
missing_rules command files old new status.ReadFault name ends named lacks = inr (inl refl)
missing_rules command files old new (status.NoMemory _) name ends named lacks = inr (inr refl)
missing_rules command files old new status.Usage name ends named lacks = absurd ends

-- if the rules file is missing, a reported read failure is one of the rules file, because no later
-- file is read
pub rules_first : (command : Command) (files : Option Files) (before now : List ReadCall) (name : List ℕ) → ReadsInOrder command files before now status.ReadFault → rules_name command ≡ Some name → IsAbsent files name
    → FailsAt command before now RulesFile shelf.Failed
rules_first command files before now name order named lacks = go order.0 order.1 order.2
  where
    go : (which : Which) → FailsAt command before now which shelf.Failed → IsPassed command files which → FailsAt command before now RulesFile shelf.Failed
    go RulesFile fails passed = fails
    go DropInFile fails passed = absurd (passed.3 name named lacks)
    go TraceFile fails passed = absurd (passed.2.0 name named lacks)
    go ImportFile fails passed = absurd (passed.2.0 name named lacks)

-- if the drop-in file is missing, a reported read failure is one of the drop-in file or of the
-- rules file
pub drop_in_first : (command : Command) (files : Option Files) (before now : List ReadCall) (name : List ℕ) → ReadsInOrder command files before now status.ReadFault → drop_in_name command ≡ Some name → IsAbsent files name
    → FailsAt command before now RulesFile shelf.Failed ⊎ FailsAt command before now DropInFile shelf.Failed
drop_in_first command files before now name order named lacks = go order.0 order.1 order.2
  where
    go : (which : Which) → FailsAt command before now which shelf.Failed → IsPassed command files which → FailsAt command before now RulesFile shelf.Failed ⊎ FailsAt command before now DropInFile shelf.Failed
    go RulesFile fails passed = inl fails
    go DropInFile fails passed = inr fails
    go TraceFile fails passed = absurd (passed.2.1 name named lacks)
    go ImportFile fails passed = absurd (passed.2.1 name named lacks)

pub missing_drop_in : (command : Command) (files : Option Files) (old new : Option (List ℕ)) (result : Status) (name : List ℕ)
    → Ends command files old new result → drop_in_name command ≡ Some name → IsAbsent files name
    → (result ≡ status.NoFile RulesFile) ⊎ (result ≡ status.NoFile DropInFile) ⊎ (result ≡ status.ReadFault)
    ⊎ (result ≡ status.NoMemory no_memory) ⊎ ((fault : RulesFault) × (result ≡ status.Rules fault))
missing_drop_in command files old new status.Done name ends named lacks = absurd (ends.4.1 name named lacks)
missing_drop_in command files old new status.WriteFault name ends named lacks = absurd (ends.4.1 name named lacks)
missing_drop_in command files old new (status.Rules fault) name ends named lacks = inr (inr (inr (inr (fault, refl))))
missing_drop_in command files old new (status.DropIn fault) name ends named lacks = absurd (ends.3 name named lacks)
missing_drop_in command files old new (status.TooLarge events) name ends named lacks = absurd (ends.1.rules_there.1 name named lacks)
missing_drop_in command files old new (status.Trace line why) name ends named lacks = absurd (ends.2.2.1 name named lacks)
missing_drop_in command files old new (status.Import line why) name ends named lacks = absurd (ends.2.2.1 name named lacks)
missing_drop_in command files old new (status.NoFile RulesFile) name ends named lacks = inl refl
missing_drop_in command files old new (status.NoFile DropInFile) name ends named lacks = inr (inl refl)
missing_drop_in command files old new (status.NoFile TraceFile) name ends named lacks = absurd (ends.1.2.1 name named lacks)
missing_drop_in command files old new (status.NoFile ImportFile) name ends named lacks = absurd (ends.1.2.1 name named lacks)
missing_drop_in command files old new status.ReadFault name ends named lacks = inr (inr (inl refl))
missing_drop_in command files old new (status.NoMemory _) name ends named lacks = inr (inr (inr (inl refl)))
missing_drop_in command files old new status.Usage name ends named lacks = absurd ends

-- a command that reads a trace file gets its trace from that file
pub from_trace : (command : Command) → IsSome (file_of command TraceFile) → source_of command ≡ TraceFile
from_trace (words.Stall trace) reads = refl
from_trace (words.Check trace tick_ms) reads = refl
from_trace (words.Replay trace options) reads = refl
from_trace (words.Gen shape) reads = refl
from_trace (words.Stress shape workers) reads = refl
from_trace (words.Import file cpus) reads = absurd (true≢false (sym reads))
from_trace (words.Rules file drop_in) reads = absurd (true≢false (sym reads))
from_trace (words.Whatif trace options) reads = refl

-- a command that imports an ftrace text gets its trace from that text
pub from_import : (command : Command) → IsSome (file_of command ImportFile) → source_of command ≡ ImportFile
from_import (words.Stall trace) reads = absurd (true≢false (sym reads))
from_import (words.Check trace tick_ms) reads = absurd (true≢false (sym reads))
from_import (words.Replay trace options) reads = absurd (true≢false (sym reads))
from_import (words.Gen shape) reads = absurd (true≢false (sym reads))
from_import (words.Stress shape workers) reads = absurd (true≢false (sym reads))
from_import (words.Import file cpus) reads = refl
from_import (words.Rules file drop_in) reads = absurd (true≢false (sym reads))
from_import (words.Whatif trace options) reads = absurd (true≢false (sym reads))

-- a command that gets its trace from a file has a trace
pub has_trace : (command : Command) (name : List ℕ) → source_name command ≡ Some name → HasTrace command
has_trace (words.Stall trace) name named = tt
has_trace (words.Check trace tick_ms) name named = tt
has_trace (words.Replay trace options) name named = tt
has_trace (words.Gen shape) name named = tt
has_trace (words.Stress shape workers) name named = tt
has_trace (words.Import file cpus) name named = tt
has_trace (words.Rules file drop_in) name named = true≢false (sym (ap is_some named))
has_trace (words.Whatif trace options) name named = tt

pub missing_source : (command : Command) (files : Option Files) (old new : Option (List ℕ)) (result : Status) (name : List ℕ)
    → Ends command files old new result → source_name command ≡ Some name → IsAbsent files name
    → IsNoFile result ⊎ (result ≡ status.ReadFault) ⊎ (result ≡ status.NoMemory no_memory)
    ⊎ ((fault : RulesFault) × (result ≡ status.Rules fault)) ⊎ ((fault : DropFault) × (result ≡ status.DropIn fault))
missing_source command files old new status.Done name ends named lacks = absurd (ends.5 name named lacks)
missing_source command files old new status.WriteFault name ends named lacks = absurd (ends.5 name named lacks)
missing_source command files old new (status.TooLarge events) name ends named lacks = absurd (ends.1.there name named lacks)
missing_source command files old new (status.Rules fault) name ends named lacks = inr (inr (inr (inl (fault, refl))))
missing_source command files old new (status.DropIn fault) name ends named lacks = inr (inr (inr (inr (fault, refl))))
missing_source command files old new (status.Trace line why) name ends named lacks =
    absurd (ends.3 name (sym (ap (file_of command) (from_trace command ends.1)) ∙ named) lacks)
missing_source command files old new (status.Import line why) name ends named lacks =
    absurd (ends.3 name (sym (ap (file_of command) (from_import command ends.1)) ∙ named) lacks)
missing_source command files old new (status.NoFile which) name ends named lacks = inl (which, refl)
missing_source command files old new status.ReadFault name ends named lacks = inr (inl refl)
missing_source command files old new (status.NoMemory _) name ends named lacks = inr (inr (inl refl))
missing_source command files old new status.Usage name ends named lacks = absurd ends
