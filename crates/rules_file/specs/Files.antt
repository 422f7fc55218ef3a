-- Relates the results of reading a rules file and a drop-in file to the bytes of the files. The
-- files come from a shelf, the trait for access to files. The statements about bytes apply only if
-- the contents of the shelf are known.
use Rattle.std.specs.Prelude.{◌≡◌, ℕ, List, Option, Result, Ok, Err, None, Some, take}
use Rattle.outside.specs.Outside.{Files, IsAbsent, Increased, ShelfCounts, content_of}
use Rattle.outside.specs.Reads.{ReadCall}
use Rattle.outside.specs.declared.shelf.ShelfFault.{ShelfFault}
use Rattle.outside.specs.declared.shelf.ShelfFault.TheVariants as shelf
use Rattle.ruleset_json.specs.declared.types.Rules.{Rules}
use Rattle.ruleset_json.specs.RuleRanges.{FitsRules}
use Rattle.ruleset_json.specs.Rules.{rules_of}
use Rattle.dropin_rules.specs.Joined.{dropped_in}
use Rattle.run_spec.specs.declared.command.Command.{Command}
use Rattle.run_spec.specs.declared.status.Status.{Status}
use Rattle.run_spec.specs.declared.status.Status.TheVariants as status
use Rattle.run_spec.specs.declared.status.Which.{Which}
use Rattle.run_spec.specs.declared.status.Which.TheVariants.{DropInFile, RulesFile}
use Rattle.run_spec.specs.Outputs.{drop_in_name, rules_name}
use Rattle.run_spec.specs.Run.{RunCounts, Runs}
use Rattle.run_spec.specs.MostRead.{most_of_rules}
use Rattle.run_spec.specs.ReadOrder.{ReadsInOrder}
use Rattle.run_spec.specs.Stops.{StopsAtRefusal}

-- ---- one file

-- The counts of failed reads and of missing files didn't change.
pub record Stays (before now : ShelfCounts) : Type 0 where
  pub faults : now.faults ≡ before.faults
  pub absent : now.absent ≡ before.absent

-- `bytes` was read from the file `name` without a failure. If the content of the file is known,
-- `bytes` are its first `most_of_rules` bytes, or all bytes of a shorter file. The file isn't known
-- to be missing.
pub record IsPrefixOf (bytes name : List ℕ) (files : Option Files) (before now : ShelfCounts) : Type 0 where
  pub prefix : (whole : List ℕ) → content_of files name ≡ Some whole → bytes ≡ take most_of_rules whole
  pub held : IsAbsent files name → ⊥
  pub stays : Stays before now

-- The status reports why the file `name` couldn't be read. `which` is the kind of the file.
abbrev pub Unread : Which → List ℕ → Option Files → ShelfCounts → ShelfCounts → Status → Type 0
Unread which name files before now (status.NoFile kind) =
    (kind ≡ which) × (content_of files name ≡ None) × (now.faults ≡ before.faults) × Increased before.absent now.absent
Unread which name files before now status.ReadFault = Increased before.faults now.faults × (now.absent ≡ before.absent)
Unread which name files before now (status.NoMemory _) = Stays before now
Unread which name files before now _ = ⊥

-- `base` has the rules of the rules file `name`, and each ruleset is in range.
pub record BaseOption (name : List ℕ) (files : Option Files) (before now : ShelfCounts) (base : Rules) : Type 0 where
  pub fit : FitsRules base.rules
  pub read : (bytes : List ℕ) → content_of files name ≡ Some bytes → rules_of bytes ≡ Ok base
  pub held : IsAbsent files name → ⊥
  pub stays : Stays before now

-- The status reports why the rules file `name` couldn't be read or was rejected.
abbrev pub BaseFails : List ℕ → Option Files → ShelfCounts → ShelfCounts → Status → Type 0
BaseFails name files before now (status.Rules fault) =
    ((bytes : List ℕ) → content_of files name ≡ Some bytes → rules_of bytes ≡ Err fault) × (IsAbsent files name → ⊥) × Stays before now
BaseFails name files before now result = Unread RulesFile name files before now result

-- `rules` is the result of applying the drop-in file `name` to the rules `base`, and each ruleset
-- is in range.
pub record OverOption (base : Rules) (name : List ℕ) (files : Option Files) (before now : ShelfCounts) (rules : Rules) : Type 0 where
  pub fit : FitsRules rules.rules
  pub read : (bytes : List ℕ) → content_of files name ≡ Some bytes → dropped_in base bytes ≡ Ok rules
  pub held : IsAbsent files name → ⊥
  pub stays : Stays before now

-- The status reports why the drop-in file `name` couldn't be read or applied to the rules `base`.
abbrev pub OverFails : Rules → List ℕ → Option Files → ShelfCounts → ShelfCounts → Status → Type 0
OverFails base name files before now (status.DropIn fault) =
    ((bytes : List ℕ) → content_of files name ≡ Some bytes → dropped_in base bytes ≡ Err fault)
    × (IsAbsent files name → ⊥) × Stays before now
OverFails base name files before now result = Unread DropInFile name files before now result

-- ---- reading both files at the start of a run

-- The failure counts of a run: the numbers of failed reads, missing files and failed writes.
abbrev pub counts_with : ShelfCounts → ℕ → RunCounts
counts_with shelf writes = record { shelf = shelf; writes = writes }

-- `EndsRun named drop_in files before now result`: a run that ends now with the status `result` and
-- without output satisfies the specification `Runs`. This holds for each command with the rules
-- file `named` and the drop-in file `drop_in`.
abbrev pub EndsRun : Option (List ℕ) → Option (List ℕ) → Option Files → ShelfCounts → ShelfCounts → Status → Type 0
EndsRun named drop_in files before now result =
    (command : Command) (writes : ℕ) (had : Option (List ℕ)) → rules_name command ≡ named → drop_in_name command ≡ drop_in
    → Runs command files (counts_with before writes) (counts_with now writes) had had result

-- `StopsRun named drop_in files bytes_read read_now result`: a run that ends now with the status
-- `result` has read at most as many bytes as the specification allows. This holds for each command
-- with the rules file `named` and the drop-in file `drop_in`. `bytes_read` and `read_now` are the
-- numbers of bytes read before the run and until now.
abbrev pub StopsRun : Option (List ℕ) → Option (List ℕ) → Option Files → ℕ → ℕ → Status → Type 0
StopsRun named drop_in files bytes_read read_now result =
    (command : Command) → rules_name command ≡ named → drop_in_name command ≡ drop_in
    → StopsAtRefusal command files bytes_read read_now result

-- The failure of file access that the status reports: a missing file or a failed read. `None` for
-- any other status.
abbrev pub status_fault : Status → Option ShelfFault
status_fault (status.NoFile which) = Some shelf.NoFile
status_fault status.ReadFault = Some shelf.Failed
status_fault _ = None

-- The failure of file access that a result reports: a missing file or a failed read. `None` for any
-- other result.
abbrev pub status_fault_in : {A : Type 0} → Result A Status → Option ShelfFault
status_fault_in (Ok x) = None
status_fault_in (Err found) = status_fault found

-- `OrdersRun named drop_in files before now result`: a run that ends now with the status `result`
-- has read the files in the specified order. This holds for each command with the rules file
-- `named` and the drop-in file `drop_in`. `before` and `now` are the logs of read calls before the
-- run and until now.
abbrev pub OrdersRun : Option (List ℕ) → Option (List ℕ) → Option Files → List ReadCall → List ReadCall → Status → Type 0
OrdersRun named drop_in files before now result =
    (command : Command) → rules_name command ≡ named → drop_in_name command ≡ drop_in → ReadsInOrder command files before now result
