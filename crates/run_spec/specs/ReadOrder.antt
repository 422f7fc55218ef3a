-- Defines the order in which a command reads its files. The definitions compare the logs of read
-- calls before the run (`before`) and after it (`now`).
use Rattle.std.specs.Prelude.{◌≡◌, ℕ, List, [], ◌∷◌, ◌++◌, Option, None, Some}
use Rattle.outside.specs.Outside.{Files}
use Rattle.outside.specs.Reads.{ReadCall, ReadsEach, ReadsFile}
use Rattle.outside.specs.declared.shelf.ShelfFault.{ShelfFault}
use Rattle.outside.specs.declared.shelf.ShelfFault.TheVariants as shelf
use Rattle.run_spec.specs.declared.command.Command.{Command}
use Rattle.run_spec.specs.declared.status.Status.{Status}
use Rattle.run_spec.specs.declared.status.Status.TheVariants as status
use Rattle.run_spec.specs.declared.status.Which.{Which}
use Rattle.run_spec.specs.declared.status.Which.TheVariants.{DropInFile, RulesFile, TraceFile}
use Rattle.run_spec.specs.Outputs.{drop_in_name, file_of, rules_name, source_name}
use Rattle.run_spec.specs.Run.{IsPassed}

-- `listed name`: an optional name as a list with at most one name.
abbrev pub listed : Option (List ℕ) → List (List ℕ)
listed None = []
listed (Some name) = name ∷ []

-- `names_of_rules named drop_in`: the names of the rules file `named` and of the drop-in file
-- `drop_in`, in this order, without those that are `None`.
abbrev pub names_of_rules : Option (List ℕ) → Option (List ℕ) → List (List ℕ)
names_of_rules named drop_in = listed named ++ listed drop_in

-- `names_before command which`: the names of the files that a command reads before its file of the
-- kind `which`, in the order of reading.
abbrev pub names_before : Command → Which → List (List ℕ)
names_before command RulesFile = []
names_before command DropInFile = listed (rules_name command)
names_before command _ = names_of_rules (rules_name command) (drop_in_name command)

-- `names_in_order command`: the names of all files that a command reads, in the order of reading.
-- They are the rules file, the drop-in file, and the trace or ftrace text.
abbrev pub names_in_order : Command → List (List ℕ)
names_in_order command = names_of_rules (rules_name command) (drop_in_name command) ++ listed (source_name command)

-- `FailsAt command before now which fault`: a run read the files of a command in order, up to its
-- file of the kind `which`. The last read of this file failed with `fault`, and no read of an
-- earlier file failed. These reads were appended to the log.
abbrev pub FailsAt : Command → List ReadCall → List ReadCall → Which → ShelfFault → Type 0
FailsAt command before now which fault =
    (name : List ℕ) × (middle : List ReadCall) × (file_of command which ≡ Some name)
    × ReadsEach (names_before command which) before middle × ReadsFile name 0 middle now (Some fault)

-- `ReadsInOrder command files before now result`: a run that ended with the status `result` read
-- the files of its command in order, each from its first byte. These reads were appended to the
-- log. Nothing is read after a failed read, or after a rejected rules file or drop-in file. If the
-- status is ReadFault, the files before the failed file were accepted, and none of them is known to
-- be missing. `files` are the known contents of files.
abbrev pub ReadsInOrder : Command → Option Files → List ReadCall → List ReadCall → Status → Type 0
ReadsInOrder command files before now status.ReadFault =
    (which : Which) × FailsAt command before now which shelf.Failed × IsPassed command files which
ReadsInOrder command files before now (status.NoFile which) = FailsAt command before now which shelf.NoFile
ReadsInOrder command files before now (status.Rules fault) = ReadsEach (names_before command DropInFile) before now
ReadsInOrder command files before now (status.DropIn fault) = ReadsEach (names_before command TraceFile) before now
ReadsInOrder command files before now _ = ReadsEach (names_in_order command) before now

-- `FailedAt command before now which result`: the run ended with the status ReadFault because a
-- read of the command's file of the kind `which` failed.
abbrev pub FailedAt : Command → List ReadCall → List ReadCall → Which → Status → Type 0
FailedAt command before now which result = (result ≡ status.ReadFault) × FailsAt command before now which shelf.Failed
