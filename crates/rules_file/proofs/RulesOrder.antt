-- Proves in which order the rules file and the drop-in file are read.
use Rattle.std.proofs.Common.{◌≡◌, ℕ, List, [], ◌++◌, refl, sym, ap, ◌∙◌, subst, Option, None, Some, Ok, Err}
use Rattle.std.specs.Prelude.{MatchResult, Result}
use Rattle.outside.specs.Outside.{Files, ShelfCounts}
use Rattle.outside.specs.Reads.{ReadCall, ReadsFile, ReadsEach}
use Rattle.outside.specs.declared.shelf.ShelfFault.TheVariants as shelf
use Rattle.outside.proofs.ReadOrder.{file_stops}
use Rattle.ruleset_json.specs.declared.types.Rules.{Rules}
use Rattle.run_spec.specs.declared.command.Command.{Command}
use Rattle.run_spec.specs.declared.status.Status.{Status}
use Rattle.run_spec.specs.declared.status.Status.TheVariants as status
use Rattle.run_spec.specs.declared.status.Which.{Which}
use Rattle.run_spec.specs.declared.status.Which.TheVariants.{DropInFile, RulesFile}
use Rattle.run_spec.specs.Outputs.{drop_in_name, file_of, rules_name, source_name}
use Rattle.run_spec.specs.ReadOrder.{FailsAt, ReadsInOrder, listed, names_before, names_in_order, names_of_rules}
use Rattle.rules_file.specs.Files.{BaseFails, BaseOption, OrdersRun, OverFails, OverOption, status_fault, status_fault_in}
use Rattle.rules_file.proofs.RulesRuns.{passed_base}

-- ---- names

-- If a command names the files `named` and `drop_in`, they are its rules file and its drop-in file,
-- in order.
rules_are : (command : Command) (named drop_in : Option (List ℕ)) → rules_name command ≡ named → drop_in_name command ≡ drop_in → names_of_rules named drop_in ≡ names_of_rules (rules_name command) (drop_in_name command)
rules_are command named drop_in is over = ap (λ n. names_of_rules n drop_in) (sym is) ∙ ap (λ d. names_of_rules (rules_name command) d) (sym over)

-- The files of a command that names `named` and `drop_in` are these two and its source file.
pub names_are : (command : Command) (named drop_in : Option (List ℕ)) → rules_name command ≡ named → drop_in_name command ≡ drop_in → names_of_rules named drop_in ++ listed (source_name command) ≡ names_in_order command
names_are command named drop_in is over = ap (λ names. names ++ listed (source_name command)) (rules_are command named drop_in is over)

-- ---- a file that wasn't read

-- If a file of the command doesn't exist, the run fails at that file, after reading the files
-- before it.
missing_order : (command : Command) (which kind : Which) (name : List ℕ) (before middle now : List ReadCall) → file_of command which ≡ Some name → kind ≡ which → ReadsEach (names_before command which) before middle → ReadsFile name 0 middle now (Some shelf.NoFile)
    → FailsAt command before now kind shelf.NoFile
missing_order command which kind name before middle now named is first reads = subst (λ w. FailsAt command before now w shelf.NoFile) (sym is) (name, middle, named, first, reads)

-- ---- the rules file alone

-- If the rules file is rejected, only the rules file has been read.
rejected_order : (command : Command) (name : List ℕ) (before now : List ReadCall) → rules_name command ≡ Some name → ReadsFile name 0 before now None → ReadsEach (listed (rules_name command)) before now
rejected_order command name before now named reads = subst (λ n. ReadsEach (listed n) before now) (sym named) (file_stops name [] before now reads)

-- The run ends in the specified order if the rules file gives no rules.
base_ends_order : (command : Command) (name : List ℕ) (drop_in : Option (List ℕ)) (files : Option Files) (counts counts_now : ShelfCounts) (before now : List ReadCall) (result : Status) → rules_name command ≡ Some name → drop_in_name command ≡ drop_in
    → BaseFails name files counts counts_now result → ReadsFile name 0 before now (status_fault result) → ReadsInOrder command files before now result
base_ends_order command name drop_in files counts counts_now before now (status.Rules fault) named over fails reads = rejected_order command name before now named reads
base_ends_order command name drop_in files counts counts_now before now (status.NoFile kind) named over fails reads = missing_order command RulesFile kind name before before now named fails.0 refl reads
base_ends_order command name drop_in files counts counts_now before now status.ReadFault named over fails reads = (RulesFile, (name, before, named, refl, reads), tt)
base_ends_order command name drop_in files counts counts_now before now (status.NoMemory none) named over fails reads =
    subst (λ names. ReadsEach names before now) (names_are command (Some name) drop_in named over) (file_stops name (listed drop_in ++ listed (source_name command)) before now reads)
base_ends_order command name drop_in files counts counts_now before now _ named over fails reads = absurd fails

pub base_order : (name : List ℕ) (drop_in : Option (List ℕ)) (files : Option Files) (counts counts_now : ShelfCounts) (before now : List ReadCall) (result : Status) → BaseFails name files counts counts_now result
    → ReadsFile name 0 before now (status_fault result) → OrdersRun (Some name) drop_in files before now result
base_order name drop_in files counts counts_now before now result fails reads = λ command named over. base_ends_order command name drop_in files counts counts_now before now result named over fails reads

-- If there is no drop-in file, only the rules file has been read.
pub base_alone_order : (name : List ℕ) (before now : List ReadCall) → ReadsFile name 0 before now None → ReadsEach (names_of_rules (Some name) None) before now
base_alone_order name before now reads = file_stops name [] before now reads

-- ---- both files

-- The run ends in the specified order if the drop-in file can't be applied.
over_ends_order : (command : Command) (base : Rules) (name other : List ℕ) (files : Option Files) (first counts counts_now : ShelfCounts) (before middle now : List ReadCall) (result : Status) → rules_name command ≡ Some name → drop_in_name command ≡ Some other
    → BaseOption name files first counts base → OverFails base other files counts counts_now result
    → ReadsFile name 0 before middle None → ReadsFile other 0 middle now (status_fault result) → ReadsInOrder command files before now result
over_ends_order command base name other files first counts counts_now before middle now (status.DropIn fault) named over bytes_read fails base_reads reads =
    subst (λ names. ReadsEach names before now) (rules_are command (Some name) (Some other) named over) (middle, base_reads, file_stops other [] middle now reads)
over_ends_order command base name other files first counts counts_now before middle now (status.NoFile kind) named over bytes_read fails base_reads reads =
    missing_order command DropInFile kind other before middle now over fails.0 (rejected_order command name before middle named base_reads) reads
over_ends_order command base name other files first counts counts_now before middle now status.ReadFault named over bytes_read fails base_reads reads =
    (DropInFile, (other, middle, over, rejected_order command name before middle named base_reads, reads), passed_base command name files first counts base named bytes_read)
over_ends_order command base name other files first counts counts_now before middle now (status.NoMemory none) named over bytes_read fails base_reads reads =
    subst (λ names. ReadsEach names before now) (names_are command (Some name) (Some other) named over) (middle, base_reads, file_stops other (listed (source_name command)) middle now reads)
over_ends_order command base name other files first counts counts_now before middle now _ named over bytes_read fails base_reads reads = absurd fails

-- The rules file and the drop-in file have been read in order.
pub over_order : (base : Rules) (name other : List ℕ) (files : Option Files) (first counts counts_now : ShelfCounts) (before middle now : List ReadCall) (result : Result Rules Status) → BaseOption name files first counts base
    → MatchResult result (λ rules. OverOption base other files counts counts_now rules) (λ found. OverFails base other files counts counts_now found)
    → ReadsFile name 0 before middle None → ReadsFile other 0 middle now (status_fault_in result)
    → MatchResult result (λ rules. ReadsEach (names_of_rules (Some name) (Some other)) before now) (λ found. OrdersRun (Some name) (Some other) files before now found)
over_order base name other files first counts counts_now before middle now (Ok rules) bytes_read put base_reads reads = (middle, base_reads, file_stops other [] middle now reads)
over_order base name other files first counts counts_now before middle now (Err found) bytes_read fails base_reads reads = λ command named over.
    over_ends_order command base name other files first counts counts_now before middle now found named over bytes_read fails base_reads reads
