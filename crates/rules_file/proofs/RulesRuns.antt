-- Proves that reading the rules and writing them satisfies the specification of a run.
use Rattle.std.proofs.Common.{◌≡◌, ℕ, List, [], ◌++◌, refl, sym, ap, ◌∙◌, subst, Option, None, Some, Ok, Err, true≢false}
use Rattle.std.specs.Prelude.{MatchResult, Result, codes, is_some, option_map}
use Rattle.psi_base.specs.Memory.{no_memory}
use Rattle.outside.specs.Outside.{Files, IsAbsent, ShelfCounts, counts_of, content_of}
use Rattle.ruleset_json.specs.declared.fault.RulesFault.{RulesFault}
use Rattle.ruleset_json.specs.declared.types.Rule.{Rule}
use Rattle.ruleset_json.specs.declared.types.Rules.{Rules}
use Rattle.ruleset_json.specs.RuleRanges.{FitsRules}
use Rattle.ruleset_json.specs.Rules.{rules_of}
use Rattle.dropin_rules.specs.declared.fault.DropFault.{DropFault}
use Rattle.dropin_rules.specs.Joined.{dropped_in}
use Rattle.dropin_rules.specs.RulesText.{rules_text}
use Rattle.run_spec.specs.declared.command.Command.{Command}
use Rattle.run_spec.specs.declared.command.Command.TheVariants as words
use Rattle.run_spec.specs.declared.status.Status.{Status}
use Rattle.run_spec.specs.declared.status.Status.TheVariants as status
use Rattle.run_spec.specs.declared.status.Which.{Which}
use Rattle.run_spec.specs.declared.status.Which.TheVariants.{DropInFile, RulesFile, TraceFile}
use Rattle.run_spec.specs.Outputs.{file_of, or_drop_fault, or_rules_fault, rules_from, rules_name, with_drop_in}
use Rattle.run_spec.specs.Run.{FailuresAreCounted, IsPassed, IsThere, RunCounts, Runs, content_if_named}
use Rattle.trace_file.specs.Reads.{plain_trace}
use Rattle.rules_file.specs.Files.{BaseFails, BaseOption, EndsRun, IsPrefixOf, OverFails, OverOption, Stays, Unread, counts_with}
use Rattle.run_outcomes.specs.Rules.{RulesOption}
use Rattle.run_outcomes.specs.Writes.{WritesText}
use Rattle.rules_file.proofs.RulesLaws.{of_prefix, over_of_prefix}
use Rattle.run_outcomes.proofs.RunLaws.{counts_written, file_there, is_named, keeps_same, out_of_memory_at, missed_counts, read_failed, rules_there, same_name, stays, takes_events}

-- ---- one file

-- If the prefix of a rules file is accepted, its rules are the rules of the file.
pub base_read : (bytes name : List ℕ) (files : Option Files) (before now : ShelfCounts) (rules : Rules) → IsPrefixOf bytes name files before now → FitsRules rules.rules → rules_of bytes ≡ Ok rules → BaseOption name files before now rules
base_read bytes name files before now rules prefix fit is = record {
  fit = fit;
  read = λ whole shows. sym (of_prefix whole) ∙ ap rules_of (sym (prefix.prefix whole shows)) ∙ is;
  held = prefix.held;
  stays = prefix.stays;
}

-- If the prefix of a rules file is rejected, its fault is the fault of the file.
pub base_refused : (bytes name : List ℕ) (files : Option Files) (before now : ShelfCounts) (fault : RulesFault) → IsPrefixOf bytes name files before now → rules_of bytes ≡ Err fault → BaseFails name files before now (status.Rules fault)
base_refused bytes name files before now fault prefix is =
    (λ whole shows. sym (of_prefix whole) ∙ ap rules_of (sym (prefix.prefix whole shows)) ∙ is, prefix.held, prefix.stays)

-- If the prefix of a drop-in file can be applied, the result is the result of applying the file.
pub over_read : (base : Rules) (bytes name : List ℕ) (files : Option Files) (before now : ShelfCounts) (rules : Rules) → IsPrefixOf bytes name files before now → FitsRules rules.rules → dropped_in base bytes ≡ Ok rules
    → OverOption base name files before now rules
over_read base bytes name files before now rules prefix fit is = record {
  fit = fit;
  read = λ whole shows. sym (over_of_prefix base whole) ∙ ap (dropped_in base) (sym (prefix.prefix whole shows)) ∙ is;
  held = prefix.held;
  stays = prefix.stays;
}

-- If the prefix of a drop-in file is rejected, its fault is the fault of the file.
pub over_refused : (base : Rules) (bytes name : List ℕ) (files : Option Files) (before now : ShelfCounts) (fault : DropFault) → IsPrefixOf bytes name files before now → dropped_in base bytes ≡ Err fault
    → OverFails base name files before now (status.DropIn fault)
over_refused base bytes name files before now fault prefix is =
    (λ whole shows. sym (over_of_prefix base whole) ∙ ap (dropped_in base) (sym (prefix.prefix whole shows)) ∙ is, prefix.held, prefix.stays)

-- ---- files of rules that couldn't be read, or were refused

-- If no read and no write failed, the counts of failures are as specified.
pub same_counts : (before now : ShelfCounts) (writes : ℕ) (result : Status) → Stays before now → (result ≡ status.ReadFault → ⊥) → (((which : _) × (result ≡ status.NoFile which)) → ⊥) → (result ≡ status.WriteFault → ⊥)
    → FailuresAreCounted (counts_with before writes) (counts_with now writes) result
same_counts before now writes result same no_read no_file no_write =
    counts_written (counts_with before writes) (counts_with now writes) result same.faults same.absent no_read no_file (stays _ writes writes no_write refl)

-- A shelf whose two counts didn't change has the same counts as before.
same_shelf : (before now : ShelfCounts) → Stays before now → now ≡ before
same_shelf before now same = ap (λ n. counts_of n now.absent) same.faults ∙ ap (counts_of before.faults) same.absent

-- A run ends as specified if a file couldn't be read, after the files that precede it were
-- accepted.
pub unread_ends : (command : Command) (which : Which) (name : List ℕ) (files : Option Files) (before now : ShelfCounts) (writes : ℕ) (had : Option (List ℕ)) (result : Status)
    → file_of command which ≡ Some name → IsPassed command files which → Unread which name files before now result
    → Runs command files (counts_with before writes) (counts_with now writes) had had result
unread_ends command which name files before now writes had (status.NoFile kind) named passed unread =
    subst (λ w. Runs command files (counts_with before writes) (counts_with now writes) had had (status.NoFile w)) (sym unread.0) (record {
      ends = (keeps_same had, passed, (name, named, unread.1));
      counts = missed_counts which (counts_with before writes) (counts_with now writes) unread.2 unread.3 refl;
    })
unread_ends command which name files before now writes had status.ReadFault named passed unread =
    read_failed command files (counts_with before writes) (counts_with now writes) had (which, is_named command which name named) unread.0 unread.1 refl
unread_ends command which name files before now writes had (status.NoMemory _) named passed unread =
    out_of_memory_at command files (counts_with before writes) (counts_with now writes) had unread.faults unread.absent refl
unread_ends command which name files before now writes had _ named passed unread = absurd unread

-- A rules file that couldn't be read gives no rules.
pub unread_base : (name : List ℕ) (files : Option Files) (before now : ShelfCounts) (result : Status) → Unread RulesFile name files before now result → BaseFails name files before now result
unread_base name files before now (status.NoFile kind) unread = unread
unread_base name files before now status.ReadFault unread = unread
unread_base name files before now (status.NoMemory _) unread = unread
unread_base name files before now _ unread = absurd unread

-- A drop-in file that couldn't be read can't be applied.
pub unread_over : (base : Rules) (name : List ℕ) (files : Option Files) (before now : ShelfCounts) (result : Status) → Unread DropInFile name files before now result → OverFails base name files before now result
unread_over base name files before now (status.NoFile kind) unread = unread
unread_over base name files before now status.ReadFault unread = unread
unread_over base name files before now (status.NoMemory _) unread = unread
unread_over base name files before now _ unread = absurd unread

-- A failure at the rules file ends the run as specified.
pub base_ends : (name : List ℕ) (drop_in : Option (List ℕ)) (files : Option Files) (before now : ShelfCounts) (result : Status) → BaseFails name files before now result → EndsRun (Some name) drop_in files before now result
base_ends name drop_in files before now (status.Rules fault) fails = λ command writes had named over. record {
  ends = (keeps_same had, file_there command RulesFile name files named fails.1, (name, named, fails.0));
  counts = same_counts before now writes (status.Rules fault) fails.2 (λ is. cc is) (λ is. cc is.1) (λ is. cc is);
}
base_ends name drop_in files before now (status.NoFile kind) fails = λ command writes had named over. unread_ends command RulesFile name files before now writes had (status.NoFile kind) named tt fails
base_ends name drop_in files before now status.ReadFault fails = λ command writes had named over. unread_ends command RulesFile name files before now writes had status.ReadFault named tt fails
base_ends name drop_in files before now (status.NoMemory none) fails = λ command writes had named over. unread_ends command RulesFile name files before now writes had (status.NoMemory none) named tt fails
base_ends name drop_in files before now _ fails = absurd fails

-- The rules of the rules file are accepted before the drop-in file is read.
pub passed_base : (command : Command) (name : List ℕ) (files : Option Files) (before now : ShelfCounts) (base : Rules) → rules_name command ≡ Some name → BaseOption name files before now base → IsPassed command files DropInFile
passed_base command name files before now base named bytes_read = (
  base,
  is_named command RulesFile name named,
  λ bytes known. bytes_read.read bytes (subst (λ n. content_of files n ≡ Some bytes) (same_name command RulesFile name known.0 named known.1) known.2),
  file_there command RulesFile name files named bytes_read.held,
)

-- Applying the drop-in file to the rules of the rules file gives the rules of both files.
pub joined_from : (bytes drop_in : List ℕ) (base : Rules) → rules_of bytes ≡ Ok base → rules_from bytes (Some drop_in) ≡ or_drop_fault (dropped_in base drop_in)
joined_from bytes drop_in base is = ap (λ read. with_drop_in (Some drop_in) (or_rules_fault read)) is

-- A failure at the drop-in file ends the run as specified, if reading the rules file didn't change
-- the shelf's counts.
fails_over : (name other : List ℕ) (files : Option Files) (first before now : ShelfCounts) (base : Rules) (result : Status) → BaseOption name files first before base → OverFails base other files before now result
    → EndsRun (Some name) (Some other) files before now result
fails_over name other files first before now base (status.DropIn fault) bytes_read fails = λ command writes had named over. record {
  ends = (
    keeps_same had,
    is_named command DropInFile other over,
    passed_base command name files first before base named bytes_read,
    file_there command DropInFile other files over fails.1,
    λ bytes drop_in known found.
        joined_from bytes drop_in base (bytes_read.read bytes (subst (λ n. content_of files n ≡ Some bytes) (same_name command RulesFile name known.0 named known.1) known.2))
        ∙ ap or_drop_fault (fails.0 drop_in (subst (λ n. content_of files n ≡ Some drop_in) (same_name command DropInFile other found.0 over found.1) found.2)),
  );
  counts = same_counts before now writes (status.DropIn fault) fails.2 (λ is. cc is) (λ is. cc is.1) (λ is. cc is);
}
fails_over name other files first before now base (status.NoFile kind) bytes_read fails = λ command writes had named over. unread_ends command DropInFile other files before now writes had (status.NoFile kind) over (passed_base command name files first before base named bytes_read) fails
fails_over name other files first before now base status.ReadFault bytes_read fails = λ command writes had named over. unread_ends command DropInFile other files before now writes had status.ReadFault over (passed_base command name files first before base named bytes_read) fails
fails_over name other files first before now base (status.NoMemory none) bytes_read fails = λ command writes had named over. unread_ends command DropInFile other files before now writes had (status.NoMemory none) over (passed_base command name files first before base named bytes_read) fails
fails_over name other files first before now base _ bytes_read fails = absurd fails

-- A failure at the drop-in file ends the run as specified.
pub over_ends : (name other : List ℕ) (files : Option Files) (before mid now : ShelfCounts) (base : Rules) (result : Status) → BaseOption name files before mid base → OverFails base other files mid now result
    → EndsRun (Some name) (Some other) files before now result
over_ends name other files before mid now base result bytes_read fails =
    subst (λ n. EndsRun (Some name) (Some other) files n now result) (same_shelf before mid bytes_read.stays) (fails_over name other files before mid now base result bytes_read fails)

-- ---- files of rules that were read

-- If the content of a named file is known, its bytes are known.
mapped : (bytes : Option (List ℕ)) (found : Option (List ℕ)) → option_map (λ b. Some b) bytes ≡ Some found → (here : List ℕ) × (bytes ≡ Some here) × (Some here ≡ found)
mapped None found is = absurd (true≢false (sym (ap is_some is)))
mapped (Some here) found is = (here, refl, let same : Some here ≡ found = cc is in same)

-- If the content of a named drop-in file is known, its bytes are known.
pub named_bytes : (files : Option Files) (named : Option (List ℕ)) (name : List ℕ) (found : Option (List ℕ)) → named ≡ Some name → content_if_named files named ≡ Some found
    → (here : List ℕ) × (content_of files name ≡ Some here) × (Some here ≡ found)
named_bytes files named name found is shows = mapped (content_of files name) found (subst (λ n. content_if_named files n ≡ Some found) is shows)

-- Without a drop-in file, the rules of the rules file are the rules of the command.
pub base_alone : (name : List ℕ) (files : Option Files) (before now : ShelfCounts) (base : Rules) → BaseOption name files before now base → RulesOption (Some name) None files base.rules
base_alone name files before now base bytes_read = record {
  fit = bytes_read.fit;
  none = λ is. absurd (true≢false (ap is_some is));
  read = λ other bytes found is shows known.
      let same : name ≡ other = cc is in
      let none : None ≡ found = cc known in
      subst (λ over. rules_from bytes over ≡ Ok base) none
      (ap (λ read. with_drop_in None (or_rules_fault read)) (bytes_read.read bytes (subst (λ n. content_of files n ≡ Some bytes) (sym same) shows)));
  held = λ other is lacks.
      let same : name ≡ other = cc is in
      bytes_read.held (subst (IsAbsent files) (sym same) lacks);
  drop_in_held = λ other is. absurd (true≢false (sym (ap is_some is)));
}

-- With a drop-in file, the rules of the rules file with the drop-in file applied are the rules of
-- the command.
pub both_options : (name over : List ℕ) (files : Option Files) (before mid now : ShelfCounts) (base rules : Rules) → BaseOption name files before mid base → OverOption base over files mid now rules
    → RulesOption (Some name) (Some over) files rules.rules
both_options name over files before mid now base rules bytes_read put = record {
  fit = put.fit;
  none = λ is. absurd (true≢false (ap is_some is));
  read = λ other bytes found is shows known.
      let same : name ≡ other = cc is in
      let here = named_bytes files (Some over) over found refl known in
      subst (λ drop_in. rules_from bytes drop_in ≡ Ok rules) here.2
      (joined_from bytes here.0 base (bytes_read.read bytes (subst (λ n. content_of files n ≡ Some bytes) (sym same) shows)) ∙ ap or_drop_fault (put.read here.0 here.1));
  held = λ other is lacks.
      let same : name ≡ other = cc is in
      bytes_read.held (subst (IsAbsent files) (sym same) lacks);
  drop_in_held = λ other is lacks.
      let same : over ≡ other = cc is in
      put.held (subst (IsAbsent files) (sym same) lacks);
}

-- Counts that two steps leave unchanged are unchanged after both steps.
pub stays_on : (before mid now : ShelfCounts) → Stays before mid → Stays mid now → Stays before now
stays_on before mid now first then = record { faults = then.faults ∙ first.faults; absent = then.absent ∙ first.absent }

-- Applying a drop-in file to the rules of a rules file either succeeds or ends the run as
-- specified.
pub over_answers : (name over : List ℕ) (files : Option Files) (before mid now : ShelfCounts) (base : Rules) (result : Result Rules Status) → BaseOption name files before mid base
    → MatchResult result (λ rules. OverOption base over files mid now rules) (λ found. OverFails base over files mid now found)
    → MatchResult result (λ rules. RulesOption (Some name) (Some over) files rules.rules × Stays before now) (λ found. EndsRun (Some name) (Some over) files before now found)
over_answers name over files before mid now base (Ok rules) bytes_read put = (both_options name over files before mid now base rules bytes_read put, stays_on before mid now bytes_read.stays put.stays)
over_answers name over files before mid now base (Err found) bytes_read fails = over_ends name over files before mid now base found bytes_read fails

-- ---- rules that were written

-- The command `rules` reads no trace.
no_source : (name : List ℕ) (drop_in : Option (List ℕ)) (files : Option Files) → IsThere (words.Rules name drop_in) files TraceFile
no_source name drop_in files = λ other is lacks. true≢false (sym (ap is_some is))

-- Writing the text of the rules satisfies the specification of the command `rules`.
pub rules_written : (name : List ℕ) (drop_in : Option (List ℕ)) (files : Option Files) (before now : RunCounts) (had has : Option (List ℕ)) (rules : List Rule) (result : Status)
    → RulesOption (Some name) drop_in files rules → now.shelf.faults ≡ before.shelf.faults → now.shelf.absent ≡ before.shelf.absent
    → WritesText (rules_text rules ++ codes "\n") before.writes now.writes had has result → Runs (words.Rules name drop_in) files before now had has result
rules_written name drop_in files before now had has rules status.Done bytes_read faults absent wrote = record {
  ends = (plain_trace 1 [], rules, λ has. absurd has, takes_events (words.Rules name drop_in) _ _ files rules refl refl bytes_read, rules_there (words.Rules name drop_in) files rules bytes_read, no_source name drop_in files, (rules_text rules ++ codes "\n", refl, wrote.0));
  counts = counts_written before now status.Done faults absent (λ is. cc is) (λ is. cc is.1) (stays _ before.writes now.writes (λ is. cc is) wrote.1);
}
rules_written name drop_in files before now had has rules status.WriteFault bytes_read faults absent wrote = record {
  ends = (plain_trace 1 [], rules, λ has. absurd has, takes_events (words.Rules name drop_in) _ _ files rules refl refl bytes_read, rules_there (words.Rules name drop_in) files rules bytes_read, no_source name drop_in files, (rules_text rules ++ codes "\n", refl, wrote.0));
  counts = counts_written before now status.WriteFault faults absent (λ is. cc is) (λ is. cc is.1) (record { increased = λ _. wrote.1; same = λ not. absurd (not refl) });
}
rules_written name drop_in files before now had has rules (status.NoMemory _) bytes_read faults absent wrote = record {
  ends = wrote.0;
  counts = counts_written before now (status.NoMemory no_memory) faults absent (λ is. cc is) (λ is. cc is.1) (stays _ before.writes now.writes (λ is. cc is) wrote.1);
}
rules_written name drop_in files before now had has rules _ bytes_read faults absent wrote = absurd wrote
