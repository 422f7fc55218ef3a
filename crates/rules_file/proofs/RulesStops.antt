-- Proves how many bytes of the rules file and the drop-in file are read, and at which file a run
-- stops.
use Rattle.std.proofs.Common.{◌≡◌, ℕ, ◌+◌, ◌≤◌, List, length, refl, ap, arith, Option, None, Some, Ok, Err}
use Rattle.std.specs.Prelude.{MatchResult, Result, ⊤}
use Rattle.outside.specs.Outside.{Files, ShelfCounts, content_of}
use Rattle.ruleset_json.specs.declared.types.Rules.{Rules}
use Rattle.run_spec.specs.declared.status.Status.{Status}
use Rattle.run_spec.specs.declared.status.Status.TheVariants as status
use Rattle.run_spec.specs.MostRead.{most_of_rules}
use Rattle.run_spec.specs.Stops.{length_or, read_of_rules}
use Rattle.rules_file.specs.Files.{BaseFails, OverFails, OverOption, StopsRun}
use Rattle.run_outcomes.proofs.RunStops.{rules_stop}

-- If the bytes of a file are known, at most the length of the file is read of it.
pub read_within : (files : Option Files) (name : List ℕ) (bytes_read read_now : ℕ) → read_now ≤ bytes_read + most_of_rules → ((whole : List ℕ) → content_of files name ≡ Some whole → read_now ≤ bytes_read + length whole)
    → read_now ≤ bytes_read + read_of_rules files (Some name)
read_within files name bytes_read read_now most within = go (content_of files name) refl
  where
    go : (found : Option (List ℕ)) → content_of files name ≡ found → read_now ≤ bytes_read + length_or most_of_rules found
    go None is = most
    go (Some whole) is = within whole is

-- The bytes read are within the limits if reading the rules file failed.
base_failed : (name : List ℕ) (drop_in : Option (List ℕ)) (files : Option Files) (bytes_read read_now : ℕ) → read_now ≤ bytes_read + read_of_rules files (Some name) → StopsRun (Some name) drop_in files bytes_read read_now status.ReadFault
base_failed name drop_in files bytes_read read_now within = λ command named over.
    let base = ap (read_of_rules files) named in
    rules_stop command name files bytes_read read_now named (omega (arith, within, base))

-- If the rules file gives no rules, the run stops at the rules file.
pub base_stops : (name : List ℕ) (drop_in : Option (List ℕ)) (files : Option Files) (before now : ShelfCounts) (bytes_read read_now : ℕ) (result : Status) → BaseFails name files before now result → read_now ≤ bytes_read + read_of_rules files (Some name)
    → StopsRun (Some name) drop_in files bytes_read read_now result
base_stops name drop_in files before now bytes_read read_now (status.Rules fault) fails within = λ command named over. tt
base_stops name drop_in files before now bytes_read read_now (status.NoFile kind) fails within = λ command named over. tt
base_stops name drop_in files before now bytes_read read_now status.ReadFault fails within = base_failed name drop_in files bytes_read read_now within
base_stops name drop_in files before now bytes_read read_now (status.NoMemory _) fails within = λ command named over. tt
base_stops name drop_in files before now bytes_read read_now _ fails within = absurd fails

-- The bytes read are within the limits if reading the drop-in file failed.
over_failed : (name other : List ℕ) (files : Option Files) (bytes_read middle read_now : ℕ) → middle ≤ bytes_read + read_of_rules files (Some name) → read_now ≤ middle + read_of_rules files (Some other) → StopsRun (Some name) (Some other) files bytes_read read_now status.ReadFault
over_failed name other files bytes_read middle read_now first then = λ command named over.
    let base = ap (read_of_rules files) named in
    let more = ap (read_of_rules files) over in
    rules_stop command name files bytes_read read_now named (omega (arith, first, then, base, more))

-- If the drop-in file can't be applied, the run stops at the drop-in file.
over_fails : (base : Rules) (name other : List ℕ) (files : Option Files) (before now : ShelfCounts) (bytes_read middle read_now : ℕ) (result : Status) → OverFails base other files before now result
    → middle ≤ bytes_read + read_of_rules files (Some name) → read_now ≤ middle + read_of_rules files (Some other) → StopsRun (Some name) (Some other) files bytes_read read_now result
over_fails base name other files before now bytes_read middle read_now (status.DropIn fault) fails first then = λ command named over. tt
over_fails base name other files before now bytes_read middle read_now (status.NoFile kind) fails first then = λ command named over. tt
over_fails base name other files before now bytes_read middle read_now status.ReadFault fails first then = over_failed name other files bytes_read middle read_now first then
over_fails base name other files before now bytes_read middle read_now (status.NoMemory _) fails first then = λ command named over. tt
over_fails base name other files before now bytes_read middle read_now _ fails first then = absurd fails

pub over_stops : (base : Rules) (name other : List ℕ) (files : Option Files) (before now : ShelfCounts) (bytes_read middle read_now : ℕ) (result : Result Rules Status)
    → MatchResult result (λ rules. OverOption base other files before now rules) (λ found. OverFails base other files before now found)
    → middle ≤ bytes_read + read_of_rules files (Some name) → read_now ≤ middle + read_of_rules files (Some other)
    → MatchResult result (λ rules. ⊤) (λ found. StopsRun (Some name) (Some other) files bytes_read read_now found)
over_stops base name other files before now bytes_read middle read_now (Ok rules) put first then = tt
over_stops base name other files before now bytes_read middle read_now (Err found) fails first then = over_fails base name other files before now bytes_read middle read_now found fails first then
