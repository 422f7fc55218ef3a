-- Laws that follow from the definitions: about command words, missing files, the number of read
-- calls, and the rounds of `whatif`.
use Rattle.std.specs.Prelude.{◌≡◌, ◌≢◌, ℕ, ◌+◌, ◌≤◌, ◌<◌, List, [], ◌∷◌, ◌++◌, length, false, codes, Option, None, Some, Ok, Err, slice_get, ◌⊎◌}
use Rattle.std.specs.List.{list_any}
use Rattle.run_spec.specs.declared.command.Command.{Command}
use Rattle.psi_spec.specs.World.{most_events}
use Rattle.psi_spec.specs.Trace.{Trace}
use Rattle.ruleset_json.specs.declared.types.Rule.{Rule}
use Rattle.run_spec.specs.Replay.{Timing}
use Rattle.psi_base.specs.Memory.{no_memory}
use Rattle.outside.specs.Outside.{Files, IsAbsent, count_read}
use Rattle.outside.specs.Reads.{ReadCall, ReadsFile}
use Rattle.outside.specs.declared.shelf.ShelfFault.{ShelfFault}
use Rattle.outside.specs.declared.shelf.ShelfFault.TheVariants as shelf
use Rattle.run_spec.specs.declared.status.Status.{Status}
use Rattle.run_spec.specs.declared.status.Which.TheVariants.{DropInFile, RulesFile}
use Rattle.ruleset_json.specs.declared.fault.RulesFault.{RulesFault}
use Rattle.dropin_rules.specs.declared.fault.DropFault.{DropFault}
use Rattle.run_spec.specs.Outputs.{drop_in_name, rules_name, source_name}
use Rattle.run_spec.specs.Words.{command_of, is_among, is_dashed, is_equals}
use Rattle.run_spec.specs.LegalCommand.{IsCommand}
use Rattle.run_spec.specs.Whatif.{after_rounds, all_kills, last_trace, most_rounds, without_kill}
use Rattle.run_spec.specs.ReadOrder.{FailsAt, ReadsInOrder, names_in_order}
use Rattle.run_spec.specs.Run.{Ends, IsNoFile}
use Rattle.run_spec.specs.declared.status.Status.TheVariants as status

-- ---- laws of command words

-- All numbers of a parsed command are in range, and its file names aren't empty (`IsCommand`).
abbrev pub SpelledInRange : Type 0
SpelledInRange = (words : List (List ℕ)) (command : Command)
    → command_of words ≡ Some command → IsCommand command

-- `assigned_word name value`: the word `--name=value` with this name and this value.
abbrev pub assigned_word : List ℕ → List ℕ → List ℕ
assigned_word name value = codes "--" ++ name ++ 61 ∷ value

-- `HasNoEquals text`: the text contains no `=` (byte 61).
abbrev pub HasNoEquals : List ℕ → Type 0
HasNoEquals text = list_any is_equals text ≡ false

-- Swapping two adjacent options with different names doesn't change the parsed command.
abbrev pub OrderIsFree : Type 0
OrderIsFree = (before after : List (List ℕ)) (name value other another : List ℕ)
    → HasNoEquals name → HasNoEquals other → name ≢ other
    → command_of (before ++ assigned_word name value ∷ assigned_word other another ∷ after)
    ≡ command_of (before ++ assigned_word other another ∷ assigned_word name value ∷ after)

-- `--name=value` may also be written as the two words `--name value` if no earlier word is `--` and
-- the value doesn't begin with `-` (a single `-` is allowed).
abbrev pub ValueMayFollow : Type 0
ValueMayFollow = (before after : List (List ℕ)) (name value : List ℕ)
    → HasNoEquals name → name ≢ [] → is_dashed value ≡ false → is_among (codes "--") before ≡ false
    → command_of (before ++ assigned_word name value ∷ after)
    ≡ command_of (before ++ (codes "--" ++ name) ∷ value ∷ after)

-- ---- laws of missing files

-- If the rules file of a command is known to be missing, the run fails. It reports the missing
-- file, a failed read, or out of memory.
abbrev pub MissingRulesShow : Type 0
MissingRulesShow = (command : Command) (files : Option Files) (old new : Option (List ℕ)) (result : Status) (name : List ℕ)
    → Ends command files old new result → rules_name command ≡ Some name → IsAbsent files name
    → (result ≡ status.NoFile RulesFile) ⊎ (result ≡ status.ReadFault) ⊎ (result ≡ status.NoMemory no_memory)

-- If the drop-in file of a command is known to be missing, the run fails. It reports that this file
-- or the rules file is missing, an error in the rules file (which is read first), a failed read, or
-- out of memory.
abbrev pub MissingDropInShows : Type 0
MissingDropInShows = (command : Command) (files : Option Files) (old new : Option (List ℕ)) (result : Status) (name : List ℕ)
    → Ends command files old new result → drop_in_name command ≡ Some name → IsAbsent files name
    → (result ≡ status.NoFile RulesFile) ⊎ (result ≡ status.NoFile DropInFile) ⊎ (result ≡ status.ReadFault)
    ⊎ (result ≡ status.NoMemory no_memory) ⊎ ((fault : RulesFault) × (result ≡ status.Rules fault))

-- If the trace or ftrace text of a command is known to be missing, the run fails. It reports a
-- missing file, an error in the rules file or in the drop-in file (which are read first), a failed
-- read, or out of memory.
abbrev pub MissingSourceShows : Type 0
MissingSourceShows = (command : Command) (files : Option Files) (old new : Option (List ℕ)) (result : Status) (name : List ℕ)
    → Ends command files old new result → source_name command ≡ Some name → IsAbsent files name
    → IsNoFile result ⊎ (result ≡ status.ReadFault) ⊎ (result ≡ status.NoMemory no_memory)
    ⊎ ((fault : RulesFault) × (result ≡ status.Rules fault)) ⊎ ((fault : DropFault) × (result ≡ status.DropIn fault))

-- If the rules file of a command is known to be missing and the run ends with ReadFault, the failed
-- read was a read of the rules file.
abbrev pub MissingRulesComeFirst : Type 0
MissingRulesComeFirst = (command : Command) (files : Option Files) (before now : List ReadCall) (name : List ℕ)
    → ReadsInOrder command files before now status.ReadFault → rules_name command ≡ Some name → IsAbsent files name
    → FailsAt command before now RulesFile shelf.Failed

-- If the drop-in file of a command is known to be missing and the run ends with ReadFault, the
-- failed read was a read of the drop-in file or of the rules file.
abbrev pub MissingDropInComesFirst : Type 0
MissingDropInComesFirst = (command : Command) (files : Option Files) (before now : List ReadCall) (name : List ℕ)
    → ReadsInOrder command files before now status.ReadFault → drop_in_name command ≡ Some name → IsAbsent files name
    → FailsAt command before now RulesFile shelf.Failed ⊎ FailsAt command before now DropInFile shelf.Failed

-- ---- laws of the number of read calls

-- `bytes_in calls`: the number of bytes that the read calls of a log returned.
abbrev pub bytes_in : List ReadCall → ℕ
bytes_in [] = 0
bytes_in (call ∷ calls) = count_read call.outcome + bytes_in calls

-- `CallsAreFew more before now`: the log of read calls grew from `before` to `now`. The number of
-- new calls is at most the number of bytes that the new calls returned, plus `more`.
pub record CallsAreFew (more : ℕ) (before now : List ReadCall) : Type 0 where
  pub calls : List ReadCall
  pub grown : now ≡ before ++ calls
  pub few : length calls ≤ bytes_in calls + more

-- The number of read calls for one file is at most the number of bytes that the calls returned,
-- plus one.
abbrev pub FileCallsAreFew : Type 0
FileCallsAreFew = (name : List ℕ) (before now : List ReadCall) (fault : Option ShelfFault)
    → ReadsFile name 0 before now fault → CallsAreFew 1 before now

-- The number of read calls of a command is at most the number of bytes that the calls returned,
-- plus one for each file that the command reads.
abbrev pub CommandCallsAreFew : Type 0
CommandCallsAreFew = (command : Command) (files : Option Files) (before now : List ReadCall) (result : Status)
    → ReadsInOrder command files before now result → CallsAreFew (length (names_in_order command)) before now

-- ---- laws of the rounds of `whatif`

-- If a round of `whatif` finds no kill to remove, the trace before that round is the final trace.
abbrev pub LastWithoutKill : Type 0
LastWithoutKill = (trace left : Trace) (timing : Timing) (rules : List Rule) (count : ℕ) → count ≤ most_rounds
    → length left.events ≤ most_events
    → after_rounds trace timing rules count ≡ Ok left → slice_get (all_kills left timing rules) count ≡ None
    → last_trace trace timing rules ≡ Ok left

-- If too many events remain after one of the first `count` rounds of `whatif`, `last_trace` is
-- `Err` with the number of these events.
abbrev pub LastOutgrown : Type 0
LastOutgrown = (trace : Trace) (timing : Timing) (rules : List Rule) (count events : ℕ) → count ≤ most_rounds
    → after_rounds trace timing rules count ≡ Err events → last_trace trace timing rules ≡ Err events

-- If `last_trace` is `Err events`, the number of events after some round of `whatif` is `events`,
-- and this number is more than a trace may have.
abbrev pub OutgrownAtRound : Type 0
OutgrownAtRound = (trace : Trace) (timing : Timing) (rules : List Rule) (events : ℕ) → last_trace trace timing rules ≡ Err events
    → (number : ℕ) × (left : Trace) × (number < most_rounds) × (after_rounds trace timing rules number ≡ Ok left)
    × (length (without_kill left (slice_get (all_kills left timing rules) number)).events ≡ events) × (most_events < events)
