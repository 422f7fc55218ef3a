-- Defines how the command line is parsed: its words become options and a positional argument, and
-- one function for each command builds the command from these.
use Rattle.std.specs.Prelude.{ℕ, ◌-◌, ◌^◌, List, [], ◌∷◌, length, drop}
use Rattle.std.specs.Prelude.{find, nat_eq, nat_lt, nat_le, ◌==◌, ◌&&◌, not, Bool}
use Rattle.std.specs.Prelude.{false, if◌then◌else◌, codes, Option, None, Some}
use Rattle.std.specs.Prelude.{option_map, is_some}
use Rattle.std.specs.List.{list_any, before_first, after_first, starts_with}
use Rattle.std.specs.Str.{bytes_eq}
use Rattle.psi_base.specs.Number.{number_of}
use Rattle.psi_base.specs.Path.{is_path}
use Rattle.psi_base.specs.OptionSteps.{◌>>=◌}
use Rattle.run_spec.specs.declared.command.Command.{Command}
use Rattle.run_spec.specs.declared.command.Command.TheVariants.{Stall, Check, Replay, Gen, Stress, Import, Rules, Whatif}
use Rattle.run_spec.specs.declared.command.Options.{Options}
use Rattle.run_spec.specs.declared.command.Shape.{Shape}

-- ---- the kinds of command-line words

-- The kinds of words of the command line.
pub data Word : Type 0 where
  -- `--name=value`: the name and the value of an option.
  assigned : List ℕ → List ℕ → Word
  -- `--name`: an option whose value is the next word.
  opened : List ℕ → Word
  -- `--`: no later word is an option.
  end : Word
  -- A word that doesn't begin with `-`, or the word `-`.
  plain : Word
  -- Any other word that begins with `-`.
  unknown : Word

-- `is_dashed word`: whether a word has at least two bytes and begins with `-` (byte 45).
abbrev pub is_dashed : List ℕ → Bool
is_dashed [] = false
is_dashed (first ∷ []) = false
is_dashed (first ∷ second ∷ rest) = first == 45

-- `is_among text texts`: whether the list `texts` contains `text`.
abbrev pub is_among : List ℕ → List (List ℕ) → Bool
is_among text texts = list_any (λ other. bytes_eq other text) texts

-- Whether `byte` is `=` (61).
abbrev pub is_equals : ℕ → Bool
is_equals byte = byte == 61

-- `option_of names text`: the kind of the word `--text`, if `names` are the names of the known
-- options. The name of the option in the word ends before the first `=`, if there is any.
abbrev pub option_of : List (List ℕ) → List ℕ → Word
option_of names text =
    if not (is_among (before_first is_equals text) names) then unknown
    else if list_any is_equals text
    then assigned (before_first is_equals text) (after_first is_equals text)
    else opened (before_first is_equals text)

-- `word_of names word`: the kind of `word`, if `names` are the names of the known options.
abbrev pub word_of : List (List ℕ) → List ℕ → Word
word_of names word =
    if not (is_dashed word) then plain
    else if bytes_eq word (codes "--") then end
    else if starts_with nat_eq word (codes "--") then option_of names (drop 2 word)
    else unknown

-- ---- parsing the words of a command line

-- The result of parsing words: the name and the value of each option, and the positional argument,
-- or `None` if there is no positional argument.
pub record ParsedWords : Type 0 where
  pub options : List (List ℕ × List ℕ)
  pub positional : Option (List ℕ)

-- The result of parsing an empty list of words: no options and no positional argument.
abbrev pub nothing : ParsedWords
nothing = record { options = []; positional = None }

-- `option_value name parsed`: the value of the option with the name `name`, or `None` if the option
-- is absent.
abbrev pub option_value : List ℕ → ParsedWords → Option (List ℕ)
option_value name parsed =
    option_map (λ option. option.1) (find (λ option. bytes_eq option.0 name) parsed.options)

-- `with_option name value parsed`: the parsed words with one more option. The result is `None` if
-- they already contain an option with this name.
abbrev pub with_option : List ℕ → List ℕ → ParsedWords → Option ParsedWords
with_option name value parsed =
    if is_some (option_value name parsed) then None
    else Some (record parsed { options = (name, value) ∷ parsed.options })

-- `with_positional word parsed`: the parsed words with `word` as the positional argument. The
-- result is `None` if they already contain a positional argument.
abbrev pub with_positional : List ℕ → ParsedWords → Option ParsedWords
with_positional word parsed =
    if is_some parsed.positional then None else Some (record parsed { positional = Some word })

-- What the parser expects next: any word (`at_word`), the value of the option with this name
-- (`at_value`), or, after `--`, a positional argument (`suffix`).
pub data WordState : Type 0 where
  at_word : WordState
  at_value : List ℕ → WordState
  suffix : WordState

-- `by_word kind word rest`: parses `word`, which is of the kind `kind`, and all later words. The
-- function `rest` parses the later words, given what the parser expects next.
abbrev pub by_word : Word → List ℕ → (WordState → Option ParsedWords) → Option ParsedWords
by_word (assigned name value) word rest = rest at_word >>= with_option name value
by_word (opened name) word rest = rest (at_value name)
by_word end word rest = rest suffix
by_word plain word rest = rest at_word >>= with_positional word
by_word unknown word rest = None

-- `parsed_from names word_state words`: parses `words`, if the parser expects `word_state` and
-- `names` are the names of the known options. The result is `None` if the words are malformed.
abbrev pub parsed_from : List (List ℕ) → WordState → List (List ℕ) → Option ParsedWords
parsed_from names at_word [] = Some nothing
parsed_from names (at_value name) [] = None
parsed_from names suffix [] = Some nothing
parsed_from names at_word (word ∷ words) =
    by_word (word_of names word) word (λ word_state. parsed_from names word_state words)
parsed_from names (at_value name) (word ∷ words) =
    if is_dashed word then None else parsed_from names at_word words >>= with_option name word
parsed_from names suffix (word ∷ words) = parsed_from names suffix words >>= with_positional word

-- ---- parsing the values of options

-- `number_within least most text`: parses a decimal number without leading zeros. The result is
-- `None` unless the number is from `least` to `most`.
abbrev pub number_within : ℕ → ℕ → List ℕ → Option ℕ
number_within least most text = do
  number ← number_of text
  if nat_le least number && nat_le number most then Some number else None

-- `number_or default least most value`: parses the value of an option as a number from `least` to
-- `most`. The result is `default` if the option is absent (`value` is `None`). The result is `None`
-- if the value isn't such a number.
abbrev pub number_or : ℕ → ℕ → ℕ → Option (List ℕ) → Option ℕ
number_or default least most None = Some default
number_or default least most (Some text) = number_within least most text

-- `needed least most value`: parses the value of a required option as a number from `least` to
-- `most`. The result is `None` if the option is absent or its value isn't such a number.
abbrev pub needed : ℕ → ℕ → Option (List ℕ) → Option ℕ
needed least most None = None
needed least most (Some text) = number_within least most text

-- Whether the file name `name` isn't empty.
abbrev pub is_name : List ℕ → Bool
is_name name = nat_lt 0 (length name)

-- `trace_option parsed`: the positional argument as a file name. The name `-` means standard input.
-- The result is `None` if the argument is absent or empty.
abbrev pub trace_option : ParsedWords → Option (List ℕ)
trace_option parsed = do
  name ← parsed.positional
  if is_name name then Some name else None

-- `rules_option value`: the name of a rules file or drop-in file, from the value of its option. The
-- result is `Some None` if the option is absent. The result is `None` if the name is empty or `-`
-- (standard input).
abbrev pub rules_option : Option (List ℕ) → Option (Option (List ℕ))
rules_option None = Some None
rules_option (Some name) =
    if is_name name && not (bytes_eq name (codes "-")) then Some (Some name) else None

-- `drop_in_option rules value`: the name of the drop-in file, from the value of its option. `rules`
-- is the name of the rules file, if any. The result is `Some None` if the option is absent. The
-- result is `None` if the name is invalid, or if there is no rules file.
abbrev pub drop_in_option : Option (List ℕ) → Option (List ℕ) → Option (Option (List ℕ))
drop_in_option rules None = Some None
drop_in_option None (Some name) = None
drop_in_option (Some rules) (Some name) = rules_option (Some name)

-- `live_option value`: the path of the watched group, from the value of `--live`. The result is
-- `Some None` if the option is absent, and `None` if the path is malformed.
abbrev pub live_option : Option (List ℕ) → Option (Option (List ℕ))
live_option None = Some None
live_option (Some path) = if is_path path then Some (Some path) else None

-- ---- building the command from the parsed words

-- The length of a tick in ms, from the value of `--tick-ms`. It is 1 to 60,000, and 2,000 by
-- default.
abbrev pub tick_option : ParsedWords → Option ℕ
tick_option parsed = number_or 2000 1 60000 (option_value (codes "tick-ms") parsed)

-- The maximum number of threads, from the value of `--workers`. It is 1 to 64, and 64 by default.
abbrev pub workers_option : ParsedWords → Option ℕ
workers_option parsed = number_or 64 1 64 (option_value (codes "workers") parsed)

-- Builds a `stall` command, which requires a trace.
unfoldable pub stall_of : ParsedWords → Option Command
stall_of parsed = do
  trace ← trace_option parsed
  Some (Stall trace)

-- Builds a `check` command, which requires a trace and accepts the length of a tick.
unfoldable pub check_of : ParsedWords → Option Command
check_of parsed = do
  trace ← trace_option parsed
  tick_ms ← tick_option parsed
  Some (Check trace tick_ms)

-- Parses the options of `replay` and `whatif`, and fills in the defaults.
unfoldable pub options_of : ParsedWords → Option Options
options_of parsed = do
  rules ← rules_option (option_value (codes "rules") parsed)
  drop_in ← drop_in_option rules (option_value (codes "drop-in") parsed)
  tick_ms ← tick_option parsed
  interval_s ← number_or 5 1 3600 (option_value (codes "interval-s") parsed)
  report_s ← number_or 10 0 3600 (option_value (codes "report-s") parsed)
  workers ← workers_option parsed
  live ← live_option (option_value (codes "live") parsed)
  live_count ← number_or 1 1 16 (option_value (codes "live-count") parsed)
  Some (record {
    rules = rules;
    drop_in = drop_in;
    tick_ms = tick_ms;
    interval_s = interval_s;
    report_s = report_s;
    workers = workers;
    live = live;
    live_count = live_count;
  })

-- Builds a `replay` command, which requires a trace and accepts options.
unfoldable pub replay_of : ParsedWords → Option Command
replay_of parsed = do
  trace ← trace_option parsed
  options ← options_of parsed
  Some (Replay trace options)

-- Parses the shape of a generated trace. All four options are required, and each must be in range.
-- The result is `None` if an option is missing or out of range, or if there is a positional
-- argument.
unfoldable pub shape_of : ParsedWords → Option Shape
shape_of parsed = do
  options ← if is_some parsed.positional then None else Some parsed
  seed ← needed 0 (2 ^ 64 - 1) (option_value (codes "seed") options)
  cpus ← needed 1 64 (option_value (codes "cpus") options)
  groups ← needed 0 1000 (option_value (codes "groups") options)
  events ← needed 0 3900000 (option_value (codes "events") options)
  Some (record { seed = seed; cpus = cpus; groups = groups; events = events })

-- Builds a `gen` command, which requires a shape.
unfoldable pub gen_of : ParsedWords → Option Command
gen_of parsed = do
  shape ← shape_of parsed
  Some (Gen shape)

-- Builds a `stress` command, which requires a shape and accepts the maximum number of threads.
unfoldable pub stress_of : ParsedWords → Option Command
stress_of parsed = do
  shape ← shape_of parsed
  workers ← workers_option parsed
  Some (Stress shape workers)

-- Builds an `import` command, which requires a file and the number of processors of the machine.
unfoldable pub import_command_of : ParsedWords → Option Command
import_command_of parsed = do
  file ← trace_option parsed
  cpus ← needed 1 64 (option_value (codes "cpus") parsed)
  Some (Import file cpus)

-- Builds a `rules` command, which requires a rules file and accepts a drop-in file.
unfoldable pub rules_command_of : ParsedWords → Option Command
rules_command_of parsed = do
  file ← trace_option parsed
  drop_in ← rules_option (option_value (codes "drop-in") parsed)
  Some (Rules file drop_in)

-- Builds a `whatif` command, which requires a trace and a rules file, and rejects a watched group.
unfoldable pub whatif_of : ParsedWords → Option Command
whatif_of parsed = do
  trace ← trace_option parsed
  options ← options_of parsed
  if is_some options.rules && not (is_some options.live) then Some (Whatif trace options) else None

-- The syntax of a command: the word that names it, the names of its options, and the function that
-- builds the command from the parsed words after its name.
pub record CommandForm : Type 0 where
  pub word : List ℕ
  pub options : List (List ℕ)
  pub command : ParsedWords → Option Command

-- The syntax `stall TRACE`.
abbrev pub stall_form : CommandForm
stall_form = record { word = codes "stall"; options = []; command = stall_of }

-- The syntax `check TRACE [--tick-ms=N]`.
abbrev pub check_form : CommandForm
check_form = record { word = codes "check"; options = codes "tick-ms" ∷ []; command = check_of }

-- The names of the options of `replay`.
abbrev pub replay_names : List (List ℕ)
replay_names =
    codes "rules" ∷ codes "drop-in" ∷ codes "tick-ms" ∷ codes "interval-s" ∷ codes "report-s"
    ∷ codes "workers" ∷ codes "live" ∷ codes "live-count" ∷ []

-- The syntax of `replay TRACE` with options.
abbrev pub replay_form : CommandForm
replay_form = record { word = codes "replay"; options = replay_names; command = replay_of }

-- The names of the four options that give the shape of a generated trace.
abbrev pub shape_names : List (List ℕ)
shape_names = codes "seed" ∷ codes "cpus" ∷ codes "groups" ∷ codes "events" ∷ []

-- The syntax of `gen` with the four options of a shape.
abbrev pub gen_form : CommandForm
gen_form = record { word = codes "gen"; options = shape_names; command = gen_of }

-- The names of the options of `stress`.
abbrev pub stress_names : List (List ℕ)
stress_names = codes "workers" ∷ shape_names

-- The syntax of `stress` with the four options of a shape and `--workers`.
abbrev pub stress_form : CommandForm
stress_form = record { word = codes "stress"; options = stress_names; command = stress_of }

-- The syntax `import FILE --cpus=N`.
abbrev pub import_form : CommandForm
import_form = record { word = codes "import"; options = codes "cpus" ∷ []; command = import_command_of }

-- The syntax `rules FILE [--drop-in=FILE]`.
abbrev pub rules_form : CommandForm
rules_form = record { word = codes "rules"; options = codes "drop-in" ∷ []; command = rules_command_of }

-- The names of the options of `whatif`.
abbrev pub whatif_names : List (List ℕ)
whatif_names =
    codes "rules" ∷ codes "drop-in" ∷ codes "tick-ms" ∷ codes "interval-s" ∷ codes "report-s" ∷ codes "workers" ∷ []

-- The syntax of `whatif TRACE` with options.
abbrev pub whatif_form : CommandForm
whatif_form = record { word = codes "whatif"; options = whatif_names; command = whatif_of }

-- The list of all commands, each with its syntax.
abbrev pub forms : List CommandForm
forms =
    stall_form ∷ check_form ∷ replay_form ∷ gen_form ∷ stress_form ∷ import_form ∷ rules_form ∷ whatif_form ∷ []

-- `spelled form words`: parses the words after a command's name by the syntax `form`. The result is
-- `None` if the words don't fit the syntax.
abbrev pub spelled : CommandForm → List (List ℕ) → Option Command
spelled form words = do
  parsed ← parsed_from form.options at_word words
  form.command parsed

-- `command_of words`: parses the words of a command line, without the program's name. The first
-- word names the command. The result is `None` if the words don't form a command.
unfoldable pub command_of : List (List ℕ) → Option Command
command_of [] = None
command_of (first ∷ words) = do
  form ← find (λ form. bytes_eq first form.word) forms
  spelled form words
