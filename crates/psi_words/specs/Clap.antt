-- The `clap` command that parses the words of a command line: options with one value each and at
-- most one positional argument. The second part defines which words the result of `clap` contains.
use Rattle.std.specs.Prelude.{◌≡◌, ℕ, List, [], ◌∷◌, ◌++◌, map, filter, Bool, true, not, codes}
use Rattle.std.specs.Prelude.{Some, is_some, unwrap_or, slice_get}
use Rattle.std.specs.List.{list_all}
use Rattle.std.specs.Str.{bytes_eq}
use Rattle.clap.specs.Walk.{Row, Rule, first_of}
use Rattle.clap.specs.Simple.{App, Shape, new_rule, new_shape}
use Rattle.run_spec.specs.Words.{ParsedWords}

-- ---- the `clap` command

-- The `clap` rule for an option `--name VALUE`.
abbrev pub option_rule : List ℕ → Rule
option_rule name = record (new_rule name) { long = Some name }

-- The identifier of the positional argument.
abbrev pub positional_id : List ℕ
positional_id = codes "TRACE"

-- The `clap` rule for the positional argument.
abbrev pub positional_rule : Rule
positional_rule = new_rule positional_id

-- A `clap` command with these rules and without a help option. The words don't include the
-- program's name.
abbrev pub plain_shape : List Rule → Shape
plain_shape rules = record (new_shape (codes "words")) {
  no_binary_name = true;
  disable_help_flag = true;
  rules = rules;
}

-- The `clap` command that accepts options with these names and a positional argument.
abbrev pub plain_app : List (List ℕ) → App
plain_app names =
    record { top = plain_shape (map option_rule names ++ positional_rule ∷ []); subs = [] }

-- ---- the result of `clap`: one row for each argument

-- Whether the row in the result of `clap` is for an option. If not, it is for the positional
-- argument.
abbrev pub is_option_row : Row → Bool
is_option_row row = not (bytes_eq row.id positional_id)

-- The name and the value of the option in a row of the result of `clap`.
abbrev pub option_in : Row → List ℕ × List ℕ
option_in row = (row.id, unwrap_or (slice_get row.values 0) [])

-- The options and the positional argument in the rows that `clap` returned.
abbrev pub words_in : List Row → ParsedWords
words_in rows = record {
  options = map option_in (filter is_option_row rows);
  positional = first_of positional_id rows;
}

-- Each row of the result of `clap` has at least one value.
abbrev pub AreValued : List Row → Type 0
AreValued rows = list_all (λ row. is_some (slice_get row.values 0)) rows ≡ true
