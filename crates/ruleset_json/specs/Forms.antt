-- Defines the syntax of argument values: numbers, ratios, sizes, Booleans and resources. The syntax
-- follows oomd.
use Rattle.std.specs.Prelude.{ℕ, ◌+◌, ◌-◌, ◌*◌, ◌/◌, ◌^◌, List, [], ◌∷◌, ◌++◌, take, length, slice_index, nat_lt, nat_le, ◌==◌, ◌&&◌, ◌||◌, Bool, true, false, if◌then◌else◌, codes, Option, None, Some, option_map}
use Rattle.std.specs.List.{list_any}
use Rattle.std.specs.Str.{bytes_eq}
use Rattle.psi_base.specs.Number.{digits_of, number_of}
use Rattle.psi_base.specs.Path.{parts_at}
use Rattle.psi_base.specs.declared.event.Res.{Res}
use Rattle.psi_base.specs.declared.event.Res.TheVariants as res
use Rattle.psi_base.specs.OptionSteps.{◌>>=◌}
use Rattle.psi_spec.specs.Fields.{named, resource_word}
use Rattle.ruleset_json.specs.declared.types.Size.{Size}
use Rattle.ruleset_json.specs.declared.types.Size.TheVariants as size

-- `at_most most n`: the optional number `n`, or `None` if it is above `most`.
abbrev pub at_most : ℕ → Option ℕ → Option ℕ
at_most most None = None
at_most most (Some n) = if nat_le n most then Some n else None

-- `number_up_to most text`: parses a decimal number without leading zeros. The result is `None` if
-- the text isn't such a number, or if the number is above `most`.
unfoldable pub number_up_to : ℕ → List ℕ → Option ℕ
number_up_to most text = at_most most (number_of text)

-- ---- numbers with a decimal point

-- `fraction_of digits`: the number of thousandths that one to three digits after a decimal point
-- spell. Missing digits count as zeros. The result is `None` for any other text.
unfoldable pub fraction_of : List ℕ → Option ℕ
fraction_of digits = if nat_lt 0 (length digits) && nat_le (length digits) 3 then digits_of (take 3 (digits ++ codes "00")) else None

-- `pointed most parts`: the integer part and the thousandths of a decimal number. `parts` is the
-- number's text, split at each point. The integer part is at most `most`, and the fraction is
-- optional. The result is `None` for any other text.
abbrev pub pointed : ℕ → List (List ℕ) → Option (ℕ × ℕ)
pointed most [] = None
pointed most (whole ∷ []) = do
  n ← number_up_to most whole
  Some (n, 0)
pointed most (whole ∷ digits ∷ []) = do
  n ← number_up_to most whole
  fraction ← fraction_of digits
  Some (n, fraction)
pointed most (whole ∷ digits ∷ other ∷ parts) = None

-- `thousandths_of most text`: the number of thousandths that a text spells. The text consists of an
-- integer of at most `most`, and optionally a point and one to three digits. The result is `None`
-- for any other text.
unfoldable pub thousandths_of : ℕ → List ℕ → Option ℕ
thousandths_of most text = do
  parts ← pointed most (parts_at 46 text)
  Some (parts.0 * 1000 + parts.1)

-- `ratio_of text`: the ratio (in thousandths) that a text spells. Its integer part is at most 1000.
-- The result is `None` for any other text.
abbrev pub ratio_of : List ℕ → Option ℕ
ratio_of text = thousandths_of 1000 text

-- ---- sizes in bytes or percent

-- The number of bytes of a unit with this letter (K, M, G or T, in either case). The result is
-- `None` for any other byte.
unfoldable pub unit_of : ℕ → Option ℕ
unit_of letter =
    if letter == 75 || letter == 107 then Some (1024 ^ 1)  -- K, k
    else if letter == 77 || letter == 109 then Some (1024 ^ 2)  -- M, m
    else if letter == 71 || letter == 103 then Some (1024 ^ 3)  -- G, g
    else if letter == 84 || letter == 116 then Some (1024 ^ 4)  -- T, t
    else None

-- The last byte of a text.
abbrev pub last : List ℕ → ℕ
last text = slice_index text (length text - 1)

-- The text without its last byte.
abbrev pub prefix : List ℕ → List ℕ
prefix text = take (length text - 1) text

-- The greatest size (bytes) that an argument may have.
abbrev pub largest_size : ℕ
largest_size = 2 ^ 60

-- `scaled unit text`: parses a number of units of `unit` bytes, which may have a fraction. The
-- result is the size in bytes, rounded down. The result is `None` if the text is malformed or the
-- size is above 2^60 bytes.
unfoldable pub scaled : ℕ → List ℕ → Option ℕ
scaled unit text = do
  thousandths ← thousandths_of (2 ^ 64 - 1) text
  at_most largest_size (Some (thousandths * unit / 1000))

-- `bytes_in unit text`: parses a size in bytes. With a unit, the text is a number followed by the
-- unit's letter. Without a unit (`None`), the text is a number of bytes.
abbrev pub bytes_in : Option ℕ → List ℕ → Option ℕ
bytes_in None text = number_up_to largest_size text
bytes_in (Some unit) text = scaled unit (prefix text)

-- Parses a size: a percentage (a number from 0 to 100 and `%`), or a number of bytes with an
-- optional unit letter.
unfoldable pub size_of : List ℕ → Option Size
size_of text =
    if last text == 37 then option_map size.Percent (number_up_to 100 (prefix text))
    else option_map size.Bytes (bytes_in (unit_of (last text)) text)

-- ---- Booleans and resources

-- `is_one_of words text`: whether the text is one of the words.
abbrev pub is_one_of : List (List ℕ) → List ℕ → Bool
is_one_of words text = list_any (bytes_eq text) words

-- The Boolean that a text spells, or `None` if it spells no Boolean.
unfoldable pub truth_of : List ℕ → Option Bool
truth_of text =
    if is_one_of (codes "true" ∷ codes "True" ∷ codes "1" ∷ []) text then Some true
    else if is_one_of (codes "false" ∷ codes "False" ∷ codes "0" ∷ []) text then Some false
    else None

-- `resource_of text`: the resource that a text names, or `None` for any other text. Only IO and
-- memory are accepted, because detectors and actions use only these two.
unfoldable pub resource_of : List ℕ → Option Res
resource_of text = named resource_word (res.Io ∷ res.Memory ∷ []) text
