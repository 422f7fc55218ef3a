-- Defines the layout that a table describes, or the first error of the table. A table is a text of
-- lines, whose words are separated by spaces.
use Rattle.std.specs.Prelude.{ℕ, ◌+◌, List, [], ◌∷◌, ◌++◌, length, nat_lt, nat_le, ◌==◌, ◌&&◌, if◌then◌else◌, codes, Option, None, Some, option_map, Result, Ok, Err}
use Rattle.std.specs.Str.{bytes_eq}
use Rattle.psi_base.specs.Number.{number_of}
use Rattle.psi_base.specs.OptionSteps.{◌>>=◌}
use Rattle.psi_base.specs.Path.{parts_at}
use Rattle.page_spec.specs.declared.layout.Field.{Field}
use Rattle.page_spec.specs.declared.layout.Field.TheVariants as field
use Rattle.page_spec.specs.declared.layout.Kind.{Kind}
use Rattle.page_spec.specs.declared.layout.Layout.{Layout}
use Rattle.page_spec.specs.declared.layout.StateLetter.{StateLetter}
use Rattle.page_spec.specs.declared.layout.Width.{Width}
use Rattle.page_spec.specs.declared.layout.Width.TheVariants.{One, Two, Four, Eight}
use Rattle.convert_table.specs.declared.fault.TableCause.{TableCause}
use Rattle.convert_table.specs.declared.fault.TableCause.TheVariants.{TooLong, BadHeader, BadPage, BadRow, NoEnd, NoNewline, AfterEnd}
use Rattle.convert_table.specs.declared.fault.TableFault.{TableFault}
use Rattle.convert_table.specs.declared.row.PageSize.{PageSize}
use Rattle.convert_table.specs.declared.row.Row.{Row}
use Rattle.convert_table.specs.declared.row.Row.TheVariants as row

-- ---- parts of a line

-- The first part of a list and the list of the parts after it, or `None` if the list is empty.
abbrev pub next : List (List ℕ) → Option (List ℕ × List (List ℕ))
next [] = None
next (part ∷ parts) = Some (part, parts)

-- `Some` if no part remains, and `None` if a part remains.
abbrev pub ended : List (List ℕ) → Option (Unit {0})
ended [] = Some tt
ended (part ∷ parts) = None

-- The number if it is below 65,536, and `None` otherwise.
abbrev pub if_small : Option ℕ → Option ℕ
if_small None = None
if_small (Some number) = if nat_lt number 65536 then Some number else None

abbrev pub small : List ℕ → Option ℕ
small word = if_small (number_of word)

-- The byte of a word that has exactly one byte, and `None` for any other word.
abbrev pub byte_in : List ℕ → Option ℕ
byte_in (byte ∷ []) = Some byte
byte_in _ = None

-- ---- fields

-- The width of a number with `size` bytes: 1, 2, 4 or 8.
abbrev pub width_of : ℕ → Option Width
width_of size =
    if size == 1 then Some One else if size == 2 then Some Two else if size == 4 then Some Four else if size == 8 then Some Eight else None

-- The field with this form, offset (bytes) and size (bytes). `None` if the form is unknown or the
-- size isn't allowed.
abbrev pub field_with : List ℕ → ℕ → ℕ → Option Field
field_with form offset size =
    if bytes_eq form (codes "unsigned") then option_map (λ width. field.Unsigned offset width) (width_of size)
    else if bytes_eq form (codes "signed") then option_map (λ width. field.Signed offset width) (width_of size)
    else if bytes_eq form (codes "state") then option_map (λ width. field.State offset width) (width_of size)
    else if bytes_eq form (codes "text") then Some (field.Text offset size)
    else if bytes_eq form (codes "located") && size == 4 then Some (field.Located offset)
    else None

-- The field that a word describes: its form, offset (bytes) and size (bytes), separated by colons
-- (byte 58).
unfoldable pub field_of : List ℕ → Option Field
field_of word = do
  form ← next (parts_at 58 word)
  offset ← next form.1
  size ← next offset.1
  whole ← ended size.1
  start ← small offset.0
  count ← small size.0
  field_with form.0 start count

-- `with_first first rest`: the list `rest` of fields with the field `first` added at the front, or
-- `None` if either is `None`.
abbrev pub with_first : Option Field → Option (List Field) → Option (List Field)
with_first None rest = None
with_first (Some first) None = None
with_first (Some first) (Some rest) = Some (first ∷ rest)

abbrev pub fields_of : List (List ℕ) → Option (List Field)
fields_of [] = Some []
fields_of (word ∷ words) = with_first (field_of word) (fields_of words)

-- ---- lines

-- Parses the words after `letter`: the bits of a task's state, and the letter for these bits.
unfoldable pub state_letter_of : List (List ℕ) → Option StateLetter
state_letter_of words = do
  bits ← next words
  letter ← next bits.1
  whole ← ended letter.1
  number ← number_of bits.0
  byte ← byte_in letter.0
  Some (record { bits = number; letter = byte })

-- Parses the words after `kind`: the number, the name and the fields of a kind of event.
unfoldable pub kind_of : List (List ℕ) → Option Kind
kind_of words = do
  number ← next words
  name ← next number.1
  value ← small number.0
  fields ← fields_of name.1
  Some (record { number = value; name = name.0; fields = fields })

-- Parses a row, which is a line for a letter or for a kind of event. `word` is the first word of
-- the line, and `words` are the other words.
abbrev pub row_with : List ℕ → List (List ℕ) → Option Row
row_with word words =
    if bytes_eq word (codes "letter") then option_map (λ letter. row.Letter letter) (state_letter_of words)
    else if bytes_eq word (codes "kind") then option_map (λ kind. row.Event kind) (kind_of words)
    else None

-- Parses a row: a line between the line `page` and the line `end`. Words are separated by spaces
-- (byte 32).
unfoldable pub row_of : List ℕ → Option Row
row_of line = do
  word ← next (parts_at 32 line)
  row_with word.0 word.1

-- The sizes (bytes) of a page and of its header, or `None` if the line is invalid. `word`, the
-- first word of the line, must be `page`, and the sizes must satisfy `16 <= start <= size <=
-- 2097152`.
abbrev pub page_with : List ℕ → ℕ → ℕ → Option PageSize
page_with word size start =
    if bytes_eq word (codes "page") && nat_le 16 start && nat_le start size && nat_le size 2097152
    then Some (record { page = size; header = start })
    else None

-- Parses the second line of a table: the word `page`, and the sizes (bytes) of a page and of its
-- header.
unfoldable pub page_of : List ℕ → Option PageSize
page_of line = do
  word ← next (parts_at 32 line)
  page ← next word.1
  header ← next page.1
  whole ← ended header.1
  size ← number_of page.0
  start ← number_of header.0
  page_with word.0 size start

-- ---- the table

-- The error `why` in line number `line` (from 1).
abbrev pub table_fault : ℕ → TableCause → TableFault
table_fault line why = record { line = line; cause = why }

-- The layout with these page sizes, state letters and kinds of events.
abbrev pub layout_with : PageSize → List StateLetter → List Kind → Layout
layout_with size letters kinds = record { page = size.page; header = size.header; letters = letters; kinds = kinds }

-- `end_fault number lines`: the error at the end of a table, or `None`. `number` is the number of
-- the line `end`, and `lines` are the parts after it. The line `end` must have a newline, and
-- nothing may follow the newline.
abbrev pub end_fault : ℕ → List (List ℕ) → Option TableFault
end_fault number [] = Some (table_fault number NoNewline)
end_fault number ([] ∷ []) = None
end_fault number _ = Some (table_fault (number + 1) AfterEnd)

-- `end_from size letters kinds why`: the result of parsing a table up to its end. This is the error
-- in `why`, or the layout if `why` is `None`.
abbrev pub end_from : PageSize → List StateLetter → List Kind → Option TableFault → Result Layout TableFault
end_from size letters kinds None = Ok (layout_with size letters kinds)
end_from size letters kinds (Some why) = Err why

-- `row_then number letters kinds row following`: the result of parsing line `number` and the lines
-- after it. If the line is the row `row`, its letter or kind is appended to `letters` or `kinds`,
-- and `following` parses the later lines. If `row` is `None`, the line is invalid.
abbrev pub row_then : ℕ → List StateLetter → List Kind → Option Row
    → (List StateLetter → List Kind → Result Layout TableFault) → Result Layout TableFault
row_then number letters kinds None following = Err (table_fault number BadRow)
row_then number letters kinds (Some (row.Letter letter)) following = following (letters ++ letter ∷ []) kinds
row_then number letters kinds (Some (row.Event kind)) following = following letters (kinds ++ kind ∷ [])

-- `rows_from size number letters kinds lines`: the result of parsing `lines`, the first of which
-- has number `number`. `size` was parsed from line 2, and `letters` and `kinds` from the lines
-- between line 2 and line `number`.
abbrev pub rows_from : PageSize → ℕ → List StateLetter → List Kind → List (List ℕ) → Result Layout TableFault
rows_from size number letters kinds [] = Err (table_fault number NoEnd)
rows_from size number letters kinds (line ∷ lines) =
    if bytes_eq line (codes "end") then end_from size letters kinds (end_fault number lines)
    else row_then number letters kinds (row_of line) (λ more_letters more_kinds. rows_from size (number + 1) more_letters more_kinds lines)

-- `sized_layout size lines`: the result of parsing `lines`, which follow line 2. `size` has the
-- sizes from line 2. If line 2 is invalid, `size` is `None`, and the result is an error.
abbrev pub sized_layout : Option PageSize → List (List ℕ) → Result Layout TableFault
sized_layout None lines = Err (table_fault 2 BadPage)
sized_layout (Some size) lines = rows_from size 3 [] [] lines

-- The result of parsing the lines that follow line 1.
abbrev pub after_first : List (List ℕ) → Result Layout TableFault
after_first [] = Err (table_fault 2 BadPage)
after_first (second ∷ lines) = sized_layout (page_of second) lines

-- The result of parsing all lines of a table.
abbrev pub lines_layout : List (List ℕ) → Result Layout TableFault
lines_layout [] = Err (table_fault 1 BadHeader)
lines_layout (first ∷ lines) = if bytes_eq first (codes "psi_layout 1") then after_first lines else Err (table_fault 1 BadHeader)

-- The result of parsing the bytes of a table: a layout, or the first error. Lines are separated by
-- newlines (byte 10).
unfoldable pub table_of : List ℕ → Result Layout TableFault
table_of bytes = if nat_lt 65536 (length bytes) then Err (table_fault 1 TooLong) else lines_layout (parts_at 10 bytes)
