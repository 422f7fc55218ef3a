-- The fields of a record: little-endian numbers, states of tasks, and texts.
use Rattle.std.specs.Prelude.{ℕ, ◌+◌, ◌-◌, ◌*◌, ◌/◌, ◌%◌, ◌^◌, List, length, take, drop, find, position, map, nat_lt, nat_le, ◌==◌, not, bit_and, Bool, if◌then◌else◌, Option, None, Some, option_map, unwrap_or, slice_index}
use Rattle.std.specs.Int.{from_le_bytes, w16, w32, w64}
use Rattle.std.specs.List.{list_all}
use Rattle.page_spec.specs.declared.layout.Field.{Field}
use Rattle.page_spec.specs.declared.layout.Field.TheVariants as field
use Rattle.page_spec.specs.declared.layout.StateLetter.{StateLetter}
use Rattle.page_spec.specs.declared.layout.Width.{Width}
use Rattle.page_spec.specs.declared.layout.Width.TheVariants.{One, Two, Four, Eight}

-- ---- numbers

-- The number of bytes of a number of this width.
abbrev pub size_of : Width → ℕ
size_of One = 1
size_of Two = 2
size_of Four = 4
size_of Eight = 8

-- The little-endian number in the first two bytes.
abbrev pub half_of : List ℕ → ℕ
half_of bytes = from_le_bytes w16 bytes

-- The little-endian number in the first four bytes.
abbrev pub word_of : List ℕ → ℕ
word_of bytes = from_le_bytes w32 bytes

-- The little-endian number in the first eight bytes.
abbrev pub long_of : List ℕ → ℕ
long_of bytes = from_le_bytes w64 bytes

-- The little-endian number of this width in the first bytes.
abbrev pub number_in : Width → List ℕ → ℕ
number_in One bytes = slice_index bytes 0
number_in Two bytes = half_of bytes
number_in Four bytes = word_of bytes
number_in Eight bytes = long_of bytes

-- ---- values

-- The value of a field: a number, a negative number (represented by its absolute value), the letter
-- of a state, or a text.
pub data Value : Type 0 where
  Count : ℕ → Value
  Minus : ℕ → Value
  Letter : ℕ → Value
  Bytes : List ℕ → Value

-- The signed value of a number in two's complement. `width` is the number of its bytes.
abbrev pub signed_of : Width → ℕ → Value
signed_of width number =
    if nat_lt number (2 ^ (8 * size_of width - 1)) then Count number else Minus (2 ^ (8 * size_of width) - number)

-- The letter of a state: the first letter that has one of the state's bits, or `R` (82) if no
-- letter has one.
abbrev pub letter_of : List StateLetter → ℕ → ℕ
letter_of letters state =
    unwrap_or (option_map (λ (row : StateLetter). row.letter) (find (λ (row : StateLetter). not (bit_and state row.bits == 0)) letters)) 82

-- The bytes before the index `place`, or all bytes if the index is `None`.
abbrev pub up_to : Option ℕ → List ℕ → List ℕ
up_to None bytes = bytes
up_to (Some place) bytes = take place bytes

-- The bytes before the first zero byte, or all bytes if there is no zero byte.
abbrev pub until_zero : List ℕ → List ℕ
until_zero bytes = up_to (position (λ byte. byte == 0) bytes) bytes

-- The first `most` bytes (all bytes if there are fewer), or all bytes if `most` is 0.
abbrev pub at_most : ℕ → List ℕ → List ℕ
at_most most bytes = if most == 0 then bytes else take most bytes

-- The text that the number `word` locates in the record `bytes`: its offset is in the lower 16 bits
-- of `word`, and its length is in the upper 16 bits. The text ends before its first zero byte.
abbrev pub located : ℕ → List ℕ → List ℕ
located word bytes = until_zero (take (word / 2 ^ 16) (drop (word % 2 ^ 16) bytes))

-- The value of a field of the record `bytes`. `letters` are the letters of task states.
abbrev pub value_of : List StateLetter → List ℕ → Field → Value
value_of letters bytes (field.Unsigned offset width) = Count (number_in width (drop offset bytes))
value_of letters bytes (field.Signed offset width) = signed_of width (number_in width (drop offset bytes))
value_of letters bytes (field.State offset width) = Letter (letter_of letters (number_in width (drop offset bytes)))
value_of letters bytes (field.Text offset most) = Bytes (until_zero (at_most most (drop offset bytes)))
value_of letters bytes (field.Located offset) = Bytes (located (word_of (drop offset bytes)) bytes)

-- The values of the fields of the record `bytes`, in order. `letters` are the letters of task
-- states.
abbrev pub values_of : List StateLetter → List ℕ → List Field → List Value
values_of letters bytes fields = map (value_of letters bytes) fields

-- The minimum number of bytes of a record with this field. A text begins at its offset, and may be
-- empty.
abbrev pub end_of : Field → ℕ
end_of (field.Unsigned offset width) = offset + size_of width
end_of (field.Signed offset width) = offset + size_of width
end_of (field.State offset width) = offset + size_of width
end_of (field.Text offset most) = offset
end_of (field.Located offset) = offset + 4

-- Whether the record `bytes` is long enough for each of the fields.
abbrev pub has_fields : List ℕ → List Field → Bool
has_fields bytes fields = list_all (λ (each : Field). nat_le (end_of each) (length bytes)) fields
