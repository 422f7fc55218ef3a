-- Defines the bytes of a line that is written piece by piece.
use Rattle.std.specs.Prelude.{ℕ, List, ◌++◌, codes, decimal}
use Rattle.std.specs.List.{flat_map}
use Rattle.pressure_spec.specs.File.{percent_text}
use Rattle.pressure_text.specs.declared.pieces.Piece.{Piece}
use Rattle.pressure_text.specs.declared.pieces.Piece.TheVariants.{Number, Text, Percent}

-- A space, followed by the number in decimal.
abbrev pub spaced_number : ℕ → List ℕ
spaced_number n = codes " " ++ decimal n

-- The bytes that are written for a piece.
abbrev pub piece_bytes : Piece → List ℕ
piece_bytes (Number n) = decimal n
piece_bytes (Text bytes) = bytes.now
piece_bytes (Percent average) = percent_text average

-- The bytes of a line: the pieces in order, each number after a space, and a newline.
abbrev pub with_numbers : List Piece → List ℕ → List ℕ
with_numbers pieces numbers = flat_map piece_bytes pieces ++ flat_map spaced_number numbers ++ codes "\n"
