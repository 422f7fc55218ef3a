-- Paths of control groups: the root, or components that are each preceded by a slash.
use Rattle.std.specs.Prelude.{ℕ, List, [], ◌∷◌, length, drop, slice_index, nat_lt, nat_le, ◌==◌, ◌&&◌, ◌||◌, not, Bool, if◌then◌else◌, codes}
use Rattle.std.specs.List.{list_all}
use Rattle.std.specs.Str.{bytes_eq}

-- Prepends `byte` to the first part of a list of parts. If the list is empty, the result is one
-- part that contains only `byte`.
abbrev pub onto_first : ℕ → List (List ℕ) → List (List ℕ)
onto_first byte [] = (byte ∷ []) ∷ []
onto_first byte (part ∷ parts) = (byte ∷ part) ∷ parts

-- `parts_at at bytes`: splits the bytes at each separator, which is the byte `at`. There is one
-- more part than separators.
unfoldable pub parts_at : ℕ → List ℕ → List (List ℕ)
parts_at at [] = [] ∷ []
parts_at at (byte ∷ bytes) = if byte == at then [] ∷ parts_at at bytes else onto_first byte (parts_at at bytes)

-- Returns whether the byte `c` may occur in a component of a path: a letter, a digit, or one of
-- `_.@:-\`.
abbrev pub is_path_byte : ℕ → Bool
is_path_byte c =
    (nat_le 97 c && nat_le c 122) || (nat_le 65 c && nat_le c 90) || (nat_le 48 c && nat_le c 57) || c == 95 || c == 46 || c == 64
    || c == 58 || c == 45 || c == 92

-- Returns whether the bytes are a component of a path: one or more path bytes, but neither `.` nor
-- `..`.
abbrev pub is_component : List ℕ → Bool
is_component part =
    nat_lt 0 (length part) && list_all is_path_byte part && not (bytes_eq part (codes ".")) && not (bytes_eq part (codes ".."))

-- Returns whether the bytes are a path: `/`, or 1 to 32 components with a slash before each, with
-- at most 255 bytes in total.
unfoldable pub is_path : List ℕ → Bool
is_path bytes =
    bytes_eq bytes (codes "/") || (slice_index bytes 0 == 47 && nat_le (length bytes) 255
    && nat_le (length (parts_at 47 (drop 1 bytes))) 32 && list_all is_component (parts_at 47 (drop 1 bytes)))
