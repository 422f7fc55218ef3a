-- Defines patterns of control group paths, as they occur in rules files, and the Boolean test
-- whether a pattern matches a path. The components of a pattern may contain stars.
use Rattle.std.specs.Prelude.{ℕ, List, [], ◌∷◌, length, map, nat_lt, nat_le, ◌==◌, ◌&&◌, ◌||◌, not, Bool, true, false, if◌then◌else◌, codes, Result, Ok, Err}
use Rattle.std.specs.List.{join_with_byte, list_all, list_any}
use Rattle.std.specs.Str.{bytes_eq}
use Rattle.psi_base.specs.Path.{parts_at, is_path_byte}
use Rattle.path_match.specs.declared.fault.PatternFault.{PatternFault}
use Rattle.path_match.specs.declared.fault.PatternFault.TheVariants.{BadPattern, TooMany}

-- A pattern, represented by the list of its components. The root's pattern has no components.
abbrev pub Pattern : Type 0
Pattern = List (List ℕ)

-- The text with its leading slash removed. A text without a leading slash is unchanged.
abbrev pub after_slash : List ℕ → List ℕ
after_slash [] = []
after_slash (byte ∷ bytes) = if byte == 47 then bytes else byte ∷ bytes

-- The components of a path or pattern, which are separated by slashes. The root has no components.
unfoldable pub components : List ℕ → List (List ℕ)
components text = if bytes_eq text (codes "/") then [] else parts_at 47 (after_slash text)

-- Whether the byte `c` may occur in a component of a pattern: it may occur in a component of a
-- path, or is a star (42).
abbrev pub is_pattern_byte : ℕ → Bool
is_pattern_byte c = is_path_byte c || c == 42

-- Whether the bytes are a component of a pattern: one or more pattern bytes, except the components
-- `.` and `..`.
abbrev pub is_pattern_component : List ℕ → Bool
is_pattern_component part =
    nat_lt 0 (length part) && list_all is_pattern_byte part && not (bytes_eq part (codes ".")) && not (bytes_eq part (codes ".."))

-- Whether the text is a pattern: the root `/`, or components separated by slashes, with or without
-- a leading slash.
abbrev pub is_pattern : List ℕ → Bool
is_pattern text = list_all is_pattern_component (components text)

-- Parses patterns, which are separated by commas. The error is `BadPattern` if a part isn't a
-- pattern. If all parts are patterns but there are more than 16, the error is `TooMany`.
unfoldable pub patterns_of : List ℕ → Result (List Pattern) PatternFault
patterns_of text =
    if list_all is_pattern (parts_at 44 text) then (if nat_le (length (parts_at 44 text)) 16
    then Ok (map components (parts_at 44 text)) else Err TooMany) else Err BadPattern

-- ---- matching

-- Whether the test passes for at least one suffix of the bytes. The whole list and the empty list
-- are suffixes too.
abbrev pub some_end : (List ℕ → Bool) → List ℕ → Bool
some_end test [] = test []
some_end test (byte ∷ bytes) = test (byte ∷ bytes) || some_end test bytes

-- Whether the first byte is `c` and the test passes for the remaining bytes. False for the empty
-- list.
abbrev pub begins : ℕ → (List ℕ → Bool) → List ℕ → Bool
begins c test [] = false
begins c test (byte ∷ bytes) = c == byte && test bytes

-- Whether a component of a pattern (the first argument) matches a component of a path.
abbrev pub is_component_match : List ℕ → List ℕ → Bool
is_component_match [] [] = true
is_component_match [] (byte ∷ bytes) = false
is_component_match (c ∷ pattern) bytes =
    if c == 42 then some_end (is_component_match pattern) bytes else begins c (is_component_match pattern) bytes

-- Whether the components of a pattern match the components of a path, one by one.
abbrev pub are_matches : Pattern → List (List ℕ) → Bool
are_matches [] [] = true
are_matches [] (part ∷ parts) = false
are_matches (component ∷ pattern) [] = false
are_matches (component ∷ pattern) (part ∷ parts) = is_component_match component part && are_matches pattern parts

-- Whether at least one pattern matches the path. Detectors and actions use this test. The law
-- `TestShows` states that it agrees with the relation `MatchesSome`.
unfoldable pub is_match : List Pattern → List ℕ → Bool
is_match patterns path = list_any (λ pattern. are_matches pattern (components path)) patterns

-- ---- texts

-- The text of a pattern: `/` for the root, otherwise the components separated by slashes.
abbrev pub pattern_text : Pattern → List ℕ
pattern_text [] = codes "/"
pattern_text (component ∷ pattern) = join_with_byte 47 (component ∷ pattern)

-- The text of a list of patterns, separated by commas.
abbrev pub patterns_text : List Pattern → List ℕ
patterns_text patterns = join_with_byte 44 (map pattern_text patterns)
