-- The parts of a command line, as `clap` splits the words: options with their values, and
-- positional arguments, in their order.
use Rattle.std.proofs.Common.{◌≡◌, ℕ, ◌++◌, ◌∷◌, ◌&&◌, List, [], Bool, true, false, not, Option}
use Rattle.std.proofs.Common.{Some, None, map, if◌then◌else◌}
use Rattle.std.specs.Prelude.{option_map, ⊤}
use Rattle.std.specs.Str.{bytes_eq, is_utf8}
use Rattle.std.specs.List.{list_any}
use Rattle.clap.specs.Lexer.{long_of}
use Rattle.run_spec.specs.Words.{is_dashed, is_among}
use Rattle.psi_words.specs.Clap.{positional_id}

-- an option with its value, or a positional argument
pub data Part : Type 0 where
  parsed : List ℕ → List ℕ → Part
  plain : List ℕ → Part

abbrev pub id_of : Part → List ℕ
id_of (parsed name value) = name
id_of (plain word) = positional_id

abbrev pub text_of : Part → List ℕ
text_of (parsed name value) = value
text_of (plain word) = word

-- a part before the other parts, or `None` if these are `None`
abbrev pub then_part : Part → Option (List Part) → Option (List Part)
then_part p rest = option_map (λ ps. p ∷ ps) rest

-- the parts after a long option, depending on its value
abbrev pub then_long : List (List ℕ) → Option (List ℕ × Option (List ℕ))
    → (Option (List ℕ) → Option (List Part)) → Option (List Part)
then_long names None next = None
then_long names (Some (name, Some value)) next =
    if is_among name names then then_part (parsed name value) (next None) else None
then_long names (Some (name, None)) next = if is_among name names then next (Some name) else None

-- the parts of the words; `waiting` is the option that takes the next word as its value
abbrev pub parts : List (List ℕ) → Option (List ℕ) → List (List ℕ) → Option (List Part)
parts names None [] = Some []
parts names (Some name) [] = None
parts names (Some name) (word ∷ rest) =
    if is_dashed word then None else then_part (parsed name word) (parts names None rest)
parts names None (word ∷ rest) =
    if is_dashed word then (if bytes_eq word (45 ∷ 45 ∷ []) then Some (map plain rest) else
    then_long names (long_of word) (λ waiting. parts names waiting rest))
    else then_part (plain word) (parts names None rest)

-- at least one of the parts has this id
abbrev pub has_part : List ℕ → List Part → Bool
has_part id ps = list_any (λ p. bytes_eq (id_of p) id) ps

-- all parts have different ids, which also differ from the ids of earlier parts
abbrev pub fits : List Part → List Part → Bool
fits before [] = true
fits before (p ∷ ps) = not (has_part (id_of p) before) && fits (before ++ p ∷ []) ps

-- the words have parts, and these are accepted after the earlier parts
abbrev pub judged : List Part → Option (List Part) → Bool
judged before None = false
judged before (Some ps) = fits before ps

-- every word is UTF-8
abbrev pub AreTexts : List (List ℕ) → Type 0
AreTexts [] = ⊤
AreTexts (word ∷ words) = (is_utf8 word ≡ true) × AreTexts words

-- the earlier parts, followed by the others
abbrev pub gathered : List Part → Option (List Part) → List Part
gathered before None = before
gathered before (Some ps) = before ++ ps
