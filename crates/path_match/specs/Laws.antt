-- Laws of matching patterns against paths, and of parsing patterns.
use Rattle.std.specs.Prelude.{◌≡◌, ◌↔◌, ◌≢◌, ◌⊎◌, ℕ, List, [], ◌∷◌, length, true, All, codes, Ok}
use Rattle.std.specs.List.{join_with_byte, zip}
use Rattle.psi_base.specs.Path.{is_path}
use Rattle.path_match.specs.Match.{Pattern, components, is_match, pattern_text, patterns_of, patterns_text}
use Rattle.path_match.specs.Answers.{ArePatterns, Matches, MatchesComponent, MatchesSome}

-- ---- matching

-- The Boolean test `is_match` agrees with the relation `MatchesSome`: it is true if and only if at
-- least one pattern matches.
abbrev pub TestShows : Type 0
TestShows = (patterns : List Pattern) (path : List ℕ) → (is_match patterns path ≡ true) ↔ MatchesSome patterns path

-- The pattern `/`, which has no components, matches only the root.
abbrev pub RootAlone : Type 0
RootAlone = (path : List ℕ) → Matches [] path ↔ (path ≡ codes "/")

-- A path that is used as a pattern matches itself and no other path.
abbrev pub PathMatchesItself : Type 0
PathMatchesItself = (text path : List ℕ) → is_path text ≡ true → is_path path ≡ true → Matches (components text) path ↔ (path ≡ text)

-- The pattern component `*` matches every component of a path.
abbrev pub StarMatchesAny : Type 0
StarMatchesAny = (bytes : List ℕ) → MatchesComponent (codes "*") bytes

-- ---- parsing

-- `text` spells `pattern`: it is the text of the pattern, with or without a leading slash. The
-- root's pattern has only one spelling.
abbrev pub SpellsPattern : List ℕ → Pattern → Type 0
SpellsPattern text pattern = (text ≡ pattern_text pattern) ⊎ ((pattern ≢ []) × (text ≡ 47 ∷ pattern_text pattern))

-- `text` spells the list `patterns`: its parts between commas spell the patterns one by one.
pub record SpellsEach (text : List ℕ) (patterns : List Pattern) : Type 0 where
  pub parts : List (List ℕ)
  pub joined : text ≡ join_with_byte 44 parts
  pub as_many : length parts ≡ length patterns
  pub each : All (λ pair. SpellsPattern pair.0 pair.1) (zip parts patterns)

-- Parsing `text` succeeds with the result `patterns` if and only if `text` spells `patterns`, and
-- these are 1 to 16 well-formed patterns.
abbrev pub ReadsPatterns : Type 0
ReadsPatterns =
    (text : List ℕ) (patterns : List Pattern) → (patterns_of text ≡ Ok patterns) ↔ (ArePatterns patterns × SpellsEach text patterns)

-- Round trip: parsing the text of a list of patterns gives this list.
abbrev pub ReadAgain : Type 0
ReadAgain = (patterns : List Pattern) → ArePatterns patterns → patterns_of (patterns_text patterns) ≡ Ok patterns

-- A slash before the first component of a pattern doesn't change its components.
abbrev pub SlashIsFree : Type 0
SlashIsFree = (byte : ℕ) (bytes : List ℕ) → byte ≢ 47 → components (47 ∷ byte ∷ bytes) ≡ components (byte ∷ bytes)
