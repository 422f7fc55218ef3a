-- Defines when a pattern matches a path, component by component, and which lists of patterns a
-- rules file may contain.
use Rattle.std.specs.Prelude.{◌≡◌, ℕ, ◌≤◌, List, [], ◌∷◌, ◌++◌, length, ◌==◌, true, All, Any, MatchBool}
use Rattle.std.specs.List.{list_all, zip}
use Rattle.path_match.specs.Match.{Pattern, components, is_pattern_component}

-- A component of a pattern (the first argument) matches a component of a path. A star matches zero
-- or more bytes, and any other byte matches itself.
abbrev pub MatchesComponent : List ℕ → List ℕ → Type 0
MatchesComponent [] bytes = bytes ≡ []
MatchesComponent (c ∷ pattern) bytes = MatchBool (c == 42)
    ((run rest : List ℕ) × (bytes ≡ run ++ rest) × MatchesComponent pattern rest)
    ((rest : List ℕ) × (bytes ≡ c ∷ rest) × MatchesComponent pattern rest)

-- A pattern matches a path: both have the same number of components, and each component of the
-- pattern matches the path's component at its position.
pub record Matches (pattern : Pattern) (path : List ℕ) : Type 0 where
  pub equally_many : length pattern ≡ length (components path)
  pub each : All (λ pair. MatchesComponent pair.0 pair.1) (zip pattern (components path))

-- At least one of the patterns matches the path.
abbrev pub MatchesSome : List Pattern → List ℕ → Type 0
MatchesSome patterns path = Any (λ pattern. Matches pattern path) patterns

-- The list has 1 to 16 patterns, and all components of the patterns are well formed.
pub record ArePatterns (patterns : List Pattern) : Type 0 where
  pub some : 1 ≤ length patterns
  pub few : length patterns ≤ 16
  pub formed : list_all (λ pattern. list_all is_pattern_component pattern) patterns ≡ true
