-- Proofs that the Boolean test of patterns agrees with the relation.
use Rattle.std.proofs.Common.{◌≡◌, ℕ, zero, suc, ◌<◌, List, [], ◌∷◌, ◌++◌, length, get_or, refl, sym, ap, ◌∙◌, arith, Bool, true, false, ⊎_elim, subst}
use Rattle.std.specs.Prelude.{◌==◌, ◌||◌, if◌then◌else◌, codes, All, MatchBool, IsTrue, ◌↔◌}
use Rattle.std.specs.Bool.{Decides}
use Rattle.std.specs.List.{list_any, zip}
use Rattle.std.specs.Str.{bytes_eq}
use Rattle.std.proofs.lemmas.Bool.{and_parts, and_from, or_cases, or_left, or_right, eq-eqb, eqb-true}
use Rattle.std.proofs.lemmas.List.{append-nil}
use Rattle.std.proofs.lemmas.Slice.Eq.{bytes_eq-Decides}
use Rattle.psi_base.specs.Path.{parts_at}
use Rattle.psi_base.proofs.PartLaws.{HasFirst, first_part}
use Rattle.path_match.specs.Match.{components, after_slash, some_end, begins, is_component_match, are_matches, is_match}
use Rattle.path_match.specs.Answers.{MatchesComponent, Matches, MatchesSome}
use Rattle.path_match.specs.Laws.{TestShows, RootAlone, StarMatchesAny}

-- ---- one component

-- at least one suffix of the bytes has the property
abbrev pub HasEnd : (List ℕ → Type 0) → List ℕ → Type 0
HasEnd P bytes = (run rest : List ℕ) × (bytes ≡ run ++ rest) × P rest

ends_of_none : (test : List ℕ → Bool) (P : List ℕ → Type 0) → ((bytes : List ℕ) → Decides (test bytes) (P bytes)) → (run rest : List ℕ) → [] ≡ run ++ rest → P rest → test [] ≡ true
ends_of_none test P shows [] rest is holds = (shows []).1 (subst P (sym is) holds)
ends_of_none test P shows (r ∷ run) rest is holds = absurd cc

ends_of_more : (test : List ℕ → Bool) (P : List ℕ → Type 0) → ((bytes : List ℕ) → Decides (test bytes) (P bytes)) → (byte : ℕ) (bytes : List ℕ) → (HasEnd P bytes → some_end test bytes ≡ true) →
    (run rest : List ℕ) → byte ∷ bytes ≡ run ++ rest → P rest → some_end test (byte ∷ bytes) ≡ true
ends_of_more test P shows byte bytes suffix [] rest is holds = or_left (test (byte ∷ bytes)) (some_end test bytes) ((shows (byte ∷ bytes)).1 (subst P (sym is) holds))
ends_of_more test P shows byte bytes suffix (r ∷ run) rest is holds = let same : bytes ≡ run ++ rest = cc in or_right (test (byte ∷ bytes)) (some_end test bytes) (suffix (run, rest, same, holds))

ends_show : (test : List ℕ → Bool) (P : List ℕ → Type 0) → ((bytes : List ℕ) → Decides (test bytes) (P bytes)) → (bytes : List ℕ) → Decides (some_end test bytes) (HasEnd P bytes)
ends_show test P shows [] = (λ passes. ([], [], refl, (shows []).0 passes), λ found. ends_of_none test P shows found.0 found.1 found.2 found.3)
ends_show test P shows (byte ∷ bytes) =
    let suffix = ends_show test P shows bytes in (
      λ passes. ⊎_elim
          (λ here. ([], byte ∷ bytes, refl, (shows (byte ∷ bytes)).0 here))
          (λ later. let found = suffix.0 later in (byte ∷ found.0, found.1, ap (λ bs. byte ∷ bs) found.2, found.3))
          (or_cases (test (byte ∷ bytes)) (some_end test bytes) passes),
      λ found. ends_of_more test P shows byte bytes suffix.1 found.0 found.1 found.2 found.3,
    )

begins_show : (c : ℕ) (test : List ℕ → Bool) (P : List ℕ → Type 0) → ((bytes : List ℕ) → Decides (test bytes) (P bytes)) → (bytes : List ℕ) → Decides (begins c test bytes) ((rest : List ℕ) × (bytes ≡ c ∷ rest) × P rest)
begins_show c test P shows [] = (λ passes. absurd cc, λ found. let is = found.1 in absurd cc)
begins_show c test P shows (byte ∷ bytes) = (
  λ passes.
      let both = and_parts (c == byte) (test bytes) passes in
      (bytes, ap (λ b. b ∷ bytes) (sym (eqb-true c byte both.0)), (shows bytes).0 both.1),
  λ found.
      let is = found.1 in
      let first : c ≡ byte = cc in
      let rest : found.0 ≡ bytes = cc in
      and_from (c == byte) (test bytes) (eq-eqb c byte first) ((shows bytes).1 (subst P rest found.2)),
)

choice_shows : (test x y : Bool) (P Q : Type 0) → Decides x P → Decides y Q → Decides (if test then x else y) (MatchBool test P Q)
choice_shows true x y P Q first second = first
choice_shows false x y P Q first second = second

pub component_shows : (pattern bytes : List ℕ) → Decides (is_component_match pattern bytes) (MatchesComponent pattern bytes)
component_shows [] [] = (λ passes. refl, λ is. refl)
component_shows [] (byte ∷ bytes) = (λ passes. absurd cc, λ is. absurd cc)
component_shows (c ∷ pattern) bytes =
    let test = is_component_match pattern in
    let P = MatchesComponent pattern in
    choice_shows (c == 42) (some_end test bytes) (begins c test bytes) (HasEnd P bytes) ((rest : List ℕ) × (bytes ≡ c ∷ rest) × P rest)
    (ends_show test P (component_shows pattern) bytes) (begins_show c test P (component_shows pattern) bytes)

-- ---- one pattern

-- the same number of components, each of which matches
abbrev pub EachMatched : List (List ℕ) → List (List ℕ) → Type 0
EachMatched pattern parts = (length pattern ≡ length parts) × All (λ pair. MatchesComponent pair.0 pair.1) (zip pattern parts)

pub all_cons : {X : Type 0} (P : X → Type 0) (x : X) (xs : List X) → P x → All P xs → All P (x ∷ xs)
all_cons P x xs first rest zero d below = first
all_cons P x xs first rest (suc k) d below = rest k d (omega arith)

pub parts_show : (pattern parts : List (List ℕ)) → Decides (are_matches pattern parts) (EachMatched pattern parts)
parts_show [] [] = (λ passes. (refl, λ k d below. absurd (omega arith)), λ each. refl)
parts_show [] (part ∷ parts) = (λ passes. absurd cc, λ each. absurd (omega (arith, each.0)))
parts_show (component ∷ pattern) [] = (λ passes. absurd cc, λ each. absurd (omega (arith, each.0)))
parts_show (component ∷ pattern) (part ∷ parts) =
    let rest = parts_show pattern parts in
    let P : List ℕ × List ℕ → Type 0 = λ pair. MatchesComponent pair.0 pair.1 in (
      λ passes.
          let both = and_parts (is_component_match component part) (are_matches pattern parts) passes in
          let suffix = rest.0 both.1 in
          (omega (arith, suffix.0), all_cons P (component, part) (zip pattern parts) ((component_shows component part).0 both.0) suffix.1),
      λ each.
          and_from (is_component_match component part) (are_matches pattern parts)
          ((component_shows component part).1 (each.1 0 (component, part) (omega arith)))
          (rest.1 (omega (arith, each.0), λ k d below. each.1 (suc k) d (omega arith))),
    )

pub pattern_shows : (pattern : List (List ℕ)) (path : List ℕ) → Decides (are_matches pattern (components path)) (Matches pattern path)
pattern_shows pattern path =
    let shows = parts_show pattern (components path) in (
      λ passes. let each = shows.0 passes in record { equally_many = each.0; each = each.1 },
      λ matches. shows.1 (matches.equally_many, matches.each),
    )

-- ---- several patterns

some_at : (pattern : List (List ℕ)) (patterns : List (List (List ℕ))) (path : List ℕ) → (MatchesSome patterns path → list_any (λ p. are_matches p (components path)) patterns ≡ true) →
    (k : ℕ) (one : List (List ℕ)) → k < length (pattern ∷ patterns) → get_or (pattern ∷ patterns) k one ≡ one → Matches one path →
    (are_matches pattern (components path) || list_any (λ p. are_matches p (components path)) patterns) ≡ true
some_at pattern patterns path suffix zero one below is matches =
    or_left (are_matches pattern (components path)) (list_any (λ p. are_matches p (components path)) patterns) ((pattern_shows pattern path).1 (subst (λ (p : List (List ℕ)). Matches p path) (sym is) matches))
some_at pattern patterns path suffix (suc k) one below is matches =
    or_right (are_matches pattern (components path)) (list_any (λ p. are_matches p (components path)) patterns) (suffix (k, one, omega arith, is, matches))

some_shows : (patterns : List (List (List ℕ))) (path : List ℕ) → Decides (list_any (λ pattern. are_matches pattern (components path)) patterns) (MatchesSome patterns path)
some_shows [] path = (λ passes. absurd cc, λ some. let below = some.2 in absurd (omega arith))
some_shows (pattern ∷ patterns) path =
    let test : List (List ℕ) → Bool = λ p. are_matches p (components path) in
    let rest = some_shows patterns path in (
      λ passes. ⊎_elim
          (λ here. (0, pattern, omega arith, refl, (pattern_shows pattern path).0 here))
          (λ later. let some = rest.0 later in (suc some.0, some.1, omega (arith, some.2), some.3, some.4))
          (or_cases (test pattern) (list_any test patterns) passes),
      λ some. some_at pattern patterns path rest.1 some.0 some.1 some.2 some.3 some.4,
    )

pub test_shows : TestShows
unfolding is_match
test_shows patterns path = some_shows patterns path

-- ---- the root

root_if : (test : Bool) (parts : List (List ℕ)) → HasFirst parts → are_matches [] (if test then [] else parts) ≡ test
root_if true parts has = refl
root_if false parts has = rw has.2 refl

-- the root's pattern matches only the root
pub root_matches : (path : List ℕ) → are_matches [] (components path) ≡ bytes_eq path (codes "/")
unfolding components
root_matches path = root_if (bytes_eq path (codes "/")) (parts_at 47 (after_slash path)) (first_part 47 (after_slash path))

missed_if : (test : Bool) (parts : List (List ℕ)) → HasFirst parts → are_matches (if test then [] else parts) [] ≡ test
missed_if true parts has = refl
missed_if false parts has = rw has.2 refl

-- only the root's pattern matches the root
pub root_matched : (pattern : List ℕ) → are_matches (components pattern) [] ≡ bytes_eq pattern (codes "/")
unfolding components
root_matched pattern = missed_if (bytes_eq pattern (codes "/")) (parts_at 47 (after_slash pattern)) (first_part 47 (after_slash pattern))

pub root_alone : RootAlone
root_alone path =
    let shows = pattern_shows [] path in
    let same = bytes_eq-Decides path (codes "/") in
    (λ matches. same.0 (sym (root_matches path) ∙ shows.1 matches), λ is. shows.0 (root_matches path ∙ same.1 is))

pub components-root : components (codes "/") ≡ []
unfolding components
components-root = refl

-- the result of the test says whether at least one pattern matches
pub known : (result : Bool) (patterns : List (List (List ℕ))) (path : List ℕ) → result ≡ is_match patterns path → IsTrue result ↔ MatchesSome patterns path
known result patterns path is =
    let shows = test_shows patterns path in
    (λ yes. shows.0 (sym is ∙ yes), λ some. is ∙ shows.1 some)

pub star_matches_any : StarMatchesAny
star_matches_any bytes = (bytes, [], sym (append-nil bytes), refl)
