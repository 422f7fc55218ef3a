-- Proofs about the walk over a component of a pattern. Its invariant: the rest of the pattern and
-- of the bytes determines whether the whole matches.
use Rattle.std.proofs.Common.{◌≡◌, ◌≢◌, ℕ, zero, suc, ◌+◌, ◌-◌, ◌<◌, ◌≤◌, List, [], ◌∷◌, length, drop, get_or, refl, sym, ap, ◌∙◌, arith, Bool, true, false, ⊎_elim, add-one}
use Rattle.std.specs.Prelude.{Option, None, Some, ◌==◌, ◌&&◌, ◌||◌, if◌then◌else◌}
use Rattle.std.specs.List.{list_all}
use Rattle.std.proofs.lemmas.Bool.{and_parts, or_cases, or_left, or_right, eq-eqb, ne_eqb, cases_lt}
use Rattle.std.proofs.lemmas.List.{drop_more, drop-drop, drop_all, length-drop, get_or-drop}
use Rattle.path_match.specs.Match.{is_component_match, some_end, begins}
use Rattle.path_match.specs.declared.component.LastStar.{LastStar}

-- if no byte remains, only stars may remain in the pattern
all_if : (test x y : Bool) → x ≡ y → (test && x) ≡ (if test then y else false)
all_if true x y same = same
all_if false x y same = refl

pub stars_left : (pattern : List ℕ) → list_all (λ c. c == 42) pattern ≡ is_component_match pattern []
stars_left [] = refl
stars_left (c ∷ pattern) = all_if (c == 42) (list_all (λ x. x == 42) pattern) (is_component_match pattern []) (stars_left pattern)

-- ---- suffixes of the bytes

or_same : (b : Bool) → b ≡ (b || b)
or_same true = refl
or_same false = refl

-- at least one suffix passes exactly if the whole passes, or a suffix of the bytes after the first
-- does
some_end-step : (test : List ℕ → Bool) (bytes : List ℕ) → some_end test bytes ≡ (test bytes || some_end test (drop 1 bytes))
some_end-step test [] = or_same (test [])
some_end-step test (byte ∷ bytes) = refl

some_end-here : (test : List ℕ → Bool) (bytes : List ℕ) → test bytes ≡ true → some_end test bytes ≡ true
some_end-here test bytes passes = some_end-step test bytes ∙ or_left (test bytes) (some_end test (drop 1 bytes)) passes

some_end-suffix : (test : List ℕ → Bool) (bytes : List ℕ) → some_end test (drop 1 bytes) ≡ true → some_end test bytes ≡ true
some_end-suffix test bytes passes = some_end-step test bytes ∙ or_right (test bytes) (some_end test (drop 1 bytes)) passes

-- a suffix of a suffix is a suffix
pub some_end-twice : (test : List ℕ → Bool) (bytes : List ℕ) → some_end (some_end test) bytes ≡ true → some_end test bytes ≡ true
some_end-twice test [] passes = passes
some_end-twice test (byte ∷ bytes) passes =
    ⊎_elim
    (λ here. here)
    (λ later. some_end-suffix test (byte ∷ bytes) (some_end-twice test bytes later))
    (or_cases (some_end test (byte ∷ bytes)) (some_end (some_end test) bytes) passes)

-- ---- bytes that aren't stars

-- none of the first `n` bytes of the pattern is a star
abbrev pub HasNoStar : ℕ → List ℕ → Type 0
HasNoStar n pattern = (k : ℕ) → k < n → get_or pattern k 0 ≢ 42

pub match_star : (c : ℕ) (pattern bytes : List ℕ) → c ≡ 42 → is_component_match (c ∷ pattern) bytes ≡ some_end (is_component_match pattern) bytes
match_star c pattern bytes is = rw (eq-eqb c 42 is) refl

pub match_byte : (c : ℕ) (pattern bytes : List ℕ) → c ≢ 42 → is_component_match (c ∷ pattern) bytes ≡ begins c (is_component_match pattern) bytes
match_byte c pattern bytes other = rw (ne_eqb c 42 other) refl

-- the first `n` bytes of the pattern, none of which is a star, match the same number of bytes
passed : (n : ℕ) (pattern bytes : List ℕ) → n ≤ length pattern → HasNoStar n pattern → is_component_match pattern bytes ≡ true →
    (n ≤ length bytes) × (is_component_match (drop n pattern) (drop n bytes) ≡ true)
passed zero pattern bytes inside none matched = (omega arith, matched)
passed (suc n) [] bytes inside none matched = absurd (omega arith)
passed (suc n) (c ∷ pattern) [] inside none matched = let other = match_byte c pattern [] (none 0 (omega arith)) in absurd cc
passed (suc n) (c ∷ pattern) (byte ∷ bytes) inside none matched =
    let both = and_parts (c == byte) (is_component_match pattern bytes) (sym (match_byte c pattern (byte ∷ bytes) (none 0 (omega arith))) ∙ matched) in
    let rest = passed n pattern bytes (omega arith) (λ k below. none (suc k) (omega arith)) both.1 in
    (omega (arith, rest.0), rest.1)

-- If a pattern that begins with `n` bytes other than stars matches a suffix of the bytes, the rest
-- of the pattern matches a suffix of the bytes after the first `n`.
some_passed : (n : ℕ) (pattern bytes : List ℕ) → n ≤ length pattern → HasNoStar n pattern → some_end (is_component_match pattern) bytes ≡ true →
    some_end (is_component_match (drop n pattern)) (drop n bytes) ≡ true
some_passed n pattern [] inside none matched =
    some_end-here (is_component_match (drop n pattern)) (drop n []) (passed n pattern [] inside none matched).1
some_passed n pattern (byte ∷ bytes) inside none matched =
    let test = is_component_match (drop n pattern) in
    ⊎_elim
    (λ here. some_end-here test (drop n (byte ∷ bytes)) (passed n pattern (byte ∷ bytes) inside none here).1)
    (λ later.
    let less : some_end test (drop n bytes) ≡ true = some_passed n pattern bytes inside none later in
    let same : drop 1 (drop n (byte ∷ bytes)) ≡ drop n bytes = drop-drop 1 n (byte ∷ bytes) ∙ rw add-one refl in
    some_end-suffix test (drop n (byte ∷ bytes)) (ap (some_end test) same ∙ less))
    (or_cases (is_component_match pattern (byte ∷ bytes)) (some_end (is_component_match pattern) bytes) matched)

-- ---- the steps of the walk

-- The state after a star was passed: the bytes of the pattern since the star aren't stars and match
-- the bytes after the star's run. The whole matches if the rest does, or if it does with a longer
-- run.
pub record AfterStar (pattern bytes : List ℕ) (at next suffix end : ℕ) : Type 0 where
  pub inside : suffix ≤ at
  pub as_many : end + (at - suffix) ≡ next
  pub none : HasNoStar (at - suffix) (drop suffix pattern)
  pub whole : is_component_match pattern bytes ≡ (is_component_match (drop at pattern) (drop next bytes) || some_end (is_component_match (drop suffix pattern)) (drop (end + 1) bytes))

-- the invariant of the walk: the rest at a step determines whether the whole matches
abbrev pub Walked : List ℕ → List ℕ → ℕ → ℕ → Option LastStar → Type 0
Walked pattern bytes at next None = is_component_match pattern bytes ≡ is_component_match (drop at pattern) (drop next bytes)
Walked pattern bytes at next (Some star) = AfterStar pattern bytes at next star.suffix star.end

or_absorbs : (x y : Bool) → (y ≡ true → x ≡ true) → (x || y) ≡ x
or_absorbs true y is = refl
or_absorbs false true is = sym (is refl)
or_absorbs false false is = refl

-- if the whole matches with a longer run, the rest matches a suffix of the remaining bytes
longer_run : (pattern bytes : List ℕ) (at next suffix end : ℕ) → AfterStar pattern bytes at next suffix end → at ≤ length pattern →
    some_end (is_component_match (drop suffix pattern)) (drop (end + 1) bytes) ≡ true → some_end (is_component_match (drop at pattern)) (drop next bytes) ≡ true
longer_run pattern bytes at next suffix end after within matched =
    let n = at - suffix in
    let prefix : n ≤ length (drop suffix pattern) = simp length-drop (omega (arith, after.inside)) in
    let rest : drop n (drop suffix pattern) ≡ drop at pattern = drop-drop n suffix pattern ∙ ap (λ k. drop k pattern) (let e : suffix + n ≡ at = omega (arith, after.inside) in e) in
    let ends : drop n (drop (end + 1) bytes) ≡ drop 1 (drop next bytes) =
    drop-drop n (end + 1) bytes ∙ ap (λ k. drop k bytes) (let e : end + 1 + n ≡ next + 1 = omega (arith, after.as_many) in e) ∙ sym (drop-drop 1 next bytes) in
    let some = some_passed n (drop suffix pattern) (drop (end + 1) bytes) prefix after.none matched in
    some_end-suffix (is_component_match (drop at pattern)) (drop next bytes) (rw (rest, ends) at some)

-- if the rest matches whenever it matches a suffix of the remaining bytes, the rest determines
-- whether the whole matches
pub settled : (pattern bytes : List ℕ) (at next : ℕ) (star : Option LastStar) → Walked pattern bytes at next star → at ≤ length pattern →
    (some_end (is_component_match (drop at pattern)) (drop next bytes) ≡ true → is_component_match (drop at pattern) (drop next bytes) ≡ true) →
    is_component_match pattern bytes ≡ is_component_match (drop at pattern) (drop next bytes)
settled pattern bytes at next None walked within same = walked
settled pattern bytes at next (Some star) walked within same =
    walked.whole ∙ or_absorbs (is_component_match (drop at pattern) (drop next bytes)) (some_end (is_component_match (drop star.suffix pattern)) (drop (star.end + 1) bytes))
    (λ longer. same (longer_run pattern bytes at next star.suffix star.end walked within longer))

-- if no byte remains, the walk ends with the right result
pub ended : (pattern bytes : List ℕ) (at next : ℕ) (star : Option LastStar) → Walked pattern bytes at next star → at ≤ length pattern → length bytes ≤ next →
    is_component_match pattern bytes ≡ is_component_match (drop at pattern) []
ended pattern bytes at next star walked within end =
    let none = drop_all next bytes end in
    let all = settled pattern bytes at next star walked within in
    (rw none at all) (λ matched. matched)

-- passing a star, with an empty run, preserves the invariant
pub star_passed : (pattern bytes : List ℕ) (at next : ℕ) (star : Option LastStar) → Walked pattern bytes at next star → at < length pattern → get_or pattern at 0 ≡ 42 →
    AfterStar pattern bytes (at + 1) next (at + 1) next
star_passed pattern bytes at next star walked inside is =
    let test = is_component_match (drop (at + 1) pattern) in
    let here : drop at pattern ≡ 42 ∷ drop (at + 1) pattern = drop_more pattern at 0 inside ∙ ap (λ c. c ∷ drop (at + 1) pattern) is in
    let all = settled pattern bytes at next star walked (omega arith) in
    let whole = (rw here at all) (some_end-twice test (drop next bytes)) in
    record {
      inside = omega arith;
      as_many = omega arith;
      none = λ k below. absurd (omega arith);
      whole = whole ∙ some_end-step test (drop next bytes) ∙ ap (λ rest. test (drop next bytes) || some_end test rest) (drop-drop 1 next bytes);
    }

-- a pattern byte other than a star matches the next byte, or the rest doesn't match
byte_left : (pattern bytes : List ℕ) (at next : ℕ) → at < length pattern → next < length bytes → get_or pattern at 0 ≢ 42 →
    is_component_match (drop at pattern) (drop next bytes) ≡ ((get_or pattern at 0 == get_or bytes next 0) && is_component_match (drop (at + 1) pattern) (drop (next + 1) bytes))
byte_left pattern bytes at next inside before other =
    rw (drop_more pattern at 0 inside, drop_more bytes next 0 before) (match_byte (get_or pattern at 0) (drop (at + 1) pattern) (get_or bytes next 0 ∷ drop (next + 1) bytes) other)

pub byte_matched : (pattern bytes : List ℕ) (at next : ℕ) → at < length pattern → next < length bytes → get_or pattern at 0 ≢ 42 → get_or pattern at 0 ≡ get_or bytes next 0 →
    is_component_match (drop at pattern) (drop next bytes) ≡ is_component_match (drop (at + 1) pattern) (drop (next + 1) bytes)
byte_matched pattern bytes at next inside before other same =
    byte_left pattern bytes at next inside before other ∙ ap (λ b. b && is_component_match (drop (at + 1) pattern) (drop (next + 1) bytes)) (eq-eqb (get_or pattern at 0) (get_or bytes next 0) same)

none_more : (n : ℕ) (pattern : List ℕ) → HasNoStar n pattern → get_or pattern n 0 ≢ 42 → HasNoStar (n + 1) pattern
none_more n pattern none other k below = ⊎_elim (λ less. none k less) (λ past. let same : k ≡ n = omega arith in rw same other) (cases_lt k n)

-- passing a byte preserves the invariant
pub byte_passed : (pattern bytes : List ℕ) (at next : ℕ) (star : Option LastStar) → Walked pattern bytes at next star → at < length pattern → next < length bytes → get_or pattern at 0 ≢ 42 →
    get_or pattern at 0 ≡ get_or bytes next 0 → Walked pattern bytes (at + 1) (next + 1) star
byte_passed pattern bytes at next None walked inside before other same = walked ∙ byte_matched pattern bytes at next inside before other same
byte_passed pattern bytes at next (Some star) walked inside before other same =
    let n = at - star.suffix in
    let place : star.suffix + n ≡ at = omega (arith, walked.inside) in
    let more : at + 1 - star.suffix ≡ n + 1 = omega (arith, walked.inside) in
    record {
      inside = omega (arith, walked.inside);
      as_many = omega (arith, walked.inside, walked.as_many);
      none = rw more (none_more n (drop star.suffix pattern) walked.none (rw (get_or-drop star.suffix pattern n 0, place) other));
      whole = walked.whole ∙ ap (λ b. b || some_end (is_component_match (drop star.suffix pattern)) (drop (star.end + 1) bytes)) (byte_matched pattern bytes at next inside before other same);
    }

-- no byte of the pattern remains, or the next byte of the pattern isn't a star and differs from the
-- next byte
abbrev pub Fails : List ℕ → List ℕ → ℕ → ℕ → Type 0
Fails pattern bytes at next = at < length pattern → (get_or pattern at 0 ≢ 42) × (get_or pattern at 0 ≢ get_or bytes next 0)

pub fails : (pattern bytes : List ℕ) (at next : ℕ) → next < length bytes → Fails pattern bytes at next → is_component_match (drop at pattern) (drop next bytes) ≡ false
fails pattern bytes at next before other = ⊎_elim
    (λ inside. byte_left pattern bytes at next inside before (other inside).0 ∙ ap (λ b. b && is_component_match (drop (at + 1) pattern) (drop (next + 1) bytes)) (ne_eqb (get_or pattern at 0) (get_or bytes next 0) (other inside).1))
    (λ past. rw (drop_all at pattern past, drop_more bytes next 0 before) refl)
    (cases_lt at (length pattern))

-- taking one more byte into the run of the last star preserves the invariant
pub run_grows : (pattern bytes : List ℕ) (at next suffix end : ℕ) → AfterStar pattern bytes at next suffix end → next < length bytes → Fails pattern bytes at next →
    AfterStar pattern bytes suffix (end + 1) suffix (end + 1)
run_grows pattern bytes at next suffix end after before other =
    let test = is_component_match (drop suffix pattern) in
    record {
      inside = omega arith;
      as_many = omega arith;
      none = λ k below. absurd (omega arith);
      whole = after.whole ∙ ap (λ b. b || some_end test (drop (end + 1) bytes)) (fails pattern bytes at next before other)
          ∙ some_end-step test (drop (end + 1) bytes) ∙ ap (λ rest. test (drop (end + 1) bytes) || some_end test rest) (drop-drop 1 (end + 1) bytes);
    }

-- ---- the number of steps

-- the index after the last star's run, or 0 before the first star
abbrev pub run_end : Option LastStar → ℕ
run_end None = 0
run_end (Some star) = star.end
