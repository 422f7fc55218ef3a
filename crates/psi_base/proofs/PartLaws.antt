-- Splitting bytes at a separator: the first part, and the rest after it.
use Rattle.std.proofs.Common.{◌≡◌, ◌≢◌, ℕ, zero, suc, add-one, ◌+◌, ◌<◌, List, [], ◌∷◌, ◌++◌, ◌≤◌, Bool, length, take, drop, get_or, refl, ap, ◌∙◌, arith, true, false}
use Rattle.std.specs.Prelude.{◌==◌, if◌then◌else◌}
use Rattle.psi_base.specs.Path.{parts_at, onto_first}

-- none of the first bytes, up to this number, is the separator `at`
abbrev pub HasNone : ℕ → List ℕ → ℕ → Type 0
HasNone at bytes n = (k : ℕ) → k < n → get_or bytes k 0 ≢ at

parts_at-same : (at : ℕ) (bytes : List ℕ) → parts_at at (at ∷ bytes) ≡ [] ∷ parts_at at bytes
unfolding parts_at
parts_at-same at bytes = grind arith

parts_at-other : (at byte : ℕ) (bytes : List ℕ) → byte ≢ at → parts_at at (byte ∷ bytes) ≡ onto_first byte (parts_at at bytes)
unfolding parts_at
parts_at-other at byte bytes other = grind arith

pub parts_at-all : (at : ℕ) (bytes : List ℕ) → HasNone at bytes (length bytes) → parts_at at bytes ≡ bytes ∷ []
unfolding parts_at
parts_at-all at [] none = refl
parts_at-all at (byte ∷ bytes) none =
    parts_at-other at byte bytes (none 0 (omega arith)) ∙ ap (onto_first byte) (parts_at-all at bytes (λ k below. none (suc k) (omega arith)))

parts_at-suc : (at i : ℕ) (bytes : List ℕ) → i < length bytes → get_or bytes i 0 ≡ at → HasNone at bytes i → parts_at at bytes ≡ take i bytes ∷ parts_at at (drop (suc i) bytes)
parts_at-suc at i [] inside found none = absurd (omega arith)
parts_at-suc at zero (byte ∷ bytes) inside found none = rw (found, parts_at-same at bytes) refl
parts_at-suc at (suc i) (byte ∷ bytes) inside found none =
    parts_at-other at byte bytes (none 0 (omega arith)) ∙ ap (onto_first byte) (parts_at-suc at i bytes (omega arith) found (λ k below. none (suc k) (omega arith)))

-- the parts are the bytes before the first separator, followed by the parts of the rest after it
pub parts_at-first : (at i : ℕ) (bytes rest : List ℕ) → i < length bytes → get_or bytes i 0 ≡ at → HasNone at bytes i → rest ≡ drop (i + 1) bytes → parts_at at bytes ≡ take i bytes ∷ parts_at at rest
parts_at-first at i bytes rest inside found none suffix = rw suffix (rw add-one (parts_at-suc at i bytes inside found none))

pub ruleset parts = (parts_at-all, parts_at-first)

-- the first part contains at least the n leading bytes, which have no separator
pub record HasPrefix (at n : ℕ) (bytes : List ℕ) : Type 0 where
  pub first : List ℕ
  pub rest : List (List ℕ)
  pub parts : parts_at at bytes ≡ first ∷ rest
  pub long : n ≤ length first

onto_prefix : (at byte n : ℕ) (bytes : List ℕ) → byte ≢ at → HasPrefix at n bytes → HasPrefix at (suc n) (byte ∷ bytes)
onto_prefix at byte n bytes other prefix = record {
  first = byte ∷ prefix.first;
  rest = prefix.rest;
  parts = parts_at-other at byte bytes other ∙ ap (onto_first byte) prefix.parts;
  long = omega (arith, prefix.long);
}

-- a list of parts isn't empty
abbrev pub HasFirst : List (List ℕ) → Type 0
HasFirst parts = (first : List ℕ) × (rest : List (List ℕ)) × (parts ≡ first ∷ rest)

first_if : (test : Bool) (byte : ℕ) (parts : List (List ℕ)) → HasFirst parts → HasFirst (if test then [] ∷ parts else onto_first byte parts)
first_if true byte parts has = ([], parts, refl)
first_if false byte parts has = (byte ∷ has.0, has.1, ap (onto_first byte) has.2)

pub first_part : (at : ℕ) (bytes : List ℕ) → HasFirst (parts_at at bytes)
unfolding parts_at
first_part at [] = ([], [], refl)
first_part at (byte ∷ bytes) = first_if (byte == at) byte (parts_at at bytes) (first_part at bytes)

some_prefix : (at : ℕ) (bytes : List ℕ) → HasPrefix at 0 bytes
some_prefix at bytes =
    let has = first_part at bytes in
    record { first = has.0; rest = has.1; parts = has.2; long = omega arith }

pub prefix_of : (at n : ℕ) (bytes : List ℕ) → n ≤ length bytes → HasNone at bytes n → HasPrefix at n bytes
prefix_of at zero bytes inside none = some_prefix at bytes
prefix_of at (suc n) [] inside none = absurd (omega arith)
prefix_of at (suc n) (byte ∷ bytes) inside none =
    onto_prefix at byte n bytes (none 0 (omega arith)) (prefix_of at n bytes (omega arith) (λ k below. none (suc k) (omega arith)))

-- splitting a line without separators, then a separator, then more bytes
pub parts_at-line : (at : ℕ) (line after : List ℕ) → HasNone at line (length line) → parts_at at (line ++ at ∷ after) ≡ line ∷ parts_at at after
parts_at-line at [] after none = parts_at-same at after
parts_at-line at (byte ∷ line) after none =
    parts_at-other at byte (line ++ at ∷ after) (none 0 (omega arith)) ∙ ap (onto_first byte) (parts_at-line at line after (λ k below. none (suc k) (omega arith)))
