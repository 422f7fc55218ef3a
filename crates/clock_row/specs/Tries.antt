-- Defines how many attempts a reader needed for a sequence of samples. An attempt fails if the
-- writer changes the seqlock while the reader loads a clock.
use Rattle.std.specs.Prelude.{◌≡◌, ◌⊎◌, ℕ, ◌+◌, ◌-◌, ◌≤◌, List, [], ◌∷◌, ◌++◌, length}
use Rattle.clock_row.specs.declared.view.ReaderView.{ReaderView}

-- Returns the number of finished attempts of a reader: the successful attempts plus the attempts
-- that failed because of a change.
abbrev pub tries_of : ReaderView → ℕ
tries_of reader = reader.met + length reader.got

-- `Tried counts last got met`: a reader takes samples after a sample with `last` changes. `counts`
-- has the number of changes in each sample, and `got` has this number for each successful attempt.
-- `met` is the number of attempts that fail because of a change. Each sample either comes from the
-- next successful attempt, or repeats the previous sample after eight failed attempts.
abbrev pub Tried : List ℕ → ℕ → List ℕ → ℕ → Type 0
Tried [] last got met = got ≡ []
Tried (count ∷ counts) last got met =
    ((rest : List ℕ) × (got ≡ count ∷ rest) × Tried counts count rest met)
    ⊎ ((count ≡ last) × (8 ≤ met) × Tried counts last got (met - 8))

-- `IsTried counts last before after`: a reader took samples while its view went from `before` to
-- `after`. `counts` has the number of changes in each sample, and `last` is the number in the
-- sample before them.
abbrev pub IsTried : List ℕ → ℕ → ReaderView → ReaderView → Type 0
IsTried counts last before after =
    (got : List ℕ) × (met : ℕ) × (after.got ≡ before.got ++ got) × (after.met ≡ before.met + met) × Tried counts last got met
