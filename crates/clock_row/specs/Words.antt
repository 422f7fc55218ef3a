-- Defines the words of a seqlock after its sequence number (nine for each slot), and the words that
-- a reader has loaded.
use Rattle.std.specs.Prelude.{◌≡◌, ◌⊎◌, ℕ, ◌+◌, ◌*◌, ◌<◌, ◌≤◌, List, [], ◌∷◌, length, take, drop, slice_index, slice_index_or}
use Rattle.psi_counts.specs.Clock.{AreWordsOfClock, ClockView, words_of, zero_clock}
use Rattle.plan_laws.specs.Plan.{IsClock, PlanView}

-- ---- the words of a slot

-- `words_at body slot`: the nine words of the slot. `body` has the words of a seqlock after its
-- sequence number.
abbrev pub words_at : List ℕ → ℕ → List ℕ
words_at body slot = take 9 (drop (9 * slot) body)

-- `mask_at body slot`: the mask of the slot (the set of states), which follows the slot's seven
-- times.
abbrev pub mask_at : List ℕ → ℕ → ℕ
mask_at body slot = slice_index body (9 * slot + 7)

-- `AreClock plan slot k words`: the nine words represent the clock of the slot after the first k
-- changes of the plan.
abbrev pub AreClock : PlanView → ℕ → ℕ → List ℕ → Type 0
AreClock plan slot k words = (clock : ClockView) × (words ≡ words_of clock) × IsClock clock plan slot k

-- `AreClockWords plan k body`: `body` has nine words for each slot of the plan, and they represent
-- the slot's clock after the first k changes.
pub record AreClockWords (plan : PlanView) (k : ℕ) (body : List ℕ) : Type 0 where
  pub wide : length body ≡ 9 * length plan.parents
  pub each : (slot : ℕ) → slot < length plan.parents → AreClock plan slot k (words_at body slot)

-- ---- the words during a change

-- `StayByMask plan before after`: each slot whose mask didn't change has the same nine words before
-- and after.
abbrev pub StayByMask : PlanView → List ℕ → List ℕ → Type 0
StayByMask plan before after =
    (slot : ℕ) → slot < length plan.parents → mask_at after slot ≡ mask_at before slot → words_at after slot ≡ words_at before slot

-- `StaysOrTurns plan k slot before after`: either the words of the slot are unchanged, or its mask
-- changed and the words represent the slot's clock after k changes.
abbrev pub StaysOrTurns : PlanView → ℕ → ℕ → List ℕ → List ℕ → Type 0
StaysOrTurns plan k slot before after =
    (words_at after slot ≡ words_at before slot) ⊎ ((mask_at after slot ≡ mask_at before slot → ⊥)
    × AreClock plan slot k (words_at after slot))

-- `AreOnTheWay plan k body`: `body` has nine words for each slot while change k + 1 is in progress.
-- The words of each slot represent the slot's clock after k changes or after k + 1 changes.
pub record AreOnTheWay (plan : PlanView) (k : ℕ) (body : List ℕ) : Type 0 where
  pub wide : length body ≡ 9 * length plan.parents
  pub each : (slot : ℕ) → slot < length plan.parents
      → AreClock plan slot k (words_at body slot) ⊎ AreClock plan slot (k + 1) (words_at body slot)

-- `GoesOn plan k before after`: part of change k + 1 was stored. The words of each slot are
-- unchanged or represent a clock after the change. If the words of a slot already represented its
-- clock after the change, they still do.
pub record GoesOn (plan : PlanView) (k : ℕ) (before after : List ℕ) : Type 0 where
  pub each : (slot : ℕ) → slot < length plan.parents → StaysOrTurns plan (k + 1) slot before after
  pub done : (slot : ℕ) → slot < length plan.parents → AreClock plan slot (k + 1) (words_at before slot)
      → AreClock plan slot (k + 1) (words_at after slot)

-- `ArePut from count words before after`: the first `count` words of `words` were stored, starting
-- at index `from`. All other words are unchanged.
pub record ArePut (from count : ℕ) (words before after : List ℕ) : Type 0 where
  pub wide : length after ≡ length before
  pub inside : (i : ℕ) → i < count → slice_index after (from + i) ≡ slice_index words i
  pub outside : (place : ℕ) → (place < from) ⊎ (from + count ≤ place) → slice_index after place ≡ slice_index before place

-- ---- the words that a reader loaded

-- `Agrees body loaded`: each value that a reader loaded equals the word at the same index in
-- `body`.
abbrev pub Agrees : List ℕ → List (ℕ × ℕ) → Type 0
Agrees body [] = Unit {0}
Agrees body (loaded ∷ more) = (slice_index body loaded.0 ≡ loaded.1) × Agrees body more

-- `StoodTogether plan k loaded`: there is a list of words that contains all loaded values and
-- represents the clocks after the first k changes.
abbrev pub StoodTogether : PlanView → ℕ → List (ℕ × ℕ) → Type 0
StoodTogether plan k loaded = (body : List ℕ) × AreClockWords plan k body × Agrees body loaded

-- `StaysLoaded before after`: the values loaded before are among the values loaded after. Formally,
-- all words that agree with `after` also agree with `before`.
abbrev pub StaysLoaded : List (ℕ × ℕ) → List (ℕ × ℕ) → Type 0
StaysLoaded before after = (body : List ℕ) → Agrees body after → Agrees body before

-- `WereLoaded loaded from count words`: the first `count` words of `words` were loaded, starting at
-- index `from`. Formally, they are the words at that index in each `body` that agrees with the
-- loaded values.
abbrev pub WereLoaded : List (ℕ × ℕ) → ℕ → ℕ → List ℕ → Type 0
WereLoaded loaded from count words =
    (body : List ℕ) → Agrees body loaded → (i : ℕ) → i < count → slice_index words i ≡ slice_index body (from + i)

-- `ClockWasLoaded loaded slot clock`: if the words of the slot represent a clock, the nine words of
-- `clock` were loaded from the slot.
abbrev pub ClockWasLoaded : List (ℕ × ℕ) → ℕ → ClockView → Type 0
ClockWasLoaded loaded slot clock =
    (body : List ℕ) → Agrees body loaded → AreWordsOfClock (words_at body slot) → words_of clock ≡ words_at body slot

-- `ClocksWereLoaded loaded count clocks`: `ClockWasLoaded` holds for each of the first `count`
-- slots and its clock in `clocks`.
abbrev pub ClocksWereLoaded : List (ℕ × ℕ) → ℕ → List ClockView → Type 0
ClocksWereLoaded loaded count clocks = (slot : ℕ) → slot < count → ClockWasLoaded loaded slot (slice_index_or clocks slot zero_clock)
