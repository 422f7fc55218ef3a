-- Defines the result of searching for the next record of a page.
use Rattle.std.specs.Prelude.{◌≡◌, ℕ, List, [], ◌∷◌, MatchOption}
use Rattle.page_spec.specs.Records.{record_at, records_after}
use Rattle.page_events.specs.declared.records.Walked.{Walked}

-- `WalksTo end time rest walk`: `walk` is the result of searching for the next record in the bytes
-- `rest`, which end at the offset `end` of the page. `time` (ns) is the time before these bytes. If
-- a record is found, `walk` has its offset and its bytes, and the time and the bytes after it. If
-- no record is found, no bytes remain.
abbrev pub WalksTo : ℕ → ℕ → List ℕ → Walked → Type 0
WalksTo end time rest walk = MatchOption walk.found
    ((records_after end time rest ≡ []) × (walk.rest.now ≡ []))
    (λ bytes. records_after end time rest ≡ record_at walk.byte walk.time bytes.now ∷ records_after end walk.time walk.rest.now)
