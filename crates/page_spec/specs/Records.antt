-- The records of a page. The format is defined by `include/linux/ring_buffer.h` and
-- `kernel/trace/ring_buffer.c` of Linux.
use Rattle.std.specs.Prelude.{ℕ, zero, suc, ◌+◌, ◌-◌, ◌*◌, ◌/◌, ◌%◌, ◌^◌, List, [], ◌∷◌, length, take, drop, nat_lt, nat_le, ◌==◌, ◌&&◌, if◌then◌else◌, Option, None, Some}
use Rattle.page_spec.specs.Fields.{long_of, word_of}

-- The record of an event: the offset (bytes) of its first header word in the page, its time (ns),
-- and its bytes without the header of the record.
pub record Record : Type 0 where
  pub byte : ℕ
  pub time : ℕ
  pub bytes : List ℕ

-- The record at the offset `byte` of a page, with this time (ns) and these bytes.
abbrev pub record_at : ℕ → ℕ → List ℕ → Record
record_at byte time bytes = record { byte = byte; time = time; bytes = bytes }

-- The result of one step through the records of a page. `Ends`: the page has no further record.
-- `Skips`: the step skipped bytes without an event. The arguments are the new time (ns) and the
-- remaining bytes. `Gives`: the step found the record of an event. The arguments are the record and
-- the remaining bytes.
pub data Step : Type 0 where
  Ends : Step
  Skips : ℕ → List ℕ → Step
  Gives : Record → List ℕ → Step

-- A time (ns) reduced to 64 bits, as in the kernel.
abbrev pub wrapped : ℕ → ℕ
wrapped time = time % 2 ^ 64

-- The time (ns) whose lower 59 bits are `low` and whose higher bits are those of `time`.
abbrev pub time_with : ℕ → ℕ → ℕ
time_with time low = time / 2 ^ 59 * 2 ^ 59 + low

-- The step at a record header whose type `kind` is 0 or at least 29. `byte` is the offset of the
-- header in the page, `time` (ns) is the time of the previous record, `amount` is the time
-- difference (ns), or its lower 27 bits if the type is at least 30, `after` are the bytes after the
-- first header word, and `more` is the second header word. Type 0: an event whose length (bytes) is
-- `more`, including the second header word. Type 29: padding of `more` bytes, or the end of the
-- page if `amount` is 0. Type 30: a long time difference, with `more` as its higher bits. Any other
-- type: an absolute time.
abbrev pub long_step : ℕ → ℕ → ℕ → ℕ → ℕ → List ℕ → Step
long_step byte time kind amount more after =
    if kind == 0 then Gives (record_at byte (wrapped (time + amount)) (take (more - 4) (drop 4 after))) (drop more after)
    else if kind == 29 then (if amount == 0 then Ends else Skips (wrapped (time + amount)) (drop more after))
    else if kind == 30 then Skips (wrapped (time + (amount + more * 2 ^ 27))) (drop 4 after)
    else Skips (time_with time (amount + more * 2 ^ 27)) (drop 4 after)

-- The step at a record header with type `kind` and time difference `amount` (ns). `byte` is the
-- offset of the header in the page, `time` (ns) is the time of the previous record, and `after` are
-- the bytes after the first header word. A type from 1 to 28 is the length of an event in words of
-- four bytes. `long_step` defines the other types.
abbrev pub kind_step : ℕ → ℕ → ℕ → ℕ → List ℕ → Step
kind_step byte time kind amount after =
    if nat_lt 0 kind && nat_lt kind 29 then Gives (record_at byte (wrapped (time + amount)) (take (4 * kind) after)) (drop (4 * kind) after)
    else if nat_lt (length after) 4 then Ends
    else long_step byte time kind amount (word_of after) after

-- The step at the beginning of the bytes `rest`, which end at the offset `end` of the page. `time`
-- (ns) is the time of the previous record. The lower 5 bits of the first header word are the type,
-- and its other bits are the time difference (ns).
unfoldable pub step_at : ℕ → ℕ → List ℕ → Step
step_at end time rest =
    if nat_lt (length rest) 4 then Ends
    else kind_step (end - length rest) time (word_of rest % 32) (word_of rest / 32) (drop 4 rest)

-- The records that a step and all later steps find. `following` returns the records of the later
-- steps, for the time (ns) and the bytes after this step.
abbrev pub walked : (ℕ → List ℕ → List Record) → Step → List Record
walked following Ends = []
walked following (Skips time rest) = following time rest
walked following (Gives found rest) = found ∷ following found.time rest

-- The records in the bytes `rest` after time `time` (ns). The bytes end at the offset `end` of the
-- page. The first argument is the maximum number of steps.
unfoldable pub records_from : ℕ → ℕ → ℕ → List ℕ → List Record
records_from zero end time rest = []
records_from (suc steps) end time rest = walked (records_from steps end) (step_at end time rest)

-- The records in the bytes `rest` after time `time` (ns). The bytes end at the offset `end` of the
-- page. Each step consumes at least four bytes, so the number of bytes is a sufficient number of
-- steps.
abbrev pub records_after : ℕ → ℕ → List ℕ → List Record
records_after end time rest = records_from (length rest) end time rest

-- ---- the header

-- The time (ns) in the header of a page, from which the time of the first record is computed.
abbrev pub page_time : List ℕ → ℕ
page_time page = long_of page

-- The word in the header of a page that contains the number of bytes of records, and two flags.
abbrev pub commit_of : List ℕ → ℕ
commit_of page = word_of (drop 8 page)

-- The number of bytes of the records of a page.
abbrev pub used_of : List ℕ → ℕ
used_of page = commit_of page % 2 ^ 30

-- The number of events that were lost before a page, or `None` if no event was lost. Bit 31 of
-- `flags` means that events were lost. Bit 30 means that their number is stored at offset `end`,
-- after the records. A number of 0 means that the number is unknown.
abbrev pub lost_in : ℕ → ℕ → List ℕ → Option ℕ
lost_in flags end page =
    if flags / 2 ^ 31 % 2 == 0 then None
    else if flags / 2 ^ 30 % 2 == 1 && nat_le (end + 8) (length page) then Some (long_of (drop end page))
    else Some 0

-- The number of events that were lost before a page whose header has `header` bytes, or `None` if
-- no event was lost.
abbrev pub lost_before : ℕ → List ℕ → Option ℕ
lost_before header page = lost_in (commit_of page) (header + used_of page) page

-- The records of a page whose header has `header` bytes.
abbrev pub records_of : ℕ → List ℕ → List Record
records_of header page = records_after (header + used_of page) (page_time page) (take (used_of page) (drop header page))
