-- Defines the result of reading the next line of a file. It is a line or a fault, and follows from
-- the file's bytes and from the reads.
use Rattle.std.specs.Prelude.{◌≡◌, ℕ, ◌+◌, ◌-◌, ◌*◌, List, [], ◌++◌, drop, take, length, ◌<◌, ◌≤◌, ◌⊎◌, slice_index, Option, None, Some, Result, Ok, Err, IsErrOf, Bool, true, false, ⊤}
use Rattle.outside.specs.Outside.{ShelfCounts, HasCauses}
use Rattle.psi_lines.specs.Lines.{Reader, HasNoNewline, left, BeginsWithLine, IsTooLong, IsCut}
use Rattle.outside.specs.Reads.{Progress, after_read}
use Rattle.outside.specs.Reads.Progress.{Next, Over}
use Rattle.outside.specs.declared.shelf.ShelfFault.{ShelfFault}
use Rattle.outside.specs.declared.shelf.ShelfFault.TheVariants as shelf
use Rattle.psi_lines.specs.declared.lines.Line.{Line}
use Rattle.psi_lines.specs.declared.lines.LineFault.{LineFault}
use Rattle.psi_lines.specs.declared.lines.LineFault.TheVariants.{TooLong, Cut, NoFile, ReadFault, NoMemory}

-- `NextOf bytes old new result`: the result of reading the next line of a file with these bytes.
-- `old` and `new` are the reader before and after. A read can fail only if no complete line is
-- buffered.
abbrev pub NextOf : List ℕ → Reader → Reader → Result (Option Line) LineFault → Type 0
NextOf bytes old new (Ok (Some line)) = BeginsWithLine (left old bytes) line.bytes (left new bytes) × (line.number ≡ old.number)
NextOf bytes old new (Ok None) = (left old bytes ≡ []) × (left new bytes ≡ [])
NextOf bytes old new (Err (TooLong number)) = IsTooLong (left old bytes) × (number ≡ old.number) × (left new bytes ≡ left old bytes)
NextOf bytes old new (Err (Cut number)) = IsCut (left old bytes) × (number ≡ old.number) × (left new bytes ≡ left old bytes)
NextOf bytes old new (Err NoFile) = left new bytes ≡ left old bytes
NextOf bytes old new (Err ReadFault) = (left new bytes ≡ left old bytes) × HasNoNewline new.buffered (length new.buffered)
NextOf bytes old new (Err (NoMemory _)) = left new bytes ≡ left old bytes

-- `number_after number result`: the number of the next line after this result. It is `number + 1`
-- if a line was returned, and `number` if not.
abbrev pub number_after : ℕ → Result (Option Line) LineFault → ℕ
number_after number (Ok (Some line)) = number + 1
number_after number (Ok None) = number
number_after number (Err fault) = number

-- `FillsBytes bytes at old new n`: a read of `n` bytes at offset `at` extended the buffered bytes
-- from `old` to `new`. The concatenation of the buffered bytes and the unread bytes of the file is
-- unchanged. `n` is 0 only at the end of the file.
pub record FillsBytes (bytes : List ℕ) (at : ℕ) (old new : List ℕ) (n : ℕ) : Type 0 where
  pub left : new ++ drop (at + n) bytes ≡ old ++ drop at bytes
  pub end : n ≡ 0 → drop at bytes ≡ []

-- Converts a fault of the file store to the corresponding fault of the reader.
abbrev pub read_fault : ShelfFault → LineFault
read_fault shelf.NoFile = NoFile
read_fault shelf.Failed = ReadFault

-- `progress_by_fault at fault`: how far the file was read, if the read ended with this fault. `at`
-- is the offset of the next read.
abbrev pub progress_by_fault : ℕ → LineFault → Progress
progress_by_fault at (TooLong number) = Next at
progress_by_fault at (Cut number) = Over None
progress_by_fault at NoFile = Over (Some shelf.NoFile)
progress_by_fault at ReadFault = Over (Some shelf.Failed)
progress_by_fault at (NoMemory _) = Next at

-- `progress_by_read at result`: how far the file was read after a single read at offset `at`.
abbrev pub progress_by_read : ℕ → Result ℕ LineFault → Progress
progress_by_read at (Ok n) = after_read at (Ok n)
progress_by_read at (Err fault) = progress_by_fault at fault

-- `progress_by_line at result`: how far the file was read after a call that returns a line. `at` is
-- the offset of the next read.
abbrev pub progress_by_line : {T : Type 0} → ℕ → Result (Option T) LineFault → Progress
progress_by_line at (Ok (Some line)) = Next at
progress_by_line at (Ok None) = Over None
progress_by_line at (Err fault) = progress_by_fault at fault

-- `progress_by_end at result`: how far the file was read after a test for its end. `at` is the
-- offset of the next read.
abbrev pub progress_by_end : ℕ → Result Bool LineFault → Progress
progress_by_end at (Ok true) = Over None
progress_by_end at (Ok false) = Next at
progress_by_end at (Err fault) = progress_by_fault at fault

-- `CausesFault before now result`: the file store counted a failed read or a missing file if and
-- only if `result` reports it.
abbrev pub CausesFault : {T : Type 0} → ShelfCounts → ShelfCounts → Result T LineFault → Type 0
CausesFault before now result =
    HasCauses before now (IsErrOf result ReadFault) (IsErrOf result NoFile)

-- `IsReadFault result` holds if a single read can have this result: a value, `NoFile` or
-- `ReadFault`.
abbrev pub IsReadFault : {T : Type 0} → Result T LineFault → Type 0
IsReadFault (Ok value) = ⊤
IsReadFault (Err (TooLong number)) = ⊥
IsReadFault (Err (Cut number)) = ⊥
IsReadFault (Err NoFile) = ⊤
IsReadFault (Err ReadFault) = ⊤
IsReadFault (Err (NoMemory _)) = ⊥

-- `IsMissing result` holds if the result is possible for a file that doesn't exist: `NoFile`,
-- `ReadFault` or `NoMemory`.
abbrev pub IsMissing : {T : Type 0} → Result T LineFault → Type 0
IsMissing (Ok value) = ⊥
IsMissing (Err (TooLong number)) = ⊥
IsMissing (Err (Cut number)) = ⊥
IsMissing (Err NoFile) = ⊤
IsMissing (Err ReadFault) = ⊤
IsMissing (Err (NoMemory _)) = ⊤

-- `ReadsOn buffered at held_now at_now`: reads appended bytes to the buffered bytes `buffered`,
-- which are `held_now` after the reads. The reads advanced the offset from `at` to `at_now`, by the
-- number of appended bytes.
pub record ReadsOn (buffered : List ℕ) (at : ℕ) (held_now : List ℕ) (at_now : ℕ) : Type 0 where
  pub prefix : take (length buffered) held_now ≡ buffered
  pub place : at_now + length buffered ≡ at + length held_now

-- `furthest number`: the greatest possible offset (bytes) of a reader whose next line has this
-- number. Each earlier line has at most 513 bytes with its newline, and at most 66,048 bytes are
-- buffered.
abbrev pub furthest : ℕ → ℕ
furthest number = 513 * (number - 1) + 66048

-- `FindsLine number buffered result`: the result of searching for line `number` at the start of the
-- buffered bytes. It is the length (bytes) of the line, `None` if nothing is buffered, or a fault.
abbrev pub FindsLine : ℕ → List ℕ → Result (Option ℕ) LineFault → Type 0
FindsLine number buffered (Ok (Some count)) = (count < length buffered) × (count ≤ 512) × (slice_index buffered count ≡ 10)
    × HasNoNewline buffered count
FindsLine number buffered (Ok None) = buffered ≡ []
FindsLine number buffered (Err (TooLong n)) = (n ≡ number) × (513 ≤ length buffered) × HasNoNewline buffered 513
FindsLine number buffered (Err (Cut n)) = (n ≡ number) × (0 < length buffered) × (length buffered ≤ 512)
    × HasNoNewline buffered (length buffered)
FindsLine number buffered (Err NoFile) = ⊤
FindsLine number buffered (Err ReadFault) = HasNoNewline buffered (length buffered)
FindsLine number buffered (Err (NoMemory _)) = ⊥

-- No further read is needed for the next line: the buffered bytes contain a newline, or are at
-- least 513 bytes.
abbrev pub ShowsLine : List ℕ → Type 0
ShowsLine buffered = (513 ≤ length buffered) ⊎ (i : ℕ) × (i < length buffered) × (slice_index buffered i ≡ 10)

-- `EndsAt bytes at result`: if the result is `None` or `Cut`, the file was read to its end. `at` is
-- the offset of the next read.
abbrev pub EndsAt : List ℕ → ℕ → Result (Option ℕ) LineFault → Type 0
EndsAt bytes at (Ok (Some count)) = ⊤
EndsAt bytes at (Ok None) = drop at bytes ≡ []
EndsAt bytes at (Err (TooLong n)) = ⊤
EndsAt bytes at (Err (Cut n)) = drop at bytes ≡ []
EndsAt bytes at (Err NoFile) = ⊤
EndsAt bytes at (Err ReadFault) = ⊤
EndsAt bytes at (Err (NoMemory _)) = ⊤

-- `IsNumbered number result`: a returned line or fault has the number of the next line, even if the
-- content of the file isn't known.
abbrev pub IsNumbered : ℕ → Result (Option Line) LineFault → Type 0
IsNumbered number (Ok (Some line)) = line.number ≡ number
IsNumbered number (Ok None) = ⊤
IsNumbered number (Err (TooLong n)) = n ≡ number
IsNumbered number (Err (Cut n)) = n ≡ number
IsNumbered number (Err NoFile) = ⊤
IsNumbered number (Err ReadFault) = ⊤
IsNumbered number (Err (NoMemory _)) = ⊤

-- A returned line has at most 512 bytes, even if the content of the file isn't known.
abbrev pub IsShortLine : Result (Option Line) LineFault → Type 0
IsShortLine (Ok (Some line)) = length line.bytes ≤ 512
IsShortLine (Ok None) = ⊤
IsShortLine (Err fault) = ⊤
