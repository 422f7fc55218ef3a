-- The items of pages (events and numbers of lost events), up to the first error.
use Rattle.std.specs.Prelude.{ℕ, zero, suc, ◌+◌, List, [], ◌∷◌, ◌++◌, length, take, drop, find, nat_lt, nat_le, ◌==◌, if◌then◌else◌, Option, None, Some, option_map}
use Rattle.page_spec.specs.declared.cause.ByteFault.{ByteFault}
use Rattle.page_spec.specs.declared.cause.PageCause.{PageCause}
use Rattle.page_spec.specs.declared.cause.PageCause.TheVariants.{TooLong, ShortRecord, TooMany}
use Rattle.page_spec.specs.declared.layout.Kind.{Kind}
use Rattle.page_spec.specs.declared.layout.Layout.{Layout}
use Rattle.page_spec.specs.Fields.{Value, half_of, has_fields, values_of}
use Rattle.page_spec.specs.Records.{Record, lost_before, page_time, records_of, used_of}

-- An item of a page. `Lost` has a time (ns) and the number of events lost before it (0 if the
-- number is unknown). `Event` has the time (ns) of an event, the name of its kind, and the values
-- of its fields.
pub data Item : Type 0 where
  Lost : ℕ → ℕ → Item
  Event : ℕ → List ℕ → List Value → Item

-- The result of decoding: the items in order, and the error that ended the decoding, or `None` if
-- no error occurred.
pub record Found (Fault : Type 0) : Type 0 where
  pub items : List Item
  pub fault : Option Fault

-- The result of decoding no bytes: no items and no error.
abbrev pub nothing : {Fault : Type 0} → Found Fault
nothing = record { items = []; fault = None }

-- The result of decoding that fails with the error `why` before the first item.
abbrev pub faulty : {Fault : Type 0} → Fault → Found Fault
faulty why = record { items = []; fault = Some why }

-- Prepends items to a result.
abbrev pub after_items : {Fault : Type 0} → List Item → Found Fault → Found Fault
after_items items rest = record { items = items ++ rest.items; fault = rest.fault }

-- Prepends items to the result `rest` of the later bytes. If an error follows the items, the result
-- has the items and this error, and `rest` is ignored.
abbrev pub then_unless : {Fault : Type 0} → List Item → Option Fault → Found Fault → Found Fault
then_unless items None rest = after_items items rest
then_unless items (Some why) rest = record { items = items; fault = Some why }

-- ---- one record

-- The first kind of event that has the number `number`, or `None` if there is no such kind.
abbrev pub kind_with : List Kind → ℕ → Option Kind
kind_with kinds number = find (λ (kind : Kind). kind.number == number) kinds

-- How a record is read: its kind of event isn't decoded (`Unread`), the record is too short
-- (`Short`), or it is an event of a known kind (`Read`).
pub data Reading : Type 0 where
  Unread : Reading
  Short : Reading
  Read : Kind → Reading

-- How a record `bytes` of this kind of event is read. `None` means that the kind isn't decoded.
abbrev pub reading_as : List ℕ → Option Kind → Reading
reading_as bytes None = Unread
reading_as bytes (Some kind) = if has_fields bytes kind.fields then Read kind else Short

-- How the record `bytes` is read. The first two bytes of a record are the number of its kind of
-- event.
abbrev pub reading_of : List Kind → List ℕ → Reading
reading_of kinds bytes = if nat_lt (length bytes) 2 then Short else reading_as bytes (kind_with kinds (half_of bytes))

-- The event that a record of kind `kind` contains.
abbrev pub event_of : Layout → Record → Kind → Item
event_of layout found kind = Event found.time kind.name (values_of layout.letters found.bytes kind.fields)

-- The error `cause` at the offset `byte` (bytes, from 0) of a page.
abbrev pub byte_fault : ℕ → PageCause → ByteFault
byte_fault byte cause = record { byte = byte; cause = cause }

-- The result of decoding the record `found` and the later records. The `Reading` says how `found`
-- is read, and `rest` is the result of the later records. The error of a short record is at the
-- record's first header word.
abbrev pub read_then : Layout → Record → Reading → Found ByteFault → Found ByteFault
read_then layout found Unread rest = rest
read_then layout found Short rest = faulty (byte_fault found.byte ShortRecord)
read_then layout found (Read kind) rest = after_items (event_of layout found kind ∷ []) rest

-- ---- one page

-- The result of decoding the records of a page.
abbrev pub events_of : Layout → List Record → Found ByteFault
events_of layout [] = nothing
events_of layout (found ∷ records) = read_then layout found (reading_of layout.kinds found.bytes) (events_of layout records)

-- The item for the events that were lost before time `time` (ns), as a list. The list is empty for
-- `None`, which means that no event was lost.
abbrev pub losses_at : ℕ → Option ℕ → List Item
losses_at time None = []
losses_at time (Some count) = Lost time count ∷ []

-- The result of decoding a page: the number of events lost before it, and its own events. Fails
-- with `TooLong` if the header reports more bytes than the page has. This error is at offset 8, the
-- offset of the header's word with the number of bytes.
unfoldable pub page_found : Layout → List ℕ → Found ByteFault
page_found layout page =
    if nat_lt (length page) (layout.header + used_of page) then faulty (byte_fault 8 TooLong)
    else after_items (losses_at (page_time page) (lost_before layout.header page)) (events_of layout (records_of layout.header page))

-- ---- a file

-- An error in a file: the number of the invalid page (from 0), the offset of the error in this page
-- (bytes, from 0), and the cause.
pub record PageFault : Type 0 where
  pub page : ℕ
  pub byte : ℕ
  pub cause : PageCause

-- The error `why` in page number `page` (from 0).
abbrev pub fault_at : ℕ → ByteFault → PageFault
fault_at page why = record { page = page; byte = why.byte; cause = why.cause }

-- Splits the bytes into whole pages of `size` bytes each. The first argument is the maximum number
-- of pages. An incomplete last page is ignored.
unfoldable pub pages_in : ℕ → ℕ → List ℕ → List (List ℕ)
pages_in zero size bytes = []
pages_in (suc steps) size bytes = if nat_lt (length bytes) size then [] else take size bytes ∷ pages_in steps size (drop size bytes)

-- Splits a file into whole pages of `size` bytes each. An incomplete last page is ignored.
abbrev pub pages_of : ℕ → List ℕ → List (List ℕ)
pages_of size bytes = pages_in (length bytes) size bytes

-- The maximum number of pages of a file.
abbrev pub most_pages : ℕ
most_pages = 4294967295

-- The result of decoding pages. The first page has number `number` in its file. If a file has
-- more pages than allowed, the error is at the first byte of the first page too many.
unfoldable pub pages_found : Layout → ℕ → List (List ℕ) → Found PageFault
pages_found layout number [] = nothing
pages_found layout number (page ∷ pages) =
    if nat_le most_pages number then faulty (fault_at number (byte_fault 0 TooMany))
    else then_unless (page_found layout page).items (option_map (fault_at number) (page_found layout page).fault)
    (pages_found layout (number + 1) pages)

-- The result of decoding all whole pages of a file.
abbrev pub file_found : Layout → List ℕ → Found PageFault
file_found layout bytes = pages_found layout 0 (pages_of layout.page bytes)
