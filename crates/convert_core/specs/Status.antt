-- The exit codes of statuses, and the text that reports each status.
use Rattle.std.specs.Prelude.{ℕ, ◌+◌, ◌-◌, ◌^◌, ◌==◌, min, if◌then◌else◌, List, [], ◌∷◌, ◌++◌, codes, decimal}
use Rattle.page_spec.specs.declared.cause.PageCause.{PageCause}
use Rattle.page_spec.specs.declared.cause.PageCause.TheVariants as page
use Rattle.convert_table.specs.declared.fault.TableCause.{TableCause}
use Rattle.convert_table.specs.declared.fault.TableCause.TheVariants as table
use Rattle.convert_core.specs.declared.status.Status.{Status}
use Rattle.convert_core.specs.declared.status.Status.TheVariants as status

-- The exit code that reports a status.
abbrev pub code_of : Status → ℕ
code_of status.Done = 0
code_of status.Usage = 1
code_of (status.Page cpu number byte why) = 2
code_of (status.Table fault) = 3
code_of (status.NoFile file) = 4
code_of status.ReadFault = 5
code_of status.WriteFault = 6
code_of (status.NoMemory _) = 7

-- The name of the cause for which a page is invalid.
abbrev pub page_cause_text : PageCause → List ℕ
page_cause_text page.TooLong = codes "TooLong"
page_cause_text page.ShortRecord = codes "ShortRecord"
page_cause_text page.TooMany = codes "TooMany"

-- The name of the cause for which a table is invalid.
abbrev pub table_cause_text : TableCause → List ℕ
table_cause_text table.TooLong = codes "TooLong"
table_cause_text table.BadHeader = codes "BadHeader"
table_cause_text table.BadPage = codes "BadPage"
table_cause_text table.BadRow = codes "BadRow"
table_cause_text table.NoEnd = codes "NoEnd"
table_cause_text table.NoNewline = codes "NoNewline"
table_cause_text table.AfterEnd = codes "AfterEnd"

-- Word number `number` (from 0), or nothing if there are fewer words.
abbrev pub word_at : List (List ℕ) → ℕ → List ℕ
word_at [] number = []
word_at (word ∷ words) number = if number == 0 then word else word_at words (number - 1)

-- The words that name page number `number` of the file `name`.
abbrev pub page_name_text : List ℕ → ℕ → List ℕ
page_name_text name number = name ++ codes " page " ++ decimal number

-- The rest of the line that reports an invalid page: the offset (bytes, from 0) of the error in the
-- page, and the cause.
abbrev pub byte_fault_text : ℕ → PageCause → List ℕ
byte_fault_text byte why = codes " byte " ++ (decimal byte ++ (codes ": " ++ (page_cause_text why ++ codes "\n")))

-- The line that reports that page number `number` of the file `name` is invalid. `byte` is the
-- offset (bytes, from 0) of the error in the page.
abbrev pub page_text : List ℕ → ℕ → ℕ → PageCause → List ℕ
page_text name number byte why = page_name_text name number ++ byte_fault_text byte why

-- The line that reports an invalid line of a table.
abbrev pub table_text : ℕ → TableCause → List ℕ
table_text line why = codes "table line " ++ (decimal line ++ (codes ": " ++ (table_cause_text why ++ codes "\n")))

-- The line that reports that the file `name` doesn't exist.
abbrev pub missing_text : List ℕ → List ℕ
missing_text name = codes "no file: " ++ (name ++ codes "\n")

-- The line that reports a status, with its newline, or nothing for Done. `words` are the words of
-- the command line, which name the files.
abbrev pub status_text : List (List ℕ) → Status → List ℕ
status_text words status.Done = []
status_text words status.Usage = codes "usage: psi_convert events TABLE PAGES..\n"
status_text words (status.Page cpu number byte why) = page_text (word_at words (min (cpu + 2) (2 ^ 32 - 1))) number byte why
status_text words (status.Table fault) = table_text fault.line fault.cause
status_text words (status.NoFile file) = missing_text (word_at words (min (file + 1) (2 ^ 32 - 1)))
status_text words status.ReadFault = codes "read fault\n"
status_text words status.WriteFault = codes "write fault\n"
status_text words (status.NoMemory _) = codes "out of memory\n"
