-- Defines the output of `psi_convert` for a table and files of pages. The file at index `n` has the
-- pages of processor `n`.
use Rattle.std.specs.Prelude.{ℕ, ◌+◌, List, [], ◌∷◌, ◌++◌, length, nat_lt, nat_le, ◌==◌, ◌&&◌, ◌||◌, not, slice_index, Bool, false, codes, Option, None, Some, option_map, Result, Ok, Err}
use Rattle.std.specs.List.{list_all}
use Rattle.std.specs.Str.{bytes_eq}
use Rattle.outside.specs.Outside.{Files, content_of}
use Rattle.page_spec.specs.declared.cause.PageCause.{PageCause}
use Rattle.page_spec.specs.declared.layout.Layout.{Layout}
use Rattle.page_spec.specs.Items.{PageFault, file_found}
use Rattle.page_spec.specs.Lines.{items_text}
use Rattle.convert_table.specs.declared.fault.TableFault.{TableFault}
use Rattle.convert_table.specs.Table.{table_of}

-- ---- words

-- Whether a word can be the name of a file: it isn't empty, and doesn't begin with `-` (byte 45)
-- unless it is one byte long.
abbrev pub is_name : List ℕ → Bool
is_name word = nat_lt 0 (length word) && (length word == 1 || not (slice_index word 0 == 45))

-- Whether the words after `events` can be the names of a table and of 1 to 4,096 files of pages.
abbrev pub are_names : List (List ℕ) → Bool
are_names names = nat_le 2 (length names) && nat_le (length names) 4097 && list_all is_name names

-- Whether the words of a command line form a command: `events` and the names of files
-- (`are_names`).
abbrev pub is_command : List (List ℕ) → Bool
is_command [] = false
is_command (word ∷ names) = bytes_eq word (codes "events") && are_names names

-- ---- files

-- `with_content first rest`: the list of contents `rest` with the bytes `first` of one more file at
-- the front, or `None` unless all are known.
abbrev pub with_content : Option (List ℕ) → Option (List (List ℕ)) → Option (List (List ℕ))
with_content None rest = None
with_content (Some first) None = None
with_content (Some first) (Some rest) = Some (first ∷ rest)

-- The bytes of each of the files `names`, or `None` unless all are known.
abbrev pub contents_of : Option Files → List (List ℕ) → Option (List (List ℕ))
contents_of files [] = Some []
contents_of files (name ∷ names) = with_content (content_of files name) (contents_of files names)

-- ---- the output

-- The first error in the pages: the number of the processor (from 0), the number of the page in its
-- file (from 0), the offset of the error in this page (bytes, from 0), and the cause.
pub record RunFault : Type 0 where
  pub cpu : ℕ
  pub page : ℕ
  pub byte : ℕ
  pub cause : PageCause

-- Makes the record of an error from its parts.
abbrev pub run_fault : ℕ → ℕ → ℕ → PageCause → RunFault
run_fault cpu page byte why = record { cpu = cpu; page = page; byte = byte; cause = why }

-- `fault_of_cpu cpu fault`: the error `fault` in the file of processor `cpu`, with this number
-- added.
abbrev pub fault_of_cpu : ℕ → PageFault → RunFault
fault_of_cpu cpu fault = run_fault cpu fault.page fault.byte fault.cause

-- What a run writes: the text, and the error after it or `None`.
pub record Output : Type 0 where
  pub text : List ℕ
  pub fault : Option RunFault

-- The output without text and without an error.
abbrev pub no_output : Output
no_output = record { text = []; fault = None }

-- `output_then text fault rest`: the output of a file with the text `text` and the error `fault`,
-- if any. `rest` is the output of the later files, and follows only if there is no error.
abbrev pub output_then : List ℕ → Option RunFault → Output → Output
output_then text None rest = record { text = text ++ rest.text; fault = rest.fault }
output_then text (Some why) rest = record { text = text; fault = Some why }

-- `files_output layout cpu wholes`: the output for the files of processors `cpu`, `cpu + 1` and so
-- on. `wholes` has the bytes of each file.
abbrev pub files_output : Layout → ℕ → List (List ℕ) → Output
files_output layout cpu [] = no_output
files_output layout cpu (whole ∷ wholes) =
    output_then (items_text cpu (file_found layout whole).items) (option_map (fault_of_cpu cpu) (file_found layout whole).fault)
    (files_output layout (cpu + 1) wholes)

-- `output_with parsed wholes`: the output for files of pages with the bytes `wholes`. `parsed` is
-- the layout from the table. If it is the table's error, the result is this error.
abbrev pub output_with : Result Layout TableFault → List (List ℕ) → Result Output TableFault
output_with (Ok layout) wholes = Ok (files_output layout 0 wholes)
output_with (Err fault) wholes = Err fault

-- `convert_of table wholes`: the output for the bytes `table` of a table and the bytes `wholes` of
-- the files of pages, or the first error of the table.
abbrev pub convert_of : List ℕ → List (List ℕ) → Result Output TableFault
convert_of table wholes = output_with (table_of table) wholes
