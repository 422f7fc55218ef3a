-- Upper bounds on the number of bytes that a command reads.
use Rattle.std.specs.Prelude.{ℕ, ◌+◌, ◌-◌, ◌*◌, List, Option, None, Some}
use Rattle.run_spec.specs.declared.command.Command.{Command}
use Rattle.run_spec.specs.Outputs.{drop_in_name, import_name, rules_name, trace_name}

-- The maximum number of lines in a trace: the header and 4,000,000 events.
abbrev pub most_lines : ℕ
most_lines = 4000001

-- The maximum length of a line (bytes), without its newline.
abbrev pub longest_line : ℕ
longest_line = 512

-- The number of bytes read ahead while a line is incomplete: 64 KiB.
abbrev pub read_ahead : ℕ
read_ahead = 65536

-- The maximum number of bytes that are buffered after the last parsed line. They are an incomplete
-- line and the bytes read ahead.
abbrev pub most_buffered : ℕ
most_buffered = longest_line + read_ahead

-- `most_until line`: an upper bound on the bytes read from a file whose line number `line` (from 1)
-- is rejected. It covers the lines before that line, and the buffered bytes.
abbrev pub most_until : ℕ → ℕ
most_until line = (longest_line + 1) * (line - 1) + most_buffered

-- An upper bound on the bytes read from a trace. It covers the maximum number of lines, and the
-- buffered bytes.
abbrev pub most_of_trace : ℕ
most_of_trace = most_lines * (longest_line + 1) + most_buffered

-- An upper bound on the bytes read from an ftrace text. It covers the maximum of 16,000,000 lines,
-- one more line (which is rejected), and the buffered bytes.
abbrev pub most_of_import : ℕ
most_of_import = 16000001 * (longest_line + 1) + most_buffered

-- An upper bound on the bytes read from a rules file or drop-in file. It is the size limit, plus
-- one byte, which shows that a longer file is too long.
abbrev pub most_of_rules : ℕ
most_of_rules = 1048577

-- `most_if_named most name`: the upper bound `most` if a file is named, and 0 if `name` is `None`.
abbrev pub most_if_named : ℕ → Option (List ℕ) → ℕ
most_if_named most None = 0
most_if_named most (Some name) = most

-- `most_read command`: an upper bound on the bytes that a command reads from all its files.
abbrev pub most_read : Command → ℕ
most_read command =
    most_if_named most_of_rules (rules_name command) + most_if_named most_of_rules (drop_in_name command)
    + most_if_named most_of_trace (trace_name command)
    + most_if_named most_of_import (import_name command)
