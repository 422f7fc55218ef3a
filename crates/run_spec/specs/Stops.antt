-- Defines where a command stops reading: at the first rejected line of its trace or of its ftrace
-- text.
use Rattle.std.specs.Prelude.{◌≡◌, ℕ, ◌+◌, ◌-◌, ◌≤◌, List, length, take, Option, None, Some, Err, ⊤}
use Rattle.outside.specs.Outside.{Files, content_of}
use Rattle.psi_base.specs.Path.{parts_at}
use Rattle.run_spec.specs.declared.command.Command.{Command}
use Rattle.run_spec.specs.declared.status.Status.{Status}
use Rattle.run_spec.specs.declared.status.Status.TheVariants as status
use Rattle.run_spec.specs.Outputs.{drop_in_name, rules_name, source_of, parse_of}
use Rattle.run_spec.specs.Run.{HasContent}
use Rattle.run_spec.specs.MostRead.{most_of_rules, most_until}

-- `length_or number bytes`: the length of `bytes` if they are known, and `number` if they aren't.
abbrev pub length_or : ℕ → Option (List ℕ) → ℕ
length_or number None = number
length_or number (Some bytes) = length bytes

-- `read_of_rules files name`: an upper bound on the bytes read from an optional rules file or
-- drop-in file. If the content of the file is known, the bound is its length. If `name` is `None`,
-- the bound is 0.
abbrev pub read_of_rules : Option Files → Option (List ℕ) → ℕ
read_of_rules files None = 0
read_of_rules files (Some name) = length_or most_of_rules (content_of files name)

-- `rules_read command files`: an upper bound on the bytes that a command reads from its rules file
-- and its drop-in file. Both are read before the trace or ftrace text.
abbrev pub rules_read : Command → Option Files → ℕ
rules_read command files = read_of_rules files (rules_name command) + read_of_rules files (drop_in_name command)

-- `refused_line result`: the number (from 1) of the rejected line that the status `result` reports,
-- or 0 if it reports no rejected line.
abbrev pub refused_line : Status → ℕ
refused_line (status.Trace line why) = line
refused_line (status.Import line why) = line
refused_line _ = 0

-- `IsNotWhole line count bytes`: the first `count` bytes don't contain the newline at the end of
-- line number `line` (from 1).
abbrev pub IsNotWhole : ℕ → ℕ → List ℕ → Type 0
IsNotWhole line count bytes = length (parts_at 10 (take count bytes)) ≤ line

-- `StopsAtRefusal command files bytes_read read_now result`: reading stops at the first rejected
-- line. `bytes_read` and `read_now` are the numbers of bytes read before the run and at its end. If
-- the run reports a rejected line, it read at most the rules file, the drop-in file, the lines
-- before the rejected line, and the buffered bytes. Suppose that the run ends with ReadFault
-- although the content has a rejected line. Then the bytes that were read after the rules file and
-- the drop-in file don't contain the whole rejected line.
abbrev pub StopsAtRefusal : Command → Option Files → ℕ → ℕ → Status → Type 0
StopsAtRefusal command files bytes_read read_now (status.Trace line why) = read_now
    ≤ bytes_read + (rules_read command files + most_until line)
StopsAtRefusal command files bytes_read read_now (status.Import line why) = read_now
    ≤ bytes_read + (rules_read command files + most_until line)
StopsAtRefusal command files bytes_read read_now status.ReadFault =
    (bytes : List ℕ) (why : Status) → HasContent command (source_of command) files bytes → parse_of command bytes ≡ Err why
    → IsNotWhole (refused_line why) (read_now - (bytes_read + rules_read command files)) bytes
StopsAtRefusal command files bytes_read read_now _ = ⊤
