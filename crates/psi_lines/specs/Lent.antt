-- Defines the result of reading the next line as borrowed bytes ([`Lines::next_bytes`]), based on
-- the definitions for an owned line.
use Rattle.std.specs.Prelude.{◌≡◌, ℕ, ◌+◌, ◌≤◌, List, [], OnErr, Option, None, Some, Result, Ok, Err}
use Rattle.std.specs.Borrow.{Bor}
use Rattle.outside.specs.Outside.{content_of, IsAbsent, Files}
use Rattle.psi_lines.specs.Lines.{Reader}
use Rattle.psi_lines.specs.Next.{NextOf, ReadsOn, furthest, number_after}
use Rattle.psi_lines.specs.declared.lines.Line.{Line}
use Rattle.psi_lines.specs.declared.lines.LineFault.{LineFault}

-- `lent_line number result`: `result` with the borrowed bytes replaced by an owned line that has
-- the number `number`.
abbrev pub lent_line : ℕ → Result (Option (Bor (List ℕ))) LineFault → Result (Option Line) LineFault
lent_line number (Ok (Some bytes)) = Ok (Some (record { number = number; bytes = bytes.now }))
lent_line number (Ok None) = Ok None
lent_line number (Err fault) = Err fault

-- `LendsLine files bytes_read read_now old new result`: when the borrow ends, the reader has the
-- same properties as after reading an owned line. `bytes_read` and `read_now` are the numbers of
-- bytes that the file store (`Shelf`) had returned before and after the call.
pub record LendsLine (files : Option Files) (bytes_read read_now : ℕ) (old new : Reader)
    (result : Result (Option (Bor (List ℕ))) LineFault) : Type 0 where
  pub name : new.name ≡ old.name
  pub number : new.number ≡ number_after old.number (lent_line old.number result)
  pub line : (bytes : List ℕ) → content_of files old.name ≡ Some bytes → NextOf bytes old new (lent_line old.number result)
  pub fault : OnErr result (ReadsOn old.buffered old.at new.buffered new.at)
  pub counted : read_now + old.at ≡ bytes_read + new.at
  pub place : new.at ≤ furthest old.number
  pub missing : old.buffered ≡ [] → IsAbsent files old.name → (new.buffered ≡ []) × (new.at ≡ old.at)
