-- The lines of a text.
use Rattle.std.specs.Prelude.{ℕ, List, [], get_or}
use Rattle.psi_base.specs.Path.{parts_at}

-- `line_number number text`: line `number` of the text, counted from 0, without its newline. No
-- bytes if the text has fewer lines.
abbrev pub line_number : ℕ → List ℕ → List ℕ
line_number number text = get_or (parts_at 10 text) number []
