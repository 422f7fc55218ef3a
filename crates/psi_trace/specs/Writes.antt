-- Defines how the words of an event line after its time are written, and which events have short
-- lines.
use Rattle.std.specs.Prelude.{ℕ, List, [], ◌∷◌, ◌++◌, Bool, true, false}
use Rattle.psi_base.specs.declared.event.Act.{Act}
use Rattle.psi_base.specs.declared.event.Act.TheVariants as act

-- Joins the words, with a space before each word.
abbrev pub spaced : List (List ℕ) → List ℕ
spaced [] = []
spaced (text ∷ words) = 32 ∷ text ++ spaced words

-- Whether an event has no path and isn't `host` (with its three long numbers), so that its line
-- fits in a `ShortLine`.
abbrev pub is_short : Act → Bool
is_short (act.Wake pid cpu) = true
is_short (act.Switch cpu next how) = true
is_short (act.Stall pid) = true
is_short (act.Unstall pid) = true
is_short (act.Migrate pid cpu) = true
is_short (act.Irq cpu ns) = true
is_short act.End = true
is_short _ = false
