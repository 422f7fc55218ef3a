-- Proofs about lines that are written piece by piece.
use Rattle.std.proofs.Common.{◌≡◌, ◌≤◌, ◌+◌, ℕ, List, [], ◌∷◌, ◌++◌, length, drop, length-drop, sym, ap, arith, append_assoc, true}
use Rattle.std.specs.Prelude.{decimal}
use Rattle.std.proofs.lemmas.List.{append-nil}
use Rattle.psi_base.specs.declared.event.Event.{Event}
use Rattle.psi_base.specs.Path.{is_path}
use Rattle.psi_spec.specs.Fields as kind
use Rattle.psi_spec.specs.Grammar.{joined, act_words, spelling}
use Rattle.trace_laws.proofs.GrammarWords.{word_short}
use Rattle.psi_trace.proofs.Headers.{header-prefix}
use Rattle.psi_trace.specs.Writes.{spaced}

joined-spaced : (text : List ℕ) (words : List (List ℕ)) → joined (text ∷ words) ≡ text ++ spaced words
joined-spaced text [] = sym (append-nil text)
joined-spaced text (next ∷ words) = ap (λ bytes. text ++ 32 ∷ bytes) (joined-spaced next words)

-- The spelling of an event is its time, followed by its words with a space before each.
pub spelling-spaced : (event : Event) → spelling event ≡ decimal event.at ++ spaced (act_words event.act)
unfolding spelling
spelling-spaced event = joined-spaced (decimal event.at) (act_words event.act)

-- A path has at most 255 bytes.
pub path_short : (path : List ℕ) → is_path path ≡ true → length path ≤ 255
path_short path is = word_short kind.path path is

-- The rules for lines that are written piece by piece.
pub ruleset lines = (append_assoc, append-nil, spelling-spaced, header-prefix, path_short)

-- ---- the length of a line

-- The length of the written bytes and the index of the first one add up to the capacity.
pub suffix : (bytes now : List ℕ) (room start : ℕ) → length bytes ≡ room → start ≤ room → drop start bytes ≡ now → length now + start ≡ room
suffix bytes now room start wide inside is = let left = length-drop start bytes in let same = ap length is in omega (arith, left, same, wide, inside)
