-- Defines the text of the output: a line for each entry of the journal, a line for the board state
-- that each observer read last, and a last line.
use Rattle.std.specs.Prelude.{ℕ, ◌+◌, List, [], ◌∷◌, ◌++◌, length, map, codes, decimal}
use Rattle.std.specs.List.{flat_map}
use Rattle.run_spec.specs.Lines.{labelled, line_of}
use Rattle.observer_log.specs.declared.board.BoardState.{BoardState}
use Rattle.observer_log.specs.declared.entry.Entry.{Entry}

-- The output line of a journal entry: observer, processor, number of changes, time (ns), and the
-- time (ns) in each of the seven states.
abbrev pub entry_line : Entry → List ℕ
entry_line entry =
    line_of (codes "sample" ∷ labelled (codes "observer=") entry.observer ∷ labelled (codes "cpu=") entry.cpu.0
    ∷ labelled (codes "count=") entry.count ∷ labelled (codes "at=") entry.at ∷ map decimal entry.seven)

-- The output line of the board state that observer number `observer` read last.
abbrev pub state_line : ℕ → BoardState → List ℕ
state_line observer state =
    line_of (codes "board" ∷ labelled (codes "observer=") observer ∷ labelled (codes "tick=") state.tick
    ∷ labelled (codes "events=") state.events ∷ labelled (codes "kills=") state.kills ∷ [])

-- `states_text observer states`: one line for each board state in `states`. The first state is the
-- state that observer number `observer` read last, the second state belongs to the next observer,
-- and so on.
abbrev pub states_text : ℕ → List BoardState → List ℕ
states_text observer [] = []
states_text observer (state ∷ states) = state_line observer state ++ states_text (observer + 1) states

-- The last output line: the end time `finish` (ns) and the number of samples.
abbrev pub end_line : ℕ → ℕ → List ℕ
end_line finish samples = line_of (codes "end" ∷ decimal finish ∷ labelled (codes "samples=") samples ∷ [])

-- The whole output: the lines of the entries in order, the lines of the board states in the order
-- of observers, and the last line.
abbrev pub printed : List Entry → List BoardState → ℕ → List ℕ
printed entries states finish = flat_map entry_line entries ++ states_text 0 states ++ end_line finish (length entries)
