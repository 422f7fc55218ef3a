use Rattle.clock_row.proofs.Keeps as laws
use Rattle.clock_row.proofs.laws.law_take_note.Goals as goal

pub returns-clause-reader : goal.returns-clause-reader
returns-clause-reader c = laws.reader_takes_note

pub returns-clause-writer : goal.returns-clause-writer
returns-clause-writer c = laws.writer_takes_note
