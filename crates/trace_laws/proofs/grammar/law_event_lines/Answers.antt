use Rattle.trace_laws.proofs.GrammarCauses as causes
use Rattle.trace_laws.proofs.GrammarReads as reads
use Rattle.trace_laws.proofs.grammar.law_event_lines.Goals as goal

pub returns-clause-reads : goal.returns-clause-reads
returns-clause-reads c = reads.reads_spelled

pub returns-clause-refuses : goal.returns-clause-refuses
returns-clause-refuses c = causes.finds_causes

pub returns-clause-in_line : goal.returns-clause-in_line
returns-clause-in_line c = reads.spelled_in_line

pub returns-clause-apart : goal.returns-clause-apart
returns-clause-apart c = reads.spelling-injective
