use Rattle.trace_laws.proofs.GrammarHeaders as headers
use Rattle.trace_laws.proofs.grammar.law_header_lines.Goals as goal

pub returns-clause-reads : goal.returns-clause-reads
returns-clause-reads c = headers.headers_spelled

pub returns-clause-in_line : goal.returns-clause-in_line
returns-clause-in_line c = headers.headed_by_line
