use Rattle.path_match.proofs.PatternLaws.{slash_is_free}
use Rattle.path_match.proofs.SpelledLaws.{read_again, reads_spelled}
use Rattle.path_match.proofs.laws.law_reading_patterns.Goals as goal

pub returns : goal.returns
returns c = record { spelled = reads_spelled; again = read_again; slash = slash_is_free }
