use Rattle.dropin_rules.proofs.Written.{read_again, same_text}
use Rattle.dropin_rules.proofs.laws.law_text_is_read_again.Goals as goal

pub returns : goal.returns
returns c = record { again = read_again; same = same_text }
