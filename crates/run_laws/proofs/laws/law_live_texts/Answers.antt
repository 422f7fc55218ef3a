use Rattle.run_laws.proofs.LiveTexts.{no_text_at_first, one_text_more, texts_go_on, whole_text}
use Rattle.run_laws.proofs.laws.law_live_texts.Goals as goal

pub returns-clause-more : goal.returns-clause-more
returns-clause-more c = one_text_more

pub returns-clause-whole : goal.returns-clause-whole
returns-clause-whole c = whole_text

pub returns-clause-on : goal.returns-clause-on
returns-clause-on c = texts_go_on

pub returns-clause-none : goal.returns-clause-none
returns-clause-none c = no_text_at_first
