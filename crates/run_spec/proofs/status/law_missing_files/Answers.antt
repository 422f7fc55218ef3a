use Rattle.run_spec.proofs.Missing.{drop_in_first, missing_drop_in, missing_rules, missing_source, rules_first}
use Rattle.run_spec.proofs.status.law_missing_files.Goals as goal

pub returns-clause-rules : goal.returns-clause-rules
returns-clause-rules c = missing_rules

pub returns-clause-drop_in : goal.returns-clause-drop_in
returns-clause-drop_in c = missing_drop_in

pub returns-clause-source : goal.returns-clause-source
returns-clause-source c = missing_source

pub returns-clause-rules_first : goal.returns-clause-rules_first
returns-clause-rules_first c = rules_first

pub returns-clause-drop_in_first : goal.returns-clause-drop_in_first
returns-clause-drop_in_first c = drop_in_first
