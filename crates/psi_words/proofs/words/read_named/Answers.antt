use Rattle.run_spec.specs.Words.{stall_of, check_of, replay_of, gen_of, stress_of, import_command_of, rules_command_of, whatif_of}
use Rattle.run_spec.proofs.RangeLaws.{stall_ranges, check_ranges, replay_ranges, gen_ranges, stress_ranges, import_ranges, rules_command_ranges, whatif_ranges}
use Rattle.psi_words.proofs.InRange.{in_range}
use Rattle.psi_words.proofs.words.read_named.Goals as goal

pub returns-then-eq-clause-ranges : goal.returns-then-eq-clause-ranges
returns-then-eq-clause-ranges c = in_range _ _ stall_of stall_ranges c.read_stall.ensures.exact

pub returns-then-eq-2-clause-ranges : goal.returns-then-eq-2-clause-ranges
returns-then-eq-2-clause-ranges c = in_range _ _ check_of check_ranges c.read_check.ensures.exact

pub returns-then-eq-3-clause-ranges : goal.returns-then-eq-3-clause-ranges
returns-then-eq-3-clause-ranges c = in_range _ _ replay_of replay_ranges c.read_replay.ensures.exact

pub returns-then-eq-4-clause-ranges : goal.returns-then-eq-4-clause-ranges
returns-then-eq-4-clause-ranges c = in_range _ _ gen_of gen_ranges c.read_gen.ensures.exact

pub returns-then-eq-5-clause-ranges : goal.returns-then-eq-5-clause-ranges
returns-then-eq-5-clause-ranges c = in_range _ _ stress_of stress_ranges c.read_stress.ensures.exact

pub returns-then-eq-6-clause-ranges : goal.returns-then-eq-6-clause-ranges
returns-then-eq-6-clause-ranges c = in_range _ _ import_command_of import_ranges c.read_import.ensures.exact

pub returns-then-eq-7-clause-ranges : goal.returns-then-eq-7-clause-ranges
returns-then-eq-7-clause-ranges c = in_range _ _ rules_command_of rules_command_ranges c.read_rules.ensures.exact

pub returns-then-eq-8-clause-ranges : goal.returns-then-eq-8-clause-ranges
returns-then-eq-8-clause-ranges c = in_range _ _ whatif_of whatif_ranges c.read_whatif.ensures.exact
