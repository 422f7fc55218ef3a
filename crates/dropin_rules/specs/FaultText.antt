-- Defines the text that the program prints for a fault of a drop-in file.
use Rattle.std.specs.Prelude.{ℕ, List, codes}
use Rattle.ruleset_json.specs.FaultText.{placed_text, rules_cause_name}
use Rattle.dropin_rules.specs.declared.fault.DropCause.{DropCause}
use Rattle.dropin_rules.specs.declared.fault.DropCause.TheVariants as cause
use Rattle.dropin_rules.specs.declared.fault.DropFault.{DropFault}

-- The printed name of a cause.
abbrev pub drop_cause_name : DropCause → List ℕ
drop_cause_name (cause.Rules what) = rules_cause_name what
drop_cause_name cause.NoParts = codes "NoParts"
drop_cause_name cause.UnknownRule = codes "UnknownRule"

-- The printed text of a fault: the position of the fault in the drop-in file, a colon, and the name
-- of the cause.
abbrev pub drop_fault_text : DropFault → List ℕ
drop_fault_text fault = placed_text (codes "drop-in") fault.place (drop_cause_name fault.what)
