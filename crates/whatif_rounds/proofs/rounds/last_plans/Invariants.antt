use Rattle.whatif_rounds.specs.Rounds.{trace_from}
use Rattle.whatif_rounds.proofs.Taking.{HasLeft}
use Rattle.whatif_rounds.proofs.rounds.last_plans.Given as goal

abbrev pub invariant-rounds : goal.invariant-rounds
invariant-rounds g l = HasLeft l.options l.rules.rules (trace_from l.version l.cpus l.fn.events.items) l.number l.events.items
