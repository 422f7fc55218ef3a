use Rattle.std.proofs.Common.{subst, sym}
use Rattle.psi_spec.specs.Grammar.{Fits}
use Rattle.proc_plan.proofs.Building.{fit_at}
use Rattle.world_tests.proofs.whatif.text_of.Goals as goal

pub write_event-requires : goal.write_event-requires
write_event-requires g c = subst Fits (sym c.index-events-at.is) (fit_at c.args.events.now c.events.at c.index-events-at.result c.requires c.events-test.true)
