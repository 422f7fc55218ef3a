use Rattle.std.proofs.Common.{arith, rules, subst, sym}
use Rattle.psi_spec.specs.Grammar.{Fits}
use Rattle.proc_plan.proofs.Building.{all_taken, fit_at, lacks_end, refused_next, took_next}
use Rattle.proc_plan.proofs.plans.take_all.Goals as goal

pub take-requires : goal.take-requires
take-requires c = subst Fits (sym c.event-item.is) (fit_at c.args.events.now c.events.event-index c.event-item.result c.requires.fit c.events-test.true)

pub returns-in-Err-clause-refused : goal.returns-in-Err-clause-refused
returns-in-Err-clause-refused c = refused_next c.args.planner.now c.events.planner c.take.new.self c.args.events.now c.events.event-index c.event-item.result c.in-Err.fault c.lines.result c.at_line.result c.events-test.true c.event-item.is c.events.invariant c.in-Err.ensures.takes c.in-Err.ensures.same c.lines.ensures.lines c.at_line.ensures

pub events-preserved : goal.events-preserved
events-preserved c = took_next c.args.planner.now c.events.planner c.take.new.self c.args.events.now c.events.event-index c.event-item.result c.in_default.field-0 c.events-test.true c.event-item.is c.events.invariant c.in_default.ensures.takes

pub returns-then-not-is_ended-clause-refused : goal.returns-then-not-is_ended-clause-refused
returns-then-not-is_ended-clause-refused c = lacks_end c.args.planner.now c.events.planner c.args.events.now c.events.event-index c.lines-then-not-is_ended.result c.at_line-then-not-is_ended.result (omega (arith, c.events-test.false)) c.events.invariant (search rules) c.lines-then-not-is_ended.ensures.lines c.at_line-then-not-is_ended.ensures

pub returns-clause-taken : goal.returns-clause-taken
returns-clause-taken c = all_taken c.args.planner.now c.events.planner c.args.events.now c.events.event-index (omega (arith, c.events-test.false)) c.events.invariant (search rules)
