use Rattle.std.proofs.Common.{arith, rules, subst, ◌∙◌}
use Rattle.std.specs.Prelude.{Ok}
use Rattle.replay_ticks.specs.Replays.{TickGives}
use Rattle.commands.proofs.ReplayLaws.{last_ticked, none_ticked, tick_failed, tick_more, whole_ticked}
use Rattle.commands.proofs.replay.put_replay.Goals as goal

pub ticks-init : goal.ticks-init
ticks-init g c = record {
  so_far = λ trace timing rules is. none_ticked c.args.replay.now trace timing rules (g.K.Sink.has c.args.out.now) is;
  cause = search rules;
  below = search rules;
}

pub ticks-preserved : goal.ticks-preserved
ticks-preserved g c = record {
  so_far = λ trace timing rules is.
      let so = c.ticks.invariant.so_far trace timing rules is in
      let maybe_rules = subst (λ b. TickGives trace timing rules c.ticks.replay.made c.ticks.replay c.tick.new.self (g.K.Sink.has c.ticks.out) (g.K.Sink.has c.tick.new.out) (Ok b)) c.in-Ok-true.field-0-test (c.in-Ok-true.ensures.tick trace timing rules c.ticks.replay.made so.is) in
      tick_more c.ticks.replay c.tick.new.self trace timing rules (g.K.Sink.has c.args.out.now) (g.K.Sink.has c.ticks.out) (g.K.Sink.has c.tick.new.out) so maybe_rules;
  cause = record { later = omega (arith, c.ticks.invariant.cause.later, c.in-Ok-true.ensures.cause.later); failed = tt; same = c.in-Ok-true.ensures.cause.same ∙ c.ticks.invariant.cause.same };
  below = record { same = c.in-Ok-true.ensures.below.same ∙ c.ticks.invariant.below.same; more = omega (arith, c.ticks.invariant.below.more, c.in-Ok-true.ensures.below.more) };
}

pub returns-in-Ok-false-clause-bytes : goal.returns-in-Ok-false-clause-bytes
returns-in-Ok-false-clause-bytes g c = λ trace timing rules is.
    let so = c.ticks.invariant.so_far trace timing rules is in
    let maybe_rules = subst (λ b. TickGives trace timing rules c.ticks.replay.made c.ticks.replay c.tick.new.self (g.K.Sink.has c.ticks.out) (g.K.Sink.has c.tick.new.out) (Ok b)) c.in-Ok-false.field-0-test (c.in-Ok-false.ensures.tick trace timing rules c.ticks.replay.made so.is) in
    last_ticked c.ticks.replay c.tick.new.self trace timing rules (g.K.Sink.has c.args.out.now) (g.K.Sink.has c.ticks.out) (g.K.Sink.has c.tick.new.out) (g.K.Sink.has c.finish.new.out) c.finish.result so maybe_rules
    (c.finish.ensures.bytes trace timing rules (whole_ticked c.ticks.replay c.tick.new.self trace timing rules c.ticks.replay.made (g.K.Sink.has c.ticks.out) (g.K.Sink.has c.tick.new.out) maybe_rules))

pub returns-in-Err-WriteFault-clause-bytes : goal.returns-in-Err-WriteFault-clause-bytes
returns-in-Err-WriteFault-clause-bytes g c = λ trace timing rules is.
    let so = c.ticks.invariant.so_far trace timing rules is in
    tick_failed c.ticks.replay c.tick.new.self trace timing rules (g.K.Sink.has c.args.out.now) (g.K.Sink.has c.ticks.out) (g.K.Sink.has c.tick.new.out) c.in-Err-WriteFault.field-0 so (c.in-Err-WriteFault.ensures.tick trace timing rules c.ticks.replay.made so.is)
