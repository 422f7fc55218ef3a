use Rattle.std.proofs.Common.{rules, ◌≤◌, ℕ, [], ◌∷◌, sym, subst, ◌∙◌, arith}
use Rattle.std.proofs.lemmas.Grind.{common_steps}
use Rattle.plan_laws.specs.Plan.{IsClock}
use Rattle.clock_row.specs.Tries.{IsTried}
use Rattle.replay_workers.proofs.Tries.{clocks_grown, no_clocks, no_rise, no_tries, rises_grown, rises_within, tried_grown}
use Rattle.replay_workers.proofs.watch.sample_on.Goals as goal

pub samples-init : goal.samples-init
samples-init g c =
    let none = c.requires.none in
    record {
      row = search rules;
      plan = search rules;
      room = c.requires.room;
      many = search rules;
      newest = c.requires.last;
      seen = c.requires.seen;
      clocks = no_clocks c.args.reader.now.knows.plan c.args.slot.0 c.args.samples.now.items none;
      rise = no_rise c.args.last.now.count c.args.reader.now.knows.seen c.args.samples.now.items none c.requires.seen;
      tried = no_tries c.args.last.now.count c.args.samples.now.items c.args.reader.now.knows none;
      few = omega arith;
    }

pub samples-preserved : goal.samples-preserved
samples-preserved g c =
    let held = c.samples.invariant in
    let grown = c.in-Ok.ensures.items in
    let call = c.sample_or-newest.ensures in
    let sample = c.sample_or-newest.result in
    let clock = subst (λ plan. IsClock sample.clock plan c.args.slot.0 sample.count) held.plan call.clock in
    let later : c.samples.reader.knows.seen ≤ sample.count = subst (λ (number : ℕ). number ≤ sample.count) held.seen call.later in
    record {
      row = call.row ∙ held.row;
      plan = call.plan ∙ held.plan;
      room = grind (arith, common_steps);
      many = grind (arith, common_steps);
      newest = clock;
      seen = sym call.seen;
      clocks = clocks_grown c.args.reader.now.knows.plan c.args.slot.0 c.samples.samples.items c.push.new.self.items sample grown clock held.clocks;
      rise = rises_grown _ _ _ _ _ _ grown held.rise later call.seen;
      tried = tried_grown c.args.last.now.count c.samples.reader.knows.seen c.samples.samples.items c.push.new.self.items sample c.args.reader.now.knows c.samples.reader.knows c.sample_or-newest.new.self.knows
          grown held.rise held.tried (subst (λ (number : ℕ). IsTried (sample.count ∷ []) number c.samples.reader.knows c.sample_or-newest.new.self.knows) held.seen call.tried);
      few = omega (arith, held.few, call.few);
    }

pub returns-clause-rise : goal.returns-clause-rise
returns-clause-rise g c = rises_within _ _ _ c.samples.invariant.rise
