use Rattle.std.proofs.Common.{arith, ◌≡◌, [], ◌*◌, ◌/◌, length, refl, ap, ◌∙◌}
use Rattle.psi_spec.specs.LegalGroups.{IsPathOrder}
use Rattle.aggregate.specs.Table.{new_table}
use Rattle.tick_engine.specs.Engine.{Represents}
use Rattle.run_spec.specs.Replay.{tick_count}
use Rattle.run_spec.specs.Outputs.{timing_of}
use Rattle.group_tree.specs.Tree.{numbers_of}
use Rattle.replay_rules.specs.Judged.{IsToBegin, rules_of_options}
use Rattle.proc_plan.specs.Plans.{PlansView}
use Rattle.replay_ticks.proofs.LiveLaws.{watching_new}
use Rattle.replay_ticks.proofs.StartLaws.{lives_within, replay_new, triggers_within}
use Rattle.replay_ticks.proofs.start.prepare.Goals as goal

pub make-requires-2-clause-lives : goal.make-requires-2-clause-lives
make-requires-2-clause-lives c = rw c.lives.ensures.lives (lives_within c.args.plans.now c.requires.planned.0 (timing_of c.args.options.now) c.requires.planned.1)

pub make-requires-2-clause-triggers : goal.make-requires-2-clause-triggers
make-requires-2-clause-triggers c = rw (c.lives.ensures.lives, c.triggers.ensures) (triggers_within c.args.plans.now c.requires.planned.0 (timing_of c.args.options.now) c.requires.planned.1)

pub returns-clause-replay : goal.returns-clause-replay
returns-clause-replay c = λ trace planned version.
    let plans = c.args.plans.now in
    let engine : Represents c.in_ok-make-2.field-0 (length plans.plans) plans.lives plans.triggers [] = rw (← c.cpus-2.ensures.cpus, ← c.lives.ensures.lives, ← c.triggers.ensures) c.in_ok-make-2.ensures in
    let slots : c.len-slots.result ≡ length plans.lives = c.len-slots.ensures.len ∙ ap length c.groups.ensures.lives in
    let rows : c.in_ok-make.field-0 ≡ new_table (length plans.plans) (length plans.lives) = c.in_ok-make.ensures ∙ rw (c.cpus.ensures.cpus, slots) refl in
    let order : IsPathOrder plans.lives (numbers_of c.in_ok-path_order.field-0.items) = rw (← c.groups-2.ensures.lives) c.in_ok-path_order.ensures in
    let last : c.finish.result / (c.from-length.result * 1000000) ≡ tick_count trace (timing_of c.args.options.now) = ap (λ n. n / (c.from-length.result * 1000000)) (c.finish.ensures ∙ planned.represents.finish) ∙ rw c.from-length.ensures refl in
    let begins : IsToBegin plans trace (timing_of c.args.options.now) (c.from-interval.result * 1000000000) = record { planned = planned; interval_is = rw c.from-interval.ensures refl } in
    let judged = c.in_ok-make-4.ensures.judged trace (timing_of c.args.options.now) begins in
    let watching = watching_new c.in_ok-make-3.field-0 c.in_ok-live.live trace (timing_of c.args.options.now) c.in_ok-live.ensures.path (c.in_ok-make-3.ensures.requested ∙ c.in_ok-live.ensures.requested) c.in_ok-make-3.ensures.none c.in_ok-make-3.ensures.unwatched
    (λ cpu below. c.in_ok-make-3.ensures.fresh cpu (let many = ap (λ (p : PlansView). length p.plans) c.in_ok-make-3.ensures.plans in omega (arith, below, many, planned.represents.each))) in
    replay_new _ trace (timing_of c.args.options.now) (rules_of_options c.args.rules) planned c.in_ok-make-3.ensures.plans c.in_ok-make-3.ensures.on c.in_ok-make-3.ensures.none c.in_ok-make-3.ensures.fresh rows engine order (record { version = version; length = rw c.from-length.ensures refl; report = rw c.from.ensures refl; last = last }) judged c.requires.fit watching refl refl refl

pub overflow_mul-interval : goal.overflow_mul-interval
overflow_mul-interval c = grind (arith, c.from-interval.ensures, c.requires.often)
