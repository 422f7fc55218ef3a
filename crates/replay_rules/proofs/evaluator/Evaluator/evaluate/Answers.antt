use Rattle.std.proofs.Common.{◌≡◌, ◌+◌, ◌<◌, length, map, sym, ap, subst, ◌∙◌}
use Rattle.std.specs.Prelude.{All}
use Rattle.psi_base.specs.declared.event.Slot.{Slot}
use Rattle.psi_spec.specs.Groups.{path_at}
use Rattle.psi_spec.specs.LegalGroups.{IsPathOrder}
use Rattle.psi_spec.specs.Trace.{limits_of}
use Rattle.pressure_spec.specs.Ticks.{tick_moment}
use Rattle.kill_spec.specs.LegalReadings.{Ascend}
use Rattle.detectors.specs.Views.{IsAfter, ReadingView}
use Rattle.side_watch.specs.Watch.{Advances}
use Rattle.group_tree.specs.Tree.{numbers_of}
use Rattle.replay_rules.specs.Seen.{slots_live_at}
use Rattle.kill_engine.specs.Killers.{Represents}
use Rattle.replay_rules.specs.Judged.{IsToEvaluate, readings_of}
use Rattle.replay_rules.proofs.SeenLaws.{live_ascend}
use Rattle.replay_rules.proofs.ReadLaws.{suffix, has_rows, order_made, read_next}
use Rattle.replay_rules.proofs.evaluator.Evaluator.evaluate.Goals as goal

pub fill_reading-requires-clause-made : goal.fill_reading-requires-clause-made
fill_reading-requires-clause-made c =
    let order = c.args.order.now in
    let is = subst (λ e. IsToEvaluate e c.args.plans.now c.args.engine.now order c.requires.0
    c.requires.1 c.requires.2 c.requires.3 c.args.at) (sym c.self.view_is) c.requires.4 in
    subst (λ lives. All (λ (slot : Slot). slot.0 < length lives) order)
    (is.planned.represents.lives ∙ sym is.read.lives)
    (order_made c.args.plans.now.lives order is.by_path)

pub fill_reading-requires-clause-rows : goal.fill_reading-requires-clause-rows
fill_reading-requires-clause-rows c = λ slot room.
    has_rows c.args.engine.now c.requires.0 c.requires.1 (c.requires.3 + 1) slot c.requires.4.ticked
    room

pub fill_reading-requires-clause-ascend : goal.fill_reading-requires-clause-ascend
fill_reading-requires-clause-ascend c =
    let order = c.args.order.now in
    let trace = c.requires.0 in
    let is = subst (λ e. IsToEvaluate e c.args.plans.now c.args.engine.now order trace c.requires.1
    c.requires.2 c.requires.3 c.args.at) (sym c.self.view_is) c.requires.4 in
    let by_path = subst (λ lives. IsPathOrder lives (numbers_of order)) is.planned.represents.lives
    is.by_path in
    let ascend = live_ascend (limits_of c.requires.1.length trace.cpus) trace.events
    is.planned.accepted.legal (numbers_of order) by_path c.args.at in
    subst (λ lives. Ascend (map (path_at lives) (slots_live_at lives c.args.at (numbers_of order))))
    (sym is.read.lives) ascend

pub evaluate-requires-clause-later : goal.evaluate-requires-clause-later
evaluate-requires-clause-later c =
    let trace = c.requires.0 in
    let timing = c.requires.1 in
    let is = subst (λ e. IsToEvaluate e c.args.plans.now c.args.engine.now c.args.order.now trace
    timing c.requires.2 c.requires.3 c.args.at) (sym c.self.view_is) c.requires.4 in
    let at : c.fill_reading.new.reading.seen.at ≡ tick_moment timing.length (c.requires.3 + 1) =
    ap (λ (r : ReadingView). r.seen.at) c.fill_reading.ensures ∙ is.at_is in
    let last = subst (λ t. IsAfter t (tick_moment timing.length (c.requires.3 + 1)))
    (sym is.read.killer.last) (suffix c.args.plans.now trace timing c.requires.3 is.planned) in
    subst (IsAfter c.self.inside.killer.last) (sym at) last

pub evaluate-requires-clause-stands : goal.evaluate-requires-clause-stands
evaluate-requires-clause-stands c =
    let trace = c.requires.0 in
    let timing = c.requires.1 in
    let rules = c.requires.2 in
    let readings = readings_of trace timing c.requires.3 in
    let is = subst (λ e. IsToEvaluate e c.args.plans.now c.args.engine.now c.args.order.now trace
    timing rules c.requires.3 c.args.at) (sym c.self.view_is) c.requires.4 in
    let lives = ap (λ (r : ReadingView). r.lives) c.fill_reading.ensures ∙ is.read.lives in (
      rules,
      readings,
      subst (λ lives. Represents c.self.inside.killer lives rules readings)
          (sym lives) is.read.killer,
    )

pub returns : goal.returns
returns c = λ trace timing rules i maybe_rules.
    let is = subst (λ e. IsToEvaluate e c.args.plans.now c.args.engine.now c.args.order.now trace
    timing rules i c.args.at) (sym c.self.view_is) maybe_rules in
    let advances = subst (λ sides. Advances c.self.inside.watch c.advance.new.self sides c.args.at)
    c.sides.ensures.sides c.advance.ensures.advances in
    read_next _ (record {
      killer = c.evaluate.new.self;
      watch = c.advance.new.self;
      reading =
          c.fill_reading.new.reading;
    }) c.args.plans.now c.args.engine.now c.args.order.now trace timing
    rules i c.args.at
    is advances c.fill_reading.ensures c.evaluate.ensures.stands
