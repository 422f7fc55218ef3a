use Rattle.std.proofs.Common.{◌<◌, ℕ, length, arith, rules, subst, ◌∙◌}
use Rattle.std.specs.Prelude.{slice_index_or}
use Rattle.std.proofs.lemmas.List.{get_or_default, length-set}
use Rattle.replay_ticks.specs.Replays.{ReplayView}
use Rattle.observe_core.specs.Observing.{ObserverView}
use Rattle.observe_core.specs.Driving.{IsSettled, made_by}
use Rattle.observe_core.proofs.ReadyLaws.{each_next, left_next}
use Rattle.observe_core.proofs.settle.settle_all.Goals as goal

pub observers-preserved : goal.observers-preserved
observers-preserved g c =
    let i = c.observers.invariant in
    let start = c.args.observers.now in
    let now = c.observers.observers in
    let index = c.observers.observer-index in
    let new = c.settle.new.self in
    let replay = c.args.replay.now in
    let below : index < length now = search rules in
    let here : (d : ObserverView) → IsSettled (made_by replay.crew) (slice_index_or start index d) new = λ d.
    subst (λ (old : ObserverView). IsSettled (made_by replay.crew) old new) (get_or_default now index c.observer-item.result d below ∙ i.left index d (omega arith))
    (subst (λ (r : ReplayView). IsSettled (made_by r.crew) (slice_index_or now index c.observer-item.result) new) i.same c.settle.ensures.settled) in
    record {
      same = c.settle.ensures.same ∙ i.same;
      many = length-set now index new ∙ i.many;
      settled = each_next (λ (k : ℕ) (old changed : ObserverView). IsSettled (made_by replay.crew) old changed) start now index new below i.settled here;
      left = left_next start now index new i.left;
    }
