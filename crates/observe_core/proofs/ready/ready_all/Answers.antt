use Rattle.std.proofs.Common.{◌≡◌, ◌<◌, ℕ, length, arith, rules, subst, ◌∙◌}
use Rattle.std.specs.Prelude.{slice_index_or}
use Rattle.std.proofs.lemmas.List.{get_or_default, length-set}
use Rattle.replay_ticks.specs.Replays.{ReplayView}
use Rattle.observe_core.specs.Observing.{ObserverView}
use Rattle.observe_core.specs.Driving.{IsReady, made_by}
use Rattle.observe_core.proofs.ReadyLaws.{each_next, left_next}
use Rattle.observe_core.proofs.ready.ready_all.Goals as goal

pub observers-preserved : goal.observers-preserved
observers-preserved g c =
    let i = c.observers.invariant in
    let start = c.args.observers.now in
    let now = c.observers.observers in
    let index = c.observers.observer-index in
    let new = c.ready.new.self in
    let slot = c.args.slot.0 in
    let replay = c.args.replay.now in
    let below : index < length now = search rules in
    let here : (d : ObserverView) → IsReady replay.plans slot (made_by replay.crew) (slice_index_or start index d) new = λ d.
    subst (λ (old : ObserverView). IsReady replay.plans slot (made_by replay.crew) old new) (get_or_default now index c.observer-item.result d below ∙ i.left index d (omega arith))
    (subst (λ (r : ReplayView). IsReady r.plans slot (made_by r.crew) (slice_index_or now index c.observer-item.result) new) i.same c.ready.ensures.ready) in
    record {
      same = c.ready.ensures.same ∙ i.same;
      many = length-set now index new ∙ i.many;
      ready = each_next (λ (k : ℕ) (old changed : ObserverView). IsReady replay.plans slot (made_by replay.crew) old changed) start now index new below i.ready here;
      left = left_next start now index new i.left;
    }
