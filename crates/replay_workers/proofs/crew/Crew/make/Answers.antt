use Rattle.std.proofs.Common.{◌≡◌, ◌<◌, List, ℕ, ap, arith, length, subst, sym, ◌∙◌}
use Rattle.replay_workers.specs.Crew.{AreInRows, AreOnPlans, clocks_at}
use Rattle.replay_workers.specs.Lanes.{LaneView, clocks_of, no_ticks, rows_of}
use Rattle.replay_workers.proofs.Dealt.{all_in_rows, clocks_new, crew_new, on_plans}
use Rattle.replay_workers.proofs.Watched.{new_unsampled, written_back}
use Rattle.replay_workers.proofs.crew.Crew.make.Goals as goal

pub returns-clause-on : goal.returns-clause-on
returns-clause-on c =
    let plans = c.args.plans.now in
    let start = c.in_ok-batches.batches in
    let some : 0 < c.min.result = grind (arith, c.min.ensures, c.requires.some, c.cpus-cpus.ensures.counted) in
    let same : c.watch.new.batches ≡ start.items = c.watch.ensures.same ∙ c.deref_mut.ensures.value in
    let whole = written_back start.items c.watch.new.batches start.len (omega (arith, c.deref_mut.ensures.len, ap length c.watch.ensures.same)) ∙ same in
    let lanes = crew_new plans start.items _ c.min.result c.room_for-room.result c.in_ok-batches.ensures some c.room_for-room.ensures.some c.room_for-room.type_inv in
    subst (λ (batches : List (List LaneView)). AreOnPlans plans (clocks_of batches (length plans.plans))) (sym whole) (on_plans plans start.items no_ticks 0 c.room_for-room.result lanes)

pub returns-clause-fresh : goal.returns-clause-fresh
returns-clause-fresh c =
    let plans = c.args.plans.now in
    let start = c.in_ok-batches.batches in
    let some : 0 < c.min.result = grind (arith, c.min.ensures, c.requires.some, c.cpus-cpus.ensures.counted) in
    let same : c.watch.new.batches ≡ start.items = c.watch.ensures.same ∙ c.deref_mut.ensures.value in
    let whole = written_back start.items c.watch.new.batches start.len (omega (arith, c.deref_mut.ensures.len, ap length c.watch.ensures.same)) ∙ same in
    subst (λ (batches : List (List LaneView)). (cpu : ℕ) → cpu < length plans.plans → (clocks_at (clocks_of batches (length plans.plans)) cpu).made ≡ 0) (sym whole)
    (clocks_new plans start.items _ c.min.result c.room_for-room.result c.in_ok-batches.ensures some c.room_for-room.ensures.some c.room_for-room.type_inv)

pub returns-clause-unwatched : goal.returns-clause-unwatched
returns-clause-unwatched c = new_unsampled c.deref_mut.result.now c.if-is_live.watched c.args.live c.in_ok-watchers.watchers.items c.in_ok-watchers.ensures.new

pub returns-clause-rows : goal.returns-clause-rows
returns-clause-rows c = λ wanted.
    let plans = c.args.plans.now in
    let start = c.in_ok-batches.batches in
    let some : 0 < c.min.result = grind (arith, c.min.ensures, c.requires.some, c.cpus-cpus.ensures.counted) in
    let same : c.watch.new.batches ≡ start.items = c.watch.ensures.same ∙ c.deref_mut.ensures.value in
    let whole = written_back start.items c.watch.new.batches start.len (omega (arith, c.deref_mut.ensures.len, ap length c.watch.ensures.same)) ∙ same in
    subst (λ (batches : List (List LaneView)). AreInRows plans (rows_of batches (length plans.plans))) (sym whole)
    (all_in_rows plans start.items _ c.min.result c.room_for-room.result c.in_ok-batches.ensures some c.room_for-room.ensures.some c.room_for-room.type_inv (grind (arith, wanted)))
