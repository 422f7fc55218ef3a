use Rattle.std.proofs.Common.{◌≡◌, ◌≤◌, ◌<◌, ◌-◌, ap, arith, length, refl, subst, ◌∙◌}
use Rattle.std.specs.Prelude.{min}
use Rattle.replay_workers.specs.declared.ticks.Ticks.{Ticks}
use Rattle.replay_ticks.proofs.AheadLaws.{AreNext, next_following, next_early, next_fits, next_ready, tick_after, tick_early, tick_ready}
use Rattle.replay_ticks.proofs.LiveLaws as live
use Rattle.replay_ticks.proofs.replay.look_ahead.Goals as goal

-- If a table is ready, the worker pool doesn't advance.
pub returns-then-ready-gt0-clause-reached : goal.returns-then-ready-gt0-clause-reached
returns-then-ready-gt0-clause-reached g c = λ trace timing is watching.
    let crew = c.args.crew.now in
    let some : 0 < length crew.ready = grind (arith, c.if-ready-gt0.true, c.ready.ensures) in
    let none = live.unwatched_ready crew c.args.live.now trace timing c.args.made some watching in
    (record { ahead = is.ahead; some = some }, live.reached_unwatched c.args.watched crew crew trace timing c.args.made none (live.idle_unwatched crew c.args.live.now trace timing c.args.made none watching) refl)

pub tick_moment-next-requires : goal.tick_moment-next-requires
tick_moment-next-requires g c = next_fits c.args.crew.now.plans c.args.crew.now c.args.run_timing c.requires.go.0 c.requires.go.1 c.args.made c.requires.go.2

-- With a watched path, the worker pool advances to the next tick only.
pub interval-requires-clause-not_past : goal.interval-requires-clause-not_past
interval-requires-clause-not_past g c =
    let crew = c.args.crew.now in
    let none : length crew.ready ≡ 0 = grind (arith, c.if-ready-gt0.false, c.ready.ensures) in
    λ _ _. tick_after crew.plans crew c.args.run_timing c.requires.go.0 c.requires.go.1 c.args.made c.tick_moment-next.result c.requires.go.2 none c.tick_moment-next.ensures

pub interval-requires-clause-early : goal.interval-requires-clause-early
interval-requires-clause-early g c = λ _ _. tick_early c.args.crew.now.plans c.args.crew.now c.args.run_timing c.requires.go.0 c.requires.go.1 c.args.made c.tick_moment-next.result c.requires.go.2 c.tick_moment-next.ensures

pub returns-in-Some-clause-reached : goal.returns-in-Some-clause-reached
returns-in-Some-clause-reached g c = λ trace timing is watching.
    let crew = c.args.crew.now in
    let new = c.interval.new.self in
    let watch = live.watch_is crew c.args.live.now _ trace timing c.args.made c.in-Some.is watching in
    let at_is = c.tick_moment-next.ensures ∙ live.moment_same c.args.run_timing trace timing c.args.made is.paced in
    let reached : live.HasReached crew.plans crew new trace timing c.args.made c.tick_moment-next.result = record {
      planned = is.planned;
      left = is.left;
      same = refl;
      at_is = at_is;
      there = subst (λ plans. live.AreThere plans new c.tick_moment-next.result) c.interval.ensures.plans c.interval.ensures.there;
      ready = c.interval.ensures.ready;
      requested = c.interval.ensures.requested;
    } in (
      tick_ready crew.plans crew new c.args.run_timing trace timing c.args.made c.tick_moment-next.result is c.tick_moment-next.ensures c.interval.ensures.plans c.interval.ensures.ready c.interval.ensures.there,
      live.reached_watched crew.plans crew new trace timing watch.0 c.args.made c.tick_moment-next.result c.args.watched watch.1 reached
          (tick_early crew.plans crew c.args.run_timing trace timing c.args.made c.tick_moment-next.result is c.tick_moment-next.ensures)
          (live.by_tick_is crew c.args.live.now trace timing c.args.made watch.0 watch.1 watching)
          (live.requested_is crew c.args.live.now trace timing c.args.made watch.0 watch.1 watching)
          c.interval.ensures.live,
    )

-- Without a watched path, the worker pool advances by several ticks.
pub intervals-requires-clause-not_past : goal.intervals-requires-clause-not_past
intervals-requires-clause-not_past g c =
    let crew = c.args.crew.now in
    let ticks : Ticks = record { first = c.tick_moment-next.result; length = c.args.run_timing.length; count = c.min.result } in
    let next : AreNext ticks crew c.args.run_timing c.args.made = record { first = c.tick_moment-next.ensures; length = refl; count = c.min.ensures ∙ ap (min (c.args.run_timing.last - c.args.made)) (c.from.ensures ∙ c.room.ensures.room) } in
    let none : length crew.ready ≡ 0 = grind (arith, c.if-ready-gt0.false, c.ready.ensures) in
    λ _ _. next_following ticks crew.plans crew c.args.run_timing c.requires.go.0 c.requires.go.1 c.args.made c.requires.go.2 none next

pub intervals-requires-clause-early : goal.intervals-requires-clause-early
intervals-requires-clause-early g c =
    let crew = c.args.crew.now in
    let ticks : Ticks = record { first = c.tick_moment-next.result; length = c.args.run_timing.length; count = c.min.result } in
    let next : AreNext ticks crew c.args.run_timing c.args.made = record { first = c.tick_moment-next.ensures; length = refl; count = c.min.ensures ∙ ap (min (c.args.run_timing.last - c.args.made)) (c.from.ensures ∙ c.room.ensures.room) } in
    let roomy = subst (λ n. 1 ≤ n) c.room.ensures.room c.room.ensures.some in
    λ _ _. next_early ticks crew.plans crew c.args.run_timing c.requires.go.0 c.requires.go.1 c.args.made c.requires.go.2 roomy next

pub returns-in-None-clause-reached : goal.returns-in-None-clause-reached
returns-in-None-clause-reached g c = λ trace timing is watching.
    let crew = c.args.crew.now in
    let ticks : Ticks = record { first = c.tick_moment-next.result; length = c.args.run_timing.length; count = c.min.result } in
    let next : AreNext ticks crew c.args.run_timing c.args.made = record { first = c.tick_moment-next.ensures; length = refl; count = c.min.ensures ∙ ap (min (c.args.run_timing.last - c.args.made)) (c.from.ensures ∙ c.room.ensures.room) } in
    let roomy = subst (λ n. 1 ≤ n) c.room.ensures.room c.room.ensures.some in
    let none = live.watch_none crew c.args.live.now trace timing c.args.made c.in-None.is watching in (
      next_ready ticks crew.plans crew c.intervals.new.self c.args.run_timing trace timing c.args.made is roomy next c.intervals.ensures.plans c.intervals.ensures.ready c.intervals.ensures.there,
      live.reached_unwatched c.args.watched crew c.intervals.new.self trace timing c.args.made none c.intervals.ensures.live c.intervals.ensures.requested,
    )
