use Rattle.std.proofs.Common.{ap, arith, length}
use Rattle.std.proofs.lemmas.List.{length-drop}
use Rattle.std.proofs.lemmas.List.FromFn.{length-map-range_with_len}
use Rattle.replay_workers.specs.Crew.{CrewView, moment_in, moments_of}
use Rattle.replay_workers.proofs.crew.Crew.ready.Goals as goal

pub returns : goal.returns
returns c =
    let crew = c.self.inside in
    let many = length-map-range_with_len (moment_in crew.ticks) 0 crew.ticks.count in
    let left = length-drop crew.out (moments_of crew.ticks) in
    omega (arith, ap (λ (view : CrewView). length view.ready) c.self.view_is, many, left)
