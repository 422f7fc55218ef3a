use Rattle.std.proofs.Common.{◌≡◌, arith, subst, sym}
use Rattle.std.specs.Prelude.{Some, slice_get}
use Rattle.replay_workers.specs.Crew.{CrewView, IsTableAt, moment_in}
use Rattle.replay_workers.specs.Lanes.{AreKept}
use Rattle.replay_workers.proofs.Dealt.{are_kept, crew_less, first_ready, handed_out}
use Rattle.replay_workers.proofs.crew.Crew.fill.Goals as goal

pub fill-requires-clause-unchanged : goal.fill-requires-clause-unchanged
fill-requires-clause-unchanged c =
    let crew = c.self.inside in
    let first = first_ready crew.ticks crew.out c.args.at (subst (λ (view : CrewView). slice_get view.ready 0 ≡ Some c.args.at) (sym c.self.view_is) c.requires.first) in
    let kept = are_kept crew.plans.now crew.batches.items crew.ticks crew.out crew.room c.self.invariant.lanes first.0 in
    (moment_in crew.ticks crew.out, subst (λ batches. AreKept crew.plans.now batches crew.out (moment_in crew.ticks crew.out)) (sym c.deref.ensures.value) kept)

pub overflow_add-self : goal.overflow_add-self
overflow_add-self c =
    let crew = c.self.inside in
    let first = first_ready crew.ticks crew.out c.args.at (subst (λ (view : CrewView). slice_get view.ready 0 ≡ Some c.args.at) (sym c.self.view_is) c.requires.first) in
    let within = c.self.invariant.lanes.within in
    let countable = c.self.invariant.lanes.countable in
    omega (arith, first.0, within, countable)

pub invariant_of-self : goal.invariant_of-self
invariant_of-self c =
    let crew = c.self.inside in
    let first = first_ready crew.ticks crew.out c.args.at (subst (λ (view : CrewView). slice_get view.ready 0 ≡ Some c.args.at) (sym c.self.view_is) c.requires.first) in
    record {
      lanes = handed_out crew.plans.now crew.batches.items crew.ticks crew.out crew.room c.self.invariant.lanes first.0;
      watched = c.self.invariant.watched;
    }

pub returns-clause-unchanged : goal.returns-clause-unchanged
returns-clause-unchanged c =
    let crew = c.self.inside in
    crew_less crew.plans.now crew.batches.items crew.ticks crew.out crew.room crew.requested crew.watchers.items c.args.self.now c.self.view_is

pub returns-clause-table : goal.returns-clause-table
returns-clause-table c =
    let crew = c.self.inside in
    let first = first_ready crew.ticks crew.out c.args.at (subst (λ (view : CrewView). slice_get view.ready 0 ≡ Some c.args.at) (sym c.self.view_is) c.requires.first) in
    let kept = are_kept crew.plans.now crew.batches.items crew.ticks crew.out crew.room c.self.invariant.lanes first.0 in
    let table = c.fill.ensures (moment_in crew.ticks crew.out) (subst (λ batches. AreKept crew.plans.now batches crew.out (moment_in crew.ticks crew.out)) (sym c.deref.ensures.value) kept) in
    subst (λ (view : CrewView). IsTableAt c.fill.new.rows view.plans c.args.at) c.self.view_is (subst (IsTableAt c.fill.new.rows crew.plans.now) (sym first.1) table)
