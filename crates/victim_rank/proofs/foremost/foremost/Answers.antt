use Rattle.std.proofs.Common.{◌∙◌, ap}
use Rattle.std.specs.Prelude.{None, Some}
use Rattle.std.proofs.lemmas.List.{drop_all}
use Rattle.kill_spec.proofs.Foremost.{foremost}
use Rattle.kill_spec.proofs.ChoiceLaws.{leads_by}
use Rattle.detectors.specs.Inner.{group_at, groups_at}
use Rattle.victim_rank.specs.Scopes.{is_eligible, is_in_view, measure_of}
use Rattle.victim_rank.proofs.Scoped.{kept_by, walked}
use Rattle.victim_rank.proofs.foremost.foremost.Goals as goal

pub returns-in-Some-best-clause-choice : goal.returns-in-Some-best-clause-choice
returns-in-Some-best-clause-choice c =
    let scope = c.args.scope.now in
    let seen = c.args.reading.now.seen in
    let places = c.places-place-items in
    let measure = measure_of scope.act c.args.past.now in
    let eligible = is_eligible scope.act seen.host c.args.past.now in
    let rest = rw (
      drop_all c.groups.place-index places.result.now c.groups-test.false,
      c.in-Some-best.is,
    ) at c.groups.invariant.rest in
    rw c.group.ensures.group (walked scope.lives scope.act scope.above seen measure eligible
    (rw c.requires.lives at places.ensures.read.order) (Some (group_at seen.groups c.in-Some-best.best.place))
    (rest ∙ ap (foremost (leads_by measure) None)
    (kept_by (is_in_view scope) eligible (groups_at seen.groups places.result.now) seen.groups places.ensures.groups)))

pub returns-in-None-clause-choice : goal.returns-in-None-clause-choice
returns-in-None-clause-choice c =
    let scope = c.args.scope.now in
    let seen = c.args.reading.now.seen in
    let places = c.places-place-items in
    let measure = measure_of scope.act c.args.past.now in
    let eligible = is_eligible scope.act seen.host c.args.past.now in
    let rest = rw (
      drop_all c.groups.place-index places.result.now c.groups-test.false,
      c.in-None.is,
    ) at c.groups.invariant.rest in
    walked scope.lives scope.act scope.above seen measure eligible
    (rw c.requires.lives at places.ensures.read.order) None
    (rest ∙ ap (foremost (leads_by measure) None)
    (kept_by (is_in_view scope) eligible (groups_at seen.groups places.result.now) seen.groups places.ensures.groups))

pub returns-in-Some-best-clause-order : goal.returns-in-Some-best-clause-order
returns-in-Some-best-clause-order c = rw c.requires.lives at c.places-place-items.ensures.read.order

pub returns-in-None-clause-order : goal.returns-in-None-clause-order
returns-in-None-clause-order c = rw c.requires.lives at c.places-place-items.ensures.read.order
