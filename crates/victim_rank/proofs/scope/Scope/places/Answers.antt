use Rattle.std.proofs.Common.{◌≡◌, ◌∙◌, ap, sym}
use Rattle.std.specs.Prelude.{Some}
use Rattle.detectors.specs.Inner.{groups_at}
use Rattle.victim_rank.specs.Scopes.{ScopeView}
use Rattle.victim_rank.proofs.Scoped.{below_view}
use Rattle.victim_rank.proofs.scope.Scope.places.Goals as goal

pub returns-in-Some-clause-groups : goal.returns-in-Some-clause-groups
returns-in-Some-clause-groups c =
    let scope = c.args.self.now in
    let groups = c.args.reading.now.seen.groups in
    let above : scope.above ≡ Some c.in-Some.above =
    sym (ap (λ (v : ScopeView). v.above) c.self.view_is) ∙ c.in-Some.is in
    below_view scope c.in-Some.above (groups_at groups c.below.result.now) groups above
    (rw c.requires at c.below.ensures.groups)
