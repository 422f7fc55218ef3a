use Rattle.std.proofs.Common.{◌≡◌, drop}
use Rattle.std.specs.Prelude.{IfSome, None, ◌&&◌, filter, option_map}
use Rattle.kill_spec.specs.declared.reading.GroupReading.{GroupReading}
use Rattle.kill_spec.proofs.Foremost.{foremost}
use Rattle.kill_spec.proofs.ChoiceLaws.{leads_by}
use Rattle.victim_rank.specs.declared.foremost.Measured.{Measured}
use Rattle.victim_rank.specs.Scopes.{is_eligible, is_in_view, measure_of}
use Rattle.victim_rank.specs.Walks.{IsMeasured}
use Rattle.detectors.specs.Inner.{group_at, groups_at}
use Rattle.victim_rank.proofs.foremost.foremost.Given as goal

abbrev pub invariant-groups : goal.invariant-groups
invariant-groups l = record {
  measured : IfSome l.best (IsMeasured l.scope.act l.past l.reading.seen.groups);
  rest : foremost (leads_by (measure_of l.scope.act l.past))
      (option_map (λ (best : Measured). group_at l.reading.seen.groups best.place) l.best)
      (filter (λ (group : GroupReading). is_in_view
      l.scope group && is_eligible l.scope.act l.reading.seen.host l.past group)
      (groups_at l.reading.seen.groups (drop l.place-index l.place-items)))
      ≡ foremost (leads_by (measure_of l.scope.act l.past)) None
      (filter (λ (group : GroupReading). is_in_view
      l.scope group && is_eligible l.scope.act l.reading.seen.host l.past group)
      (groups_at l.reading.seen.groups l.place-items));
}
