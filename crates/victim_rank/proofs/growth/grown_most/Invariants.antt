use Rattle.std.proofs.Common.{◌≡◌, drop}
use Rattle.std.specs.Prelude.{IfSome, None, filter, option_map}
use Rattle.kill_spec.proofs.Foremost.{foremost}
use Rattle.victim_rank.specs.declared.growth.Grown.{Grown}
use Rattle.victim_rank.specs.Growth.{sizes_from}
use Rattle.victim_rank.specs.Grown.{IsGrownAt}
use Rattle.victim_rank.specs.Scopes.{is_in_rank}
use Rattle.victim_rank.proofs.Growing.{is_choosable, leads_over}
use Rattle.victim_rank.specs.Cutoffs.{IsCutoff}
use Rattle.detectors.specs.Inner.{group_at, groups_at}
use Rattle.victim_rank.proofs.growth.grown_most.Given as goal

abbrev pub invariant-groups : goal.invariant-groups
invariant-groups l = record {
  grown : IfSome l.best (IsGrownAt (sizes_from l.past) l.reading.seen.groups);
  known : IfSome l.cutoff (IsCutoff l.scope l.best_rank l.reading l.places l.few);
  rest : foremost (leads_over (sizes_from l.past))
      (option_map (λ (best : Grown). group_at l.reading.seen.groups best.place) l.best)
      (filter (is_choosable (sizes_from l.past) l.scope.lives l.ratio l.few
      (is_in_rank l.scope l.best_rank) l.reading.seen.groups)
      (groups_at l.reading.seen.groups (drop l.place-index l.places)))
      ≡ foremost (leads_over (sizes_from l.past)) None
      (filter (is_choosable (sizes_from l.past) l.scope.lives l.ratio l.few
      (is_in_rank l.scope l.best_rank) l.reading.seen.groups) (groups_at l.reading.seen.groups l.places));
}
