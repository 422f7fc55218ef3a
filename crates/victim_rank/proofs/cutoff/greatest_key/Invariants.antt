use Rattle.std.proofs.Common.{◌≡◌, ◌+◌, ◌<◌, ◌^◌, take}
use Rattle.victim_rank.specs.Cutoffs.{count_reaching}
use Rattle.victim_rank.specs.Scopes.{is_in_rank}
use Rattle.victim_rank.proofs.cutoff.greatest_key.Given as goal

abbrev pub invariant-places : goal.invariant-places
invariant-places l = record {
  none : count_reaching (is_in_rank l.scope l.best_rank) l.reading.seen.groups
      (take l.place-index l.places) (l.greatest + 1) ≡ 0;
  fits : l.greatest < 2 ^ 71;
}
