use Rattle.std.proofs.Common.{◌≡◌, ◌-◌, ◌<◌, ◌≤◌, ◌⊎◌, ◌^◌}
use Rattle.victim_rank.specs.Cutoffs.{count_reaching}
use Rattle.victim_rank.specs.Scopes.{is_in_rank}
use Rattle.victim_rank.proofs.cutoff.cutoff.Given as goal

abbrev pub invariant-halves : goal.invariant-halves
invariant-halves l = record {
  low : (l.low ≡ 0) ⊎ (l.few ≤ count_reaching (is_in_rank l.scope l.best_rank)
      l.reading.seen.groups l.places l.low);
  high : count_reaching (is_in_rank l.scope l.best_rank) l.reading.seen.groups l.places l.high
      < l.few;
  order : l.low < l.high;
  fits : l.high ≤ 2 ^ 71;
}

abbrev pub decreases-halves : goal.decreases-halves
decreases-halves l = l.high - l.low
