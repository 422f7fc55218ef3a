-- Compares the best candidate found with the next candidate, in a loop over the groups of a scope.
use Rattle.std.specs.Prelude.{◌≡◌, ◌<◌, List, length, nat_lt, ◌==◌, ◌&&◌, ◌||◌, Bool}
use Rattle.ruleset_json.specs.declared.types.Action.{Action}
use Rattle.kill_spec.specs.declared.reading.GroupReading.{GroupReading}
use Rattle.kill_spec.specs.Victims.{rank_of}
use Rattle.detectors.specs.Inner.{group_at}
use Rattle.victim_rank.specs.Pasts.{Kept}
use Rattle.victim_rank.specs.Scopes.{measure_of}
use Rattle.victim_rank.specs.declared.foremost.Measured.{Measured}

-- Whether `next` beats the earlier candidate `best`: its preference rank is greater, or the ranks
-- are equal and its measure is greater.
abbrev pub leads_measured : Measured → Measured → Bool
leads_measured next best =
    nat_lt best.rank next.rank || (next.rank == best.rank && nat_lt best.measure next.measure)

-- `measured` has the preference rank and the measure of the group at index `measured.place`.
pub record IsMeasured (act : Action) (kept : Kept) (groups : List GroupReading)
    (measured : Measured) : Type 0 where
  pub within : measured.place < length groups
  pub rank_is : measured.rank ≡ rank_of (group_at groups measured.place)
  pub measure_is : measured.measure ≡ measure_of act kept (group_at groups measured.place)
