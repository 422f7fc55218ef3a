use Rattle.std.proofs.Common.{◌≡◌, ℕ, ◌<◌, ◌≤◌, List, length, drop, get_or}
use Rattle.std.specs.Prelude.{◌||◌, Some, All}
use Rattle.std.specs.List.{list_any}
use Rattle.ruleset_json.specs.declared.types.DetectorGroup.{DetectorGroup}
use Rattle.kill_spec.specs.Readings.{Reading}
use Rattle.kill_spec.specs.Detectors.{group_holds}
use Rattle.detectors.specs.Views.{DetectorView}
use Rattle.kill_engine.specs.Rulesets.{AllTake, GroupsRepresent, IsAt}
use Rattle.kill_engine.proofs.ruleset.step_groups.Given as goal

abbrev pub invariant-groups : goal.invariant-groups
invariant-groups l = record {
  take : (k : ℕ) → k < l.group-index → (d : List DetectorView) → AllTake (get_or l.fn.groups k d) l.reading (get_or l.groups k d);
  at : (k : ℕ) → k < l.group-index → (d : List DetectorView) → All (IsAt (Some l.reading.seen.at) (length l.reading.lives)) (get_or l.groups k d);
  left : (k : ℕ) (d : List DetectorView) → l.group-index ≤ k → get_or l.groups k d ≡ get_or l.fn.groups k d;
  answer : (specs : List DetectorGroup) (history : List Reading) → GroupsRepresent l.reading.lives history l.fn.groups specs →
      (l.fires || list_any (λ (group : DetectorGroup). group_holds l.reading.lives group l.reading.seen history) (drop l.group-index specs))
      ≡ list_any (λ (group : DetectorGroup). group_holds l.reading.lives group l.reading.seen history) specs;
}
