use Rattle.std.proofs.Common.{◌≡◌, ℕ, ◌*◌, ◌<◌, ◌≤◌, List, ◌++◌, length, drop, get_or, vec_len}
use Rattle.std.specs.Prelude.{Some, vec_capacity}
use Rattle.ruleset_json.specs.declared.types.Rule.{Rule}
use Rattle.kill_spec.specs.Readings.{Reading}
use Rattle.kill_spec.specs.Kills.{kills_from}
use Rattle.victim_rank.specs.Pasts.{IsPastOf}
use Rattle.kill_engine.specs.Rulesets.{IsRulesetAt, RulesetTakes, RulesetView}
use Rattle.kill_engine.specs.Killers.{RulesetsRepresent}
use Rattle.kill_engine.proofs.killer.evaluate_all.Given as goal

abbrev pub invariant-rulesets : goal.invariant-rulesets
invariant-rulesets l = record {
  take : (k : ℕ) → k < l.number → (d : RulesetView) → RulesetTakes k (get_or l.fn.rulesets k d) l.reading l.past (get_or l.rulesets k d);
  at : (k : ℕ) → k < l.number → (d : RulesetView) → IsRulesetAt (Some l.reading.seen.at) (length l.reading.lives) (get_or l.rulesets k d);
  left : (k : ℕ) (d : RulesetView) → l.number ≤ k → get_or l.rulesets k d ≡ get_or l.fn.rulesets k d;
  kills : (rules : List Rule) (history : List Reading) → RulesetsRepresent l.reading.lives history 0 l.fn.rulesets rules → IsPastOf l.past history →
      l.found.items ++ kills_from l.reading.lives l.number (drop l.number rules) l.reading.seen history
      ≡ kills_from l.reading.lives 0 rules l.reading.seen history;
  few : vec_len l.found ≤ 16 * l.number;
  room : vec_capacity l.fn.found ≤ vec_capacity l.found;
}
