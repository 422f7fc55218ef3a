use Rattle.std.proofs.Common.{◌≡◌, ℕ, ◌<◌, ◌≤◌}
use Rattle.aggregate.specs.Table.{HaveSameSizes}
use Rattle.tick_engine.specs.Step.{AreTotalsWithin, engine_group, group_step}
use Rattle.tick_engine.specs.Tables.{tick_at}
use Rattle.tick_engine.proofs.StepLaws.{TakesRows}
use Rattle.tick_engine.proofs.group.tick_all.Given as goal

abbrev pub invariant-groups : goal.invariant-groups
invariant-groups l = record {
  sizes : HaveSameSizes l.last.table l.rows;
  last : TakesRows l.fn.last (tick_at l.now l.rows) l.last l.slot;
  done : (slot : ℕ) → slot < l.slot → engine_group l.groups slot ≡ group_step l.fn.last (tick_at l.now l.rows) slot (engine_group l.fn.groups slot);
  left : (slot : ℕ) → l.slot ≤ slot → engine_group l.groups slot ≡ engine_group l.fn.groups slot;
  totals : (slot : ℕ) → slot < l.slot → AreTotalsWithin (tick_at l.now l.rows) slot (engine_group l.groups slot);
}
