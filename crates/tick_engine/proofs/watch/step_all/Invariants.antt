use Rattle.std.proofs.Common.{◌≡◌, ℕ, ◌<◌, ◌≤◌, vec_len}
use Rattle.std.specs.Prelude.{vec_capacity}
use Rattle.tick_engine.specs.Step.{fired_among, watch_in, watch_stepped}
use Rattle.tick_engine.proofs.watch.step_all.Given as goal

abbrev pub invariant-watches : goal.invariant-watches
invariant-watches l = record {
  done : (i : ℕ) → i < l.number → watch_in l.watches i ≡ watch_stepped l.groups l.now (watch_in l.fn.watches i);
  left : (i : ℕ) → l.number ≤ i → watch_in l.watches i ≡ watch_in l.fn.watches i;
  fired : l.fired.items ≡ fired_among l.groups l.now l.fn.watches l.number;
  few : vec_len l.fired ≤ l.number;
  room : vec_capacity l.fn.fired ≤ vec_capacity l.fired;
}
