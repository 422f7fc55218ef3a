use Rattle.std.proofs.Common.{◌≡◌, ◌+◌, ◌≤◌, List, ◌++◌, drop, vec_len}
use Rattle.std.specs.Prelude.{find, vec_capacity}
use Rattle.kill_spec.specs.Readings.{Reading}
use Rattle.kill_spec.specs.Kills.{chain, ends_chain}
use Rattle.victim_rank.specs.Pasts.{IsPastOf}
use Rattle.kill_engine.proofs.chain.take_chain.Given as goal

abbrev pub invariant-actions : goal.invariant-actions
invariant-actions l = record {
  found : (history : List Reading) → IsPastOf l.past history →
      l.found.items ++ chain l.reading.lives l.number l.act (drop l.act l.actions) l.reading.seen history
      ≡ l.fn.found.items ++ chain l.reading.lives l.number 0 l.actions l.reading.seen history;
  ending : (history : List Reading) → IsPastOf l.past history →
      find (ends_chain l.actions) (chain l.reading.lives l.number l.act (drop l.act l.actions) l.reading.seen history)
      ≡ find (ends_chain l.actions) (chain l.reading.lives l.number 0 l.actions l.reading.seen history);
  few : vec_len l.found ≤ vec_len l.fn.found + l.act;
  room : vec_capacity l.fn.found ≤ vec_capacity l.found;
}
