use Rattle.std.proofs.Common.{◌≡◌, ◌+◌, ◌*◌, ◌≤◌}
use Rattle.std.specs.Prelude.{vec_capacity, vec_len}
use Rattle.std.specs.List.{All}
use Rattle.plan_laws.specs.Plan.{IsClock}
use Rattle.clock_row.specs.declared.reader.Sample.{Sample}
use Rattle.clock_row.specs.Tries.{IsTried, tries_of}
use Rattle.replay_workers.specs.Crew.{counts_sampled}
use Rattle.replay_workers.proofs.Tries.{Rises}
use Rattle.replay_workers.proofs.watch.sample_on.Given as goal

abbrev pub invariant-samples : goal.invariant-samples
invariant-samples g l = record {
  row : l.reader.row ≡ l.fn.reader.row;
  plan : l.reader.knows.plan ≡ l.fn.reader.knows.plan;
  room : l.fn.requested ≤ vec_capacity l.samples;
  many : vec_len l.samples ≡ l.index;
  newest : IsClock l.newest.clock l.fn.reader.knows.plan l.fn.slot.0 l.newest.count;
  seen : l.newest.count ≡ l.reader.knows.seen;
  clocks : All (λ (sample : Sample). IsClock sample.clock l.fn.reader.knows.plan l.fn.slot.0 sample.count) l.samples.items;
  rise : Rises l.fn.last.count (counts_sampled l.samples.items) l.reader.knows.seen;
  tried : IsTried (counts_sampled l.samples.items) l.fn.last.count l.fn.reader.knows l.reader.knows;
  few : tries_of l.reader.knows ≤ tries_of l.fn.reader.knows + 8 * l.index;
}
