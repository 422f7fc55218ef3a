use Rattle.std.proofs.Common.{◌≡◌, None, ℕ, length}
use Rattle.std.specs.Prelude.{slice_index_or}
use Rattle.task_table.proofs.table.Table.new.Given as goal

abbrev pub invariant-loop : goal.invariant-loop
invariant-loop l = record {
  count : length l.running.items ≡ l.counter;
  none : (i : ℕ) → slice_index_or l.running.items i None ≡ None;
}
