use Rattle.std.proofs.Common.{ℕ, ◌<◌, None}
use Rattle.std.specs.Prelude.{IfSome, slice_index_or}
use Rattle.world_tests.proofs.processor.are_older.Given as goal

-- the parents so far are smaller
abbrev pub invariant-slots : goal.invariant-slots
invariant-slots l = (k : ℕ) → k < l.slot → IfSome (slice_index_or l.parents k None) (λ p. p.0 < k)
