use Rattle.std.proofs.Common.{◌≡◌, ◌+◌, ◌-◌, ◌≤◌, length, drop}
use Rattle.std.specs.Prelude.{not}
use Rattle.std.specs.List.{prefix_len}
use Rattle.ftrace_import.specs.Bytes.{is_at}
use Rattle.ftrace_import.proofs.places.count_before.Given as goal

abbrev pub invariant-bytes : goal.invariant-bytes
invariant-bytes l = record {
  inside : l.count ≤ length l.bytes;
  run : prefix_len (λ x. not (is_at l.byte x)) l.bytes ≡ l.count + prefix_len (λ x. not (is_at l.byte x)) (drop l.count l.bytes);
}

abbrev pub decreases-bytes : goal.decreases-bytes
decreases-bytes l = length l.bytes - l.count
