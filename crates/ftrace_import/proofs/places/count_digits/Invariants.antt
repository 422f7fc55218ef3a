use Rattle.std.proofs.Common.{◌≡◌, ◌+◌, ◌-◌, ◌≤◌, length, drop}
use Rattle.std.specs.List.{prefix_len}
use Rattle.std.specs.Char.{is_ascii_digit}
use Rattle.ftrace_import.proofs.places.count_digits.Given as goal

abbrev pub invariant-digits : goal.invariant-digits
invariant-digits l = record {
  inside : l.count ≤ length l.bytes;
  run : prefix_len is_ascii_digit l.bytes ≡ l.count + prefix_len is_ascii_digit (drop l.count l.bytes);
}

abbrev pub decreases-digits : goal.decreases-digits
decreases-digits l = length l.bytes - l.count
