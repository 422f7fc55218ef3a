use Rattle.std.proofs.Common.{◌≡◌, ◌+◌, ◌-◌, ◌<◌, ◌^◌, [], length}
use Rattle.convert_table.specs.Table.{rows_from}
use Rattle.convert_table.proofs.read.read_rows.Given as goal

abbrev pub invariant-lines : goal.invariant-lines
invariant-lines l = record {
  rows : rows_from l.size l.number l.letters.items l.kinds.items l.lines ≡ rows_from l.fn.size 3 [] [] l.fn.lines;
  few : l.number + length l.lines < 2 ^ 32 - 1;
}

abbrev pub decreases-lines : goal.decreases-lines
decreases-lines l = length l.lines
