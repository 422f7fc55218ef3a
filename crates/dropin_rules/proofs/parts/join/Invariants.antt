use Rattle.std.proofs.Common.{◌≡◌, ◌+◌, length}
use Rattle.std.specs.Vec.Iter.{into_iter_items}
use Rattle.dropin_rules.specs.Joined.{joined_from}
use Rattle.dropin_rules.proofs.parts.join.Given as goal

abbrev pub invariant-parts : goal.invariant-parts
invariant-parts l = record {
  joined : joined_from l.number (into_iter_items l.part-iterator) l.rules ≡ joined_from 0 l.fn.parts.items l.fn.base.rules;
  count : l.number + length (into_iter_items l.part-iterator) ≡ length l.fn.parts.items;
}
