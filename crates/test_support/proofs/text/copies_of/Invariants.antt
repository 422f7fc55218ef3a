use Rattle.std.proofs.Common.{◌≡◌, map, take}
use Rattle.std.specs.Prelude.{string_bytes}
use Rattle.test_support.proofs.text.copies_of.Given as goal

abbrev pub invariant-texts : goal.invariant-texts
invariant-texts l = map string_bytes l.copies.items ≡ map (λ text. text.now) (take l.text-index l.texts)
