use Rattle.std.proofs.Common.{◌≡◌, take}
use Rattle.detectors.specs.Views.{reading_of}
use Rattle.group_tree.specs.Tree.{numbers_of}
use Rattle.replay_rules.specs.Seen.{reading_by}
use Rattle.replay_rules.proofs.seen.fill_reading.Given as goal

abbrev pub invariant-slots : goal.invariant-slots
invariant-slots l =
    l.reading ≡ reading_of l.fn.reading.lives
    (reading_by l.engine l.watch l.fn.reading.lives l.at
    (numbers_of (take l.slot-index l.order)))
