use Rattle.std.proofs.Common.{arith}
use Rattle.clock_row.proofs.NineWords.{words_are}
use Rattle.clock_row.proofs.words.own_words.Goals as goal

pub returns-clause-words : goal.returns-clause-words
returns-clause-words c = words_are 9 _ _ _ c.words.invariant.wide c.requires.room (λ i l. c.words.invariant.each i (omega arith))
