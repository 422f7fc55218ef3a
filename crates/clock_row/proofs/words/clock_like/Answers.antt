use Rattle.std.proofs.Common.{rules, ◌∙◌, length, ◌≡◌}
use Rattle.clock_row.proofs.NineWords.{masked_same, masked_whole}
use Rattle.clock_row.proofs.words.clock_like.Goals as goal

pub from_words-requires : goal.from_words-requires
from_words-requires c = let nine : length c.args.words ≡ 9 = search rules in masked_whole c.args.words nine

pub returns : goal.returns
returns c = λ are. c.from_words.ensures ∙ masked_same c.args.words are
