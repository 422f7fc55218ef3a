use Rattle.std.proofs.Common.{ap, ◌∙◌}
use Rattle.std.proofs.lemmas.Iterator.{items_from_collect}
use Rattle.std.proofs.lemmas.Iterator.Adapters.{YieldsList-from_skip, YieldsList-from_vec}
use Rattle.std.specs.Vec.Iter.{into_iter_items, into_iter_len}
use Rattle.host_files.proofs.words.after_the_name.Goals as goal

-- The collected words are those that the vector yields after its first item.
pub returns : goal.returns
returns c =
    let from = c.skip.ensures.source in
    items_from_collect _ c.collect.ensures.ran
    (YieldsList-from_skip 1
    (YieldsList-from_vec (into_iter_items c.args.words) (ap into_iter_items from) (ap into_iter_len from ∙ c.args.words.rest.ok.0))
    c.skip.ensures.count)
