use Rattle.std.proofs.Common.{◌∙◌, ◌++◌, ap, sym}
use Rattle.whatif_trace.proofs.Accepted.{same_at_end}
use Rattle.whatif_trace.proofs.removal.all_left.Goals as goal

pub returns : goal.returns
returns c =
    c.in_ok-keep_copies.ensures
    ∙ ap (λ kept. kept ++ c.args.events.now) c.new-kept.ensures.items
    ∙ sym (same_at_end c.args.events.now c.args.at c.args.victim.0 (sym c.is_before_end.ensures ∙ c.if-is_before_end.false))
