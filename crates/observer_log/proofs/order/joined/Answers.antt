use Rattle.std.proofs.Common.{◌∙◌, ◌∷◌, [], ◌++◌, ap, sym, take, rules}
use Rattle.observer_log.specs.Entries.{by}
use Rattle.observer_log.specs.Journal.{joined}
use Rattle.std.proofs.lemmas.List.{take_all, take_more}
use Rattle.observer_log.proofs.Taken.{joined_own, joined_push}
use Rattle.observer_log.proofs.order.joined.Goals as goal

pub lists-preserved : goal.lists-preserved
lists-preserved c =
    let own = c.args.own.now in
    let list = c.list-item.result in
    let more = take_more own c.lists.list-index list (search rules) ∙ ap (λ l. take c.lists.list-index own ++ l ∷ []) (sym c.list-item.is) in
    c.in_ok-extend_from_slice.ensures.items ∙ ((λ i. c.lists.invariant i ++ c.entries.ensures i) ∙ (sym (joined_push (take c.lists.list-index own) list) ∙ ap joined (sym more)))

pub returns-clause-own : goal.returns-clause-own
returns-clause-own c = λ o. ap (by o) (c.lists.invariant ∙ ap joined (take_all c.lists.list-index c.args.own.now (search rules))) ∙ joined_own c.args.own.now c.requires o
