use Rattle.std.proofs.Common.{◌≡◌, ◌+◌, ◌<◌, arith, subst, sym, ◌∙◌}
use Rattle.victim_rank.specs.Cutoffs.{count_reaching}
use Rattle.victim_rank.specs.Scopes.{is_in_rank}
use Rattle.victim_rank.proofs.Cutoffs.{cut_between, cut_exact}
use Rattle.victim_rank.proofs.cutoff.cutoff.Goals as goal

pub returns-then-count-few : goal.returns-then-count-few
returns-then-count-few c = cut_exact c.args.scope.now c.args.best_rank c.args.reading.now
    c.args.places.now c.args.few c.requires.ranking _ (sym c.count_reaching-count.ensures ∙ c.if-count-few.true)

pub returns : goal.returns
returns c =
    let places = c.args.places.now in
    let count = count_reaching (is_in_rank c.args.scope.now c.args.best_rank) c.args.reading.now.seen.groups places in
    let next : c.halves.high ≡ c.halves.low + 1 =
    omega (arith, c.halves-test.false, c.halves.invariant.order) in
    cut_between c.args.scope.now c.args.best_rank c.args.reading.now places c.args.few
    c.requires.ranking c.halves.low c.halves.invariant.low
    (subst (λ key. count key < c.args.few) next c.halves.invariant.high)
