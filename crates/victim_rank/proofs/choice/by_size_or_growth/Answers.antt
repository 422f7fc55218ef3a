use Rattle.std.proofs.Common.{◌≡◌, ◌∙◌, ap, sym}
use Rattle.std.specs.Prelude.{Some, filter, nat_le, ◌*◌}
use Rattle.kill_spec.specs.Victims.{◌or_else◌, memory_in_use, total_size}
use Rattle.victim_rank.specs.Growth.{sizes_from}
use Rattle.victim_rank.specs.Scopes.{among, is_in_rank}
use Rattle.victim_rank.proofs.Scoped.{among_is}
use Rattle.victim_rank.proofs.SizeChoice.{by_size, choice_large, choice_none, choice_small, or_is}
use Rattle.victim_rank.proofs.Chosen.{among_order, grown_among, ranked}
use Rattle.victim_rank.proofs.choice.by_size_or_growth.Goals as goal

pub returns-in_default : goal.returns-in_default
returns-in_default c =
    let scope = c.args.scope.now in
    let seen = c.args.reading.now.seen in
    let groups = among scope.lives scope.act scope.above seen in
    let pairs = among_order scope.lives scope.act scope.above seen c.foremost.ensures.order in
    let none = sym (by_size scope.act seen.host c.args.past.now scope.lives groups c.requires.sizes)
    ∙ sym c.foremost.ensures.choice ∙ c.in_default.is in
    choice_none (sizes_from c.args.past.now) scope.lives c.args.size_threshold c.args.percentile
    c.args.ratio groups pairs none

pub returns-then-is_large : goal.returns-then-is_large
returns-then-is_large c =
    let scope = c.args.scope.now in
    let seen = c.args.reading.now.seen in
    let groups = among scope.lives scope.act scope.above seen in
    let pairs = among_order scope.lives scope.act scope.above seen c.foremost.ensures.order in
    let some = sym (by_size scope.act seen.host c.args.past.now scope.lives groups c.requires.sizes)
    ∙ sym c.foremost.ensures.choice ∙ c.in-Some.is in
    let total : c.total_size.result ≡ total_size groups = c.total_size.ensures.sum ∙
    ap total_size (sym (among_is scope.lives scope.act scope.above seen)) in
    let share = sym (ap (λ n. nat_le (c.args.size_threshold * n) (memory_in_use c.in-Some.largest * 100))
    total) ∙ sym c.is_large.ensures ∙ c.if-is_large.true in
    choice_large (sizes_from c.args.past.now) scope.lives c.args.size_threshold c.args.percentile
    c.args.ratio groups c.in-Some.largest pairs some share

pub returns : goal.returns
returns c =
    let scope = c.args.scope.now in
    let seen = c.args.reading.now.seen in
    let best = c.in-Some.largest in
    let groups = among scope.lives scope.act scope.above seen in
    let pairs = among_order scope.lives scope.act scope.above seen c.foremost.ensures.order in
    let some = sym (by_size scope.act seen.host c.args.past.now scope.lives groups c.requires.sizes)
    ∙ sym c.foremost.ensures.choice ∙ c.in-Some.is in
    let total : c.total_size.result ≡ total_size groups = c.total_size.ensures.sum ∙
    ap total_size (sym (among_is scope.lives scope.act scope.above seen)) in
    let share = sym (ap (λ n. nat_le (c.args.size_threshold * n) (memory_in_use best * 100)) total) ∙
    sym c.is_large.ensures ∙ c.if-is_large.false in
    let grown = grown_among scope.lives (sizes_from c.args.past.now) c.args.percentile c.args.ratio
    c.count_above-few.result c.count_in_rank.result c.rank-best_rank.result best groups
    (filter (is_in_rank scope c.rank-best_rank.result) seen.groups) c.grown_most.result
    (ranked scope.lives scope.act scope.above seen best c.rank-best_rank.result
    c.rank-best_rank.ensures) c.count_in_rank.ensures c.count_above-few.ensures
    c.grown_most.ensures in
    c.or.ensures ∙ or_is c.grown_most.result (Some best) ∙ ap (λ o. o or_else Some best) grown
    ∙ choice_small (sizes_from c.args.past.now) scope.lives c.args.size_threshold c.args.percentile
    c.args.ratio groups best pairs some share
