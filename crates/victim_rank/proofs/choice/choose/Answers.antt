use Rattle.std.proofs.Common.{◌∙◌, sym}
use Rattle.victim_rank.specs.Scopes.{among}
use Rattle.victim_rank.proofs.Chosen.{pressure_chosen, scan_chosen, size_chosen, swap_chosen}
use Rattle.victim_rank.proofs.choice.choose.Goals as goal

pub returns-in-SizeOrGrowth : goal.returns-in-SizeOrGrowth
returns-in-SizeOrGrowth c = λ history past.
    let scope = c.args.scope.now in
    size_chosen c.args.past.now history past scope.lives scope.act c.args.reading.now.seen
    (among scope.lives scope.act scope.above c.args.reading.now.seen) c.by_size_or_growth.result
    _ c.in-SizeOrGrowth.size_threshold c.in-SizeOrGrowth.percentile c.in-SizeOrGrowth.ratio
    c.in-SizeOrGrowth.after (sym c.action.ensures ∙ c.in-SizeOrGrowth.is)
    c.by_size_or_growth.ensures

pub returns-in-SwapUsage : goal.returns-in-SwapUsage
returns-in-SwapUsage c = λ history past.
    let scope = c.args.scope.now in
    swap_chosen c.args.past.now history past scope.lives scope.act c.args.reading.now.seen
    (among scope.lives scope.act scope.above c.args.reading.now.seen) c.foremost.result
    _ c.in-SwapUsage.threshold c.in-SwapUsage.after (sym c.action.ensures ∙ c.in-SwapUsage.is)
    c.foremost.ensures.choice

pub returns-in-Pressure : goal.returns-in-Pressure
returns-in-Pressure c = λ history past.
    let scope = c.args.scope.now in
    pressure_chosen c.args.past.now history past scope.lives scope.act c.args.reading.now.seen
    (among scope.lives scope.act scope.above c.args.reading.now.seen)
    c.foremost-in-Pressure.result
    _ c.in-Pressure.resource c.in-Pressure.after (sym c.action.ensures ∙ c.in-Pressure.is)
    c.foremost-in-Pressure.ensures.choice

pub returns-in-PgScan : goal.returns-in-PgScan
returns-in-PgScan c = λ history past.
    let scope = c.args.scope.now in
    scan_chosen c.args.past.now history past scope.lives scope.act c.args.reading.now.seen
    (among scope.lives scope.act scope.above c.args.reading.now.seen)
    c.foremost-in-PgScan.result
    _ c.in-PgScan.after (sym c.action.ensures ∙ c.in-PgScan.is) c.foremost-in-PgScan.ensures.choice
