use Rattle.std.proofs.Common.{◌≡◌, ◌∙◌, ap, refl, rules, sym, None, Some}
use Rattle.ftrace_import.specs.Gathers.{reached_in}
use Rattle.ftrace_import.proofs.Gathered.{cause_is, kept_longer, sighted, sighted_plays, sighted_taken}
use Rattle.ftrace_import.proofs.Lines.{cause_at, events_refused}
use Rattle.ftrace_import.proofs.taking.take_sighting.Goals as goal

pub kept_from-new-requires : goal.kept_from-new-requires
kept_from-new-requires c = kept_longer c.args.g.now.kept.items c.keep_seen.new.kept.items _ c.len-before.result (search rules) c.in_ok-keep_seen.ensures

pub returns-in-Some : goal.returns-in-Some
returns-in-Some c =
    let s = sighted c.args.g.now c.args.sighting.at c.args.sighting.seen c.time_or-first.result c.moment_of-moment.result c.len-before.result c.needed_cpu-cpu.result c.kept_from-new.result.now c.keep_seen.new.kept.items
    c.time_or-first.ensures c.moment_of-moment.ensures c.needed_cpu-cpu.ensures (search rules) c.kept_from-new.ensures c.in_ok-keep_seen.ensures in
    events_refused c.args.g.now.cpus (reached_in c.args.g.now) c.args.sighting.at c.args.sighting.seen c.in-Some.cause
    (cause_is c.args.g.now c.args.sighting.at c.args.sighting.seen _ _ _ _ _ (Some c.in-Some.cause) s c.in-Some.ensures)

pub play_all-requires : goal.play_all-requires
play_all-requires c =
    let s = sighted c.args.g.now c.args.sighting.at c.args.sighting.seen c.time_or-first.result c.moment_of-moment.result c.len-before.result c.needed_cpu-cpu.result c.kept_from-new.result.now c.keep_seen.new.kept.items
    c.time_or-first.ensures c.moment_of-moment.ensures c.needed_cpu-cpu.ensures (search rules) c.kept_from-new.ensures c.in_ok-keep_seen.ensures in
    let none : cause_at c.args.g.now.cpus (reached_in c.args.g.now) c.args.sighting.at c.args.sighting.seen ≡ None = cause_is c.args.g.now c.args.sighting.at c.args.sighting.seen _ _ _ _ _ None s (sym c.in_default.is ∙ c.acts_cause.ensures) in
    sighted_plays c.args.g.now c.args.sighting.at c.args.sighting.seen _ _ _ _ _ s c.requires.so c.requires.seen none

pub returns : goal.returns
returns c =
    let s = sighted c.args.g.now c.args.sighting.at c.args.sighting.seen c.time_or-first.result c.moment_of-moment.result c.len-before.result c.needed_cpu-cpu.result c.kept_from-new.result.now c.keep_seen.new.kept.items
    c.time_or-first.ensures c.moment_of-moment.ensures c.needed_cpu-cpu.ensures (search rules) c.kept_from-new.ensures c.in_ok-keep_seen.ensures in
    let none : cause_at c.args.g.now.cpus (reached_in c.args.g.now) c.args.sighting.at c.args.sighting.seen ≡ None = cause_is c.args.g.now c.args.sighting.at c.args.sighting.seen _ _ _ _ _ None s (sym c.in_default.is ∙ c.acts_cause.ensures) in
    sighted_taken c.args.g.now _ c.args.sighting.at c.args.sighting.seen _ _ _ _ s c.requires.so c.requires.seen none refl (ap (λ f. Some f) c.time_or-first.ensures) refl c.in_ok-play_all.ensures.limits c.in_ok-play_all.ensures.world
