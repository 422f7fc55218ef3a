use Rattle.std.proofs.Common.{◌<◌, ◌≤◌, length, refl, subst}
use Rattle.replay_ticks.specs.Replays.{Passes}
use Rattle.whatif_rounds.proofs.Counting.{found_here, more_searched, next_kills, none_found}
use Rattle.whatif_rounds.proofs.search.kill_of.Goals as goal

pub returns-then-left-kills : goal.returns-then-left-kills
returns-then-left-kills g c = λ trace timing rules is.
    let so = c.ticks.invariant trace timing rules is in
    let maybe_rules = subst (λ b. Passes trace timing rules c.ticks.replay.made c.ticks.replay c.pass.new.self b) c.ticks-test.true (c.pass.ensures trace timing rules c.ticks.replay.made so.is) in
    let are = next_kills c.ticks.replay c.pass.new.self trace timing rules c.kills-kills.result.now maybe_rules (λ i now. c.kills-kills.ensures trace timing rules i now) in
    let inside : c.ticks.left < length c.kills-kills.result.now = search rules in
    found_here c.ticks.replay c.pass.new.self trace timing rules c.kills-kills.result.now c.ticks.left c.args.number _ so maybe_rules are inside

pub ticks-preserved : goal.ticks-preserved
ticks-preserved g c = λ trace timing rules is.
    let so = c.ticks.invariant trace timing rules is in
    let maybe_rules = subst (λ b. Passes trace timing rules c.ticks.replay.made c.ticks.replay c.pass.new.self b) c.ticks-test.true (c.pass.ensures trace timing rules c.ticks.replay.made so.is) in
    let are = next_kills c.ticks.replay c.pass.new.self trace timing rules c.kills-kills.result.now maybe_rules (λ i now. c.kills-kills.ensures trace timing rules i now) in
    let past : length c.kills-kills.result.now ≤ c.ticks.left = search rules in
    more_searched c.ticks.replay c.pass.new.self trace timing rules c.kills-kills.result.now c.ticks.left _ c.args.number so maybe_rules are past refl

pub returns : goal.returns
returns g c = λ trace timing rules is.
    let so = c.ticks.invariant trace timing rules is in
    let maybe_rules = subst (λ b. Passes trace timing rules c.ticks.replay.made c.ticks.replay c.pass.new.self b) c.ticks-test.false (c.pass.ensures trace timing rules c.ticks.replay.made so.is) in
    none_found c.ticks.replay c.pass.new.self trace timing rules c.ticks.left c.args.number so maybe_rules
