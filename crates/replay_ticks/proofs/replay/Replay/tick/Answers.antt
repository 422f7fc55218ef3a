use Rattle.std.proofs.Common.{◌≡◌, ◌+◌, true, arith, sym, subst, ◌∙◌}
use Rattle.std.specs.Io.KnownBytes.{Appends}
use Rattle.pressure_spec.specs.Ticks.{tick_moment}
use Rattle.outside.specs.Outside.{AppendsPrefix}
use Rattle.replay_ticks.specs.Replays.{IsLiveTick, IsReplay, ReplayView, tick_lines, watches_text}
use Rattle.replay_ticks.proofs.TickLaws as laws
use Rattle.replay_ticks.proofs.replay.Replay.tick.Goals as goal

pub tick_moment-at-requires : goal.tick_moment-at-requires
tick_moment-at-requires g c =
    let done : c.pass.result ≡ true = grind (arith, c.if-not-pass.false) in
    let next = laws.passed c.requires.0 c.requires.1 c.requires.2 c.requires.3 c.args.self.now c.pass.new.self c.pass.result (c.pass.ensures c.requires.0 c.requires.1 c.requires.2 c.requires.3 c.requires.4) done in
    laws.made_fits _ c.requires.0 c.requires.1 c.requires.2 c.requires.3 (subst (λ replay. IsReplay replay c.requires.0 c.requires.1 c.requires.2 (c.requires.3 + 1)) (sym c.self.view_is) next.1)

pub put_live-requires : goal.put_live-requires
put_live-requires g c =
    let done : c.pass.result ≡ true = grind (arith, c.if-not-pass.false) in
    let next = laws.passed c.requires.0 c.requires.1 c.requires.2 c.requires.3 c.args.self.now c.pass.new.self c.pass.result (c.pass.ensures c.requires.0 c.requires.1 c.requires.2 c.requires.3 c.requires.4) done in
    let is = subst (λ replay. IsReplay replay c.requires.0 c.requires.1 c.requires.2 (c.requires.3 + 1)) (sym c.self.view_is) next.1 in
    let moment = c.tick_moment-at.ensures ∙ laws.made_moment _ c.requires.0 c.requires.1 c.requires.2 c.requires.3 is in
    let taken = subst (λ (replay : ReplayView). IsLiveTick c.args.self.now.crew replay.crew c.requires.0 c.requires.1 (c.requires.3 + 1)) (sym c.self.view_is) next.2 in
    laws.live_in_time _ c.requires.0 c.requires.1 c.requires.2 c.requires.3 c.tick_moment-at.result c.cpus.result is moment c.cpus.ensures.cpus taken.in_time

pub put_tick-requires : goal.put_tick-requires
put_tick-requires g c =
    let trace = c.requires.0 in
    let timing = c.requires.1 in
    let rules = c.requires.2 in
    let i = c.requires.3 in
    let done : c.pass.result ≡ true = grind (arith, c.if-not-pass.false) in
    let next = laws.passed trace timing rules i c.args.self.now c.pass.new.self c.pass.result (c.pass.ensures trace timing rules i c.requires.4) done in
    let is = subst (λ replay. IsReplay replay trace timing rules (i + 1)) (sym c.self.view_is) next.1 in
    (trace, timing, rules, i, next.1, c.tick_moment-at.ensures ∙ laws.made_moment _ trace timing rules i is)

pub returns-in_err-put_live-clause-tick : goal.returns-in_err-put_live-clause-tick
returns-in_err-put_live-clause-tick g c = λ trace timing rules i maybe_rules.
    let done : c.pass.result ≡ true = grind (arith, c.if-not-pass.false) in
    let next = laws.passed trace timing rules i c.args.self.now c.pass.new.self c.pass.result (c.pass.ensures trace timing rules i maybe_rules) done in
    let is = subst (λ replay. IsReplay replay trace timing rules (i + 1)) (sym c.self.view_is) next.1 in
    let moment = c.tick_moment-at.ensures ∙ laws.made_moment _ trace timing rules i is in
    let taken = subst (λ (replay : ReplayView). IsLiveTick c.args.self.now.crew replay.crew trace timing (i + 1)) (sym c.self.view_is) next.2 in
    let text = laws.live_is _ trace timing rules i c.tick_moment-at.result c.cpus.result is moment c.cpus.ensures.cpus in
    let prefix = subst (AppendsPrefix (g.K.Sink.has c.args.out.now) (g.K.Sink.has c.put_live.new.out)) text c.in_err-put_live.ensures.bytes in
    laws.gives_prefix trace timing rules i c.args.self.now c.pass.new.self _ (g.K.Sink.has c.args.out.now) (g.K.Sink.has c.put_live.new.out) c.from_residual.result c.from_residual.ensures.0 next.0 taken.text
    (laws.live_prefix trace timing rules (i + 1) _ (g.K.Sink.has c.args.out.now) (g.K.Sink.has c.put_live.new.out) prefix)

pub returns-in_err-put_tick-clause-tick : goal.returns-in_err-put_tick-clause-tick
returns-in_err-put_tick-clause-tick g c = λ trace timing rules i maybe_rules.
    let done : c.pass.result ≡ true = grind (arith, c.if-not-pass.false) in
    let next = laws.passed trace timing rules i c.args.self.now c.pass.new.self c.pass.result (c.pass.ensures trace timing rules i maybe_rules) done in
    let is = subst (λ replay. IsReplay replay trace timing rules (i + 1)) (sym c.self.view_is) next.1 in
    let moment = c.tick_moment-at.ensures ∙ laws.made_moment _ trace timing rules i is in
    let taken = subst (λ (replay : ReplayView). IsLiveTick c.args.self.now.crew replay.crew trace timing (i + 1)) (sym c.self.view_is) next.2 in
    let text = laws.live_is _ trace timing rules i c.tick_moment-at.result c.cpus.result is moment c.cpus.ensures.cpus in
    let live = subst (Appends (g.K.Sink.has c.args.out.now) (g.K.Sink.has c.put_live.new.out)) text c.in_ok-put_live.ensures.bytes in
    laws.gives_prefix trace timing rules i c.args.self.now c.pass.new.self _ (g.K.Sink.has c.args.out.now) (g.K.Sink.has c.put_tick.new.out) c.from_residual-in_err-put_tick.result c.from_residual-in_err-put_tick.ensures.0 next.0 taken.text
    (laws.lines_prefix trace timing rules (i + 1) _ (g.K.Sink.has c.args.out.now) (g.K.Sink.has c.put_live.new.out) (g.K.Sink.has c.put_tick.new.out) live (c.in_err-put_tick.ensures.bytes trace timing rules i next.1 moment))

pub returns-clause-tick : goal.returns-clause-tick
returns-clause-tick g c = λ trace timing rules i maybe_rules.
    let done : c.pass.result ≡ true = grind (arith, c.if-not-pass.false) in
    let next = laws.passed trace timing rules i c.args.self.now c.pass.new.self c.pass.result (c.pass.ensures trace timing rules i maybe_rules) done in
    let is = subst (λ replay. IsReplay replay trace timing rules (i + 1)) (sym c.self.view_is) next.1 in
    let moment = c.tick_moment-at.ensures ∙ laws.made_moment _ trace timing rules i is in
    let text = laws.live_is _ trace timing rules i c.tick_moment-at.result c.cpus.result is moment c.cpus.ensures.cpus in
    let live = subst (Appends (g.K.Sink.has c.args.out.now) (g.K.Sink.has c.put_live.new.out)) text c.in_ok-put_live.ensures.bytes in
    let rest = c.in_ok-put_tick.ensures.bytes trace timing rules i next.1 moment in
    let all = laws.lines_put trace timing rules (i + 1) _ (g.K.Sink.has c.args.out.now) (g.K.Sink.has c.put_live.new.out) (g.K.Sink.has c.put_tick.new.out) live rest in
    (next.0, next.1, next.2, subst (λ (replay : ReplayView). Appends (g.K.Sink.has c.args.out.now) (g.K.Sink.has c.put_tick.new.out) (tick_lines trace timing rules (i + 1) (watches_text (tick_moment timing.length (i + 1)) trace.cpus replay.crew.watches))) c.self.view_is all)
