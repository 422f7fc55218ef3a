use Rattle.std.proofs.Common.{◌+◌, arith, refl, sym, subst}
use Rattle.outside.specs.Outside.{AppendsPrefix}
use Rattle.outside.specs.Calls.{PutsAll}
use Rattle.outside.proofs.Grows.{PutsAll-failed}
use Rattle.run_spec.specs.Replay.{tick_text, with_rules}
use Rattle.replay_ticks.specs.Replays.{IsReplay}
use Rattle.replay_ticks.proofs.KillLaws.{kills_below}
use Rattle.replay_ticks.proofs.PutLaws.{all_put, fired_made, kills_prefix, kills_put, signals_prefix, signals_put, triggers_made}
use Rattle.replay_ticks.proofs.TickLaws as laws
use Rattle.replay_ticks.proofs.replay.Replay.put_tick.Goals as goal

pub put_signals-requires-clause-numbers : goal.put_signals-requires-clause-numbers
put_signals-requires-clause-numbers g c =
    let replay = c.self.inside in
    let is = subst (λ replay. IsReplay replay c.requires.0 c.requires.1 c.requires.2 (c.requires.3 + 1)) (sym c.self.view_is) c.requires.4 in
    rw (c.fired.ensures, c.triggers.ensures) (fired_made replay.plans.now replay.engine c.requires.0 c.requires.1 (c.requires.3 + 1) is.planned (omega arith) is.engine)

pub put_signals-requires-clause-slots : goal.put_signals-requires-clause-slots
put_signals-requires-clause-slots g c =
    let is = subst (λ replay. IsReplay replay c.requires.0 c.requires.1 c.requires.2 (c.requires.3 + 1)) (sym c.self.view_is) c.requires.4 in
    rw (c.lives-lives.ensures.lives, c.triggers.ensures) (triggers_made c.self.inside.plans.now c.requires.0 c.requires.1 is.planned)

pub put_kills-requires : goal.put_kills-requires
put_kills-requires g c =
    let replay = c.self.inside in
    let is = subst (λ replay. IsReplay replay c.requires.0 c.requires.1 c.requires.2 (c.requires.3 + 1)) (sym c.self.view_is) c.requires.4 in
    let killed = laws.kills_made _ c.requires.0 c.requires.1 c.requires.2 c.requires.3 c.kills.result.now is c.kills.ensures in
    rw (c.lives-lives.ensures.lives, killed) (record { slots = kills_below replay.plans.now c.requires.0 c.requires.1 c.requires.2 replay.order.items replay.made is.planned is.order })

pub put_due-requires : goal.put_due-requires
put_due-requires g c =
    let is = subst (λ replay. IsReplay replay c.requires.0 c.requires.1 c.requires.2 (c.requires.3 + 1)) (sym c.self.view_is) c.requires.4 in
    (c.requires.0, c.requires.1, laws.to_put _ c.deref.result.now c.requires.0 c.requires.1 c.requires.2 c.requires.3 c.args.at is c.deref.ensures.value c.requires.5)

pub returns-in_err-put_signals-clause-bytes : goal.returns-in_err-put_signals-clause-bytes
returns-in_err-put_signals-clause-bytes g c = λ trace timing rules i maybe_rules moment.
    let replay = c.self.inside in
    let old = g.K.Sink.has c.args.out.now in
    let new = g.K.Sink.has c.put_signals.new.out in
    let is = subst (λ replay. IsReplay replay trace timing rules (i + 1)) (sym c.self.view_is) maybe_rules in
    let to_put = laws.to_put _ replay.order.items trace timing rules i c.args.at is refl moment in
    let same = signals_put replay.plans.now replay.engine replay.order.items replay.run_timing trace timing replay.made c.args.at to_put c.lives-lives.result.now c.triggers.result.now c.fired.result.now c.lives-lives.ensures.lives c.triggers.ensures c.fired.ensures in
    let prefix = signals_prefix old new trace timing rules replay.made _ same c.in_err-put_signals.ensures.bytes in
    PutsAll-failed old new c.from_residual.result (tick_text trace timing (with_rules rules) (i + 1)) c.from_residual.ensures.0
    (subst (AppendsPrefix old new) (laws.text_is _ trace timing rules i is) prefix)

pub returns-in_err-put_kills-clause-bytes : goal.returns-in_err-put_kills-clause-bytes
returns-in_err-put_kills-clause-bytes g c = λ trace timing rules i maybe_rules moment.
    let replay = c.self.inside in
    let old = g.K.Sink.has c.args.out.now in
    let mid = g.K.Sink.has c.put_signals.new.out in
    let new = g.K.Sink.has c.put_kills.new.out in
    let is = subst (λ replay. IsReplay replay trace timing rules (i + 1)) (sym c.self.view_is) maybe_rules in
    let to_put = laws.to_put _ replay.order.items trace timing rules i c.args.at is refl moment in
    let killed = laws.kills_made _ trace timing rules i c.kills.result.now is c.kills.ensures in
    let same = signals_put replay.plans.now replay.engine replay.order.items replay.run_timing trace timing replay.made c.args.at to_put c.lives-lives.result.now c.triggers.result.now c.fired.result.now c.lives-lives.ensures.lives c.triggers.ensures c.fired.ensures in
    let also = kills_put replay.plans.now trace timing rules replay.made is.planned c.lives-lives.result.now c.kills.result.now c.lives-lives.ensures.lives killed in
    let prefix = kills_prefix old mid new trace timing rules replay.made _ _ same also c.in_ok-put_signals.ensures.bytes c.in_err-put_kills.ensures.bytes in
    PutsAll-failed old new c.from_residual-in_err-put_kills.result (tick_text trace timing (with_rules rules) (i + 1)) c.from_residual-in_err-put_kills.ensures.0
    (subst (AppendsPrefix old new) (laws.text_is _ trace timing rules i is) prefix)

pub returns-clause-bytes : goal.returns-clause-bytes
returns-clause-bytes g c = λ trace timing rules i maybe_rules moment.
    let replay = c.self.inside in
    let old = g.K.Sink.has c.args.out.now in
    let new = g.K.Sink.has c.put_due.new.out in
    let is = subst (λ replay. IsReplay replay trace timing rules (i + 1)) (sym c.self.view_is) maybe_rules in
    let to_put = laws.to_put _ c.deref.result.now trace timing rules i c.args.at is c.deref.ensures.value moment in
    let killed = laws.kills_made _ trace timing rules i c.kills.result.now is c.kills.ensures in
    let same = signals_put replay.plans.now replay.engine c.deref.result.now replay.run_timing trace timing replay.made c.args.at to_put c.lives-lives.result.now c.triggers.result.now c.fired.result.now c.lives-lives.ensures.lives c.triggers.ensures c.fired.ensures in
    let also = kills_put replay.plans.now trace timing rules replay.made is.planned c.lives-lives.result.now c.kills.result.now c.lives-lives.ensures.lives killed in
    let all = all_put old (g.K.Sink.has c.put_signals.new.out) (g.K.Sink.has c.put_kills.new.out) new trace timing rules replay.made _ _ c.put_due.result same also c.in_ok-put_signals.ensures.bytes c.in_ok-put_kills.ensures.bytes (c.put_due.ensures.bytes trace timing to_put) in
    subst (PutsAll old new c.put_due.result) (laws.text_is _ trace timing rules i is) all
