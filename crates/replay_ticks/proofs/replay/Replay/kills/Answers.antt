use Rattle.std.proofs.Common.{◌∙◌, sym, subst}
use Rattle.replay_ticks.specs.Replays.{IsReplay}
use Rattle.replay_ticks.proofs.replay.Replay.kills.Goals as goal

pub returns : goal.returns
returns c = λ trace timing rules i is.
    let here = subst (λ replay. IsReplay replay trace timing rules i) (sym c.self.view_is) is in
    c.kills.ensures ∙ here.judge.kills
