use Rattle.std.proofs.Common.{refl}
use Rattle.replay_rules.proofs.JudgeLaws.{judged_first}
use Rattle.replay_rules.proofs.judge.Judge.make.Goals.{in-Some+in_ok-make-in-Some, in-None}
use Rattle.replay_rules.proofs.judge.Judge.make.Goals as goal

pub returns-clause-judged : goal.returns-clause-judged
returns-clause-judged c = λ trace timing begin.
    elim c.match-rules.branch [
      | in-Some+in_ok-make-in-Some w ↦
          rw (w.evaluator-is, w.in-Some.is)
          (judged_first _ trace timing _ begin.interval_is refl
          (w.in_ok-make-in-Some.ensures trace timing begin.planned))
      | in-None w ↦
          rw (w.evaluator-is, w.in-None.is)
          (judged_first _ trace timing _ begin.interval_is refl refl)
    ]
