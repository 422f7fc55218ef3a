use Rattle.std.proofs.Common.{◌≡◌, ◌+◌, refl, sym, subst, ◌∙◌, arith, false}
use Rattle.std.specs.Prelude.{Some}
use Rattle.pressure_spec.specs.Ticks.{is_evaluation}
use Rattle.replay_rules.specs.Judged.{IsToJudge, JudgeView, Rests, judge_of}
use Rattle.replay_rules.proofs.JudgeLaws.{judged_next, judged_none, judged_same, moment_is}
use Rattle.replay_rules.proofs.JudgeLaws.{rests, rests_none, same_schedule, to_evaluate}
use Rattle.replay_rules.proofs.judge.Judge.tick.Goals.{then-self, else-self}
use Rattle.replay_rules.proofs.judge.Judge.tick.Goals as goal

pub returns-in_default-clause-judged : goal.returns-in_default-clause-judged
returns-in_default-clause-judged c = λ trace timing rules i maybe_rules.
    let is = subst (λ j. IsToJudge j c.args.plans.now c.args.engine.now c.args.order.now trace timing
    rules i c.args.at c.args.length) (sym c.self.view_is) maybe_rules in
    judged_none _ trace timing rules i (i + 1) c.in_default.is is.judged

pub returns-in_default-clause-rests : goal.returns-in_default-clause-rests
returns-in_default-clause-rests c = λ number some moment none.
    let inside = c.self.inside in
    let now = judge_of inside.interval inside.evaluator inside.evaluated in
    subst (λ j. Rests j now) c.self.view_is (rests_none now c.in_default.is)

pub is_due-self-inside-requires-clause-tick : goal.is_due-self-inside-requires-clause-tick
is_due-self-inside-requires-clause-tick c =
    let is = subst (λ j. IsToJudge j c.args.plans.now c.args.engine.now c.args.order.now
    c.requires.0 c.requires.1 c.requires.2 c.requires.3 c.args.at c.args.length)
    (sym c.self.view_is) c.requires.4 in (
      c.requires.3 + 1,
      omega arith,
      moment_is _ c.args.plans.now c.args.engine.now
          c.args.order.now c.requires.0 c.requires.1 c.requires.2 c.requires.3 c.args.at c.args.length is,
    )

pub returns-clause-judged : goal.returns-clause-judged
returns-clause-judged c = λ trace timing rules i maybe_rules.
    let inside = c.self.inside in
    let is = subst (λ j. IsToJudge j c.args.plans.now c.args.engine.now c.args.order.now trace timing
    rules i c.args.at c.args.length) (sym c.self.view_is) maybe_rules in
    let old = judge_of inside.interval inside.evaluator inside.evaluated in
    let moment = moment_is old c.args.plans.now c.args.engine.now c.args.order.now trace timing rules
    i c.args.at c.args.length is in
    let due : c.is_due-self-inside.result ≡ is_evaluation timing.interval timing.length (i + 1) =
    c.is_due-self-inside.ensures (i + 1) (omega arith) moment
    ∙ same_schedule old c.args.plans.now c.args.engine.now c.args.order.now trace timing rules i
    c.args.at c.args.length is in
    elim c.if-self.branch [
      | then-self w ↦
          let new = judge_of inside.interval (Some w.evaluate.new.self)
          c.is_due-self-inside.result in
          let read = w.evaluate.ensures trace timing rules i
          (to_evaluate old c.in-Some.evaluator c.args.plans.now c.args.engine.now
          c.args.order.now trace timing rules i c.args.at c.args.length is c.in-Some.is) in
          rw w.self-inside-is (judged_next old new w.evaluate.new.self trace timing rules i
          refl refl w.if-self.true (sym due ∙ w.if-self.true) read is.judged)
      | else-self w ↦
          let new = judge_of inside.interval (Some c.in-Some.evaluator)
          c.is_due-self-inside.result in
          rw w.self-inside-is (judged_same old new trace timing rules i refl
          (sym c.in-Some.is) w.if-self.false (sym due ∙ w.if-self.false) is.judged)
    ]

pub returns-clause-rests : goal.returns-clause-rests
returns-clause-rests c = λ number some moment maybe_rules.
    let inside = c.self.inside in
    let none = subst (λ (j : JudgeView). is_evaluation j.interval c.args.length number ≡ false)
    (sym c.self.view_is) maybe_rules in
    let old = judge_of inside.interval inside.evaluator inside.evaluated in
    elim c.if-self.branch [
      | then-self w ↦ absurd (cc (sym w.if-self.true
          ∙ c.is_due-self-inside.ensures number some moment ∙ none))
      | else-self w ↦
          let new = judge_of inside.interval (Some c.in-Some.evaluator)
          c.is_due-self-inside.result in
          rw w.self-inside-is (subst (λ j. Rests j new) c.self.view_is
          (rests old new (sym c.in-Some.is) w.if-self.false))
    ]
