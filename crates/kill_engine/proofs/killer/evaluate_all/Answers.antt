use Rattle.std.proofs.Common.{◌≡◌, ◌+◌, List, [], ◌∷◌, ◌++◌, length, drop, get_or, set, arith, sym, ◌∙◌, subst, below_more, append_assoc, append-nil, get_or-set_other, get_or-set_same}
use Rattle.std.proofs.lemmas.List.{get_or_default}
use Rattle.psi_spec.specs.declared.machine.GroupLife.{GroupLife}
use Rattle.kill_spec.specs.declared.kill.Kill.{Kill}
use Rattle.kill_spec.specs.Readings.{Reading}
use Rattle.kill_spec.specs.Kills.{kills, kills_at, kills_from, kills_of}
use Rattle.kill_engine.specs.Rulesets.{RulesetRepresents, RulesetView}
use Rattle.kill_engine.proofs.RulesetLaws as laws
use Rattle.kill_engine.proofs.killer.evaluate_all.Goals as goal

-- A ruleset that hasn't been evaluated yet represents the same readings as before the loop.
pub evaluate-requires-clause-stands : goal.evaluate-requires-clause-stands
evaluate-requires-clause-stands c =
    let i = c.rulesets.number in
    let old : List RulesetView = c.args.rulesets.now in
    let lives : List GroupLife = c.args.reading.now.lives in
    let represents = c.requires.represents in
    let item : RulesetView = get_or c.rulesets.rulesets i c.index-rulesets-number.result in
    let before : (d : RulesetView) → get_or old i d ≡ item = λ d. sym (c.rulesets.invariant.left i d (omega arith)) ∙ get_or_default c.rulesets.rulesets i d c.index-rulesets-number.result (omega arith) in
    let r = laws.ruled_at lives represents.1 0 old represents.0 i represents.2 (omega arith) in
    let number : 0 + i ≡ i = omega arith in
    (r.rule, represents.1, subst (λ n. RulesetRepresents lives represents.1 n item r.rule) number (subst (λ state. RulesetRepresents lives represents.1 (0 + i) state r.rule) (before item) (r.stands item)))

pub rulesets-preserved : goal.rulesets-preserved
rulesets-preserved c =
    let i = c.rulesets.number in
    let old : List RulesetView = c.args.rulesets.now in
    let lives : List GroupLife = c.args.reading.now.lives in
    let now : Reading = c.args.reading.now.seen in
    let item : RulesetView = get_or c.rulesets.rulesets i c.index-rulesets-number.result in
    let stepped : (d : RulesetView) → get_or (set c.rulesets.rulesets i c.evaluate.new.self) i d ≡ c.evaluate.new.self = λ d. get_or-set_same c.rulesets.rulesets i c.evaluate.new.self d (omega arith) in
    let before : (d : RulesetView) → get_or old i d ≡ item = λ d. sym (c.rulesets.invariant.left i d (omega arith)) ∙ get_or_default c.rulesets.rulesets i d c.index-rulesets-number.result (omega arith) in
    record {
      take = below_more _ i
          (λ k below d. rw (get_or-set_other c.rulesets.rulesets i k c.evaluate.new.self d (omega arith)) (c.rulesets.invariant.take k below d))
          (λ d. rw (stepped d, before d) c.evaluate.ensures.take);
      at = below_more _ i
          (λ k below d. rw (get_or-set_other c.rulesets.rulesets i k c.evaluate.new.self d (omega arith)) (c.rulesets.invariant.at k below d))
          (λ d. rw (stepped d) c.evaluate.ensures.at);
      left = λ k d above. get_or-set_other c.rulesets.rulesets i k c.evaluate.new.self d (omega arith) ∙ c.rulesets.invariant.left k d (omega arith);
      kills = λ rules history represents is_past.
          let r = laws.ruled_at lives history 0 old rules i represents (omega arith) in
          let number : 0 + i ≡ i = omega arith in
          let stands : RulesetRepresents lives history i item r.rule = subst (λ n. RulesetRepresents lives history n item r.rule) number (subst (λ state. RulesetRepresents lives history (0 + i) state r.rule) (before item) (r.stands item)) in
          let mine : List Kill = kills_at lives i r.rule now history (kills_of lives i r.rule history) in
          let rest : List Kill = kills_from lives (i + 1) (drop (i + 1) rules) now history in
          rw (c.evaluate.ensures.kills r.rule history stands is_past, append_assoc c.rulesets.found.items mine rest)
          (subst (λ suffix. c.rulesets.found.items ++ kills_from lives i suffix now history ≡ kills_from lives 0 rules now history) r.rest (c.rulesets.invariant.kills rules history represents is_past));
      few = omega (arith, c.evaluate.ensures.few, c.rulesets.invariant.few);
      room = omega (arith, c.evaluate.ensures.room, c.rulesets.invariant.room);
    }

pub returns-clause-kills : goal.returns-clause-kills
unfolding kills
returns-clause-kills c = λ rules history represents is_past.
    let lives : List GroupLife = c.args.reading.now.lives in
    let now : Reading = c.args.reading.now.seen in
    let ends : c.rulesets.number ≡ length c.args.rulesets.now = omega arith in
    let none : drop c.rulesets.number rules ≡ [] = rw ends (laws.ruled_end lives history 0 c.args.rulesets.now rules represents) in
    sym (append-nil c.rulesets.found.items)
    ∙ subst (λ suffix. c.rulesets.found.items ++ kills_from lives c.rulesets.number suffix now history ≡ kills_from lives 0 rules now history) none (c.rulesets.invariant.kills rules history represents is_past)

pub returns-clause-take : goal.returns-clause-take
returns-clause-take c = λ rules history represents is_past.
    let lives : List GroupLife = c.args.reading.now.lives in
    let now : Reading = c.args.reading.now.seen in
    laws.ruled_map lives history (now ∷ history) 0 c.args.rulesets.now c.rulesets.rulesets rules (omega arith)
    (λ k d rule below stands.
    let number : 0 + k ≡ k = omega arith in
    rw number (c.rulesets.invariant.take k (omega arith) d rule history (subst (λ n. RulesetRepresents lives history n (get_or c.args.rulesets.now k d) rule) number stands) is_past))
    represents
