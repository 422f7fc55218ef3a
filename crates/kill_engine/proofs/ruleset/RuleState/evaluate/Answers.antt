use Rattle.std.proofs.Common.{◌≡◌, List, [], ◌∷◌, sym, ◌∙◌, subst, true, false}
use Rattle.std.specs.Prelude.{find, nat_lt, option_map}
use Rattle.psi_spec.specs.declared.machine.GroupLife.{GroupLife}
use Rattle.kill_spec.specs.declared.kill.Kill.{Kill}
use Rattle.kill_spec.specs.Readings.{Reading}
use Rattle.kill_spec.specs.Detectors.{ruleset_fires}
use Rattle.kill_spec.specs.Kills.{chain, ends_chain, kills_at, kills_of, last_ending}
use Rattle.kill_engine.specs.Rulesets.{GroupsRepresent, RulesetView, match_tables, rest_after, rest_of}
use Rattle.kill_engine.proofs.RestLaws as laws
use Rattle.kill_engine.proofs.ruleset.RuleState.evaluate.Goals as goal
use Rattle.kill_engine.proofs.ruleset.RuleState.evaluate.Goals.{then-not-fires-via-then-not-fires, then-not-fires-via-else-not-fires+then-is_resting, in-Some, in_default}

pub returns-then-not-fires-clause-take : goal.returns-then-not-fires-clause-take
unfolding kills_of
returns-then-not-fires-clause-take c = λ rule history stands is_past.
    let earlier : List (List Kill) = kills_of c.args.reading.now.lives c.args.number rule history in
    let none : kills_at c.args.reading.now.lives c.args.number rule c.args.reading.now.seen history earlier ≡ [] = elim c.then-not-fires.branch [
      | then-not-fires-via-then-not-fires w ↦ laws.not_fired c.args.reading.now.lives c.args.number rule c.args.reading.now.seen history earlier (sym (c.fires-fires.ensures.answer rule.groups history stands.groups) ∙ w.if-not-fires.true)
      | then-not-fires-via-else-not-fires+then-is_resting w ↦ laws.rested c.args.reading.now.lives c.args.number rule c.args.reading.now.seen history earlier
          (let until : c.fires-fires.new.self.rests_until ≡ rest_after rule.actions (last_ending rule.actions earlier) = c.fires-fires.ensures.rests ∙ stands.rests in
          subst (λ at. nat_lt at (rest_after rule.actions (last_ending rule.actions earlier)) ≡ true) w.at.ensures
          (subst (λ until. nat_lt w.at.result until ≡ true) until (sym w.is_resting.ensures ∙ w.if-is_resting.true)))
    ] in
    record {
      groups = c.fires-fires.ensures.take rule.groups history stands.groups;
      actions = c.fires-fires.ensures.actions ∙ stands.actions;
      tables = c.fires-fires.ensures.tables ∙ stands.tables;
      rests = c.fires-fires.ensures.rests ∙ stands.rests ∙ sym (laws.kept rule.actions _ earlier none);
    }

pub returns-clause-take : goal.returns-clause-take
unfolding kills_of
returns-clause-take c = λ rule history stands is_past.
    let lives : List GroupLife = c.args.reading.now.lives in
    let now : Reading = c.args.reading.now.seen in
    let earlier : List (List Kill) = kills_of lives c.args.number rule history in
    let until : c.fires-fires.new.self.rests_until ≡ rest_after rule.actions (last_ending rule.actions earlier) = c.fires-fires.ensures.rests ∙ stands.rests in
    let over : nat_lt now.at (rest_after rule.actions (last_ending rule.actions earlier)) ≡ false =
    subst (λ at. nat_lt at (rest_after rule.actions (last_ending rule.actions earlier)) ≡ false) c.at.ensures
    (subst (λ until. nat_lt c.at.result until ≡ false) until (sym c.is_resting.ensures ∙ c.if-is_resting.false)) in
    let fired : ruleset_fires lives rule now history ≡ true = sym (c.fires-fires.ensures.answer rule.groups history stands.groups) ∙ c.if-not-fires.false in
    let whole = laws.taken lives c.args.number rule now history earlier fired over in
    let inside : c.self.inside.actions ≡ rule.actions = subst (λ (state : RulesetView). state.actions ≡ rule.actions) (sym c.self.view_is) (c.fires-fires.ensures.actions ∙ stands.actions) in
    let tables : c.self.inside.tables.items ≡ match_tables lives rule.actions = subst (λ (state : RulesetView). state.tables ≡ match_tables lives rule.actions) (sym c.self.view_is) (c.fires-fires.ensures.tables ∙ stands.tables) in
    let acts : c.items.result.now ≡ rule.actions = c.items.ensures.items ∙ inside in
    let groups : GroupsRepresent lives (now ∷ history) c.self.inside.groups.items rule.groups = subst (λ (state : RulesetView). GroupsRepresent lives (now ∷ history) state.groups rule.groups) (sym c.self.view_is) (c.fires-fires.ensures.take rule.groups history stands.groups) in
    let rest : c.take_chain-rest.result ≡ option_map (rest_of rule.actions) (find (ends_chain rule.actions) (kills_at lives c.args.number rule now history earlier)) =
    rw whole (subst (λ actions. c.take_chain-rest.result ≡ option_map (rest_of actions) (find (ends_chain actions) (chain lives c.args.number 0 actions now history))) acts (c.take_chain-rest.ensures.rest history is_past)) in
    elim c.match-rest.branch [
      | in-Some w ↦ rw w.self-inside-is (record {
        groups = groups;
        actions = inside;
        tables = tables;
        rests = laws.renewed rule.actions _ earlier w.in-Some.until (sym w.in-Some.is ∙ rest);
      })
      | in_default w ↦ rw w.self-inside-is (record {
        groups = groups;
        actions = inside;
        tables = tables;
        rests = subst (λ (state : RulesetView). state.rests_until ≡ rest_after rule.actions (last_ending rule.actions earlier)) (sym c.self.view_is) until ∙ sym (laws.kept_on rule.actions _ earlier (sym w.in_default.is ∙ rest));
      })
    ]
