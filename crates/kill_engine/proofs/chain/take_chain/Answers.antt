use Rattle.std.proofs.Common.{◌≡◌, ◌+◌, List, [], ◌∷◌, ◌++◌, refl, sym, ◌∙◌, ap, subst, Bool, true, false, arith, append_assoc}
use Rattle.std.specs.Prelude.{find, not, option_map}
use Rattle.psi_spec.specs.declared.machine.GroupLife.{GroupLife}
use Rattle.psi_spec.proofs.RefusalLaws.{not_false}
use Rattle.ruleset_json.specs.declared.types.Action.{Action}
use Rattle.kill_spec.specs.declared.kill.Kill.{Kill}
use Rattle.kill_spec.specs.Readings.{Reading}
use Rattle.kill_spec.specs.Detectors.{of_seconds}
use Rattle.kill_spec.specs.Kills.{ends_chain}
use Rattle.kill_spec.specs.Victims.{after_of}
use Rattle.victim_rank.specs.Pasts.{IsPastOf}
use Rattle.kill_engine.specs.Rulesets.{rest_of}
use Rattle.kill_engine.proofs.ChainLaws as laws
use Rattle.kill_engine.proofs.chain.take_chain.Goals as goal

is_not : (b : Bool) → not b ≡ true → b ≡ false
is_not true h = cc h
is_not false h = refl

pub returns-then-not-after-clause-rest : goal.returns-then-not-after-clause-rest
returns-then-not-after-clause-rest c = λ history is_past.
    let act : Action = c.index-actions-act.result in
    let actions : List Action = c.args.actions.now in
    let off : (after_of act).always_continue ≡ false = is_not _ (subst (λ after. not after.always_continue ≡ true) c.after_of-after.ensures c.if-not-after.true) in
    let until : c.end_of_rest.result ≡ c.in-Some.kill.at + of_seconds (after_of act).delay_s = subst (λ after. c.end_of_rest.result ≡ c.in-Some.kill.at + of_seconds after.delay_s) c.after_of-after.ensures c.end_of_rest.ensures in
    laws.rests c.args.reading.now.lives c.args.number actions c.args.reading.now.seen history c.actions.act act c.in-Some.kill c.end_of_rest.result (omega arith) c.index-actions-act.is (c.in-Some.ensures history is_past) off until
    ∙ ap (option_map (rest_of actions)) (c.actions.invariant.ending history is_past)

pub returns-then-not-after-clause-kills : goal.returns-then-not-after-clause-kills
returns-then-not-after-clause-kills c = λ history is_past.
    let act : Action = c.index-actions-act.result in
    let off : (after_of act).always_continue ≡ false = is_not _ (subst (λ after. not after.always_continue ≡ true) c.after_of-after.ensures c.if-not-after.true) in
    let last = laws.stops c.args.reading.now.lives c.args.number c.args.actions.now c.args.reading.now.seen history c.actions.act act c.in-Some.kill (omega arith) c.index-actions-act.is (c.in-Some.ensures history is_past) off in
    c.put.ensures.items ∙ ap (λ kills. c.actions.found.items ++ kills) (sym last) ∙ c.actions.invariant.found history is_past

pub returns-clause-kills : goal.returns-clause-kills
returns-clause-kills c = λ history is_past.
    laws.all_found c.args.reading.now.lives c.args.number c.args.actions.now c.args.reading.now.seen history c.actions.act c.actions.found.items _ (omega arith) (c.actions.invariant.found history is_past)

pub returns-clause-rest : goal.returns-clause-rest
returns-clause-rest c = λ history is_past.
    laws.none_rests c.args.reading.now.lives c.args.number c.args.actions.now c.args.reading.now.seen history c.actions.act (omega arith)
    ∙ ap (option_map (rest_of c.args.actions.now)) (c.actions.invariant.ending history is_past)

pub actions-preserved-in_default : goal.actions-preserved-in_default
actions-preserved-in_default c =
    let actions : List Action = c.args.actions.now in
    let passed = λ (history : List Reading) (is_past : IsPastOf c.args.past.now history).
    laws.passes c.args.reading.now.lives c.args.number actions c.args.reading.now.seen history c.actions.act c.index-actions-act.result (omega arith) c.index-actions-act.is (c.in_default.ensures history is_past) in
    record {
      found = λ history is_past. ap (λ kills. c.actions.found.items ++ kills) (passed history is_past) ∙ c.actions.invariant.found history is_past;
      ending = λ history is_past. ap (find (ends_chain actions)) (passed history is_past) ∙ c.actions.invariant.ending history is_past;
      few = omega (arith, c.actions.invariant.few);
      room = c.actions.invariant.room;
    }

pub actions-preserved : goal.actions-preserved
actions-preserved c =
    let act : Action = c.index-actions-act.result in
    let actions : List Action = c.args.actions.now in
    let lives : List GroupLife = c.args.reading.now.lives in
    let now : Reading = c.args.reading.now.seen in
    let on : (after_of act).always_continue ≡ true = not_false _ (subst (λ after. not after.always_continue ≡ false) c.after_of-after.ensures c.if-not-after.false) in
    record {
      found = λ history is_past.
          let rest : List Kill = laws.suffix lives c.args.number actions now history (c.actions.act + 1) in
          let next = laws.goes_on lives c.args.number actions now history c.actions.act act c.in-Some.kill (omega arith) c.index-actions-act.is (c.in-Some.ensures history is_past) on in
          rw (c.put.ensures.items, append_assoc c.actions.found.items (c.in-Some.kill ∷ []) rest)
          (ap (λ kills. c.actions.found.items ++ kills) (sym next) ∙ c.actions.invariant.found history is_past);
      ending = λ history is_past.
          laws.not_ended lives c.args.number actions now history c.actions.act act c.in-Some.kill (omega arith) c.index-actions-act.is (c.in-Some.ensures history is_past) on
          ∙ c.actions.invariant.ending history is_past;
      few = omega (arith, c.put.ensures.len, c.actions.invariant.few);
      room = omega (arith, c.put.ensures.room, c.actions.invariant.room);
    }
