use Rattle.std.proofs.Common.{ℕ, List, ◌+◌, refl, arith, ap, length, subst, sym, ◌∙◌}
use Rattle.std.specs.List.{flat_map, range_with_len}
use Rattle.std.specs.Io.KnownBytes.{Appends}
use Rattle.std.proofs.lemmas.List.{get_or_default, get_or-set_other, length-set}
use Rattle.psi_spec.specs.Header.{version_of}
use Rattle.outside.proofs.Grows.{Appends-then, AppendsPrefix-then, PutsAll-failed}
use Rattle.outside.specs.Outside.{AppendsPrefix}
use Rattle.plan_laws.specs.Plan.{IsPlan, no_plan}
use Rattle.proc_plan.specs.Clocks.{OnPlan}
use Rattle.proc_plan.specs.Plans.{plan_at}
use Rattle.commands.specs.Lines.{HasMadeAll, plan_lines}
use Rattle.run_laws.proofs.Pieces.{piece_more, pieces_at}
use Rattle.commands.proofs.lines.put_lines.Goals as goal

pub put_processor-requires-clause-whole : goal.put_processor-requires-clause-whole
put_processor-requires-clause-whole g c =
    let here = get_or_default c.cpus.clocks c.cpus.place (record { plan = no_plan; made = 0 }) c.index-clocks-place.result (omega (arith, c.cpus-test.true, c.cpus.invariant.each)) in
    let all = c.cpus.invariant.all c.cpus.place (omega arith) (omega (arith, c.cpus-test.true, c.cpus.invariant.each)) in
    subst IsPlan (sym (ap (λ (on : OnPlan). on.plan) (sym here) ∙ all.same)) all.whole

pub returns-in_err-put_processor-clause-bytes : goal.returns-in_err-put_processor-clause-bytes
returns-in_err-put_processor-clause-bytes g c =
    let lines : ℕ → List ℕ = λ cpu. plan_lines (version_of c.args.version) c.args.plans.now.lives c.args.order.now c.args.last (plan_at c.args.plans.now cpu) cpu in
    let facts = rw c.lives-groups.ensures.lives at c.in_err-put_processor.ensures.bytes in
    let here = get_or_default c.cpus.clocks c.cpus.place (record { plan = no_plan; made = 0 }) c.index-clocks-place.result (omega (arith, c.cpus-test.true, c.cpus.invariant.each)) in
    let view = ap (λ (on : OnPlan). on.plan) (sym here) ∙ (c.cpus.invariant.all c.cpus.place (omega arith) (omega (arith, c.cpus-test.true, c.cpus.invariant.each))).same in
    PutsAll-failed _ _ _ _ c.from_residual.ensures.0
    (subst (AppendsPrefix (g.K.Sink.has c.args.out.now) (g.K.Sink.has c.put_processor.new.out)) (sym (ap (λ n. flat_map lines (range_with_len 0 n)) (sym c.requires.each) ∙ pieces_at lines (length c.args.clocks.now) c.cpus.place (omega (arith, c.cpus-test.true))))
    (AppendsPrefix-then _ _ _ _ _ _ c.cpus.invariant.sent
    (subst (λ plan. AppendsPrefix (g.K.Sink.has c.cpus.out) (g.K.Sink.has c.put_processor.new.out) (plan_lines (version_of c.args.version) c.args.plans.now.lives c.args.order.now c.args.last plan c.cpus.place)) view facts)))

pub cpus-preserved : goal.cpus-preserved
cpus-preserved g c =
    let lines : ℕ → List ℕ = λ cpu. plan_lines (version_of c.args.version) c.args.plans.now.lives c.args.order.now c.args.last (plan_at c.args.plans.now cpu) cpu in
    let facts = rw c.lives-groups.ensures.lives at c.in_ok-put_processor.ensures.bytes in
    let here = get_or_default c.cpus.clocks c.cpus.place (record { plan = no_plan; made = 0 }) c.index-clocks-place.result (omega (arith, c.cpus-test.true, c.cpus.invariant.each)) in
    let view = ap (λ (on : OnPlan). on.plan) (sym here) ∙ (c.cpus.invariant.all c.cpus.place (omega arith) (omega (arith, c.cpus-test.true, c.cpus.invariant.each))).same in
    let many = length-set c.cpus.clocks c.cpus.place c.put_processor.new.clocks in
    record {
      each = many ∙ c.cpus.invariant.each;
      all = λ cpu from below. subst (HasMadeAll (plan_at c.args.plans.now cpu)) (sym (get_or-set_other c.cpus.clocks c.cpus.place cpu c.put_processor.new.clocks (record { plan = no_plan; made = 0 }) (λ same. omega (arith, same, from)))) (c.cpus.invariant.all cpu (omega (arith, from)) (omega (arith, below, many)));
      sent = subst (Appends (g.K.Sink.has c.args.out.now) (g.K.Sink.has c.put_processor.new.out)) (sym (piece_more lines c.cpus.place (c.cpus.place + 1) refl))
          (Appends-then _ _ _ _ _ c.cpus.invariant.sent
          (subst (λ plan. Appends (g.K.Sink.has c.cpus.out) (g.K.Sink.has c.put_processor.new.out) (plan_lines (version_of c.args.version) c.args.plans.now.lives c.args.order.now c.args.last plan c.cpus.place)) view facts));
      cause = record { later = omega (arith, c.cpus.invariant.cause.later, c.in_ok-put_processor.ensures.cause.later); failed = tt; same = omega (arith, c.cpus.invariant.cause.same, c.in_ok-put_processor.ensures.cause.same) };
      below = record { same = c.in_ok-put_processor.ensures.below.same ∙ c.cpus.invariant.below.same; more = omega (arith, c.cpus.invariant.below.more, c.in_ok-put_processor.ensures.below.more) };
    }
