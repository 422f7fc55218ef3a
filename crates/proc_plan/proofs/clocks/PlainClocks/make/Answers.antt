use Rattle.std.proofs.Common.{ℕ, ap, subst, sym, ◌∙◌}
use Rattle.std.specs.Prelude.{replicate}
use Rattle.slot_clocks.specs.Clocks.{first_clocks}
use Rattle.proc_plan.specs.Clocks.{AreClocks, AreIrqs}
use Rattle.proc_plan.proofs.ClockSteps.{first_are}
use Rattle.proc_plan.proofs.IrqWalk.{first_irqs}
use Rattle.proc_plan.proofs.clocks.PlainClocks.make.Goals as goal

pub invariant_of-result : goal.invariant_of-result
invariant_of-result c = (
  subst (λ clocks. AreClocks c.args.plan.now clocks 0) (sym (c.in_ok-make.ensures ∙ ap first_clocks c.requires)) (first_are c.args.plan.now c.parents.ensures.whole),
  c.parents.ensures.parents,
  subst (λ times. AreIrqs c.args.plan.now times 0) (sym (c.in_ok-vec.ensures.items_if_clones_equal (λ y same. same) ∙ ap (λ n. replicate {A = ℕ} n 0) c.requires)) (first_irqs c.args.plan.now),
)
