use Rattle.std.proofs.Common.{◌≡◌, ◌∙◌, ap, arith, length, rules}
use Rattle.std.specs.Prelude.{replicate, None}
use Rattle.slot_clocks.specs.Clocks.{first_clocks, parent_numbers}
use Rattle.world_tests.proofs.Sums.{first_processor}
use Rattle.world_tests.proofs.processor.Processor.new.Goals as goal

pub invariant_of-result : goal.invariant_of-result
invariant_of-result c =
    let parents = c.args.parents.items in
    let none : c.resize.new.self.items ≡ replicate c.args.tasks None = search rules in
    let slots : c.in-Ok.slots ≡ length parents = search rules in
    record {
      kept = first_processor (parent_numbers parents) (length parents) c.args.tasks c.resize.new.self.items c.in_ok-clocks.clocks (search rules) none (omega (arith, c.if-tasks-gt1000.false)) (search (arith, rules)) (c.in_ok-clocks.ensures ∙ ap first_clocks slots);
    }
