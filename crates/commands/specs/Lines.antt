-- Defines the output lines of `stall`, computed from the plans of the processors. A plan lists all
-- changes on one processor.
use Rattle.std.specs.Prelude.{◌≡◌, ℕ, List, [], ◌∷◌, ◌++◌, length, slice_index_or}
use Rattle.std.specs.List.{flat_map, range_with_len}
use Rattle.psi_base.specs.declared.event.Slot.{Slot}
use Rattle.psi_spec.specs.declared.machine.GroupLife.{GroupLife}
use Rattle.psi_spec.specs.Grammar.{One, Two, Version}
use Rattle.psi_spec.specs.Groups.{path_at}
use Rattle.plan_laws.specs.Plan.{IsPlan, PlanView, no_plan, planned, planned_irq}
use Rattle.run_spec.specs.Lines.{stall_line}
use Rattle.proc_plan.specs.Clocks.{OnPlan}

-- `plan_times plan slot at`: the time (ns) that the group in `slot` was in each state up to the
-- time `at` (ns), after all changes of the plan. The times are ordered by state.
abbrev pub plan_times : PlanView → ℕ → ℕ → List ℕ
plan_times plan slot at = planned plan slot (length plan.changes) at

-- `plan_known version plan slot at`: the numbers in the output line of the group in `slot`. These
-- are the time (ns) in each state up to the time `at` (ns), and in version 2 also the interrupt
-- time (ns).
abbrev pub plan_known : Version → PlanView → ℕ → ℕ → List ℕ
plan_known One plan slot at = plan_times plan slot at
plan_known Two plan slot at = plan_times plan slot at ++ planned_irq plan slot (length plan.changes) ∷ []

-- `plan_line version cpu groups plan last slot`: the output line of the group in `slot` on
-- processor `cpu`. `last` is the time (ns) of the trace's end.
abbrev pub plan_line : Version → ℕ → List GroupLife → PlanView → ℕ → Slot → List ℕ
plan_line version cpu groups plan last slot = stall_line cpu (path_at groups slot.0) (plan_known version plan slot.0 last)

-- `plan_lines version groups order last plan cpu`: the output lines of processor `cpu`, for the
-- groups in `order`. `last` is the time (ns) of the trace's end.
abbrev pub plan_lines : Version → List GroupLife → List Slot → ℕ → PlanView → ℕ → List ℕ
plan_lines version groups order last plan cpu = flat_map (plan_line version cpu groups plan last) order

-- `all_lines version groups order last plans`: the output lines of all processors, for the groups
-- in `order`. `last` is the time (ns) of the trace's end.
abbrev pub all_lines : Version → List GroupLife → List Slot → ℕ → List PlanView → List ℕ
all_lines version groups order last plans =
    flat_map (λ cpu. plan_lines version groups order last (slice_index_or plans cpu no_plan) cpu) (range_with_len 0 (length plans))

-- `HasMadeAll plan clocks`: the plan is valid, and the processor's clocks have applied all its
-- changes.
pub record HasMadeAll (plan : PlanView) (clocks : OnPlan) : Type 0 where
  pub same : clocks.plan ≡ plan
  pub all : clocks.made ≡ length plan.changes
  pub whole : IsPlan plan
