use Rattle.std.proofs.Common.{[], ◌∷◌, ◌++◌, get_or, subst, sym, ap, ◌≡◌, ◌≤◌, ◌∙◌}
use Rattle.std.proofs.lemmas.List.{get_or-map}
use Rattle.psi_spec.specs.declared.machine.GroupLife.{GroupLife}
use Rattle.outside.specs.Calls.{PutsAll}
use Rattle.psi_spec.specs.Groups.{path_at}
use Rattle.plan_laws.specs.Plan.{last_change, planned, planned_irq}
use Rattle.run_spec.specs.Lines.{stall_line}
use Rattle.commands.proofs.lines.put_irq_times.Goals as goal

pub own_times-requires-clause-past : goal.own_times-requires-clause-past
own_times-requires-clause-past g c =
    let plan = g.C.ProcClocks.plan c.args.clocks.now in
    subst (λ k. last_change plan k ≤ c.args.last) (sym c.requires.all) c.requires.later

pub returns-clause-bytes : goal.returns-clause-bytes
returns-clause-bytes g c =
    let plan = g.C.ProcClocks.plan c.args.clocks.now in
    let times = c.own_times.ensures.times ∙ ap (λ k. planned plan c.args.slot.0 k c.args.last ++ planned_irq plan c.args.slot.0 k ∷ []) c.requires.all in
    let path : (get_or c.args.groups.now c.args.slot.0 c.index-groups-slot.result).path ≡ path_at c.args.groups.now c.args.slot.0 =
    sym (get_or-map (λ (life : GroupLife). life.path) c.args.groups.now c.args.slot.0 c.index-groups-slot.result [] c.requires.made) in
    subst (λ ts. PutsAll (g.K.Sink.has c.args.out.now) (g.K.Sink.has c.write_stall_irq.new.out) c.write_stall_irq.result (stall_line c.args.cpu.0 (path_at c.args.groups.now c.args.slot.0) ts)) times
    (subst (λ p. PutsAll (g.K.Sink.has c.args.out.now) (g.K.Sink.has c.write_stall_irq.new.out) c.write_stall_irq.result (stall_line c.args.cpu.0 p c.own_times.result)) path c.write_stall_irq.ensures.bytes)
