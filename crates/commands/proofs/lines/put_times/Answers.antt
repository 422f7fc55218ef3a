use Rattle.std.proofs.Common.{[], get_or, subst, sym, ◌≡◌, ◌≤◌, ◌∙◌}
use Rattle.std.proofs.lemmas.List.{get_or-map}
use Rattle.psi_spec.specs.declared.machine.GroupLife.{GroupLife}
use Rattle.outside.specs.Calls.{PutsAll}
use Rattle.psi_spec.specs.Groups.{path_at}
use Rattle.plan_laws.specs.Plan.{last_change}
use Rattle.run_spec.specs.Lines.{stall_line}
use Rattle.plan_laws.proofs.PlanClocks.{clock_is_in_time}
use Rattle.commands.proofs.LineTexts.{times_at_end}
use Rattle.commands.proofs.lines.put_times.Goals as goal

pub opened-requires : goal.opened-requires
opened-requires g c =
    let plan = g.C.ProcClocks.plan c.args.clocks.now in
    let later = subst (λ k. last_change plan k ≤ c.args.last) (sym c.requires.all) c.requires.later in
    clock_is_in_time c.own.result plan c.args.slot.0 (g.C.ProcClocks.made c.args.clocks.now) c.args.last c.requires.whole c.own.ensures.clock later c.requires.early

pub returns-clause-bytes : goal.returns-clause-bytes
returns-clause-bytes g c =
    let plan = g.C.ProcClocks.plan c.args.clocks.now in
    let later = subst (λ k. last_change plan k ≤ c.args.last) (sym c.requires.all) c.requires.later in
    let times = c.opened.ensures ∙ times_at_end c.own.result plan c.args.slot.0 (g.C.ProcClocks.made c.args.clocks.now) c.args.last c.own.ensures.clock c.requires.all later in
    let path : (get_or c.args.groups.now c.args.slot.0 c.index-groups-slot.result).path ≡ path_at c.args.groups.now c.args.slot.0 =
    sym (get_or-map (λ (life : GroupLife). life.path) c.args.groups.now c.args.slot.0 c.index-groups-slot.result [] c.requires.made) in
    subst (λ ts. PutsAll (g.K.Sink.has c.args.out.now) (g.K.Sink.has c.write_stall.new.out) c.write_stall.result (stall_line c.args.cpu.0 (path_at c.args.groups.now c.args.slot.0) ts)) times
    (subst (λ p. PutsAll (g.K.Sink.has c.args.out.now) (g.K.Sink.has c.write_stall.new.out) c.write_stall.result (stall_line c.args.cpu.0 p c.opened.result)) path c.write_stall.ensures.bytes)
