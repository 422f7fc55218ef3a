use Rattle.std.proofs.Common.{◌≡◌, arith, subst, sym, ap, ◌∙◌, length, drop}
use Rattle.std.specs.Io.KnownBytes.{Appends}
use Rattle.std.proofs.Math.Seq.{take-append_seam}
use Rattle.outside.specs.Outside.{AppendsPrefix}
use Rattle.psi_spec.specs.Header.{version_of}
use Rattle.group_tree.specs.Tree.{live_slots}
use Rattle.proc_plan.specs.Plans.{plan_at}
use Rattle.commands.specs.Lines.{HasMadeAll}
use Rattle.replay_workers.specs.Crew.{clocks_at}
use Rattle.commands.proofs.LineTexts.{ends_later, live_below, printed_text}
use Rattle.commands.proofs.stalls.write_stalls.Goals as goal

pub put_lines-requires-clause-all : goal.put_lines-requires-clause-all
put_lines-requires-clause-all g c = λ cpu below.
    let size : c.in-Ok-first_clocks.clocks.len ≡ length c.make_each.new.clocks = omega (arith, c.make_each.ensures.each, c.deref_mut.ensures.len, ap length c.deref_mut.ensures.value) in
    let same : c.deref_mut-2.result.now ≡ c.make_each.new.clocks = c.deref_mut-2.ensures.value ∙ rw size (take-append_seam c.make_each.new.clocks (drop (length c.make_each.new.clocks) c.in-Ok-first_clocks.clocks.items)) in
    subst (λ clocks. HasMadeAll (plan_at c.in-Ok.plans cpu) (clocks_at clocks cpu)) (sym same) (c.make_each.ensures.all cpu (omega (arith, below, ap length same, c.make_each.ensures.each)))

pub put_lines-requires-clause-made : goal.put_lines-requires-clause-made
put_lines-requires-clause-made g c =
    let ordered = c.deref.ensures.value ∙ c.in-Ok-live_order.ensures ∙ ap live_slots c.groups.ensures.lives in
    rw ordered (live_below c.in-Ok.plans.lives)

pub put_lines-requires-clause-later : goal.put_lines-requires-clause-later
put_lines-requires-clause-later g c = λ cpu below.
    let trace = c.requires.trace in
    let represents = c.in-Ok.ensures trace.0 trace.1 trace.2 in
    rw c.finish-2.ensures (ends_later trace.0 c.in-Ok.plans trace.1 cpu trace.2.legal represents (omega (arith, below, ap length c.deref_mut.ensures.value, c.in-Ok-first_clocks.ensures.on.each, represents.each)))

pub returns-in-Ok-put_lines-clause-writes : goal.returns-in-Ok-put_lines-clause-writes
returns-in-Ok-put_lines-clause-writes g c = λ limits events taken.
    let ordered = c.deref.ensures.value ∙ c.in-Ok-live_order.ensures ∙ ap live_slots c.groups.ensures.lives in
    let text = printed_text limits (version_of c.args.version) c.in-Ok.plans events c.deref.result.now c.finish-2.result taken.legal (c.in-Ok.ensures limits events taken) ordered c.finish-2.ensures in
    (subst (Appends (g.K.Sink.has c.args.out.now) (g.K.Sink.has c.put_lines.new.out)) text c.in-Ok-put_lines.ensures.bytes, c.in-Ok-put_lines.ensures.cause.same)

pub returns-clause-writes : goal.returns-clause-writes
returns-clause-writes g c = λ limits events taken.
    let ordered = c.deref.ensures.value ∙ c.in-Ok-live_order.ensures ∙ ap live_slots c.groups.ensures.lives in
    let text = printed_text limits (version_of c.args.version) c.in-Ok.plans events c.deref.result.now c.finish-2.result taken.legal (c.in-Ok.ensures limits events taken) ordered c.finish-2.ensures in
    (subst (AppendsPrefix (g.K.Sink.has c.args.out.now) (g.K.Sink.has c.put_lines.new.out)) text c.in-Err-put_lines.ensures.bytes, c.in-Err-put_lines.ensures.cause.failed)
