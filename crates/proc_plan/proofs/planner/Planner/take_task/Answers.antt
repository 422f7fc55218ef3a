use Rattle.std.proofs.Common.{◌≡◌, ◌<◌, ℕ, Option, None, [], ◌++◌, length, take, drop, sym, ap, ◌∙◌, subst}
use Rattle.std.proofs.lemmas.List.{append-nil, length-map}
use Rattle.std.proofs.Math.ListN.{get_or-map}
use Rattle.std.specs.Prelude.{slice_index_or}
use Rattle.psi_counts.specs.Legal.{with_change}
use Rattle.psi_counts.specs.Touch.{change_known, account_first, shown, change_by_cpu}
use Rattle.psi_counts.specs.declared.changes.Change.{Change}
use Rattle.psi_spec.specs.World.{running_on}
use Rattle.trace_player.specs.TaskActs.{as_event}
use Rattle.proc_plan.specs.Plans.{HasTaken, changes_at, planner_view}
use Rattle.proc_plan.specs.Room.{ChangesView, changes_in, lists_of, no_room}
use Rattle.proc_plan.proofs.TaskActSides.{no_sides, no_trigger}
use Rattle.proc_plan.proofs.Taking.{HasStepped, room_for, slots_fit, taken_more, written}
use Rattle.proc_plan.proofs.planner.Planner.take_task.Goals as goal

pub add_touched-requires-clause-room : goal.add_touched-requires-clause-room
add_touched-requires-clause-room c =
    let each : length c.reserve_task.new.changes ≡ c.self.inside.table.limits.cpus = c.in_ok-reserve_task.ensures.each ∙ ap length c.deref_mut.ensures.value ∙ sym (length-map c.self.inside.changes.items (λ (changes : ChangesView). changes.list)) ∙ c.self.invariant.each in
    let there : c.deref_mut-2.result.now ≡ c.reserve_task.new.changes = c.deref_mut-2.ensures.value ∙ written c.self.inside.changes.len c.reserve_task.new.changes c.self.inside.changes.items (c.in_ok-reserve_task.ensures.each ∙ c.deref_mut.ensures.len) in
    rw there
    (room_for c.self.inside.table.world (as_event c.args.at c.args.act) c.perform_task-touch.result c.in_ok-finding.finding.before c.reserve_task.new.changes c.self.inside.table.limits.cpus c.in_ok-finding.ensures.before_is c.perform_task-touch.ensures.touch c.perform_task-touch.ensures.cpus each c.in_ok-reserve_task.ensures.room)

pub add_touched-requires-clause-slots : goal.add_touched-requires-clause-slots
add_touched-requires-clause-slots c = slots_fit c.self.inside.table.limits c.self.inside.table.world c.perform_task-touch.result c.perform_task-touch.ensures.plays.legal_before c.perform_task-touch.ensures.slots

pub returns-clause-takes : goal.returns-clause-takes
returns-clause-takes c = λ limits events taken.
    let event = as_event c.args.at c.args.act in
    let old = planner_view c.self.inside.table (lists_of c.self.inside.changes.items) c.self.inside.triggers.items c.self.inside.sides.items in
    let new = planner_view c.perform_task-touch.new.self (lists_of c.add_touched.new.changes) c.self.inside.triggers.items c.self.inside.sides.items in
    let touch = c.perform_task-touch.result in
    let there : c.deref_mut-2.result.now ≡ c.reserve_task.new.changes = c.deref_mut-2.ensures.value ∙ written c.self.inside.changes.len c.reserve_task.new.changes c.self.inside.changes.items (c.in_ok-reserve_task.ensures.each ∙ c.deref_mut.ensures.len) in
    let kept : lists_of c.reserve_task.new.changes ≡ lists_of c.self.inside.changes.items = c.in_ok-reserve_task.ensures.changes ∙ ap lists_of c.deref_mut.ensures.value in
    let known_at : ℕ → Option Change = λ cpu. change_known c.args.at (shown (running_on c.perform_task-touch.new.self.world.tasks cpu)) touch cpu in
    let plain : (cpu : ℕ) → change_by_cpu touch cpu ≡ known_at cpu = λ cpu. ap (λ account. account_first c.args.at (shown (running_on c.perform_task-touch.new.self.world.tasks cpu)) account (change_by_cpu touch cpu)) (sym c.perform_task-touch.ensures.account) in
    let changes : (cpu : ℕ) → cpu < c.self.inside.table.limits.cpus → changes_at new cpu ≡ changes_at old cpu ++ with_change (known_at cpu) [] = λ cpu below.
    get_or-map (λ (changes : ChangesView). changes.list) c.add_touched.new.changes cpu no_room
    ∙ c.add_touched.ensures.added cpu
    ∙ ap (λ known. changes_in c.deref_mut-2.result.now cpu ++ with_change known []) (plain cpu)
    ∙ ap (λ list. list ++ with_change (known_at cpu) []) (ap (λ changes. changes_in changes cpu) there ∙ sym (get_or-map (λ (changes : ChangesView). changes.list) c.reserve_task.new.changes cpu no_room) ∙ ap (λ lists. slice_index_or lists cpu []) kept) in
    let step : HasStepped old new event touch None None None = record {
      fits = c.requires.fits;
      played = c.perform_task-touch.ensures.plays;
      known = c.perform_task-touch.ensures.touch;
      changes = changes;
      trigger_is = no_trigger c.args.at c.self.inside.table.world.groups c.args.act;
      triggers = sym (append-nil c.self.inside.triggers.items);
      sides_are = no_sides c.self.inside.table.world c.args.at c.args.act c.requires.stays;
      sides = sym (append-nil (c.self.inside.sides.items ++ []) ∙ append-nil c.self.inside.sides.items);
    } in
    rw (written c.self.inside.changes.len c.add_touched.new.changes (take c.self.inside.changes.len (c.reserve_task.new.changes ++ drop (length c.reserve_task.new.changes) c.self.inside.changes.items)) (c.add_touched.ensures.each ∙ c.deref_mut-2.ensures.len))
    (taken_more old new event touch None None None limits events step (subst (λ planner. HasTaken planner limits events) (sym c.self.view_is) taken))
