use Rattle.std.proofs.Common.{◌≡◌, ◌<◌, ℕ, Option, [], ◌++◌, length, take, drop, arith, sym, ap, ◌∙◌, subst}
use Rattle.std.proofs.lemmas.List.{length-map}
use Rattle.std.proofs.Math.ListN.{get_or-map}
use Rattle.std.specs.Prelude.{slice_index_or}
use Rattle.psi_spec.specs.Within.{listed}
use Rattle.psi_counts.specs.Legal.{with_change}
use Rattle.psi_counts.specs.Touch.{change_known, shown}
use Rattle.psi_counts.specs.declared.changes.Change.{Change}
use Rattle.psi_spec.specs.Names.{names}
use Rattle.psi_spec.specs.World.{Limits, running_on}
use Rattle.task_table.specs.Named.{slot_or_root}
use Rattle.task_table.proofs.CauseLaws.{slot_found}
use Rattle.proc_plan.specs.Plans.{HasTaken, changes_at, planner_view}
use Rattle.proc_plan.specs.Room.{ChangesView, changes_in, lists_of, no_room}
use Rattle.proc_plan.proofs.Taking.{HasStepped, account_slots_fit, room_for, room_for_all, slots_fit, taken_more, written}
use Rattle.proc_plan.proofs.planner.Planner.take_other.Goals as goal

pub add_changes-requires-clause-room : goal.add_changes-requires-clause-room
add_changes-requires-clause-room c =
    let each : length c.make_room.new.changes ≡ c.self.inside.table.limits.cpus = c.in_ok-make_room.ensures.each ∙ ap length c.deref_mut.ensures.value ∙ sym (length-map c.self.inside.changes.items (λ (changes : ChangesView). changes.list)) ∙ c.self.invariant.each in
    let there : c.deref_mut-2.result.now ≡ c.make_room.new.changes = c.deref_mut-2.ensures.value ∙ written c.self.inside.changes.len c.make_room.new.changes c.self.inside.changes.items (c.in_ok-make_room.ensures.each ∙ c.deref_mut.ensures.len) in
    rw there
    (room_for c.self.inside.table.world c.args.event.now c.in_ok-touch.touch c.in_ok-finding.finding.before c.make_room.new.changes c.self.inside.table.limits.cpus c.in_ok-finding.ensures.before_is c.in_ok-touch.ensures.touch c.in_ok-touch.ensures.cpus each c.in_ok-make_room.ensures.room)

pub add_changes-requires-clause-all : goal.add_changes-requires-clause-all
add_changes-requires-clause-all c =
    let each : length c.make_room.new.changes ≡ c.self.inside.table.limits.cpus = c.in_ok-make_room.ensures.each ∙ ap length c.deref_mut.ensures.value ∙ sym (length-map c.self.inside.changes.items (λ (changes : ChangesView). changes.list)) ∙ c.self.invariant.each in
    let there : c.deref_mut-2.result.now ≡ c.make_room.new.changes = c.deref_mut-2.ensures.value ∙ written c.self.inside.changes.len c.make_room.new.changes c.self.inside.changes.items (c.in_ok-make_room.ensures.each ∙ c.deref_mut.ensures.len) in
    rw there
    (room_for_all c.self.inside.table.world c.args.event.now c.in_ok-touch.touch c.in_ok-finding.finding.before c.make_room.new.changes c.self.inside.table.limits.cpus c.in_ok-finding.ensures.before_is c.in_ok-touch.ensures.touch each c.in_ok-make_room.ensures.room)

pub add_changes-requires-clause-each : goal.add_changes-requires-clause-each
add_changes-requires-clause-each c =
    let each : length c.make_room.new.changes ≡ c.self.inside.table.limits.cpus = c.in_ok-make_room.ensures.each ∙ ap length c.deref_mut.ensures.value ∙ sym (length-map c.self.inside.changes.items (λ (changes : ChangesView). changes.list)) ∙ c.self.invariant.each in
    let there : c.deref_mut-2.result.now ≡ c.make_room.new.changes = c.deref_mut-2.ensures.value ∙ written c.self.inside.changes.len c.make_room.new.changes c.self.inside.changes.items (c.in_ok-make_room.ensures.each ∙ c.deref_mut.ensures.len) in
    rw there (each ∙ sym (ap (λ (limits : Limits). limits.cpus) c.in_ok-touch.ensures.plays.limits))

pub add_changes-requires-clause-slots : goal.add_changes-requires-clause-slots
add_changes-requires-clause-slots c = slots_fit c.self.inside.table.limits c.self.inside.table.world c.in_ok-touch.touch c.in_ok-touch.ensures.plays.legal_before c.in_ok-touch.ensures.slots

pub add_changes-requires-clause-account_slots : goal.add_changes-requires-clause-account_slots
add_changes-requires-clause-account_slots c =
    let plays = c.in_ok-touch.ensures.plays in
    rw (plays.limits, plays.world) (account_slots_fit c.self.inside.table.limits c.self.inside.table.world c.args.event.now c.in_ok-touch.touch plays.legal plays.legal_before c.in_ok-touch.ensures.touch)

pub returns-clause-takes : goal.returns-clause-takes
returns-clause-takes c = λ limits events taken.
    let old = planner_view c.self.inside.table (lists_of c.self.inside.changes.items) c.self.inside.triggers.items c.self.inside.sides.items in
    let new = planner_view c.perform.new.self (lists_of c.add_changes.new.changes) c.add_trigger.new.triggers.items c.add_side-2.new.sides.items in
    let known = c.known_by-known.result in
    let slot = c.slot.ensures ∙ ap slot_or_root c.in_ok-finding.ensures.group_is ∙ slot_found c.self.inside.table.world.groups (names c.args.event.now.act).live_path in
    let there : c.deref_mut-2.result.now ≡ c.make_room.new.changes = c.deref_mut-2.ensures.value ∙ written c.self.inside.changes.len c.make_room.new.changes c.self.inside.changes.items (c.in_ok-make_room.ensures.each ∙ c.deref_mut.ensures.len) in
    let kept : lists_of c.make_room.new.changes ≡ lists_of c.self.inside.changes.items = c.in_ok-make_room.ensures.changes ∙ ap lists_of c.deref_mut.ensures.value in
    let each : length c.make_room.new.changes ≡ c.self.inside.table.limits.cpus = c.in_ok-make_room.ensures.each ∙ ap length c.deref_mut.ensures.value ∙ sym (length-map c.self.inside.changes.items (λ (changes : ChangesView). changes.list)) ∙ c.self.invariant.each in
    let known_at : ℕ → Option Change = λ cpu. change_known c.args.event.now.at (shown (running_on c.perform.new.self.world.tasks cpu)) c.in_ok-touch.touch cpu in
    let changes : (cpu : ℕ) → cpu < c.self.inside.table.limits.cpus → changes_at new cpu ≡ changes_at old cpu ++ with_change (known_at cpu) [] = λ cpu below.
    get_or-map (λ (changes : ChangesView). changes.list) c.add_changes.new.changes cpu no_room
    ∙ c.add_changes.ensures.added cpu (rw there (omega (arith, below, each)))
    ∙ ap (λ list. list ++ with_change (known_at cpu) []) (ap (λ changes. changes_in changes cpu) there ∙ sym (get_or-map (λ (changes : ChangesView). changes.list) c.make_room.new.changes cpu no_room) ∙ ap (λ lists. slice_index_or lists cpu []) kept) in
    let step : HasStepped old new c.args.event.now c.in_ok-touch.touch known.trigger known.first known.second = record {
      fits = c.requires;
      played = c.in_ok-touch.ensures.plays;
      known = c.in_ok-touch.ensures.touch;
      changes = changes;
      trigger_is = c.known_by-known.ensures.trigger c.self.inside.table.world.groups slot;
      triggers = c.add_trigger.ensures ∙ ap (λ triggers. triggers ++ listed known.trigger) c.in_ok-make_room.ensures.triggers;
      sides_are = c.known_by-known.ensures.sides c.self.inside.table.world c.in_ok-finding.ensures.before_is slot;
      sides = c.add_side-2.ensures.sides ∙ ap (λ sides. sides ++ listed known.second) (c.add_side.ensures.sides ∙ ap (λ sides. sides ++ listed known.first) c.in_ok-make_room.ensures.sides);
    } in
    rw (written c.self.inside.changes.len c.add_changes.new.changes (take c.self.inside.changes.len (c.make_room.new.changes ++ drop (length c.make_room.new.changes) c.self.inside.changes.items)) (c.add_changes.ensures.each ∙ c.deref_mut-2.ensures.len))
    (taken_more old new c.args.event.now c.in_ok-touch.touch known.trigger known.first known.second limits events step (subst (λ planner. HasTaken planner limits events) (sym c.self.view_is) taken))
