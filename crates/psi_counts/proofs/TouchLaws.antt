-- The effect of a legal event on counts of tasks, on the processors that it touches and on all
-- other processors.
use Rattle.std.proofs.Common.{◌≡◌, ℕ, ◌+◌, List, [], ◌∷◌, refl, ap, ◌∙◌, sym, Bool, true, false, arith, cond, Option, None, Some, nat_lt, ◌==◌, ⊎_elim}
use Rattle.std.specs.Prelude.{◌&&◌, ◌||◌, if◌then◌else◌}
use Rattle.std.specs.List.{list_any}
use Rattle.std.specs.FinMap as fin
use Rattle.std.proofs.lemmas.Bool.Decides.{nat_tests, eqb_tells}
use Rattle.psi_base.specs.declared.event.How.{How}
use Rattle.psi_base.specs.declared.event.How.TheVariants.{Preempt, Sleep, IoWait, Exit, Idle}
use Rattle.psi_base.specs.declared.event.Pid.{Pid}
use Rattle.psi_base.specs.declared.event.Act.{Act}
use Rattle.psi_base.specs.declared.event.Act.TheVariants as act
use Rattle.psi_base.specs.declared.event.Event.{Event}
use Rattle.psi_base.specs.Missing.{is_some_and}
use Rattle.psi_spec.specs.declared.machine.Task.{Task}
use Rattle.psi_counts.specs.declared.changes.Change.{Change}
use Rattle.psi_counts.specs.declared.changes.Counts.{Counts}
use Rattle.psi_spec.specs.declared.machine.Mode.{Mode}
use Rattle.psi_spec.specs.declared.machine.Mode.TheVariants.{Blocked, Waiting, Ready, Running}
use Rattle.psi_spec.specs.World.{World, Limits, Tasks, task_of, change_to, leave, left_by, start, running_on, is_running_on, is_ready_on, is_running, is_ready, is_waiting, is_active, tasks_after, after_event, new_task, prepared_changes}
use Rattle.psi_spec.specs.Refusal.{cause_of, isnt_ready}
use Rattle.psi_spec.specs.Stall.{is_under, is_in, tasks_in, waits, stalls, is_up, runs}
use Rattle.psi_counts.specs.Counts.{how_many, counts_among, is_up_stalled, runs_stalled}
use Rattle.psi_counts.specs.Touch.{changed, task_after, part, change_on, change_of, no_counts, on_chain, CountsFollow, StaysUntouched}
use Rattle.psi_spec.specs.Changes.{before, is_at, touched}
use Rattle.psi_counts.proofs.CountLaws.{one, how_many-cons, any_counted}
use Rattle.psi_counts.proofs.AccountLaws.{no_account}
use Rattle.psi_counts.proofs.IrqLaws.{unknown_of}
use Rattle.psi_spec.proofs.RefusalLaws.{first_true, is_none, none_found_in, not_false, second_true}
use Rattle.psi_spec.proofs.TaskLaws.{task_placed}
use Rattle.psi_counts.proofs.TouchCounts.{tally, tallied_both, counted, counted_put, counted_changed, counted_leave, running_found}

-- If a disjunction of two tests is false, both tests are false.
or_false : (a b : Bool) → (a || b) ≡ false → (a ≡ false) × (b ≡ false)
or_false false b h = (refl, h)
or_false true b h = cc h

-- ---- a ready task stays as it is when the running one leaves

-- no mode is both ready and running
ready_off : (m : Mode) → is_ready m ≡ true → is_running m ≡ true → ⊥
ready_off Ready r s = cc s
ready_off Running r s = cc r
ready_off Blocked r s = cc r
ready_off Waiting r s = cc r

-- no task is both ready and running on a processor
not_both : (o : Option Task) (cpu : ℕ) → is_some_and o (is_ready_on cpu) ≡ true → is_some_and o (is_running_on cpu) ≡ true → ⊥
not_both None cpu r s = cc r
not_both (Some t) cpu r s = ready_off t.mode (second_true (t.cpu.0 == cpu) (is_ready t.mode) r) (second_true (t.cpu.0 == cpu) (is_running t.mode) s)

-- A ready task is unchanged when the running task leaves its processor.
pub ready_left : (tasks : Tasks) (cpu : ℕ) (how : How) (q : ℕ) → is_some_and (task_of tasks q) (is_ready_on cpu) ≡ true → (o : Option (ℕ × Task)) → running_on tasks cpu ≡ o → task_of (leave how tasks o) q ≡ task_of tasks q
ready_left tasks cpu how q ready None is = refl
ready_left tasks cpu how q ready (Some e) is =
    let f = running_found tasks cpu e is in
    task_placed tasks e.0 (left_by how e.1) q ∙ ⊎_elim
    (λ same. absurd (not_both (task_of tasks q) cpu ready (ap (λ o. is_some_and o (is_running_on cpu)) (ap (task_of tasks) same.1 ∙ f.0) ∙ f.1)))
    (λ other. ap (λ b. cond b (left_by how e.1) (task_of tasks q)) other.0)
    (eqb_tells q e.0)

-- ---- what an act does to a count

-- The test `p` doesn't distinguish a ready task from the task when it is running.
abbrev pub Blind : (Task → Bool) → Type 0
Blind p = (t : Task) → is_ready t.mode ≡ true → p (record t { mode = Running }) ≡ p t

-- a task that is ready on a processor is ready
ready_somewhere : (o : Option Task) (cpu : ℕ) → is_some_and o (is_ready_on cpu) ≡ true → is_some_and o (λ t. is_ready t.mode) ≡ true
ready_somewhere None cpu h = h
ready_somewhere (Some t) cpu h = second_true (t.cpu.0 == cpu) (is_ready t.mode) h

-- A ready task that starts to run doesn't change the number of tasks that pass a blind test.
counted_started : (p : Task → Bool) → Blind p → (tasks : Tasks) (pid : ℕ) (o : Option Task) → task_of tasks pid ≡ o → is_some_and o (λ t. is_ready t.mode) ≡ true → counted p (change_to tasks pid (λ task. record task { mode = Running }) o) ≡ counted p tasks
counted_started p blind tasks pid None is ready = refl
counted_started p blind tasks pid (Some t) is ready =
    let same = ap one (blind t ready) in
    let more = rw is at (counted_put p tasks pid (record t { mode = Running })) in
    omega (arith, same, more)

-- Starting a ready task after the running task has left doesn't change the number of tasks that
-- pass a blind test, apart from the task that left.
counted_start : (p : Task → Bool) → Blind p → (tasks : Tasks) (cpu : ℕ) (how : How) (next : Option Pid) → isnt_ready tasks cpu next ≡ false → counted p (start next (leave how tasks (running_on tasks cpu))) ≡ counted p (leave how tasks (running_on tasks cpu))
counted_start p blind tasks cpu how None h = refl
counted_start p blind tasks cpu how (Some pid) h =
    let ready = not_false (is_some_and (task_of tasks pid.0) (is_ready_on cpu)) h in
    let still = ready_left tasks cpu how pid.0 ready (running_on tasks cpu) refl in
    counted_started p blind (leave how tasks (running_on tasks cpu)) pid.0 _ refl (rw still (ready_somewhere (task_of tasks pid.0) cpu ready))

-- An act changes the number of tasks that pass the test `p` only by the task that it changes.
abbrev pub CountsOne : (Task → Bool) → World → Act → Type 0
CountsOne p w a = counted p (tasks_after w.groups w.tasks a) + one (is_some_and (before w.tasks a) p) ≡ counted p w.tasks + one (is_some_and (task_after w.groups w.tasks a) p)

-- Each legal act satisfies `CountsOne`.
pub counted_act : (p : Task → Bool) → Blind p → (limits : Limits) (w : World) (at : ℕ) (a : Act) → cause_of limits w (record { at = at; act = a }) ≡ None → CountsOne p w a
counted_act p blind limits w at (act.Fork pid path cpu) h =
    let new : task_of w.tasks pid.0 ≡ None = is_none _ (none_found_in limits w _ h).task_exists in
    rw new at (counted_put p w.tasks pid.0 (new_task w.groups path cpu.0))
counted_act p blind limits w at (act.Wake pid cpu) h = counted_changed p w.tasks pid.0 _ (task_of w.tasks pid.0) refl
counted_act p blind limits w at (act.Switch cpu next how) h =
    let same = counted_start p blind w.tasks cpu.0 how next (none_found_in limits w _ h).not_ready in
    let left = counted_leave p w.tasks cpu.0 how (running_on w.tasks cpu.0) refl in
    omega (arith, same, left)
counted_act p blind limits w at (act.Stall pid) h = counted_changed p w.tasks pid.0 _ (task_of w.tasks pid.0) refl
counted_act p blind limits w at (act.Unstall pid) h = counted_changed p w.tasks pid.0 _ (task_of w.tasks pid.0) refl
counted_act p blind limits w at (act.Migrate pid cpu) h = counted_changed p w.tasks pid.0 _ (task_of w.tasks pid.0) refl
counted_act p blind limits w at (act.Move pid path) h = counted_changed p w.tasks pid.0 _ (task_of w.tasks pid.0) refl
counted_act p blind limits w at _ h = refl

-- ---- the same of the four counts

-- The number of tasks that pass a test in a list of one task is 1 if the task passes, otherwise 0.
how_many_one : (kind : Task → Bool) (t : Task) → how_many kind (t ∷ []) ≡ one (kind t)
how_many_one kind t = how_many-cons kind t [] ∙ (let goal : one (kind t) + 0 ≡ one (kind t) = omega arith in goal)

-- A count of a task's part on a group is 1 if the task counts for the group, otherwise 0.
chain_field : (f : Counts → ℕ) → f no_counts ≡ 0 → (kind : Task → Bool) → ((t : Task) → f (counts_among (t ∷ [])) ≡ one (kind t)) → (parents : List (Option ℕ)) (cpu slot : ℕ) (o : Option Task) → one (is_some_and o (λ t. is_in parents cpu slot t && kind t)) ≡ f (on_chain parents slot (part cpu o))
chain_field f none kind same parents cpu slot None = sym none
chain_field f none kind same parents cpu slot (Some t) =
    elim (t.cpu.0 == cpu) as (λ a. one ((a && is_under parents t.slot.0 slot) && kind t) ≡ f (on_chain parents slot (if a then Some (t.slot, counts_among (t ∷ [])) else None))) [
      | true ↦ elim (is_under parents t.slot.0 slot) as (λ b. one (b && kind t) ≡ f (if b then counts_among (t ∷ []) else no_counts)) [ true ↦ sym (same t) | false ↦ sym none ]
      | false ↦ sym none
    ]

-- A blind test that is restricted to a group and a processor is blind.
blind_in : (kind : Task → Bool) → Blind kind → (parents : List (Option ℕ)) (cpu slot : ℕ) → Blind (λ t. is_in parents cpu slot t && kind t)
blind_in kind blind parents cpu slot t ready = ap (λ b. is_in parents cpu slot t && b) (blind t ready)

-- a ready task doesn't wait for IO
ready_waits : (m : Mode) → is_ready m ≡ true → is_waiting m ≡ false
ready_waits Ready h = refl
ready_waits Waiting h = cc h
ready_waits Blocked h = refl
ready_waits Running h = refl

-- A ready task is ready or running.
ready_up : (m : Mode) → is_ready m ≡ true → is_active m ≡ true
ready_up Ready h = refl
ready_up Waiting h = cc h
ready_up Blocked h = cc h
ready_up Running h = refl

-- One of the four counts of a group on a processor follows the event's change.
abbrev FollowsField : (Counts → ℕ) → (Task → Bool) → World → Event → List (Option ℕ) → ℕ → ℕ → Type 0
FollowsField f kind w event parents cpu slot =
    how_many kind (tasks_in parents cpu slot (after_event w event).tasks) + f (on_chain parents slot (part cpu (before w.tasks event.act)))
    ≡ how_many kind (tasks_in parents cpu slot w.tasks) + f (on_chain parents slot (part cpu (task_after w.groups w.tasks event.act)))

-- Each of the four counts follows the event's change, for a blind test.
field : (f : Counts → ℕ) → f no_counts ≡ 0 → (kind : Task → Bool) → ((t : Task) → f (counts_among (t ∷ [])) ≡ one (kind t)) → Blind kind → (limits : Limits) (w : World) (event : Event) → cause_of limits w event ≡ None → (parents : List (Option ℕ)) (cpu slot : ℕ) → FollowsField f kind w event parents cpu slot
field f none kind same blind limits w event legal parents cpu slot =
    rw (
      ← chain_field f none kind same parents cpu slot (before w.tasks event.act),
      ← chain_field f none kind same parents cpu slot (task_after w.groups w.tasks event.act),
      tallied_both (is_in parents cpu slot) kind (fin.values (tasks_after w.groups w.tasks event.act)),
      tallied_both (is_in parents cpu slot) kind (fin.values w.tasks),
    )
    (counted_act (λ t. is_in parents cpu slot t && kind t) (blind_in kind blind parents cpu slot) limits w event.at event.act legal)

-- All four counts follow the event's change.
pub counts_follow : CountsFollow
counts_follow limits w event legal parents cpu slot = record {
  io = field (λ n. n.io) refl waits (how_many_one waits) (λ t r. sym (ready_waits t.mode r)) limits w event legal parents cpu slot;
  stalled = field (λ n. n.stalled) refl stalls (how_many_one stalls) (λ t r. refl) limits w event legal parents cpu slot;
  running = field (λ n. n.running) refl is_up (how_many_one is_up) (λ t r. sym (ready_up t.mode r)) limits w event legal parents cpu slot;
  stalled_running = field (λ n. n.stalled_running) refl is_up_stalled (how_many_one is_up_stalled) (λ t r. ap (λ b. b && t.stalled) (sym (ready_up t.mode r))) limits w event legal parents cpu slot;
}

-- ---- what an act leaves as it was on a processor that it doesn't touch

-- Whether a task is on processor `c` and passes the test `g`.
abbrev at_cpu : ℕ → (Task → Bool) → Task → Bool
at_cpu c g t = is_at c t && g t

-- A task on another processor doesn't count.
off : (c : ℕ) (g : Task → Bool) (t : Task) → is_at c t ≡ false → one (at_cpu c g t) ≡ 0
off c g t h = ap (λ b. one (b && g t)) h

-- A task on another processor doesn't count after it left that processor either.
left_other : (how : How) (c : ℕ) (g : Task → Bool) (t : Task) → is_at c t ≡ false → one (is_some_and (left_by how t) (at_cpu c g)) ≡ 0
left_other Preempt c g t h = off c g (record t { mode = Ready }) h
left_other Sleep c g t h = off c g (record t { mode = Blocked }) h
left_other IoWait c g t h = off c g (record t { mode = Waiting }) h
left_other Exit c g t h = refl
left_other Idle c g t h = off c g t h

-- A number that is equal to one of two different numbers differs from the other.
elsewhere : (x cpu c : ℕ) → (x == cpu) ≡ true → (cpu == c) ≡ false → (x == c) ≡ false
elsewhere x cpu c s h = grind (arith, nat_tests)

-- A task that leaves a processor changes no count on other processors.
quiet_leave : (g : Task → Bool) (tasks : Tasks) (cpu c : ℕ) (how : How) → (cpu == c) ≡ false → (o : Option (ℕ × Task)) → running_on tasks cpu ≡ o → counted (at_cpu c g) (leave how tasks o) ≡ counted (at_cpu c g) tasks
quiet_leave g tasks cpu c how h None is = refl
quiet_leave g tasks cpu c how h (Some e) is =
    let other = elsewhere e.1.cpu.0 cpu c (first_true (e.1.cpu.0 == cpu) (is_running e.1.mode) ((running_found tasks cpu e is).1)) h in
    let left = counted_leave (at_cpu c g) tasks cpu how (Some e) is in
    let was = off c g e.1 other in
    let gone = left_other how c g e.1 other in
    omega (arith, left, was, gone)

-- A task that is on another processor before and after a change changes no count.
quiet_changed : (g : Task → Bool) (tasks : Tasks) (pid c : ℕ) (f : Task → Task) (o : Option Task) → task_of tasks pid ≡ o → is_some_and o (is_at c) ≡ false → is_some_and (changed f o) (is_at c) ≡ false → counted (at_cpu c g) (change_to tasks pid f o) ≡ counted (at_cpu c g) tasks
quiet_changed g tasks pid c f None is h k = refl
quiet_changed g tasks pid c f (Some t) is h k =
    let more = rw is at (counted_put (at_cpu c g) tasks pid (f t)) in
    let was = off c g t h in
    let now = off c g (f t) k in
    omega (arith, more, was, now)

-- A task that is ready on a processor is on no other processor.
ready_elsewhere : (o : Option Task) (cpu c : ℕ) → is_some_and o (is_ready_on cpu) ≡ true → (cpu == c) ≡ false → is_some_and o (is_at c) ≡ false
ready_elsewhere None cpu c r h = refl
ready_elsewhere (Some t) cpu c r h = elsewhere t.cpu.0 cpu c (first_true (t.cpu.0 == cpu) (is_ready t.mode) r) h

-- A task that is on another processor stays there if a change leaves its processor unchanged.
same_cpu : (f : Task → Task) → ((t : Task) → (f t).cpu ≡ t.cpu) → (o : Option Task) (c : ℕ) → is_some_and o (is_at c) ≡ false → is_some_and (changed f o) (is_at c) ≡ false
same_cpu f same None c h = refl
same_cpu f same (Some t) c h = rw (same t) h

-- A task that is put on the run queue of a processor is on no other processor.
prepared_cpu : (o : Option Task) (cpu c : ℕ) → (cpu == c) ≡ false → is_some_and (changed (prepared_changes cpu) o) (is_at c) ≡ false
prepared_cpu None cpu c h = refl
prepared_cpu (Some t) cpu c h = h

-- A task that starts on a processor changes no count on other processors.
quiet_start : (g : Task → Bool) (tasks : Tasks) (cpu c : ℕ) (how : How) (next : Option Pid) → (cpu == c) ≡ false → isnt_ready tasks cpu next ≡ false → counted (at_cpu c g) (start next (leave how tasks (running_on tasks cpu))) ≡ counted (at_cpu c g) (leave how tasks (running_on tasks cpu))
quiet_start g tasks cpu c how None h k = refl
quiet_start g tasks cpu c how (Some pid) h k =
    let ready = not_false (is_some_and (task_of tasks pid.0) (is_ready_on cpu)) k in
    let still = ready_left tasks cpu how pid.0 ready (running_on tasks cpu) refl in
    let other : is_some_and (task_of (leave how tasks (running_on tasks cpu)) pid.0) (is_at c) ≡ false = rw still (ready_elsewhere (task_of tasks pid.0) cpu c ready h) in
    quiet_changed g (leave how tasks (running_on tasks cpu)) pid.0 c (λ task. record task { mode = Running }) (task_of (leave how tasks (running_on tasks cpu)) pid.0) refl other
    (same_cpu (λ task. record task { mode = Running }) (λ _. refl) (task_of (leave how tasks (running_on tasks cpu)) pid.0) c other)

-- A task that is put on the run queue of another processor changes no count on this processor.
quiet_prepared : (g : Task → Bool) (tasks : Tasks) (pid cpu c : ℕ) → (cpu == c || is_some_and (task_of tasks pid) (is_at c)) ≡ false → counted (at_cpu c g) (change_to tasks pid (prepared_changes cpu) (task_of tasks pid)) ≡ counted (at_cpu c g) tasks
quiet_prepared g tasks pid cpu c h =
    let both = or_false (cpu == c) (is_some_and (task_of tasks pid) (is_at c)) h in
    quiet_changed g tasks pid c (prepared_changes cpu) (task_of tasks pid) refl both.1 (prepared_cpu (task_of tasks pid) cpu c both.0)

-- A change of a task on another processor, which stays there, changes no count on this processor.
quiet_there : (g : Task → Bool) (tasks : Tasks) (pid c : ℕ) (f : Task → Task) → ((t : Task) → (f t).cpu ≡ t.cpu) → is_some_and (task_of tasks pid) (is_at c) ≡ false → counted (at_cpu c g) (change_to tasks pid f (task_of tasks pid)) ≡ counted (at_cpu c g) tasks
quiet_there g tasks pid c f same h = quiet_changed g tasks pid c f (task_of tasks pid) refl h (same_cpu f same (task_of tasks pid) c h)

-- an act that doesn't touch a processor leaves each count of tasks there unchanged
pub quiet_act : (g : Task → Bool) (limits : Limits) (w : World) (at : ℕ) (a : Act) (c : ℕ) → cause_of limits w (record { at = at; act = a }) ≡ None → touched a (before w.tasks a) c ≡ false → counted (at_cpu c g) (tasks_after w.groups w.tasks a) ≡ counted (at_cpu c g) w.tasks
quiet_act g limits w at (act.Fork pid path cpu) c legal h =
    let new : task_of w.tasks pid.0 ≡ None = is_none _ (none_found_in limits w _ legal).task_exists in
    let more = rw new at (counted_put (at_cpu c g) w.tasks pid.0 (new_task w.groups path cpu.0)) in
    let now = off c g (new_task w.groups path cpu.0) h in
    omega (arith, more, now)
quiet_act g limits w at (act.Wake pid cpu) c legal h = quiet_prepared g w.tasks pid.0 cpu.0 c h
quiet_act g limits w at (act.Switch cpu next how) c legal h =
    quiet_start g w.tasks cpu.0 c how next h (none_found_in limits w _ legal).not_ready ∙ quiet_leave g w.tasks cpu.0 c how h (running_on w.tasks cpu.0) refl
quiet_act g limits w at (act.Stall pid) c legal h = quiet_there g w.tasks pid.0 c _ (λ _. refl) h
quiet_act g limits w at (act.Unstall pid) c legal h = quiet_there g w.tasks pid.0 c _ (λ _. refl) h
quiet_act g limits w at (act.Migrate pid cpu) c legal h = quiet_prepared g w.tasks pid.0 cpu.0 c h
quiet_act g limits w at (act.Move pid path) c legal h = quiet_there g w.tasks pid.0 c _ (λ _. refl) h
quiet_act g limits w at _ c legal h = refl

-- Tests that agree on each task count equal numbers of tasks.
pub tally_same : (p q : Task → Bool) → ((t : Task) → p t ≡ q t) → (tasks : List Task) → tally p tasks ≡ tally q tasks
tally_same p q same [] = refl
tally_same p q same (t ∷ tasks) =
    let here = ap one (same t) in
    let rest = tally_same p q same tasks in
    omega (arith, here, rest)

-- Conjunction is associative.
and_shift : (a b c : Bool) → ((a && b) && c) ≡ (a && (b && c))
and_shift true b c = refl
and_shift false b c = refl

-- The number of tasks that count for a group on a processor and pass a test, as a number of tasks
-- on that processor.
many_in : (parents : List (Option ℕ)) (cpu slot : ℕ) (kind : Task → Bool) (tasks : Tasks) → how_many kind (tasks_in parents cpu slot tasks) ≡ counted (at_cpu cpu (λ t. is_under parents t.slot.0 slot && kind t)) tasks
many_in parents cpu slot kind tasks =
    tallied_both (is_in parents cpu slot) kind (fin.values tasks)
    ∙ tally_same (λ t. is_in parents cpu slot t && kind t) (at_cpu cpu (λ t. is_under parents t.slot.0 slot && kind t)) (λ t. and_shift (t.cpu.0 == cpu) (is_under parents t.slot.0 slot) (kind t)) (fin.values tasks)

-- If a conditional result is `None`, its condition is false.
not_then : (b : Bool) (change : Change) → (if b then Some change else None) ≡ None → b ≡ false
not_then true change h = cc h
not_then false change h = refl

-- an event without a change of a processor doesn't touch it
untouched : (w : World) (event : Event) (cpu : ℕ) → change_of w event cpu ≡ None → touched event.act (before w.tasks event.act) cpu ≡ false
unfolding change_of
untouched w event cpu h =
    not_then (touched event.act (before w.tasks event.act) cpu) (change_on w.groups event (before w.tasks event.act) (task_after w.groups w.tasks event.act) (tasks_after w.groups w.tasks event.act) cpu) h

-- An event that makes no change of a processor leaves each count of a group there unchanged.
quiet_many : (limits : Limits) (w : World) (event : Event) → cause_of limits w event ≡ None → (cpu : ℕ) → change_of w event cpu ≡ None → (parents : List (Option ℕ)) (slot : ℕ) (kind : Task → Bool) → how_many kind (tasks_in parents cpu slot (after_event w event).tasks) ≡ how_many kind (tasks_in parents cpu slot w.tasks)
quiet_many limits w event legal cpu none parents slot kind =
    many_in parents cpu slot kind (after_event w event).tasks
    ∙ quiet_act (λ t. is_under parents t.slot.0 slot && kind t) limits w event.at event.act cpu legal (untouched w event cpu none)
    ∙ sym (many_in parents cpu slot kind w.tasks)

-- If equally many tasks of two lists pass a test, then some task passes in both lists or in
-- neither.
any_same : (test : Task → Bool) (tasks others : List Task) → how_many test others ≡ how_many test tasks → list_any test tasks ≡ list_any test others
any_same test tasks others same = any_counted test tasks ∙ ap (nat_lt 0) (sym same) ∙ sym (any_counted test others)

-- An event that makes no change of a processor leaves all four counts and the running task there
-- unchanged.
pub stays_untouched : StaysUntouched
stays_untouched limits w event legal cpu none parents slot =
    let same = quiet_many limits w event legal cpu none parents slot in (
      rw (same waits, same stalls, same is_up, same is_up_stalled) refl,
      λ on stalled known. record {
        at_most_one = rw (same runs) known.at_most_one;
        one_runs = known.one_runs ∙ any_same runs (tasks_in parents cpu slot w.tasks) (tasks_in parents cpu slot (after_event w event).tasks) (same runs);
        it_is_stalled = known.it_is_stalled ∙ any_same runs_stalled (tasks_in parents cpu slot w.tasks) (tasks_in parents cpu slot (after_event w event).tasks) (same runs_stalled);
      },
      unknown_of w.tasks event.act cpu (untouched w event cpu none),
      no_account w.groups w.tasks event.act cpu (untouched w event cpu none),
    )
