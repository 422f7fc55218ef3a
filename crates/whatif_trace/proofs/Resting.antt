-- Proves, event by event, that the events after the exits are legal without the dead tasks.
use Rattle.std.proofs.Common.{◌≡◌, ℕ, ◌+◌, ◌≤◌, ◌<◌, List, [], ◌∷◌, ◌++◌, refl, ap, ◌∙◌, sym, subst, arith, false, None, Some, length}
use Rattle.std.specs.Prelude.{nat_lt, slice_get}
use Rattle.std.specs.FinMap as tasks_by
use Rattle.psi_base.specs.declared.event.Act.{Act}
use Rattle.psi_base.specs.declared.event.Act.TheVariants as act
use Rattle.psi_base.specs.declared.event.Event.{Event}
use Rattle.psi_spec.specs.World.{Limits, Tasks, World, after_event, after_from, prepared_changes, task_of, events_at}
use Rattle.std.proofs.lemmas.Bool.Decides.{nat_tests}
use Rattle.std.proofs.lemmas.List.{length-append}
use Rattle.psi_base.specs.declared.event.Cause.{Cause}
use Rattle.psi_base.specs.declared.event.Cause.TheVariants as cause
use Rattle.psi_spec.specs.Refusal.{AreLegal, applies, cause_of, cause_order, lacks_group}
use Rattle.psi_spec.proofs.Following.{after_from-append, open_of_legal}
use Rattle.psi_spec.proofs.RefusalLaws.{passed}
use Rattle.psi_counts.specs.Legal.{IsLegalWorld}
use Rattle.psi_counts.specs.Touch.{RunsOnce}
use Rattle.psi_counts.proofs.LegalLaws.{legal_kept}
use Rattle.task_table.proofs.CauseLaws.{let_through}
use Rattle.task_table.specs.Causes.{migrate_cause, path_cause, stall_cause, unstall_cause, wake_cause}
use Rattle.group_tree.specs.Tree.{add_cause}
use Rattle.whatif_spec.specs.Without.{act_without, dead_after, is_pid_among, rest_without}
use Rattle.whatif_trace.specs.Rest.{IsWithout, dead_later_on}
use Rattle.whatif_trace.proofs.Fewer.{either, found_kept, no_more}
use Rattle.whatif_trace.proofs.Changing.{change_alive, change_dead, placed_alive}
use Rattle.whatif_trace.proofs.Living.{AreLive, act_live}
use Rattle.whatif_trace.proofs.Steps.{Goes, HasRoom, NoneAgainst, event_at, forked_still, may_fork, moved_still, of_pid, of_tasks, removed_still, same_act}
use Rattle.whatif_trace.proofs.Switching.{switch_goes}

-- A pid without a live task isn't the pid of a dead task.
new_alive : (dead : List ℕ) (tasks : Tasks) (pid : ℕ) → AreLive dead tasks → task_of tasks pid ≡ None → is_pid_among dead pid ≡ false
new_alive dead tasks pid live none = either (is_pid_among dead pid) (λ is. let some = live pid is in let no : ⊥ = cc (some, none) in no)

-- What remains of a legal act is legal, and the relation of the two worlds is preserved.
pub act_goes : (limits : Limits) (dead : List ℕ) (w v : World) (at : ℕ) (what : Act) → IsWithout dead w v → RunsOnce w.tasks → AreLive dead w.tasks → HasRoom limits v at → NoneAgainst limits w at what
    → Goes limits (dead_after dead w what) w v at what (act_without dead w what)
act_goes limits dead w v at (act.Group path) is once live room none = same_act limits dead dead w v at (act.Group path) is room (ap (λ gs. add_cause gs path) is.groups ∙ none) is.tasks
act_goes limits dead w v at (act.Remove path) is once live room none = same_act limits dead dead w v at (act.Remove path) is room (rw is.groups (removed_still dead w.tasks v.tasks w.groups path is.tasks none)) is.tasks
act_goes limits dead w v at (act.Prefer path preference) is once live room none = same_act limits dead dead w v at (act.Prefer path preference) is room (ap (λ gs. path_cause (lacks_group gs (Some path))) is.groups ∙ none) is.tasks
act_goes limits dead w v at (act.Fork pid path cpu) is once live room none =
    let may = may_fork limits.cpus w.groups (tasks_by.len w.tasks) (task_of w.tasks pid.0) path cpu.0 none in
    let alive = new_alive dead w.tasks pid.0 live may.new in
    let found = found_kept dead w.tasks v.tasks is.tasks pid.0 alive ∙ may.new in
    let legal = forked_still limits.cpus w.groups (tasks_by.len w.tasks) (tasks_by.len v.tasks) (task_of w.tasks pid.0) path cpu.0 (no_more dead w.tasks v.tasks is.tasks) none in
    same_act limits dead dead w v at (act.Fork pid path cpu) is room (rw (is.groups, found) legal) (rw is.groups (placed_alive dead w.tasks v.tasks pid.0 (Some _) is.tasks alive))
act_goes limits dead w v at (act.Wake pid cpu) is once live room none =
    of_pid limits dead w v at pid (act.Wake pid cpu) is room (of_tasks at (act.Wake pid cpu) (λ g. refl) (λ i. refl) refl refl refl)
    (λ alive. ap (λ o. wake_cause limits.cpus o cpu.0) (found_kept dead w.tasks v.tasks is.tasks pid.0 alive) ∙ none)
    (λ alive. change_alive dead w.tasks v.tasks pid.0 (prepared_changes cpu.0) is.tasks alive)
    (λ gone. change_dead dead w.tasks v.tasks pid.0 (prepared_changes cpu.0) is.tasks gone)
act_goes limits dead w v at (act.Switch cpu next how) is once live room none = switch_goes limits dead w v at cpu next how is once room none
act_goes limits dead w v at (act.Stall pid) is once live room none =
    of_pid limits dead w v at pid (act.Stall pid) is room (of_tasks at (act.Stall pid) (λ g. refl) (λ i. refl) refl refl refl)
    (λ alive. ap stall_cause (found_kept dead w.tasks v.tasks is.tasks pid.0 alive) ∙ none)
    (λ alive. change_alive dead w.tasks v.tasks pid.0 _ is.tasks alive)
    (λ gone. change_dead dead w.tasks v.tasks pid.0 _ is.tasks gone)
act_goes limits dead w v at (act.Unstall pid) is once live room none =
    of_pid limits dead w v at pid (act.Unstall pid) is room (of_tasks at (act.Unstall pid) (λ g. refl) (λ i. refl) refl refl refl)
    (λ alive. ap unstall_cause (found_kept dead w.tasks v.tasks is.tasks pid.0 alive) ∙ none)
    (λ alive. change_alive dead w.tasks v.tasks pid.0 _ is.tasks alive)
    (λ gone. change_dead dead w.tasks v.tasks pid.0 _ is.tasks gone)
act_goes limits dead w v at (act.Migrate pid cpu) is once live room none =
    of_pid limits dead w v at pid (act.Migrate pid cpu) is room (of_tasks at (act.Migrate pid cpu) (λ g. refl) (λ i. refl) refl refl refl)
    (λ alive. ap (λ o. migrate_cause limits.cpus o cpu.0) (found_kept dead w.tasks v.tasks is.tasks pid.0 alive) ∙ none)
    (λ alive. change_alive dead w.tasks v.tasks pid.0 (prepared_changes cpu.0) is.tasks alive)
    (λ gone. change_dead dead w.tasks v.tasks pid.0 (prepared_changes cpu.0) is.tasks gone)
act_goes limits dead w v at (act.Move pid path) is once live room none =
    of_pid limits dead w v at pid (act.Move pid path) is room (of_tasks at (act.Move pid path) (λ g. refl) (λ i. refl) refl refl refl)
    (λ alive. moved_still w.groups v.groups (task_of w.tasks pid.0) (task_of v.tasks pid.0) path is.groups (found_kept dead w.tasks v.tasks is.tasks pid.0 alive) none)
    (λ alive. rw is.groups (change_alive dead w.tasks v.tasks pid.0 _ is.tasks alive))
    (λ gone. change_dead dead w.tasks v.tasks pid.0 _ is.tasks gone)
act_goes limits dead w v at (act.Mem path current swap scan) is once live room none = same_act limits dead dead w v at (act.Mem path current swap scan) is room (ap (λ gs. path_cause (lacks_group gs (Some path))) is.groups ∙ none) is.tasks
act_goes limits dead w v at (act.Host mem_total swap_total swap_free) is once live room none = same_act limits dead dead w v at (act.Host mem_total swap_total swap_free) is room none is.tasks
act_goes limits dead w v at (act.Trigger path res level threshold_us window_us) is once live room none = same_act limits dead dead w v at (act.Trigger path res level threshold_us window_us) is room (rw (is.groups, is.triggers) none) is.tasks
act_goes limits dead w v at (act.Irq cpu ns) is once live room none = same_act limits dead dead w v at (act.Irq cpu ns) is room (rw is.irqs none) is.tasks
act_goes limits dead w v at (act.Pressure path on) is once live room none = same_act limits dead dead w v at (act.Pressure path on) is room (rw (is.groups, is.pressures) none) is.tasks
act_goes limits dead w v at act.End is once live room none = same_act limits dead dead w v at act.End is room none is.tasks

-- ---- event by event

-- The time of the event is legal: it isn't before the last event or after the latest time.
pub record IsInTime (limits : Limits) (w : World) (event : Event) : Type 0 where
  pub on_time : w.last ≤ event.at
  pub early : event.at ≤ limits.latest

not_below : (a b : ℕ) → nat_lt a b ≡ false → b ≤ a
not_below a b off = grind (arith, nat_tests)

pub in_time : (limits : Limits) (w : World) (event : Event) → cause_of limits w event ≡ None → IsInTime limits w event
unfolding cause_of
in_time limits w event legal =
    let off : (at : ℕ) (why : Cause) → slice_get cause_order at ≡ Some why → applies why limits w event ≡ false = λ at why is. passed (λ why. applies why limits w event) cause_order at why legal is in
    record { on_time = not_below event.at w.last (off 1 cause.TimeBack refl); early = not_below limits.latest event.at (off 2 cause.TimeTooLate refl) }

-- The first of these events isn't earlier than time `last` (ns).
abbrev pub Begins : ℕ → List Event → Type 0
Begins last [] = Unit {0}
Begins last (event ∷ events) = last ≤ event.at

pub lines_from : (w : World) (events : List Event) → (after_from w events).lines ≡ w.lines + length events
lines_from w [] = omega arith
lines_from w (event ∷ events) = let rest = lines_from (after_event w event) events in omega (arith, rest)

-- Acts at time `at` (ns) leave the time of the last event at most `at`.
pub last_from : (w : World) (at : ℕ) (acts : List Act) → w.last ≤ at → (after_from w (events_at at acts)).last ≤ at
last_from w at [] low = low
last_from w at (what ∷ acts) low = last_from (after_event w (event_at at what)) at acts (omega arith)

pub legal_join : (limits : Limits) (w : World) (xs ys : List Event) → AreLegal limits w xs → AreLegal limits (after_from w xs) ys → AreLegal limits w (xs ++ ys)
legal_join limits w [] ys prefix rest = rest
legal_join limits w (x ∷ xs) ys prefix rest = (prefix.0, legal_join limits (after_event w x) xs ys prefix.1 rest)

pub next_begins : (limits : Limits) (w : World) (events : List Event) (last : ℕ) → last ≤ w.last → AreLegal limits w events → Begins last events
next_begins limits w [] last low legal = tt
next_begins limits w (event ∷ events) last low legal = let time = (in_time limits w event legal.0).on_time in omega (arith, low, time)

-- The remaining events without the dead tasks are legal, and the relation of the two worlds is
-- preserved.
pub record RestGoes (limits : Limits) (dead : List ℕ) (w v : World) (events : List Event) : Type 0 where
  pub legal : AreLegal limits v (rest_without dead w events)
  pub later : IsWithout (dead_later_on dead w events) (after_from w events) (after_from v (rest_without dead w events))

pub rest_goes : (limits : Limits) (dead : List ℕ) (w v : World) (events : List Event) → IsWithout dead w v → IsLegalWorld limits w → AreLive dead w.tasks → AreLegal limits w events → Begins v.last events → v.lines + length (rest_without dead w events) < 4000000
    → RestGoes limits dead w v events
rest_goes limits dead w v [] is world live legal begins few = record { legal = tt; later = is }
rest_goes limits dead w v (event ∷ events) is world live legal begins few =
    let acts = act_without dead w event.act in
    let prefix = events_at event.at acts in
    let later = dead_after dead w event.act in
    let next = after_event w event in
    let many = length-append prefix (rest_without later next events) in
    let room : HasRoom limits v event.at = record {
      going = is.ended ∙ open_of_legal limits w event legal.0;
      forward = begins;
      early = (in_time limits w event legal.0).early;
      few = omega (arith, few);
    } in
    let goes = act_goes limits dead w v event.at event.act is world.once live room (let_through limits w event legal.0) in
    let lines = lines_from v prefix in
    let last = last_from v event.at acts begins in
    let rest = rest_goes limits later next (after_from v prefix) events goes.later (legal_kept limits w event legal.0 world) (act_live dead w event.act live) legal.1
    (next_begins limits next events (after_from v prefix).last last legal.1) (omega (arith, few, many, lines)) in
    record {
      legal = legal_join limits v prefix (rest_without later next events) goes.legal rest.legal;
      later = subst (λ x. IsWithout (dead_later_on later next events) (after_from next events) x) (sym (after_from-append v prefix (rest_without later next events))) rest.later;
    }
