-- Which tasks run: at most one on each processor, and what the running task determines.
use Rattle.std.proofs.Common.{◌≡◌, ℕ, ◌+◌, ◌≤◌, List, [], ◌∷◌, refl, ap, ◌∙◌, sym, Bool, true, false, arith, cond, Option, None, Some, nat_lt, ◌==◌, ⊎_elim}
use Rattle.std.specs.Prelude.{map, find, ◌&&◌}
use Rattle.std.specs.List.{list_any}
use Rattle.std.specs.FinMap as fin
use Rattle.std.proofs.lemmas.Bool.Decides.{eqb_tells}
use Rattle.psi_base.specs.declared.event.How.{How}
use Rattle.psi_base.specs.declared.event.How.TheVariants.{Preempt, Sleep, IoWait, Exit, Idle}
use Rattle.psi_base.specs.declared.event.Pid.{Pid}
use Rattle.psi_base.specs.declared.event.Act.{Act}
use Rattle.psi_base.specs.declared.event.Act.TheVariants as act
use Rattle.psi_base.specs.Missing.{is_some_and}
use Rattle.psi_spec.specs.declared.machine.Task.{Task}
use Rattle.psi_spec.specs.declared.machine.Mode.TheVariants.{Blocked, Waiting, Ready, Running}
use Rattle.psi_spec.specs.World.{World, Limits, Tasks, task_of, task_part, change_to, leave, left_by, start, running_on, is_running_on, is_running, tasks_after, after_event, new_task, prepared_changes}
use Rattle.psi_spec.specs.Refusal.{cause_of, is_wrong}
use Rattle.psi_spec.specs.Stall.{is_under, is_in, tasks_in, stalls, runs}
use Rattle.psi_counts.specs.Counts.{how_many}
use Rattle.psi_counts.specs.Touch.{changed, shown, RunsOnce, is_current_in, is_current_stalled, RunsOnceFirst, RunsOnceKept, CurrentShows}
use Rattle.psi_counts.proofs.CountLaws.{one, any_counted}
use Rattle.psi_spec.proofs.RefusalLaws.{none_found_in}
use Rattle.psi_spec.proofs.TaskLaws.{no_entries}
use Rattle.psi_counts.proofs.TouchCounts.{tally, tallied, tallied_both, counted, counted_put, counted_changed, counted_leave, running_found}
use Rattle.psi_counts.proofs.TouchLaws.{quiet_act, tally_same}

-- ---- at most one task runs on each processor

-- the same of a sum
abbrev Once : Tasks → ℕ → Type 0
Once tasks cpu = counted (is_running_on cpu) tasks ≤ 1

-- at most one, as a sum
once_of : (tasks : Tasks) → RunsOnce tasks → (cpu : ℕ) → Once tasks cpu
once_of tasks once cpu = rw (← tallied (is_running_on cpu) (fin.values tasks)) (once cpu)

-- and back
of_once : (tasks : Tasks) → ((cpu : ℕ) → Once tasks cpu) → RunsOnce tasks
of_once tasks once cpu = rw (tallied (is_running_on cpu) (fin.values tasks)) (once cpu)

-- if a search finds no task, the count is 0
none_count : (p : Task → Bool) (es : List (ℕ × Task)) → find (λ e. p e.1) es ≡ None → tally p (map (λ e. e.1) es) ≡ 0
none_count p [] h = refl
none_count p (e ∷ es) h =
    elim (p e.1) as (λ b. p e.1 ≡ b → cond b (Some e) (find (λ e. p e.1) es) ≡ None → one b + tally p (map (λ e. e.1) es) ≡ 0) [
      | true ↦ λ t i. cc i
      | false ↦ λ t i. let rest = none_count p es i in omega (arith, rest)
    ] refl h

-- a task that doesn't run counts nowhere as running
not_running : (c : ℕ) (t : Task) → is_running t.mode ≡ false → one (is_running_on c t) ≡ 0
not_running c t h = rw h (elim (t.cpu.0 == c) as (λ b. one (b && false) ≡ 0) [ true ↦ refl | false ↦ refl ])

-- a task that left doesn't run
left_off : (how : How) (e : ℕ × Task) (cpu : ℕ) → is_wrong how (Some e) ≡ false → one (is_some_and (left_by how e.1) (is_running_on cpu)) ≡ 0
left_off Preempt e cpu h = not_running cpu (record e.1 { mode = Ready }) refl
left_off Sleep e cpu h = not_running cpu (record e.1 { mode = Blocked }) refl
left_off IoWait e cpu h = not_running cpu (record e.1 { mode = Waiting }) refl
left_off Exit e cpu h = refl
left_off Idle e cpu h = cc h

-- after the running task left, none runs there
none_left : (tasks : Tasks) (cpu : ℕ) (how : How) → Once tasks cpu → (o : Option (ℕ × Task)) → running_on tasks cpu ≡ o → is_wrong how o ≡ false → counted (is_running_on cpu) (leave how tasks o) ≡ 0
none_left tasks cpu how once None is legal = none_count (is_running_on cpu) (fin.entries tasks) is
none_left tasks cpu how once (Some e) is legal =
    let left = counted_leave (is_running_on cpu) tasks cpu how (Some e) is in
    let was = ap one ((running_found tasks cpu e is).1) in
    let gone = left_off how e cpu legal in
    omega (arith, left, was, gone, once)

-- a test counts at most one
one_le : (b : Bool) → one b ≤ 1
one_le true = omega arith
one_le false = omega arith

-- starting a task adds at most one to the count
start_le : (c : ℕ) (tasks : Tasks) (next : Option Pid) → counted (is_running_on c) (start next tasks) ≤ counted (is_running_on c) tasks + 1
start_le c tasks None = omega arith
start_le c tasks (Some pid) =
    let more = counted_changed (is_running_on c) tasks pid.0 (λ task. record task { mode = Running }) (task_of tasks pid.0) refl in
    let small = one_le (is_some_and (changed (λ task. record task { mode = Running }) (task_of tasks pid.0)) (is_running_on c)) in
    omega (arith, more, small)

-- a change that starts no task lets no more run
once_changed : (c : ℕ) (tasks : Tasks) (pid : ℕ) (f : Task → Task) → ((o : Option Task) → one (is_some_and (changed f o) (is_running_on c)) ≤ one (is_some_and o (is_running_on c))) → Once tasks c → Once (change_to tasks pid f (task_of tasks pid)) c
once_changed c tasks pid f fewer once =
    let more = counted_changed (is_running_on c) tasks pid f (task_of tasks pid) refl in
    let less = fewer (task_of tasks pid) in
    omega (arith, more, less, once)

-- a task that becomes ready no longer runs
prepared_fewer : (c cpu : ℕ) (o : Option Task) → one (is_some_and (changed (prepared_changes cpu) o) (is_running_on c)) ≤ one (is_some_and o (is_running_on c))
prepared_fewer c cpu None = omega arith
prepared_fewer c cpu (Some t) = let none = not_running c (prepared_changes cpu t) refl in omega (arith, none)

-- a change that doesn't affect whether the task runs
kept_fewer : (c : ℕ) (f : Task → Task) → ((t : Task) → is_running_on c (f t) ≡ is_running_on c t) → (o : Option Task) → one (is_some_and (changed f o) (is_running_on c)) ≤ one (is_some_and o (is_running_on c))
kept_fewer c f same None = omega arith
kept_fewer c f same (Some t) = let here = ap one (same t) in omega (arith, here)

-- each legal act lets at most one run
once_act : (limits : Limits) (w : World) (at : ℕ) (a : Act) → cause_of limits w (record { at = at; act = a }) ≡ None → ((cpu : ℕ) → Once w.tasks cpu) → (c : ℕ) → Once (tasks_after w.groups w.tasks a) c
once_act limits w at (act.Fork pid path cpu) legal once c =
    let more = counted_put (is_running_on c) w.tasks pid.0 (new_task w.groups path cpu.0) in
    let none = not_running c (new_task w.groups path cpu.0) refl in
    let was = once c in
    omega (arith, more, none, was)
once_act limits w at (act.Wake pid cpu) legal once c = once_changed c w.tasks pid.0 _ (prepared_fewer c cpu.0) (once c)
once_act limits w at (act.Switch cpu next how) legal once c =
    ⊎_elim
    (λ same.
    let free = none_left w.tasks cpu.0 how (once cpu.0) (running_on w.tasks cpu.0) refl (none_found_in limits w _ legal).wrong_how in
    let more = start_le cpu.0 (leave how w.tasks (running_on w.tasks cpu.0)) next in
    rw (← same.1) (omega (arith, free, more)))
    (λ other. let same = quiet_act (λ t. is_running t.mode) limits w at (act.Switch cpu next how) c legal other.0 in let was = once c in omega (arith, same, was))
    (eqb_tells cpu.0 c)
once_act limits w at (act.Stall pid) legal once c = once_changed c w.tasks pid.0 _ (kept_fewer c _ (λ _. refl)) (once c)
once_act limits w at (act.Unstall pid) legal once c = once_changed c w.tasks pid.0 _ (kept_fewer c _ (λ _. refl)) (once c)
once_act limits w at (act.Migrate pid cpu) legal once c = once_changed c w.tasks pid.0 _ (prepared_fewer c cpu.0) (once c)
once_act limits w at (act.Move pid path) legal once c = once_changed c w.tasks pid.0 _ (kept_fewer c _ (λ _. refl)) (once c)
once_act limits w at _ legal once c = once c

-- no task runs at first
pub runs_once_first : RunsOnceFirst
runs_once_first cpu = rw no_entries (omega arith)

-- legal events keep it
pub runs_once_kept : RunsOnceKept
runs_once_kept limits w event legal once = of_once (after_event w event).tasks (once_act limits w event.at event.act legal (once_of w.tasks once))

-- ---- what the running task determines

-- a stricter test counts no more
tally_fewer : (p q : Task → Bool) (tasks : List Task) → tally (λ t. p t && q t) tasks ≤ tally p tasks
tally_fewer p q [] = omega arith
tally_fewer p q (t ∷ tasks) =
    let rest = tally_fewer p q tasks in
    elim (p t) as (λ b. one (b && q t) + tally (λ t. p t && q t) tasks ≤ one b + tally p tasks) [
      | true ↦ let small = one_le (q t) in let goal : one (q t) + tally (λ t. p t && q t) tasks ≤ 1 + tally p tasks = omega (arith, rest, small) in goal
      | false ↦ omega (arith, rest)
    ]

-- if only one task passes a test, a search finds it and shows whether it passes another
only_one : (p f : Task → Bool) (es : List (ℕ × Task)) → tally p (map (λ e. e.1) es) ≤ 1 → tally (λ t. p t && f t) (map (λ e. e.1) es) ≡ one (is_some_and (task_part (find (λ e. p e.1) es)) f)
only_one p f [] few = refl
only_one p f (e ∷ es) few =
    elim (p e.1) as (λ b. one b + tally p (map (λ e. e.1) es) ≤ 1 → one (b && f e.1) + tally (λ t. p t && f t) (map (λ e. e.1) es) ≡ one (is_some_and (task_part (cond b (Some e) (find (λ e. p e.1) es))) f)) [
      | true ↦ λ few. let less = tally_fewer p f (map (λ e. e.1) es) in let rest : 1 + tally p (map (λ e. e.1) es) ≤ 1 = few in let goal : one (f e.1) + tally (λ t. p t && f t) (map (λ e. e.1) es) ≡ one (f e.1) = omega (arith, less, rest) in goal
      | false ↦ λ few. let small : 0 + tally p (map (λ e. e.1) es) ≤ 1 = few in let rest = only_one p f es (omega (arith, small)) in let goal : 0 + tally (λ t. p t && f t) (map (λ e. e.1) es) ≡ one (is_some_and (task_part (find (λ e. p e.1) es)) f) = omega (arith, rest) in goal
    ] few

-- a number of at most one, tested
some_of_one : (b : Bool) → nat_lt 0 (one b) ≡ b
some_of_one true = refl
some_of_one false = refl

-- four tests, the inner two exchanged
swapped : (a u r s : Bool) → ((a && u) && (r && s)) ≡ ((a && r) && (u && s))
swapped true true true s = refl
swapped true true false s = refl
swapped true false true s = refl
swapped true false false s = refl
swapped false u r s = refl

-- of the running tasks of a processor, how many are in a group and pass a test: whether the one
-- does
many_running : (tasks : Tasks) → RunsOnce tasks → (parents : List (Option ℕ)) (cpu slot : ℕ) (test : Task → Bool) → how_many (λ t. runs t && test t) (tasks_in parents cpu slot tasks) ≡ one (is_some_and (task_part (running_on tasks cpu)) (λ t. is_under parents t.slot.0 slot && test t))
many_running tasks once parents cpu slot test =
    tallied_both (is_in parents cpu slot) (λ t. runs t && test t) (fin.values tasks)
    ∙ tally_same (λ t. is_in parents cpu slot t && (runs t && test t)) (λ t. is_running_on cpu t && (is_under parents t.slot.0 slot && test t)) (λ t. swapped (t.cpu.0 == cpu) (is_under parents t.slot.0 slot) (is_running t.mode) (test t)) (fin.values tasks)
    ∙ only_one (is_running_on cpu) (λ t. is_under parents t.slot.0 slot && test t) (fin.entries tasks) (once_of tasks once cpu)

-- beside a test that holds
and_true : (a : Bool) → (a && true) ≡ a
and_true true = refl
and_true false = refl

-- any test of the running tasks
any_running : (tasks : Tasks) → RunsOnce tasks → (parents : List (Option ℕ)) (cpu slot : ℕ) (test : Task → Bool) → list_any (λ t. runs t && test t) (tasks_in parents cpu slot tasks) ≡ is_some_and (task_part (running_on tasks cpu)) (λ t. is_under parents t.slot.0 slot && test t)
any_running tasks once parents cpu slot test =
    any_counted (λ t. runs t && test t) (tasks_in parents cpu slot tasks)
    ∙ ap (nat_lt 0) (many_running tasks once parents cpu slot test)
    ∙ some_of_one (is_some_and (task_part (running_on tasks cpu)) (λ t. is_under parents t.slot.0 slot && test t))

-- tests that agree on each task find alike
any_alike : (p q : Task → Bool) → ((t : Task) → p t ≡ q t) → (tasks : List Task) → list_any p tasks ≡ list_any q tasks
any_alike p q same [] = refl
any_alike p q same (t ∷ tasks) = rw (same t, any_alike p q same tasks) refl

-- the running task is in a group, by what is shown
current_in : (parents : List (Option ℕ)) (slot : ℕ) (o : Option (ℕ × Task)) → is_current_in parents slot (shown o) ≡ is_some_and (task_part o) (λ t. is_under parents t.slot.0 slot && true)
current_in parents slot None = refl
current_in parents slot (Some e) = sym (and_true (is_under parents e.1.slot.0 slot))

-- it is also in a stall, by what is shown
current_stalled : (parents : List (Option ℕ)) (slot : ℕ) (o : Option (ℕ × Task)) → (is_current_in parents slot (shown o) && is_current_stalled (shown o)) ≡ is_some_and (task_part o) (λ t. is_under parents t.slot.0 slot && stalls t)
current_stalled parents slot None = refl
current_stalled parents slot (Some e) = refl

-- tests that agree on each task count alike
tally_alike : (p q : Task → Bool) → ((t : Task) → p t ≡ q t) → (tasks : List Task) → how_many p tasks ≡ how_many q tasks
tally_alike p q same tasks = tallied p tasks ∙ tally_same p q same tasks ∙ sym (tallied q tasks)

-- the running task in a change determines which task runs
pub current_shows : CurrentShows
current_shows tasks once parents cpu slot =
    let list = tasks_in parents cpu slot tasks in
    let plain : (t : Task) → runs t ≡ (runs t && true) = λ t. sym (and_true (runs t)) in
    let many = tally_alike runs (λ t. runs t && true) plain list ∙ many_running tasks once parents cpu slot (λ _. true) in
    record {
      at_most_one = rw many (one_le (is_some_and (task_part (running_on tasks cpu)) (λ t. is_under parents t.slot.0 slot && true)));
      one_runs = current_in parents slot (running_on tasks cpu) ∙ sym (any_alike runs (λ t. runs t && true) plain list ∙ any_running tasks once parents cpu slot (λ _. true));
      it_is_stalled = current_stalled parents slot (running_on tasks cpu) ∙ sym (any_running tasks once parents cpu slot stalls);
    }
