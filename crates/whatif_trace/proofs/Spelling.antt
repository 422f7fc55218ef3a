-- Proves that the numbers of the remaining events fit the grammar of traces. Therefore the trace
-- can be written as text.
use Rattle.std.proofs.Common.{◌≡◌, ℕ, ◌+◌, ◌^◌, ◌≤◌, ◌<◌, List, [], ◌∷◌, ◌++◌, refl, ap, ◌∙◌, sym, subst, arith, cond, Bool, true, false, Option, None, Some, ◌==◌, length, ⊎_elim}
use Rattle.std.specs.Prelude.{IfSome, if◌then◌else◌, is_some, not}
use Rattle.std.specs.FinMap as tasks_by
use Rattle.std.specs.Ordering.{nat_cmp}
use Rattle.std.proofs.lemmas.Bool.Decides.{eqb_tells}
use Rattle.psi_base.specs.declared.event.Act.{Act}
use Rattle.psi_base.specs.declared.event.Act.TheVariants as act
use Rattle.psi_base.specs.declared.event.Cpu.{Cpu}
use Rattle.psi_base.specs.declared.event.Event.{Event}
use Rattle.psi_base.specs.declared.event.How.{How}
use Rattle.psi_base.specs.declared.event.How.TheVariants.{Idle, Exit}
use Rattle.psi_base.specs.declared.event.Pid.{Pid}
use Rattle.psi_spec.specs.declared.machine.Task.{Task}
use Rattle.psi_spec.specs.Fields.{IsPid}
use Rattle.psi_spec.specs.Grammar.{ActFits}
use Rattle.psi_spec.specs.Trace.{AllFit}
use Rattle.psi_spec.specs.World.{Limits, Tasks, World, after_event, after_from, change_to, first_world, is_active, is_running, leave, left_by, most_cpus, placed, running_on, start, task_of, tasks_after, events_at}
use Rattle.psi_spec.proofs.TaskLaws.{get_put, task_placed}
use Rattle.psi_counts.specs.Touch.{changed}
use Rattle.psi_counts.proofs.TouchCounts.{running_found}
use Rattle.whatif_spec.specs.Without.{act_without, acts_if, dead_after, exit_acts, exit_of, exits_from, is_alive, is_pid_among, if_alive, making_room, pid_part, rest_without, switch_without}
use Rattle.whatif_trace.proofs.Doing.{IsReady, ready_for}
use Rattle.whatif_trace.proofs.Exiting.{exit_goes}
use Rattle.whatif_trace.proofs.Leaving.{found_changed}
use Rattle.std.proofs.lemmas.List.{length-append, length-map}

-- ---- pids

-- The pid of each live task fits the grammar.
abbrev pub AreNumbers : Tasks → Type 0
AreNumbers tasks = (pid : ℕ) → is_some (task_of tasks pid) ≡ true → IsPid (record { 0 = pid })

-- Each task in the map `later` is also in the map `tasks`.
abbrev AreBefore : Tasks → Tasks → Type 0
AreBefore tasks later = (pid : ℕ) → is_some (task_of later pid) ≡ true → is_some (task_of tasks pid) ≡ true

some_before : (b : Bool) (x o found : Option Task) → (b ≡ true → is_some x ≡ true → is_some o ≡ true) → (b ≡ false → found ≡ o) → is_some (cond b x found) ≡ true → is_some o ≡ true
some_before true x o found same other some = same refl some
some_before false x o found same other some = rw (sym (other refl)) some

changed_some : (f : Task → Task) (o : Option Task) → is_some (changed f o) ≡ true → is_some o ≡ true
changed_some f None some = some
changed_some f (Some task) some = refl

number_of : (pid k : ℕ) → (pid == k) ≡ true → pid ≡ k
number_of pid k same = ⊎_elim (λ is. is.1) (λ other. absurd (let no : ⊥ = cc (same, other.0) in no)) (eqb_tells pid k)

change_before : (tasks : Tasks) (k : ℕ) (f : Task → Task) → AreBefore tasks (change_to tasks k f (task_of tasks k))
change_before tasks k f pid some =
    some_before (pid == k) (changed f (task_of tasks k)) (task_of tasks pid) (task_of tasks pid) (λ same is. rw (number_of pid k same) (changed_some f (task_of tasks k) is)) (λ _. refl)
    (ap is_some (sym (found_changed tasks k f (task_of tasks k) refl pid)) ∙ some)

start_before : (tasks : Tasks) (next : Option Pid) → AreBefore tasks (start next tasks)
start_before tasks None pid some = some
start_before tasks (Some next) pid some = change_before tasks next.0 _ pid some

leave_before : (tasks : Tasks) (cpu : ℕ) (how : How) (o : Option (ℕ × Task)) → running_on tasks cpu ≡ o → AreBefore tasks (leave how tasks o)
leave_before tasks cpu how None runs pid some = some
leave_before tasks cpu how (Some e) runs pid some =
    let there = running_found tasks cpu e runs in
    some_before (pid == e.0) (left_by how e.1) (task_of tasks pid) (task_of tasks pid) (λ same _. ap is_some (ap (task_of tasks) (number_of pid e.0 same) ∙ there.0)) (λ _. refl)
    (ap is_some (sym (task_placed tasks e.0 (left_by how e.1) pid)) ∙ some)

numbers_put : (tasks : Tasks) (k : Pid) (task : Task) → IsPid k → AreNumbers tasks → AreNumbers (placed tasks k.0 (Some task))
numbers_put tasks k task is numbers pid some =
    elim (pid == k.0) as (λ b. (pid == k.0) ≡ b → is_some (cond b (Some task) (task_of tasks pid)) ≡ true → IsPid (record { 0 = pid })) [
      | true ↦ λ same _. subst (λ n. IsPid (record { 0 = n })) (sym (number_of pid k.0 same)) is
      | false ↦ λ _ found. numbers pid found
    ] refl (ap is_some (sym (get_put tasks k.0 task pid)) ∙ some)

-- An act that fits the grammar preserves that the pids of all live tasks fit the grammar.
numbers_act : (w : World) (what : Act) → ActFits what → AreNumbers w.tasks → AreNumbers (tasks_after w.groups w.tasks what)
numbers_act w (act.Fork pid path cpu) fits numbers = numbers_put w.tasks pid _ fits.0 numbers
numbers_act w (act.Wake pid cpu) fits numbers = λ k some. numbers k (change_before w.tasks pid.0 _ k some)
numbers_act w (act.Stall pid) fits numbers = λ k some. numbers k (change_before w.tasks pid.0 _ k some)
numbers_act w (act.Unstall pid) fits numbers = λ k some. numbers k (change_before w.tasks pid.0 _ k some)
numbers_act w (act.Migrate pid cpu) fits numbers = λ k some. numbers k (change_before w.tasks pid.0 _ k some)
numbers_act w (act.Move pid path) fits numbers = λ k some. numbers k (change_before w.tasks pid.0 _ k some)
numbers_act w (act.Switch cpu next how) fits numbers = λ k some. numbers k (leave_before w.tasks cpu.0 how (running_on w.tasks cpu.0) refl k (start_before (leave how w.tasks (running_on w.tasks cpu.0)) next k some))
numbers_act w (act.Group path) fits numbers = numbers
numbers_act w (act.Remove path) fits numbers = numbers
numbers_act w (act.Prefer path preference) fits numbers = numbers
numbers_act w (act.Mem path current swap scan) fits numbers = numbers
numbers_act w (act.Host mem_total swap_total swap_free) fits numbers = numbers
numbers_act w (act.Trigger path res level threshold_us window_us) fits numbers = numbers
numbers_act w (act.Irq cpu ns) fits numbers = numbers
numbers_act w (act.Pressure path on) fits numbers = numbers
numbers_act w act.End fits numbers = numbers

pub numbers_from : (w : World) (events : List Event) → AllFit events → AreNumbers w.tasks → AreNumbers (after_from w events).tasks
numbers_from w [] fit numbers = numbers
numbers_from w (event ∷ events) fit numbers = numbers_from (after_event w event) events fit.1 (numbers_act w event.act fit.0.act numbers)

pub numbers_first : AreNumbers first_world.tasks
numbers_first pid some = absurd (let none : task_of first_world.tasks pid ≡ None = tasks_by.get-empty nat_cmp pid in let no : ⊥ = cc (some, ap is_some none) in no)

-- ---- prefixes and joins

pub fit_prefix : (prefix rest : List Event) → AllFit (prefix ++ rest) → AllFit prefix
fit_prefix [] rest fit = tt
fit_prefix (event ∷ prefix) rest fit = (fit.0, fit_prefix prefix rest fit.1)

pub fit_rest : (prefix rest : List Event) → AllFit (prefix ++ rest) → AllFit rest
fit_rest [] rest fit = fit
fit_rest (event ∷ prefix) rest fit = fit_rest prefix rest fit.1

pub fit_join : (xs ys : List Event) → AllFit xs → AllFit ys → AllFit (xs ++ ys)
fit_join [] ys prefix rest = rest
fit_join (x ∷ xs) ys prefix rest = (prefix.0, fit_join xs ys prefix.1 rest)

-- ---- the rest

-- All acts fit the grammar.
abbrev pub ActsFit : List Act → Type 0
ActsFit [] = Unit {0}
ActsFit (what ∷ acts) = ActFits what × ActsFit acts

pub fit_at : (at : ℕ) (acts : List Act) → at < 2 ^ 64 → ActsFit acts → AllFit (events_at at acts)
fit_at at [] early fit = tt
fit_at at (what ∷ acts) early fit = (record { at = early; act = fit.0 }, fit_at at acts early fit.1)

fit_if : (b : Bool) (what : Act) → ActFits what → ActsFit (acts_if b (what ∷ []))
fit_if true what fit = (fit, tt)
fit_if false what fit = tt

abbrev NextFits : Option Pid → Type 0
NextFits next = IfSome next IsPid

fit_switch : (dead : List ℕ) (cpu : Cpu) (leaving next : Option Pid) (how : How) → ActFits (act.Switch cpu next how) → ActsFit (switch_without dead cpu leaving next how)
fit_switch dead cpu leaving next how fit =
    elim (is_alive dead leaving) as (λ b. ActsFit (if b then act.Switch cpu (if_alive dead next) how ∷ [] else if is_alive dead next then act.Switch cpu next Idle ∷ [] else [])) [
      | true ↦ elim (is_alive dead next) as (λ b. ActsFit (act.Switch cpu (cond b next None) how ∷ [])) [ true ↦ (fit, tt) | false ↦ ((fit.0, (tt, fit.1.1)), tt) ]
      | false ↦ elim (is_alive dead next) as (λ b. ActsFit (cond b (act.Switch cpu next Idle ∷ []) [])) [ true ↦ ((fit.0, (fit.1.0, (tt, tt))), tt) | false ↦ tt ]
    ]

fit_act : (dead : List ℕ) (w : World) (what : Act) → ActFits what → ActsFit (act_without dead w what)
fit_act dead w (act.Wake pid cpu) fit = fit_if (not (is_pid_among dead pid.0)) (act.Wake pid cpu) fit
fit_act dead w (act.Stall pid) fit = fit_if (not (is_pid_among dead pid.0)) (act.Stall pid) fit
fit_act dead w (act.Unstall pid) fit = fit_if (not (is_pid_among dead pid.0)) (act.Unstall pid) fit
fit_act dead w (act.Migrate pid cpu) fit = fit_if (not (is_pid_among dead pid.0)) (act.Migrate pid cpu) fit
fit_act dead w (act.Move pid path) fit = fit_if (not (is_pid_among dead pid.0)) (act.Move pid path) fit
fit_act dead w (act.Switch cpu next how) fit = fit_switch dead cpu (pid_part (running_on w.tasks cpu.0)) next how fit
fit_act dead w (act.Group path) fit = (fit, tt)
fit_act dead w (act.Remove path) fit = (fit, tt)
fit_act dead w (act.Prefer path preference) fit = (fit, tt)
fit_act dead w (act.Fork pid path cpu) fit = (fit, tt)
fit_act dead w (act.Mem path current swap scan) fit = (fit, tt)
fit_act dead w (act.Host mem_total swap_total swap_free) fit = (fit, tt)
fit_act dead w (act.Trigger path res level threshold_us window_us) fit = (fit, tt)
fit_act dead w (act.Irq cpu ns) fit = (fit, tt)
fit_act dead w (act.Pressure path on) fit = (fit, tt)
fit_act dead w act.End fit = (fit, tt)

pub rest_fits : (dead : List ℕ) (w : World) (events : List Event) → AllFit events → AllFit (rest_without dead w events)
rest_fits dead w [] fit = tt
rest_fits dead w (event ∷ events) fit =
    fit_join (events_at event.at (act_without dead w event.act)) (rest_without (dead_after dead w event.act) (after_event w event) events)
    (fit_at event.at (act_without dead w event.act) fit.0.at (fit_act dead w event.act fit.0.act)) (rest_fits (dead_after dead w event.act) (after_event w event) events fit.1)

-- ---- the exits

acts_join : (xs ys : List Act) → ActsFit xs → ActsFit ys → ActsFit (xs ++ ys)
acts_join [] ys prefix rest = rest
acts_join (x ∷ xs) ys prefix rest = (prefix.0, acts_join xs ys prefix.1 rest)

pid_fits : (tasks : Tasks) (cpu : ℕ) → AreNumbers tasks → (o : Option (ℕ × Task)) → running_on tasks cpu ≡ o → NextFits (pid_part o)
pid_fits tasks cpu numbers None runs = tt
pid_fits tasks cpu numbers (Some e) runs = numbers e.0 (ap is_some (running_found tasks cpu e runs).0)

none_or : (b : Bool) (next : Option Pid) → NextFits next → NextFits (if b then None else next)
none_or true next fits = tt
none_or false next fits = fits

switch_fits : (cpu : Cpu) (next : Option Pid) (how : How) → cpu.0 < 2 ^ 32 → NextFits next → ActFits (act.Switch cpu next how)
switch_fits cpu None how small fits = (small, (tt, (tt, tt)))
switch_fits cpu (Some pid) how small fits = (small, (fits, (tt, tt)))

exit_fits : (pid : ℕ) (task : Task) (next : Option Pid) → IsPid (record { 0 = pid }) → task.cpu.0 < 2 ^ 32 → NextFits next → ActsFit (exit_acts pid task next)
exit_fits pid task next is small fits =
    acts_join
    (acts_if (not (is_active task.mode)) (act.Wake (record { 0 = pid }) task.cpu ∷ []) ++ acts_if (not (is_running task.mode)) (act.Switch task.cpu (Some (record { 0 = pid })) (making_room next) ∷ []) ++ acts_if task.stalled (act.Unstall (record { 0 = pid }) ∷ [])) _
    (acts_join
    (acts_if (not (is_active task.mode)) (act.Wake (record { 0 = pid }) task.cpu ∷ []) ++ acts_if (not (is_running task.mode)) (act.Switch task.cpu (Some (record { 0 = pid })) (making_room next) ∷ [])) _
    (acts_join (acts_if (not (is_active task.mode)) (act.Wake (record { 0 = pid }) task.cpu ∷ [])) _ (fit_if (not (is_active task.mode)) (act.Wake (record { 0 = pid }) task.cpu) (is, (small, tt)))
    (fit_if (not (is_running task.mode)) (act.Switch task.cpu (Some (record { 0 = pid })) (making_room next)) (switch_fits task.cpu (Some (record { 0 = pid })) (making_room next) small is)))
    (fit_if task.stalled (act.Unstall (record { 0 = pid })) (is, tt)))
    (switch_fits task.cpu (if is_running task.mode then None else next) Exit small (none_or (is_running task.mode) next fits), tt)

found_fits : (limits : Limits) (at room : ℕ) (v : World) (pid : ℕ) (o : Option Task) → task_of v.tasks pid ≡ o → limits.cpus ≤ most_cpus → IsReady limits at room v → AreNumbers v.tasks → ActsFit (exit_of v pid o)
found_fits limits at room v pid None is few ready numbers = tt
found_fits limits at room v pid (Some task) is few ready numbers =
    let within = subst (λ o. IfSome o (λ task. (task.cpu.0 < limits.cpus) × (task.slot.0 < length v.groups))) is (ready.world.within pid) in
    let below = within.0 in
    exit_fits pid task (pid_part (running_on v.tasks task.cpu.0)) (numbers pid (ap is_some is)) (omega (arith, below, few)) (pid_fits v.tasks task.cpu.0 numbers (running_on v.tasks task.cpu.0) refl)

none_new : (b : Bool) (o : Option Task) → is_some (cond b None o) ≡ true → is_some o ≡ true
none_new true o some = absurd (let no : ⊥ = cc some in no)
none_new false o some = some

pub exits_fit : (limits : Limits) (at room : ℕ) (v : World) (pids : List ℕ) → limits.cpus ≤ most_cpus → at < 2 ^ 64 → IsReady limits at (room + length (exits_from at v pids)) v → AreNumbers v.tasks → AllFit (exits_from at v pids)
exits_fit limits at room v [] few early ready numbers = tt
exits_fit limits at room v (pid ∷ pids) few early ready numbers =
    let acts = exit_of v pid (task_of v.tasks pid) in
    let prefix = events_at at acts in
    let rest = exits_from at (after_from v prefix) pids in
    let many = length-append prefix rest in
    let count = length-map acts (λ what. let e : Event = record { at = at; act = what } in e) in
    let one = exit_goes limits at (room + length rest) v pid (ready_for limits at (room + length (prefix ++ rest)) (room + length rest + length acts) v (omega (arith, many, count)) ready) in
    let first = found_fits limits at (room + length (prefix ++ rest)) v pid (task_of v.tasks pid) refl few ready numbers in
    fit_join prefix rest (fit_at at acts early first)
    (exits_fit limits at room (after_from v prefix) pids few early one.does.ready (λ k some. numbers k (none_new (k == pid) (task_of v.tasks k) (ap is_some (sym (one.tasks k)) ∙ some))))
