-- Proves that the remaining events computed from the list of running tasks are the remaining events
-- defined by the worlds (states) of the trace.
use Rattle.std.proofs.Common.{◌≡◌, ℕ, ◌+◌, ◌≤◌, ◌<◌, List, [], ◌∷◌, ◌++◌, refl, ap, ◌∙◌, sym, arith, cond, Bool, true, false, Option, None, Some, ◌==◌, length}
use Rattle.std.specs.Prelude.{IfSome, nat_le, not}
use Rattle.std.specs.List.{AllByRecursion}
use Rattle.std.specs.List.Sorted.{IsStrictlySortedBy}
use Rattle.std.specs.Ordering.{nat_cmp}
use Rattle.std.specs.declared.cmp.Ordering.TheVariants.{Less}
use Rattle.std.proofs.lemmas.Bool.Decides.{nat_tests}
use Rattle.psi_base.specs.declared.event.Act.{Act}
use Rattle.psi_base.specs.declared.event.Act.TheVariants as act
use Rattle.psi_base.specs.declared.event.Cpu.{Cpu}
use Rattle.psi_base.specs.declared.event.Event.{Event}
use Rattle.psi_base.specs.declared.event.How.{How}
use Rattle.psi_base.specs.declared.event.How.TheVariants.{Preempt, Sleep, IoWait, Exit, Idle}
use Rattle.psi_base.specs.declared.event.Pid.{Pid}
use Rattle.psi_spec.specs.declared.machine.Task.{Task}
use Rattle.psi_spec.specs.Refusal.{AreLegal}
use Rattle.psi_spec.specs.World.{Limits, Tasks, World, after_event, after_from, is_active, is_running, running_on, task_of, tasks_after, groups_after, events_at}
use Rattle.psi_counts.specs.Legal.{IsLegalWorld}
use Rattle.task_table.specs.Named.{next_task}
use Rattle.task_table.proofs.CauseLaws.{let_through, may_switch}
use Rattle.whatif_spec.specs.Without.{act_without, acts_if, dead_after, exit_acts, exit_of, exits_from, making_room, pid_part, rest_without, switch_without, without_pid}
use Rattle.whatif_trace.specs.Left.{AreRunners, act_left, dead_left, exit_left, exited, exits_left, rest_left, runner_at, turned}
use Rattle.whatif_trace.proofs.Doing.{IsReady}
use Rattle.whatif_trace.proofs.Exiting.{exit_goes}
use Rattle.whatif_trace.proofs.Running.{exit_runs, runner_known, turns}
use Rattle.whatif_trace.proofs.Steps.{NoneAgainst}

-- ---- the rest

below : (cpus cpu : ℕ) → nat_le cpus cpu ≡ false → cpu < cpus
below cpus cpu off = grind (arith, nat_tests)

-- The list has the running task of a legal switch.
there : (limits : Limits) (w : World) (at : ℕ) (runners : List (Option Pid)) (cpu : Cpu) (next : Option Pid) (how : How) → AreRunners limits.cpus runners w.tasks → NoneAgainst limits w at (act.Switch cpu next how) → runner_at runners cpu.0 ≡ pid_part (running_on w.tasks cpu.0)
there limits w at runners cpu next how are none =
    let may = may_switch limits.cpus cpu.0 next (next_task w.tasks next) how (running_on w.tasks cpu.0) none in
    sym (runner_known limits.cpus runners w.tasks cpu.0 are (below limits.cpus cpu.0 may.room))

act_is : (limits : Limits) (dead : List ℕ) (w : World) (at : ℕ) (runners : List (Option Pid)) (what : Act) → AreRunners limits.cpus runners w.tasks → NoneAgainst limits w at what → act_left dead runners what ≡ act_without dead w what
act_is limits dead w at runners (act.Switch cpu next how) are none = ap (λ o. switch_without dead cpu o next how) (there limits w at runners cpu next how are none)
act_is limits dead w at runners (act.Fork pid path cpu) are none = refl
act_is limits dead w at runners (act.Wake pid cpu) are none = refl
act_is limits dead w at runners (act.Migrate pid cpu) are none = refl
act_is limits dead w at runners (act.Stall pid) are none = refl
act_is limits dead w at runners (act.Unstall pid) are none = refl
act_is limits dead w at runners (act.Move pid path) are none = refl
act_is limits dead w at runners (act.Group path) are none = refl
act_is limits dead w at runners (act.Remove path) are none = refl
act_is limits dead w at runners (act.Prefer path preference) are none = refl
act_is limits dead w at runners (act.Mem path current swap scan) are none = refl
act_is limits dead w at runners (act.Host mem_total swap_total swap_free) are none = refl
act_is limits dead w at runners (act.Trigger path res level threshold_us window_us) are none = refl
act_is limits dead w at runners (act.Irq cpu ns) are none = refl
act_is limits dead w at runners (act.Pressure path on) are none = refl
act_is limits dead w at runners act.End are none = refl

dead_is : (limits : Limits) (dead : List ℕ) (w : World) (at : ℕ) (runners : List (Option Pid)) (what : Act) → AreRunners limits.cpus runners w.tasks → NoneAgainst limits w at what → dead_left dead runners what ≡ dead_after dead w what
dead_is limits dead w at runners (act.Switch cpu next Exit) are none = ap (without_pid dead) (there limits w at runners cpu next Exit are none)
dead_is limits dead w at runners (act.Switch cpu next Preempt) are none = refl
dead_is limits dead w at runners (act.Switch cpu next Sleep) are none = refl
dead_is limits dead w at runners (act.Switch cpu next IoWait) are none = refl
dead_is limits dead w at runners (act.Switch cpu next Idle) are none = refl
dead_is limits dead w at runners (act.Fork pid path cpu) are none = refl
dead_is limits dead w at runners (act.Wake pid cpu) are none = refl
dead_is limits dead w at runners (act.Migrate pid cpu) are none = refl
dead_is limits dead w at runners (act.Stall pid) are none = refl
dead_is limits dead w at runners (act.Unstall pid) are none = refl
dead_is limits dead w at runners (act.Move pid path) are none = refl
dead_is limits dead w at runners (act.Group path) are none = refl
dead_is limits dead w at runners (act.Remove path) are none = refl
dead_is limits dead w at runners (act.Prefer path preference) are none = refl
dead_is limits dead w at runners (act.Mem path current swap scan) are none = refl
dead_is limits dead w at runners (act.Host mem_total swap_total swap_free) are none = refl
dead_is limits dead w at runners (act.Trigger path res level threshold_us window_us) are none = refl
dead_is limits dead w at runners (act.Irq cpu ns) are none = refl
dead_is limits dead w at runners (act.Pressure path on) are none = refl
dead_is limits dead w at runners act.End are none = refl

pub rest_is : (limits : Limits) (dead : List ℕ) (w : World) (runners : List (Option Pid)) (events : List Event) → AreRunners limits.cpus runners w.tasks → AreLegal limits w events → rest_left dead runners events ≡ rest_without dead w events
rest_is limits dead w runners [] are legal = refl
rest_is limits dead w runners (event ∷ events) are legal =
    let none = let_through limits w event legal.0 in
    let rest = rest_is limits (dead_left dead runners event.act) (after_event w event) (turned runners event.act) events (turns limits w event.at runners event.act are none) legal.1 in
    ap (λ acts. events_at event.at acts ++ rest_left (dead_left dead runners event.act) (turned runners event.act) events) (act_is limits dead w event.at runners event.act are none)
    ∙ ap (λ es. events_at event.at (act_without dead w event.act) ++ es) (rest ∙ ap (λ d. rest_without d (after_event w event) events) (dead_is limits dead w event.at runners event.act are none))

-- ---- the exits

-- The tasks after some events depend only on the tasks and groups before them.
same_suffix : (v u : World) (events : List Event) → v.tasks ≡ u.tasks → v.groups ≡ u.groups → ((after_from v events).tasks ≡ (after_from u events).tasks) × ((after_from v events).groups ≡ (after_from u events).groups)
same_suffix v u [] tasks groups = (tasks, groups)
same_suffix v u (event ∷ events) tasks groups =
    same_suffix (after_event v event) (after_event u event) events
    (ap (λ gs. tasks_after gs v.tasks event.act) groups ∙ ap (λ ts. tasks_after u.groups ts event.act) tasks)
    (ap (λ gs. groups_after event.at gs event.act) groups)

exit_same : (v u : World) (pid : ℕ) (o : Option Task) → v.tasks ≡ u.tasks → exit_of v pid o ≡ exit_of u pid o
exit_same v u pid None tasks = refl
exit_same v u pid (Some task) tasks = ap (λ ts. exit_acts pid task (pid_part (running_on ts task.cpu.0))) tasks

exits_same : (at : ℕ) (v u : World) (pids : List ℕ) → v.tasks ≡ u.tasks → v.groups ≡ u.groups → exits_from at v pids ≡ exits_from at u pids
exits_same at v u [] tasks groups = refl
exits_same at v u (pid ∷ pids) tasks groups =
    let acts : exit_of v pid (task_of v.tasks pid) ≡ exit_of u pid (task_of u.tasks pid) = exit_same v u pid (task_of v.tasks pid) tasks ∙ ap (λ ts. exit_of u pid (task_of ts pid)) tasks in
    let prefix = events_at at (exit_of v pid (task_of v.tasks pid)) in
    let suffix = same_suffix v u prefix tasks groups in
    ap (λ es. prefix ++ es) (exits_same at (after_from v prefix) (after_from u prefix) pids suffix.0 suffix.1)
    ∙ ap (λ acts. events_at at acts ++ exits_from at (after_from u (events_at at acts)) pids) acts

-- An exit takes at most four acts.
few_acts : (a b c : Bool) (x y z t : Act) → length (acts_if a (x ∷ []) ++ acts_if b (y ∷ []) ++ acts_if c (z ∷ []) ++ t ∷ []) ≤ 4
few_acts true true true x y z t = omega arith
few_acts true true false x y z t = omega arith
few_acts true false true x y z t = omega arith
few_acts true false false x y z t = omega arith
few_acts false true true x y z t = omega arith
few_acts false true false x y z t = omega arith
few_acts false false true x y z t = omega arith
few_acts false false false x y z t = omega arith

exit_few : (v : World) (pid : ℕ) (o : Option Task) → length (exit_of v pid o) ≤ 4
exit_few v pid None = omega arith
exit_few v pid (Some task) =
    let running = pid_part (running_on v.tasks task.cpu.0) in
    few_acts (not (is_active task.mode)) (not (is_running task.mode)) task.stalled
    (act.Wake (record { 0 = pid }) task.cpu) (act.Switch task.cpu (Some (record { 0 = pid })) (making_room running)) (act.Unstall (record { 0 = pid })) (act.Switch task.cpu (cond (is_running task.mode) None running) Exit)

-- A legal world that can take an event at time `at` (ns).
pub record IsOpen (limits : Limits) (at : ℕ) (v : World) : Type 0 where
  pub world : IsLegalWorld limits v
  pub going : v.ended ≡ false
  pub early : at ≤ limits.latest

-- The world with the number of lines and the time of the last event set to 0.
abbrev fresh : World → World
fresh v = record v { lines = 0; last = 0 }

fresh_legal : (limits : Limits) (v : World) → IsLegalWorld limits v → IsLegalWorld limits (fresh v)
fresh_legal limits v legal = record { groups = legal.groups; within = legal.within; once = legal.once; few_tasks = legal.few_tasks; few_triggers = legal.few_triggers; few_pressures = legal.few_pressures; few_lines = omega arith; early = omega arith }

fresh_ready : (limits : Limits) (at : ℕ) (v : World) (n : ℕ) → IsOpen limits at v → n ≤ 4 → IsReady limits at (0 + n) (fresh v)
fresh_ready limits at v n going_on few = record { world = fresh_legal limits v going_on.world; going = going_on.going; forward = omega arith; early = going_on.early; few = omega (arith, few) }

exit_is : (cpus : ℕ) (v : World) (runners : List (Option Pid)) (pid : ℕ) (o : Option Task) → AreRunners cpus runners v.tasks → IfSome o (λ task. task.cpu.0 < cpus) → exit_left runners pid o ≡ exit_of v pid o
exit_is cpus v runners pid None are inside = refl
exit_is cpus v runners pid (Some task) are inside = ap (exit_acts pid task) (sym (runner_known cpus runners v.tasks task.cpu.0 are inside))

-- Each of these tasks is the same in both maps.
abbrev pub AreFound : Tasks → Tasks → List ℕ → Type 0
AreFound tasks now pids = AllByRecursion (λ pid. task_of now pid ≡ task_of tasks pid) pids

unequal : (pid k : ℕ) → nat_cmp pid k ≡ Less → (k == pid) ≡ false
unequal pid k less = grind (arith, nat_tests)

found_still : (tasks now less : Tasks) (pid : ℕ) (pids : List ℕ) → ((k : ℕ) → task_of less k ≡ cond (k == pid) None (task_of now k)) → AllByRecursion (λ k. nat_cmp pid k ≡ Less) pids → AreFound tasks now pids → AreFound tasks less pids
found_still tasks now less pid [] gone above found = tt
found_still tasks now less pid (k ∷ pids) gone above found = (gone k ∙ ap (λ b. cond b None (task_of now k)) (unequal pid k above.0) ∙ found.0, found_still tasks now less pid pids gone above.1 found.1)

inside_of : (cpus slots : ℕ) (o : Option Task) → IfSome o (λ task. (task.cpu.0 < cpus) × (task.slot.0 < slots)) → IfSome o (λ task. task.cpu.0 < cpus)
inside_of cpus slots None within = tt
inside_of cpus slots (Some task) within = within.0

pub exits_are : (limits : Limits) (at : ℕ) (v : World) (tasks : Tasks) (runners : List (Option Pid)) (pids : List ℕ) → IsOpen limits at v → AreRunners limits.cpus runners v.tasks → IsStrictlySortedBy nat_cmp pids → AreFound tasks v.tasks pids → exits_left at tasks runners pids ≡ exits_from at v pids
unfolding IsStrictlySortedBy
exits_are limits at v tasks runners [] going_on are sorted found = refl
exits_are limits at v tasks runners (pid ∷ pids) going_on are sorted found =
    let here = task_of v.tasks pid in
    let acts = exit_of v pid here in
    let inside = inside_of limits.cpus (length v.groups) here (going_on.world.within pid) in
    let one = exit_goes limits at 0 (fresh v) pid (fresh_ready limits at v (length acts) going_on (exit_few v pid here)) in
    let prefix = events_at at acts in
    let suffix = after_from (fresh v) prefix in
    let next = exits_are limits at suffix tasks (exited runners here) pids
    (record { world = one.does.ready.world; going = one.does.ready.going; early = going_on.early })
    (exit_runs limits.cpus runners v.tasks suffix.tasks pid here are refl inside one.tasks) sorted.1
    (found_still tasks v.tasks suffix.tasks pid pids one.tasks sorted.0 found.1) in
    let same : exits_from at (fresh v) (pid ∷ pids) ≡ exits_from at v (pid ∷ pids) = exits_same at (fresh v) v (pid ∷ pids) refl refl in
    ap (λ o. events_at at (exit_left runners pid o) ++ exits_left at tasks (exited runners o) pids) (sym found.0)
    ∙ ap (λ xs. events_at at xs ++ exits_left at tasks (exited runners here) pids) (exit_is limits.cpus v runners pid here are inside)
    ∙ ap (λ es. prefix ++ es) next ∙ same
