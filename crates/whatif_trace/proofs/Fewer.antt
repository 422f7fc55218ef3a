-- Proves properties of the map of tasks from which the dead tasks are removed: its size, the
-- members of a group, and the running tasks.
use Rattle.std.proofs.Common.{◌≡◌, ℕ, ◌-◌, ◌≤◌, List, [], ◌∷◌, refl, ap, ◌∙◌, sym, subst, arith, cond, Bool, true, false, Option, None, Some, ◌==◌, map}
use Rattle.std.specs.Prelude.{◌||◌, if◌then◌else◌, is_some}
use Rattle.std.specs.List.{AllByRecursion, list_any}
use Rattle.std.specs.Ordering.{nat_cmp}
use Rattle.std.specs.Cmp.{nat_cmp_total, unsigned_tied}
use Rattle.std.specs.FinMap as tasks_by
use Rattle.psi_spec.specs.declared.machine.Task.{Task}
use Rattle.psi_spec.specs.World.{Tasks, is_running_on, remove, running_on, task_of}
use Rattle.psi_spec.specs.Refusal.{has_member, is_slot}
use Rattle.psi_spec.proofs.TaskLaws.{found, get_remove, same_tasks}
use Rattle.psi_counts.specs.Touch.{RunsOnce}
use Rattle.psi_counts.proofs.TouchCounts.{running_found}
use Rattle.task_table.proofs.Runners.{only_runs, runs_there}
use Rattle.whatif_spec.specs.Without.{is_pid_among}
use Rattle.whatif_trace.specs.Rest.{kept}

-- `fewer` is the map `tasks` without the dead tasks.
abbrev pub AreWithout : List ℕ → Tasks → Tasks → Type 0
AreWithout dead tasks fewer = (pid : ℕ) → task_of fewer pid ≡ kept dead pid (task_of tasks pid)

-- ---- the number of tasks

-- The tasks after the dead tasks are removed one by one.
abbrev taken : Tasks → List ℕ → Tasks
taken tasks [] = tasks
taken tasks (pid ∷ pids) = remove (taken tasks pids) pid

taken_is : (tasks : Tasks) (dead : List ℕ) → AreWithout dead tasks (taken tasks dead)
taken_is tasks [] pid = refl
taken_is tasks (first ∷ dead) pid =
    get_remove (taken tasks dead) first pid
    ∙ elim (pid == first) as (λ b. cond b None (task_of (taken tasks dead) pid) ≡ cond (b || is_pid_among dead pid) None (task_of tasks pid)) [
      | true ↦ refl
      | false ↦ taken_is tasks dead pid
    ]

one_fewer : (b : Bool) (n : ℕ) → cond b (n - 1) n ≤ n
one_fewer true n = omega arith
one_fewer false n = omega arith

taken_few : (tasks : Tasks) (dead : List ℕ) → tasks_by.len (taken tasks dead) ≤ tasks_by.len tasks
taken_few tasks [] = omega arith
taken_few tasks (pid ∷ dead) =
    let rest = taken_few tasks dead in
    let less = tasks_by.len-remove nat_cmp_total (taken tasks dead) pid in
    let most = one_fewer (tasks_by.contains_key (taken tasks dead) pid) (tasks_by.len (taken tasks dead)) in
    omega (arith, rest, less, most)

-- The map without the dead tasks isn't larger than the map of all tasks.
pub no_more : (dead : List ℕ) (tasks fewer : Tasks) → AreWithout dead tasks fewer → tasks_by.len fewer ≤ tasks_by.len tasks
no_more dead tasks fewer are =
    let same : fewer ≡ taken tasks dead = same_tasks fewer (taken tasks dead) (λ pid. are pid ∙ sym (taken_is tasks dead pid)) in
    let few = taken_few tasks dead in
    subst (λ m. tasks_by.len m ≤ tasks_by.len tasks) (sym same) few

-- ---- a task that is found

-- A task that isn't dead is found in both maps.
pub found_kept : (dead : List ℕ) (tasks fewer : Tasks) → AreWithout dead tasks fewer → (pid : ℕ) → is_pid_among dead pid ≡ false → task_of fewer pid ≡ task_of tasks pid
found_kept dead tasks fewer are pid alive = are pid ∙ ap (λ b. cond b None (task_of tasks pid)) alive

-- A dead task isn't found in the smaller map.
pub found_dead : (dead : List ℕ) (tasks fewer : Tasks) → AreWithout dead tasks fewer → (pid : ℕ) → is_pid_among dead pid ≡ true → task_of fewer pid ≡ None
found_dead dead tasks fewer are pid is = are pid ∙ ap (λ b. cond b None (task_of tasks pid)) is

-- A task that is found in the smaller map isn't dead, and is found in the map of all tasks.
if_found : (b : Bool) (o : Option Task) (task : Task) → cond b None o ≡ Some task → (b ≡ false) × (o ≡ Some task)
if_found true o task is = absurd (let no : ⊥ = cc is in no)
if_found false o task is = (refl, is)

pub found_before : (dead : List ℕ) (tasks fewer : Tasks) → AreWithout dead tasks fewer → (pid : ℕ) (task : Task) → task_of fewer pid ≡ Some task → (is_pid_among dead pid ≡ false) × (task_of tasks pid ≡ Some task)
found_before dead tasks fewer are pid task is = if_found (is_pid_among dead pid) (task_of tasks pid) task (sym (are pid) ∙ is)

-- ---- members of a group

-- If the task with some pid passes a test, some task in the list passes the test.
any_if : (test : Task → Bool) (es : List (ℕ × Task)) (pid : ℕ) (task : Task) → tasks_by.find nat_cmp pid es ≡ Some task → test task ≡ true → list_any test (map (λ e. e.1) es) ≡ true
any_if test [] pid task is passes = absurd (let no : ⊥ = cc is in no)
any_if test (e ∷ es) pid task is passes =
    elim (pid == e.0) as (λ b. cond b (Some e.1) (tasks_by.find nat_cmp pid es) ≡ Some task → (test e.1 || list_any test (map (λ e. e.1) es)) ≡ true) [
      | true ↦ λ i. let same : e.1 ≡ task = cc i in rw (ap test same, passes) refl
      | false ↦ λ i.
          elim (test e.1) as (λ b. (b || list_any test (map (λ e. e.1) es)) ≡ true) [
            | true ↦ refl
            | false ↦ any_if test es pid task i passes
          ]
    ] (ap (λ b. cond b (Some e.1) (tasks_by.find nat_cmp pid es)) (sym (unsigned_tied pid e.0)) ∙ is)

-- If some task in the list passes a test, the task with some pid passes the test.
any_found : (test : Task → Bool) (tasks : Tasks) (es : List (ℕ × Task)) → AllByRecursion (λ e. task_of tasks e.0 ≡ Some e.1) es → list_any test (map (λ e. e.1) es) ≡ true
    → (pid : ℕ) × (task : Task) × (task_of tasks pid ≡ Some task) × (test task ≡ true)
any_found test tasks [] each some = absurd (let no : ⊥ = cc some in no)
any_found test tasks (e ∷ es) each some =
    elim (test e.1) as (λ b. test e.1 ≡ b → (b || list_any test (map (λ e. e.1) es)) ≡ true → (pid : ℕ) × (task : Task) × (task_of tasks pid ≡ Some task) × (test task ≡ true)) [
      | true ↦ λ on _. (e.0, e.1, each.0, on)
      | false ↦ λ _ rest. any_found test tasks es each.1 rest
    ] refl some

-- A test that isn't true is false.
pub either : (b : Bool) → (b ≡ true → ⊥) → b ≡ false
either true not = absurd (not refl)
either false not = refl

-- A group without tasks in the map of all tasks has no tasks in the smaller map.
pub no_member : (dead : List ℕ) (tasks fewer : Tasks) → AreWithout dead tasks fewer → (slot : Option ℕ) → has_member tasks slot ≡ false → has_member fewer slot ≡ false
no_member dead tasks fewer are slot none =
    let test : Task → Bool = λ task. is_slot slot (Some task.slot) in
    either (has_member fewer slot) (λ some.
    let one = any_found test fewer (tasks_by.entries fewer) (found fewer) some in
    let before = found_before dead tasks fewer are one.0 one.1 one.2 in
    let has : has_member tasks slot ≡ true = any_if test (tasks_by.entries tasks) one.0 one.1 (sym (tasks_by.get-entries tasks one.0) ∙ before.1) one.3 in
    let no : ⊥ = cc (has, none) in no)

-- ---- the running tasks

-- The running task, or `None` if the task is dead.
abbrev pub if_kept : List ℕ → Option (ℕ × Task) → Option (ℕ × Task)
if_kept dead None = None
if_kept dead (Some e) = if is_pid_among dead e.0 then None else Some e

none_runs : (o other : Option (ℕ × Task)) → (is_some other ≡ true → is_some o ≡ true) → o ≡ None → other ≡ None
none_runs o None some none = refl
none_runs o (Some e) some none = absurd (let on = some refl in let no : ⊥ = cc (on, none) in no)

-- A task that runs in the smaller map runs in the map of all tasks, and isn't dead.
runs_before : (dead : List ℕ) (tasks fewer : Tasks) → AreWithout dead tasks fewer → (cpu : ℕ) (x : ℕ × Task) → running_on fewer cpu ≡ Some x → (is_pid_among dead x.0 ≡ false) × (task_of tasks x.0 ≡ Some x.1) × (is_running_on cpu x.1 ≡ true)
runs_before dead tasks fewer are cpu x is =
    let there = running_found fewer cpu x is in
    let before = found_before dead tasks fewer are x.0 x.1 there.0 in
    (before.0, before.1, there.1)

same_entry : (e x : ℕ × Task) → e.0 ≡ x.0 → e.1 ≡ x.1 → x ≡ e
same_entry e x number task = let pair : (x.0, x.1) ≡ (e.0, e.1) = rw (number, task) refl in pair

some_kept : (dead : List ℕ) (tasks fewer : Tasks) → AreWithout dead tasks fewer → RunsOnce tasks → (cpu : ℕ) (e : ℕ × Task) → running_on tasks cpu ≡ Some e → (o : Option (ℕ × Task)) → running_on fewer cpu ≡ o → o ≡ if_kept dead (Some e)
some_kept dead tasks fewer are once cpu e is None none =
    elim (is_pid_among dead e.0) as (λ b. is_pid_among dead e.0 ≡ b → None ≡ cond b None (Some e)) [
      | true ↦ λ _. refl
      | false ↦ λ alive.
          let there = running_found tasks cpu e is in
          let on = runs_there fewer e.0 e.1 cpu (found_kept dead tasks fewer are e.0 alive ∙ there.0) there.1 in
          absurd (let no : ⊥ = cc (on, none) in no)
    ] refl
some_kept dead tasks fewer are once cpu e is (Some x) some =
    let before = runs_before dead tasks fewer are cpu x some in
    let number : e.0 ≡ x.0 = only_runs tasks once cpu x.0 x.1 e before.1 before.2 is in
    let there = running_found tasks cpu e is in
    let alive : is_pid_among dead e.0 ≡ false = ap (is_pid_among dead) number ∙ before.0 in
    let found : Some e.1 ≡ Some x.1 = sym there.0 ∙ ap (task_of tasks) number ∙ before.1 in
    let task : e.1 ≡ x.1 = cc found in
    rw alive (ap Some (same_entry e x number task))

none_kept : (dead : List ℕ) (tasks fewer : Tasks) → AreWithout dead tasks fewer → (cpu : ℕ) → running_on tasks cpu ≡ None → (o : Option (ℕ × Task)) → running_on fewer cpu ≡ o → o ≡ None
none_kept dead tasks fewer are cpu is None none = refl
none_kept dead tasks fewer are cpu is (Some x) some =
    let before = runs_before dead tasks fewer are cpu x some in
    let on = runs_there tasks x.0 x.1 cpu before.1 before.2 in
    absurd (let no : ⊥ = cc (on, is) in no)

by_runner : (dead : List ℕ) (tasks fewer : Tasks) → AreWithout dead tasks fewer → RunsOnce tasks → (cpu : ℕ) (o : Option (ℕ × Task)) → running_on tasks cpu ≡ o → running_on fewer cpu ≡ if_kept dead o
by_runner dead tasks fewer are once cpu None is = none_kept dead tasks fewer are cpu is (running_on fewer cpu) refl
by_runner dead tasks fewer are once cpu (Some e) is = some_kept dead tasks fewer are once cpu e is (running_on fewer cpu) refl

-- On each processor the same task runs in both maps, unless the task is dead.
pub runs_kept : (dead : List ℕ) (tasks fewer : Tasks) → AreWithout dead tasks fewer → RunsOnce tasks → (cpu : ℕ) → running_on fewer cpu ≡ if_kept dead (running_on tasks cpu)
runs_kept dead tasks fewer are once cpu = by_runner dead tasks fewer are once cpu (running_on tasks cpu) refl
