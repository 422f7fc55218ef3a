-- The numbers of tasks in a list that pass a test, and the Boolean tests that follow from these
-- numbers.
use Rattle.std.proofs.Common.{◌≡◌, ℕ, ◌+◌, ◌≤◌, List, [], ◌∷◌, refl, ap, ◌∙◌, Bool, true, false, arith, nat_lt, ◌==◌, length}
use Rattle.std.specs.Prelude.{filter, ◌&&◌, ◌||◌, not, if◌then◌else◌, cond}
use Rattle.std.specs.List.{list_any, list_all}
use Rattle.std.proofs.lemmas.Bool.Decides.{nat_tests}
use Rattle.psi_spec.specs.World.{is_running, is_ready, is_active}
use Rattle.psi_spec.specs.Stall.{queues, runs, stalls, is_up}
use Rattle.psi_counts.specs.Counts.{how_many, is_up_stalled}
use Rattle.psi_spec.specs.declared.machine.Task.{Task}
use Rattle.psi_spec.specs.declared.machine.Mode.{Mode}
use Rattle.psi_spec.specs.declared.machine.Mode.TheVariants.{Blocked, Waiting, Ready, Running}

-- 1 if a test passes, otherwise 0
abbrev pub one : Bool → ℕ
one test = if test then 1 else 0

-- Prepending a task increases the number of tasks that pass by one if the task passes.
pub how_many-cons : (test : Task → Bool) (task : Task) (tasks : List Task) → how_many test (task ∷ tasks) ≡ one (test task) + how_many test tasks
how_many-cons test task tasks =
    elim (test task) as (λ b. length (cond b (task ∷ filter test tasks) (filter test tasks)) ≡ one b + how_many test tasks) [
      | true ↦ omega arith
      | false ↦ omega arith
    ]

-- Some task passes if and only if the number of tasks that pass isn't 0.
pub any_counted : (test : Task → Bool) (tasks : List Task) → list_any test tasks ≡ nat_lt 0 (how_many test tasks)
any_counted test [] = refl
any_counted test (task ∷ tasks) =
    let rest = any_counted test tasks in
    rw (how_many-cons test task tasks)
    (elim (test task) as (λ b. (b || list_any test tasks) ≡ nat_lt 0 (one b + how_many test tasks)) [
      | true ↦ let goal : true ≡ nat_lt 0 (1 + how_many test tasks) = grind (arith, nat_tests) in goal
      | false ↦ rest ∙ ap (nat_lt 0) (let goal : how_many test tasks ≡ 0 + how_many test tasks = omega arith in goal)
    ])

-- At most as many tasks are ready or running in a memory stall as are ready or running.
pub stalled_of_up : (tasks : List Task) → how_many is_up_stalled tasks ≤ how_many is_up tasks
stalled_of_up [] = omega arith
stalled_of_up (task ∷ tasks) =
    let rest = stalled_of_up tasks in
    rw (how_many-cons is_up_stalled task tasks, how_many-cons is_up task tasks)
    (elim (is_up task) as (λ b. one (b && task.stalled) + how_many is_up_stalled tasks ≤ one b + how_many is_up tasks) [
      | true ↦ elim task.stalled as (λ s. one s + how_many is_up_stalled tasks ≤ 1 + how_many is_up tasks) [ true ↦ omega (arith, rest) | false ↦ omega (arith, rest) ]
      | false ↦ omega (arith, rest)
    ])

-- Every ready or running task is in a memory stall if and only if the number of ready or running
-- tasks equals the number of them that are in a memory stall.
pub all_counted : (tasks : List Task) → list_all (λ task. not (is_up task) || stalls task) tasks ≡ (how_many is_up tasks == how_many is_up_stalled tasks)
all_counted [] = refl
all_counted (task ∷ tasks) =
    let rest = all_counted tasks in
    let fewer = stalled_of_up tasks in
    rw (how_many-cons is_up_stalled task tasks, how_many-cons is_up task tasks)
    (elim (is_up task) as (λ b. ((not b || task.stalled) && list_all (λ t. not (is_up t) || stalls t) tasks) ≡ (one b + how_many is_up tasks == one (b && task.stalled) + how_many is_up_stalled tasks)) [
      | true ↦ elim task.stalled as (λ s. (s && list_all (λ t. not (is_up t) || stalls t) tasks) ≡ (1 + how_many is_up tasks == one s + how_many is_up_stalled tasks)) [
        | true ↦ rest ∙ (let goal : (how_many is_up tasks == how_many is_up_stalled tasks) ≡ (1 + how_many is_up tasks == 1 + how_many is_up_stalled tasks) = grind (arith, nat_tests) in goal)
        | false ↦ let goal : false ≡ (1 + how_many is_up tasks == 0 + how_many is_up_stalled tasks) = grind (arith, nat_tests, fewer) in goal
      ]
      | false ↦ rest ∙ (let goal : (how_many is_up tasks == how_many is_up_stalled tasks) ≡ (0 + how_many is_up tasks == 0 + how_many is_up_stalled tasks) = grind (arith, nat_tests) in goal)
    ])

active_by_mode : (mode : Mode) → one (is_active mode) ≡ one (is_ready mode) + one (is_running mode)
active_by_mode Ready = refl
active_by_mode Running = refl
active_by_mode Blocked = refl
active_by_mode Waiting = refl

-- The number of tasks that are ready or running is the sum of the number of ready tasks and the
-- number of running tasks.
pub up_counted : (tasks : List Task) → how_many is_up tasks ≡ how_many queues tasks + how_many runs tasks
up_counted [] = refl
up_counted (task ∷ tasks) =
    let rest = up_counted tasks in
    let here = active_by_mode task.mode in
    let up = how_many-cons is_up task tasks in
    let ready = how_many-cons queues task tasks in
    let running = how_many-cons runs task tasks in
    omega (arith, rest, here, up, ready, running)

-- Some task passes one of two tests if and only if some task passes the first test or some task
-- passes the second.
pub any_either : (one_test other_test : Task → Bool) (tasks : List Task) → list_any (λ task. one_test task || other_test task) tasks ≡ (list_any one_test tasks || list_any other_test tasks)
any_either p q [] = refl
any_either p q (t ∷ ts) =
    let rest = any_either p q ts in
    elim (p t) as (λ a. ((a || q t) || list_any (λ task. p task || q task) ts) ≡ ((a || list_any p ts) || (q t || list_any q ts))) [
      | true ↦ refl
      | false ↦ elim (q t) as (λ b. (b || list_any (λ task. p task || q task) ts) ≡ (list_any p ts || (b || list_any q ts))) [
        | true ↦ elim (list_any p ts) as (λ c. true ≡ (c || true)) [ true ↦ refl | false ↦ refl ]
        | false ↦ rest
      ]
    ]

-- If some running task is in a memory stall, then some task is in a memory stall.
pub running_stalled_any : (tasks : List Task) → list_any (λ task. runs task && stalls task) tasks ≡ true → list_any stalls tasks ≡ true
running_stalled_any [] h = h
running_stalled_any (t ∷ ts) h =
    elim t.stalled as (λ s. ((runs t && s) || list_any (λ task. runs task && stalls task) ts) ≡ true → (s || list_any stalls ts) ≡ true) [
      | true ↦ λ _. refl
      | false ↦ elim (runs t) as (λ r. ((r && false) || list_any (λ task. runs task && stalls task) ts) ≡ true → list_any stalls ts ≡ true) [
        | true ↦ λ k. running_stalled_any ts k
        | false ↦ λ k. running_stalled_any ts k
      ]
    ] h
