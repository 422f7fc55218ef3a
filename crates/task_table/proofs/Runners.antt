-- Proves that a search for the running task of a processor finds each task known to be running
-- there.
use Rattle.std.proofs.Common.{◌≡◌, ℕ, ◌≤◌, List, [], ◌∷◌, refl, ap, ◌∙◌, sym, arith, cond, Bool, true, false, Option, Some, ◌==◌, length, map}
use Rattle.std.specs.Prelude.{filter, find, is_some}
use Rattle.std.specs.Ordering.{nat_cmp}
use Rattle.std.specs.Cmp.{unsigned_tied}
use Rattle.std.specs.FinMap as tasks_by
use Rattle.std.proofs.lemmas.Bool.Decides.{nat_tests}
use Rattle.psi_spec.specs.declared.machine.Task.{Task}
use Rattle.psi_spec.specs.World.{Tasks, is_running_on, running_on, task_of}
use Rattle.psi_counts.specs.Touch.{RunsOnce}

-- A search by pid in a nonempty list returns the first entry or searches the rest of the list.
here_or_after : (pid : ℕ) (e : ℕ × Task) (es : List (ℕ × Task)) (o : Option Task) → tasks_by.find nat_cmp pid (e ∷ es) ≡ o → cond (pid == e.0) (Some e.1) (tasks_by.find nat_cmp pid es) ≡ o
here_or_after pid e es o is = ap (λ b. cond b (Some e.1) (tasks_by.find nat_cmp pid es)) (sym (unsigned_tied pid e.0)) ∙ is

-- If the task with a pid passes a test, a search by this test finds an entry.
found_if : (test : Task → Bool) (es : List (ℕ × Task)) (pid : ℕ) (task : Task) → tasks_by.find nat_cmp pid es ≡ Some task → test task ≡ true → is_some (find (λ e. test e.1) es) ≡ true
found_if test [] pid task is passes = absurd (cc is)
found_if test (e ∷ es) pid task is passes =
    elim (test e.1) as (λ b. test e.1 ≡ b → is_some (cond b (Some e) (find (λ e. test e.1) es)) ≡ true) [
      | true ↦ λ _. refl
      | false ↦ λ off.
          elim (pid == e.0) as (λ b. cond b (Some e.1) (tasks_by.find nat_cmp pid es) ≡ Some task → is_some (find (λ e. test e.1) es) ≡ true) [
            | true ↦ λ i. let same : e.1 ≡ task = cc i in absurd (cc (off, ap test same, passes))
            | false ↦ λ i. found_if test es pid task i passes
          ] (here_or_after pid e es (Some task) is)
    ] refl

-- If a task is running on a processor, a search for the running task finds a task.
pub runs_there : (tasks : Tasks) (pid : ℕ) (task : Task) (cpu : ℕ) → task_of tasks pid ≡ Some task → is_running_on cpu task ≡ true → is_some (running_on tasks cpu) ≡ true
runs_there tasks pid task cpu is runs = found_if (is_running_on cpu) (tasks_by.entries tasks) pid task (sym (tasks_by.get-entries tasks pid) ∙ is) runs

-- Returns the number of entries whose tasks pass the test.
abbrev passing : (Task → Bool) → List (ℕ × Task) → ℕ
passing test es = length (filter test (map (λ e. e.1) es))

-- If the task with a pid passes a test, at least one entry passes the test.
counted_if : (test : Task → Bool) (es : List (ℕ × Task)) (pid : ℕ) (task : Task) → tasks_by.find nat_cmp pid es ≡ Some task → test task ≡ true → 1 ≤ passing test es
counted_if test [] pid task is passes = absurd (cc is)
counted_if test (e ∷ es) pid task is passes =
    elim (test e.1) as (λ b. test e.1 ≡ b → 1 ≤ length (cond b (e.1 ∷ filter test (map (λ e. e.1) es)) (filter test (map (λ e. e.1) es)))) [
      | true ↦ λ _. omega arith
      | false ↦ λ off.
          elim (pid == e.0) as (λ b. cond b (Some e.1) (tasks_by.find nat_cmp pid es) ≡ Some task → 1 ≤ passing test es) [
            | true ↦ λ i. let same : e.1 ≡ task = cc i in absurd (cc (off, ap test same, passes))
            | false ↦ λ i. counted_if test es pid task i passes
          ] (here_or_after pid e es (Some task) is)
    ] refl

-- Numbers that pass the equality test are equal.
same_number : (a b : ℕ) → (a == b) ≡ true → b ≡ a
same_number a b is = grind (arith, nat_tests)

-- If at most one entry passes a test, a search by the test finds the entry of each task that passes
-- it.
only_found : (test : Task → Bool) (es : List (ℕ × Task)) (pid : ℕ) (task : Task) (e : ℕ × Task) → tasks_by.find nat_cmp pid es ≡ Some task → test task ≡ true → find (λ e. test e.1) es ≡ Some e → passing test es ≤ 1 → e.0 ≡ pid
only_found test [] pid task e is passes found once = absurd (cc is)
only_found test (x ∷ es) pid task e is passes found once =
    elim (test x.1) as (λ b. test x.1 ≡ b → cond b (Some x) (find (λ e. test e.1) es) ≡ Some e → length (cond b (x.1 ∷ filter test (map (λ e. e.1) es)) (filter test (map (λ e. e.1) es))) ≤ 1 → e.0 ≡ pid) [
      | true ↦ λ on first few.
          let same : x ≡ e = cc first in
          elim (pid == x.0) as (λ b. (pid == x.0) ≡ b → cond b (Some x.1) (tasks_by.find nat_cmp pid es) ≡ Some task → e.0 ≡ pid) [
            | true ↦ λ number i. ap (λ (y : ℕ × Task). y.0) (sym same) ∙ same_number pid x.0 number
            | false ↦ λ number i. let more = counted_if test es pid task i passes in absurd (omega (arith, few, more))
          ] refl (here_or_after pid x es (Some task) is)
      | false ↦ λ off suffix few.
          elim (pid == x.0) as (λ b. cond b (Some x.1) (tasks_by.find nat_cmp pid es) ≡ Some task → e.0 ≡ pid) [
            | true ↦ λ i. let same : x.1 ≡ task = cc i in absurd (cc (off, ap test same, passes))
            | false ↦ λ i. only_found test es pid task e i passes suffix few
          ] (here_or_after pid x es (Some task) is)
    ] refl found once

-- The task found on a processor has the pid of each task known to be running there.
pub only_runs : (tasks : Tasks) → RunsOnce tasks → (cpu pid : ℕ) (task : Task) (e : ℕ × Task) → task_of tasks pid ≡ Some task → is_running_on cpu task ≡ true → running_on tasks cpu ≡ Some e → e.0 ≡ pid
only_runs tasks once cpu pid task e is runs found = only_found (is_running_on cpu) (tasks_by.entries tasks) pid task e (sym (tasks_by.get-entries tasks pid) ∙ is) runs found (once cpu)
