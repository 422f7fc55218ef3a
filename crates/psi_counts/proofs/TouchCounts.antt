-- The numbers of tasks that pass a test after a task is added, changed or removed.
use Rattle.std.proofs.Common.{◌≡◌, ℕ, ◌+◌, List, [], ◌∷◌, refl, ap, ◌∙◌, sym, subst, Bool, true, false, arith, cond, Option, None, Some, ◌==◌, ⊎_elim}
use Rattle.std.specs.Prelude.{T, map, find, filter, ◌&&◌}
use Rattle.std.specs.Ordering.{nat_cmp, is_lt, is_eq}
use Rattle.std.specs.declared.cmp.Ordering.{Ordering}
use Rattle.std.specs.declared.cmp.Ordering.TheVariants.{Less, Equal, Greater}
use Rattle.std.specs.Cmp.{nat_cmp_total, unsigned_tied}
use Rattle.std.specs.FinMap as fin
use Rattle.std.specs.List.{AllByRecursion}
use Rattle.std.proofs.lemmas.Bool.Decides.{nat_tests, eqb_tells}
use Rattle.psi_base.specs.declared.event.How.{How}
use Rattle.psi_base.specs.Missing.{is_some_and}
use Rattle.psi_spec.specs.declared.machine.Task.{Task}
use Rattle.psi_spec.specs.World.{Tasks, task_of, put, remove, task_part, placed, leave, left_by, running_on, is_running_on, change_to}
use Rattle.psi_counts.specs.Counts.{how_many}
use Rattle.psi_counts.specs.Touch.{changed, left_if}
use Rattle.psi_counts.proofs.CountLaws.{one, how_many-cons}
use Rattle.psi_spec.proofs.TaskLaws.{firstT, found, get_put, get_remove, itself, lower, same_tasks, secondT}

-- ---- counts as sums

-- the number of tasks in a list that pass a test, by recursion
abbrev pub tally : (Task → Bool) → List Task → ℕ
tally test [] = 0
tally test (task ∷ tasks) = one (test task) + tally test tasks

-- The number of tasks that pass a test equals its recursive definition `tally`.
pub tallied : (test : Task → Bool) (tasks : List Task) → how_many test tasks ≡ tally test tasks
tallied test [] = refl
tallied test (task ∷ tasks) = how_many-cons test task tasks ∙ ap (λ n. one (test task) + n) (tallied test tasks)

-- The number of live tasks that pass a test.
abbrev pub counted : (Task → Bool) → Tasks → ℕ
counted test tasks = tally test (fin.values tasks)

-- The number of tasks that pass a second test among those that pass a first test is the number that
-- pass both.
pub tallied_both : (within test : Task → Bool) (tasks : List Task) → how_many test (filter within tasks) ≡ tally (λ task. within task && test task) tasks
tallied_both within test [] = refl
tallied_both within test (task ∷ tasks) =
    let rest = tallied_both within test tasks in
    elim (within task) as (λ b. how_many test (cond b (task ∷ filter within tasks) (filter within tasks)) ≡ one (b && test task) + tally (λ t. within t && test t) tasks) [
      | true ↦ how_many-cons test task (filter within tasks) ∙ ap (λ n. one (test task) + n) rest
      | false ↦ omega (arith, rest)
    ]

-- ---- an entry put among those in order

-- A number below `x` differs from each number above `x`.
above : (k x y : ℕ) → nat_cmp k x ≡ Less → T (is_lt (nat_cmp x y)) → (k == y) ≡ false
above k x y h t = grind (arith, nat_tests)

-- A sorted list of entries has no entry with a number below the first.
none_above : (k x : ℕ) (es : List (ℕ × Task)) → nat_cmp k x ≡ Less → T (lower x es) → fin.find nat_cmp k es ≡ None
none_above k x [] h t = refl
none_above k x (e ∷ es) h t =
    ap (λ b. cond b (Some e.1) (fin.find nat_cmp k es)) (unsigned_tied k e.0 ∙ above k x e.0 h (firstT (is_lt (nat_cmp x e.0)) (lower x es) t))
    ∙ none_above k x es h (secondT (is_lt (nat_cmp x e.0)) (lower x es) t)

-- One of three values, chosen by an order.
abbrev ordered : {A : Type 0} → Ordering → A → A → A → A
ordered Less a b c = a
ordered Equal a b c = b
ordered Greater a b c = c

-- The number of entries whose task passes a test.
abbrev count : (Task → Bool) → List (ℕ × Task) → ℕ
count p es = tally p (map (λ e. e.1) es)

-- Inserting or replacing an entry adds the new task, if it passes, to the number of entries that
-- pass, and subtracts the old task, if it passes.
count_put : (p : Task → Bool) (k : ℕ) (v : Task) (es : List (ℕ × Task)) → T (fin.is_sorted nat_cmp es) → count p (fin.put nat_cmp k v es) + one (is_some_and (fin.find nat_cmp k es) p) ≡ count p es + one (p v)
count_put p k v [] s =
    let goal : (one (p v) + 0) + 0 ≡ 0 + one (p v) = omega arith in goal
count_put p k v (e ∷ es) s =
    elim (nat_cmp k e.0) as (λ r. nat_cmp k e.0 ≡ r → count p (ordered r ((k, v) ∷ e ∷ es) ((e.0, v) ∷ es) (e ∷ fin.put nat_cmp k v es)) + one (is_some_and (cond (is_eq r) (Some e.1) (fin.find nat_cmp k es)) p) ≡ count p (e ∷ es) + one (p v)) [
      | Less ↦ λ h. rw (none_above k e.0 es h (firstT (lower e.0 es) (fin.is_sorted nat_cmp es) s)) (let goal : (one (p v) + (one (p e.1) + count p es)) + 0 ≡ (one (p e.1) + count p es) + one (p v) = omega arith in goal)
      | Equal ↦ λ h. let goal : (one (p v) + count p es) + one (p e.1) ≡ (one (p e.1) + count p es) + one (p v) = omega arith in goal
      | Greater ↦ λ h.
          let rest = count_put p k v es (secondT (lower e.0 es) (fin.is_sorted nat_cmp es) s) in
          let goal : (one (p e.1) + count p (fin.put nat_cmp k v es)) + one (is_some_and (fin.find nat_cmp k es) p) ≡ (one (p e.1) + count p es) + one (p v) = omega (arith, rest) in goal
    ] refl

-- ---- one task more, less or another

-- Adding or replacing a task adds the new task, if it passes, to the number of tasks that pass, and
-- subtracts the old task, if it passes.
pub counted_put : (p : Task → Bool) (tasks : Tasks) (k : ℕ) (t : Task) → counted p (put tasks k t) + one (is_some_and (task_of tasks k) p) ≡ counted p tasks + one (p t)
counted_put p tasks k t =
    rw (fin.entries-insert nat_cmp_total tasks k t, fin.get-entries tasks k) (count_put p k t (fin.entries tasks) (fin.entries_sorted tasks))

-- a task that is removed and put back is found as before
pub put_back : (tasks : Tasks) (k : ℕ) (t : Task) → task_of tasks k ≡ Some t → (q : ℕ) → task_of (put (remove tasks k) k t) q ≡ task_of tasks q
put_back tasks k t is q =
    get_put (remove tasks k) k t q ∙ ap (cond (q == k) (Some t)) (get_remove tasks k q)
    ∙ ⊎_elim (λ same. rw (same.0) (sym (ap (task_of tasks) same.1 ∙ is))) (λ other. rw (other.0) refl) (eqb_tells q k)

-- Removing a pid that no task has changes nothing.
pub same_without : (tasks : Tasks) (k : ℕ) → task_of tasks k ≡ None → (q : ℕ) → task_of (remove tasks k) q ≡ task_of tasks q
same_without tasks k is q =
    get_remove tasks k q ∙ ⊎_elim (λ same. rw (same.0) (sym (ap (task_of tasks) same.1 ∙ is))) (λ other. rw (other.0) refl) (eqb_tells q k)

-- Removing a task decreases the number of tasks that pass by one if the task passes.
pub counted_remove : (p : Task → Bool) (tasks : Tasks) (k : ℕ) → counted p (remove tasks k) + one (is_some_and (task_of tasks k) p) ≡ counted p tasks
counted_remove p tasks k =
    elim (task_of tasks k) as (λ o. task_of tasks k ≡ o → counted p (remove tasks k) + one (is_some_and o p) ≡ counted p tasks) [
      | None ↦ λ is. let same = ap (counted p) (same_tasks (remove tasks k) tasks (same_without tasks k is)) in omega (arith, same)
      | Some t ↦ λ is.
          let whole = ap (counted p) (same_tasks (put (remove tasks k) k t) tasks (put_back tasks k t is)) in
          let gone : task_of (remove tasks k) k ≡ None = get_remove tasks k k ∙ ap (λ b. cond b None (task_of tasks k)) (itself k) in
          let more = rw gone at (counted_put p (remove tasks k) k t) in
          omega (arith, whole, more)
    ] refl

-- Replacing or removing a task adds the new task, if it passes, to the number of tasks that pass,
-- and subtracts the old task, if it passes.
pub counted_placed : (p : Task → Bool) (tasks : Tasks) (k : ℕ) (x : Option Task) → counted p (placed tasks k x) + one (is_some_and (task_of tasks k) p) ≡ counted p tasks + one (is_some_and x p)
counted_placed p tasks k None = let less = counted_remove p tasks k in omega (arith, less)
counted_placed p tasks k (Some t) = counted_put p tasks k t

-- Changing an optional task adds the changed task, if it passes, to the number of tasks that pass,
-- and subtracts the old task, if it passes.
pub counted_changed : (p : Task → Bool) (tasks : Tasks) (pid : ℕ) (f : Task → Task) (o : Option Task) → task_of tasks pid ≡ o → counted p (change_to tasks pid f o) + one (is_some_and o p) ≡ counted p tasks + one (is_some_and (changed f o) p)
counted_changed p tasks pid f None is = refl
counted_changed p tasks pid f (Some t) is = rw is at (counted_put p tasks pid (f t))

-- ---- the running task

-- The element that a search finds passes the test, and has each property that all elements have.
find_has : (P : ℕ × Task → Type 0) (test : ℕ × Task → Bool) (es : List (ℕ × Task)) (e : ℕ × Task) → AllByRecursion P es → find test es ≡ Some e → P e × (test e ≡ true)
find_has P test [] e h is = cc is
find_has P test (x ∷ es) e h is =
    elim (test x) as (λ b. test x ≡ b → cond b (Some x) (find test es) ≡ Some e → P e × (test e ≡ true)) [
      | true ↦ λ t i. let same : x ≡ e = cc i in (subst P same h.0, subst (λ y. test y ≡ true) same t)
      | false ↦ λ t i. find_has P test es e h.1 i
    ] refl is

-- The running task of a processor is a live task that is running there.
pub running_found : (tasks : Tasks) (cpu : ℕ) (e : ℕ × Task) → running_on tasks cpu ≡ Some e → (task_of tasks e.0 ≡ Some e.1) × (is_running_on cpu e.1 ≡ true)
running_found tasks cpu e is = find_has (λ e. task_of tasks e.0 ≡ Some e.1) (λ e. is_running_on cpu e.1) (fin.entries tasks) e (found tasks) is

-- The optional running task that leaves its processor is subtracted from the number of tasks that
-- pass, if it passes, and is added in its new state, if it passes.
pub counted_leave : (p : Task → Bool) (tasks : Tasks) (cpu : ℕ) (how : How) (o : Option (ℕ × Task)) → running_on tasks cpu ≡ o → counted p (leave how tasks o) + one (is_some_and (task_part o) p) ≡ counted p tasks + one (is_some_and (left_if how (task_part o)) p)
counted_leave p tasks cpu how None is = refl
counted_leave p tasks cpu how (Some e) is = rw ((running_found tasks cpu e is).0) at (counted_placed p tasks e.0 (left_by how e.1))
