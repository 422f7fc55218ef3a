-- Proofs about the map of tasks by pid: lookups after a change, and that equal lookups mean equal
-- maps.
use Rattle.std.proofs.Common.{◌≡◌, ℕ, List, [], ◌∷◌, ap, ◌∙◌, sym, arith, cond, Bool, true, false, Option, None, Some, ◌==◌}
use Rattle.std.specs.Prelude.{T, ◌&&◌}
use Rattle.std.specs.Ordering.{nat_cmp, is_lt}
use Rattle.std.specs.Cmp.{nat_cmp_total, unsigned_tied}
use Rattle.std.specs.List.{AllByRecursion}
use Rattle.std.proofs.lemmas.Bool.Decides.{nat_tests}
use Rattle.std.proofs.lemmas.List.{nil_from_length}
use Rattle.std.specs.FinMap as tasks_by
use Rattle.psi_spec.specs.World.{Tasks, no_tasks, placed, task_of, put, remove}
use Rattle.psi_spec.specs.declared.machine.Task.{Task}

-- a lookup after `put` finds the new task under its pid, and the same task as before under any
-- other pid
pub get_put : (tasks : Tasks) (k : ℕ) (t : Task) (q : ℕ) → task_of (put tasks k t) q ≡ cond (q == k) (Some t) (task_of tasks q)
get_put tasks k t q = tasks_by.get-insert nat_cmp_total tasks k t q ∙ ap (λ b. cond b (Some t) (task_of tasks q)) (unsigned_tied q k)

-- a lookup after `remove` finds no task under that pid, and the same task as before under any other
-- pid
pub get_remove : (tasks : Tasks) (k q : ℕ) → task_of (remove tasks k) q ≡ cond (q == k) None (task_of tasks q)
get_remove tasks k q = tasks_by.get-remove nat_cmp_total tasks k q ∙ ap (λ b. cond b None (task_of tasks q)) (unsigned_tied q k)

-- two maps with the same lookups are equal
pub same_tasks : (a b : Tasks) → ((q : ℕ) → task_of a q ≡ task_of b q) → a ≡ b
same_tasks a b h = tasks_by.same_map nat_cmp_total tasks_by.nat_cmp-IsAntisymmetric a b h

-- ---- replacing or removing a task

-- a lookup after `placed` finds `x` under that pid, and the same task as before under any other pid
pub task_placed : (tasks : Tasks) (p : ℕ) (x : Option Task) (q : ℕ) → task_of (placed tasks p x) q ≡ cond (q == p) x (task_of tasks q)
task_placed tasks p None q = get_remove tasks p q
task_placed tasks p (Some t) q = get_put tasks p t q

-- the empty map has no entries
pub no_entries : tasks_by.entries no_tasks ≡ []
no_entries = nil_from_length (tasks_by.entries no_tasks) (sym (tasks_by.len-entries no_tasks) ∙ tasks_by.len-empty nat_cmp Task)

-- ---- the order of entries

-- a number passes the test for equality with itself
pub itself : (k : ℕ) → (k == k) ≡ true
itself k = grind (arith, nat_tests)

-- if a conjunction is true, its first test is true
pub firstT : (a b : Bool) → T (a && b) → T a
firstT true b p = tt
firstT false b p = p

-- if a conjunction is true, its second test is true
pub secondT : (a b : Bool) → T (a && b) → T b
secondT true b p = p
secondT false b p = absurd p

-- a key is below all keys of the entries; this repeats a private test of the standard library
abbrev pub lower : ℕ → List (ℕ × Task) → Bool
lower x [] = true
lower x (e ∷ es) = is_lt (nat_cmp x e.0) && lower x es

-- a greater key isn't equal to the first key
over : (x e : ℕ) → T (is_lt (nat_cmp x e)) → (e == x) ≡ false
over x e h = grind (arith, nat_tests)

-- an entry that is found in the tail of the list is found in the whole list
found_after : (x : ℕ × Task) (es fs : List (ℕ × Task)) → T (lower x.0 fs) → AllByRecursion (λ e. tasks_by.find nat_cmp e.0 es ≡ Some e.1) fs → AllByRecursion (λ e. tasks_by.find nat_cmp e.0 (x ∷ es) ≡ Some e.1) fs
found_after x es [] b h = tt
found_after x es (f ∷ fs) b h =
    (ap (λ t. cond t (Some x.1) (tasks_by.find nat_cmp f.0 es)) (unsigned_tied f.0 x.0 ∙ over x.0 f.0 (firstT (is_lt (nat_cmp x.0 f.0)) (lower x.0 fs) b)) ∙ h.0, found_after x es fs (secondT (is_lt (nat_cmp x.0 f.0)) (lower x.0 fs) b) h.1)

-- in a sorted list of entries, a lookup of each entry's key finds its task
found_all : (es : List (ℕ × Task)) → T (tasks_by.is_sorted nat_cmp es) → AllByRecursion (λ e. tasks_by.find nat_cmp e.0 es ≡ Some e.1) es
found_all [] s = tt
found_all (e ∷ es) s =
    (ap (λ t. cond t (Some e.1) (tasks_by.find nat_cmp e.0 es)) (unsigned_tied e.0 e.0 ∙ itself e.0), found_after e es es (firstT (lower e.0 es) (tasks_by.is_sorted nat_cmp es) s) (found_all es (secondT (lower e.0 es) (tasks_by.is_sorted nat_cmp es) s)))

-- a lookup in the map finds what a lookup in its entries finds
gets_all : (tasks : Tasks) (es : List (ℕ × Task)) → AllByRecursion (λ e. tasks_by.find nat_cmp e.0 (tasks_by.entries tasks) ≡ Some e.1) es → AllByRecursion (λ e. task_of tasks e.0 ≡ Some e.1) es
gets_all tasks [] h = tt
gets_all tasks (e ∷ es) h = (tasks_by.get-entries tasks e.0 ∙ h.0, gets_all tasks es h.1)

-- in a map of tasks, a lookup of each entry's pid finds its task
pub found : (tasks : Tasks) → AllByRecursion (λ e. task_of tasks e.0 ≡ Some e.1) (tasks_by.entries tasks)
found tasks = gets_all tasks (tasks_by.entries tasks) (found_all (tasks_by.entries tasks) (tasks_by.entries_sorted tasks))
