-- Lemmas about a map of tasks that consists of a list and of entries in any order (`listed_tasks`).
use Rattle.std.proofs.Common.{◌≡◌, ℕ, zero, suc, ◌+◌, ◌-◌, ◌<◌, ◌≤◌, List, [], ◌∷◌, ◌++◌, refl, ap, ◌∙◌, sym, true, false, arith, cond, Option, None, Some, nat_eq, ◌==◌, length, replicate, take, drop, slice_set, is_some, ⊎_elim}
use Rattle.std.specs.Prelude.{slice_index_or}
use Rattle.std.specs.Ordering.{nat_cmp}
use Rattle.std.specs.Cmp.{nat_cmp_total, unsigned_tied, nat_eq_equiv}
use Rattle.std.specs.FinMap as map
use Rattle.std.specs.Map.{lookup}
use Rattle.std.proofs.lemmas.Bool.{cases_lt}
use Rattle.std.proofs.lemmas.Bool.Decides.{nat_tests, eqb_tells}
use Rattle.std.proofs.lemmas.List.{get_or-set_same, get_or-set_other, get_or-replicate, length-set, length-replicate}
use Rattle.std.proofs.Math.Seq.{take-append_seam}
use Rattle.psi_spec.specs.World.{Tasks, no_tasks, placed, put, remove, task_of}
use Rattle.psi_spec.specs.declared.machine.Task.{Task}
use Rattle.psi_spec.proofs.TaskLaws.{itself, same_tasks, task_placed}
use Rattle.task_table.specs.Listed.{listed_from, listed_tasks}

-- ---- look-ups

-- Two definitions of a search by pid give the same result.
find_entry : (es : List (ℕ × Task)) (q : ℕ) → map.find nat_cmp q es ≡ lookup (nat_eq q) es
find_entry [] q = refl
find_entry (e ∷ es) q = ap (λ b. cond b (Some e.1) (map.find nat_cmp q es)) (unsigned_tied q e.0) ∙ ap (cond (q == e.0) (Some e.1)) (find_entry es q)

-- In a map made of entries, the task with a pid is the task of the first entry with this pid.
get_entry : (es : List (ℕ × Task)) (q : ℕ) → task_of (map.from_entries es) q ≡ lookup (nat_eq q) es
get_entry es q = map.get-from_entries nat_cmp_total es q ∙ find_entry es q

-- A task whose pid has an index in the list is the task at this index.
get_within : (first : ℕ) (listed : List (Option Task)) (others : Tasks) (i : ℕ) → i < length listed → task_of (listed_from first listed others) (first + i) ≡ slice_index_or listed i None
get_within first [] others i below = absurd (omega arith)
get_within first (task ∷ listed) others zero below =
    let here : (first + 0 == first) ≡ true = grind (arith, nat_tests) in
    task_placed (listed_from (first + 1) listed others) first task (first + 0) ∙ ap (λ b. cond b task (task_of (listed_from (first + 1) listed others) (first + 0))) here
get_within first (task ∷ listed) others (suc i) below =
    let there : (first + suc i == first) ≡ false = grind (arith, nat_tests) in
    let moved : first + suc i ≡ first + 1 + i = omega arith in
    task_placed (listed_from (first + 1) listed others) first task (first + suc i)
    ∙ ap (λ b. cond b task (task_of (listed_from (first + 1) listed others) (first + suc i))) there
    ∙ ap (task_of (listed_from (first + 1) listed others)) moved
    ∙ get_within (first + 1) listed others i (omega arith)

-- A task whose pid is past the end of the list is one of the other tasks.
get_beyond : (first : ℕ) (listed : List (Option Task)) (others : Tasks) (q : ℕ) → first + length listed ≤ q → task_of (listed_from first listed others) q ≡ task_of others q
get_beyond first [] others q past = refl
get_beyond first (task ∷ listed) others q past =
    let there : (q == first) ≡ false = grind (arith, nat_tests) in
    task_placed (listed_from (first + 1) listed others) first task q
    ∙ ap (λ b. cond b task (task_of (listed_from (first + 1) listed others) q)) there
    ∙ get_beyond (first + 1) listed others q (omega arith)

-- If the list has an index for a pid, the task with the pid is the task at the index.
pub get_listed : (listed : List (Option Task)) (es : List (ℕ × Task)) (q : ℕ) → q < length listed → task_of (listed_tasks listed es) q ≡ slice_index_or listed q None
get_listed listed es q below =
    let same : q ≡ 0 + q = omega arith in
    ap (task_of (listed_tasks listed es)) same ∙ get_within 0 listed (map.from_entries es) q below

-- If the list has no index for a pid, the task with the pid is found among the entries.
pub get_other : (listed : List (Option Task)) (es : List (ℕ × Task)) (q : ℕ) → length listed ≤ q → task_of (listed_tasks listed es) q ≡ lookup (nat_eq q) es
get_other listed es q past = get_beyond 0 listed (map.from_entries es) q (omega (arith, past)) ∙ get_entry es q

-- ---- changes

-- The equality test of two numbers is symmetric.
flip : (k q : ℕ) → (k == q) ≡ (q == k)
flip k q = nat_eq_equiv.symm k q

-- Storing a task (or `None`) at an index of the list places the task in the map.
pub placed_listed : (listed : List (Option Task)) (es : List (ℕ × Task)) (k : ℕ) (task : Option Task) → k < length listed → listed_tasks (slice_set listed k task) es ≡ placed (listed_tasks listed es) k task
placed_listed listed es k task room = same_tasks (listed_tasks (slice_set listed k task) es) (placed (listed_tasks listed es) k task) (λ q.
    ⊎_elim
    (λ below.
    get_listed (slice_set listed k task) es q (omega (arith, below, length-set listed k task))
    ∙ ⊎_elim
    (λ same. rw (same.1, itself k) (get_or-set_same listed k task None room))
    (λ other. rw other.0 (get_or-set_other listed k q task None other.1 ∙ sym (get_listed listed es q below)))
    (eqb_tells q k)
    ∙ sym (task_placed (listed_tasks listed es) k task q))
    (λ past.
    let other : (q == k) ≡ false = grind (arith, nat_tests) in
    get_other (slice_set listed k task) es q (omega (arith, past, length-set listed k task))
    ∙ sym (get_other listed es q past)
    ∙ ap (λ b. cond b task (task_of (listed_tasks listed es) q)) (sym other)
    ∙ sym (task_placed (listed_tasks listed es) k task q))
    (cases_lt q (length listed)))

-- Changing the entry of a pid past the end of the list places the task in the map.
pub placed_other : (listed : List (Option Task)) (es fs : List (ℕ × Task)) (k : ℕ) (task : Option Task) → length listed ≤ k → ((q : ℕ) → lookup (nat_eq q) fs ≡ cond (k == q) task (lookup (nat_eq q) es)) → listed_tasks listed fs ≡ placed (listed_tasks listed es) k task
placed_other listed es fs k task beyond h = same_tasks (listed_tasks listed fs) (placed (listed_tasks listed es) k task) (λ q.
    ⊎_elim
    (λ below.
    let other : (q == k) ≡ false = grind (arith, nat_tests) in
    get_listed listed fs q below
    ∙ sym (get_listed listed es q below)
    ∙ ap (λ b. cond b task (task_of (listed_tasks listed es) q)) (sym other)
    ∙ sym (task_placed (listed_tasks listed es) k task q))
    (λ past.
    get_other listed fs q past
    ∙ h q
    ∙ ap (λ b. cond b task (lookup (nat_eq q) es)) (flip k q)
    ∙ ap (cond (q == k) task) (sym (get_other listed es q past))
    ∙ sym (task_placed (listed_tasks listed es) k task q))
    (cases_lt q (length listed)))

-- A map without tasks has no task with any pid.
lacks : (q : ℕ) → task_of no_tasks q ≡ None
lacks q = map.get-empty nat_cmp q

-- A list of empty entries and no other entries form a map without tasks.
pub none_in : (places : ℕ) (listed : List (Option Task)) (es : List (ℕ × Task)) → listed ≡ replicate places None → es ≡ [] → listed_tasks listed es ≡ no_tasks
none_in places listed es empty none = same_tasks (listed_tasks listed es) no_tasks (λ q.
    ⊎_elim
    (λ below.
    get_listed listed es q below
    ∙ rw empty (get_or-replicate places q None None (omega (arith, below, ap length empty, length-replicate places (let x : Option Task = None in x))))
    ∙ sym (lacks q))
    (λ past. get_other listed es q past ∙ rw none refl ∙ sym (lacks q))
    (cases_lt q (length listed)))

-- The number of tasks in such a map is 0.
pub count_none : (places : ℕ) (listed : List (Option Task)) (es : List (ℕ × Task)) → listed ≡ replicate places None → es ≡ [] → 0 ≡ map.len (listed_tasks listed es)
count_none places listed es empty none = rw (none_in places listed es empty none) (sym (map.len-empty nat_cmp Task))

-- Overwriting a list with a list of the same length gives the new list.
pub whole : (size : ℕ) (new old : List (Option Task)) → size ≡ length new → take size (new ++ drop (length new) old) ≡ new
whole size new old same = rw same (take-append_seam new (drop (length new) old))

-- ---- how many there are

-- Adding a task with a new pid increases the number of tasks by one.
pub count_more : (count : ℕ) (tasks after : Tasks) (k : ℕ) (task : Task) → count ≡ map.len tasks → is_some (task_of tasks k) ≡ false → after ≡ put tasks k task → count + 1 ≡ map.len after
count_more count tasks after k task counts none is = rw (is, counts) (sym (map.len-insert nat_cmp_total tasks k task ∙ ap (λ b. cond b (map.len tasks) (map.len tasks + 1)) none))

-- Replacing a task leaves the number of tasks unchanged.
pub count_put : (count : ℕ) (tasks after : Tasks) (k : ℕ) (task : Task) → count ≡ map.len tasks → is_some (task_of tasks k) ≡ true → after ≡ put tasks k task → count ≡ map.len after
count_put count tasks after k task counts some is = rw (is, counts) (sym (map.len-insert nat_cmp_total tasks k task ∙ ap (λ b. cond b (map.len tasks) (map.len tasks + 1)) some))

-- Removing a task decreases the number of tasks by one.
pub count_less : (count : ℕ) (tasks after : Tasks) (k : ℕ) → count ≡ map.len tasks → is_some (task_of tasks k) ≡ true → after ≡ remove tasks k → count - 1 ≡ map.len after
count_less count tasks after k counts some is = rw (is, counts) (sym (map.len-remove nat_cmp_total tasks k ∙ ap (λ b. cond b (map.len tasks - 1) (map.len tasks)) some))

-- Removing a pid without a task leaves the number of tasks unchanged.
pub count_kept : (count : ℕ) (tasks after : Tasks) (k : ℕ) → count ≡ map.len tasks → is_some (task_of tasks k) ≡ false → after ≡ remove tasks k → count ≡ map.len after
count_kept count tasks after k counts none is = rw (is, counts) (sym (map.len-remove nat_cmp_total tasks k ∙ ap (λ b. cond b (map.len tasks - 1) (map.len tasks)) none))

-- If a task is found, the number of tasks is at least one.
pub count_some : (count : ℕ) (tasks : Tasks) (k : ℕ) → count ≡ map.len tasks → is_some (task_of tasks k) ≡ true → 1 ≤ count
count_some count tasks k counts some =
    ⊎_elim
    (λ (any : 0 < map.len tasks). omega (arith, counts, any))
    (λ (past : map.len tasks ≤ 0).
    let none : tasks ≡ no_tasks = map.empty_of_len tasks (omega (arith, past)) in
    let absent : false ≡ true = sym (ap (λ (m : Tasks). is_some (task_of m k)) none ∙ ap is_some (lacks k)) ∙ some in
    cc absent)
    (cases_lt 0 (map.len tasks))
