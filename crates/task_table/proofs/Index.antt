-- Proves that the list of running tasks stays correct (`IsIndex`) when tasks change.
use Rattle.std.proofs.Common.{◌≡◌, ℕ, ◌<◌, ◌≤◌, List, [], ◌∷◌, refl, ap, ◌∙◌, sym, Bool, true, false, arith, cond, Option, None, Some, ◌==◌, is_some, length, slice_set, ◌⊎◌, ⊎_elim}
use Rattle.std.specs.Prelude.{slice_index_or, find, ◌&&◌, if◌then◌else◌, IfSome}
use Rattle.std.specs.Ordering.{nat_cmp}
use Rattle.std.specs.Cmp.{unsigned_tied}
use Rattle.std.specs.FinMap as map
use Rattle.std.specs.List.{AllByRecursion}
use Rattle.std.proofs.lemmas.List.{get_or-set_same, get_or-set_other, get_or_past}
use Rattle.std.proofs.lemmas.Bool.Decides.{nat_tests, eqb_tells}
use Rattle.psi_spec.specs.World.{Tasks, no_tasks, placed, task_of, put, running_on, is_ready_on, is_running_on, is_running, is_ready, leave}
use Rattle.psi_spec.specs.Refusal.{is_wrong}
use Rattle.psi_base.specs.declared.event.Pid.{Pid}
use Rattle.psi_spec.specs.declared.machine.Task.{Task}
use Rattle.psi_spec.specs.declared.machine.Mode.{Mode}
use Rattle.psi_spec.specs.declared.machine.Mode.TheVariants.{Blocked, Waiting, Ready, Running}
use Rattle.psi_base.specs.declared.event.How.{How}
use Rattle.psi_base.specs.declared.event.How.TheVariants.{Idle}
use Rattle.psi_base.specs.Missing.{is_some_and}
use Rattle.psi_spec.proofs.TaskLaws.{found, itself, task_placed}
use Rattle.psi_counts.proofs.TouchLaws.{ready_left}
use Rattle.task_table.specs.Named.{next_task}
use Rattle.task_table.specs.Stands.{IsIndex, passing, task_on, task_with}

-- ---- the running task of a processor is the one in its place

-- Pairs a task with its pid, or keeps `None`.
abbrev with_number : ℕ → Option Task → Option (ℕ × Task)
with_number pid None = None
with_number pid (Some task) = Some (pid, task)

-- An entry with a pid is the pair of the pid and its task.
number_is : (pid : ℕ) (e : ℕ × Task) → (pid == e.0) ≡ true → Some (e.0, e.1) ≡ with_number pid (Some e.1)
number_is pid e h = let same : pid ≡ e.0 = grind (arith, nat_tests) in rw same refl

-- A search by pid in the entries finds the same task as the map.
by_number : (es : List (ℕ × Task)) (pid : ℕ) → find (λ e. pid == e.0) es ≡ with_number pid (map.find nat_cmp pid es)
by_number [] pid = refl
by_number (e ∷ es) pid =
    elim (pid == e.0) as (λ b. (pid == e.0) ≡ b → cond b (Some e) (find (λ e. pid == e.0) es) ≡ with_number pid (cond b (Some e.1) (map.find nat_cmp pid es))) [
      | true ↦ λ h. number_is pid e h
      | false ↦ λ h. by_number es pid
    ] refl
    ∙ ap (λ b. with_number pid (cond b (Some e.1) (map.find nat_cmp pid es))) (sym (unsigned_tied pid e.0))

-- Searches by two tests that agree on each entry give the same result.
same_find : (p q : ℕ × Task → Bool) (es : List (ℕ × Task)) → AllByRecursion (λ e. p e ≡ q e) es → find p es ≡ find q es
same_find p q [] h = refl
same_find p q (e ∷ es) h = ap (λ b. cond b (Some e) (find p es)) h.0 ∙ ap (cond (q e) (Some e)) (same_find p q es h.1)

-- A search by a test that always fails finds nothing.
none_found : (es : List (ℕ × Task)) → find (λ e. false) es ≡ None
none_found [] = refl
none_found (e ∷ es) = none_found es

-- If an optional task passes a test, the task exists and the test is true of it.
pub passed : (test : Task → Bool) (o : Option Task) (t : Task) → passing test o ≡ Some t → (o ≡ Some t) × (test t ≡ true)
passed test None t h = cc h
passed test (Some x) t h =
    elim (test x) as (λ b. test x ≡ b → (if b then Some x else None) ≡ Some t → (let o : Option Task = Some x in o ≡ Some t) × (test t ≡ true)) [
      | true ↦ λ holds same. (same, (let is : x ≡ t = cc same in rw (← is) holds))
      | false ↦ λ fails none. cc none
    ] refl h

-- A task passes a test exactly if the test is true of it.
passes : (test : Task → Bool) (t : Task) → is_some (passing test (Some t)) ≡ test t
passes test t = elim (test t) as (λ b. is_some (let o : Option Task = if b then Some t else None in o) ≡ b) [ true ↦ refl | false ↦ refl ]

-- A task in an entry is found under its own pid.
own : (e : ℕ × Task) → task_with e.0 (Some e) ≡ Some e.1
own e = rw (itself e.0) refl

-- Whether an optional entry has this pid.
abbrev numbered : ℕ → Option (ℕ × Task) → Bool
numbered pid None = false
numbered pid (Some e) = e.0 == pid

-- An entry contains the task with a pid exactly if the entry has this pid.
has_number : (pid : ℕ) (o : Option (ℕ × Task)) → is_some (task_with pid o) ≡ numbered pid o
has_number pid None = refl
has_number pid (Some e) = elim (e.0 == pid) as (λ b. is_some (let o : Option Task = if b then Some e.1 else None in o) ≡ b) [ true ↦ refl | false ↦ refl ]

-- For each entry of the map, the task is running on a processor exactly if the list of running
-- tasks has its pid for that processor.
tests : (running : List (Option (ℕ × Task))) (tasks : Tasks) → IsIndex running tasks → (cpu : ℕ) (es : List (ℕ × Task)) → AllByRecursion (λ e. task_of tasks e.0 ≡ Some e.1) es → AllByRecursion (λ e. is_running_on cpu e.1 ≡ numbered e.0 (slice_index_or running cpu None)) es
tests running tasks index cpu [] h = tt
tests running tasks index cpu (e ∷ es) h =
    (sym (passes (is_running_on cpu) e.1) ∙ ap (λ o. is_some (passing (is_running_on cpu) o)) (sym h.0) ∙ ap is_some (index.each e.0 cpu) ∙ has_number e.0 (slice_index_or running cpu None), tests running tasks index cpu es h.1)

-- A task in the list of running tasks is live and running on the processor of its index.
pub in_place : (running : List (Option (ℕ × Task))) (tasks : Tasks) → IsIndex running tasks → (cpu : ℕ) (e : ℕ × Task) → slice_index_or running cpu None ≡ Some e → (task_of tasks e.0 ≡ Some e.1) × (is_running_on cpu e.1 ≡ true)
in_place running tasks index cpu e at = passed (is_running_on cpu) (task_of tasks e.0) e.1 (index.each e.0 cpu ∙ ap (task_with e.0) at ∙ own e)

-- A search for the pid of a list entry finds this entry.
search_place : (tasks : Tasks) (place : Option (ℕ × Task)) → IfSome place (λ e. task_of tasks e.0 ≡ Some e.1) → find (λ e. numbered e.0 place) (map.entries tasks) ≡ place
search_place tasks None h = none_found (map.entries tasks)
search_place tasks (Some e) h = by_number (map.entries tasks) e.0 ∙ ap (with_number e.0) (sym (map.get-entries tasks e.0) ∙ h)

-- A task in the list of running tasks is the live task with its pid.
there : (running : List (Option (ℕ × Task))) (tasks : Tasks) → IsIndex running tasks → (cpu : ℕ) (place : Option (ℕ × Task)) → slice_index_or running cpu None ≡ place → IfSome place (λ e. task_of tasks e.0 ≡ Some e.1)
there running tasks index cpu None at = tt
there running tasks index cpu (Some e) at = (in_place running tasks index cpu e at).0

-- The running task of a processor is the task at the processor's index in the list.
pub running_known : (running : List (Option (ℕ × Task))) (tasks : Tasks) → IsIndex running tasks → (cpu : ℕ) → running_on tasks cpu ≡ slice_index_or running cpu None
running_known running tasks index cpu =
    same_find (λ e. is_running_on cpu e.1) (λ e. numbered e.0 (slice_index_or running cpu None)) (map.entries tasks) (tests running tasks index cpu (map.entries tasks) (found tasks))
    ∙ search_place tasks (slice_index_or running cpu None) (there running tasks index cpu (slice_index_or running cpu None) refl)

-- A processor with an entry in the list is one of the list's indexes.
pub has_place : (running : List (Option (ℕ × Task))) (cpu : ℕ) (e : ℕ × Task) → slice_index_or running cpu None ≡ Some e → cpu < length running
has_place running cpu e at =
    let case : (cpu < length running) ⊎ (length running ≤ cpu) = grind arith in
    ⊎_elim (λ room. room) (λ past. cc (sym at ∙ get_or_past running cpu None past)) case

-- ---- changes keep the index

-- Numbers that pass the equality test are equal.
same_number : (q pid : ℕ) → (q == pid) ≡ true → q ≡ pid
same_number q pid h = grind (arith, nat_tests)

-- The equality test of two numbers is symmetric.
flipped : (q pid : ℕ) → (q == pid) ≡ (pid == q)
flipped q pid = grind (arith, nat_tests)

-- An entry contains a task only under the entry's own pid.
with_is : (q pid : ℕ) (t : Task) → task_with q (Some (pid, t)) ≡ cond (q == pid) (Some t) None
with_is q pid t = ap (λ b. cond b (Some t) None) (sym (flipped q pid))

-- Gives the task with a pid on a processor after a task (or `None`) was placed under another or the
-- same pid.
placed_on : (tasks : Tasks) (pid : ℕ) (new : Option Task) (q c : ℕ) → task_on (placed tasks pid new) q c ≡ cond (q == pid) (passing (is_running_on c) new) (task_on tasks q c)
placed_on tasks pid new q c =
    ap (passing (is_running_on c)) (task_placed tasks pid new q)
    ∙ elim (q == pid) as (λ b. passing (is_running_on c) (cond b new (task_of tasks q)) ≡ cond b (passing (is_running_on c) new) (task_on tasks q c)) [ true ↦ refl | false ↦ refl ]

-- The optional task is running on no processor.
abbrev pub IsOff : Option Task → Type 0
IsOff o = (c : ℕ) → passing (is_running_on c) o ≡ None

-- If neither the old task with a pid nor its new state is running on a processor, the entry of this
-- processor stays correct.
stays : (tasks : Tasks) (pid : ℕ) (new : Option Task) (place : Option (ℕ × Task)) (c : ℕ) → passing (is_running_on c) (task_of tasks pid) ≡ None → passing (is_running_on c) new ≡ None → ((q : ℕ) → task_on tasks q c ≡ task_with q place) → (q : ℕ) → task_on (placed tasks pid new) q c ≡ task_with q place
stays tasks pid new place c old_off new_off each q =
    placed_on tasks pid new q c
    ∙ elim (q == pid) as (λ b. (q == pid) ≡ b → cond b (passing (is_running_on c) new) (task_on tasks q c) ≡ task_with q place) [
      | true ↦ λ h. new_off ∙ sym old_off ∙ sym (ap (λ k. task_on tasks k c) (same_number q pid h)) ∙ each q
      | false ↦ λ h. each q
    ] refl

-- The list stays correct if a task that isn't running is added, changed or removed.
pub index_kept : (running : List (Option (ℕ × Task))) (tasks : Tasks) → IsIndex running tasks → (pid : ℕ) (new : Option Task) → IsOff (task_of tasks pid) → IsOff new → IsIndex running (placed tasks pid new)
index_kept running tasks index pid new old_off new_off = record {
  each = λ q c. stays tasks pid new (slice_index_or running c None) c (old_off c) (new_off c) (λ k. index.each k c) q;
}

-- `ChangesAt running tasks pid new cpu place`: replacing the task with a pid by `new` changes only
-- the entry of processor `cpu`, to `place`. No other task is running there, and neither the old nor
-- the new task is running on another processor.
pub record ChangesAt (running : List (Option (ℕ × Task))) (tasks : Tasks) (pid : ℕ) (new : Option Task) (cpu : ℕ) (place : Option (ℕ × Task)) : Type 0 where
  pub room : cpu < length running
  pub free : (q : ℕ) → (q == pid) ≡ false → task_with q (slice_index_or running cpu None) ≡ None
  pub here : (q : ℕ) → cond (q == pid) (passing (is_running_on cpu) new) None ≡ task_with q place
  pub old_off : (c : ℕ) → (c == cpu) ≡ false → passing (is_running_on c) (task_of tasks pid) ≡ None
  pub new_off : (c : ℕ) → (c == cpu) ≡ false → passing (is_running_on c) new ≡ None

-- The list stays correct if one entry is updated for the changed task (`ChangesAt`).
pub index_at : (running : List (Option (ℕ × Task))) (tasks : Tasks) → IsIndex running tasks → (pid : ℕ) (new : Option Task) (cpu : ℕ) (place : Option (ℕ × Task)) → ChangesAt running tasks pid new cpu place → IsIndex (slice_set running cpu place) (placed tasks pid new)
index_at running tasks index pid new cpu place is = record {
  each = λ q c. ⊎_elim
      (λ same. rw (same.1, get_or-set_same running cpu place None is.room)
      (placed_on tasks pid new q cpu
      ∙ elim (q == pid) as (λ b. (q == pid) ≡ b → cond b (passing (is_running_on cpu) new) (task_on tasks q cpu) ≡ cond b (passing (is_running_on cpu) new) None) [
        | true ↦ λ h. refl
        | false ↦ λ h. index.each q cpu ∙ is.free q h
      ] refl
      ∙ is.here q))
      (λ other. rw (get_or-set_other running cpu c place None other.1) (stays tasks pid new (slice_index_or running c None) c (is.old_off c other.0) (is.new_off c other.0) (λ k. index.each k c) q))
      (eqb_tells c cpu);
}

-- ---- the changes of a switch and of a task that keeps its processor

-- A conjunction with a false second part is false.
pub and_false : (a b : Bool) → b ≡ false → (a && b) ≡ false
and_false true b h = h
and_false false b h = refl

-- A task for which a test is false doesn't pass the test.
fails : (test : Task → Bool) (t : Task) → test t ≡ false → passing test (Some t) ≡ None
fails test t h = rw h refl

-- A task for which a test is true passes the test.
holds : (test : Task → Bool) (t : Task) → test t ≡ true → passing test (Some t) ≡ Some t
holds test t h = rw h refl

-- A task whose mode isn't running is running on no processor.
pub off_task : (t : Task) → is_running t.mode ≡ false → IsOff (Some t)
off_task t off c = fails (is_running_on c) t (and_false (t.cpu.0 == c) (is_running t.mode) off)

-- A found task whose mode isn't running is running on no processor.
pub off_found : (o : Option Task) (t : Task) → o ≡ Some t → is_running t.mode ≡ false → IsOff o
off_found o t is off c = ap (passing (is_running_on c)) is ∙ off_task t off c

-- A missing task is running on no processor.
pub off_none : (o : Option Task) → o ≡ None → IsOff o
off_none o is c = ap (passing (is_running_on c)) is

-- A task that is running on one processor isn't running on another.
one_place : (t : Task) (c cpu : ℕ) → is_running_on cpu t ≡ true → (c == cpu) ≡ false → is_running_on c t ≡ false
one_place t c cpu h n = grind (arith, nat_tests)

-- The list stays correct if the task in an entry leaves its processor and the entry becomes empty.
pub index_off : (running : List (Option (ℕ × Task))) (tasks : Tasks) → IsIndex running tasks → (cpu : ℕ) (e : ℕ × Task) → slice_index_or running cpu None ≡ Some e → (new : Option Task) → IsOff new → IsIndex (slice_set running cpu None) (placed tasks e.0 new)
index_off running tasks index cpu e at new off =
    let is = in_place running tasks index cpu e at in
    index_at running tasks index e.0 new cpu None (record {
      room = has_place running cpu e at;
      free = λ q h. ap (task_with q) at ∙ with_is q e.0 e.1 ∙ ap (λ b. cond b (Some e.1) None) h;
      here = λ q. elim (q == e.0) as (λ b. cond b (passing (is_running_on cpu) new) None ≡ None) [ true ↦ off cpu | false ↦ refl ];
      old_off = λ c h. ap (passing (is_running_on c)) is.0 ∙ fails (is_running_on c) e.1 (one_place e.1 c cpu is.1 h);
      new_off = λ c h. off c;
    })

-- An entry with a running task gives this task for its pid, and no task for another pid.
shown_here : (pid cpu : ℕ) (t : Task) → is_running_on cpu t ≡ true → (q : ℕ) → cond (q == pid) (passing (is_running_on cpu) (Some t)) None ≡ task_with q (Some (pid, t))
shown_here pid cpu t runs q = ap (λ o. cond (q == pid) o None) (holds (is_running_on cpu) t runs) ∙ sym (with_is q pid t)

-- The list stays correct if a task starts on an idle processor.
pub index_on : (running : List (Option (ℕ × Task))) (tasks : Tasks) → IsIndex running tasks → (cpu pid : ℕ) (new : Task) → cpu < length running → slice_index_or running cpu None ≡ None → IsOff (task_of tasks pid) → is_running_on cpu new ≡ true → IsIndex (slice_set running cpu (Some (pid, new))) (put tasks pid new)
index_on running tasks index cpu pid new room at off runs =
    index_at running tasks index pid (Some new) cpu (Some (pid, new)) (record {
      room = room;
      free = λ q h. ap (task_with q) at;
      here = shown_here pid cpu new runs;
      old_off = λ c h. off c;
      new_off = λ c h. fails (is_running_on c) new (one_place new c cpu runs h);
    })

-- The entry of a processor contains the task that is running there.
placed_there : (running : List (Option (ℕ × Task))) (tasks : Tasks) → IsIndex running tasks → (cpu pid : ℕ) (t : Task) → task_of tasks pid ≡ Some t → is_running_on cpu t ≡ true → (place : Option (ℕ × Task)) → slice_index_or running cpu None ≡ place → place ≡ Some (pid, t)
placed_there running tasks index cpu pid t is runs None at = cc (sym (holds (is_running_on cpu) t runs) ∙ ap (passing (is_running_on cpu)) (sym is) ∙ index.each pid cpu ∙ ap (task_with pid) at)
placed_there running tasks index cpu pid t is runs (Some e) at =
    let has : cond (pid == e.0) (Some e.1) None ≡ Some t = sym (with_is pid e.0 e.1) ∙ sym (ap (task_with pid) at) ∙ sym (index.each pid cpu) ∙ ap (passing (is_running_on cpu)) is ∙ holds (is_running_on cpu) t runs in
    elim (pid == e.0) as (λ b. (pid == e.0) ≡ b → cond b (Some e.1) None ≡ Some t → Some e ≡ Some (pid, t)) [
      | true ↦ λ h same. (let task : e.1 ≡ t = cc same in rw (same_number pid e.0 h, ← task) refl)
      | false ↦ λ h none. cc none
    ] refl has

-- The list stays correct if a task is replaced by a task that is running on the same processor, or
-- if neither task is running.
pub index_replaced : (running : List (Option (ℕ × Task))) (tasks : Tasks) → IsIndex running tasks → (pid : ℕ) (old new : Task) → task_of tasks pid ≡ Some old → ((c : ℕ) → is_running_on c new ≡ is_running_on c old) → IsIndex (if is_running new.mode then slice_set running new.cpu.0 (Some (pid, new)) else running) (put tasks pid new)
index_replaced running tasks index pid old new is same =
    elim (is_running new.mode) as (λ b. is_running new.mode ≡ b → IsIndex (if b then slice_set running new.cpu.0 (Some (pid, new)) else running) (put tasks pid new)) [
      | true ↦ λ runs.
          let here : is_running_on new.cpu.0 new ≡ true = rw (itself new.cpu.0) runs in
          let at = placed_there running tasks index new.cpu.0 pid old is (sym (same new.cpu.0) ∙ here) (slice_index_or running new.cpu.0 None) refl in
          index_at running tasks index pid (Some new) new.cpu.0 (Some (pid, new)) (record {
            room = has_place running new.cpu.0 (pid, old) at;
            free = λ q h. ap (task_with q) at ∙ with_is q pid old ∙ ap (λ b. cond b (Some old) None) h;
            here = shown_here pid new.cpu.0 new here;
            old_off = λ c h. ap (passing (is_running_on c)) is ∙ fails (is_running_on c) old (sym (same c) ∙ one_place new c new.cpu.0 here h);
            new_off = λ c h. fails (is_running_on c) new (one_place new c new.cpu.0 here h);
          })
      | false ↦ λ off.
          let new_off = off_task new off in
          index_kept running tasks index pid (Some new) (λ c. ap (passing (is_running_on c)) is ∙ fails (is_running_on c) old (sym (same c) ∙ and_false (new.cpu.0 == c) (is_running new.mode) off)) new_off
    ] refl

-- The list has an entry for the processor of such a task.
pub replaced_room : (running : List (Option (ℕ × Task))) (tasks : Tasks) → IsIndex running tasks → (pid : ℕ) (old new : Task) → task_of tasks pid ≡ Some old → ((c : ℕ) → is_running_on c new ≡ is_running_on c old) → is_running new.mode ≡ true → new.cpu.0 < length running
replaced_room running tasks index pid old new is same runs =
    let here : is_running_on new.cpu.0 new ≡ true = rw (itself new.cpu.0) runs in
    has_place running new.cpu.0 (pid, old) (placed_there running tasks index new.cpu.0 pid old is (sym (same new.cpu.0) ∙ here) (slice_index_or running new.cpu.0 None) refl)

-- A list without running tasks is correct for a map without tasks.
pub index_first : (running : List (Option (ℕ × Task))) → ((i : ℕ) → slice_index_or running i None ≡ None) → IsIndex running no_tasks
index_first running none = record {
  each = λ pid cpu. ap (passing (is_running_on cpu)) (map.get-empty nat_cmp pid) ∙ ap (task_with pid) (sym (none cpu));
}

-- ---- which tasks run

-- A task that starts on its own processor is running there.
pub starts : (t : Task) (cpu : ℕ) → t.cpu.0 ≡ cpu → is_running_on cpu (record t { mode = Running }) ≡ true
starts t cpu same = rw (same, itself cpu) refl

-- A legal switch with a running task never uses the way `idle`.
pub not_idle : (how : How) (e : ℕ × Task) → is_wrong how (Some e) ≡ false → how ≡ Idle → ⊥
not_idle how e right idle = let wrong : true ≡ false = rw idle at right in cc wrong

-- A ready task isn't running.
pub ready_still : (m : Mode) → is_ready m ≡ true → is_running m ≡ false
ready_still Running h = cc h
ready_still Ready h = refl
ready_still Blocked h = refl
ready_still Waiting h = refl

-- A task that passes the test for being ready on a processor is ready and on that processor.
ready_there : (o : Option Task) (cpu : ℕ) → is_some_and o (is_ready_on cpu) ≡ true → IfSome o (λ t. (t.cpu.0 ≡ cpu) × (is_ready t.mode ≡ true))
ready_there None cpu h = tt
ready_there (Some t) cpu h = (grind (arith, nat_tests), grind (arith, nat_tests))

-- A next task that is ready on a processor has this processor and the mode ready.
pub next_ready : (cpu : ℕ) (next : Option Pid) (tasks : Tasks) → IfSome next (λ _. is_some_and (next_task tasks next) (is_ready_on cpu) ≡ true) → IfSome (next_task tasks next) (λ t. (t.cpu.0 ≡ cpu) × (is_ready t.mode ≡ true))
next_ready cpu None tasks h = tt
next_ready cpu (Some pid) tasks h = ready_there (task_of tasks pid.0) cpu h

-- The next task is the same before and after the running task leaves the processor.
pub next_stays : (cpu : ℕ) (next : Option Pid) (tasks : Tasks) (how : How) → IfSome next (λ _. is_some_and (next_task tasks next) (is_ready_on cpu) ≡ true) → next_task (leave how tasks (running_on tasks cpu)) next ≡ next_task tasks next
next_stays cpu None tasks how h = refl
next_stays cpu (Some pid) tasks how h = ready_left tasks cpu how pid.0 h (running_on tasks cpu) refl
