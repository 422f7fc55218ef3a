-- Proofs about the events that create groups and tasks: each can be written as a trace line and is
-- legal, and after them all tasks are live.
use Rattle.std.proofs.Common.{◌≡◌, ◌≢◌, ℕ, zero, suc, ◌+◌, ◌-◌, ◌*◌, ◌/◌, ◌%◌, ◌^◌, ◌<◌, ◌≤◌, List, [], ◌∷◌, ◌++◌, refl, ◌∙◌, subst, arith, cond, true, false, Option, None, Some, ◌==◌, length, map, ◌⊎◌, ⊎_elim}
use Rattle.std.specs.Prelude.{is_some, nat_le, IfSome, IsSome, if◌then◌else◌, codes}
use Rattle.std.specs.List.{range_with_len}
use Rattle.std.specs.Str.{bytes_eq}
use Rattle.std.specs.FinMap as tasks_by
use Rattle.std.specs.Ordering.{nat_cmp}
use Rattle.std.specs.Cmp.{nat_cmp_total}
use Rattle.std.proofs.Math.Nat.{mod-lt}
use Rattle.std.proofs.lemmas.Bool.Decides.{nat_tests}
use Rattle.std.proofs.lemmas.List.{length-append}
use Rattle.psi_base.specs.Path.{is_path}
use Rattle.psi_base.specs.declared.event.Event.{Event}
use Rattle.psi_spec.specs.declared.machine.GroupLife.{GroupLife}
use Rattle.psi_spec.specs.declared.machine.Task.{Task}
use Rattle.psi_spec.specs.Grammar as verb
use Rattle.psi_spec.specs.Grammar.{Fits, IsKnown, first_verbs}
use Rattle.psi_spec.specs.Refusal.{cause_of}
use Rattle.psi_spec.specs.World.{Limits, Tasks, World, after, after_event, after_from, first_world, new_group, new_task, no_tasks, parent_path, put, slot_of, task_of}
use Rattle.psi_spec.proofs.Following.{after_from-append}
use Rattle.trace_laws.proofs.GrammarReads.{found_first}
use Rattle.psi_spec.proofs.GroupLaws.{bytes_itself, found_in_suffix, first_of_two}
use Rattle.psi_spec.proofs.TaskLaws.{get_put}
use Rattle.run_spec.specs.declared.command.Shape.{Shape}
use Rattle.run_spec.specs.Generated.{at_start, first_events, home_of, made_group, made_task, numbered_path, task_count}
use Rattle.run_spec.specs.LegalCommand.{IsShape}
use Rattle.task_table.proofs.CauseLaws.{first_of_act}
use Rattle.task_table.specs.Stands.{TableView}
use Rattle.trace_gen.specs.Generating.{IsGenerating, limits_in, made_groups}
use Rattle.trace_gen.proofs.Following.{Go, go_on, go_then}
use Rattle.trace_gen.proofs.Naming.{numbered_apart, numbered_is_path, numbered_parent}

-- ---- numbered events in sequence

-- An event that can be written as a trace line and is legal in world `w`. If `Holds` is true for
-- its number before it, `Holds` is true for the next number after it.
record IsGood (limits : Limits) (Holds : ℕ → World → Type 0) (number : ℕ) (w : World) (event : Event) : Type 0 where
  fits : Fits event
  known : IsKnown first_verbs event
  legal : cause_of limits w event ≡ None
  later : Holds (number + 1) (after_event w event)

-- The result for numbered events up to `end`: they can be written as trace lines and are legal, and
-- `Holds` is true for `end` after them.
record InRow (limits : Limits) (Holds : ℕ → World → Type 0) (end : ℕ) (w : World) (events : List Event) : Type 0 where
  go : Go limits w events
  later : Holds end (after_from w events)

in_row : (limits : Limits) (Holds : ℕ → World → Type 0) (end : ℕ) (make : ℕ → Event) → ((number : ℕ) (w : World) → number < end → Holds number w → IsGood limits Holds number w (make number))
    → (count from : ℕ) → from + count ≡ end → (w : World) → Holds from w → InRow limits Holds end w (map make (range_with_len from count))
in_row limits Holds end make good zero from all w so =
    let same : from ≡ end = omega (arith, all) in record { go = record { fit = tt; known = tt; legal = tt }; later = subst (λ n. Holds n w) same so }
in_row limits Holds end make good (suc count) from all w so =
    let one = good from w (omega (arith, all)) so in
    let rest = in_row limits Holds end make good count (from + 1) (omega (arith, all)) (after_event w (make from)) one.later in
    record { go = go_then limits w (make from) (map make (range_with_len (from + 1) count)) one.fits one.known one.legal rest.go; later = rest.later }

-- ---- groups

-- The invariant of the world after the groups with numbers below `number` were created, and no
-- task.
record HasGroups (shape : Shape) (number : ℕ) (w : World) : Type 0 where
  root : is_some (slot_of w.groups (codes "/")) ≡ true
  made : (i : ℕ) → i < number → is_some (slot_of w.groups (numbered_path i)) ≡ true
  fresh : (i : ℕ) → number ≤ i → i < shape.groups → slot_of w.groups (numbered_path i) ≡ None
  count : length w.groups ≡ number + 1
  tasks : w.tasks ≡ no_tasks
  lines : w.lines ≡ number
  last : w.last ≡ 0
  going : w.ended ≡ false

-- The first of two options is chosen if it has a value.
chosen_first : (first other : Option ℕ) → is_some first ≡ true → is_some (first_of_two first other) ≡ true
chosen_first (Some slot) other h = refl
chosen_first None other h = cc h

-- If both options are `None`, nothing is chosen.
neither : (first other : Option ℕ) → first ≡ None → other ≡ None → first_of_two first other ≡ None
neither None other h k = k
neither (Some slot) other h k = cc h

-- A path that is found is still found after a group is appended.
still_found : (groups : List GroupLife) (group : GroupLife) (path : List ℕ) → is_some (slot_of groups path) ≡ true → is_some (slot_of (groups ++ group ∷ []) path) ≡ true
still_found groups group path h = rw (found_in_suffix 0 groups group path) (chosen_first (slot_of groups path) _ h)

-- A number below `number + 1` is below `number` or equal to it.
below_next : (i number : ℕ) → i < number + 1 → (i < number) ⊎ (i ≡ number)
below_next i number h = grind arith

-- The path of a new group is found.
new_found : (groups : List GroupLife) (path : List ℕ) (at : ℕ) → slot_of groups path ≡ None → is_some (slot_of (groups ++ new_group groups path at ∷ []) path) ≡ true
new_found groups path at fresh = rw (found_in_suffix 0 groups (new_group groups path at) path, fresh, bytes_itself path) refl

-- Another path that isn't found is still not found after a group is appended.
others_fresh : (groups : List GroupLife) (path other : List ℕ) (at : ℕ) → slot_of groups other ≡ None → bytes_eq path other ≡ false → slot_of (groups ++ new_group groups path at ∷ []) other ≡ None
others_fresh groups path other at fresh apart = rw (found_in_suffix 0 groups (new_group groups path at) other, fresh, apart) refl

group_good : (shape : Shape) → IsShape shape → (number : ℕ) (w : World) → number < shape.groups → HasGroups shape number w → IsGood (limits_in shape) (HasGroups shape) number w (at_start (made_group number))
group_good shape shaped number w room so =
    let few = shaped.groups in
    let fits : number < 2 ^ 64 = omega (arith, few, room) in
    let count = so.count in
    let lines = so.lines in
    let last = so.last in
    let path = numbered_path number in
    let fresh : slot_of w.groups path ≡ None = so.fresh number (omega arith) room in
    let free : nat_le 1024 (length w.groups) ≡ false = grind (arith, nat_tests) in
    let parent : is_some (slot_of w.groups (parent_path path)) ≡ true = rw (numbered_parent number fits) so.root in
    let group = new_group w.groups path 0 in
    record {
      fits = record { at = omega arith; act = (numbered_is_path number fits, tt) };
      known = found_first verb.Group refl;
      legal = first_of_act (limits_in shape) w (at_start (made_group number)) so.going (omega (arith, last)) (omega arith) (omega (arith, lines, few, room)) ∙ rw (free, fresh, parent) refl;
      later = record {
        root = still_found w.groups group (codes "/") so.root;
        made = λ i below. ⊎_elim
            (λ less. still_found w.groups group (numbered_path i) (so.made i less))
            (λ same. rw same (new_found w.groups path 0 fresh))
            (below_next i number below);
        fresh = λ i low high. others_fresh w.groups path (numbered_path i) 0 (so.fresh i (omega (arith, low)) high)
            (numbered_apart number i fits (omega (arith, few, high)) (λ same. absurd (omega (arith, same, low))));
        count = omega (arith, count, length-append w.groups (group ∷ []));
        tasks = so.tasks;
        lines = omega (arith, lines);
        last = refl;
        going = rw so.going refl;
      };
    }

-- ---- tasks

-- The invariant of the world after all groups were created, and the tasks with numbers below
-- `number`.
record HasTasks (shape : Shape) (number : ℕ) (w : World) : Type 0 where
  low : 1 ≤ number
  root : is_some (slot_of w.groups (codes "/")) ≡ true
  groups : (i : ℕ) → i < shape.groups → is_some (slot_of w.groups (numbered_path i)) ≡ true
  live : (pid : ℕ) → 1 ≤ pid → pid < number → IsSome (task_of w.tasks pid)
  fresh : (pid : ℕ) → number ≤ pid → task_of w.tasks pid ≡ None
  within : (pid : ℕ) → IfSome (task_of w.tasks pid) (λ task. task.cpu.0 < shape.cpus)
  few : tasks_by.len w.tasks ≤ number
  lines : w.lines + 1 ≡ shape.groups + number
  last : w.last ≡ 0
  going : w.ended ≡ false

-- Adding a task increases the number of tasks by at most 1.
one_more : (tasks : Tasks) (pid : ℕ) (task : Task) → tasks_by.len (put tasks pid task) ≤ tasks_by.len tasks + 1
one_more tasks pid task =
    rw (tasks_by.len-insert nat_cmp_total tasks pid task)
    (elim (tasks_by.contains_key tasks pid) as (λ b. cond b (tasks_by.len tasks) (tasks_by.len tasks + 1) ≤ tasks_by.len tasks + 1) [ true ↦ omega arith | false ↦ omega arith ])

-- Adding a task doesn't add a task under another number.
none_there : (tasks : Tasks) (pid : ℕ) (task : Task) (q : ℕ) → task_of tasks q ≡ None → q ≢ pid → task_of (put tasks pid task) q ≡ None
none_there tasks pid task q none apart =
    let other : (q == pid) ≡ false = grind (arith, nat_tests, apart) in
    get_put tasks pid task q ∙ rw (other, none) refl

-- The added task is found under its number.
one_there : (tasks : Tasks) (pid : ℕ) (task : Task) (q : ℕ) → q ≡ pid → IsSome (task_of (put tasks pid task) q)
one_there tasks pid task q same =
    let it : (q == pid) ≡ true = grind (arith, nat_tests) in
    rw (get_put tasks pid task q, it) refl

-- Every task is still found after a task is added.
lives_on : (tasks : Tasks) (pid : ℕ) (task : Task) (q : ℕ) → IsSome (task_of tasks q) → IsSome (task_of (put tasks pid task) q)
lives_on tasks pid task q lived =
    rw (get_put tasks pid task q) (elim (q == pid) as (λ b. IsSome (cond b (Some task) (task_of tasks q))) [ true ↦ refl | false ↦ lived ])

-- After a task on an existing processor is added, every task is on an existing processor.
all_within : (cpus : ℕ) (tasks : Tasks) (pid : ℕ) (task : Task) → task.cpu.0 < cpus → ((q : ℕ) → IfSome (task_of tasks q) (λ task. task.cpu.0 < cpus)) → (q : ℕ) → IfSome (task_of (put tasks pid task) q) (λ task. task.cpu.0 < cpus)
all_within cpus tasks pid task room within q =
    rw (get_put tasks pid task q) (elim (q == pid) as (λ b. IfSome (cond b (Some task) (task_of tasks q)) (λ task. task.cpu.0 < cpus)) [ true ↦ room | false ↦ within q ])

-- A number that isn't 0 is positive.
some_groups : (n : ℕ) → (n == 0) ≡ false → 0 < n
some_groups n other = grind (arith, nat_tests)

-- The group of a task was created.
home_found : (shape : Shape) (groups : List GroupLife) → is_some (slot_of groups (codes "/")) ≡ true → ((i : ℕ) → i < shape.groups → is_some (slot_of groups (numbered_path i)) ≡ true) → (pid : ℕ) → is_some (slot_of groups (home_of shape pid)) ≡ true
home_found shape groups root made pid =
    elim (shape.groups == 0) as (λ b. (shape.groups == 0) ≡ b → is_some (slot_of groups (if b then codes "/" else numbered_path ((pid - 1) % shape.groups))) ≡ true) [
      | true ↦ λ _. root
      | false ↦ λ other. made ((pid - 1) % shape.groups) (mod-lt (pid - 1) (some_groups shape.groups other))
    ] refl

-- The path of the root is a path.
root_is_path : is_path (codes "/") ≡ true
unfolding is_path
root_is_path = refl

-- The path of a task's group is a path.
home_is_path : (shape : Shape) → shape.groups ≤ 1000 → (pid : ℕ) → is_path (home_of shape pid) ≡ true
home_is_path shape few pid =
    elim (shape.groups == 0) as (λ b. (shape.groups == 0) ≡ b → is_path (if b then codes "/" else numbered_path ((pid - 1) % shape.groups)) ≡ true) [
      | true ↦ λ _. root_is_path
      | false ↦ λ other.
          let below : (pid - 1) % shape.groups < shape.groups = mod-lt (pid - 1) (some_groups shape.groups other) in
          numbered_is_path ((pid - 1) % shape.groups) (omega (arith, few, below))
    ] refl

-- A number below `number + 1` is below `number` or equal to it.
lower : (pid number : ℕ) → pid < number + 1 → (pid < number) ⊎ (pid ≡ number)
lower pid number h = grind arith

-- A fourth of a number below `4 * cpus` is below `cpus`.
fourth : (pid cpus : ℕ) → 1 ≤ pid → pid < 4 * cpus + 1 → (pid - 1) / 4 < cpus
fourth pid cpus low high = omega arith

task_good : (shape : Shape) → IsShape shape → (pid : ℕ) (w : World) → pid < task_count shape + 1 → HasTasks shape pid w → IsGood (limits_in shape) (HasTasks shape) pid w (at_start (made_task shape pid))
task_good shape shaped pid w room so =
    let processors = shaped.cpus.1 in
    let groups = shaped.groups in
    let low = so.low in
    let few = so.few in
    let lines = so.lines in
    let last = so.last in
    let place : (pid - 1) / 4 < shape.cpus = fourth pid shape.cpus low room in
    let free : nat_le 65536 (tasks_by.len w.tasks) ≡ false = grind (arith, nat_tests) in
    let there : nat_le shape.cpus ((pid - 1) / 4) ≡ false = grind (arith, nat_tests) in
    let found = home_found shape w.groups so.root so.groups pid in
    let fresh = so.fresh pid (omega arith) in
    let task = new_task w.groups (home_of shape pid) ((pid - 1) / 4) in
    let more = one_more w.tasks pid task in
    record {
      fits = record { at = omega arith; act = ((omega (arith, low), omega (arith, room, processors)), (home_is_path shape groups pid, (omega (arith, place, processors), tt))) };
      known = found_first verb.Fork refl;
      legal = first_of_act (limits_in shape) w (at_start (made_task shape pid)) so.going (omega (arith, last)) (omega arith) (omega (arith, lines, room, processors, groups)) ∙ rw (free, found, fresh, there) refl;
      later = record {
        low = omega arith;
        root = so.root;
        groups = so.groups;
        live = λ q from below. ⊎_elim
            (λ less. lives_on w.tasks pid task q (so.live q from less))
            (λ same. one_there w.tasks pid task q same)
            (lower q pid below);
        fresh = λ q from. none_there w.tasks pid task q (so.fresh q (omega (arith, from))) (λ same. absurd (omega (arith, same, from)));
        within = all_within shape.cpus w.tasks pid task place so.within;
        few = omega (arith, more, few);
        lines = omega (arith, lines);
        last = refl;
        going = rw so.going refl;
      };
    }

-- ---- all first events

-- The invariant of groups holds before the first event.
no_groups : (shape : Shape) → IsShape shape → HasGroups shape 0 first_world
no_groups shape shaped = record {
  root = refl;
  made = λ i below. absurd (omega (arith, below));
  fresh = λ i low high. refl;
  count = refl;
  tasks = refl;
  lines = refl;
  last = refl;
  going = refl;
}

-- No task is found in the empty map.
none_yet : (tasks : Tasks) → tasks ≡ no_tasks → (q : ℕ) → task_of tasks q ≡ None
none_yet tasks none q = rw none (tasks_by.get-empty nat_cmp q)

-- The invariant of tasks holds after the last group and before the first task.
groups_made : (shape : Shape) (w : World) → HasGroups shape shape.groups w → HasTasks shape 1 w
groups_made shape w so =
    let lines = so.lines in
    record {
      low = omega arith;
      root = so.root;
      groups = so.made;
      live = λ q low below. absurd (omega (arith, low, below));
      fresh = λ q low. none_yet w.tasks so.tasks q;
      within = λ q. rw (none_yet w.tasks so.tasks q) tt;
      few = rw so.tasks (omega (arith, tasks_by.len-empty nat_cmp Task));
      lines = omega (arith, lines);
      last = so.last;
      going = so.going;
    }

-- The invariant of generated traces holds after the last task.
tasks_made : (shape : Shape) (w : World) → HasTasks shape (1 + task_count shape) w → IsGenerating shape 0 w
tasks_made shape w so =
    let lines = so.lines in
    let last = so.last in
    record {
      tasks = record { live = λ q low high. so.live q low (omega (arith, high)); within = so.within };
      lines = omega (arith, lines);
      last = omega (arith, last);
      going = so.going;
    }

-- The event that creates the next group is legal after those that created the previous groups.
group_turn : (shape : Shape) → IsShape shape → (number : ℕ) → number < shape.groups → cause_of (limits_in shape) (after_from first_world (made_groups shape number)) (at_start (made_group number)) ≡ None
group_turn shape shaped number room =
    let so = in_row (limits_in shape) (HasGroups shape) number (λ i. at_start (made_group i)) (λ i w below. group_good shape shaped i w (omega (arith, below, room))) number 0 (omega arith) first_world (no_groups shape shaped) in
    (group_good shape shaped number (after_from first_world (made_groups shape number)) room so.later).legal

-- The event that creates the next task is legal after those that created all groups and the
-- previous tasks.
task_turn : (shape : Shape) → IsShape shape → (pid : ℕ) → pid < task_count shape → cause_of (limits_in shape) (after_from first_world (made_groups shape shape.groups ++ map (λ i. at_start (made_task shape i)) (range_with_len 1 pid))) (at_start (made_task shape (pid + 1))) ≡ None
task_turn shape shaped pid room =
    let groups = made_groups shape shape.groups in
    let first = in_row (limits_in shape) (HasGroups shape) shape.groups (λ i. at_start (made_group i)) (group_good shape shaped) shape.groups 0 (omega arith) first_world (no_groups shape shaped) in
    let second = in_row (limits_in shape) (HasTasks shape) (pid + 1) (λ i. at_start (made_task shape i))
    (λ i w below. task_good shape shaped i w (omega (arith, below, room))) pid 1 (omega arith) (after_from first_world groups) (groups_made shape (after_from first_world groups) first.later) in
    let tasks = map (λ i. at_start (made_task shape i)) (range_with_len 1 pid) in
    rw (after_from-append first_world groups tasks) (task_good shape shaped (pid + 1) (after_from (after_from first_world groups) tasks) (omega (arith, room)) second.later).legal

-- The next group's event is legal for a table that has played the events before it; so is the next
-- task's event.
pub group_legal : (shape : Shape) → IsShape shape → (number : ℕ) → number < shape.groups → (table : TableView) (events : List Event) (event : Event) → table.limits ≡ limits_in shape → table.world ≡ after events → events ≡ made_groups shape number → event ≡ at_start (made_group number) → cause_of table.limits table.world event ≡ None
group_legal shape shaped number room table events event limits world are is = rw (limits, world, are, is) (group_turn shape shaped number room)

pub task_legal : (shape : Shape) → IsShape shape → (pid : ℕ) → pid < task_count shape → (table : TableView) (events : List Event) (event : Event) → table.limits ≡ limits_in shape → table.world ≡ after events → events ≡ made_groups shape shape.groups ++ map (λ i. at_start (made_task shape i)) (range_with_len 1 pid) → event ≡ at_start (made_task shape (pid + 1)) → cause_of table.limits table.world event ≡ None
task_legal shape shaped pid room table events event limits world are is = rw (limits, world, are, is) (task_turn shape shaped pid room)

-- The events that create all groups and tasks can be written as trace lines and are legal from the
-- first world, and the invariant of generated traces holds after them.
pub record AreFounded (shape : Shape) : Type 0 where
  pub go : Go (limits_in shape) first_world (first_events shape)
  pub later : IsGenerating shape 0 (after_from first_world (first_events shape))

pub founded : (shape : Shape) → IsShape shape → AreFounded shape
founded shape shaped =
    let groups = map (λ number. at_start (made_group number)) (range_with_len 0 shape.groups) in
    let tasks = map (λ pid. at_start (made_task shape pid)) (range_with_len 1 (task_count shape)) in
    let first = in_row (limits_in shape) (HasGroups shape) shape.groups (λ number. at_start (made_group number)) (group_good shape shaped) shape.groups 0 (omega arith) first_world (no_groups shape shaped) in
    let second = in_row (limits_in shape) (HasTasks shape) (1 + task_count shape) (λ pid. at_start (made_task shape pid))
    (λ pid w below. task_good shape shaped pid w (omega (arith, below))) (task_count shape) 1 refl (after_from first_world groups) (groups_made shape (after_from first_world groups) first.later) in
    record {
      go = go_on (limits_in shape) first_world groups tasks first.go second.go;
      later = rw (after_from-append first_world groups tasks) (tasks_made shape (after_from (after_from first_world groups) tasks) second.later);
    }
