-- Proves properties of the pids of the killed tasks, and of the dead tasks among them.
use Rattle.std.proofs.Common.{◌≡◌, ℕ, ◌≤◌, ◌<◌, List, [], ◌∷◌, refl, ap, ◌∙◌, sym, subst, arith, cond, Bool, true, false, Option, None, Some, ◌==◌, map, ⊎_elim, ◌⊎◌}
use Rattle.std.specs.Prelude.{T, ◌&&◌, ◌||◌, filter, is_some, not}
use Rattle.std.specs.List.{AllByRecursion, list_any}
use Rattle.std.specs.List.Sorted.{IsStrictlySortedBy}
use Rattle.std.specs.BTreeMap.{is_at}
use Rattle.std.specs.Set.{remove_key}
use Rattle.std.specs.Ordering.{is_lt, nat_cmp}
use Rattle.std.specs.Cmp.{unsigned_tied}
use Rattle.std.specs.FinMap as tasks_by
use Rattle.std.specs.declared.cmp.Ordering.TheVariants.{Less}
use Rattle.std.proofs.lemmas.Bool.Decides.{eqb_tells, nat_tests}
use Rattle.psi_base.specs.declared.event.Act.{Act}
use Rattle.psi_base.specs.declared.event.Act.TheVariants as act
use Rattle.psi_base.specs.declared.event.Event.{Event}
use Rattle.psi_base.specs.declared.event.How.{How}
use Rattle.psi_base.specs.declared.event.Pid.{Pid}
use Rattle.psi_base.specs.Missing.{is_some_and}
use Rattle.psi_spec.specs.declared.machine.Task.{Task}
use Rattle.psi_spec.specs.Stall.{is_under, parents_of}
use Rattle.psi_spec.specs.World.{Tasks, World, after_event, after_from, change_to, first_world, leave, left_by, no_tasks, running_on, start, task_of, tasks_after}
use Rattle.psi_spec.proofs.TaskLaws.{firstT, found, get_put, lower, secondT, task_placed}
use Rattle.psi_counts.specs.Touch.{changed}
use Rattle.psi_counts.proofs.TouchCounts.{running_found}
use Rattle.whatif_spec.specs.Without.{is_pid_among, members, without_pid}
use Rattle.whatif_trace.specs.Left.{AreForked, is_made, is_member, makes}
use Rattle.whatif_trace.proofs.Leaving.{found_changed}

-- ---- ascending numbers

less_is : (x y : ℕ) → nat_cmp x y ≡ Less → x < y
less_is x y is = grind (arith, nat_tests)

equal_is : (x y : ℕ) → (x == y) ≡ true → x ≡ y
equal_is x y is = grind (arith, nat_tests)

later : (k x y : ℕ) → k ≤ x → x < y → (k == y) ≡ false
later k x y low less = grind (arith, nat_tests)

itself_is : (a : ℕ) → (a == a) ≡ true
itself_is a = grind (arith, nat_tests)

-- A number of at most `x` isn't in a list of numbers above `x`.
none_above : (x : ℕ) (ys : List ℕ) (k : ℕ) → AllByRecursion (λ y. nat_cmp x y ≡ Less) ys → k ≤ x → is_pid_among ys k ≡ false
none_above x [] k above low = refl
none_above x (y ∷ ys) k above low = rw (later k x y low (less_is x y above.0)) (none_above x ys k above.1 low)

both_ways : (a b : Bool) → (a ≡ true → b ≡ true) → (b ≡ true → a ≡ true) → a ≡ b
both_ways true b one other = sym (one refl)
both_ways false true one other = other refl
both_ways false false one other = refl

at_prefix : (x : ℕ) (xs : List ℕ) → is_pid_among (x ∷ xs) x ≡ true
at_prefix x xs = rw (itself_is x) refl

after_prefix : (x y : ℕ) (ys : List ℕ) → (x == y) ≡ false → is_pid_among (y ∷ ys) x ≡ true → is_pid_among ys x ≡ true
after_prefix x y ys apart is = sym (ap (λ b. b || is_pid_among ys x) apart) ∙ is

no_both : (b : Bool) → b ≡ true → b ≡ false → ⊥
no_both b on off = cc (on, off)

order : (x y : ℕ) → (x ≤ y) ⊎ (y ≤ x)
order x y = grind arith

turned_round : (x y : ℕ) → (x == y) ≡ false → (y == x) ≡ false
turned_round x y off = grind (arith, nat_tests)

same_head : (x y : ℕ) (xs ys : List ℕ) → AllByRecursion (λ k. nat_cmp x k ≡ Less) xs → AllByRecursion (λ k. nat_cmp y k ≡ Less) ys → ((k : ℕ) → is_pid_among (x ∷ xs) k ≡ is_pid_among (y ∷ ys) k) → x ≡ y
same_head x y xs ys above higher same =
    elim (x == y) as (λ b. (x == y) ≡ b → x ≡ y) [
      | true ↦ λ is. equal_is x y is
      | false ↦ λ apart.
          let one = after_prefix x y ys apart (sym (same x) ∙ at_prefix x xs) in
          let other = after_prefix y x xs (turned_round x y apart) (same y ∙ at_prefix y ys) in
          absurd (⊎_elim (λ low. no_both (is_pid_among ys x) one (none_above y ys x higher low)) (λ low. no_both (is_pid_among xs y) other (none_above x xs y above low)) (order x y))
    ] refl

in_tail : (x : ℕ) (xs ys : List ℕ) → AllByRecursion (λ k. nat_cmp x k ≡ Less) xs → AllByRecursion (λ k. nat_cmp x k ≡ Less) ys → ((k : ℕ) → is_pid_among (x ∷ xs) k ≡ is_pid_among (x ∷ ys) k) → (k : ℕ) → is_pid_among xs k ≡ is_pid_among ys k
in_tail x xs ys above higher same k =
    elim (k == x) as (λ b. (k == x) ≡ b → is_pid_among xs k ≡ is_pid_among ys k) [
      | true ↦ λ is. let low : k ≤ x = omega (arith, equal_is k x is) in none_above x xs k above low ∙ sym (none_above x ys k higher low)
      | false ↦ λ apart. sym (ap (λ b. b || is_pid_among xs k) apart) ∙ same k ∙ ap (λ b. b || is_pid_among ys k) apart
    ] refl

-- Two strictly ascending lists with the same members are equal.
pub same_numbers : (xs ys : List ℕ) → IsStrictlySortedBy nat_cmp xs → IsStrictlySortedBy nat_cmp ys → ((k : ℕ) → is_pid_among xs k ≡ is_pid_among ys k) → xs ≡ ys
unfolding IsStrictlySortedBy
same_numbers [] [] one other same = refl
same_numbers [] (y ∷ ys) one other same = absurd (no_both (is_pid_among [] y) (same y ∙ at_prefix y ys) refl)
same_numbers (x ∷ xs) [] one other same = absurd (no_both (is_pid_among [] x) (sym (same x) ∙ at_prefix x xs) refl)
same_numbers (x ∷ xs) (y ∷ ys) one other same =
    let head = same_head x y xs ys one.0 other.0 same in
    let above : AllByRecursion (λ k. nat_cmp x k ≡ Less) ys = subst (λ n. AllByRecursion (λ k. nat_cmp n k ≡ Less) ys) (sym head) other.0 in
    let all : (k : ℕ) → is_pid_among (x ∷ xs) k ≡ is_pid_among (x ∷ ys) k = λ k. same k ∙ ap (λ n. is_pid_among (n ∷ ys) k) (sym head) in
    ap (λ n. n ∷ xs) head ∙ ap (λ ns. y ∷ ns) (same_numbers xs ys one.1 other.1 (in_tail x xs ys one.0 above all))

-- ---- a set of numbers

pub among_keys : (keys : List ℕ) (pid : ℕ) → list_any (is_at (nat_cmp pid)) keys ≡ is_pid_among keys pid
among_keys [] pid = refl
among_keys (k ∷ keys) pid = ap (λ b. b || list_any (is_at (nat_cmp pid)) keys) (unsigned_tied pid k) ∙ ap (λ b. (pid == k) || b) (among_keys keys pid)

apart_above : (x pid y : ℕ) → x ≡ pid → nat_cmp x y ≡ Less → (y == pid) ≡ false
apart_above x pid y is above = let less = less_is x y above in turned_round pid y (later pid x y (omega (arith, is)) less)

pub flipped : (a b : ℕ) → (a == b) ≡ (b == a)
flipped a b = grind (arith, nat_tests)

none_equal : (x pid : ℕ) (ys : List ℕ) → x ≡ pid → AllByRecursion (λ y. nat_cmp x y ≡ Less) ys → ys ≡ filter (λ other. not (other == pid)) ys
none_equal x pid [] is above = refl
none_equal x pid (y ∷ ys) is above =
    let apart : (y == pid) ≡ false = apart_above x pid y is above.0 in
    rw apart (ap (λ ns. y ∷ ns) (none_equal x pid ys is above.1))

-- Removing a pid from a set removes exactly that pid.
pub taken_out : (pid : ℕ) (keys : List ℕ) → IsStrictlySortedBy nat_cmp keys → remove_key (is_at (nat_cmp pid)) keys ≡ without_pid keys (Some (record { 0 = pid }))
unfolding IsStrictlySortedBy
taken_out pid [] sorted = refl
taken_out pid (x ∷ keys) sorted =
    ap (λ b. cond b keys (x ∷ remove_key (is_at (nat_cmp pid)) keys)) (unsigned_tied pid x ∙ flipped pid x)
    ∙ elim (x == pid) as (λ b. (x == pid) ≡ b → cond b keys (x ∷ remove_key (is_at (nat_cmp pid)) keys) ≡ cond (not b) (x ∷ filter (λ other. not (other == pid)) keys) (filter (λ other. not (other == pid)) keys)) [
      | true ↦ λ is. none_equal x pid keys (equal_is x pid is) sorted.0
      | false ↦ λ _. ap (λ ns. x ∷ ns) (taken_out pid keys sorted.1)
    ] refl

-- ---- the members

is_less : (x y : ℕ) → T (is_lt (nat_cmp x y)) → nat_cmp x y ≡ Less
is_less x y low = grind (arith, nat_tests)

above_entries : (test : ℕ × Task → Bool) (x : ℕ) (es : List (ℕ × Task)) → T (lower x es) → AllByRecursion (λ k. nat_cmp x k ≡ Less) (map (λ e. e.0) (filter test es))
above_entries test x [] low = tt
above_entries test x (e ∷ es) low =
    let rest = above_entries test x es (secondT (is_lt (nat_cmp x e.0)) (lower x es) low) in
    elim (test e) as (λ b. AllByRecursion (λ k. nat_cmp x k ≡ Less) (map (λ e. e.0) (cond b (e ∷ filter test es) (filter test es)))) [
      | true ↦ (is_less x e.0 (firstT (is_lt (nat_cmp x e.0)) (lower x es) low), rest)
      | false ↦ rest
    ]

sorted_entries : (test : ℕ × Task → Bool) (es : List (ℕ × Task)) → T (tasks_by.is_sorted nat_cmp es) → IsStrictlySortedBy nat_cmp (map (λ e. e.0) (filter test es))
unfolding IsStrictlySortedBy
sorted_entries test [] sorted = tt
sorted_entries test (e ∷ es) sorted =
    let rest = sorted_entries test es (secondT (lower e.0 es) (tasks_by.is_sorted nat_cmp es) sorted) in
    elim (test e) as (λ b. IsStrictlySortedBy nat_cmp (map (λ e. e.0) (cond b (e ∷ filter test es) (filter test es)))) [
      | true ↦ (above_entries test e.0 es (firstT (lower e.0 es) (tasks_by.is_sorted nat_cmp es) sorted), rest)
      | false ↦ rest
    ]

-- Each pid in the filtered list is the pid of a task that passes the test.
passes_if : (tasks : Tasks) (test : Task → Bool) (es : List (ℕ × Task)) → AllByRecursion (λ e. task_of tasks e.0 ≡ Some e.1) es → (pid : ℕ) → is_pid_among (map (λ e. e.0) (filter (λ e. test e.1) es)) pid ≡ true → is_some_and (task_of tasks pid) test ≡ true
passes_if tasks test [] each pid is = absurd (let no : ⊥ = cc is in no)
passes_if tasks test (e ∷ es) each pid is =
    elim (test e.1) as (λ b. test e.1 ≡ b → is_pid_among (map (λ e. e.0) (cond b (e ∷ filter (λ e. test e.1) es) (filter (λ e. test e.1) es))) pid ≡ true → is_some_and (task_of tasks pid) test ≡ true) [
      | true ↦ λ on among.
          elim (pid == e.0) as (λ b. (pid == e.0) ≡ b → (b || is_pid_among (map (λ e. e.0) (filter (λ e. test e.1) es)) pid) ≡ true → is_some_and (task_of tasks pid) test ≡ true) [
            | true ↦ λ same _. ap (λ o. is_some_and o test) (ap (task_of tasks) (equal_is pid e.0 same) ∙ each.0) ∙ on
            | false ↦ λ _ rest. passes_if tasks test es each.1 pid rest
          ] refl among
      | false ↦ λ _ among. passes_if tasks test es each.1 pid among
    ] refl is

-- The filtered list has the pid of each task that passes the test.
among_if : (test : Task → Bool) (es : List (ℕ × Task)) (pid : ℕ) → is_some_and (tasks_by.find nat_cmp pid es) test ≡ true → is_pid_among (map (λ e. e.0) (filter (λ e. test e.1) es)) pid ≡ true
among_if test [] pid is = absurd (let no : ⊥ = cc is in no)
among_if test (e ∷ es) pid is =
    elim (pid == e.0) as (λ b. (pid == e.0) ≡ b → is_some_and (cond b (Some e.1) (tasks_by.find nat_cmp pid es)) test ≡ true → is_pid_among (map (λ e. e.0) (cond (test e.1) (e ∷ filter (λ e. test e.1) es) (filter (λ e. test e.1) es))) pid ≡ true) [
      | true ↦ λ same on. rw (on, same) refl
      | false ↦ λ other i.
          let rest = among_if test es pid i in
          elim (test e.1) as (λ b. is_pid_among (map (λ e. e.0) (cond b (e ∷ filter (λ e. test e.1) es) (filter (λ e. test e.1) es))) pid ≡ true) [
            | true ↦ rw other rest
            | false ↦ rest
          ]
    ] refl (ap (λ b. is_some_and (cond b (Some e.1) (tasks_by.find nat_cmp pid es)) test) (sym (unsigned_tied pid e.0)) ∙ is)

member_is : (w : World) (slot pid : ℕ) → is_pid_among (members w slot) pid ≡ is_member w slot pid
member_is w slot pid =
    let test : Task → Bool = λ task. is_under (parents_of w.groups) task.slot.0 slot in
    both_ways (is_pid_among (members w slot) pid) (is_member w slot pid)
    (passes_if w.tasks test (tasks_by.entries w.tasks) (found w.tasks) pid)
    (λ is. among_if test (tasks_by.entries w.tasks) pid (ap (λ o. is_some_and o test) (sym (tasks_by.get-entries w.tasks pid)) ∙ is))

pub members_sorted : (w : World) (slot : ℕ) → IsStrictlySortedBy nat_cmp (members w slot)
members_sorted w slot = sorted_entries (λ e. is_under (parents_of w.groups) e.1.slot.0 slot) (tasks_by.entries w.tasks) (tasks_by.entries_sorted w.tasks)

if_passed : (o : Option Task) (test : Task → Bool) → is_some_and o test ≡ true → is_some o ≡ true
if_passed None test is = absurd (let no : ⊥ = cc is in no)
if_passed (Some task) test is = refl

made_member : (made member : Bool) → (member ≡ true → made ≡ true) → (made && member) ≡ member
made_member made true if = rw (if refl) refl
made_member true false if = refl
made_member false false if = refl

-- The pids of all created tasks that are live in the group or its descendants are the pids of the
-- members.
pub members_are : (w : World) (slot : ℕ) (events : List Event) (keys : List ℕ) → AreForked w.tasks events → IsStrictlySortedBy nat_cmp keys → ((pid : ℕ) → is_pid_among keys pid ≡ (is_made pid events && is_member w slot pid)) → keys ≡ members w slot
members_are w slot events keys forked sorted are =
    same_numbers keys (members w slot) sorted (members_sorted w slot)
    (λ pid. are pid ∙ made_member (is_made pid events) (is_member w slot pid) (λ is. forked pid (if_passed (task_of w.tasks pid) (λ task. is_under (parents_of w.groups) task.slot.0 slot) is)) ∙ sym (member_is w slot pid))

-- ---- each live task was created by a fork

some_changed : (f : Task → Task) (o : Option Task) → is_some (changed f o) ≡ is_some o
some_changed f None = refl
some_changed f (Some task) = refl

as_some : (tasks : Tasks) (k : ℕ) (f : Task → Task) (pid : ℕ) → is_some (task_of (change_to tasks k f (task_of tasks k)) pid) ≡ is_some (task_of tasks pid)
as_some tasks k f pid =
    ap is_some (found_changed tasks k f (task_of tasks k) refl pid)
    ∙ ⊎_elim
    (λ same. ap (λ b. is_some (cond b (changed f (task_of tasks k)) (task_of tasks pid))) same.0 ∙ some_changed f (task_of tasks k) ∙ ap (λ n. is_some (task_of tasks n)) (sym same.1))
    (λ other. ap (λ b. is_some (cond b (changed f (task_of tasks k)) (task_of tasks pid))) other.0)
    (eqb_tells pid k)

start_some : (tasks : Tasks) (next : Option Pid) (pid : ℕ) → is_some (task_of (start next tasks) pid) ≡ is_some (task_of tasks pid)
start_some tasks None pid = refl
start_some tasks (Some next) pid = as_some tasks next.0 _ pid

left_some : (tasks : Tasks) (cpu : ℕ) (how : How) (o : Option (ℕ × Task)) → running_on tasks cpu ≡ o → (pid : ℕ) → is_some (task_of (leave how tasks o) pid) ≡ true → is_some (task_of tasks pid) ≡ true
left_some tasks cpu how None runs pid is = is
left_some tasks cpu how (Some e) runs pid is =
    ⊎_elim
    (λ same. ap is_some (ap (task_of tasks) same.1 ∙ (running_found tasks cpu e runs).0))
    (λ other. sym (ap is_some (task_placed tasks e.0 (left_by how e.1) pid ∙ ap (λ b. cond b (left_by how e.1) (task_of tasks pid)) other.0)) ∙ is)
    (eqb_tells pid e.0)

new_or_before : (b : Bool) (task : Task) (o : Option Task) → is_some (cond b (Some task) o) ≡ true → (b || is_some o) ≡ true
new_or_before true task o is = refl
new_or_before false task o is = is

made_by : (w : World) (what : Act) (pid : ℕ) → is_some (task_of (tasks_after w.groups w.tasks what) pid) ≡ true → (makes pid what || is_some (task_of w.tasks pid)) ≡ true
made_by w (act.Fork new path cpu) pid is = new_or_before (pid == new.0) _ (task_of w.tasks pid) (sym (ap is_some (get_put w.tasks new.0 _ pid)) ∙ is)
made_by w (act.Wake k cpu) pid is = sym (as_some w.tasks k.0 _ pid) ∙ is
made_by w (act.Migrate k cpu) pid is = sym (as_some w.tasks k.0 _ pid) ∙ is
made_by w (act.Stall k) pid is = sym (as_some w.tasks k.0 _ pid) ∙ is
made_by w (act.Unstall k) pid is = sym (as_some w.tasks k.0 _ pid) ∙ is
made_by w (act.Move k path) pid is = sym (as_some w.tasks k.0 _ pid) ∙ is
made_by w (act.Switch cpu next how) pid is = left_some w.tasks cpu.0 how (running_on w.tasks cpu.0) refl pid (sym (start_some (leave how w.tasks (running_on w.tasks cpu.0)) next pid) ∙ is)
made_by w (act.Group path) pid is = is
made_by w (act.Remove path) pid is = is
made_by w (act.Prefer path preference) pid is = is
made_by w (act.Mem path current swap scan) pid is = is
made_by w (act.Host mem_total swap_total swap_free) pid is = is
made_by w (act.Trigger path res level threshold_us window_us) pid is = is
made_by w (act.Irq cpu ns) pid is = is
made_by w (act.Pressure path on) pid is = is
made_by w act.End pid is = is

joined_tests : (a b c d : Bool) → (a || b) ≡ true → (b ≡ true → (c || d) ≡ true) → ((c || a) || d) ≡ true
joined_tests true b true d one other = refl
joined_tests true b false d one other = refl
joined_tests false b true d one other = refl
joined_tests false b false d one other = other one

live_made : (w : World) (events : List Event) (pid : ℕ) → is_some (task_of (after_from w events).tasks pid) ≡ true → (is_made pid events || is_some (task_of w.tasks pid)) ≡ true
live_made w [] pid is = is
live_made w (event ∷ events) pid is =
    joined_tests (is_made pid events) (is_some (task_of (after_event w event).tasks pid)) (makes pid event.act) (is_some (task_of w.tasks pid))
    (live_made (after_event w event) events pid is) (made_by w event.act pid)

or_none : (a b : Bool) → b ≡ false → (a || b) ≡ true → a ≡ true
or_none true b off is = refl
or_none false b off is = absurd (let no : ⊥ = cc (off, is) in no)

pub all_forked : (events : List Event) → AreForked (after_from first_world events).tasks events
all_forked events pid is = or_none (is_made pid events) (is_some (task_of no_tasks pid)) (ap is_some (tasks_by.get-empty nat_cmp pid)) (live_made first_world events pid is)
