-- Proves how a change of a task affects the map of tasks from which the dead tasks are removed.
use Rattle.std.proofs.Common.{◌≡◌, ℕ, List, [], ◌∷◌, refl, ap, ◌∙◌, sym, arith, cond, Bool, true, false, Option, None, Some, ◌==◌, ⊎_elim}
use Rattle.std.specs.Prelude.{◌&&◌, ◌||◌, filter, not}
use Rattle.std.proofs.lemmas.Bool.Decides.{eqb_tells, nat_tests}
use Rattle.psi_base.specs.declared.event.Pid.{Pid}
use Rattle.psi_spec.specs.declared.machine.Task.{Task}
use Rattle.psi_spec.specs.World.{Tasks, change, change_to, placed, start, task_of}
use Rattle.psi_spec.proofs.TaskLaws.{task_placed}
use Rattle.whatif_spec.specs.Without.{is_alive, is_pid_among, if_alive}
use Rattle.whatif_trace.specs.Rest.{kept}
use Rattle.whatif_trace.proofs.Fewer.{AreWithout, found_dead, found_kept}

-- ---- a task is replaced or removed

-- Replacing a task that isn't dead in both maps gives the same look-up of that task in both.
placed_found : (dead : List ℕ) (tasks fewer : Tasks) (k : ℕ) (x : Option Task) (pid : ℕ) → AreWithout dead tasks fewer → is_pid_among dead k ≡ false → ((pid == k) ≡ true) × (pid ≡ k) → cond (pid == k) x (task_of fewer pid) ≡ kept dead pid (cond (pid == k) x (task_of tasks pid))
placed_found dead tasks fewer k x pid are alive same = rw (same.0, ap (is_pid_among dead) same.1 ∙ alive) refl

placed_other : (dead : List ℕ) (tasks fewer : Tasks) (k : ℕ) (x y : Option Task) (pid : ℕ) → AreWithout dead tasks fewer → (pid == k) ≡ false → cond (pid == k) x (task_of fewer pid) ≡ kept dead pid (cond (pid == k) y (task_of tasks pid))
placed_other dead tasks fewer k x y pid are other = rw other (are pid)

pub placed_alive : (dead : List ℕ) (tasks fewer : Tasks) (k : ℕ) (x : Option Task) → AreWithout dead tasks fewer → is_pid_among dead k ≡ false → AreWithout dead (placed tasks k x) (placed fewer k x)
placed_alive dead tasks fewer k x are alive pid =
    task_placed fewer k x pid
    ∙ ⊎_elim (λ same. placed_found dead tasks fewer k x pid are alive same) (λ other. placed_other dead tasks fewer k x x pid are other.0) (eqb_tells pid k)
    ∙ ap (kept dead pid) (sym (task_placed tasks k x pid))

-- Replacing a dead task changes only the map of all tasks.
placed_gone : (dead : List ℕ) (tasks fewer : Tasks) (k : ℕ) (x : Option Task) (pid : ℕ) → AreWithout dead tasks fewer → is_pid_among dead k ≡ true → ((pid == k) ≡ true) × (pid ≡ k) → task_of fewer pid ≡ kept dead pid (cond (pid == k) x (task_of tasks pid))
placed_gone dead tasks fewer k x pid are gone same =
    ap (task_of fewer) same.1 ∙ found_dead dead tasks fewer are k gone ∙ rw (ap (is_pid_among dead) same.1 ∙ gone) refl

placed_still : (dead : List ℕ) (tasks fewer : Tasks) (k : ℕ) (x : Option Task) (pid : ℕ) → AreWithout dead tasks fewer → (pid == k) ≡ false → task_of fewer pid ≡ kept dead pid (cond (pid == k) x (task_of tasks pid))
placed_still dead tasks fewer k x pid are other = rw other (are pid)

pub placed_dead : (dead : List ℕ) (tasks fewer : Tasks) (k : ℕ) (x : Option Task) → AreWithout dead tasks fewer → is_pid_among dead k ≡ true → AreWithout dead (placed tasks k x) fewer
placed_dead dead tasks fewer k x are gone pid =
    ⊎_elim (λ same. placed_gone dead tasks fewer k x pid are gone same) (λ other. placed_still dead tasks fewer k x pid are other.0) (eqb_tells pid k)
    ∙ ap (kept dead pid) (sym (task_placed tasks k x pid))

-- ---- a change of the task with a pid

put_is : (tasks : Tasks) (k : ℕ) (f : Task → Task) (o : Option Task) → (dead : List ℕ) (fewer : Tasks) → AreWithout dead tasks fewer → is_pid_among dead k ≡ false → AreWithout dead (change_to tasks k f o) (change_to fewer k f o)
put_is tasks k f None dead fewer are alive = are
put_is tasks k f (Some task) dead fewer are alive = placed_alive dead tasks fewer k (Some (f task)) are alive

pub change_alive : (dead : List ℕ) (tasks fewer : Tasks) (k : ℕ) (f : Task → Task) → AreWithout dead tasks fewer → is_pid_among dead k ≡ false → AreWithout dead (change tasks k f) (change fewer k f)
change_alive dead tasks fewer k f are alive = rw (found_kept dead tasks fewer are k alive) (put_is tasks k f (task_of tasks k) dead fewer are alive)

put_gone : (tasks : Tasks) (k : ℕ) (f : Task → Task) (o : Option Task) → (dead : List ℕ) (fewer : Tasks) → AreWithout dead tasks fewer → is_pid_among dead k ≡ true → AreWithout dead (change_to tasks k f o) fewer
put_gone tasks k f None dead fewer are gone = are
put_gone tasks k f (Some task) dead fewer are gone = placed_dead dead tasks fewer k (Some (f task)) are gone

pub change_dead : (dead : List ℕ) (tasks fewer : Tasks) (k : ℕ) (f : Task → Task) → AreWithout dead tasks fewer → is_pid_among dead k ≡ true → AreWithout dead (change tasks k f) fewer
change_dead dead tasks fewer k f are gone = put_gone tasks k f (task_of tasks k) dead fewer are gone

-- ---- the next task

not_true : (b : Bool) → not b ≡ true → b ≡ false
not_true true h = absurd (let no : ⊥ = cc h in no)
not_true false h = refl

not_false : (b : Bool) → not b ≡ false → b ≡ true
not_false true h = refl
not_false false h = absurd (let no : ⊥ = cc h in no)

-- If the next task isn't dead, it starts in both maps.
pub start_alive : (dead : List ℕ) (tasks fewer : Tasks) (next : Option Pid) → AreWithout dead tasks fewer → is_alive dead next ≡ true → AreWithout dead (start next tasks) (start next fewer)
start_alive dead tasks fewer None are alive = are
start_alive dead tasks fewer (Some pid) are alive = change_alive dead tasks fewer pid.0 _ are (not_true (is_pid_among dead pid.0) alive)

-- If the next task is dead, or there is no next task, it starts only in the map of all tasks.
pub start_dead : (dead : List ℕ) (tasks fewer : Tasks) (next : Option Pid) → AreWithout dead tasks fewer → is_alive dead next ≡ false → AreWithout dead (start next tasks) fewer
start_dead dead tasks fewer None are gone = are
start_dead dead tasks fewer (Some pid) are gone = change_dead dead tasks fewer pid.0 _ are (not_false (is_pid_among dead pid.0) gone)

-- Starting the next task only if it isn't dead preserves the relation of the maps.
pub start_kept : (dead : List ℕ) (tasks fewer : Tasks) (next : Option Pid) → AreWithout dead tasks fewer → AreWithout dead (start next tasks) (start (if_alive dead next) fewer)
start_kept dead tasks fewer next are =
    elim (is_alive dead next) as (λ b. is_alive dead next ≡ b → AreWithout dead (start next tasks) (start (cond b next None) fewer)) [
      | true ↦ λ alive. start_alive dead tasks fewer next are alive
      | false ↦ λ gone. start_dead dead tasks fewer next are gone
    ] refl

-- ---- one dead pid less

-- Removing one pid from the list of dead pids removes exactly that pid.
pub among_less : (dead : List ℕ) (k pid : ℕ) → is_pid_among (filter (λ other. not (other == k)) dead) pid ≡ (is_pid_among dead pid && not (pid == k))
among_less [] k pid = refl
among_less (first ∷ dead) k pid =
    let rest = among_less dead k pid in
    elim (first == k) as (λ b. (first == k) ≡ b → is_pid_among (cond (not b) (first ∷ filter (λ other. not (other == k)) dead) (filter (λ other. not (other == k)) dead)) pid ≡ ((pid == first || is_pid_among dead pid) && not (pid == k))) [
      | true ↦ λ same. rest ∙ grind (arith, nat_tests)
      | false ↦ λ other. ap (λ b. pid == first || b) rest ∙ grind (arith, nat_tests)
    ] refl

less_is : (dead : List ℕ) (tasks fewer : Tasks) (k : ℕ) (pid : ℕ) → AreWithout dead tasks fewer → (b c : Bool) → is_pid_among dead pid ≡ b → (pid == k) ≡ c → (c ≡ true → task_of fewer pid ≡ None) → task_of fewer pid ≡ cond (b && not c) None (cond c None (task_of tasks pid))
less_is dead tasks fewer k pid are true true is same none = none refl
less_is dead tasks fewer k pid are true false is same none = are pid ∙ rw is refl
less_is dead tasks fewer k pid are false true is same none = none refl
less_is dead tasks fewer k pid are false false is same none = are pid ∙ rw is refl

none_there : (dead : List ℕ) (tasks fewer : Tasks) (k pid : ℕ) → AreWithout dead tasks fewer → is_pid_among dead k ≡ true → (pid == k) ≡ true → task_of fewer pid ≡ None
none_there dead tasks fewer k pid are gone same =
    let is : pid ≡ k = grind (arith, nat_tests) in
    ap (task_of fewer) is ∙ found_dead dead tasks fewer are k gone

-- If a dead task exits, its pid is removed from the dead pids and may be reused.
pub exits_dead : (dead : List ℕ) (tasks fewer : Tasks) (k : ℕ) → AreWithout dead tasks fewer → is_pid_among dead k ≡ true → AreWithout (filter (λ other. not (other == k)) dead) (placed tasks k None) fewer
exits_dead dead tasks fewer k are gone pid =
    less_is dead tasks fewer k pid are (is_pid_among dead pid) (pid == k) refl refl (none_there dead tasks fewer k pid are gone)
    ∙ ap (λ b. cond b None (cond (pid == k) None (task_of tasks pid))) (sym (among_less dead k pid))
    ∙ ap (kept (filter (λ other. not (other == k)) dead) pid) (sym (task_placed tasks k None pid))

-- If a task that isn't dead exits, the dead pids don't change.
same_among : (b c : Bool) → (b ≡ true → c ≡ false) → (b && not c) ≡ b
same_among true c off = rw (off refl) refl
same_among false c off = refl

apart : (dead : List ℕ) (k pid : ℕ) → is_pid_among dead k ≡ false → is_pid_among dead pid ≡ true → (pid == k) ≡ false
apart dead k pid alive gone = ⊎_elim (λ same. let at : is_pid_among dead pid ≡ is_pid_among dead k = ap (is_pid_among dead) same.1 in absurd (let no : ⊥ = cc (at, alive, gone) in no)) (λ other. other.0) (eqb_tells pid k)

pub exits_alive : (dead : List ℕ) (tasks fewer : Tasks) (k : ℕ) → AreWithout dead tasks fewer → is_pid_among dead k ≡ false → AreWithout (filter (λ other. not (other == k)) dead) tasks fewer
exits_alive dead tasks fewer k are alive pid =
    are pid ∙ ap (λ b. cond b None (task_of tasks pid)) (sym (same_among (is_pid_among dead pid) (pid == k) (apart dead k pid alive)) ∙ sym (among_less dead k pid))
