-- Proves that a trace without the tasks of a group is legal, and that its worlds are the original
-- worlds without these tasks.
use Rattle.std.proofs.Common.{◌≡◌, ℕ, ◌+◌, List, [], ◌∷◌, ◌++◌, refl, ap, ◌∙◌, sym, subst, arith, append_assoc, cond, Bool, true, false, Some, ◌==◌, length, drop, map}
use Rattle.std.specs.Prelude.{◌||◌, filter, is_some, nat_le}
use Rattle.std.specs.List.{AllByRecursion}
use Rattle.std.specs.FinMap as tasks_by
use Rattle.std.proofs.lemmas.Bool.Decides.{nat_tests}
use Rattle.psi_base.specs.declared.event.Event.{Event}
use Rattle.psi_spec.specs.declared.machine.Task.{Task}
use Rattle.psi_spec.specs.Refusal.{AreLegal}
use Rattle.psi_spec.specs.Stall.{is_under, parents_of}
use Rattle.psi_spec.specs.World.{Limits, Tasks, World, after_event, after_from, first_world, task_of, up_to, events_at}
use Rattle.psi_spec.proofs.TaskLaws.{found}
use Rattle.plan_laws.proofs.PlanUpTo.{none_later, past_it}
use Rattle.whatif_spec.specs.Without.{act_without, suffix, dead_after, is_pid_among, members, rest_without}
use Rattle.whatif_trace.specs.Rest.{dead_later_on}
use Rattle.whatif_trace.proofs.Living.{AreLive}
use Rattle.whatif_trace.proofs.Resting.{Begins}

-- ---- the prefix and the rest

-- The events after the cut are later than the cut.
later_begins : (limits : Limits) (w : World) (events : List Event) (at : ℕ) → AreLegal limits w events → (rest : List Event) × (events ≡ up_to events at ++ rest) × Begins (at + 1) rest
later_begins limits w [] at legal = ([], refl, tt)
later_begins limits w (event ∷ events) at legal =
    elim (nat_le event.at at) as (λ b. nat_le event.at at ≡ b → (rest : List Event) × (event ∷ events ≡ cond b (event ∷ up_to events at) (up_to events at) ++ rest) × Begins (at + 1) rest) [
      | true ↦ λ _. let more = later_begins limits (after_event w event) events at legal.1 in (more.0, ap (λ es. event ∷ es) more.1, more.2)
      | false ↦ λ off. let late = past_it at event.at off in (event ∷ events, ap (λ es. es ++ event ∷ events) (sym (none_later limits (after_event w event) events at legal.1 late)), omega (arith, late))
    ] refl

drop_prefix : (prefix rest : List Event) → drop (length prefix) (prefix ++ rest) ≡ rest
drop_prefix [] rest = refl
drop_prefix (event ∷ prefix) rest = drop_prefix prefix rest

pub record IsParted (limits : Limits) (events : List Event) (at : ℕ) : Type 0 where
  pub whole : events ≡ up_to events at ++ suffix events at
  pub begins : Begins (at + 1) (suffix events at)

pub parted : (limits : Limits) (events : List Event) (at : ℕ) → AreLegal limits first_world events → IsParted limits events at
parted limits events at legal =
    let parts = later_begins limits first_world events at legal in
    let same : suffix events at ≡ parts.0 = ap (drop (length (up_to events at))) parts.1 ∙ drop_prefix (up_to events at) parts.0 in
    record { whole = parts.1 ∙ ap (λ es. up_to events at ++ es) (sym same); begins = subst (Begins (at + 1)) (sym same) parts.2 }

pub legal_rest : (limits : Limits) (w : World) (prefix rest : List Event) → AreLegal limits w (prefix ++ rest) → AreLegal limits (after_from w prefix) rest
legal_rest limits w [] rest legal = legal
legal_rest limits w (event ∷ prefix) rest legal = legal_rest limits (after_event w event) prefix rest legal.1

-- ---- the members

-- Each pid among filtered entries is the pid of a task in the map.
among_entries : (tasks : Tasks) (test : ℕ × Task → Bool) (es : List (ℕ × Task)) → AllByRecursion (λ e. task_of tasks e.0 ≡ Some e.1) es → (pid : ℕ) → is_pid_among (map (λ e. e.0) (filter test es)) pid ≡ true → is_some (task_of tasks pid) ≡ true
among_entries tasks test [] each pid is = absurd (let no : ⊥ = cc is in no)
among_entries tasks test (e ∷ es) each pid is =
    elim (test e) as (λ b. is_pid_among (map (λ e. e.0) (cond b (e ∷ filter test es) (filter test es))) pid ≡ true → is_some (task_of tasks pid) ≡ true) [
      | true ↦ λ among.
          elim (pid == e.0) as (λ b. (pid == e.0) ≡ b → (b || is_pid_among (map (λ e. e.0) (filter test es)) pid) ≡ true → is_some (task_of tasks pid) ≡ true) [
            | true ↦ λ same _. let number : pid ≡ e.0 = grind (arith, nat_tests) in ap is_some (ap (task_of tasks) number ∙ each.0)
            | false ↦ λ _ rest. among_entries tasks test es each.1 pid rest
          ] refl among
      | false ↦ λ among. among_entries tasks test es each.1 pid among
    ] is

-- The members of a group are live.
pub members_live : (w : World) (slot : ℕ) → AreLive (members w slot) w.tasks
members_live w slot pid is = among_entries w.tasks (λ e. is_under (parents_of w.groups) e.1.slot.0 slot) (tasks_by.entries w.tasks) (found w.tasks) pid is

-- ---- the later events as a whole

pub rest_both : (dead : List ℕ) (w : World) (xs ys : List Event) → rest_without dead w (xs ++ ys) ≡ rest_without dead w xs ++ rest_without (dead_later_on dead w xs) (after_from w xs) ys
rest_both dead w [] ys = refl
rest_both dead w (x ∷ xs) ys =
    let prefix = events_at x.at (act_without dead w x.act) in
    ap (λ es. prefix ++ es) (rest_both (dead_after dead w x.act) (after_event w x) xs ys)
    ∙ sym (append_assoc prefix (rest_without (dead_after dead w x.act) (after_event w x) xs) (rest_without (dead_later_on dead w (x ∷ xs)) (after_from w (x ∷ xs)) ys))

pub dead_both : (dead : List ℕ) (w : World) (xs ys : List Event) → dead_later_on dead w (xs ++ ys) ≡ dead_later_on (dead_later_on dead w xs) (after_from w xs) ys
dead_both dead w [] ys = refl
dead_both dead w (x ∷ xs) ys = dead_both (dead_after dead w x.act) (after_event w x) xs ys
