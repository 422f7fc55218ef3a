-- Proofs about the acts of an import, one by one: each can be written as a trace line and is legal,
-- and the invariant of the world holds after it.
use Rattle.std.proofs.Common.{◌≡◌, ℕ, ◌+◌, ◌^◌, ◌≤◌, ◌<◌, List, [], ◌∷◌, ◌++◌, refl, ◌∙◌, arith, cond, true, false, Option, None, Some, inl, inr}
use Rattle.std.specs.Prelude.{◌&&◌, IfSome, codes, is_some, nat_le}
use Rattle.std.specs.FinMap as tasks_by
use Rattle.std.specs.Ordering.{nat_cmp}
use Rattle.std.proofs.lemmas.Bool.Decides.{nat_tests}
use Rattle.psi_base.specs.Path.{is_path}
use Rattle.psi_base.specs.declared.event.Act.{Act}
use Rattle.psi_base.specs.declared.event.Act.TheVariants as act
use Rattle.psi_base.specs.declared.event.Cause.TheVariants as cause
use Rattle.psi_base.specs.declared.event.Cpu.{Cpu}
use Rattle.psi_base.specs.declared.event.Event.{Event}
use Rattle.psi_base.specs.declared.event.How.{How}
use Rattle.psi_base.specs.declared.event.Pid.{Pid}
use Rattle.psi_base.specs.Missing.{is_some_and}
use Rattle.psi_spec.specs.declared.machine.Task.{Task}
use Rattle.psi_spec.specs.Fields.{IsAmong, IsPid}
use Rattle.psi_spec.specs.Grammar.{ActFits, Fits, IsKnown, One, phrase_of, verbs_of}
use Rattle.psi_spec.specs.Refusal.{AreLegal, cause_of, is_exit, is_wrong}
use Rattle.psi_spec.specs.Trace.{AllFit, AreKnown, IsCpuCount}
use Rattle.psi_spec.specs.World.{Tasks, World, after_event, after_from, ends, first_world, groups_after, is_active, is_ready, is_ready_on, prepared_changes, running_on, task_of, tasks_after, events_at}
use Rattle.psi_counts.proofs.LegalLaws.{legal_first, legal_kept}
use Rattle.task_table.specs.Causes.{act_cause}
use Rattle.task_table.proofs.CauseLaws.{first_of_act}
use Rattle.import_spec.specs.Events.{made}
use Rattle.ftrace_import.specs.Stands.{IsCalm, Stands, limits}
use Rattle.ftrace_import.proofs.Runs.{calm_change, calm_put, calm_running, calm_switch}

-- ---- the invariant of the world

-- The invariant holds in the first world.
pub first_in : (cpus : ℕ) → IsCpuCount cpus → Stands cpus 0 0 first_world
first_in cpus counted = record {
  counted = counted;
  legal = legal_first (limits cpus);
  calm = λ q. rw (tasks_by.get-empty nat_cmp q) refl;
  groups = refl;
  going = refl;
  forward = omega arith;
  early = omega arith;
  few = omega arith;
}

-- The invariant holds at a later time, and for fewer further events.
pub later_in : (cpus at room now few : ℕ) (w : World) → Stands cpus at room w → at ≤ now → now ≤ 2000000000000000 → w.lines + few ≤ 3999999 → Stands cpus now few w
later_in cpus at room now few w so later early left = record {
  counted = so.counted;
  legal = so.legal;
  calm = so.calm;
  groups = so.groups;
  going = so.going;
  forward = let forward = so.forward in omega (arith, forward, later);
  early = early;
  few = left;
}

-- Returns the event with this act at the time `at` (ns).
abbrev pub event_at : ℕ → Act → Event
event_at at what = record { at = at; act = what }

-- The act can be written in a trace line and is legal, and the invariant holds after it.
pub record Step (cpus at room : ℕ) (w : World) (what : Act) : Type 0 where
  pub fits : Fits (event_at at what)
  pub known : IsKnown (verbs_of One) (event_at at what)
  pub legal : cause_of (limits cpus) w (event_at at what) ≡ None
  pub later : Stands cpus at room (after_event w (event_at at what))

-- An act without a cause for rejecting it is a legal step of the import.
pub step_is : (cpus at room : ℕ) (w : World) (what : Act) → Stands cpus at (room + 1) w → act_cause cpus w.groups w.tasks w.irqs w.triggers w.pressures at what ≡ None → ActFits what → IsAmong (phrase_of what).verb (verbs_of One)
    → groups_after at w.groups what ≡ w.groups → ends what ≡ false → IsCalm (tasks_after w.groups w.tasks what) → Step cpus at room w what
step_is cpus at room w what so none fits known same goes calm =
    let few = so.few in
    let early = so.early in
    let space : w.lines < 4000000 = omega (arith, few) in
    let legal : cause_of (limits cpus) w (event_at at what) ≡ None = first_of_act (limits cpus) w (event_at at what) so.going so.forward so.early space ∙ none in
    record {
      fits = record { at = omega (arith, early); act = fits };
      known = known;
      legal = legal;
      later = record {
        counted = so.counted;
        legal = legal_kept (limits cpus) w (event_at at what) legal so.legal;
        calm = calm;
        groups = same ∙ so.groups;
        going = rw (so.going, goes) refl;
        forward = omega arith;
        early = so.early;
        few = omega (arith, few);
      };
    }

-- ---- several acts

-- The acts, all at one time, can be written in trace lines and are legal in their order, and the
-- invariant holds after them.
pub record Goes (cpus at room : ℕ) (w : World) (acts : List Act) : Type 0 where
  pub fit : AllFit (events_at at acts)
  pub known : AreKnown (verbs_of One) (events_at at acts)
  pub legal : AreLegal (limits cpus) w (events_at at acts)
  pub later : Stands cpus at room (after_from w (events_at at acts))

pub goes_none : (cpus at room : ℕ) (w : World) → Stands cpus at room w → Goes cpus at room w []
goes_none cpus at room w so = record { fit = tt; known = tt; legal = tt; later = so }

pub goes_then : (cpus at mid room : ℕ) (w : World) (what : Act) (acts : List Act) → Step cpus at mid w what → Goes cpus at room (after_event w (event_at at what)) acts → Goes cpus at room w (what ∷ acts)
goes_then cpus at mid room w what acts step rest = record {
  fit = (step.fits, rest.fit);
  known = (step.known, rest.known);
  legal = (step.legal, rest.legal);
  later = rest.later;
}

-- A single legal step is a list of legal steps.
pub goes_one : (cpus at room : ℕ) (w : World) (what : Act) → Step cpus at room w what → Goes cpus at room w (what ∷ [])
goes_one cpus at room w what step = goes_then cpus at room room w what [] step (goes_none cpus at room _ step.later)

-- Two lists of legal steps, one after the other, are a list of legal steps.
pub goes_on : (cpus at mid room : ℕ) (w : World) (xs ys : List Act) → Goes cpus at mid w xs → Goes cpus at room (after_from w (events_at at xs)) ys → Goes cpus at room w (xs ++ ys)
goes_on cpus at mid room w [] ys prefix rest = rest
goes_on cpus at mid room w (x ∷ xs) ys prefix rest =
    let inner : Goes cpus at mid (after_event w (event_at at x)) xs = record { fit = prefix.fit.1; known = prefix.known.1; legal = prefix.legal.1; later = prefix.later } in
    let suffix = goes_on cpus at mid room (after_event w (event_at at x)) xs ys inner rest in
    record {
      fit = (prefix.fit.0, suffix.fit);
      known = (prefix.known.0, suffix.known);
      legal = (prefix.legal.0, suffix.legal);
      later = suffix.later;
    }

-- ---- the acts of an import

-- The number of an existing processor can be written in a trace line, and the test for a missing
-- processor fails.
there_is : (cpus cpu : ℕ) → cpu < cpus → nat_le cpus cpu ≡ false
there_is cpus cpu room = grind (arith, nat_tests)

small_cpu : (cpus cpu : ℕ) → IsCpuCount cpus → cpu < cpus → cpu < 2 ^ 32
small_cpu cpus cpu counted room = let few = counted.1 in omega (arith, few, room)

root_is_path : is_path (codes "/") ≡ true
unfolding is_path
root_is_path = refl

not_full : (live : ℕ) → live < 65536 → nat_le 65536 live ≡ false
not_full live room = grind (arith, nat_tests)

-- Creating a task is legal.
pub step_make : (cpus at room : ℕ) (w : World) (pid : Pid) (cpu : Cpu) → Stands cpus at (room + 1) w → IsPid pid → cpu.0 < cpus → task_of w.tasks pid.0 ≡ None → tasks_by.len w.tasks < 65536 → Step cpus at room w (made pid cpu)
step_make cpus at room w pid cpu so is there none space =
    let groups = so.groups in
    step_is cpus at room w (made pid cpu) so
    (rw (not_full (tasks_by.len w.tasks) space, groups, none, there_is cpus cpu.0 there) refl)
    (is, (root_is_path, (small_cpu cpus cpu.0 so.counted there, tt)))
    (inr (inr (inr (inr (inr (inr (inl refl)))))))
    refl refl (calm_put w.tasks so.calm pid.0 _ refl)

-- Waking a blocked task is legal.
pub step_wake : (cpus at room : ℕ) (w : World) (pid : Pid) (cpu : Cpu) (task : Task) → Stands cpus at (room + 1) w → IsPid pid → cpu.0 < cpus → task_of w.tasks pid.0 ≡ Some task → is_active task.mode ≡ false → Step cpus at room w (act.Wake pid cpu)
step_wake cpus at room w pid cpu task so is there live sleeps =
    step_is cpus at room w (act.Wake pid cpu) so
    (rw (live, there_is cpus cpu.0 there, sleeps) refl)
    (is, (small_cpu cpus cpu.0 so.counted there, tt))
    (inr (inl refl))
    refl refl (calm_change w.tasks so.calm pid.0 (prepared_changes cpu.0) (λ t. refl) (task_of w.tasks pid.0) refl)

-- Migrating a ready task is legal.
pub step_migrate : (cpus at room : ℕ) (w : World) (pid : Pid) (cpu : Cpu) (task : Task) → Stands cpus at (room + 1) w → IsPid pid → cpu.0 < cpus → task_of w.tasks pid.0 ≡ Some task → is_ready task.mode ≡ true → Step cpus at room w (act.Migrate pid cpu)
step_migrate cpus at room w pid cpu task so is there live ready =
    step_is cpus at room w (act.Migrate pid cpu) so
    (rw (live, there_is cpus cpu.0 there, ready) refl)
    (is, (small_cpu cpus cpu.0 so.counted there, tt))
    (inr (inr (inr (inr (inl refl)))))
    refl refl (calm_change w.tasks so.calm pid.0 (prepared_changes cpu.0) (λ t. refl) (task_of w.tasks pid.0) refl)

-- The next task, if there is one, is ready on the processor.
abbrev pub IsNext : Tasks → ℕ → Option Pid → Type 0
IsNext tasks cpu next = IfSome next (λ pid. IsPid pid × (is_some_and (task_of tasks pid.0) (is_ready_on cpu) ≡ true))

some_ready : (o : Option Task) (cpu : ℕ) → is_some_and o (is_ready_on cpu) ≡ true → is_some o ≡ true
some_ready None cpu ready = absurd (cc ready)
some_ready (Some t) cpu ready = refl

-- A switch is legal: the running task leaves and the next task starts, or the next task starts on
-- an idle processor.
pub step_switch : (cpus at room : ℕ) (w : World) (cpu : Cpu) (next : Option Pid) (how : How) → Stands cpus at (room + 1) w → cpu.0 < cpus → IsNext w.tasks cpu.0 next → is_wrong how (running_on w.tasks cpu.0) ≡ false → Step cpus at room w (act.Switch cpu next how)
step_switch cpus at room w cpu None how so there ready right =
    let calm = calm_running w.tasks so.calm cpu.0 (running_on w.tasks cpu.0) refl in
    step_is cpus at room w (act.Switch cpu None how) so
    (rw (there_is cpus cpu.0 there, right, calm) (elim (is_exit how) as (λ b. cond (b && false) (Some cause.InStall) None ≡ None) [ true ↦ refl | false ↦ refl ]))
    (small_cpu cpus cpu.0 so.counted there, (tt, (tt, tt)))
    (inl refl)
    refl refl (calm_switch w.tasks so.calm cpu.0 None how)
step_switch cpus at room w cpu (Some pid) how so there ready right =
    let calm = calm_running w.tasks so.calm cpu.0 (running_on w.tasks cpu.0) refl in
    step_is cpus at room w (act.Switch cpu (Some pid) how) so
    (rw (some_ready (task_of w.tasks pid.0) cpu.0 ready.1, there_is cpus cpu.0 there, ready.1, right, calm) (elim (is_exit how) as (λ b. cond (b && false) (Some cause.InStall) None ≡ None) [ true ↦ refl | false ↦ refl ]))
    (small_cpu cpus cpu.0 so.counted there, (ready.0, (tt, tt)))
    (inl refl)
    refl refl (calm_switch w.tasks so.calm cpu.0 (Some pid) how)
