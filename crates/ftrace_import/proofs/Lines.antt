-- Proofs about the result of a line: its events can be written as trace lines and are legal, and
-- the import's invariant holds after them.
use Rattle.std.proofs.Common.{◌≡◌, ℕ, ◌+◌, ◌≤◌, ◌<◌, List, [], ◌∷◌, refl, ap, subst, arith, cond, Bool, true, false, Option, None, Some, ◌==◌, length}
use Rattle.std.specs.Prelude.{◌&&◌, IfSome, nat_le, nat_lt, not, Result, Ok, Err}
use Rattle.std.specs.FinMap as tasks_by
use Rattle.std.proofs.lemmas.Bool.Decides.{nat_tests}
use Rattle.psi_base.specs.declared.event.Act.{Act}
use Rattle.psi_base.specs.declared.event.Act.TheVariants as act
use Rattle.psi_base.specs.declared.event.Cpu.{Cpu}
use Rattle.psi_base.specs.declared.event.How.{How}
use Rattle.psi_base.specs.declared.event.Pid.{Pid}
use Rattle.psi_base.specs.Missing.{is_some_and}
use Rattle.psi_spec.specs.declared.machine.Task.{Task}
use Rattle.psi_spec.specs.Fields.{IsPid}
use Rattle.psi_spec.specs.Grammar.{One, verbs_of}
use Rattle.psi_spec.specs.Refusal.{AreLegal}
use Rattle.psi_spec.specs.Trace.{AllFit, AreKnown}
use Rattle.psi_spec.specs.World.{World, after_from, is_active, is_ready, is_ready_on, task_of, events_at}
use Rattle.psi_spec.proofs.RefusalLaws.{first_true, second_true}
use Rattle.import_spec.specs.declared.cause.ImportCause.{ImportCause}
use Rattle.import_spec.specs.declared.cause.ImportCause.TheVariants as cause
use Rattle.import_spec.specs.declared.seen.Seen.{Seen}
use Rattle.import_spec.specs.declared.seen.Seen.TheVariants as seen
use Rattle.import_spec.specs.declared.seen.Sighting.{Sighting}
use Rattle.import_spec.specs.Marked.{read_line}
use Rattle.import_spec.specs.Events.{LineEvents, Reached, acts_cause, acts_of, first_time, line_events_at, events_read, events_of_line, events_or, make_task, migration_acts, line_moment, needed_cpu, switch_acts, wakeup_acts}
use Rattle.ftrace_import.specs.Laws.{runner}
use Rattle.ftrace_import.specs.Stands.{IsSeen, IsUnderWay, Leaves, Stands, limits}
use Rattle.ftrace_import.proofs.Steps.{Goes, goes_none, goes_one, later_in, step_migrate}
use Rattle.ftrace_import.proofs.Arrivals.{Comes, comes_made, comes_woken, less_room}
use Rattle.ftrace_import.proofs.Turns.{Turned, turns}
use Rattle.ftrace_import.proofs.Sights.{line_seen}

-- ---- no cause of rejection

-- No cause for rejecting the acts at the trace time `moment` (ns) applies.
record Pass (cpus : ℕ) (w : World) (moment : ℕ) (cpu : Cpu) (acts : List Act) : Type 0 where
  there : cpu.0 < cpus
  early : moment ≤ 2000000000000000
  space : make_task acts ≡ true → tasks_by.len w.tasks < 65536
  few : w.lines + length acts ≤ 3999999

past : (b : Bool) (why : ImportCause) (rest : Option ImportCause) → (cond b (Some why) rest) ≡ None → (b ≡ false) × (rest ≡ None)
past true why rest is = absurd (cc is)
past false why rest is = (refl, is)

space_for : (b : Bool) (live : ℕ) → (b && nat_le 65536 live) ≡ false → b ≡ true → live < 65536
space_for true live is some = grind (arith, nat_tests)
space_for false live is some = absurd (cc some)

pass : (cpus : ℕ) (w : World) (moment : ℕ) (cpu : Cpu) (acts : List Act) → acts_cause cpus w moment cpu acts ≡ None → Pass cpus w moment cpu acts
pass cpus w moment cpu acts is =
    let first = past _ cause.BadCpu _ is in
    let second = past _ cause.TooLate _ first.1 in
    let third = past _ cause.TooManyTasks _ second.1 in
    let fourth = past _ cause.TooManyEvents _ third.1 in
    let one : nat_le cpus cpu.0 ≡ false = first.0 in
    let two : nat_lt 2000000000000000 moment ≡ false = second.0 in
    let four : nat_lt 3999999 (w.lines + length acts) ≡ false = fourth.0 in
    record {
      there = grind (arith, nat_tests);
      early = grind (arith, nat_tests);
      space = space_for (make_task acts) (tasks_by.len w.tasks) third.0;
      few = grind (arith, nat_tests);
    }

-- Equal results have equal values.
ok_same : (x y : LineEvents) → (let r : Result LineEvents ImportCause = Ok x in r) ≡ Ok y → x ≡ y
ok_same x y is = cc is

-- ---- a wakeup

-- The acts are legal, and the task isn't blocked after them.
pub record Wakes (cpus at : ℕ) (pid : Pid) (w : World) (acts : List Act) : Type 0 where
  pub goes : Goes cpus at 0 w acts
  pub awake : is_some_and (task_of (after_from w (events_at at acts)).tasks pid.0) (λ task. is_active task.mode) ≡ true

ready_awake : (o : Option Task) (cpu : ℕ) → is_some_and o (is_ready_on cpu) ≡ true → is_some_and o (λ task. is_active task.mode) ≡ true
ready_awake None cpu ready = absurd (cc ready)
ready_awake (Some task) cpu ready = let up : is_ready task.mode ≡ true = second_true (task.cpu.0 == cpu) (is_ready task.mode) ready in rw up refl

come_awake : (cpus at : ℕ) (cpu : Cpu) (pid : Pid) (w : World) (acts : List Act) → Comes cpus at 0 cpu pid w acts → Wakes cpus at pid w acts
come_awake cpus at cpu pid w acts comes = record { goes = comes.goes; awake = ready_awake _ cpu.0 comes.ready }

wakes : (cpus at have : ℕ) (cpu : Cpu) (pid : Pid) (w : World) (o : Option Task) → Stands cpus at have w → length (wakeup_acts pid cpu o) ≤ have → IsPid pid → cpu.0 < cpus → task_of w.tasks pid.0 ≡ o → (make_task (wakeup_acts pid cpu o) ≡ true → tasks_by.len w.tasks < 65536) → Wakes cpus at pid w (wakeup_acts pid cpu o)
wakes cpus at have cpu pid w None so few is there live space = come_awake cpus at cpu pid w _ (comes_made cpus at 0 cpu pid w (less_room cpus at have (0 + 1) w so (omega (arith, few))) is there live (space refl))
wakes cpus at have cpu pid w (Some task) so few is there live space =
    elim (is_active task.mode) as (λ b. is_active task.mode ≡ b → length (cond b [] (act.Wake pid cpu ∷ [])) ≤ have → Wakes cpus at pid w (cond b [] (act.Wake pid cpu ∷ []))) [
      | true ↦ λ up fits. record { goes = goes_none cpus at 0 w (less_room cpus at have 0 w so (omega arith)); awake = rw (live, up) refl }
      | false ↦ λ sleeps fits. come_awake cpus at cpu pid w _ (comes_woken cpus at 0 cpu pid w task (less_room cpus at have (0 + 1) w so (omega (arith, fits))) is there live sleeps)
    ] refl few

-- ---- a migration

moves : (cpus at have : ℕ) (cpu : Cpu) (pid : Pid) (w : World) (o : Option Task) → Stands cpus at have w → length (migration_acts pid cpu o) ≤ have → IsPid pid → cpu.0 < cpus → task_of w.tasks pid.0 ≡ o → Goes cpus at 0 w (migration_acts pid cpu o)
moves cpus at have cpu pid w None so few is there live = goes_none cpus at 0 w (less_room cpus at have 0 w so (omega arith))
moves cpus at have cpu pid w (Some task) so few is there live =
    elim (is_ready task.mode && not (task.cpu.0 == cpu.0)) as (λ b. (is_ready task.mode && not (task.cpu.0 == cpu.0)) ≡ b → length (cond b (act.Migrate pid cpu ∷ []) []) ≤ have → Goes cpus at 0 w (cond b (act.Migrate pid cpu ∷ []) [])) [
      | true ↦ λ both fits. goes_one cpus at 0 w (act.Migrate pid cpu) (step_migrate cpus at 0 w pid cpu task (less_room cpus at have (0 + 1) w so (omega (arith, fits))) is there live (first_true (is_ready task.mode) (not (task.cpu.0 == cpu.0)) both))
      | false ↦ λ _ fits. goes_none cpus at 0 w (less_room cpus at have 0 w so (omega arith))
    ] refl few

-- ---- a switch

-- If the next task isn't live, the acts of the switch create it.
makes_next : (w : World) (cpu : Cpu) (previous next : Option Pid) (how : How) → (make_task (switch_acts w.tasks cpu previous next how) ≡ true → tasks_by.len w.tasks < 65536) → IfSome next (λ pid. task_of w.tasks pid.0 ≡ None → tasks_by.len w.tasks < 65536)
makes_next w cpu previous None how space = tt
makes_next w cpu previous (Some pid) how space = λ none. space (rw none refl)

switches : (cpus at have : ℕ) (w : World) (cpu : Cpu) (previous next : Option Pid) (how : How) → Stands cpus at have w → length (switch_acts w.tasks cpu previous next how) ≤ have → cpu.0 < cpus → IfSome next IsPid × Leaves how
    → (make_task (switch_acts w.tasks cpu previous next how) ≡ true → tasks_by.len w.tasks < 65536) → Turned cpus at 0 cpu next w (switch_acts w.tasks cpu previous next how)
switches cpus at have w cpu previous next how so few there is space =
    turns cpus at have 0 w cpu previous next how so (omega (arith, few)) there is.0 is.1 (λ _. makes_next w cpu previous next how space)

-- ---- any content

goes : (cpus at : ℕ) (w : World) (what : Seen) → Stands cpus at (length (acts_of w.tasks what)) w → IsSeen what → Pass cpus w at (needed_cpu what) (acts_of w.tasks what) → Goes cpus at 0 w (acts_of w.tasks what)
goes cpus at w (seen.Switch cpu previous next how) so is pass = (switches cpus at _ w cpu previous next how so (omega arith) pass.there is pass.space).goes
goes cpus at w (seen.Wakeup pid cpu) so is pass = (wakes cpus at _ cpu pid w (task_of w.tasks pid.0) so (omega arith) is pass.there refl pass.space).goes
goes cpus at w (seen.Migration pid cpu) so is pass = moves cpus at _ cpu pid w (task_of w.tasks pid.0) so (omega arith) is pass.there refl

-- The invariant holds at the time of a line, with room for its events.
placed_at : (cpus : ℕ) (reached : Reached) (at : ℕ) (cpu : Cpu) (acts : List Act) → IsUnderWay cpus reached → Pass cpus reached.world (line_moment reached at) cpu acts → Stands cpus (line_moment reached at) (length acts) reached.world
placed_at cpus reached at cpu acts so pass = later_in cpus reached.moment 0 (line_moment reached at) (length acts) reached.world so (omega arith) pass.early pass.few

-- The events of a line can be written as trace lines and are legal, and the import's invariant
-- holds after them.
pub record Gives (cpus : ℕ) (reached : Reached) (line_events : LineEvents) : Type 0 where
  pub fit : AllFit line_events.events
  pub known : AreKnown (verbs_of One) line_events.events
  pub legal : AreLegal (limits cpus) reached.world line_events.events
  pub world : line_events.reached.world ≡ after_from reached.world line_events.events
  pub later : IsUnderWay cpus line_events.reached

gives_or : (cpus : ℕ) (reached : Reached) (at : ℕ) (what : Seen) (line_events : LineEvents) → IsUnderWay cpus reached → IsSeen what → (o : Option ImportCause)
    → acts_cause cpus reached.world (line_moment reached at) (needed_cpu what) (acts_of reached.world.tasks what) ≡ o → events_or reached at (line_moment reached at) (acts_of reached.world.tasks what) o ≡ Ok line_events → Gives cpus reached line_events
gives_or cpus reached at what line_events so is (Some why) none found = absurd (cc found)
gives_or cpus reached at what line_events so is None none found =
    let passes = pass cpus reached.world (line_moment reached at) (needed_cpu what) (acts_of reached.world.tasks what) none in
    let all = goes cpus (line_moment reached at) reached.world what (placed_at cpus reached at (needed_cpu what) (acts_of reached.world.tasks what) so passes) is passes in
    subst (λ (g : LineEvents). Gives cpus reached g) (ok_same _ line_events found) (record { fit = all.fit; known = all.known; legal = all.legal; world = refl; later = all.later })

pub gives_at : (cpus : ℕ) (reached : Reached) (at : ℕ) (what : Seen) (line_events : LineEvents) → IsUnderWay cpus reached → IsSeen what → line_events_at cpus reached at what ≡ Ok line_events → Gives cpus reached line_events
unfolding line_events_at
gives_at cpus reached at what line_events so is found = gives_or cpus reached at what line_events so is _ refl found

gives_by : (cpus : ℕ) (reached : Reached) (line : List ℕ) (line_events : LineEvents) → IsUnderWay cpus reached → (r : Result (Option Sighting) ImportCause) → read_line line ≡ r → events_read cpus reached r ≡ Ok line_events → Gives cpus reached line_events
gives_by cpus reached line line_events so (Err why) read found = absurd (cc found)
gives_by cpus reached line line_events so (Ok None) read found = subst (λ (g : LineEvents). Gives cpus reached g) (ok_same _ line_events found) (record { fit = tt; known = tt; legal = tt; world = refl; later = so })
gives_by cpus reached line line_events so (Ok (Some sighting)) read found = gives_at cpus reached sighting.at sighting.seen line_events so (line_seen line sighting read) found

pub gives : (cpus : ℕ) (reached : Reached) (line : List ℕ) (line_events : LineEvents) → IsUnderWay cpus reached → events_of_line cpus reached line ≡ Ok line_events → Gives cpus reached line_events
unfolding events_of_line
gives cpus reached line line_events so found = gives_by cpus reached line line_events so (read_line line) refl found

-- ---- laws of one line

-- After a switch, the next task runs.
switch_or : (cpus : ℕ) (reached : Reached) (at : ℕ) (cpu : Cpu) (previous next : Option Pid) (how : How) (line_events : LineEvents) → IsUnderWay cpus reached → IfSome next IsPid × Leaves how → (o : Option ImportCause)
    → acts_cause cpus reached.world (line_moment reached at) cpu (switch_acts reached.world.tasks cpu previous next how) ≡ o → events_or reached at (line_moment reached at) (switch_acts reached.world.tasks cpu previous next how) o ≡ Ok line_events → runner line_events.reached.world.tasks cpu.0 ≡ next
switch_or cpus reached at cpu previous next how line_events so is (Some why) none found = absurd (cc found)
switch_or cpus reached at cpu previous next how line_events so is None none found =
    let acts = switch_acts reached.world.tasks cpu previous next how in
    let passes = pass cpus reached.world (line_moment reached at) cpu acts none in
    let turned = switches cpus (line_moment reached at) (length acts) reached.world cpu previous next how (placed_at cpus reached at cpu acts so passes) (omega arith) passes.there is passes.space in
    subst (λ (g : LineEvents). runner g.reached.world.tasks cpu.0 ≡ next) (ok_same _ line_events found) turned.runs

pub switch_runs : (cpus : ℕ) (reached : Reached) (at : ℕ) (cpu : Cpu) (previous next : Option Pid) (how : How) (line_events : LineEvents) → IsUnderWay cpus reached → IfSome next IsPid × Leaves how → line_events_at cpus reached at (seen.Switch cpu previous next how) ≡ Ok line_events → runner line_events.reached.world.tasks cpu.0 ≡ next
unfolding line_events_at
switch_runs cpus reached at cpu previous next how line_events so is found = switch_or cpus reached at cpu previous next how line_events so is _ refl found

-- After a wakeup, the task isn't blocked.
wakeup_or : (cpus : ℕ) (reached : Reached) (at : ℕ) (pid : Pid) (cpu : Cpu) (line_events : LineEvents) → IsUnderWay cpus reached → IsPid pid → (o : Option ImportCause)
    → acts_cause cpus reached.world (line_moment reached at) cpu (wakeup_acts pid cpu (task_of reached.world.tasks pid.0)) ≡ o → events_or reached at (line_moment reached at) (wakeup_acts pid cpu (task_of reached.world.tasks pid.0)) o ≡ Ok line_events
    → is_some_and (task_of line_events.reached.world.tasks pid.0) (λ task. is_active task.mode) ≡ true
wakeup_or cpus reached at pid cpu line_events so is (Some why) none found = absurd (cc found)
wakeup_or cpus reached at pid cpu line_events so is None none found =
    let acts = wakeup_acts pid cpu (task_of reached.world.tasks pid.0) in
    let passes = pass cpus reached.world (line_moment reached at) cpu acts none in
    let woken = wakes cpus (line_moment reached at) (length acts) cpu pid reached.world (task_of reached.world.tasks pid.0) (placed_at cpus reached at cpu acts so passes) (omega arith) is passes.there refl passes.space in
    subst (λ (g : LineEvents). is_some_and (task_of g.reached.world.tasks pid.0) (λ task. is_active task.mode) ≡ true) (ok_same _ line_events found) woken.awake

pub wakeup_wakes : (cpus : ℕ) (reached : Reached) (at : ℕ) (pid : Pid) (cpu : Cpu) (line_events : LineEvents) → IsUnderWay cpus reached → IsPid pid → line_events_at cpus reached at (seen.Wakeup pid cpu) ≡ Ok line_events → is_some_and (task_of line_events.reached.world.tasks pid.0) (λ task. is_active task.mode) ≡ true
unfolding line_events_at
wakeup_wakes cpus reached at pid cpu line_events so is found = wakeup_or cpus reached at pid cpu line_events so is _ refl found

-- ---- the result of a line, by its cause of rejection

-- The result of a line that isn't rejected.
abbrev pub line_events_after : Reached → ℕ → Seen → LineEvents
line_events_after reached at what = record {
  events = events_at (line_moment reached at) (acts_of reached.world.tasks what);
  reached = record {
    first = Some (first_time reached at);
    moment = line_moment reached at;
    world = after_from reached.world (events_at (line_moment reached at) (acts_of reached.world.tasks what));
  };
}

-- Returns the cause for rejecting a line with this content at this time, or `None`.
abbrev pub cause_at : ℕ → Reached → ℕ → Seen → Option ImportCause
cause_at cpus reached at what = acts_cause cpus reached.world (line_moment reached at) (needed_cpu what) (acts_of reached.world.tasks what)

pub events_free : (cpus : ℕ) (reached : Reached) (at : ℕ) (what : Seen) → cause_at cpus reached at what ≡ None → line_events_at cpus reached at what ≡ Ok (line_events_after reached at what)
unfolding line_events_at
events_free cpus reached at what none = ap (events_or reached at (line_moment reached at) (acts_of reached.world.tasks what)) none

pub events_refused : (cpus : ℕ) (reached : Reached) (at : ℕ) (what : Seen) (why : ImportCause) → cause_at cpus reached at what ≡ Some why → line_events_at cpus reached at what ≡ Err why
unfolding line_events_at
events_refused cpus reached at what why some = ap (events_or reached at (line_moment reached at) (acts_of reached.world.tasks what)) some
