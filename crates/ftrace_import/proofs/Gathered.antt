-- Proofs about the state of an import after a line.
use Rattle.std.proofs.Common.{◌≡◌, ℕ, ◌+◌, ◌-◌, ◌≤◌, ◌<◌, List, [], ◌∷◌, ◌++◌, refl, ap, ◌∙◌, sym, subst, arith, true, false, Option, None, Some, length, drop}
use Rattle.std.specs.Prelude.{is_some, max, Ok, Err, slice_index_or}
use Rattle.std.proofs.lemmas.List.{drop_more, length-append, length-map}
use Rattle.std.proofs.Math.ListN.{drop_of_length-le}
use Rattle.psi_base.specs.declared.event.Cpu.{Cpu}
use Rattle.psi_base.specs.declared.event.Event.{Event}
use Rattle.psi_spec.specs.Names.{names}
use Rattle.psi_spec.specs.Refusal.{AreLegal, cause_of}
use Rattle.psi_spec.specs.Trace.{IsCpuCount}
use Rattle.psi_spec.specs.World.{Limits, World, after_event, after_from, first_world, events_at}
use Rattle.psi_spec.proofs.Following.{after_from-append}
use Rattle.import_spec.specs.declared.cause.ImportCause.{ImportCause}
use Rattle.import_spec.specs.declared.seen.Seen.{Seen}
use Rattle.import_spec.specs.declared.seen.Sighting.{Sighting}
use Rattle.import_spec.specs.Marked.{read_line}
use Rattle.import_spec.specs.Events.{LineEvents, Reached, acts_cause, acts_of, first_time, line_events_at, events_read, events_of_line, make_task, line_moment, needed_cpu, unreached}
use Rattle.import_spec.specs.Import.{end_at}
use Rattle.ftrace_import.specs.declared.deeds.Kept.{Kept}
use Rattle.ftrace_import.specs.declared.taking.Gathering.{Gathering}
use Rattle.ftrace_import.specs.Deeds.{act_by, acts_in, event_by, events_by}
use Rattle.ftrace_import.specs.Gathers.{HasTaken, IsGathered, reached_in, whole_events}
use Rattle.ftrace_import.specs.Stands.{Ends, IsSeen, IsUnderWay, Run, limits}
use Rattle.ftrace_import.proofs.Keeping.{acts_new, kept_new}
use Rattle.ftrace_import.proofs.Lines.{Gives, cause_at, line_events_after, events_free, gives_at}
use Rattle.ftrace_import.proofs.Steps.{first_in}
use Rattle.ftrace_import.proofs.Whole.{end_runs, ends_after, run_on}

-- ---- deeds one by one

-- A deed (a stored act) that creates no task doesn't change whether the rest creates one.
pub making_on : (kept : List Kept) (at : ℕ) (one : Kept) → at < length kept → one ≡ slice_index_or kept at one → is_some (names (act_by one.deed)).new_task ≡ false → make_task (acts_in (drop at kept)) ≡ make_task (acts_in (drop (at + 1) kept))
making_on kept at one inside is none = rw (drop_more kept at one inside, sym is, none) refl

-- If the deed at an index creates a task, the deeds from this index on create a task.
pub making_one : (kept : List Kept) (at : ℕ) (one : Kept) → at < length kept → one ≡ slice_index_or kept at one → is_some (names (act_by one.deed)).new_task ≡ true → make_task (acts_in (drop at kept)) ≡ true
making_one kept at one inside is some = rw (drop_more kept at one inside, sym is, some) refl

-- No deed is left, so none creates a task.
pub making_end : (kept : List Kept) (at : ℕ) → length kept ≤ at → make_task (acts_in (drop at kept)) ≡ false
making_end kept at end = rw (drop_of_length-le kept end) refl

-- The next event is legal, and the events after it are legal in the world after it.
pub legal_next : (l : Limits) (w : World) (kept : List Kept) (at : ℕ) (one : Kept) → at < length kept → one ≡ slice_index_or kept at one → AreLegal l w (events_by (drop at kept)) → (cause_of l w (event_by one) ≡ None) × AreLegal l (after_event w (event_by one)) (events_by (drop (at + 1) kept))
legal_next l w kept at one inside is legal =
    let same : drop at kept ≡ one ∷ drop (at + 1) kept = drop_more kept at one inside ∙ ap (λ (x : Kept). x ∷ drop (at + 1) kept) (sym is) in
    subst (λ ks. AreLegal l w (events_by ks)) same legal

pub world_next : (w : World) (kept : List Kept) (at : ℕ) (one : Kept) → at < length kept → one ≡ slice_index_or kept at one → after_from w (events_by (drop at kept)) ≡ after_from (after_event w (event_by one)) (events_by (drop (at + 1) kept))
world_next w kept at one inside is =
    let same : drop at kept ≡ one ∷ drop (at + 1) kept = drop_more kept at one inside ∙ ap (λ (x : Kept). x ∷ drop (at + 1) kept) (sym is) in
    ap (λ ks. after_from w (events_by ks)) same

pub world_end : (w : World) (kept : List Kept) (at : ℕ) → length kept ≤ at → after_from w (events_by (drop at kept)) ≡ w
world_end w kept at end = rw (drop_of_length-le kept end) refl

-- ---- the state between lines

-- The invariant holds before the first line.
pub gathered_none : (g : Gathering) → IsCpuCount g.cpus → g.table.limits ≡ limits g.cpus → reached_in g ≡ unreached → g.kept.items ≡ [] → IsGathered g
gathered_none g counted limits_are fresh none = record {
  limits_are = limits_are;
  under = subst (λ (r : Reached). IsUnderWay g.cpus r) (sym fresh) (first_in g.cpus counted);
  run = subst (λ ks. Run g.cpus first_world (events_by ks)) (sym none) (record { fit = tt; known = tt; legal = tt });
  after_them = ap (λ (r : Reached). r.world) fresh ∙ sym (ap (λ ks. after_from first_world (events_by ks)) none);
}

-- The invariant holds after a line.
pub taken_events : (cpus : ℕ) (old new : Gathering) (line_events : LineEvents) → IsGathered old → new.cpus ≡ old.cpus → new.table.limits ≡ old.table.limits → events_by new.kept.items ≡ events_by old.kept.items ++ line_events.events → reached_in new ≡ line_events.reached
    → Gives old.cpus (reached_in old) line_events → IsGathered new
taken_events cpus old new line_events so same limits_same kept reached gives = record {
  limits_are = limits_same ∙ so.limits_are ∙ ap limits (sym same);
  under = subst (λ n. IsUnderWay n (reached_in new)) (sym same) (subst (λ (r : Reached). IsUnderWay old.cpus r) (sym reached) gives.later);
  run = subst (λ n. Run n first_world (events_by new.kept.items)) (sym same) (subst (λ es. Run old.cpus first_world es) (sym kept)
      (run_on old.cpus first_world (events_by old.kept.items) line_events.events so.run (subst (λ (w : World). Run old.cpus w line_events.events) so.after_them (record { fit = gives.fit; known = gives.known; legal = gives.legal }))));
  after_them =
      ap (λ (r : Reached). r.world) reached ∙ gives.world ∙ ap (λ (w : World). after_from w line_events.events) so.after_them
      ∙ sym (after_from-append first_world (events_by old.kept.items) line_events.events) ∙ ap (after_from first_world) (sym kept);
}

-- ---- a line that is read

pub take_known : (cpus : ℕ) (reached : Reached) (line : List ℕ) (sighting : Sighting) → Ok (Some sighting) ≡ read_line line → events_of_line cpus reached line ≡ line_events_at cpus reached sighting.at sighting.seen
unfolding events_of_line
take_known cpus reached line sighting is = ap (events_read cpus reached) (sym is)

pub take_none : (cpus : ℕ) (reached : Reached) (line : List ℕ) → Ok None ≡ read_line line → events_of_line cpus reached line ≡ Ok (record { events = []; reached = reached })
unfolding events_of_line
take_none cpus reached line is = ap (events_read cpus reached) (sym is)

pub take_bad : (cpus : ℕ) (reached : Reached) (line : List ℕ) (why : ImportCause) → Err why ≡ read_line line → events_of_line cpus reached line ≡ Err why
unfolding events_of_line
take_bad cpus reached line why is = ap (events_read cpus reached) (sym is)

-- ---- the content of a line

-- The values that the code has for a line with this content at time `at` (ns): its trace time, the
-- number of events stored before, and the newly stored events.
pub record Sighted (old : Gathering) (at : ℕ) (what : Seen) (moment before : ℕ) (cpu : Cpu) (part new : List Kept) : Type 0 where
  pub moment_is : moment ≡ line_moment (reached_in old) at
  pub cpu_is : cpu ≡ needed_cpu what
  pub before_is : before ≡ length old.kept.items
  pub part_is : part ≡ drop before new
  pub kept : events_by new ≡ events_by old.kept.items ++ events_at moment (acts_of old.table.world.tasks what)

pub sighted : (old : Gathering) (at : ℕ) (what : Seen) (first moment before : ℕ) (cpu : Cpu) (part new : List Kept) → first ≡ first_time (reached_in old) at → moment ≡ max old.moment (at - first) → cpu ≡ needed_cpu what → before ≡ length old.kept.items → part ≡ drop before new → events_by new ≡ events_by old.kept.items ++ events_at moment (acts_of old.table.world.tasks what) → Sighted old at what moment before cpu part new
sighted old at what first moment before cpu part new begins moved needed count suffix kept = record {
  moment_is = moved ∙ ap (λ f. max old.moment (at - f)) begins;
  cpu_is = needed;
  before_is = count;
  part_is = suffix;
  kept = kept;
}

-- The stored events don't become fewer.
pub kept_longer : (old new : List Kept) (events : List Event) (before : ℕ) → before ≡ length old → events_by new ≡ events_by old ++ events → before ≤ length new
kept_longer old new events before is kept =
    let all = sym (length-map new event_by) ∙ ap length kept ∙ length-append (events_by old) events in
    let prefix = length-map old event_by in
    omega (arith, all, prefix, is)

part_new : (old : Gathering) (at : ℕ) (what : Seen) (moment before : ℕ) (cpu : Cpu) (part new : List Kept) → Sighted old at what moment before cpu part new → part ≡ drop (length old.kept.items) new
part_new old at what moment before cpu part new is = is.part_is ∙ ap (λ n. drop n new) is.before_is

kept_at : (old : Gathering) (at : ℕ) (what : Seen) (moment before : ℕ) (cpu : Cpu) (part new : List Kept) → Sighted old at what moment before cpu part new → events_by new ≡ events_by old.kept.items ++ events_at (line_moment (reached_in old) at) (acts_of old.table.world.tasks what)
kept_at old at what moment before cpu part new is = is.kept ∙ ap (λ m. events_by old.kept.items ++ events_at m (acts_of old.table.world.tasks what)) is.moment_is

part_events : (old : Gathering) (at : ℕ) (what : Seen) (moment before : ℕ) (cpu : Cpu) (part new : List Kept) → Sighted old at what moment before cpu part new → events_by part ≡ events_at (line_moment (reached_in old) at) (acts_of old.table.world.tasks what)
part_events old at what moment before cpu part new is =
    ap events_by (part_new old at what moment before cpu part new is) ∙ kept_new old.kept.items new _ (kept_at old at what moment before cpu part new is)

pub cause_is : (old : Gathering) (at : ℕ) (what : Seen) (moment before : ℕ) (cpu : Cpu) (part new : List Kept) (o : Option ImportCause) → Sighted old at what moment before cpu part new → o ≡ acts_cause old.cpus old.table.world moment cpu (acts_in part) → cause_at old.cpus (reached_in old) at what ≡ o
cause_is old at what moment before cpu part new o is found =
    let acts : acts_in part ≡ acts_of old.table.world.tasks what =
    ap acts_in (part_new old at what moment before cpu part new is) ∙ acts_new old.kept.items new (line_moment (reached_in old) at) (acts_of old.table.world.tasks what) (kept_at old at what moment before cpu part new is) in
    sym (found ∙ rw (acts, is.moment_is, is.cpu_is) refl)

pub gives_here : (old : Gathering) (at : ℕ) (what : Seen) → IsGathered old → IsSeen what → cause_at old.cpus (reached_in old) at what ≡ None → Gives old.cpus (reached_in old) (line_events_after (reached_in old) at what)
gives_here old at what so seen none = gives_at old.cpus (reached_in old) at what (line_events_after (reached_in old) at what) so.under seen (events_free old.cpus (reached_in old) at what none)

pub sighted_plays : (old : Gathering) (at : ℕ) (what : Seen) (moment before : ℕ) (cpu : Cpu) (part new : List Kept) → Sighted old at what moment before cpu part new → IsGathered old → IsSeen what → cause_at old.cpus (reached_in old) at what ≡ None → AreLegal old.table.limits old.table.world (events_by part)
sighted_plays old at what moment before cpu part new is so seen none =
    let legal = (gives_here old at what so seen none).legal in
    subst (λ (l : Limits). AreLegal l old.table.world (events_by part)) (sym so.limits_are) (subst (λ es. AreLegal (limits old.cpus) old.table.world es) (sym (part_events old at what moment before cpu part new is)) legal)

pub sighted_taken : (old now : Gathering) (at : ℕ) (what : Seen) (moment before : ℕ) (cpu : Cpu) (part : List Kept) → Sighted old at what moment before cpu part now.kept.items → IsGathered old → IsSeen what → cause_at old.cpus (reached_in old) at what ≡ None
    → now.cpus ≡ old.cpus → now.first ≡ Some (first_time (reached_in old) at) → now.moment ≡ moment → now.table.limits ≡ old.table.limits → now.table.world ≡ after_from old.table.world (events_by part) → HasTaken (line_events_at old.cpus (reached_in old) at what) old now
sighted_taken old now at what moment before cpu part is so seen none cpus first last limits_same world =
    let gives = gives_here old at what so seen none in
    let there : now.table.world ≡ after_from old.table.world (events_at (line_moment (reached_in old) at) (acts_of old.table.world.tasks what)) = world ∙ ap (after_from old.table.world) (part_events old at what moment before cpu part now.kept.items is) in
    let reached : reached_in now ≡ (line_events_after (reached_in old) at what).reached = rw (first, last, is.moment_is, there) refl in
    let kept = kept_at old at what moment before cpu part now.kept.items is in
    record {
      suffix = line_events_after (reached_in old) at what;
      is = events_free old.cpus (reached_in old) at what none;
      kept = kept;
      reached = reached;
      cpus = cpus;
      so = taken_events old.cpus old now (line_events_after (reached_in old) at what) so cpus limits_same kept reached gives;
    }

-- ---- all lines

-- The events of an import and its end are legal from the first world.
pub all_end : (cpus : ℕ) (g : Gathering) → IsGathered g → g.cpus ≡ cpus → Ends cpus first_world (whole_events g)
all_end cpus g so is =
    subst (λ n. Ends n first_world (whole_events g)) is (record {
      run = run_on g.cpus first_world (events_by g.kept.items) (end_at (reached_in g) ∷ []) so.run (subst (λ (w : World). Run g.cpus w (end_at (reached_in g) ∷ [])) so.after_them (end_runs g.cpus (reached_in g) so.under));
      ends = ends_after (events_by g.kept.items) (end_at (reached_in g) ∷ []) ([], g.moment, refl);
    })
