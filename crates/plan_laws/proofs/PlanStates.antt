-- The states of groups on a processor that follow from its changes.
use Rattle.std.proofs.Common.{◌≡◌, ℕ, zero, suc, ◌+◌, ◌-◌, ◌≤◌, List, [], ◌∷◌, ◌++◌, length, map, take, drop, refl, sym, ap, ◌∙◌, arith, subst, Bool, false, Option, None, true, append_assoc, ⊎_elim}
use Rattle.std.specs.Prelude.{filter, slice_index_or, ◌&&◌}
use Rattle.std.proofs.lemmas.List.{append-nil, length-append, length-map, map-append, length-take-le, take-append-drop, take-map, get_or-take}
use Rattle.std.proofs.Math.Seq.{get_or-append_seam}
use Rattle.psi_base.specs.declared.event.Slot.{Slot}
use Rattle.psi_base.specs.declared.event.State.{State}
use Rattle.psi_base.specs.declared.event.Event.{Event}
use Rattle.psi_spec.specs.declared.machine.GroupLife.{GroupLife}
use Rattle.psi_spec.specs.declared.machine.Task.{Task}
use Rattle.psi_counts.specs.declared.changes.Change.{Change}
use Rattle.psi_counts.specs.declared.changes.Counts.{Counts}
use Rattle.psi_spec.specs.World.{World, Limits, after, after_event, after_from, first_world, is_on}
use Rattle.psi_spec.specs.Refusal.{cause_of, AreLegal}
use Rattle.psi_spec.specs.Stall.{holds, holds_of, is_in, parents_of, tasks_in}
use Rattle.psi_counts.specs.Counts.{IsRunningKnown, shows}
use Rattle.psi_spec.specs.LegalGroups.{new_parents}
use Rattle.psi_counts.specs.Touch.{AreAtMost, Follows, account_of, on_with, is_current_in, is_current_stalled, no_counts}
use Rattle.psi_counts.specs.Legal.{IsLegalWorld, added, changes_from, taken}
use Rattle.plan_laws.specs.Plan.{FitsPlan, plan_of, holds_after, on_from, less, Leaves, LeavesFew, PlanShowsStates}
use Rattle.psi_spec.specs.Changes.{event_of_change, until_change}
use Rattle.psi_spec.proofs.Following.{after_from-append}
use Rattle.psi_spec.proofs.GroupChanges.{parents_kept}
use Rattle.psi_counts.proofs.AccountLaws.{on_by_account}
use Rattle.psi_counts.proofs.LegalLaws.{counts_are_few, counts_are_sums, legal_first, legal_kept, same_tasks_later}
use Rattle.psi_counts.proofs.MaskLaws.{counts_show}
use Rattle.plan_laws.proofs.PlanLaws.{after-push, as_many, by_last, changes_same, changes_grow, touched_or_not, until_is}
use Rattle.psi_spec.proofs.TaskLaws.{no_entries}
use Rattle.psi_counts.proofs.TouchLaws.{stays_untouched}
use Rattle.psi_counts.proofs.TouchWithin.{change_shows}

-- ---- prefixes of legal events

pub legal_prefix : (limits : Limits) (w : World) (prefix rest : List Event) → AreLegal limits w (prefix ++ rest) → AreLegal limits w prefix
legal_prefix limits w [] rest legal = tt
legal_prefix limits w (event ∷ prefix) rest legal = (legal.0, legal_prefix limits (after_event w event) prefix rest legal.1)

pub legal_last : (limits : Limits) (w : World) (prefix : List Event) (event : Event) → AreLegal limits w (prefix ++ event ∷ []) → cause_of limits (after_from w prefix) event ≡ None
legal_last limits w [] event legal = legal.0
legal_last limits w (first ∷ prefix) event legal = legal_last limits (after_event w first) prefix event legal.1

legal_from : (limits : Limits) (w : World) (events : List Event) → IsLegalWorld limits w → AreLegal limits w events → IsLegalWorld limits (after_from w events)
legal_from limits w [] world legal = world
legal_from limits w (event ∷ events) world legal = legal_from limits (after_event w event) events (legal_kept limits w event legal.0 world) legal.1

-- the world after legal events is legal
pub legal_after : (limits : Limits) (events : List Event) → AreLegal limits first_world events → IsLegalWorld limits (after events)
legal_after limits events legal = legal_from limits first_world events (legal_first limits) legal

-- The list `many` extends the list `few` at its end.
abbrev pub Prolongs : List (Option ℕ) → List (Option ℕ) → Type 0
Prolongs few many = (more : List (Option ℕ)) × (many ≡ few ++ more)

pub prolongs_by : (w : World) (events : List Event) → Prolongs (parents_of w.groups) (parents_of (after_from w events).groups)
prolongs_by w [] = ([], sym (append-nil (parents_of w.groups)))
prolongs_by w (event ∷ events) =
    let rest = prolongs_by (after_event w event) events in
    (new_parents w.groups event.act ++ rest.0, rest.1 ∙ ap (λ ps. ps ++ rest.0) (parents_kept w event) ∙ append_assoc (parents_of w.groups) (new_parents w.groups event.act) rest.0)

pub prolongs_back : (w : World) (event : Event) (many : List (Option ℕ)) → Prolongs (parents_of (after_event w event).groups) many → Prolongs (parents_of w.groups) many
prolongs_back w event many later =
    (new_parents w.groups event.act ++ later.0, later.1 ∙ ap (λ ps. ps ++ later.0) (parents_kept w event) ∙ append_assoc (parents_of w.groups) (new_parents w.groups event.act) later.0)

-- ---- which task runs

abbrev pub currents : List Change → List (Option (Slot × Bool))
currents changes = map (λ (change : Change). change.current) changes

-- The running task according to the last of some changes.
abbrev pub shown_last : List Change → Option (Slot × Bool)
shown_last changes = slice_index_or (None ∷ currents changes) (length changes) None

shown-push : (changes : List Change) (change : Change) → shown_last (changes ++ change ∷ []) ≡ change.current
shown-push changes change =
    let len : length (changes ++ change ∷ []) ≡ suc (length (currents changes)) = omega (arith, length-append changes (change ∷ []), length-map changes (λ (c : Change). c.current)) in
    ap (λ n. slice_index_or (None ∷ currents (changes ++ change ∷ [])) n None) len
    ∙ ap (λ is. slice_index_or is (length (currents changes)) None) (map-append (λ (c : Change). c.current) changes (change ∷ []))
    ∙ get_or-append_seam (currents changes) change.current [] None

-- The optional running task `current` determines which task of a group is running on the processor.
abbrev RunsAsKnown : List (Option ℕ) → ℕ → ℕ → List Event → Option (Slot × Bool) → Type 0
RunsAsKnown parents cpu slot events current = IsRunningKnown (tasks_in parents cpu slot (after events).tasks) (is_current_in parents slot current) (is_current_stalled current)

nothing_runs : IsRunningKnown [] false false
nothing_runs = record { at_most_one = omega arith; one_runs = refl; it_is_stalled = refl }

runs-none : (parents : List (Option ℕ)) (cpu slot : ℕ) → RunsAsKnown parents cpu slot [] None
runs-none parents cpu slot =
    let none : tasks_in parents cpu slot first_world.tasks ≡ [] = ap (λ es. filter (is_in parents cpu slot) (map (λ (e : ℕ × Task). e.1) es)) no_entries in
    subst (λ tasks. IsRunningKnown tasks false false) (sym none) nothing_runs

runs-push : (limits : Limits) (parents : List (Option ℕ)) (cpu slot : ℕ) (events : List Event) (event : Event)
    → (AreLegal limits first_world events → RunsAsKnown parents cpu slot events (shown_last (changes_from cpu first_world events)))
    → AreLegal limits first_world (events ++ event ∷ []) → RunsAsKnown parents cpu slot (events ++ event ∷ []) (shown_last (changes_from cpu first_world (events ++ event ∷ [])))
runs-push limits parents cpu slot events event before legal =
    let first = legal_prefix limits first_world events (event ∷ []) legal in
    let allowed = legal_last limits first_world events event legal in
    let world = legal_after limits events first in
    let later : after (events ++ event ∷ []) ≡ after_event (after events) event = after-push events event in
    ⊎_elim
    (λ off.
    let same : changes_from cpu first_world (events ++ event ∷ []) ≡ changes_from cpu first_world events = changes_same cpu events event off in
    let stays = (stays_untouched limits (after events) event allowed cpu off.none parents slot).1 _ _ (before first) in
    rw (same, later) stays)
    (λ on.
    let more : changes_from cpu first_world (events ++ event ∷ []) ≡ changes_from cpu first_world events ++ on.change ∷ [] = changes_grow cpu events event on in
    let current : shown_last (changes_from cpu first_world (events ++ event ∷ [])) ≡ on.change.current = ap shown_last more ∙ shown-push (changes_from cpu first_world events) on.change in
    let turned = (change_shows limits (after events) event allowed world.once cpu on.change on.one parents slot).1 in
    rw (current, later) turned)
    (touched_or_not (after events) event cpu)

runs_as_known : (limits : Limits) (parents : List (Option ℕ)) (cpu slot : ℕ) (events : List Event) → AreLegal limits first_world events → RunsAsKnown parents cpu slot events (shown_last (changes_from cpu first_world events))
runs_as_known limits parents cpu slot events =
    by_last (λ es. AreLegal limits first_world es → RunsAsKnown parents cpu slot es (shown_last (changes_from cpu first_world es))) (λ _. runs-none parents cpu slot) (runs-push limits parents cpu slot) events

-- ---- which accounting is on

-- Whether accounting is on after one more change follows from whether it is on before the change.
pub on_from-push : (slot : ℕ) (on : Bool) (changes : List Change) (change : Change) → on_from slot on (changes ++ change ∷ []) ≡ on_with slot (on_from slot on changes) change.account
on_from-push slot on [] change = refl
on_from-push slot on (first ∷ changes) change = on_from-push slot (on_with slot on first.account) changes change

-- the changes of any processor determine whether a group's accounting is on
abbrev OnAsKnown : ℕ → ℕ → List Event → Type 0
OnAsKnown cpu slot events = on_from slot true (changes_from cpu first_world events) ≡ is_on (after events).groups slot

on-none : (cpu slot : ℕ) → OnAsKnown cpu slot []
on-none cpu zero = refl
on-none cpu (suc slot) = refl

on-push : (limits : Limits) (cpu slot : ℕ) (events : List Event) (event : Event)
    → (AreLegal limits first_world events → OnAsKnown cpu slot events) → AreLegal limits first_world (events ++ event ∷ []) → OnAsKnown cpu slot (events ++ event ∷ [])
on-push limits cpu slot events event before legal =
    let first = legal_prefix limits first_world events (event ∷ []) legal in
    let allowed = legal_last limits first_world events event legal in
    let groups : List GroupLife = (after events).groups in
    let now : is_on (after (events ++ event ∷ [])).groups slot ≡ on_with slot (is_on groups slot) (account_of groups event.act) =
    ap (λ (w : World). is_on w.groups slot) (after-push events event) ∙ on_by_account limits (after events) event allowed (legal_after limits events first).groups slot in
    ⊎_elim
    (λ off.
    let none = (stays_untouched limits (after events) event allowed cpu off.none [] slot).3 in
    ap (on_from slot true) (changes_same cpu events event off) ∙ before first ∙ ap (on_with slot (is_on groups slot)) (sym none) ∙ sym now)
    (λ on.
    ap (on_from slot true) (changes_grow cpu events event on)
    ∙ on_from-push slot true (changes_from cpu first_world events) on.change
    ∙ ap (λ b. on_with slot b on.change.account) (before first)
    ∙ ap (on_with slot (is_on groups slot)) on.account
    ∙ sym now)
    (touched_or_not (after events) event cpu)

pub on_as_known : (limits : Limits) (cpu slot : ℕ) (events : List Event) → AreLegal limits first_world events → OnAsKnown cpu slot events
on_as_known limits cpu slot events =
    by_last (λ es. AreLegal limits first_world es → OnAsKnown cpu slot es) (λ _. on-none cpu slot) (on-push limits cpu slot) events

-- ---- states

less_than : (new taken added : ℕ) → new + taken ≡ 0 + added → new ≡ added - taken
less_than new taken added is = omega (arith, is)

-- Counts whose fields are equal to given numbers.
pub counts_are : (new : Counts) (io stalled running stalled_running : ℕ) → new.io ≡ io → new.stalled ≡ stalled → new.running ≡ running → new.stalled_running ≡ stalled_running → new ≡ record { io = io; stalled = stalled; running = running; stalled_running = stalled_running }
counts_are new io stalled running stalled_running a b c d = rw (← a, ← b, ← c, ← d) refl

-- Counts that follow from zero counts are the added counts minus the subtracted counts.
follows_less : (taken added new : Counts) → Follows no_counts taken added new → new ≡ less added taken
follows_less taken added new is =
    counts_are new _ _ _ _ (less_than new.io taken.io added.io is.io) (less_than new.stalled taken.stalled added.stalled is.stalled)
    (less_than new.running taken.running added.running is.running) (less_than new.stalled_running taken.stalled_running added.stalled_running is.stalled_running)

-- Whether a group is in a state, computed from the changes of the processor.
abbrev pub known_by : State → List (Option ℕ) → ℕ → List Change → Bool
known_by state parents slot changes = on_from slot true changes && shows state (less (added parents slot changes) (taken parents slot changes)) (is_current_in parents slot (shown_last changes)) (is_current_stalled (shown_last changes))

known_by_last : (limits : Limits) (events : List Event) → AreLegal limits first_world events → (more : List (Option ℕ)) (state : State) (cpu slot : ℕ) →
    known_by state (parents_of (after events).groups ++ more) slot (changes_from cpu first_world events) ≡ holds state cpu slot (after events)
unfolding holds
known_by_last limits events legal more state cpu slot =
    let parents : List (Option ℕ) = parents_of (after events).groups ++ more in
    let changes : List Change = changes_from cpu first_world events in
    let counts = follows_less (taken parents slot changes) (added parents slot changes) _ (counts_are_sums limits events legal parents cpu slot) in
    let states = counts_show (tasks_in parents cpu slot (after events).tasks) _ _ (runs_as_known limits parents cpu slot events legal) state in
    let same = same_tasks_later limits (after events) (legal_after limits events legal) more cpu slot in
    let on : Bool = on_from slot true changes in
    ap (λ n. on && shows state n (is_current_in parents slot (shown_last changes)) (is_current_stalled (shown_last changes))) (sym counts)
    ∙ ap (λ b. on && b) (sym states ∙ ap (holds_of state) same)
    ∙ ap (λ b. b && holds_of state (tasks_in (parents_of (after events).groups) cpu slot (after events).tasks)) (on_as_known limits cpu slot events legal)

-- The states that the changes of a processor determine are the states after the events, also with
-- the parents of groups that are created later.
pub known_by_changes : (limits : Limits) (events : List Event) → AreLegal limits first_world events → (parents : List (Option ℕ)) → Prolongs (parents_of (after events).groups) parents → (state : State) (cpu slot : ℕ) →
    known_by state parents slot (changes_from cpu first_world events) ≡ holds state cpu slot (after events)
known_by_changes limits events legal parents more state cpu slot =
    ap (λ ps. known_by state ps slot (changes_from cpu first_world events)) more.1 ∙ known_by_last limits events legal more.0 state cpu slot

-- ---- a plan after some changes

-- The running task after the first `k` changes is the running task of change `k`.
pub shown-take : (changes : List Change) (k : ℕ) → k ≤ length changes → shown_last (take k changes) ≡ slice_index_or (None ∷ currents changes) k None
shown-take changes zero low = refl
shown-take changes (suc k) low =
    let len : length (take (suc k) changes) ≡ suc k = length-take-le (suc k) changes low in
    let prefix : currents (take (suc k) changes) ≡ take (suc k) (currents changes) = sym (take-map (λ (c : Change). c.current) (suc k) changes) in
    ap (λ n. slice_index_or (None ∷ currents (take (suc k) changes)) n None) len
    ∙ ap (λ is. slice_index_or is k None) prefix
    ∙ get_or-take (suc k) (currents changes) k None (omega arith)

-- The states after `k` changes depend only on the first `k` changes.
pub holds_by_prefix : (state : State) (parents : List (Option ℕ)) (changes : List Change) (slot k : ℕ) → k ≤ length changes → holds_after state (record { changes = changes; parents = parents }) slot k ≡ known_by state parents slot (take k changes)
unfolding holds_after
holds_by_prefix state parents changes slot k low =
    ap (λ current. on_from slot true (take k changes) && shows state (less (added parents slot (take k changes)) (taken parents slot (take k changes))) (is_current_in parents slot current) (is_current_stalled current)) (sym (shown-take changes k low))

-- The events up to a change of legal events are legal.
pub until_legal : (limits : Limits) (cpu : ℕ) (events : List Event) (k : ℕ) → AreLegal limits first_world events → AreLegal limits first_world (until_change cpu events k)
until_legal limits cpu events k legal =
    let parts = take-append-drop (event_of_change cpu events k) events in
    legal_prefix limits first_world (until_change cpu events k) (drop (event_of_change cpu events k) events) (rw parts legal)

-- The parents after all events extend the parents after the events up to a change.
pub until_prolongs : (cpu : ℕ) (events : List Event) (k : ℕ) → Prolongs (parents_of (after (until_change cpu events k)).groups) (parents_of (after events).groups)
until_prolongs cpu events k =
    let rest : List Event = drop (event_of_change cpu events k) events in
    let parts = take-append-drop (event_of_change cpu events k) events in
    let whole : after events ≡ after_from (after (until_change cpu events k)) rest = ap after (sym parts) ∙ after_from-append first_world (until_change cpu events k) rest in
    let by = prolongs_by (after (until_change cpu events k)) rest in
    (by.0, ap (λ (w : World). parents_of w.groups) whole ∙ by.1)

pub plan_shows_states : PlanShowsStates
plan_shows_states limits events legal state cpu slot k low =
    let changes : List Change = changes_from cpu first_world events in
    let parents : List (Option ℕ) = parents_of (after events).groups in
    let until = until_is cpu events k low in
    holds_by_prefix state parents changes slot k (omega (arith, low, as_many cpu events))
    ∙ ap (known_by state parents slot) (sym until.changes)
    ∙ known_by_changes limits (until_change cpu events k) (until_legal limits cpu events k legal) parents (until_prolongs cpu events k) state cpu slot

-- ---- counts

leaves : (new taken added : ℕ) → new + taken ≡ 0 + added → new ≤ 65536 → Leaves taken added
leaves new taken added is few = (omega (arith, is), omega (arith, is, few))

leaves_few : (taken added new : Counts) → Follows no_counts taken added new → AreAtMost 65536 new → LeavesFew taken added
leaves_few taken added new is few = record {
  io = leaves new.io taken.io added.io is.io few.io;
  stalled = leaves new.stalled taken.stalled added.stalled is.stalled few.stalled;
  running = leaves new.running taken.running added.running is.running few.running;
  stalled_running = leaves new.stalled_running taken.stalled_running added.stalled_running is.stalled_running few.stalled_running;
}

pub plan_fits : (limits : Limits) (events : List Event) → AreLegal limits first_world events → (cpu : ℕ) → FitsPlan (plan_of cpu events)
plan_fits limits events legal cpu slot k low =
    let parents : List (Option ℕ) = parents_of (after events).groups in
    let until = until_is cpu events k (omega (arith, low, as_many cpu events)) in
    let prefix = until_legal limits cpu events k legal in
    subst (λ changes. LeavesFew (taken parents slot changes) (added parents slot changes)) until.changes
    (leaves_few _ _ _ (counts_are_sums limits (until_change cpu events k) prefix parents cpu slot) (counts_are_few limits (after (until_change cpu events k)) (legal_after limits (until_change cpu events k) prefix) parents cpu slot))
