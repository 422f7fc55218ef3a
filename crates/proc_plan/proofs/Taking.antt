-- Proves what a planner has taken after one more event.
use Rattle.std.proofs.Common.{◌≡◌, ℕ, ◌<◌, ◌≤◌, List, [], ◌∷◌, ◌++◌, length, refl, sym, ap, ◌∙◌, subst, arith, Bool, true, false, Option, None, Some, IsSome, IfSome, append_assoc, take, drop}
use Rattle.std.proofs.Math.Seq.{take-append_seam}
use Rattle.std.specs.Prelude.{if◌then◌else◌, ◌==◌, Result, Ok, Err}
use Rattle.std.proofs.lemmas.Bool.Decides.{eqb_tells}
use Rattle.std.proofs.lemmas.List.{append-nil, length-append}
use Rattle.psi_base.specs.declared.event.Cause.{Cause}
use Rattle.psi_base.specs.declared.event.Cpu.{Cpu}
use Rattle.psi_base.specs.declared.event.Event.{Event}
use Rattle.psi_base.specs.declared.event.Fault.{Fault}
use Rattle.psi_base.specs.declared.event.Fault.TheVariants as fault
use Rattle.psi_base.specs.declared.event.Slot.{Slot}
use Rattle.psi_base.specs.declared.event.TriggerSpec.{TriggerSpec}
use Rattle.psi_counts.specs.declared.changes.Change.{Change}
use Rattle.psi_counts.specs.declared.changes.Touch.{Touch}
use Rattle.psi_spec.specs.declared.machine.Task.{Task}
use Rattle.psi_spec.specs.Grammar.{Fits}
use Rattle.psi_spec.specs.Trace.{AllFit}
use Rattle.psi_spec.specs.World.{World, Limits, after, after_event, after_from, first_world, most_groups, running_on, tasks_after}
use Rattle.psi_spec.specs.Refusal.{AreLegal, cause_of}
use Rattle.psi_counts.specs.Legal.{IsLegalWorld, with_change}
use Rattle.psi_counts.specs.Touch.{AllTouched, HasSlotsBelow, IsTouch, change_of, change_on, change_known, account_change, account_first, shown, task_after, known_first, change_by_cpu}
use Rattle.psi_spec.specs.Changes.{before, touched}
use Rattle.psi_counts.proofs.TouchWithin.{changes_are_within}
use Rattle.plan_laws.proofs.PlanLaws.{after-push, changes_from-push}
use Rattle.task_table.specs.Stands.{HasPlayed}
pub use Rattle.task_table.proofs.Playing.{lines_of}
use Rattle.trace_player.specs.Playing.{PlayerTakes}
use Rattle.proc_plan.specs.declared.side.Side.{Side}
use Rattle.group_tree.specs.Tree.{IsGroupFault}
use Rattle.proc_plan.specs.Plans.{HasTaken, PlannerTakes, PlannerView, changes_at}
use Rattle.proc_plan.specs.Room.{ChangesView, HasRoom, HasRoomFor, HasRoomWithin}
use Rattle.psi_spec.specs.Collected.{values_from, trigger_by}
use Rattle.psi_spec.specs.Within.{listed}
use Rattle.proc_plan.specs.Sides.{sides_by}

-- Overwriting a list with a list of the same length gives the new list.
pub written : {A : Type 0} (n : ℕ) (new old : List A) → length new ≡ n → take n (new ++ drop (length new) old) ≡ new
written n new old same = subst (λ m. take m (new ++ drop (length new) old) ≡ new) same (take-append_seam new (drop (length new) old))

-- ---- one event more

-- Appending an event appends its values to the values of the earlier events.
values_from-push : {A : Type 0} (shows : World → Event → List A) (w : World) (events : List Event) (event : Event) → values_from shows w (events ++ event ∷ []) ≡ values_from shows w events ++ shows (after_from w events) event
values_from-push shows w [] event = append-nil (shows w event)
values_from-push shows w (first ∷ events) event = ap (λ rest. shows w first ++ rest) (values_from-push shows (after_event w first) events event) ∙ sym (append_assoc (shows w first) (values_from shows (after_event w first) events) (shows (after_from (after_event w first) events) event))

-- If events are legal and a further event is legal after them, the events with the further event
-- are legal.
pub legal_push : (limits : Limits) (w : World) (events : List Event) (event : Event) → AreLegal limits w events → cause_of limits (after_from w events) event ≡ None → AreLegal limits w (events ++ event ∷ [])
legal_push limits w [] event legal allowed = (allowed, tt)
legal_push limits w (first ∷ events) event legal allowed = (legal.0, legal_push limits (after_event w first) events event legal.1 allowed)

-- If events and a further event can be written as lines, so can the list with the further event.
pub fit_push : (events : List Event) (event : Event) → AllFit events → Fits event → AllFit (events ++ event ∷ [])
fit_push [] event all fits = (fits, tt)
fit_push (first ∷ events) event all fits = (all.0, fit_push events event all.1 fits)

-- ---- causes against an event

-- The first cause for rejecting an event after the events taken is the first cause in the planner's
-- own world.
pub cause_in : (planner : PlannerView) (limits : Limits) (events : List Event) (event : Event) → HasTaken planner limits events → cause_of limits (after events) event ≡ cause_of planner.table.limits planner.table.world event
cause_in planner limits events event taken = rw (taken.limits_are, taken.world) refl

-- A correct fault in the planner's own world is a correct fault after the events taken.
pub fault_in : (planner : PlannerView) (limits : Limits) (events : List Event) (event : Event) (fault : Fault Cause) → HasTaken planner limits events → IsGroupFault (cause_of planner.table.limits planner.table.world event) fault → IsGroupFault (cause_of limits (after events) event) fault
fault_in planner limits events event fault taken is = subst (λ why. IsGroupFault why fault) (sym (cause_in planner limits events event taken)) is

-- ---- room for its changes

touched_here : (w : World) (event : Event) (cpu : ℕ) → IsSome (change_of w event cpu) → touched event.act (before w.tasks event.act) cpu ≡ true
unfolding change_of
touched_here w event cpu some = only_then (touched event.act (before w.tasks event.act) cpu) (change_on w.groups event (before w.tasks event.act) (task_after w.groups w.tasks event.act) (tasks_after w.groups w.tasks event.act) cpu) some
  where
    only_then : (here : Bool) (change : Change) → IsSome (if here then Some change else None) → here ≡ true
    only_then true change some = refl
    only_then false change some = absurd (cc some)

same_number : (one other : ℕ) → (one == other) ≡ true → one ≡ other
same_number one other is = grind (arith, eqb_tells)

picked : (here : Bool) (cpus cpu : ℕ) (one : Cpu × Change) (other : Option Change) → one.0.0 < cpus → (IsSome other → cpu < cpus) → (one.0.0 == cpu) ≡ here → IsSome (if here then Some one.1 else other) → cpu < cpus
picked true cpus cpu one other below rest is some = let same = same_number one.0.0 cpu is in omega (arith, below, same)
picked false cpus cpu one other below rest is some = rest some

known_or : (cpus cpu : ℕ) (one : Option (Cpu × Change)) (other : Option Change) → IfSome one (λ one. one.0.0 < cpus) → (IsSome other → cpu < cpus) → IsSome (known_first cpu one other) → cpu < cpus
known_or cpus cpu None other below rest some = rest some
known_or cpus cpu (Some one) other below rest some = picked (one.0.0 == cpu) cpus cpu one other below rest refl some

-- Each processor with a change in the touch exists.
known_below : (touch : Touch) (cpus cpu : ℕ) → AllTouched (λ cpu change. cpu < cpus) touch → IsSome (change_by_cpu touch cpu) → cpu < cpus
known_below touch cpus cpu all some = known_or cpus cpu touch.first (known_first cpu touch.second None) all.0 (known_or cpus cpu touch.second None all.1 (λ none. cc none)) some

-- If an event switches no accounting, each change in its touch is the change that the event makes
-- on the processor.
known_plainly : (cpus : ℕ) (w : World) (event : Event) (touch : Touch) (cpu : ℕ) → IsTouch cpus w event touch → cpu < cpus → (account : Option (Slot × Bool)) → touch.account ≡ account → IsSome (change_by_cpu touch cpu) → IsSome (change_of w event cpu)
known_plainly cpus w event touch cpu is below None none some =
    subst (λ (o : Option Change). IsSome o) (ap (λ g. account_first event.at (shown (running_on (after_event w event).tasks cpu)) g (change_by_cpu touch cpu)) (sym none) ∙ is.known cpu below) some
known_plainly cpus w event touch cpu is below (Some account) there some =
    subst (λ (o : Option Change). IsSome o) (ap (λ g. account_first event.at (shown (running_on (after_event w event).tasks cpu)) g (change_by_cpu touch cpu)) (sym there) ∙ is.known cpu below) refl

-- If memory is reserved for an act, it is reserved for each change in the touch of the event.
pub room_for : (w : World) (event : Event) (touch : Touch) (task : Option Task) (changes : List ChangesView) (cpus : ℕ) → task ≡ before w.tasks event.act → IsTouch cpus w event touch → AllTouched (λ cpu change. cpu < cpus) touch → length changes ≡ cpus → HasRoomFor event.act task changes
    → (cpu : ℕ) → IsSome (change_by_cpu touch cpu) → HasRoom changes cpu
room_for w event touch task changes cpus same is all each room cpu some =
    let below = known_below touch cpus cpu all some in
    let here = touched_here w event cpu (known_plainly cpus w event touch cpu is below touch.account refl some) in
    room cpu (ap (λ t. touched event.act t cpu) same ∙ here) (omega (arith, below, each))

-- If memory is reserved for an act that switches accounting, it is reserved on every processor.
pub room_for_all : (w : World) (event : Event) (touch : Touch) (task : Option Task) (changes : List ChangesView) (cpus : ℕ) → task ≡ before w.tasks event.act → IsTouch cpus w event touch → length changes ≡ cpus → HasRoomFor event.act task changes
    → IsSome touch.account → (cpu : ℕ) → HasRoomWithin changes cpu
room_for_all w event touch task changes cpus same is each room some cpu below =
    let within : cpu < cpus = omega (arith, below, each) in
    let changed = subst (λ (o : Option Change). IsSome o) (is.known cpu within) (account_shows event.at (shown (running_on (after_event w event).tasks cpu)) touch.account (change_by_cpu touch cpu) some) in
    room cpu (ap (λ t. touched event.act t cpu) same ∙ touched_here w event cpu changed) below
  where
    account_shows : (at : ℕ) (current account : Option (Slot × Bool)) (other : Option Change) → IsSome account → IsSome (account_first at current account other)
    account_shows at current None other some = absurd (cc some)
    account_shows at current (Some account) other some = refl

-- ---- slots that fit

lower_slot : {A : Type 0} (side : Option (Slot × A)) (low high : ℕ) → low ≤ high → IfSome side (λ pair. pair.0.0 < low) → IfSome side (λ pair. pair.0.0 < high)
lower_slot None low high fewer below = tt
lower_slot (Some pair) low high fewer below = omega (arith, fewer, below)

lower_slots : (change : Change) (low high : ℕ) → low ≤ high → HasSlotsBelow low change → HasSlotsBelow high change
lower_slots change low high fewer below = record {
  minus = lower_slot change.minus low high fewer below.minus;
  plus = lower_slot change.plus low high fewer below.plus;
  current = lower_slot change.current low high fewer below.current;
  account = lower_slot change.account low high fewer below.account;
}

-- The slots in the changes of a touch are less than the maximum number of groups.
pub slots_fit : (limits : Limits) (w : World) (touch : Touch) → IsLegalWorld limits w → AllTouched (λ cpu change. HasSlotsBelow (length w.groups) change) touch → AllTouched (λ cpu change. HasSlotsBelow most_groups change) touch
slots_fit limits w touch legal below = (fitting touch.first below.0, fitting touch.second below.1)
  where
    fitting : (one : Option (Cpu × Change)) → IfSome one (λ one. HasSlotsBelow (length w.groups) one.1) → IfSome one (λ one. HasSlotsBelow most_groups one.1)
    fitting None low = tt
    fitting (Some one) low = lower_slots one.1 (length w.groups) most_groups legal.groups.few low

-- The slots in the changes that switch accounting are less than the maximum number of groups.
pub account_slots_fit : (limits : Limits) (w : World) (event : Event) (touch : Touch) → cause_of limits w event ≡ None → IsLegalWorld limits w → IsTouch limits.cpus w event touch
    → IfSome touch.account (λ account. (cpu : ℕ) → cpu < limits.cpus → HasSlotsBelow most_groups (account_change event.at (shown (running_on (after_event w event).tasks cpu)) account))
account_slots_fit limits w event touch allowed legal is = fitting touch.account refl
  where
    fitting : (account : Option (Slot × Bool)) → touch.account ≡ account → IfSome account (λ account. (cpu : ℕ) → cpu < limits.cpus → HasSlotsBelow most_groups (account_change event.at (shown (running_on (after_event w event).tasks cpu)) account))
    fitting None there = tt
    fitting (Some account) there = λ cpu below.
        let current = shown (running_on (after_event w event).tasks cpu) in
        let reported : change_of w event cpu ≡ Some (account_change event.at current account) = sym (is.known cpu below) ∙ ap (λ g. account_first event.at current g (change_by_cpu touch cpu)) there in
        lower_slots (account_change event.at current account) (length w.groups) most_groups legal.groups.few (changes_are_within limits w event allowed legal.within cpu (account_change event.at current account) reported).1

-- ---- one step

-- `HasStepped old new event touch trigger first second`: the state of a planner after it took an
-- event, with the event's touch, trigger and sides.
pub record HasStepped (old new : PlannerView) (event : Event) (touch : Touch) (trigger : Option TriggerSpec) (first second : Option Side) : Type 0 where
  pub fits : Fits event
  pub played : HasPlayed old.table event new.table
  pub known : IsTouch old.table.limits.cpus old.table.world event touch
  pub changes : (cpu : ℕ) → cpu < old.table.limits.cpus → changes_at new cpu ≡ changes_at old cpu ++ with_change (change_known event.at (shown (running_on new.table.world.tasks cpu)) touch cpu) []
  pub trigger_is : listed trigger ≡ trigger_by event.at old.table.world.groups event.act
  pub triggers : new.triggers ≡ old.triggers ++ listed trigger
  pub sides_are : listed first ++ listed second ≡ sides_by old.table.world event
  pub sides : new.sides ≡ (old.sides ++ listed first) ++ listed second

pub taken_more : (old new : PlannerView) (event : Event) (touch : Touch) (trigger : Option TriggerSpec) (first second : Option Side) (limits : Limits) (events : List Event) → HasStepped old new event touch trigger first second → HasTaken old limits events
    → (cause_of limits (after events) event ≡ None) × HasTaken new limits (events ++ event ∷ []) × (length events < 4000000)
taken_more old new event touch trigger first second limits events step taken =
    let allowed : cause_of limits (after events) event ≡ None = cause_in old limits events event taken ∙ step.played.legal in
    let world : new.table.world ≡ after (events ++ event ∷ []) = step.played.world ∙ ap (λ w. after_event w event) taken.world ∙ sym (after-push events event) in
    let lines : new.table.world.lines ≡ length (events ++ event ∷ []) = ap (λ (w : World). w.lines) world ∙ lines_of (events ++ event ∷ []) in (
      allowed,
      record {
        limits_are = step.played.limits ∙ taken.limits_are;
        counted = taken.counted;
        short = taken.short;
        fit = fit_push events event taken.fit step.fits;
        legal = legal_push limits first_world events event taken.legal allowed;
        world = world;
        changes = λ cpu below.
            let within = subst (λ n. cpu < n) (sym (ap (λ (l : Limits). l.cpus) taken.limits_are)) below in
            step.changes cpu within
            ∙ ap (λ o. changes_at old cpu ++ with_change o [])
            (ap (λ (w : World). change_known event.at (shown (running_on w.tasks cpu)) touch cpu) step.played.world ∙ step.known.known cpu within ∙ ap (λ w. change_of w event cpu) taken.world)
            ∙ ap (λ changes. changes ++ with_change (change_of (after events) event cpu) []) (taken.changes cpu below)
            ∙ sym (changes_from-push cpu first_world events event);
        triggers =
            step.triggers
            ∙ ap (λ more. old.triggers ++ more) (step.trigger_is ∙ ap (λ (w : World). trigger_by event.at w.groups event.act) taken.world)
            ∙ ap (λ triggers. triggers ++ trigger_by event.at (after events).groups event.act) taken.triggers
            ∙ sym (values_from-push (λ w event. trigger_by event.at w.groups event.act) first_world events event);
        sides =
            step.sides
            ∙ append_assoc old.sides (listed first) (listed second)
            ∙ ap (λ more. old.sides ++ more) (step.sides_are ∙ ap (λ w. sides_by w event) taken.world)
            ∙ ap (λ sides. sides ++ sides_by (after events) event) taken.sides
            ∙ sym (values_from-push sides_by first_world events event);
      },
      omega (arith, step.played.lines, lines, length-append events (event ∷ [])),
    )

-- ---- the planner as a player

-- The contract of the planner implies the contract of a player.
pub planner_takes : (old new : PlannerView) (event : Event) (result : Result (Unit {0}) (Fault Cause)) → PlannerTakes old new event result → PlayerTakes (HasTaken old) (HasTaken new) event result
planner_takes old new event (Ok x) takes = takes
planner_takes old new event (Err (fault.Refused why)) takes = takes
planner_takes old new event (Err (fault.NoMemory _)) takes = tt
