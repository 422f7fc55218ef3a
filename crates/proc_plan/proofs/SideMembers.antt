-- Proves that sides determine the number of tasks in each group, and that their slots exist.
use Rattle.std.proofs.Common.{◌≡◌, ℕ, ◌+◌, ◌≤◌, ◌<◌, List, [], ◌∷◌, ◌++◌, refl, sym, ap, ◌∙◌, subst, arith, Bool, true, false, Option, None, Some, length, ⊎_elim}
use Rattle.std.specs.Prelude.{count_by, map, ◌==◌, All, IfSome, if◌then◌else◌}
use Rattle.std.specs.List.{AllByRecursion}
use Rattle.std.specs.FinMap as tasks_by
use Rattle.std.proofs.lemmas.Bool.Decides.{eqb_tells}
use Rattle.std.proofs.lemmas.List.Elements.{All-append, All-weaker, All-from_recursion}
use Rattle.std.proofs.lemmas.List.{length-map}
use Rattle.std.proofs.lemmas.List.Sums.{sum_by-append}
use Rattle.psi_base.specs.declared.event.Slot.{Slot}
use Rattle.psi_base.specs.declared.event.Act.{Act}
use Rattle.psi_base.specs.declared.event.Act.TheVariants as act
use Rattle.psi_base.specs.declared.event.Event.{Event}
use Rattle.psi_base.specs.Missing.{is_some_and}
use Rattle.psi_spec.specs.declared.machine.Task.{Task}
use Rattle.psi_spec.specs.declared.machine.GroupLife.{GroupLife}
use Rattle.psi_spec.specs.World.{World, Limits, after, after_event, first_world, no_tasks, tasks_after}
use Rattle.psi_spec.specs.Refusal.{AreLegal, cause_of}
use Rattle.psi_spec.proofs.TaskLaws.{no_entries}
use Rattle.psi_spec.proofs.RefusalLaws.{none_found_in}
use Rattle.psi_counts.specs.Touch.{task_after}
use Rattle.psi_spec.specs.Changes.{before}
use Rattle.psi_counts.proofs.CountLaws.{one}
use Rattle.psi_counts.proofs.LegalLaws.{chosen_fewer, more_groups}
use Rattle.plan_laws.proofs.MomentsEvents.{by_legal}
use Rattle.plan_laws.proofs.MomentsKnown.{known-push}
use Rattle.plan_laws.proofs.PlanLaws.{after-push}
use Rattle.plan_laws.proofs.PlanStates.{legal_after, legal_prefix, legal_last}
use Rattle.psi_counts.proofs.TouchCounts.{counted, tally, tallied}
use Rattle.psi_counts.proofs.TouchLaws.{counted_act}
use Rattle.psi_counts.proofs.TouchWithin.{Fits, fits_after, fits_before, slot_room}
use Rattle.proc_plan.specs.declared.side.Side.{Side}
use Rattle.proc_plan.specs.Sides.{came, went, passage, group_of, sample_by, sides_by, sides_of}
use Rattle.task_table.specs.Stands.{is_of}
use Rattle.proc_plan.specs.SideLaws.{comes, goes, slot_of_side, MembersAreKnown, SidesAreOnGroups}

-- ---- comings and goings

-- Returns the number of sides in which a task joins a group, and the number in which a task leaves
-- it.
abbrev comings : ℕ → List Side → ℕ
comings slot sides = count_by (λ (side : Side). comes slot side.what) sides

abbrev goings : ℕ → List Side → ℕ
goings slot sides = count_by (λ (side : Side). goes slot side.what) sides

-- Whether an optional group is the group in this slot.
abbrev is_group : ℕ → Option Slot → Bool
is_group slot None = false
is_group slot (Some group) = group.0 == slot

-- In the side of a memory sample or a preference, no task joins a group.
sample_comings : (slot at : ℕ) (groups : List GroupLife) (a : Act) → comings slot (sample_by at groups a) ≡ 0
sample_comings slot at groups (act.Group path) = refl
sample_comings slot at groups _ = refl

sample_goings : (slot at : ℕ) (groups : List GroupLife) (a : Act) → goings slot (sample_by at groups a) ≡ 0
sample_goings slot at groups (act.Group path) = refl
sample_goings slot at groups _ = refl

same_group : (old new slot : ℕ) → (old == new) ≡ true → one (old == slot) ≡ one (new == slot)
same_group old new slot is = ⊎_elim (λ same. ap (λ n. one (n == slot)) same.1) (λ other. absurd (cc (is, other.0))) (eqb_tells old new)

-- The sides of a moving task have one side for the group that the task leaves and one for the group
-- that it joins, unless both are the same group.
passage_shows : (at slot : ℕ) (old new : Option Slot) → comings slot (passage at old new) + one (is_group slot old) ≡ goings slot (passage at old new) + one (is_group slot new)
passage_shows at slot None None = refl
passage_shows at slot None (Some new) = omega arith
passage_shows at slot (Some old) None = omega arith
passage_shows at slot (Some old) (Some new) =
    elim (old.0 == new.0) as (λ b. (old.0 == new.0) ≡ b → comings slot (if b then [] else went at old ++ came at new) + one (old.0 == slot) ≡ goings slot (if b then [] else went at old ++ came at new) + one (new.0 == slot)) [
      | true ↦ λ is. let same = same_group old.0 new.0 slot is in omega (arith, same)
      | false ↦ λ _. omega arith
    ] refl

-- A task is in a group exactly if the slot of its group is the slot of the group.
member_group : (slot : ℕ) (o : Option Task) → is_some_and o (is_of slot) ≡ is_group slot (group_of o)
member_group slot None = refl
member_group slot (Some task) = refl

-- ---- members

abbrev Shows : ℕ → List Event → Type 0
Shows slot events = comings slot (sides_of events) ≡ goings slot (sides_of events) + counted (is_of slot) (after events).tasks

shows-push : (limits : Limits) (slot : ℕ) (events : List Event) (event : Event) → AreLegal limits first_world (events ++ event ∷ []) → Shows slot events → Shows slot (events ++ event ∷ [])
shows-push limits slot events event legal before_it =
    let w : World = after events in
    let sample : List Side = sample_by event.at w.groups event.act in
    let pass : List Side = passage event.at (group_of (before w.tasks event.act)) (group_of (task_after w.groups w.tasks event.act)) in
    let known = known-push sides_by first_world events event in
    let came_all = ap (comings slot) known ∙ sum_by-append _ (sides_of events) (sample ++ pass) ∙ ap (λ n. comings slot (sides_of events) + n) (sum_by-append _ sample pass) in
    let went_all = ap (goings slot) known ∙ sum_by-append _ (sides_of events) (sample ++ pass) ∙ ap (λ n. goings slot (sides_of events) + n) (sum_by-append _ sample pass) in
    let tasks : counted (is_of slot) (after (events ++ event ∷ [])).tasks ≡ counted (is_of slot) (tasks_after w.groups w.tasks event.act) = ap (λ (v : World). counted (is_of slot) v.tasks) (after-push events event) in
    let by_act = counted_act (is_of slot) (λ t ready. refl) limits w event.at event.act (legal_last limits first_world events event legal) in
    let old = ap one (member_group slot (before w.tasks event.act)) in
    let new = ap one (member_group slot (task_after w.groups w.tasks event.act)) in
    let by_passage = passage_shows event.at slot (group_of (before w.tasks event.act)) (group_of (task_after w.groups w.tasks event.act)) in
    omega (arith, came_all, went_all, tasks, by_act, old, new, by_passage, sample_comings slot event.at w.groups event.act, sample_goings slot event.at w.groups event.act, before_it)

none_first : (slot : ℕ) → counted (is_of slot) no_tasks ≡ 0
none_first slot = ap (λ (es : List (ℕ × Task)). tally (is_of slot) (map (λ e. e.1) es)) no_entries

members_known : (limits : Limits) (slot : ℕ) (events : List Event) → AreLegal limits first_world events → Shows slot events
members_known limits slot events legal = by_legal limits (Shows slot) (let none = none_first slot in omega (arith, none)) (shows-push limits slot) events legal

pub members_are_known : MembersAreKnown
members_are_known limits events legal slot =
    let tasks = (after events).tasks in
    let same = tallied (is_of slot) (tasks_by.values tasks) in
    let few = (legal_after limits events legal).few_tasks in
    let all : length (tasks_by.values tasks) ≡ tasks_by.len tasks = length-map (tasks_by.entries tasks) (λ e. e.1) ∙ sym (tasks_by.len-entries tasks) in
    (omega (arith, members_known limits slot events legal, same), omega (arith, chosen_fewer (is_of slot) (tasks_by.values tasks), all, few))

-- ---- slots

-- `IsOn n side`: the slot of the side is less than `n`.
abbrev IsOn : ℕ → Side → Type 0
IsOn slots side = IfSome (slot_of_side side.what) (λ slot. slot.0 < slots)

on_more : (few many : ℕ) → few ≤ many → (side : Side) → IsOn few side → IsOn many side
on_more few many more side on = some_more (slot_of_side side.what) on
  where
    some_more : (o : Option Slot) → IfSome o (λ slot. slot.0 < few) → IfSome o (λ slot. slot.0 < many)
    some_more None is = tt
    some_more (Some slot) is = omega (arith, is, more)

sample_on : (limits : Limits) (w : World) (at : ℕ) (a : Act) → cause_of limits w (record { at = at; act = a }) ≡ None → AllByRecursion (IsOn (length w.groups)) (sample_by at w.groups a)
sample_on limits w at (act.Prefer path preference) legal = (slot_room w.groups path (none_found_in limits w _ legal).unknown_group, tt)
sample_on limits w at (act.Mem path current swap scan) legal = (slot_room w.groups path (none_found_in limits w _ legal).unknown_group, tt)
sample_on limits w at (act.Host mem_total swap_total swap_free) legal = (tt, tt)
sample_on limits w at _ legal = tt

group_on : (cpus slots : ℕ) (o : Option Task) → Fits cpus slots o → IfSome (group_of o) (λ slot. slot.0 < slots)
group_on cpus slots None fits = tt
group_on cpus slots (Some task) fits = fits.1

passage_on : (at slots : ℕ) (old new : Option Slot) → IfSome old (λ slot. slot.0 < slots) → IfSome new (λ slot. slot.0 < slots) → AllByRecursion (IsOn slots) (passage at old new)
passage_on at slots None None from to = tt
passage_on at slots None (Some new) from to = (to, tt)
passage_on at slots (Some old) None from to = (from, tt)
passage_on at slots (Some old) (Some new) from to = elim (old.0 == new.0) as (λ b. AllByRecursion (IsOn slots) (if b then [] else went at old ++ came at new)) [ true ↦ tt | false ↦ (from, (to, tt)) ]

-- The slots in the sides of a legal event exist.
event_on : (limits : Limits) (events : List Event) (event : Event) → AreLegal limits first_world (events ++ event ∷ []) → All (IsOn (length (after events).groups)) (sides_by (after events) event)
event_on limits events event legal =
    let w : World = after events in
    let slots : ℕ = length w.groups in
    let allowed = legal_last limits first_world events event legal in
    let within = (legal_after limits events (legal_prefix limits first_world events (event ∷ []) legal)).within in
    let pass = passage_on event.at slots (group_of (before w.tasks event.act)) (group_of (task_after w.groups w.tasks event.act))
    (group_on limits.cpus slots (before w.tasks event.act) (fits_before limits.cpus slots w.tasks within event.act))
    (group_on limits.cpus slots (task_after w.groups w.tasks event.act) (fits_after limits w event.at event.act allowed within)) in
    All-append (IsOn slots) (sample_by event.at w.groups event.act) (passage event.at (group_of (before w.tasks event.act)) (group_of (task_after w.groups w.tasks event.act)))
    (All-from_recursion (IsOn slots) (sample_by event.at w.groups event.act) (sample_on limits w event.at event.act allowed))
    (All-from_recursion (IsOn slots) (passage event.at (group_of (before w.tasks event.act)) (group_of (task_after w.groups w.tasks event.act))) pass)

pub sides_are_on_groups : SidesAreOnGroups
sides_are_on_groups limits events legal = by_legal limits (λ es. All (IsOn (length (after es).groups)) (sides_of es)) (λ k d low. absurd (omega (arith, low)))
    (λ es event turn earlier.
    let w : World = after es in
    let more = more_groups w event in
    let old = All-weaker (IsOn (length w.groups)) (IsOn (length (after_event w event).groups)) (on_more (length w.groups) (length (after_event w event).groups) more) (sides_of es) earlier in
    let new = All-weaker (IsOn (length w.groups)) (IsOn (length (after_event w event).groups)) (on_more (length w.groups) (length (after_event w event).groups) more) (sides_by w event) (event_on limits es event turn) in
    let all = All-append (IsOn (length (after_event w event).groups)) (sides_of es) (sides_by w event) old new in
    subst (λ (v : World). All (IsOn (length v.groups)) (sides_of (es ++ event ∷ []))) (sym (after-push es event))
    (subst (All (IsOn (length (after_event w event).groups))) (sym (known-push sides_by first_world es event)) all))
    events legal
