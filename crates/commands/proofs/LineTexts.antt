-- The output of `stall` that is computed from plans is the specified text of the trace.
use Rattle.std.proofs.Common.{◌≡◌, ℕ, zero, suc, ◌+◌, ◌≤◌, ◌<◌, List, [], ◌∷◌, ◌++◌, length, map, refl, sym, ap, ◌∙◌, arith, append_assoc, Bool, true, false, is_eq}
use Rattle.std.specs.Prelude.{if◌then◌else◌}
use Rattle.std.specs.List.{All, flat_map, range_with_len}
use Rattle.std.specs.Ordering.{nat_cmp}
use Rattle.std.specs.Cmp.Lexicographic.{slice_cmp}
use Rattle.std.specs.FinMap as entries
use Rattle.std.specs.declared.cmp.Ordering.{Ordering}
use Rattle.std.specs.declared.cmp.Ordering.TheVariants.{Less, Equal, Greater}
use Rattle.std.proofs.lemmas.List.{length-append}
use Rattle.std.proofs.lemmas.List.Concat.{flat_map-cons}
use Rattle.std.proofs.lemmas.List.Elements.{All-cons}
use Rattle.std.proofs.lemmas.List.Folds.{flat_map-map}
use Rattle.std.proofs.lemmas.Map.Text.{is_eq-slice_cmp}
use Rattle.psi_base.specs.declared.event.Event.{Event}
use Rattle.psi_base.specs.declared.event.Slot.{Slot}
use Rattle.psi_spec.specs.declared.machine.GroupLife.{GroupLife}
use Rattle.psi_spec.specs.Grammar.{One, Two, Version}
use Rattle.psi_spec.specs.World.{Limits, after, first_world, is_live}
use Rattle.psi_spec.specs.Refusal.{AreLegal}
use Rattle.psi_spec.specs.Stall.{irq_time, stall}
use Rattle.psi_spec.specs.Groups.{path_at}
use Rattle.psi_counts.specs.Clock.{ClockView, opened}
use Rattle.plan_laws.specs.Plan.{IsClock, PlanView, last_change, plan_of, planned, planned_irq, planned_time}
use Rattle.psi_spec.specs.Changes.{until_change}
use Rattle.run_spec.specs.Text.{end_of, stall_lines, stall_text, stall_times, stall_times_of}
use Rattle.run_spec.specs.Lines.{stall_line}
use Rattle.psi_spec.specs.Groups.{in_order, live_from, live_groups}
use Rattle.psi_counts.proofs.ClockLaws.{map_states}
use Rattle.plan_laws.proofs.PlanClocks.{clock_shows_planned}
use Rattle.psi_spec.proofs.GroupLaws.{same_bytes}
use Rattle.plan_laws.proofs.PlanLaws.{as_many}
use Rattle.plan_laws.proofs.PlanStalls as stalls
use Rattle.plan_laws.proofs.MomentsEvents.{up_to_all}
use Rattle.plan_laws.proofs.PlanIrqs.{planned_irq_until}
use Rattle.plan_laws.proofs.PlanStalls.{plan_is_in_order, planned_is_stall, stall_by_own_changes}
use Rattle.plan_laws.proofs.PlanSteps.{place_of_moment}
use Rattle.group_tree.specs.Tree.{live_slots, slot_at}
use Rattle.proc_plan.specs.Plans.{PlansView, Represent, plan_at}
use Rattle.proc_plan.proofs.Finishing.{standing_plans}
use Rattle.commands.specs.Lines.{all_lines, plan_line, plan_lines, plan_times, plan_known}

-- ---- texts in pieces

-- ---- the slots of live groups

-- Each pair has the path of a group in the list, and the slot of this group.
abbrev AreOf : List GroupLife → List (List ℕ × ℕ) → Type 0
AreOf groups [] = Unit {0}
AreOf groups (pair ∷ pairs) = (pair.1 < length groups) × (path_at groups pair.1 ≡ pair.0) × AreOf groups pairs

abbrev ordered : {A : Type 0} → Ordering → A → A → A → A
ordered Less a b c = a
ordered Equal a b c = b
ordered Greater a b c = c

same_path : (one other : List ℕ) → slice_cmp nat_cmp one other ≡ Equal → one ≡ other
same_path one other is = same_bytes one other (sym (is_eq-slice_cmp one other) ∙ ap is_eq is)

-- Inserting a pair into an ordered list preserves `AreOf`, if the pair has a group's path and slot.
put_of : (groups : List GroupLife) (path : List ℕ) (slot : ℕ) (pairs : List (List ℕ × ℕ)) → slot < length groups → path_at groups slot ≡ path → AreOf groups pairs → AreOf groups (entries.put (slice_cmp nat_cmp) path slot pairs)
put_of groups path slot [] room is each = (room, is, tt)
put_of groups path slot (pair ∷ pairs) room is each =
    let later = put_of groups path slot pairs room is each.2 in
    elim (slice_cmp nat_cmp path pair.0) as (λ r. slice_cmp nat_cmp path pair.0 ≡ r → AreOf groups (ordered r ((path, slot) ∷ pair ∷ pairs) ((pair.0, slot) ∷ pairs) (pair ∷ entries.put (slice_cmp nat_cmp) path slot pairs))) [
      | Less ↦ λ found. (room, is, each)
      | Equal ↦ λ found. (room, is ∙ same_path path pair.0 found, each.2)
      | Greater ↦ λ found. (each.0, each.1, later)
    ] refl

in_order_of : (groups : List GroupLife) (pairs : List (List ℕ × ℕ)) → AreOf groups pairs → AreOf groups (in_order pairs)
in_order_of groups [] each = tt
in_order_of groups (pair ∷ pairs) each = put_of groups pair.0 pair.1 (in_order pairs) each.0 each.1 (in_order_of groups pairs each.2)

if_live : (groups : List GroupLife) (live : Bool) (pair : List ℕ × ℕ) (pairs : List (List ℕ × ℕ)) → pair.1 < length groups → path_at groups pair.1 ≡ pair.0 → AreOf groups pairs → AreOf groups (if live then pair ∷ pairs else pairs)
if_live groups true pair pairs room is each = (room, is, each)
if_live groups false pair pairs room is each = each

-- The group after `prefix` has the slot `length prefix`.
path_after : (prefix rest : List GroupLife) (group : GroupLife) → path_at (prefix ++ group ∷ rest) (length prefix) ≡ group.path
path_after [] rest group = refl
path_after (first ∷ prefix) rest group = path_after prefix rest group

live_of : (groups prefix rest : List GroupLife) (slot : ℕ) → groups ≡ prefix ++ rest → slot ≡ length prefix → AreOf groups (live_from slot rest)
live_of groups prefix [] slot are is = tt
live_of groups prefix (group ∷ rest) slot are is =
    let room : slot < length groups = omega (arith, is, ap length are, length-append prefix (group ∷ rest)) in
    let path : path_at groups slot ≡ group.path = ap (λ gs. path_at gs slot) are ∙ ap (path_at (prefix ++ group ∷ rest)) is ∙ path_after prefix rest group in
    let next = live_of groups (prefix ++ group ∷ []) rest (slot + 1) (are ∙ sym (append_assoc prefix (group ∷ []) rest)) (omega (arith, is, length-append prefix (group ∷ []))) in
    if_live groups (is_live group) (group.path, slot) (live_from (slot + 1) rest) room path next

-- The ordered list of live groups has the path and the slot of each group.
live_groups_of : (groups : List GroupLife) → AreOf groups (live_groups groups)
live_groups_of groups = in_order_of groups (live_from 0 groups) (live_of groups [] groups 0 refl refl)

slots_below : (groups : List GroupLife) (pairs : List (List ℕ × ℕ)) → AreOf groups pairs → All (λ (slot : Slot). slot.0 < length groups) (map (λ (pair : List ℕ × ℕ). slot_at pair.1) pairs)
slots_below groups [] each = λ k d below. absurd (omega (arith, below))
slots_below groups (pair ∷ pairs) each = All-cons (λ (slot : Slot). slot.0 < length groups) (slot_at pair.1) (map (λ (p : List ℕ × ℕ). slot_at p.1) pairs) each.0 (slots_below groups pairs each.2)

-- The slots of live groups are slots of existing groups.
pub live_below : (groups : List GroupLife) → All (λ (slot : Slot). slot.0 < length groups) (live_slots groups)
live_below groups = slots_below groups (live_groups groups) (live_groups_of groups)

-- ---- lines by plans

-- The time of a plan's last change is at most the end time of the trace.
pub last_within : (limits : Limits) (events : List Event) (cpu : ℕ) → AreLegal limits first_world events → last_change (plan_of cpu events) (length (plan_of cpu events).changes) ≤ end_of events
last_within limits events cpu legal = (stalls.in_order limits cpu events legal).end

-- The times of a plan after all changes are the stall times at the end of the trace.
times_are : (limits : Limits) (events : List Event) (cpu slot : ℕ) → AreLegal limits first_world events → plan_times (plan_of cpu events) slot (end_of events) ≡ stall_times cpu slot events
times_are limits events cpu slot legal =
    let many = as_many cpu events in
    map_states (λ state. planned_time state (plan_of cpu events) slot (length (plan_of cpu events).changes) (end_of events)) (λ state. stall state cpu slot events (end_of events))
    (λ state.
    planned_is_stall limits events legal state cpu slot (length (plan_of cpu events).changes) (end_of events) (omega (arith, many)) (last_within limits events cpu legal)
    ∙ ap (λ k. stall state cpu slot (until_change cpu events k) (end_of events)) many
    ∙ sym (stall_by_own_changes limits events legal state cpu slot (end_of events) (omega arith)))

-- The interrupt time of a plan after all changes is the interrupt time at the end of the trace.
irq_is : (limits : Limits) (events : List Event) (cpu slot : ℕ) → AreLegal limits first_world events → planned_irq (plan_of cpu events) slot (length (plan_of cpu events).changes) ≡ irq_time cpu slot events
irq_is limits events cpu slot legal =
    let plan = plan_of cpu events in
    let all = place_of_moment plan (plan_is_in_order limits events legal cpu) (length plan.changes) (end_of events) (omega arith) (last_within limits events cpu legal) (λ more. absurd (omega (arith, more))) in
    ap (planned_irq plan slot) (sym all) ∙ planned_irq_until limits events legal cpu slot (end_of events) ∙ ap (irq_time cpu slot) (up_to_all limits events legal (end_of events) (omega arith))

-- The numbers in an output line are equal, whether they are computed from a plan or from the
-- events.
known_are : (limits : Limits) (version : Version) (events : List Event) (cpu slot : ℕ) → AreLegal limits first_world events → plan_known version (plan_of cpu events) slot (end_of events) ≡ stall_times_of version cpu slot events
known_are limits One events cpu slot legal = times_are limits events cpu slot legal
known_are limits Two events cpu slot legal =
    ap (λ times. times ++ planned_irq (plan_of cpu events) slot (length (plan_of cpu events).changes) ∷ []) (times_are limits events cpu slot legal)
    ∙ ap (λ irq. stall_times cpu slot events ++ irq ∷ []) (irq_is limits events cpu slot legal)

joined_same : {first other : List ℕ} {rest more : List ℕ} → first ≡ other → rest ≡ more → first ++ rest ≡ other ++ more
joined_same first rest = rw (first, rest) refl

lines_of_pairs : (limits : Limits) (version : Version) (events : List Event) (cpu : ℕ) (groups : List GroupLife) (pairs : List (List ℕ × ℕ)) → AreLegal limits first_world events → AreOf groups pairs
    → flat_map (λ (pair : List ℕ × ℕ). plan_line version cpu groups (plan_of cpu events) (end_of events) (slot_at pair.1)) pairs ≡ flat_map (λ (pair : List ℕ × ℕ). stall_line cpu pair.0 (stall_times_of version cpu pair.1 events)) pairs
lines_of_pairs limits version events cpu groups [] legal each = refl
lines_of_pairs limits version events cpu groups (pair ∷ pairs) legal each =
    let line : plan_line version cpu groups (plan_of cpu events) (end_of events) (slot_at pair.1) ≡ stall_line cpu pair.0 (stall_times_of version cpu pair.1 events) =
    ap (λ path. stall_line cpu path (plan_known version (plan_of cpu events) pair.1 (end_of events))) each.1 ∙ ap (stall_line cpu pair.0) (known_are limits version events cpu pair.1 legal) in
    let rest = lines_of_pairs limits version events cpu groups pairs legal each.2 in
    joined_same line rest

-- The lines of a processor are equal, whether they are computed from its plan or from its stall
-- times.
lines_are : (limits : Limits) (version : Version) (events : List Event) (cpu : ℕ) → AreLegal limits first_world events → plan_lines version (after events).groups (live_slots (after events).groups) (end_of events) (plan_of cpu events) cpu ≡ stall_lines version cpu events
lines_are limits version events cpu legal =
    flat_map-map (plan_line version cpu (after events).groups (plan_of cpu events) (end_of events)) (λ (pair : List ℕ × ℕ). slot_at pair.1) (live_groups (after events).groups)
    ∙ lines_of_pairs limits version events cpu (after events).groups (live_groups (after events).groups) legal (live_groups_of (after events).groups)

flat_same : (f g : ℕ → List ℕ) (from n : ℕ) → ((i : ℕ) → from ≤ i → i < from + n → f i ≡ g i) → flat_map f (range_with_len from n) ≡ flat_map g (range_with_len from n)
flat_same f g from zero same = refl
flat_same f g from (suc n) same =
    let here = same from (omega arith) (omega arith) in
    let rest = flat_same f g (from + 1) n (λ i low high. same i (omega (arith, low)) (omega (arith, high))) in
    flat_map-cons f from (range_with_len (from + 1) n) ∙ ap (λ xs. xs ++ flat_map f (range_with_len (from + 1) n)) here ∙ ap (λ ys. g from ++ ys) rest ∙ sym (flat_map-cons g from (range_with_len (from + 1) n))

-- The lines of all processors, computed from plans that represent the events, are the specified
-- text of the trace.
pub printed_text : (limits : Limits) (version : Version) (plans : PlansView) (events : List Event) (order : List Slot) (last : ℕ) → AreLegal limits first_world events → Represent plans limits.cpus events → order ≡ live_slots plans.lives → last ≡ plans.finish
    → all_lines version plans.lives order last plans.plans ≡ stall_text (record { version = version; cpus = limits.cpus; events = events })
unfolding stall_text
printed_text limits version plans events order last legal represents ordered ended =
    let slots : order ≡ live_slots (after events).groups = ordered ∙ ap live_slots represents.lives in
    ap (λ gs. all_lines version gs order last plans.plans) represents.lives
    ∙ ap (λ slots. all_lines version (after events).groups slots last plans.plans) slots
    ∙ ap (λ at. all_lines version (after events).groups (live_slots (after events).groups) at plans.plans) (ended ∙ represents.finish)
    ∙ ap (λ n. flat_map (λ cpu. plan_lines version (after events).groups (live_slots (after events).groups) (end_of events) (plan_at plans cpu) cpu) (range_with_len 0 n)) represents.each
    ∙ flat_same (λ cpu. plan_lines version (after events).groups (live_slots (after events).groups) (end_of events) (plan_at plans cpu) cpu) (λ cpu. stall_lines version cpu events) 0 limits.cpus
    (λ cpu low high.
    ap (λ plan. plan_lines version (after events).groups (live_slots (after events).groups) (end_of events) plan cpu) (standing_plans plans limits.cpus events represents cpu (omega (arith, high))) ∙ lines_are limits version events cpu legal)

-- ---- times by clocks

-- If a clock represents a slot after all changes, its times at `at` (ns) are the planned times.
pub times_at_end : (clock : ClockView) (plan : PlanView) (slot k at : ℕ) → IsClock clock plan slot k → k ≡ length plan.changes → last_change plan k ≤ at → opened clock at ≡ plan_times plan slot at
times_at_end clock plan slot k at is all later = clock_shows_planned clock plan slot k at is later ∙ ap (λ n. planned plan slot n at) all

-- ---- before the lines

-- The time of each plan's last change is at most the end time of the trace, which is within the
-- limit of clocks.
pub ends_later : (limits : Limits) (plans : PlansView) (events : List Event) (cpu : ℕ) → AreLegal limits first_world events → Represent plans limits.cpus events → cpu < limits.cpus → last_change (plan_at plans cpu) (length (plan_at plans cpu).changes) ≤ plans.finish
ends_later limits plans events cpu legal represents below =
    let moment : last_change (plan_at plans cpu) (length (plan_at plans cpu).changes) ≡ last_change (plan_of cpu events) (length (plan_of cpu events).changes) = ap (λ (plan : PlanView). last_change plan (length plan.changes)) (standing_plans plans limits.cpus events represents cpu below) in
    omega (arith, moment, last_within limits events cpu legal, represents.finish)
