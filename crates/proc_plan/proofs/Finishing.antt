-- Proves that the plans of a planner represent the events that the planner took.
use Rattle.std.proofs.Common.{◌≡◌, ℕ, ◌<◌, List, [], ◌∷◌, length, map, refl, sym, ap, ◌∙◌, subst, arith}
use Rattle.std.specs.Prelude.{Option, Some}
use Rattle.std.specs.List.{All}
use Rattle.std.proofs.lemmas.List.{get_or-map, get_or_default, length-map}
use Rattle.psi_base.specs.declared.event.Event.{Event}
use Rattle.psi_counts.specs.declared.changes.Change.{Change}
use Rattle.psi_spec.specs.declared.machine.GroupLife.{GroupLife}
use Rattle.psi_spec.specs.World.{World, Limits, after, first_world}
use Rattle.psi_counts.specs.Legal.{changes_from}
use Rattle.plan_laws.specs.Plan.{IsPlan, PlanView, no_plan, plan_of}
use Rattle.psi_spec.specs.LegalGroups.{AreGroups}
use Rattle.psi_spec.specs.Stall.{parents_of}
use Rattle.psi_spec.specs.Trace.{IsCpuCount}
use Rattle.plan_laws.proofs.PlanLaws.{changes_are_numbered}
use Rattle.plan_laws.proofs.PlanStates.{legal_after}
use Rattle.plan_laws.proofs.PlanWhole.{plan_is_whole}
use Rattle.psi_spec.proofs.Following.{last_end}
use Rattle.proc_plan.specs.Plans.{ArePlans, EndedIsAccepted, HasTaken, IsPlanner, PlannerView, PlansAreOfEvents, PlansView, Represent, changes_at, plan_at, plan_over, plans_view}
use Rattle.proc_plan.specs.Room.{ChangesView, lists_of}

-- The plan built for a processor is `plan_of` of the events taken.
plan_is : (planner : PlannerView) (limits : Limits) (events : List Event) (groups : List GroupLife) (cpu : ℕ) → HasTaken planner limits events → groups ≡ planner.table.world.groups → cpu < limits.cpus → plan_over groups (changes_at planner cpu) ≡ plan_of cpu events
plan_is planner limits events groups cpu taken same below =
    ap (λ gs. plan_over gs (changes_at planner cpu)) (same ∙ ap (λ (w : World). w.groups) taken.world) ∙ ap (plan_over (after events).groups) (taken.changes cpu below)

-- Each built plan satisfies the invariant of plans.
pub all_whole : (planner : PlannerView) (limits : Limits) (events : List Event) (groups : List GroupLife) → IsPlanner planner → HasTaken planner limits events → groups ≡ planner.table.world.groups → All (λ changes. IsPlan (plan_over groups changes)) planner.changes
all_whole planner limits events groups is taken same = λ k d room.
    let below : k < limits.cpus = omega (arith, room, is.each, ap (λ (l : Limits). l.cpus) taken.limits_are) in
    subst (λ changes. IsPlan (plan_over groups changes)) (get_or_default planner.changes k [] d room)
    (subst IsPlan (sym (plan_is planner limits events groups k taken same below)) (plan_is_whole limits events taken.legal taken.short taken.counted.1 k))

-- Each list of changes gives a valid plan, also together with its reserved memory.
pub all_listed : (groups : List GroupLife) (changes : List ChangesView) → All (λ list. IsPlan (plan_over groups list)) (lists_of changes) → All (λ (changes : ChangesView). IsPlan (plan_over groups changes.list)) changes
all_listed groups changes all = λ k d room.
    let same = get_or-map (λ (changes : ChangesView). changes.list) changes k d d.list room in
    subst (λ list. IsPlan (plan_over groups list)) same (all k d.list (omega (arith, room, length-map changes (λ (changes : ChangesView). changes.list))))

-- Returns the plans that a planner builds at the end.
abbrev pub finished : PlannerView → List GroupLife → PlansView
finished planner groups = plans_view (map (plan_over groups) planner.changes) groups planner.triggers planner.sides planner.table.world.last

as_many : (planner : PlannerView) (limits : Limits) (events : List Event) (groups : List GroupLife) → IsPlanner planner → HasTaken planner limits events → length (finished planner groups).plans ≡ limits.cpus
as_many planner limits events groups is taken = length-map planner.changes (plan_over groups) ∙ is.each ∙ ap (λ (l : Limits). l.cpus) taken.limits_are

plan_made : (planner : PlannerView) (limits : Limits) (events : List Event) (groups : List GroupLife) (cpu : ℕ) → IsPlanner planner → HasTaken planner limits events → groups ≡ planner.table.world.groups → cpu < limits.cpus → plan_at (finished planner groups) cpu ≡ plan_of cpu events
plan_made planner limits events groups cpu is taken same below =
    get_or-map (plan_over groups) planner.changes cpu [] no_plan (omega (arith, below, is.each, ap (λ (l : Limits). l.cpus) taken.limits_are)) ∙ plan_is planner limits events groups cpu taken same below

pub are_plans : (planner : PlannerView) (limits : Limits) (events : List Event) (groups : List GroupLife) → IsPlanner planner → HasTaken planner limits events → groups ≡ planner.table.world.groups → ArePlans (finished planner groups)
are_plans planner limits events groups is taken same =
    let many = as_many planner limits events groups is taken in
    let made : (cpu : ℕ) → cpu < length (finished planner groups).plans → plan_at (finished planner groups) cpu ≡ plan_of cpu events = λ cpu room. plan_made planner limits events groups cpu is taken same (omega (arith, room, many)) in
    record {
      counted = subst IsCpuCount (sym many) taken.counted;
      whole = λ cpu room. subst IsPlan (sym (made cpu room)) (plan_is_whole limits events taken.legal taken.short taken.counted.1 cpu);
      parents = λ cpu room. ap (λ (plan : PlanView). plan.parents) (made cpu room) ∙ sym (ap parents_of (same ∙ ap (λ (w : World). w.groups) taken.world));
      groups = subst AreGroups (sym (same ∙ ap (λ (w : World). w.groups) taken.world)) (legal_after limits events taken.legal).groups;
      small = is.small;
    }

pub they_represent : (planner : PlannerView) (limits : Limits) (events : List Event) (groups : List GroupLife) → IsPlanner planner → HasTaken planner limits events → groups ≡ planner.table.world.groups → Represent (finished planner groups) limits.cpus events
they_represent planner limits events groups is taken same = record {
  each = as_many planner limits events groups is taken;
  changes = λ cpu below. ap (λ (plan : PlanView). map (λ (change : Change). let o : Option Change = Some change in o) plan.changes) (plan_made planner limits events groups cpu is taken same below) ∙ (changes_are_numbered cpu events).0;
  parents = λ cpu below. ap (λ (plan : PlanView). plan.parents) (plan_made planner limits events groups cpu is taken same below);
  lives = same ∙ ap (λ (w : World). w.groups) taken.world;
  triggers = taken.triggers;
  sides = taken.sides;
  finish = ap (λ (w : World). w.last) taken.world;
}

-- ---- what the plans represent

somes_same : (one other : List Change) → map (λ (change : Change). let o : Option Change = Some change in o) one ≡ map (λ (change : Change). let o : Option Change = Some change in o) other → one ≡ other
somes_same [] [] same = refl
somes_same [] (change ∷ other) same = absurd (cc same)
somes_same (change ∷ one) [] same = absurd (cc same)
somes_same (change ∷ one) (next ∷ other) same =
    let here : change ≡ next = cc same in
    let rest = somes_same one other (cc same) in
    rw (here, rest) refl

-- If plans represent events, the plan of each processor is `plan_of` of these events.
pub standing_plans : PlansAreOfEvents
standing_plans plans cpus events represents cpu below =
    let changes = somes_same (plan_at plans cpu).changes (changes_from cpu first_world events) (represents.changes cpu below ∙ sym (changes_are_numbered cpu events).0) in
    let parents = represents.parents cpu below in
    ap (λ cs. let plan : PlanView = record { changes = cs; parents = (plan_at plans cpu).parents } in plan) changes ∙ ap (λ ps. let plan : PlanView = record { changes = changes_from cpu first_world events; parents = ps } in plan) parents

-- ---- a whole trace

-- If the trace has ended, the events taken are a complete trace.
pub ended_is_accepted : EndedIsAccepted
ended_is_accepted planner limits events taken ended = record {
  fit = taken.fit;
  legal = taken.legal;
  ends = last_end limits first_world events refl taken.legal (sym (ap (λ (w : World). w.ended) taken.world) ∙ ended);
}
