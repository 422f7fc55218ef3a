use Rattle.std.proofs.Common.{◌≡◌, map, subst, sym, ◌∙◌}
use Rattle.std.proofs.lemmas.Simd.{map-map}
use Rattle.proc_plan.specs.Plans.{HasTaken, plan_over, planner_view}
use Rattle.proc_plan.specs.Room.{ChangesView, lists_of}
use Rattle.proc_plan.proofs.Finishing.{all_listed, all_whole, are_plans, they_represent}
use Rattle.proc_plan.proofs.planner.Planner.finish.Goals as goal

pub make_plans-requires : goal.make_plans-requires
make_plans-requires c =
    let planner = planner_view c.self.inside.table (lists_of c.self.inside.changes.items) c.self.inside.triggers.items c.self.inside.sides.items in
    let trace = c.requires in
    all_listed c.into_groups-groups.result c.self.inside.changes.items
    (all_whole planner trace.0 trace.1 c.into_groups-groups.result c.self.invariant (subst (λ p. HasTaken p trace.0 trace.1) (sym c.self.view_is) trace.2) c.into_groups-groups.ensures)

pub new-requires : goal.new-requires
new-requires c =
    let planner = planner_view c.self.inside.table (lists_of c.self.inside.changes.items) c.self.inside.triggers.items c.self.inside.sides.items in
    let trace = c.requires in
    let plans : c.in_ok-plans.plans.items ≡ map (plan_over c.into_groups-groups.result) (lists_of c.self.inside.changes.items) =
    c.in_ok-plans.ensures ∙ sym (map-map (plan_over c.into_groups-groups.result) (λ (changes : ChangesView). changes.list) c.self.inside.changes.items) in
    rw (plans, c.last-finish.ensures) (are_plans planner trace.0 trace.1 c.into_groups-groups.result c.self.invariant (subst (λ p. HasTaken p trace.0 trace.1) (sym c.self.view_is) trace.2) c.into_groups-groups.ensures)

pub returns : goal.returns
returns c = λ limits events taken.
    let planner = planner_view c.self.inside.table (lists_of c.self.inside.changes.items) c.self.inside.triggers.items c.self.inside.sides.items in
    let plans : c.in_ok-plans.plans.items ≡ map (plan_over c.into_groups-groups.result) (lists_of c.self.inside.changes.items) =
    c.in_ok-plans.ensures ∙ sym (map-map (plan_over c.into_groups-groups.result) (λ (changes : ChangesView). changes.list) c.self.inside.changes.items) in
    rw (c.new.ensures, plans, c.last-finish.ensures)
    (they_represent planner limits events c.into_groups-groups.result c.self.invariant (subst (λ p. HasTaken p limits events) (sym c.self.view_is) taken) c.into_groups-groups.ensures)
