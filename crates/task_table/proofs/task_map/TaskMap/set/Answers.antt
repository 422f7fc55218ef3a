use Rattle.std.proofs.Common.{◌≡◌, ap, sym, ◌∙◌, arith, is_some, true, false, Some, rules}
use Rattle.std.proofs.lemmas.Grind.{common_steps}
use Rattle.psi_spec.specs.World.{task_of}
use Rattle.task_table.proofs.Tabled as tabled
use Rattle.task_table.proofs.task_map.TaskMap.set.Goals as goal

pub invariant_of-self : goal.invariant_of-self
invariant_of-self c = tabled.count_put _ _ _ c.args.pid c.args.task c.self.invariant (rw (← c.self.view_is) at c.requires) (tabled.placed_listed _ _ _ (Some c.args.task) (search rules))

pub returns-then-place-len : goal.returns-then-place-len
returns-then-place-len c = rw (← c.self.view_is) (tabled.placed_listed _ _ _ (Some c.args.task) (search rules))

pub returns-in_default : goal.returns-in_default
returns-in_default c =
    let none : false ≡ true = sym (ap (λ m. is_some (task_of m c.args.pid)) (sym c.self.view_is) ∙ ap is_some (tabled.get_other c.self.inside.listed.items c.self.inside.others.entries c.args.pid (search rules) ∙ sym c.in_default.ensures.value)) ∙ c.requires in
    cc none

pub invariant_of-self-2 : goal.invariant_of-self-2
invariant_of-self-2 c = tabled.count_put _ _ _ c.args.pid c.args.task c.self.invariant (rw (← c.self.view_is) at c.requires) (tabled.placed_other _ _ _ _ (Some c.args.task) (search rules) (λ q. grind (arith, common_steps)))

pub returns : goal.returns
returns c = rw (← c.self.view_is) (tabled.placed_other _ _ _ _ (Some c.args.task) (search rules) (λ q. grind (arith, common_steps)))
