use Rattle.std.proofs.Common.{arith, refl, rules}
use Rattle.observe_core.proofs.LookLaws.{last_found, looked_more, looked_none}
use Rattle.observe_core.proofs.looks.look_at_all.Goals as goal

pub cpus-init : goal.cpus-init
cpus-init g c = (looked_none c.args.slot.0 c.args.lasts.now c.args.watcher.now, refl, λ none. omega arith)

pub cpus-preserved : goal.cpus-preserved
cpus-preserved g c = (
  looked_more _ _ _ _ _ _ _ c.cpus.invariant.0 c.in_ok-look.ensures.looked
      (last_found c.args.lasts.now c.cpus.place c.index-lasts-place.result c.index-lasts-place.is (search rules)) (search rules),
  search rules,
  λ none. grind arith,
)
