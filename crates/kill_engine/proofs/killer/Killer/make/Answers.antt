use Rattle.std.proofs.Common.{◌≡◌, [], length, arith}
use Rattle.kill_engine.proofs.RulesetLaws as laws
use Rattle.kill_engine.proofs.killer.Killer.make.Goals as goal

pub invariant_of-result : goal.invariant_of-result
invariant_of-result c =
    let represents = c.in_ok-rulesets_of.ensures in
    let count = laws.ruled_count c.args.lives.now [] 0 c.in_ok-rulesets_of.field-0.items c.into_items.result.items represents in
    let slots : length c.in_ok-make.field-0.sizes ≡ length c.args.lives.now = c.in_ok-make.ensures.slots in (
      record { room = omega (arith, c.in_ok-with_capacity.ensures.exact) },
      record {
        few = omega (arith, count, c.into_items.ensures.fits.few);
        at = rw slots (laws.begun c.args.lives.now 0 c.in_ok-rulesets_of.field-0.items c.into_items.result.items represents);
      },
    )
