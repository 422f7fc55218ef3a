use Rattle.std.proofs.Common.{◌≡◌, ◌+◌, ◌-◌, ◌<◌, ap, sym, ◌∙◌, refl, arith, length}
use Rattle.group_tree.proofs.Ordered.{live_rest, past_live}
use Rattle.group_tree.proofs.order.live_by_path.Goals as goal

pub groups-preserved : goal.groups-preserved
groups-preserved c =
    let before : c.groups.left - 1 < length c.args.lives.now = omega (arith, c.groups.invariant.inside, c.groups-test.true) in
    let next : c.groups.left ≡ c.groups.left - 1 + 1 = omega (arith, c.groups-test.true) in
    record {
      inside = omega (arith, before);
      done = rw c.in_ok-insert.ensures.entries (past_live c.args.lives.now (c.groups.left - 1) c.index-lives-left.result c.groups.groups.entries _ before c.index-lives-left.is (sym c.is_some.ensures ∙ c.if-is_some.false) refl (c.groups.invariant.done ∙ ap (live_rest c.args.lives.now) next));
    }
