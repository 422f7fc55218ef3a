use Rattle.std.proofs.Common.{◌≤◌, ap, arith, length, sym, ◌∙◌}
use Rattle.std.specs.Prelude.{◌&&◌, ◌||◌}
use Rattle.whatif_spec.specs.Without.{is_pid_among}
use Rattle.whatif_trace.specs.Left.{is_made, is_member}
use Rattle.std.proofs.lemmas.List.{drop_all}
use Rattle.whatif_trace.proofs.Adding.{all_looked}
use Rattle.whatif_trace.proofs.Killed.{members_are}
use Rattle.whatif_trace.proofs.members.members.Goals as goal

pub returns : goal.returns
returns c =
    let past : length c.args.events.now ≤ c.events.at = omega (arith, c.events-test.false) in
    members_are c.args.table.now.world c.args.victim.0 c.args.events.now c.events.members.keys c.requires c.events.invariant.sorted
    (λ pid. all_looked _ (is_member c.args.table.now.world c.args.victim.0 pid) _ (sym (ap (λ es. is_pid_among c.events.members.keys pid || (is_made pid es && is_member c.args.table.now.world c.args.victim.0 pid)) (drop_all c.events.at c.args.events.now past)) ∙ c.events.invariant.among pid))
