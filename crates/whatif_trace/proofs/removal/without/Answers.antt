use Rattle.std.proofs.Common.{◌≤◌, length, rules, subst, sym}
use Rattle.psi_spec.specs.Trace.{IsAccepted}
use Rattle.psi_spec.specs.World.{Limits}
use Rattle.whatif_trace.proofs.Accepted.{without_is_accepted}
use Rattle.whatif_trace.proofs.removal.without.Goals as goal

pub returns-clause-accepted : goal.returns-clause-accepted
returns-clause-accepted c =
    let limits : Limits = record { cpus = c.args.cpus; latest = c.args.latest } in
    let few : length c.in_ok-left.left.items ≤ 4000000 = search rules in
    subst (IsAccepted limits) (sym c.in_ok-left.ensures) (without_is_accepted limits c.args.events.now c.args.at c.args.victim.0 c.requires.few c.requires.accepted (subst (λ es. length es ≤ 4000000) c.in_ok-left.ensures few))
