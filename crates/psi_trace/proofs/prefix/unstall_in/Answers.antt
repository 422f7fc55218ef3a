use Rattle.std.proofs.Common.{refl}
use Rattle.psi_trace.proofs.Prefixes.{unstall_prefix}
use Rattle.psi_trace.proofs.prefix.unstall_in.Goals as goal

pub returns : goal.returns
returns c =
    let pid = c.in_ok-pid.ensures in
    record {
      stays = refl;
      begins = λ at fits. unstall_prefix at c.in_ok-pid.pid c.args.fields.now c.in_ok-pid.rest.now fits pid.0 pid.1;
    }
