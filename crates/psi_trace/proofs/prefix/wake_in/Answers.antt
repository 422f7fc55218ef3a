use Rattle.std.proofs.Common.{refl}
use Rattle.psi_trace.proofs.Prefixes.{wake_prefix}
use Rattle.psi_trace.proofs.prefix.wake_in.Goals as goal

pub returns : goal.returns
returns c =
    let pid = c.in_ok-pid.ensures in
    let cpu = c.in_ok-cpu.ensures in
    record {
      stays = refl;
      begins = λ at fits. wake_prefix at c.in_ok-pid.pid c.in_ok-cpu.cpu c.args.fields.now c.in_ok-pid.rest.now c.in_ok-cpu.rest.now fits pid.0 cpu.0 pid.1 cpu.1;
    }
