use Rattle.psi_trace.proofs.Prefixes.{switch_prefix}
use Rattle.psi_trace.proofs.prefix.switch_in.Goals as goal

pub returns : goal.returns
returns c =
    let cpu = c.in_ok-cpu.ensures in
    let next = c.in_ok-next.ensures in
    record {
      stays = c.in_ok-how.ensures.stays;
      begins = λ at fits. switch_prefix at c.in_ok-cpu.cpu c.in_ok-next.next c.in_ok-how.how c.args.fields.now c.in_ok-cpu.rest.now c.in_ok-next.rest.now c.in_ok-how.rest.now fits cpu.0 next.0 cpu.1 next.1 c.in_ok-how.ensures.word;
    }
