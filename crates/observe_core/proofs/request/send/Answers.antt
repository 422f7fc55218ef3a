use Rattle.std.proofs.Common.{arith, rules}
use Rattle.outside.proofs.Buffered.{put_failed, puts_flushed}
use Rattle.observe_core.proofs.request.send.Goals as goal

pub returns-in-Ok-clause-bytes : goal.returns-in-Ok-clause-bytes
returns-in-Ok-clause-bytes g c =
    let made = c.new-buffered.ensures.made in
    let put = rw (made.0, made.1) at c.in-Ok.ensures.bytes in
    let all = puts_flushed _ _ _ _ _ _ c.flush.result put c.flush.ensures.bytes c.flush.ensures.all (grind arith) in
    search (rules, all)

pub returns-in-Err-clause-bytes : goal.returns-in-Err-clause-bytes
returns-in-Err-clause-bytes g c =
    let made = c.new-buffered.ensures.made in
    let prefix = rw (made.0, made.1) at c.in-Err.ensures.bytes in
    let all = put_failed _ _ _ _ prefix (grind arith) in
    search (rules, all)
