use Rattle.std.proofs.Common.{arith, rules}
use Rattle.outside.proofs.Grows.{Appends-then, AppendsPrefix-last}
use Rattle.outside.proofs.Buffered.{put_failed, puts_flushed}
use Rattle.reading_tests.proofs.base.buffered.put_buffered.Goals as goal

pub returns-in_err-put_number-clause-bytes : goal.returns-in_err-put_number-clause-bytes
returns-in_err-put_number-clause-bytes g c =
    let made = c.new-buffered.ensures.made in
    let prefix = rw (made.0, made.1) at (AppendsPrefix-last _ _ _ _ _ c.in_ok-put_all.ensures.bytes c.in_err-put_number.ensures.bytes) in
    let h = put_failed _ _ _ _ prefix (grind arith) in
    search (rules, h)

pub returns-clause-bytes : goal.returns-clause-bytes
returns-clause-bytes g c =
    let made = c.new-buffered.ensures.made in
    let put = rw (made.0, made.1) at (Appends-then _ _ _ _ _ c.in_ok-put_all.ensures.bytes c.in_ok-put_number.ensures.bytes) in
    let h = puts_flushed _ _ _ _ _ _ c.flush.result put c.flush.ensures.bytes c.flush.ensures.all (grind arith) in
    search (rules, h)
