use Rattle.std.proofs.Common.{◌≡◌, arith, false, rules, true}
use Rattle.convert_core.specs.Convert.{files_output}
use Rattle.convert_core.specs.Runs.{ends_whole}
use Rattle.convert_core.proofs.Wholes.{stopped, unsent}
use Rattle.convert_core.proofs.events.put_buffered.Goals as goal

pub returns-then-not-ends_whole-clause-bytes : goal.returns-then-not-ends_whole-clause-bytes
returns-then-not-ends_whole-clause-bytes g c = λ wholes known.
    let made = c.new-buffered.ensures.made in
    let early : ends_whole c.put_files-status.result ≡ false = cc (c.ends_whole.ensures, c.if-not-ends_whole.true) in
    let puts = rw (made.0, made.1) at (c.put_files-status.ensures.bytes wholes known) in
    let h = stopped _ _ _ (files_output c.args.layout.now 0 wholes) c.put_files-status.result early puts (grind arith) in
    search (rules, h)

pub returns-in-Err-clause-bytes : goal.returns-in-Err-clause-bytes
returns-in-Err-clause-bytes g c = λ wholes known.
    let made = c.new-buffered.ensures.made in
    let whole : ends_whole c.put_files-status.result ≡ true = cc (c.ends_whole.ensures, c.if-not-ends_whole.false) in
    let puts = rw (made.0, made.1) at (c.put_files-status.ensures.bytes wholes known) in
    let h = unsent _ _ _ _ _ (files_output c.args.layout.now 0 wholes) c.put_files-status.result whole puts c.in-Err.ensures.bytes (grind arith) in
    search (rules, h)
