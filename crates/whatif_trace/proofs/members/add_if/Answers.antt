use Rattle.whatif_trace.proofs.Adding.{put_in}
use Rattle.whatif_trace.proofs.members.add_if.Goals as goal

pub returns-in_ok-insert-clause-among : goal.returns-in_ok-insert-clause-among
returns-in_ok-insert-clause-among c = λ k. rw c.if-test.true (put_in _ _ _ c.in_ok-insert.ensures.updates.0 k)
