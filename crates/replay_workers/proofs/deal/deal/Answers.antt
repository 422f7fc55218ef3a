use Rattle.std.proofs.Common.{◌<◌, [], ◌∷◌, ap, arith, length, subst, sym, ◌∙◌}
use Rattle.std.proofs.lemmas.List.{length-append}
use Rattle.replay_workers.specs.Lanes.{IsNewBatch, batch_at}
use Rattle.replay_workers.proofs.Steps.{each_more}
use Rattle.replay_workers.proofs.deal.deal.Goals as goal

pub workers-preserved : goal.workers-preserved
workers-preserved c =
    let i = c.workers.invariant in
    let plans = c.args.plans.now in
    let batches = c.workers.batches.items in
    let batch = c.in_ok-deal_batch.field-0 in
    let items = c.in_ok-push.ensures.items in
    let here : IsNewBatch plans c.args.room c.args.in_rows c.args.workers (length batches) batch = subst (λ n. IsNewBatch plans c.args.room c.args.in_rows c.args.workers n batch) (sym i.many) c.in_ok-deal_batch.ensures in
    record {
      many = ap length items ∙ length-append batches (batch ∷ []) ∙ omega (arith, i.many);
      each = λ worker below. subst (λ xs. IsNewBatch plans c.args.room c.args.in_rows c.args.workers worker (batch_at xs worker)) (sym items) (each_more (λ n b. IsNewBatch plans c.args.room c.args.in_rows c.args.workers n b) batches batch [] i.each here worker (subst (λ xs. worker < length xs) items below));
    }
