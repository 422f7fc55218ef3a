use Rattle.std.proofs.Common.{◌≡◌, ◌/◌, ◌*◌, ap, ◌∙◌}
use Rattle.std.specs.Prelude.{max, min}
use Rattle.replay_workers.proofs.deal.room_for.Goals as goal

pub returns-clause-room : goal.returns-clause-room
returns-clause-room c =
    let bytes : c.max-fits.result ≡ max (64 * (c.args.slots * c.args.cpus)) 1 = rw (← c.from.ensures, ← c.from-2.ensures) c.max-fits.ensures in
    c.max.ensures ∙ ap (λ n. max n 1) (c.min-2.ensures ∙ ap (λ n. min n 256) (c.min.ensures ∙ ap (λ n. min (64000000 / n) c.args.moments) bytes))
