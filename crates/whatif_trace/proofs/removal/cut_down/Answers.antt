use Rattle.std.proofs.Common.{arith, refl, rules}
use Rattle.psi_spec.specs.World.{Limits}
use Rattle.whatif_trace.proofs.Accepted.{early_enough}
use Rattle.whatif_trace.proofs.Cutting.{split_at}
use Rattle.whatif_trace.proofs.Joining.{join}
use Rattle.whatif_trace.proofs.Killed.{all_forked}
use Rattle.whatif_trace.proofs.Together.{cut_at}
use Rattle.whatif_trace.proofs.removal.cut_down.Goals as goal

pub play_all-requires : goal.play_all-requires
play_all-requires c =
    let limits : Limits = record { cpus = c.args.cpus; latest = c.args.latest } in
    let cut = cut_at limits c.args.events.now c.args.at c.requires.accepted.legal c.requires.accepted.ends c.requires.before in
    let split = split_at limits c.args.events.now c.args.at c.prefix_length-count.result cut c.prefix_length-count.ensures.length in
    rw (c.in_ok-table.ensures, c.prefix_of-prefix.ensures, split.prefix) cut.legal

pub left_of-requires : goal.left_of-requires
left_of-requires c = rw (c.in_ok-play_all.ensures.world, c.in_ok-table.ensures) (all_forked c.prefix_of-prefix.result.now)

pub overflow_add-at : goal.overflow_add-at
overflow_add-at c =
    let limits : Limits = record { cpus = c.args.cpus; latest = c.args.latest } in
    let cut = cut_at limits c.args.events.now c.args.at c.requires.accepted.legal c.requires.accepted.ends c.requires.before in
    let early = early_enough limits c.args.events.now c.args.at cut c.requires.accepted.fit in
    omega (arith, early)

pub returns : goal.returns
returns c =
    let limits : Limits = record { cpus = c.args.cpus; latest = c.args.latest } in
    let whole = join limits c.args.events.now c.args.at c.args.victim.0 c.prefix_length-count.result c.prefix_of-prefix.result.now c.rest_of-rest.result.now _ _ _ c.play_all.new.table.world c.play_all.new.runners.items _ _
    c.requires.accepted c.requires.before c.prefix_length-count.ensures.length c.prefix_of-prefix.ensures c.rest_of-rest.ensures
    (search rules) (search rules) refl refl refl refl refl in
    rw (← whole) c.left_of.ensures
