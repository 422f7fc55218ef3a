use Rattle.std.proofs.Common.{◌≡◌, ◌+◌, List, take, get_or, map, sym, ap, subst, ◌∙◌, true}
use Rattle.psi_base.specs.declared.event.Slot.{Slot}
use Rattle.psi_spec.specs.declared.machine.GroupLife.{GroupLife}
use Rattle.psi_spec.specs.Groups.{is_live_at}
use Rattle.kill_spec.specs.Readings.{path_of}
use Rattle.kill_spec.specs.LegalReadings.{Ascend}
use Rattle.detectors.specs.Views.{ComesLast, ReadingView, reading_of}
use Rattle.group_tree.specs.Tree.{numbers_of}
use Rattle.replay_rules.specs.Seen.{reading_by}
use Rattle.replay_rules.proofs.SeenLaws.{groups_ascend, groups_more, live_is}
use Rattle.replay_rules.proofs.seen.fill_reading.Goals as goal

pub push-requires-clause-order : goal.push-requires-clause-order
push-requires-clause-order c =
    let lives : List GroupLife = c.args.reading.now.lives in
    let engine = c.args.engine.now in
    let watch = c.args.watch.now in
    let order = c.args.order.now in
    let i = c.slots.slot-index in
    let none : Slot = record { 0 = 0 } in
    let slot : Slot = get_or order i none in
    let inside = c.slots-test.true in
    let there : c.lives.result.now ≡ lives =
    c.lives.ensures.lives ∙ ap (λ (r : ReadingView). r.lives) c.slots.invariant in
    let life : get_or lives slot.0 c.index-lives-slot.result ≡ c.index-lives-slot.result =
    ap (λ ls. get_or ls slot.0 c.index-lives-slot.result) (sym there)
    ∙ sym c.index-lives-slot.is in
    let on : is_live_at (get_or lives slot.0 c.index-lives-slot.result) c.args.at ≡ true =
    ap (λ l. is_live_at l c.args.at) life ∙ sym c.is_live_at.ensures
    ∙ c.if-not-is_live_at.false in
    let live = live_is lives c.args.at slot.0 c.index-lives-slot.result true
    (c.requires.made i none inside) on in
    let next = subst (λ gs. Ascend (map (path_of lives) gs))
    (groups_more engine watch lives c.args.at order i none inside live)
    (groups_ascend engine watch lives c.args.at order (i + 1) c.requires.ascend) in
    let prefix : ReadingView = reading_of lives
    (reading_by engine watch lives c.args.at (numbers_of (take i order))) in
    let group = subst (λ g. ComesLast prefix g) (sym c.read_group.ensures.group) next in
    subst (λ r. ComesLast r c.read_group.result) (sym c.slots.invariant) group
