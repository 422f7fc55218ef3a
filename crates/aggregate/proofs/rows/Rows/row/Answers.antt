use Rattle.std.proofs.Common.{◌≡◌, ◌<◌, ◌*◌, [], length, get_or, take, drop, arith, sym, ◌∙◌, ap}
use Rattle.std.proofs.lemmas.List.{length-drop}
use Rattle.aggregate.proofs.TableLaws.{length-rows_of, get_or-rows_of, row_end}
use Rattle.aggregate.proofs.rows.Rows.row.Goals as goal

pub split_at-requires : goal.split_at-requires
split_at-requires c =
    let table = c.self.inside in
    let slot : c.args.slot.0 < table.slots = omega (arith, c.requires, ap length c.self.view_is, length-rows_of table.cpus table.slots table.times.items) in
    omega (arith, row_end c.args.slot.0 table.slots table.cpus slot, ap length c.deref.ensures.value, c.self.invariant)

pub split_at-requires-2 : goal.split_at-requires-2
split_at-requires-2 c =
    let table = c.self.inside in
    let slot : c.args.slot.0 < table.slots = omega (arith, c.requires, ap length c.self.view_is, length-rows_of table.cpus table.slots table.times.items) in
    let rest : length c.split_at.result.1.now ≡ length (drop (c.args.slot.0 * table.cpus) c.deref.result.now) = ap length c.split_at.ensures.back in
    omega (arith, row_end c.args.slot.0 table.slots table.cpus slot, ap length c.deref.ensures.value, c.self.invariant, rest, length-drop (c.args.slot.0 * table.cpus) c.deref.result.now)

pub returns : goal.returns
returns c =
    let table = c.self.inside in
    let slot : c.args.slot.0 < table.slots = omega (arith, c.requires, ap length c.self.view_is, length-rows_of table.cpus table.slots table.times.items) in
    c.split_at-2.ensures.front ∙ ap (take table.cpus) (c.split_at.ensures.back ∙ ap (drop (c.args.slot.0 * table.cpus)) c.deref.ensures.value)
    ∙ sym (get_or-rows_of table.cpus table.slots table.times.items c.args.slot.0 [] slot) ∙ ap (λ rows. get_or rows c.args.slot.0 []) c.self.view_is
