use Rattle.std.proofs.Common.{◌≡◌, ◌<◌, List, ℕ, [], length, get_or, arith, sym, ◌∙◌, ap}
use Rattle.aggregate.specs.Table.{row_in, put_times}
use Rattle.aggregate.proofs.TableLaws.{rows_of-set, length-rows_of, length-row_in, get_or-rows_of, row_end}
use Rattle.aggregate.proofs.rows.Rows.set.Goals as goal

pub index_mut-requires : goal.index_mut-requires
index_mut-requires c =
    let table = c.self.inside in
    let slot : c.args.slot.0 < table.slots = omega (arith, c.requires.slot, ap length c.self.view_is, length-rows_of table.cpus table.slots table.times.items) in
    let row : get_or c.args.self.now c.args.slot.0 [] ≡ row_in table.cpus table.times.items c.args.slot.0 = ap (λ (rows : List (List (List ℕ))). get_or rows c.args.slot.0 []) (sym c.self.view_is) ∙ get_or-rows_of table.cpus table.slots table.times.items c.args.slot.0 [] slot in
    let cpu : c.args.cpu.0 < table.cpus = omega (arith, c.requires.cpu, ap length row, length-row_in table.cpus table.slots table.times.items c.args.slot.0 c.self.invariant slot) in
    omega (arith, row_end c.args.slot.0 table.slots table.cpus slot, c.self.invariant, cpu)

pub returns : goal.returns
returns c =
    let table = c.self.inside in
    let slot : c.args.slot.0 < table.slots = omega (arith, c.requires.slot, ap length c.self.view_is, length-rows_of table.cpus table.slots table.times.items) in
    let row : get_or c.args.self.now c.args.slot.0 [] ≡ row_in table.cpus table.times.items c.args.slot.0 = ap (λ (rows : List (List (List ℕ))). get_or rows c.args.slot.0 []) (sym c.self.view_is) ∙ get_or-rows_of table.cpus table.slots table.times.items c.args.slot.0 [] slot in
    let cpu : c.args.cpu.0 < table.cpus = omega (arith, c.requires.cpu, ap length row, length-row_in table.cpus table.slots table.times.items c.args.slot.0 c.self.invariant slot) in
    rows_of-set table.cpus table.slots table.times.items c.args.slot.0 c.args.cpu.0 c.args.times slot cpu ∙ ap (λ (rows : List (List (List ℕ))). put_times rows c.args.slot.0 c.args.cpu.0 c.args.times) c.self.view_is
