use Rattle.std.proofs.Common.{◌≡◌, ◌<◌, ◌*◌, ◌+◌, ◌++◌, [], List, ℕ, length, get_or, set, take, drop, arith, sym, ◌∙◌, ap}
use Rattle.std.proofs.lemmas.List.{drop-drop, length-append, with_items_is}
use Rattle.aggregate.specs.Table.{row_in, rows_of}
use Rattle.aggregate.proofs.TableLaws.{length-rows_of, length-row_in, get_or-rows_of, row_end, rows_of-taken}
use Rattle.aggregate.proofs.rows.Rows.set_row.Goals as goal

pub split_at_mut-rest-requires : goal.split_at_mut-rest-requires
split_at_mut-rest-requires c =
    let table = c.self.inside in
    let slot : c.args.slot.0 < table.slots = omega (arith, c.requires.slot, ap length c.self.view_is, length-rows_of table.cpus table.slots table.times.items) in
    omega (arith, row_end c.args.slot.0 table.slots table.cpus slot, ap length c.deref_mut.ensures.value, c.self.invariant)

pub split_at_mut-into-requires : goal.split_at_mut-into-requires
split_at_mut-into-requires c =
    let table = c.self.inside in
    let slot : c.args.slot.0 < table.slots = omega (arith, c.requires.slot, ap length c.self.view_is, length-rows_of table.cpus table.slots table.times.items) in
    omega (arith, row_end c.args.slot.0 table.slots table.cpus slot, ap length c.deref_mut.ensures.value, c.self.invariant, c.split_at_mut-rest.ensures.back_len)

pub copy_from_slice-requires : goal.copy_from_slice-requires
copy_from_slice-requires c =
    let table = c.self.inside in
    let slot : c.args.slot.0 < table.slots = omega (arith, c.requires.slot, ap length c.self.view_is, length-rows_of table.cpus table.slots table.times.items) in
    let row : get_or c.args.self.now c.args.slot.0 [] ≡ row_in table.cpus table.times.items c.args.slot.0 = ap (λ (rows : List (List (List ℕ))). get_or rows c.args.slot.0 []) (sym c.self.view_is) ∙ get_or-rows_of table.cpus table.slots table.times.items c.args.slot.0 [] slot in
    let wide = length-row_in table.cpus table.slots table.times.items c.args.slot.0 c.self.invariant slot in
    omega (arith, c.requires.row, ap length row, wide, c.split_at_mut-into.ensures.front_len)

pub returns : goal.returns
returns c =
    let table = c.self.inside in
    let flat = table.times.items in
    let slot = c.args.slot.0 in
    let start = slot * table.cpus in
    let below : slot < table.slots = omega (arith, c.requires.slot, ap length c.self.view_is, length-rows_of table.cpus table.slots flat) in
    let row : get_or c.args.self.now slot [] ≡ row_in table.cpus flat slot = ap (λ (rows : List (List (List ℕ))). get_or rows slot []) (sym c.self.view_is) ∙ get_or-rows_of table.cpus table.slots flat slot [] below in
    let wide : length c.args.row.now ≡ table.cpus = c.requires.row ∙ ap length row ∙ length-row_in table.cpus table.slots flat slot c.self.invariant below in
    let prefix : c.split_at_mut-rest.result.0.now ≡ take start flat = c.split_at_mut-rest.ensures.front ∙ ap (take start) c.deref_mut.ensures.value in
    let rest : c.split_at_mut-rest.result.1.now ≡ drop start flat = c.split_at_mut-rest.ensures.back ∙ ap (drop start) c.deref_mut.ensures.value in
    let back : c.split_at_mut-into.result.1.now ≡ drop (start + table.cpus) flat = c.split_at_mut-into.ensures.back ∙ ap (drop table.cpus) rest ∙ drop-drop table.cpus start flat in
    let copied : c.copy_from_slice.new.self ≡ c.args.row.now = c.copy_from_slice.ensures.after in
    let written = c.split_at_mut-rest.result.0.now ++ (c.copy_from_slice.new.self ++ c.split_at_mut-into.result.1.now) in
    let whole : written ≡ take start flat ++ (c.args.row.now ++ drop (start + table.cpus) flat) =
    ap (λ xs. xs ++ (c.copy_from_slice.new.self ++ c.split_at_mut-into.result.1.now)) prefix
    ∙ ap (λ xs. take start flat ++ (xs ++ c.split_at_mut-into.result.1.now)) copied
    ∙ ap (λ xs. take start flat ++ (c.args.row.now ++ xs)) back in
    let outer = length-append c.split_at_mut-rest.result.0.now (c.copy_from_slice.new.self ++ c.split_at_mut-into.result.1.now) in
    let inner = length-append c.copy_from_slice.new.self c.split_at_mut-into.result.1.now in
    let long : length written ≡ table.times.len =
    omega (arith, outer, inner, ap length copied, wide, c.split_at_mut-rest.ensures.front_len, c.split_at_mut-rest.ensures.back_len, c.split_at_mut-into.ensures.back_len, c.deref_mut.ensures.len, ap length c.deref_mut.ensures.value) in
    ap (rows_of table.cpus table.slots) (with_items_is table.times written long ∙ whole)
    ∙ rows_of-taken table.cpus table.slots flat c.args.row.now slot c.self.invariant below wide
    ∙ ap (λ (rows : List (List (List ℕ))). set rows slot c.args.row.now) c.self.view_is
