use Rattle.std.proofs.Common.{◌≡◌, ◌<◌, [], length, get_or, set, arith, ap, ◌∙◌, ◌⊎◌, ⊎_elim}
use Rattle.std.proofs.lemmas.List.{ext_get_or, get_or-set_other, get_or-set_same}
use Rattle.tick_engine.proofs.StepLaws.{sizes_stay}
use Rattle.pressure_tests.proofs.engine.machine.copy_table.Goals as goal

pub slots-preserved : goal.slots-preserved
slots-preserved c =
    let i = c.slots.invariant in
    let from = c.args.from.now in
    let table = c.slots.into in
    let slot = c.slots.slot in
    let new = c.set_row.new.self in
    let row = get_or from slot [] in
    let there : slot < length table = omega (arith, c.slots-test.true, c.requires.slots, i.sizes.slots) in
    let is : new ≡ set table slot row = c.set_row.ensures ∙ ap (set table slot) c.row.ensures in
    record {
      sizes = sizes_stay table from new slot there i.sizes is;
      copied = λ k early.
          let case : (k < slot) ⊎ (k ≡ slot) = grind (arith, early) in
          ap (λ t. get_or t k []) is
          ∙ ⊎_elim
          (λ before. get_or-set_other table slot k row [] (λ same. omega (arith, same, before)) ∙ i.copied k before)
          (λ now. rw now (get_or-set_same table slot row [] there))
          case;
    }

pub returns : goal.returns
returns c =
    let i = c.slots.invariant in
    ext_get_or [] c.slots.into c.args.from.now i.sizes.slots (λ k below. i.copied k (omega (arith, below, i.sizes.slots, c.requires.slots)))
