use Rattle.std.proofs.Common.{rules, ◌≡◌, ℕ, ◌*◌, ◌+◌, List, [], replicate, length, sym, ap, ◌∙◌, subst}
use Rattle.atomic_table.specs.Table.{opening}
use Rattle.clock_row.specs.declared.view.View.TheVariants.{Writer}
use Rattle.clock_row.specs.declared.view.WriterView.{WriterView}
use Rattle.clock_row.specs.Row.{HoldsRule, first_view, writer_at_start}
use Rattle.clock_row.specs.Seats.{as_writer, writer_on}
use Rattle.clock_row.specs.Words.{AreClockWords}
use Rattle.clock_row.proofs.Keeps.{start_holds}
use Rattle.clock_row.proofs.NineWords.{row_long, row_of_zeros, zeros_are}
use Rattle.clock_row.proofs.writer.Row.make.Goals as goal

pub of_words-requires : goal.of_words-requires
of_words-requires c =
    let plan = c.args.plan.now in
    let items : c.in_ok-words.words.items ≡ replicate (9 * c.args.slots + 1) 0 = search rules in
    let zeros = row_of_zeros c.args.slots (length plan.parents) c.requires ∙ sym (c.deref.ensures.value ∙ items) in
    subst (λ (ws : List ℕ). HoldsRule (opening ws [] (first_view plan))) zeros (start_holds plan (replicate (9 * length plan.parents) 0) (zeros_are plan))

pub invariant_of-result : goal.invariant_of-result
invariant_of-result c =
    let plan = c.args.plan.now in
    let items : c.in_ok-words.words.items ≡ replicate (9 * c.args.slots + 1) 0 = search rules in
    let here = ap (λ m. m.0) c.in_ok-table.ensures.4 in
    let is : writer_on c.in_ok-table.seat ≡ writer_at_start plan (replicate (9 * length plan.parents) 0) = ap as_writer here in
    record {
      on_row = search rules;
      wide = ap (λ t. t.shared.table_id.words) c.in_ok-new.ensures.ok ∙ (c.in_ok-table.ensures.0 ∙ row_long c.args.slots (length plan.parents) c.deref.result.now c.requires (c.deref.ensures.value ∙ items));
      fits = search rules;
      writer = here ∙ ap (λ (w : WriterView). Writer w) (sym is);
      still = ap (λ (w : WriterView). w.changing) is;
      whole = c.see_whole.ensures;
      plan_is = ap (λ (w : WriterView). w.plan) is;
      clocks_plan = search rules;
      clocks_made = search rules;
      words = subst (λ (w : WriterView). AreClockWords plan w.count w.body) (sym is) (zeros_are plan);
    }
