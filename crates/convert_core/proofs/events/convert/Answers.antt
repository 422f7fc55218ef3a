use Rattle.std.proofs.Common.{◌≡◌, ◌∙◌, Global, Ok, map, string_bytes, subst, sym}
use Rattle.std.specs.Prelude.{Result}
use Rattle.page_spec.specs.declared.layout.Layout.{Layout}
use Rattle.convert_table.specs.declared.fault.TableFault.{TableFault}
use Rattle.convert_table.specs.Table.{table_of}
use Rattle.convert_core.specs.Convert.{output_with}
use Rattle.convert_core.specs.Runs.{Converts}
use Rattle.convert_core.proofs.Tables.{table_alone, table_prefix, table_refused, table_unread}
use Rattle.convert_core.proofs.events.convert.Goals as goal

pub returns-in-Err-clause-order : goal.returns-in-Err-clause-order
returns-in-Err-clause-order g c =
    table_unread c.args.table.now (map (string_bytes {Z = Global}) c.args.names.now) _ _ c.in-Err.fault c.table_status.result c.in-Err.ensures.order c.table_status.ensures.exact

pub returns-in-Ok-read_table-clause-bytes : goal.returns-in-Ok-read_table-clause-bytes
returns-in-Ok-read_table-clause-bytes g c = λ bytes wholes shows known.
    let content = c.deref.ensures.value ∙ c.in-Ok.ensures.prefix bytes shows in
    let table : table_of bytes ≡ Ok c.in-Ok-read_table.layout = sym (table_prefix bytes) ∙ rw content at c.in-Ok-read_table.ensures.exact in
    subst (λ (t : Result Layout TableFault). Converts (g.K.Sink.has c.args.out.now) (g.K.Sink.has c.put_events.new.out) (output_with t wholes) c.put_events.result) (sym table)
    (c.put_events.ensures.bytes wholes (rw c.in-Ok.ensures.unchanged known))

pub returns-clause-bytes : goal.returns-clause-bytes
returns-clause-bytes g c = λ bytes wholes shows known.
    let content = c.deref.ensures.value ∙ c.in-Ok.ensures.prefix bytes shows in
    table_refused (g.K.Sink.has c.args.out.now) bytes wholes c.in-Err-read_table.fault c.refused_status.result (rw content at c.in-Err-read_table.ensures.exact) c.refused_status.ensures.exact

pub returns-clause-order : goal.returns-clause-order
returns-clause-order g c =
    table_alone c.args.table.now (map (string_bytes {Z = Global}) c.args.names.now) _ _ c.in-Err-read_table.fault c.refused_status.result c.in-Ok.ensures.order c.refused_status.ensures.exact
