use Rattle.std.proofs.Common.{sym, true≢false}
use Rattle.ruleset_json.proofs.Views.{data_read, data_refused}
use Rattle.ruleset_json.proofs.json.value_of.Goals as goal

pub returns-in-Ok : goal.returns-in-Ok
returns-in-Ok c = data_read c.args.bytes.now _ c.in-Ok.ensures.ok.0 c.in-Ok.ensures.ok.1

pub returns-else-is_memory : goal.returns-else-is_memory
returns-else-is_memory c = rw c.refused.ensures (data_refused c.args.bytes.now (c.in-Err.ensures.err (λ memory. true≢false (sym (c.if-is_memory.ensures.1 memory)))))
