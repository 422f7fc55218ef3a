use Rattle.std.proofs.Common.{◌∙◌}
use Rattle.pressure_text.proofs.Puts.{file_pieces}
use Rattle.pressure_text.proofs.file.put_line.Goals as goal

pub returns-clause-bytes : goal.returns-clause-bytes
returns-clause-bytes g c =
    let sent = rw (c.as_bytes.ensures.value ∙ c.word.ensures.word) at c.put_pieces.ensures.bytes in
    rw (← file_pieces c.args.level c.args.averages c.args.total) sent
