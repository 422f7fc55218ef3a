use Rattle.std.proofs.Common.{◌≡◌, ◌+◌, length, get_or, arith, sym, ap, ◌∙◌}
use Rattle.std.specs.Prelude.{decimal, ◌++◌, ◌∷◌}
use Rattle.std.proofs.lemmas.Slice.{between_to_end}
use Rattle.psi_trace.proofs.Prefixes.{number_prefix}
use Rattle.psi_trace.proofs.prefix.ended_by.Goals as goal
use Rattle.psi_trace.proofs.prefix.ended_by.Goals.{else-count-gt1-via-then-count-gt1+else-bytes-eq48, else-count-gt1-via-else-count-gt1}

pub returns : goal.returns
returns c =
    let count = c.args.count in
    let some = c.if-count-eq0.false in
    let first : get_or c.args.bytes.now 0 0 ≡ 48 → count ≡ 1 = λ zero. elim c.else-count-gt1.branch [
      | else-count-gt1-via-then-count-gt1+else-bytes-eq48 w ↦ absurd (w.if-bytes-eq48.false zero)
      | else-count-gt1-via-else-count-gt1 w ↦ omega (arith, some, w.if-count-gt1.false)
    ] in
    number_prefix c.args.bytes.now c.args.number count c.args.end c.requires (omega (arith, some)) first (omega (arith, c.ranges.number.fits)) c.if-count-bytes.false c.if-bytes-count.false
    ∙ ap (λ rest. decimal c.args.number ++ c.args.end ∷ rest) (sym (between_to_end c.args.bytes.now (count + 1) (length c.args.bytes.now) (omega arith)))
