use Rattle.std.proofs.Common.{refl, inl, inr, sym, ap, ◌∙◌, ◌++◌}
use Rattle.psi_trace.proofs.Headers.{before-first, before-second, first_before, no_prefix_of, second_before, with_prefix}
use Rattle.psi_trace.proofs.header.version_in.Goals as goal

pub returns-in-Some : goal.returns-in-Some
returns-in-Some c =
    let cut = c.in-Some.ensures.cases in
    (inl refl, with_prefix c.args.line.now c.as_slice.result.now c.in-Some.number.now first_before c.as_slice.ensures cut.0 cut.1 ∙ ap (λ bytes. bytes ++ c.in-Some.number.now) (sym (before-first 1 refl)))

pub returns-in-Some-strip_prefix : goal.returns-in-Some-strip_prefix
returns-in-Some-strip_prefix c =
    let cut = c.in-Some-strip_prefix.ensures.cases in
    (inr refl, with_prefix c.args.line.now c.as_slice-2.result.now c.in-Some-strip_prefix.number.now second_before c.as_slice-2.ensures cut.0 cut.1 ∙ ap (λ bytes. bytes ++ c.in-Some-strip_prefix.number.now) (sym (before-second 2 refl)))

pub returns : goal.returns
returns c = no_prefix_of c.args.line.now c.as_slice.result.now c.as_slice-2.result.now c.as_slice.ensures c.as_slice-2.ensures c.in_default.ensures.cases c.in_default-strip_prefix.ensures.cases
