use Rattle.std.proofs.Common.{arith, ap, ◌∙◌, sym, ◌++◌}
use Rattle.std.specs.Prelude.{option_map}
use Rattle.psi_spec.specs.Header.{header_with}
use Rattle.psi_trace.specs.declared.header.Header.{Header}
use Rattle.psi_trace.specs.Heads.{before_cpus}
use Rattle.psi_trace.proofs.Headers.{header-before, header_of-none, header_of-other, header_of-some, header_of-wrong}
use Rattle.psi_trace.proofs.header.header_in.Goals as goal

pub returns-in_err-version-clause-exact : goal.returns-in_err-version-clause-exact
returns-in_err-version-clause-exact c = header_of-none c.args.line.now (λ version n known low high. c.in_err-version.ensures version n known) ∙ ap (option_map (λ (head : Header). header_with head.version head.cpus)) (sym c.from_residual.ensures)

pub returns-in_err-cpus-clause-exact : goal.returns-in_err-cpus-clause-exact
returns-in_err-cpus-clause-exact c =
    let cut = c.in_ok-version.ensures in
    header_of-wrong c.args.line.now c.in_ok-version.version c.in_ok-version.number.now cut.0 cut.1 c.in_err-cpus.ensures.none ∙ ap (option_map (λ (head : Header). header_with head.version head.cpus)) (sym c.from_residual-in_err-cpus.ensures)

pub returns-then-cpus-lt1-clause-exact : goal.returns-then-cpus-lt1-clause-exact
returns-then-cpus-lt1-clause-exact c =
    let cut = c.in_ok-version.ensures in
    header_of-other c.args.line.now c.in_ok-version.version c.in_ok-cpus.cpus c.in_ok-version.number.now cut.0 cut.1 c.in_ok-cpus.ensures.found (omega arith) (omega (arith, c.then-cpus-lt1.either))

pub returns-clause-exact : goal.returns-clause-exact
returns-clause-exact c =
    let cut = c.in_ok-version.ensures in
    let spelled = cut.1 ∙ ap (λ bytes. before_cpus c.in_ok-version.version ++ bytes) c.in_ok-cpus.ensures.found ∙ sym (header-before c.in_ok-version.version c.in_ok-cpus.cpus) in
    header_of-some c.args.line.now c.in_ok-version.version c.in_ok-cpus.cpus cut.0 spelled (omega arith) (omega arith)
