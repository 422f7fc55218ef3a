use Rattle.std.proofs.Common.{drop, take, ◌+◌, ◌++◌, ap, ◌∙◌}
use Rattle.psi_lines.specs.Lines.{Reader}
use Rattle.psi_lines.proofs.Fills.{line_begins}
use Rattle.psi_lines.proofs.lines.Lines.next.Goals as goal

pub returns-clause-line : goal.returns-clause-line
returns-clause-line g c = λ bytes shows.
    let found = rw c.in-Some.is at c.in_ok-count.ensures.found in
    let reader = c.find.new.self in
    let buffered = ap (λ (r : Reader). r.buffered) c.self.view_is in (
      line_begins reader.buffered (drop c.self.inside.at bytes) _ _ _ c.in-Some.count found.0 found.1 found.2 found.3 (ap (λ (r : Reader). reader.buffered ++ drop r.at bytes) c.self.view_is ∙ c.in_ok-count.ensures.left bytes shows)
          (c.in_ok-bytes.ensures ∙ ap (take c.in-Some.count) (c.buffered.ensures.buffered ∙ buffered)) (c.take_line.follows.holds-at-none ∙ ap (drop (c.in-Some.count + 1)) buffered),
      c.number-number.ensures,
    )
