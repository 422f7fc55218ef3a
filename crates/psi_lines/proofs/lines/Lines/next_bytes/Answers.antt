use Rattle.std.proofs.Common.{refl, sym, arith, drop, take, ◌≤◌, ◌+◌, ◌-◌, ◌++◌, ◌≡◌, ap, ◌∙◌, subst}
use Rattle.std.proofs.lemmas.Grind.{common_steps}
use Rattle.psi_lines.specs.Next.{furthest}
use Rattle.outside.specs.Reads.{ReadsFrom}
use Rattle.outside.specs.Reads.Progress.{Next}
use Rattle.psi_lines.specs.Lines.{Reader}
use Rattle.psi_lines.proofs.Fills.{line_begins}
use Rattle.psi_lines.proofs.lines.Lines.next_bytes.Goals as goal

pub returns : goal.returns
returns g c =
    let found = rw c.in-Some.is at c.in_ok-count.ensures.found in
    let order = rw c.in-Some.is at c.in_ok-count.ensures.order in
    let cause = c.in_ok-count.ensures.cause in
    let reader = c.find.new.self in
    let buffered = ap (λ (r : Reader). r.buffered) c.self.view_is in
    let at = ap (λ (r : Reader). r.at) c.self.view_is in
    let place : reader.at ≡ c.args.self.now.at + g.S.Shelf.bytes_read c.find.new.shelf - g.S.Shelf.bytes_read c.args.shelf.now = omega (arith, c.in_ok-count.ensures.bytes_read) in (
      (
        refl,
        (λ _. tt),
        record {
          name = ap (λ (r : Reader). r.name) c.self.view_is ∙ c.find.ensures.name;
          number = ap (λ (r : Reader). r.number + 1) c.self.view_is ∙ ap (λ n. n + 1) c.find.ensures.number;
          line = λ bytes shows. (
            line_begins reader.buffered (drop c.self.inside.at bytes) _ _ _ c.in-Some.count found.0 found.1 found.2 found.3 (ap (λ (r : Reader). reader.buffered ++ drop r.at bytes) c.self.view_is ∙ c.in_ok-count.ensures.left bytes shows)
                (c.take_line.ensures.bytes ∙ ap (take c.in-Some.count) buffered) (c.take_line.follows.holds-at-none ∙ ap (drop (c.in-Some.count + 1)) buffered),
            refl,
          );
          fault = tt;
          counted = omega (arith, c.find.ensures.bytes_read, at);
          place = subst (λ n. n ≤ furthest c.args.self.now.number) (sym at) c.find.ensures.place;
          missing = λ none lacks. absurd (let gone = c.in_ok-count.ensures.missing none lacks in gone.2);
        },
      ),
      record {
        unchanged = c.find.ensures.unchanged;
        rest = tt;
        numbered = refl;
        short = rw (c.take_line.ensures.bytes ∙ ap (take c.in-Some.count) buffered) (grind (arith, common_steps, found.0, found.1));
        cause = record {
          faults_later = cause.faults_later;
          absent_later = cause.absent_later;
          failed = λ is. absurd (cc is);
          missed = λ is. absurd (cc is);
          faults_same = λ not. cause.faults_same (λ is. cc is);
          absent_same = λ not. cause.absent_same (λ is. cc is);
        };
        buffered = c.find.ensures.buffered;
        missed = λ is. absurd (cc is);
        missing = λ none lacks. absurd (let gone = c.in_ok-count.ensures.missing none lacks in gone.2);
        memory = λ is. cc is;
        order = subst (λ p. ReadsFrom c.args.self.now.name (Next c.args.self.now.at) (g.S.Shelf.reads c.args.shelf.now) (g.S.Shelf.reads c.find.new.shelf) (Next p)) place order;
      },
    )
