use Rattle.std.proofs.Common.{◌≡◌, sym, ap, ◌∙◌}
use Rattle.std.specs.Prelude.{codes}
use Rattle.std.specs.Str.{bytes_eq}
use Rattle.std.proofs.lemmas.Slice.Eq.{bytes_eq-Decides}
use Rattle.path_match.specs.Match.{are_matches, components}
use Rattle.path_match.proofs.MatchLaws.{components-root, root_matched, root_matches}
use Rattle.path_match.proofs.component.matches_pattern.Goals as goal

pub returns-then-eq : goal.returns-then-eq
returns-then-eq c =
    let is : c.args.pattern.now ≡ codes "/" = (bytes_eq-Decides c.args.pattern.now c.as_slice.result.now).0 (sym c.eq.ensures ∙ c.if-eq.true) ∙ c.as_slice.ensures in
    let root : components c.args.pattern.now ≡ components (codes "/") = ap components is in
    c.eq-then-eq.ensures ∙ ap (bytes_eq c.args.path.now) c.as_slice-then-eq.ensures ∙ sym (root_matches c.args.path.now) ∙ ap (λ pattern. are_matches pattern (components c.args.path.now)) (sym (root ∙ components-root))

pub returns-then-eq-2 : goal.returns-then-eq-2
returns-then-eq-2 c =
    let is : c.args.path.now ≡ codes "/" = (bytes_eq-Decides c.args.path.now c.as_slice-2.result.now).0 (sym c.eq-2.ensures ∙ c.if-eq-2.true) ∙ c.as_slice-2.ensures in
    let root : components c.args.path.now ≡ components (codes "/") = ap components is in
    sym c.if-eq.false ∙ c.eq.ensures ∙ ap (bytes_eq c.args.pattern.now) c.as_slice.ensures ∙ sym (root_matched c.args.pattern.now) ∙ ap (are_matches (components c.args.pattern.now)) (sym (root ∙ components-root))
