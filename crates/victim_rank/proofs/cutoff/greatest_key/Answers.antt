use Rattle.std.proofs.Common.{◌≡◌, ◌∙◌, ap, arith, get_or, refl, sym, true, false}
use Rattle.std.proofs.lemmas.Bool.{true≢false}
use Rattle.detectors.specs.Inner.{group_at}
use Rattle.victim_rank.specs.Cutoffs.{size_key}
use Rattle.victim_rank.specs.Scopes.{is_in_rank}
use Rattle.victim_rank.proofs.Cutoffs.{none_above}
use Rattle.victim_rank.proofs.cutoff.greatest_key.Goals as goal
use Rattle.victim_rank.proofs.cutoff.greatest_key.Goals.{then-is_in_rank, else-is_in_rank}

pub places-preserved : goal.places-preserved
places-preserved c =
    let test = is_in_rank c.args.scope.now c.args.best_rank in
    let groups = c.args.reading.now.seen.groups in
    let places = c.args.places.now in
    let i = c.places.place-index in
    let p = get_or places i 0 in
    let here = c.group-group.ensures.group in
    elim c.if-is_in_rank.branch [
      | then-is_in_rank w ↦
          let key : w.size_key.result ≡ size_key groups p = rw here at w.size_key.ensures in
          rw w.greatest-is record {
            none = none_above test groups places i p c.places.greatest w.max-greatest.result c.places-test.true
                refl c.places.invariant.none (omega (arith, w.max-greatest.ensures))
                (λ holds. omega (arith, w.max-greatest.ensures, key));
            fits = omega (arith, w.max-greatest.ensures, w.size_key.ensures, c.places.invariant.fits, c.group-group.ensures.within.current);
          }
      | else-is_in_rank w ↦
          let out : test (group_at groups p) ≡ false =
          sym (ap test here) ∙ sym c.is_in_rank.ensures ∙ w.if-is_in_rank.false in
          rw w.greatest-is record {
            none = none_above test groups places i p c.places.greatest c.places.greatest c.places-test.true
                refl c.places.invariant.none (omega arith) (λ holds. absurd (true≢false (sym holds ∙ out)));
            fits = c.places.invariant.fits;
          }
    ]
