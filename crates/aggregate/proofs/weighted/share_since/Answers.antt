use Rattle.std.proofs.Common.{◌≡◌, ◌+◌, ◌*◌, ◌<◌, ℕ, List, [], length, get_or, arith, sym, subst, ◌∙◌, ap}
use Rattle.std.proofs.lemmas.List.{get_or_default}
use Rattle.pressure_spec.specs.Samples.{growths}
use Rattle.pressure_spec.specs.Share.{pressure_places, weight}
use Rattle.pressure_spec.proofs.ShareLaws.{get_or-zip_with, length-zip_with}
use Rattle.aggregate.specs.Since.{growth}
use Rattle.aggregate.proofs.Weights.{AreSummed, divided, light, summed_more, weightless}
use Rattle.aggregate.proofs.weighted.share_since.Goals as goal

-- The increase of a processor's times is at the processor's index in the list of increases.
grown : (before now : List (List ℕ)) (cpu : ℕ) → length before ≡ length now → cpu < length now → get_or (growths before now) cpu [] ≡ growth (get_or now cpu []) (get_or before cpu [])
grown before now cpu same below = get_or-zip_with growth now before cpu [] [] [] below (omega (arith, same, below))

-- The list of increases has an entry for each processor.
many : (before now : List (List ℕ)) → length before ≡ length now → length (growths before now) ≡ length now
many before now same = length-zip_with growth now before (sym same)

pub overflow_add-total : goal.overflow_add-total
overflow_add-total c =
    let rows = growths c.args.before.now c.args.now.now in
    let cpu = c.rows.cpu in
    let below : cpu < length c.args.now.now = omega arith in
    let here : cpu < length rows = omega (arith, below, many c.args.before.now c.args.now.now c.requires.each) in
    let few = light (get_or rows cpu []) (c.requires.short cpu [] here) in
    let weight_is : c.weight_since-weight.result ≡ weight (get_or rows cpu []) = c.weight_since-weight.ensures ∙ ap weight (sym (grown c.args.before.now c.args.now.now cpu c.requires.each below)) in
    omega (arith, few, weight_is, c.rows.invariant.summed.weights_fit)

pub add_weighted-requires-clause-weight : goal.add_weighted-requires-clause-weight
add_weighted-requires-clause-weight c =
    let rows = growths c.args.before.now c.args.now.now in
    let cpu = c.rows.cpu in
    let below : cpu < length c.args.now.now = omega arith in
    let here : cpu < length rows = omega (arith, below, many c.args.before.now c.args.now.now c.requires.each) in
    let few = light (get_or rows cpu []) (c.requires.short cpu [] here) in
    let weight_is : c.weight_since-weight.result ≡ weight (get_or rows cpu []) = c.weight_since-weight.ensures ∙ ap weight (sym (grown c.args.before.now c.args.now.now cpu c.requires.each below)) in
    omega (arith, few, weight_is)

pub add_weighted-requires-clause-times : goal.add_weighted-requires-clause-times
add_weighted-requires-clause-times c =
    let rows = growths c.args.before.now c.args.now.now in
    let cpu = c.rows.cpu in
    let below : cpu < length c.args.now.now = omega arith in
    let here : cpu < length rows = omega (arith, below, many c.args.before.now c.args.now.now c.requires.each) in
    rw (c.growth.ensures, ← grown c.args.before.now c.args.now.now cpu c.requires.each below) (c.requires.short cpu [] here)

pub add_weighted-requires-clause-sums : goal.add_weighted-requires-clause-sums
add_weighted-requires-clause-sums c = λ k d below.
    let most = c.rows.invariant.summed.sums_fit k (omega (arith, c.rows.invariant.seven, below)) in
    rw (get_or_default c.rows.sums k d 0 below) (omega (arith, most))

pub rows-preserved : goal.rows-preserved
rows-preserved c =
    let rows = growths c.args.before.now c.args.now.now in
    let cpu = c.rows.cpu in
    let below : cpu < length c.args.now.now = omega arith in
    let here : cpu < length rows = omega (arith, below, many c.args.before.now c.args.now.now c.requires.each) in
    let is = grown c.args.before.now c.args.now.now cpu c.requires.each below in
    let weight_is : c.weight_since-weight.result ≡ weight (get_or rows cpu []) = c.weight_since-weight.ensures ∙ ap weight (sym is) in
    let growth_is : c.growth.result ≡ get_or rows cpu [] = c.growth.ensures ∙ sym is in
    let added : (k : ℕ) → k < 7 → get_or c.add_weighted.new.sums k 0 ≡ get_or c.rows.sums k 0 + get_or (get_or rows cpu []) (get_or pressure_places k 0) 0 * weight (get_or rows cpu []) = λ k few. c.add_weighted.ensures k few
    ∙ ap (λ (times : List ℕ). get_or c.rows.sums k 0 + get_or times (get_or pressure_places k 0) 0 * c.weight_since-weight.result) growth_is
    ∙ ap (λ (w : ℕ). get_or c.rows.sums k 0 + get_or (get_or rows cpu []) (get_or pressure_places k 0) 0 * w) weight_is in
    record {
      seven = c.add_weighted.array_long;
      summed = subst (λ (w : ℕ). AreSummed rows (cpu + 1) c.add_weighted.new.sums (c.rows.total + w)) (sym weight_is) (summed_more rows cpu c.rows.sums c.add_weighted.new.sums c.rows.total here (c.requires.short cpu [] here) c.rows.invariant.summed added);
    }

pub rows-preserved-then-weight-eq0 : goal.rows-preserved-then-weight-eq0
rows-preserved-then-weight-eq0 c =
    let rows = growths c.args.before.now c.args.now.now in
    let cpu = c.rows.cpu in
    let below : cpu < length c.args.now.now = omega arith in
    let here : cpu < length rows = omega (arith, below, many c.args.before.now c.args.now.now c.requires.each) in
    let weight_is : c.weight_since-weight.result ≡ weight (get_or rows cpu []) = c.weight_since-weight.ensures ∙ ap weight (sym (grown c.args.before.now c.args.now.now cpu c.requires.each below)) in
    record {
      seven = c.rows.invariant.seven;
      summed = weightless rows cpu c.rows.sums c.rows.total here (c.requires.short cpu [] here) c.rows.invariant.summed (sym weight_is ∙ c.if-weight-eq0.true);
    }

pub returns : goal.returns
returns c =
    let rows = growths c.args.before.now c.args.now.now in
    divided rows c.rows.cpu c.rows.sums c.rows.total c.max-by.result c.divide.new.sums (omega (arith, many c.args.before.now c.args.now.now c.requires.each)) c.rows.invariant.seven c.rows.invariant.summed c.max-by.ensures c.divide.ensures
