-- Proofs about shares and weighted means, and about lists that are computed from two other lists
-- element by element.
use Rattle.std.proofs.Common.{◌≡◌, ℕ, zero, suc, ◌+◌, ◌*◌, ◌/◌, ◌≤◌, ◌<◌, List, [], ◌∷◌, length, get_or, refl, sym, ap, ◌∙◌, arith}
use Rattle.std.specs.Prelude.{map, max, sum_by, All}
use Rattle.std.proofs.Common.{◌++◌, ◌⊎◌, ⊎_elim}
use Rattle.std.proofs.Math.Nat.{div-le_of_le-mul, le-div_iff_mul-le, mul-le-mul_right, mul-le-mul_left}
use Rattle.std.proofs.lemmas.List.Sums.{sum_by-cons, sum_by-append}
use Rattle.std.proofs.lemmas.List.{length-map, get_or-map}
use Rattle.std.proofs.lemmas.List.FromFn.{fill_by_all, get_or-map-range_with_len}
use Rattle.psi_spec.specs.Within.{longest_tick}
use Rattle.pressure_spec.specs.Share.{zip_with, irq_place, irq_quantity, pressure_places, weight, total_weight, weighted_time, share_of, shares}
use Rattle.pressure_spec.specs.Within.{AreTimesWithin, time_sum}
use Rattle.pressure_spec.specs.Laws.{ShareIsMean, ShareSumFits, ShareWithinSum, SharesWithin, IdleHasNone, TotalsGrow, totals_of}
use Rattle.psi_spec.specs.World.{longest_irq}

pub length-zip_with : {A B C : Type 0} (f : A → B → C) → (xs : List A) (ys : List B) → length xs ≡ length ys → length (zip_with f xs ys) ≡ length xs
length-zip_with f [] ys same = refl
length-zip_with f (x ∷ xs) [] same = absurd (omega arith)
length-zip_with f (x ∷ xs) (y ∷ ys) same = ap suc (length-zip_with f xs ys (omega arith))

pub get_or-zip_with : {A B C : Type 0} (f : A → B → C) → (xs : List A) (ys : List B) (k : ℕ) (d : A) (e : B) (o : C) → k < length xs → k < length ys → get_or (zip_with f xs ys) k o ≡ f (get_or xs k d) (get_or ys k e)
get_or-zip_with f [] ys k d e o in_xs in_ys = absurd (omega arith)
get_or-zip_with f (x ∷ xs) [] k d e o in_xs in_ys = absurd (omega arith)
get_or-zip_with f (x ∷ xs) (y ∷ ys) zero d e o in_xs in_ys = refl
get_or-zip_with f (x ∷ xs) (y ∷ ys) (suc k) d e o in_xs in_ys = get_or-zip_with f xs ys k d e o (omega arith) (omega arith)

-- a list whose elements are `f` of the elements of two others equals `zip_with f`
pub zip_with_all : {A B C : Type 0} (f : A → B → C) → (xs : List A) (ys : List B) (zs : List C) (n : ℕ) (d : A) (e : B) (o : C) → length xs ≡ n → length ys ≡ n → length zs ≡ n → ((k : ℕ) → k < n → get_or zs k o ≡ f (get_or xs k d) (get_or ys k e)) → zs ≡ zip_with f xs ys
zip_with_all f [] ys [] n d e o xn yn zn each = refl
zip_with_all f [] ys (z ∷ zs) n d e o xn yn zn each = absurd (omega arith)
zip_with_all f (x ∷ xs) [] zs n d e o xn yn zn each = absurd (omega arith)
zip_with_all f (x ∷ xs) (y ∷ ys) [] n d e o xn yn zn each = absurd (omega arith)
zip_with_all f (x ∷ xs) (y ∷ ys) (z ∷ zs) n d e o xn yn zn each =
    let here : z ≡ f x y = each 0 (omega arith) in
    let rest = zip_with_all f xs ys zs (length xs) d e o refl (omega arith) (omega arith) (λ k below. each (suc k) (omega arith)) in
    cc (here, rest)

-- ---- lists with one number for each pressure quantity

-- two lists of seven numbers are equal if they are equal at each index
pub same_seven : (xs ys : List ℕ) → length xs ≡ 7 → length ys ≡ 7 → ((k : ℕ) → k < 7 → get_or xs k 0 ≡ get_or ys k 0) → xs ≡ ys
same_seven xs ys seven also each =
    fill_by_all (λ k. get_or ys k 0) xs 7 0 seven each ∙ sym (fill_by_all (λ k. get_or ys k 0) ys 7 0 also (λ k below. refl))

-- a share, by the index of its quantity
pub get_or-shares : (rows : List (List ℕ)) (k o : ℕ) → k < 7 → get_or (shares rows) k o ≡ share_of rows (get_or pressure_places k 0)
unfolding shares
get_or-shares rows k o below = get_or-map (share_of rows) pressure_places k 0 o below

-- dividing the weighted sums of all quantities by the total weight gives the shares
pub shares_all : (rows : List (List ℕ)) (sums : List ℕ) (divisor : ℕ) → length sums ≡ 7 → divisor ≡ max (total_weight rows) 1 →
    ((k : ℕ) → k < 7 → get_or sums k 0 ≡ sum_by (λ times. get_or times (get_or pressure_places k 0) 0 * weight times) rows) →
    map (λ sum. sum / divisor) sums ≡ shares rows
unfolding shares
shares_all rows sums divisor seven divisor_is each =
    let long : length (map (λ sum. sum / divisor) sums) ≡ 7 = length-map sums (λ sum. sum / divisor) ∙ seven in
    same_seven (map (λ sum. sum / divisor) sums) (map (share_of rows) pressure_places) long refl (λ k below.
    let inside : k < length sums = omega (arith, seven) in
    let quotient : share_of rows (get_or pressure_places k 0) ≡ get_or sums k 0 / divisor = rw (each k below, divisor_is) refl in
    get_or-map (λ sum. sum / divisor) sums k 0 0 inside ∙ sym quotient ∙ sym (get_or-map (share_of rows) pressure_places k 0 0 below))

-- ---- laws

-- a weighted sum of times is between the lower bound and the upper bound, each times the total
-- weight
sum_between : (rows : List (List ℕ)) (place least most : ℕ) → All (λ times. (least ≤ get_or times place 0) × (get_or times place 0 ≤ most)) rows →
    (least * total_weight rows ≤ weighted_time rows place) × (weighted_time rows place ≤ most * total_weight rows)
sum_between [] place least most all = (omega arith, omega arith)
sum_between (times ∷ rows) place least most all =
    let rest = sum_between rows place least most (λ k d below. all (suc k) d (omega arith)) in
    let here = all 0 times (omega arith) in
    let low : least * weight times ≤ get_or times place 0 * weight times = mul-le-mul_right (weight times) here.0 in
    let high : get_or times place 0 * weight times ≤ most * weight times = mul-le-mul_right (weight times) here.1 in
    rw (sum_by-cons weight times rows, sum_by-cons (λ (row : List ℕ). get_or row place 0 * weight row) times rows)
    (omega (arith, rest.0, low), omega (arith, rest.1, high))

pub share_is_mean : ShareIsMean
share_is_mean rows place least most all =
    let sums = sum_between rows place least most all in
    let divisor = max (total_weight rows) 1 in
    let some : 0 < divisor = omega arith in
    let wide : most * total_weight rows ≤ most * divisor = mul-le-mul_left most (omega arith) in
    let high : weighted_time rows place ≤ divisor * most = omega (arith, sums.1, wide) in (
      div-le_of_le-mul divisor high,
      λ weighs.
          let all_of_it : divisor ≡ total_weight rows = omega arith in
          let low : least * divisor ≤ weighted_time rows place = rw all_of_it sums.0 in
          (le-div_iff_mul-le some).1 low,
    )

-- the index of a state among the pressure quantities is its index among the times
pub state_place : (quantity : ℕ) → quantity < irq_quantity → get_or pressure_places quantity 0 ≡ quantity
state_place zero below = refl
state_place (suc zero) below = refl
state_place (suc (suc zero)) below = refl
state_place (suc (suc (suc zero))) below = refl
state_place (suc (suc (suc (suc zero)))) below = refl
state_place (suc (suc (suc (suc (suc zero))))) below = refl
state_place (suc (suc (suc (suc (suc (suc k)))))) below = absurd (omega arith)

-- each time of an interval is at most the longest tick plus a second
time_most : (times : List ℕ) (place : ℕ) → place ≤ irq_place → AreTimesWithin longest_tick (longest_tick + longest_irq) times → get_or times place 0 ≤ longest_tick + longest_irq
time_most times place within is =
    let state : place < irq_place → get_or times place 0 ≤ longest_tick + longest_irq = λ below. let most = is.states place below in omega (arith, most) in
    let irq : place ≡ irq_place → get_or times place 0 ≤ longest_tick + longest_irq = λ same. rw same is.irq in
    let case : (place < irq_place) ⊎ (place ≡ irq_place) = grind arith in
    ⊎_elim state irq case

-- a share is at most an upper bound of the processors' times
share_most : (rows : List (List ℕ)) (place most : ℕ) → All (λ times. get_or times place 0 ≤ most) rows → share_of rows place ≤ most
share_most rows place most all = (share_is_mean rows place 0 most (λ k d below. (omega arith, all k d below))).0

pub shares_within : SharesWithin
shares_within rows most most_irq all = record {
  states = λ quantity below.
      let place : get_or pressure_places quantity 0 ≡ quantity = state_place quantity below in
      let times : All (λ times. get_or times quantity 0 ≤ most) rows = λ k d inside. (all k d inside).states quantity (omega arith) in
      rw (get_or-shares rows quantity 0 (omega arith), place) (share_most rows quantity most times);
  irq = rw (get_or-shares rows irq_quantity 0 (omega arith)) (share_most rows irq_place most_irq (λ k d inside. (all k d inside).irq));
}

-- the time of one processor is at most the sum over all processors
time_within_sum : (rows : List (List ℕ)) (place k : ℕ) (d : List ℕ) → k < length rows → get_or (get_or rows k d) place 0 ≤ time_sum rows place
time_within_sum [] place k d below = absurd (omega arith)
time_within_sum (times ∷ rows) place zero d below =
    let sum = sum_by-cons (λ (times : List ℕ). get_or times place 0) times rows in omega (arith, sum)
time_within_sum (times ∷ rows) place (suc k) d below =
    let rest = time_within_sum rows place k d (omega arith) in
    let sum = sum_by-cons (λ (times : List ℕ). get_or times place 0) times rows in omega (arith, sum, rest)

pub share_within_sum : ShareWithinSum
share_within_sum rows place = share_most rows place (time_sum rows place) (λ k d below. time_within_sum rows place k d below)

-- the total weight is at most the number of processors times an upper bound of their weights
weight_most : (rows : List (List ℕ)) (most : ℕ) → All (λ times. weight times ≤ most) rows → total_weight rows ≤ length rows * most
weight_most [] most all = omega arith
weight_most (times ∷ rows) most all =
    let here = all 0 times (omega arith) in
    let rest = weight_most rows most (λ k d below. all (suc k) d (omega arith)) in
    omega (arith, sum_by-cons weight times rows, here, rest)

pub share_sum_fits : ShareSumFits
share_sum_fits rows place few within all =
    let most = longest_tick + longest_irq in
    let time : All (λ times. (0 ≤ get_or times place 0) × (get_or times place 0 ≤ most)) rows = λ k d below. (omega arith, time_most (get_or rows k d) place within (all k d below)) in
    let weights : total_weight rows ≤ length rows * (longest_tick / 1000000) = weight_most rows (longest_tick / 1000000) (λ k d below. let idle = (all k d below).states 6 (omega arith) in omega (arith, idle)) in
    let sum = (sum_between rows place 0 most time).1 in
    let all_weights : total_weight rows ≤ 64 * (longest_tick / 1000000) = omega (arith, weights, few) in
    let wide : most * total_weight rows ≤ most * (64 * (longest_tick / 1000000)) = mul-le-mul_left most all_weights in
    (omega (arith, sum, wide), omega (arith, sum, wide))

-- if the total weight is 0, so is the weighted sum
no_weight : (rows : List (List ℕ)) (place : ℕ) → total_weight rows ≡ 0 → weighted_time rows place ≡ 0
no_weight [] place none = refl
no_weight (times ∷ rows) place none =
    let weights = sum_by-cons weight times rows in
    let here : weight times ≡ 0 = omega (arith, weights, none) in
    let rest = no_weight rows place (omega (arith, weights, none)) in
    let product : get_or times place 0 * weight times ≡ 0 = rw here (omega arith) in
    rw (sum_by-cons (λ (row : List ℕ). get_or row place 0 * weight row) times rows) (omega (arith, rest, product))

pub idle_has_none : IdleHasNone
idle_has_none rows place none = rw (no_weight rows place none) (omega arith)

pub totals_grow : TotalsGrow
unfolding totals_of
totals_grow samples sample seven =
    zip_with_all (λ x y. x + y) (totals_of samples) sample (totals_of (samples ++ sample ∷ [])) 7 0 0 0 refl seven refl (λ k below.
    let sums = λ (rows : List (List ℕ)) (i : ℕ). sum_by (λ (row : List ℕ). get_or row i 0) rows in
    let f = λ (row : List ℕ). get_or row k 0 in
    let before : get_or (totals_of samples) k 0 ≡ sum_by f samples = get_or-map-range_with_len (sums samples) 0 7 k k 0 below (omega arith) in
    let after : get_or (totals_of (samples ++ sample ∷ [])) k 0 ≡ sum_by f (samples ++ sample ∷ []) = get_or-map-range_with_len (sums (samples ++ sample ∷ [])) 0 7 k k 0 below (omega arith) in
    let sum : sum_by f (samples ++ sample ∷ []) ≡ sum_by f samples + sum_by f (sample ∷ []) = sum_by-append f samples (sample ∷ []) in
    let one : sum_by f (sample ∷ []) ≡ get_or sample k 0 = omega arith in
    omega (arith, before, after, sum, one))
