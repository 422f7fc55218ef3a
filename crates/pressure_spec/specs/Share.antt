-- The shares of an interval: how long a group was in each state, and how long interrupts took from
-- it, as a weighted mean over all processors. The definition follows the kernel's
-- collect_percpu_times.
use Rattle.std.specs.Prelude.{ℕ, ◌+◌, ◌*◌, ◌/◌, max, List, [], ◌∷◌, map, sum_by, slice_index}
use Rattle.psi_base.specs.declared.event.State.{State}
use Rattle.psi_base.specs.declared.event.State.TheVariants.{Nonidle}
use Rattle.psi_spec.specs.Stall.{state_number}

-- Applies `f` to the elements at equal positions of two lists. The result has the length of the
-- shorter list.
abbrev pub zip_with : {A B C : Type 0} → (A → B → C) → List A → List B → List C
zip_with f [] ys = []
zip_with f (x ∷ xs) [] = []
zip_with f (x ∷ xs) (y ∷ ys) = f x y ∷ zip_with f xs ys

-- The index of interrupt time in the times (ns) of a group on a processor. The times in the seven
-- states precede it, in the order of the states' numbers.
abbrev pub irq_place : ℕ
irq_place = 7

-- The indexes of the pressure quantities in a list of times: the six states other than nonidle,
-- followed by interrupt time.
abbrev pub pressure_places : List ℕ
pressure_places = 0 ∷ 1 ∷ 2 ∷ 3 ∷ 4 ∷ 5 ∷ irq_place ∷ []

-- The index of interrupt time, which is last, in a list with one number for each pressure quantity.
abbrev pub irq_quantity : ℕ
irq_quantity = 6

-- `at_state numbers state`: the number for `state` in a list that begins with one number for each
-- state.
abbrev pub at_state : List ℕ → State → ℕ
at_state numbers state = slice_index numbers (state_number state)

-- `weight times`: the weight of a processor, which is the group's nonidle time on it in whole
-- milliseconds. `times` are the group's times (ns) there.
abbrev pub weight : List ℕ → ℕ
weight times = at_state times Nonidle / 1000000

-- The sum of the weights of all processors.
abbrev pub total_weight : List (List ℕ) → ℕ
total_weight rows = sum_by weight rows

-- `weighted_time rows place`: the sum of the processors' times (ns) of the quantity at index
-- `place`, each multiplied by the weight of its processor.
abbrev pub weighted_time : List (List ℕ) → ℕ → ℕ
weighted_time rows place = sum_by (λ times. slice_index times place * weight times) rows

-- `share_of rows place`: the share (ns) of the quantity at index `place`. It is the mean of the
-- processors' times, weighted by the processors' weights and rounded down.
abbrev pub share_of : List (List ℕ) → ℕ → ℕ
share_of rows place = weighted_time rows place / max (total_weight rows) 1

-- `shares rows`: the shares (ns) of all pressure quantities. `rows` has the group's times (ns) on
-- each processor.
unfoldable pub shares : List (List ℕ) → List ℕ
shares rows = map (share_of rows) pressure_places

-- Adds the elements at equal positions of two lists.
abbrev pub plus : List ℕ → List ℕ → List ℕ
plus xs ys = zip_with (λ x y. x + y) xs ys

-- The initial totals (ns) of a group: 0 for each pressure quantity.
abbrev pub no_totals : List ℕ
no_totals = map (λ place. 0) pressure_places
