-- Proofs that the searches find the first and the last position that passes a test.
use Rattle.std.proofs.Common.{◌≡◌, ℕ, ◌+◌, List, [], ◌∷◌, length, refl, ap, Bool, true, false, arith, add-one, cond, Option, None, Some}
use Rattle.std.specs.Prelude.{zero, suc, option_map, MatchOption}
use Rattle.import_spec.specs.Places.{first_place, last_place, or_here}
use Rattle.import_spec.specs.Laws.{IsFirstPlace, IsLastPlace, NonePasses, FindsFirst, FindsLast, FindsNone}

-- ---- no position passes

-- if no position in a range passes the test in `bytes`, none in the range shifted by one passes
-- after a byte is put before them
none_following : (test : List ℕ → Bool) (byte : ℕ) (bytes : List ℕ) (low high : ℕ) → NonePasses test bytes low high → NonePasses test (byte ∷ bytes) (low + 1) (high + 1)
none_following test byte bytes low high none zero above below = absurd (omega (arith, above))
none_following test byte bytes low high none (suc k) above below = none k (omega (arith, above)) (omega (arith, below))

-- if no position in a range passes the test after a byte is put before `bytes`, none in the range
-- shifted back passes in `bytes`
none_within : (test : List ℕ → Bool) (byte : ℕ) (bytes : List ℕ) (low high : ℕ) → NonePasses test (byte ∷ bytes) low (high + 1) → NonePasses test bytes low high
none_within test byte bytes low high none k above below = none (suc k) (omega (arith, above)) (omega (arith, below))

none_above : (test : List ℕ → Bool) (byte : ℕ) (bytes : List ℕ) (low high above suffix : ℕ) → above ≡ low + 1 → suffix ≡ high + 1 → NonePasses test (byte ∷ bytes) above suffix → NonePasses test bytes low high
none_above test byte bytes low high above suffix one other none k over below = none (suc k) (omega (arith, one, over)) (omega (arith, other, below))

-- if the first byte doesn't pass the test, and no position of the rest up to `high` does, then no
-- position of the whole up to `high + 1` does
none_with : (test : List ℕ → Bool) (byte : ℕ) (bytes : List ℕ) (high : ℕ) → test (byte ∷ bytes) ≡ false → NonePasses test bytes 0 high → NonePasses test (byte ∷ bytes) 0 (high + 1)
none_with test byte bytes high here none zero above below = here
none_with test byte bytes high here none (suc k) above below = none k (omega arith) (omega (arith, below))

-- ---- the first position

first_further : (test : List ℕ → Bool) (byte : ℕ) (bytes : List ℕ) (found : Option ℕ) → test (byte ∷ bytes) ≡ false → MatchOption found (NonePasses test bytes 0 (length bytes)) (λ at. IsFirstPlace test bytes at) → MatchOption (option_map (λ at. at + 1) found) (NonePasses test (byte ∷ bytes) 0 (length (byte ∷ bytes))) (λ at. IsFirstPlace test (byte ∷ bytes) at)
first_further test byte bytes None here none = rw (← add-one (length bytes)) (none_with test byte bytes (length bytes) here none)
first_further test byte bytes (Some at) here is = record {
  inside = let room = is.inside in omega (arith, room);
  passes = rw add-one is.passes;
  none = none_with test byte bytes at here is.none;
}

pub first_shows : (test : List ℕ → Bool) (bytes : List ℕ) → MatchOption (first_place test bytes) (NonePasses test bytes 0 (length bytes)) (λ at. IsFirstPlace test bytes at)
unfolding first_place
first_shows test [] = λ k above below. absurd (omega (arith, below))
first_shows test (byte ∷ bytes) =
    elim (test (byte ∷ bytes)) as (λ b. test (byte ∷ bytes) ≡ b → MatchOption (cond b (Some 0) (option_map (λ at. at + 1) (first_place test bytes))) (NonePasses test (byte ∷ bytes) 0 (length (byte ∷ bytes))) (λ at. IsFirstPlace test (byte ∷ bytes) at)) [
      | true ↦ λ here. record { inside = omega arith; passes = here; none = λ k above below. absurd (omega (arith, below)) }
      | false ↦ λ here. first_further test byte bytes (first_place test bytes) here (first_shows test bytes)
    ] refl

pub first_is : (test : List ℕ → Bool) (bytes : List ℕ) (at : ℕ) → IsFirstPlace test bytes at → first_place test bytes ≡ Some at
unfolding first_place
first_is test [] at is = let room = is.inside in absurd (omega (arith, room))
first_is test (byte ∷ bytes) zero is = let here : test (byte ∷ bytes) ≡ true = is.passes in rw here refl
first_is test (byte ∷ bytes) (suc at) is =
    let room = is.inside in
    let here : test (byte ∷ bytes) ≡ false = is.none 0 (omega arith) (omega arith) in
    let further : first_place test bytes ≡ Some at = first_is test bytes at (record {
      inside = omega (arith, room);
      passes = is.passes;
      none = none_within test byte bytes 0 at (rw add-one is.none);
    }) in
    rw (here, further) (ap (λ n. let o : Option ℕ = Some n in o) (add-one at))

pub first_none : (test : List ℕ → Bool) (bytes : List ℕ) → NonePasses test bytes 0 (length bytes) → first_place test bytes ≡ None
unfolding first_place
first_none test [] none = refl
first_none test (byte ∷ bytes) none =
    let here : test (byte ∷ bytes) ≡ false = none 0 (omega arith) (omega arith) in
    let further : first_place test bytes ≡ None = first_none test bytes (none_within test byte bytes 0 (length bytes) (rw add-one none)) in
    rw (here, further) refl

-- ---- the last position

last_here : (test : List ℕ → Bool) (byte : ℕ) (bytes : List ℕ) (found : Option ℕ) (passes : Bool) → test (byte ∷ bytes) ≡ passes → MatchOption found (NonePasses test bytes 0 (length bytes)) (λ at. IsLastPlace test bytes at) → MatchOption (or_here found passes) (NonePasses test (byte ∷ bytes) 0 (length (byte ∷ bytes))) (λ at. IsLastPlace test (byte ∷ bytes) at)
last_here test byte bytes None true here none = record {
  inside = omega arith;
  passes = here;
  none = rw (← add-one (length bytes)) (none_following test byte bytes 0 (length bytes) none);
}
last_here test byte bytes None false here none = rw (← add-one (length bytes)) (none_with test byte bytes (length bytes) here none)
last_here test byte bytes (Some at) passes here is = record {
  inside = let room = is.inside in omega (arith, room);
  passes = rw add-one is.passes;
  none = rw (← add-one (length bytes)) (none_following test byte bytes (at + 1) (length bytes) is.none);
}

pub last_shows : (test : List ℕ → Bool) (bytes : List ℕ) → MatchOption (last_place test bytes) (NonePasses test bytes 0 (length bytes)) (λ at. IsLastPlace test bytes at)
unfolding last_place
last_shows test [] = λ k above below. absurd (omega (arith, below))
last_shows test (byte ∷ bytes) = last_here test byte bytes (last_place test bytes) (test (byte ∷ bytes)) refl (last_shows test bytes)

pub last_none : (test : List ℕ → Bool) (bytes : List ℕ) → NonePasses test bytes 0 (length bytes) → last_place test bytes ≡ None
unfolding last_place
last_none test [] none = refl
last_none test (byte ∷ bytes) none =
    let here : test (byte ∷ bytes) ≡ false = none 0 (omega arith) (omega arith) in
    let further : last_place test bytes ≡ None = last_none test bytes (none_within test byte bytes 0 (length bytes) (rw add-one none)) in
    rw (further, here) refl

pub last_is : (test : List ℕ → Bool) (bytes : List ℕ) (at : ℕ) → IsLastPlace test bytes at → last_place test bytes ≡ Some at
unfolding last_place
last_is test [] at is = let room = is.inside in absurd (omega (arith, room))
last_is test (byte ∷ bytes) zero is =
    let here : test (byte ∷ bytes) ≡ true = is.passes in
    let further : last_place test bytes ≡ None = last_none test bytes (none_above test byte bytes 0 (length bytes) _ _ (omega arith) (omega arith) is.none) in
    rw (further, here) refl
last_is test (byte ∷ bytes) (suc at) is =
    let room = is.inside in
    let further : last_place test bytes ≡ Some at = last_is test bytes at (record {
      inside = omega (arith, room);
      passes = is.passes;
      none = none_above test byte bytes (at + 1) (length bytes) _ _ (omega arith) (omega arith) is.none;
    }) in
    rw further (ap (λ n. let o : Option ℕ = Some n in o) (add-one at))

-- ---- the laws

pub finds_first : FindsFirst
finds_first test bytes at = (λ is. rw is at (first_shows test bytes), first_is test bytes at)

pub finds_last : FindsLast
finds_last test bytes at = (λ is. rw is at (last_shows test bytes), last_is test bytes at)

pub finds_none : FindsNone
finds_none test bytes = ((λ is. rw is at (first_shows test bytes), first_none test bytes), (λ is. rw is at (last_shows test bytes), last_none test bytes))
