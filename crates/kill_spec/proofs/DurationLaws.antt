-- Proofs about conditions for a duration: when they are true, and from which reading on.
use Rattle.std.proofs.Common.{◌≡◌, suc, ◌⊎◌, inl, inr, ⊎_elim, ℕ, ◌-◌, ◌≤◌, List, [], ◌∷◌, ◌++◌, refl, ap, ◌∙◌, arith}
use Rattle.std.specs.Prelude.{All, Bool, true, false, ◌&&◌, ◌||◌, nat_le}
use Rattle.std.proofs.lemmas.Bool.{leb-true, le-leb}
use Rattle.std.proofs.lemmas.List.Elements.{All-cons, All-nil}
use Rattle.kill_spec.specs.Readings.{Reading}
use Rattle.kill_spec.specs.Detectors.{held_for, of_seconds}
use Rattle.kill_spec.specs.Laws.{HeldFor, BreakStartsAnew, HeldForShows, LongerIsLater}

-- ---- Boolean tests

-- if `a && (b || c)` is true, then `a` is true, and `b` or `c` is
either : (a b c : Bool) → (a && (b || c)) ≡ true → (a ≡ true) × ((b ≡ true) ⊎ (c ≡ true))
either true true c is = (refl, inl refl)
either true false c is = (refl, inr is)
either false b c is = absurd cc

first_holds : (a b c : Bool) → a ≡ true → b ≡ true → (a && (b || c)) ≡ true
first_holds a b c one two = rw (one, two) refl

last_holds : (a b c : Bool) → a ≡ true → c ≡ true → (a && (b || c)) ≡ true
last_holds a true c one two = rw one refl
last_holds a false c one two = rw (one, two) refl

weakened : (a b c d e : Bool) → (b ≡ true → d ≡ true) → (c ≡ true → e ≡ true) → (a && (b || c)) ≡ true → (a && (d || e)) ≡ true
weakened a b c d e first second is =
    let parts = either a b c is in
    ⊎_elim (λ holds. first_holds a d e parts.0 (first holds)) (λ holds. last_holds a d e parts.0 (second holds)) parts.1

-- ---- conditions that have been true for a duration

-- a condition that is true at the newest reading, and has been true for the duration before, has
-- been true for the duration
held_more : (condition : Reading → Bool) (duration at : ℕ) (reading : Reading) (past : List Reading) → condition reading ≡ true →
    HeldFor condition duration at past → HeldFor condition duration at (reading ∷ past)
held_more condition duration at reading past holds held = record {
  since = reading ∷ held.since;
  first = held.first;
  earlier = held.earlier;
  all = ap (λ readings. reading ∷ readings) held.all;
  each = All-cons (λ r. condition r ≡ true) reading held.since holds held.each;
  starts = held.starts;
  long = held.long;
}

held_now : (condition : Reading → Bool) (duration at : ℕ) (reading : Reading) (past : List Reading) → condition reading ≡ true →
    duration ≤ at - reading.at → HeldFor condition duration at (reading ∷ past)
held_now condition duration at reading past holds long = record {
  since = [];
  first = reading;
  earlier = past;
  all = refl;
  each = All-nil _;
  starts = holds;
  long = long;
}

known : (condition : Reading → Bool) (duration at : ℕ) (readings : List Reading) → held_for condition duration at readings ≡ true →
    HeldFor condition duration at readings
known condition duration at [] is = absurd cc
known condition duration at (reading ∷ past) is =
    let parts = either (condition reading) (nat_le duration (at - reading.at)) (held_for condition duration at past) is in
    ⊎_elim
    (λ long. held_now condition duration at reading past parts.0 (leb-true duration (at - reading.at) long))
    (λ held. held_more condition duration at reading past parts.0 (known condition duration at past held))
    parts.1

-- a condition that is true at every reading since `first` has been true for the duration if `first`
-- is early enough
since_holds : (condition : Reading → Bool) (duration at : ℕ) (since : List Reading) (first : Reading) (earlier : List Reading) →
    All (λ r. condition r ≡ true) since → condition first ≡ true → duration ≤ at - first.at →
    held_for condition duration at (since ++ first ∷ earlier) ≡ true
since_holds condition duration at [] first earlier each starts long =
    first_holds (condition first) (nat_le duration (at - first.at)) (held_for condition duration at earlier) starts
    (le-leb duration (at - first.at) long)
since_holds condition duration at (reading ∷ since) first earlier each starts long =
    last_holds (condition reading) (nat_le duration (at - reading.at)) (held_for condition duration at (since ++ first ∷ earlier))
    (each 0 reading (omega arith))
    (since_holds condition duration at since first earlier (λ k d below. each (suc k) d (omega (arith, below))) starts long)

pub shows : HeldForShows
shows condition duration at readings = (
  known condition duration at readings,
  λ held. ap (held_for condition duration at) held.all
      ∙ since_holds condition duration at held.since held.first held.earlier held.each held.starts held.long,
)

-- ---- interruptions

-- readings before an interruption don't count
broken_off : (condition : Reading → Bool) (duration at : ℕ) (broken : Reading) (newer older : List Reading) → condition broken ≡ false →
    held_for condition duration at (newer ++ broken ∷ older) ≡ held_for condition duration at newer
broken_off condition duration at broken [] older fails = rw fails refl
broken_off condition duration at broken (reading ∷ newer) older fails =
    ap (λ held. condition reading && (nat_le duration (at - reading.at) || held)) (broken_off condition duration at broken newer older fails)

pub anew : BreakStartsAnew
anew condition duration_s now broken newer older fails =
    broken_off condition (of_seconds duration_s) now.at broken (now ∷ newer) older fails

-- ---- longer durations

shorter_buffered : (condition : Reading → Bool) (shorter longer at : ℕ) (readings : List Reading) → shorter ≤ longer →
    held_for condition longer at readings ≡ true → held_for condition shorter at readings ≡ true
shorter_buffered condition shorter longer at [] short is = is
shorter_buffered condition shorter longer at (reading ∷ past) short is =
    weakened (condition reading) (nat_le longer (at - reading.at)) (held_for condition longer at past)
    (nat_le shorter (at - reading.at)) (held_for condition shorter at past)
    (λ long. le-leb shorter (at - reading.at) (omega (arith, leb-true longer (at - reading.at) long)))
    (shorter_buffered condition shorter longer at past short)
    is

pub later : LongerIsLater
later condition shorter_s longer_s now past short is =
    shorter_buffered condition (of_seconds shorter_s) (of_seconds longer_s) now.at (now ∷ past) (omega arith) is
