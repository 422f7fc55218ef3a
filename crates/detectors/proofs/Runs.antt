-- Proves that the times that a detector stores give the correct answers about its readings, for
-- every duration.
use Rattle.std.proofs.Common.{◌≡◌, ℕ, ◌-◌, refl, sym, arith}
use Rattle.std.specs.Prelude.{Bool, true, false, ◌&&◌, ◌||◌, nat_le, if◌then◌else◌, Option, None}
use Rattle.std.specs.Prelude.{Some}
use Rattle.std.proofs.lemmas.Bool.{leb-true, le-leb}
use Rattle.detectors.specs.Views.{IsAfter, IsBy}
use Rattle.detectors.specs.Tables.{is_long, is_recent, run_after}

-- ---- no time is later than the last reading

pub run_by : (run last : Option ℕ) (holds : Bool) (now : ℕ) → IsBy run last → IsAfter last now →
    IsBy (run_after run holds now) (Some now)
run_by run last false now by later = tt
run_by None last true now by later = omega arith
run_by (Some start) None true now by later = absurd by
run_by (Some start) (Some last) true now by later = omega (arith, by, later)

pub increased_by : (increased last : Option ℕ) (risen : Bool) (now : ℕ) → IsBy increased last → IsAfter last now →
    IsBy (if risen then Some now else increased) (Some now)
increased_by increased last true now by later = omega arith
increased_by None last false now by later = tt
increased_by (Some moment) None false now by later = absurd by
increased_by (Some moment) (Some last) false now by later = omega (arith, by, later)

-- ---- tests

or_false : (a : Bool) → (a || false) ≡ a
or_false true = refl
or_false false = refl

and_false : (a b : Bool) → ((a && false) || b) ≡ b
and_false true b = refl
and_false false b = refl

-- If the first test implies the second, their disjunction is the second test.
weaker : (a b : Bool) → (a ≡ true → b ≡ true) → (a || b) ≡ b
weaker true b implies = sym (implies refl)
weaker false b implies = refl

-- If the second test implies the first, their disjunction is the first test.
stronger : (a b : Bool) → (b ≡ true → a ≡ true) → ((a && true) || b) ≡ a
stronger true b implies = refl
stronger false true implies = sym (implies refl)
stronger false false implies = refl

-- ---- runs

-- After one more reading, the start of the run determines correctly how long the condition has
-- held.
pub long_next : (run last : Option ℕ) (holds : Bool) (now duration at : ℕ) → IsBy run last →
    IsAfter last now →
    (holds && (nat_le duration (at - now) || is_long run duration at)) ≡ is_long (run_after run holds now) duration at
long_next run last false now duration at by later = refl
long_next None last true now duration at by later = or_false (nat_le duration (at - now))
long_next (Some start) None true now duration at by later = absurd by
long_next (Some start) (Some last) true now duration at by later =
    weaker (nat_le duration (at - now)) (nat_le duration (at - start)) (λ long.
    let so = leb-true duration (at - now) long in le-leb duration (at - start) (omega (arith, so, by, later)))

-- ---- increases

-- After one more reading, the time of the last increase determines correctly whether there was an
-- increase within a duration.
pub recent_next : (increased last : Option ℕ) (risen : Bool) (now duration at : ℕ) → IsBy increased last →
    IsAfter last now →
    ((nat_le (at - now) duration && risen) || is_recent increased duration at)
    ≡ is_recent (if risen then Some now else increased) duration at
recent_next increased last false now duration at by later = and_false (nat_le (at - now) duration) (is_recent increased duration at)
recent_next None last true now duration at by later = stronger (nat_le (at - now) duration) false (λ is. absurd cc)
recent_next (Some moment) None true now duration at by later = absurd by
recent_next (Some moment) (Some last) true now duration at by later =
    stronger (nat_le (at - now) duration) (nat_le (at - moment) duration) (λ recent.
    let so = leb-true (at - moment) duration recent in le-leb (at - now) duration (omega (arith, so, by, later)))
