-- A replay learns what a watcher's readers have seen, processor by processor.
use Rattle.std.proofs.Common.{◌≡◌, ⊎_elim, ℕ, zero, suc, ◌+◌, ◌<◌, ◌≤◌, List, [], ◌∷◌, length, get_or, set, refl, sym, ap, ◌∙◌, subst, arith}
use Rattle.clock_row.specs.Ends.{ReaderEnd}
use Rattle.observer_log.specs.Lending.{with_reader}
use Rattle.observer_log.specs.Watch.{WatcherView, no_reader, reader_at}
use Rattle.observe_core.specs.Driving.{AreWithin, HasSettled}
use Rattle.observe_core.proofs.ReadyLaws.{either_next}

-- a list doesn't change if an element is set to itself
set_back : {X : Type 0} → (xs : List X) (k : ℕ) (d : X) → k < length xs → set xs k (get_or xs k d) ≡ xs
set_back [] k d below = absurd (omega (arith, below))
set_back (x ∷ xs) zero d below = refl
set_back (x ∷ xs) (suc k) d below = ap (λ rest. x ∷ rest) (set_back xs k d (omega (arith, below)))

-- a watcher is unchanged
pub unchanged : (cpu made : ℕ) (old new : WatcherView) → HasSettled cpu made old new → cpu < length old.readers → new ≡ old
unchanged cpu made old new settled room =
    settled.are ∙ ap (with_reader old cpu) settled.same ∙ ap (λ (readers : List ReaderEnd). record old { readers = readers }) (set_back old.readers cpu no_reader room)

-- one more processor
pub within_more : (made : ℕ → ℕ) (k : ℕ) (watcher : WatcherView) → AreWithin made k watcher → (reader_at watcher.readers k).knows.seen ≤ made k → AreWithin made (k + 1) watcher
within_more made k watcher before here = λ cpu below. ⊎_elim
    (λ (less : cpu < k). before cpu less)
    (λ (same : cpu ≡ k). subst (λ (n : ℕ). (reader_at watcher.readers n).knows.seen ≤ made n) (sym same) here)
    (either_next cpu k below)
