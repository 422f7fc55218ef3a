-- Proofs that the table of masks is right at each index. The signs of an index are the seven
-- conditions on counts.
use Rattle.std.proofs.Common.{◌≡◌, ℕ, zero, suc, refl, ap, ◌∙◌, sym, Bool, true, false, arith, List, [], ◌∷◌, ◌==◌}
use Rattle.std.specs.Prelude.{◌&&◌, if◌then◌else◌, not, nat_lt, slice_index_or}
use Rattle.std.proofs.lemmas.Bool.Decides.{nat_tests}
use Rattle.psi_base.specs.declared.event.State.{State}
use Rattle.psi_base.specs.declared.event.State.TheVariants.{IoSome, IoFull, MemSome, MemFull, CpuSome, CpuFull, Nonidle}
use Rattle.psi_counts.specs.declared.changes.Counts.{Counts}
use Rattle.psi_counts.specs.Counts.{IsMask, mask_holds, shows}
use Rattle.state_mask.specs.Signs.{place_by, place_of, shows_by}

-- Whether two Booleans are equal.
abbrev same : Bool → Bool → Bool
same true b = b
same false b = not b

same-equal : (a b : Bool) → same a b ≡ true → a ≡ b
same-equal true true is = refl
same-equal true false is = sym is
same-equal false true is = is
same-equal false false is = refl

-- Whether a test is true for both Booleans.
abbrev both : (Bool → Bool) → Bool
both test = test true && test false

first : (one other : Bool) → (one && other) ≡ true → one ≡ true
first true other is = refl
first false other is = is

second : (one other : Bool) → (one && other) ≡ true → other ≡ true
second true other is = is
second false true is = refl
second false false is = is

both-each : (test : Bool → Bool) → both test ≡ true → (b : Bool) → test b ≡ true
both-each test is true = first (test true) (test false) is
both-each test is false = second (test true) (test false) is

-- Whether the mask at the index of these signs has a state exactly if the signs give the state.
abbrev is_right_at : List ℕ → State → (waits stalls ready all_stalled on_cpu current_stalled beside : Bool) → Bool
is_right_at masks state waits stalls ready all_stalled on_cpu current_stalled beside =
    same (mask_holds (slice_index_or masks (place_of waits stalls ready all_stalled on_cpu current_stalled beside) 0) state) (shows_by state waits stalls ready all_stalled on_cpu current_stalled beside)

-- Whether the masks are right for a state, at all signs.
abbrev is_right : List ℕ → State → Bool
is_right masks state =
    both (λ waits. both (λ stalls. both (λ ready. both (λ all_stalled. both (λ on_cpu. both (λ current_stalled. both (λ beside. is_right_at masks state waits stalls ready all_stalled on_cpu current_stalled beside)))))))

-- Whether the masks are right for all states.
abbrev pub are_right : List ℕ → Bool
are_right masks = is_right masks IoSome && (is_right masks IoFull && (is_right masks MemSome && (is_right masks MemFull && (is_right masks CpuSome && (is_right masks CpuFull && is_right masks Nonidle)))))

all_seven : (a b c d e f g : Bool) → (a && (b && (c && (d && (e && (f && g)))))) ≡ true → (a ≡ true) × (b ≡ true) × (c ≡ true) × (d ≡ true) × (e ≡ true) × (f ≡ true) × (g ≡ true)
all_seven true true true true true true true is = (refl, refl, refl, refl, refl, refl, refl)
all_seven false b c d e f g is = absurd (cc is)
all_seven true false c d e f g is = absurd (cc is)
all_seven true true false d e f g is = absurd (cc is)
all_seven true true true false e f g is = absurd (cc is)
all_seven true true true true false f g is = absurd (cc is)
all_seven true true true true true false g is = absurd (cc is)
all_seven true true true true true true false is = absurd (cc is)

-- If the masks are right for all states, they are right for each state.
each_right : (masks : List ℕ) → are_right masks ≡ true → (state : State) → is_right masks state ≡ true
each_right masks right state =
    picked (all_seven (is_right masks IoSome) (is_right masks IoFull) (is_right masks MemSome) (is_right masks MemFull) (is_right masks CpuSome) (is_right masks CpuFull) (is_right masks Nonidle) right) state
  where
    picked : (is_right masks IoSome ≡ true) × (is_right masks IoFull ≡ true) × (is_right masks MemSome ≡ true) × (is_right masks MemFull ≡ true) × (is_right masks CpuSome ≡ true) × (is_right masks CpuFull ≡ true) × (is_right masks Nonidle ≡ true) → (state : State) → is_right masks state ≡ true
    picked all IoSome = all.0
    picked all IoFull = all.1
    picked all MemSome = all.2
    picked all MemFull = all.3
    picked all CpuSome = all.4
    picked all CpuFull = all.5
    picked all Nonidle = all.6

-- Masks that are right have exactly the states that the signs of their index give.
right_shows : (masks : List ℕ) → are_right masks ≡ true → (state : State) (waits stalls ready all_stalled on_cpu current_stalled beside : Bool) →
    mask_holds (slice_index_or masks (place_of waits stalls ready all_stalled on_cpu current_stalled beside) 0) state ≡ shows_by state waits stalls ready all_stalled on_cpu current_stalled beside
right_shows masks right state waits stalls ready all_stalled on_cpu current_stalled beside =
    let one = both-each (λ a. both (λ b. both (λ c. both (λ d. both (λ e. both (λ f. both (λ g. is_right_at masks state a b c d e f g))))))) (each_right masks right state) waits in
    let two = both-each (λ b. both (λ c. both (λ d. both (λ e. both (λ f. both (λ g. is_right_at masks state waits b c d e f g)))))) one stalls in
    let three = both-each (λ c. both (λ d. both (λ e. both (λ f. both (λ g. is_right_at masks state waits stalls c d e f g))))) two ready in
    let four = both-each (λ d. both (λ e. both (λ f. both (λ g. is_right_at masks state waits stalls ready d e f g)))) three all_stalled in
    let five = both-each (λ e. both (λ f. both (λ g. is_right_at masks state waits stalls ready all_stalled e f g))) four on_cpu in
    let six = both-each (λ f. both (λ g. is_right_at masks state waits stalls ready all_stalled on_cpu f g)) five current_stalled in
    same-equal _ _ (both-each (λ g. is_right_at masks state waits stalls ready all_stalled on_cpu current_stalled g) six beside)

-- ---- the signs give the same states as the counts

no_more : (n : ℕ) → (n == 0) ≡ not (nat_lt 0 n)
no_more n = grind (arith, nat_tests)

pub signs_show : (state : State) (counts : Counts) (on_cpu current_stalled : Bool) →
    shows_by state (nat_lt 0 counts.io) (nat_lt 0 counts.stalled) (nat_lt 0 counts.running) (counts.running == counts.stalled_running) on_cpu current_stalled (if on_cpu then nat_lt 1 counts.running else nat_lt 0 counts.running) ≡ shows state counts on_cpu current_stalled
signs_show IoSome counts on_cpu current_stalled = refl
signs_show IoFull counts on_cpu current_stalled = ap (λ b. nat_lt 0 counts.io && b) (sym (no_more counts.running))
signs_show MemSome counts on_cpu current_stalled = refl
signs_show MemFull counts on_cpu current_stalled = refl
signs_show CpuSome counts on_cpu current_stalled = refl
signs_show CpuFull counts on_cpu current_stalled = refl
signs_show Nonidle counts on_cpu current_stalled = refl

-- The mask at the index of counts has exactly the states that the counts show.
pub table_shows : (masks : List ℕ) → are_right masks ≡ true → (counts : Counts) (on_cpu current_stalled : Bool) (mask place : ℕ) → place ≡ place_by counts on_cpu current_stalled → mask ≡ slice_index_or masks place 0
    → (state : State) → mask_holds mask state ≡ shows state counts on_cpu current_stalled
table_shows masks right counts on_cpu current_stalled mask place at is state =
    ap (λ m. mask_holds m state) (is ∙ ap (λ n. slice_index_or masks n 0) at)
    ∙ right_shows masks right state (nat_lt 0 counts.io) (nat_lt 0 counts.stalled) (nat_lt 0 counts.running) (counts.running == counts.stalled_running) on_cpu current_stalled (if on_cpu then nat_lt 1 counts.running else nat_lt 0 counts.running)
    ∙ signs_show state counts on_cpu current_stalled

-- ---- masks alone

-- Whether each number of a table is a mask.
unfoldable pub are_masks : List ℕ → Bool
are_masks [] = true
are_masks (mask ∷ masks) = nat_lt mask 128 && are_masks masks

is_mask : (mask : ℕ) → nat_lt mask 128 ≡ true → IsMask mask
is_mask mask is = grind (arith, nat_tests)

-- If each number of a table is a mask, so is the number at each index.
pub table_are_masks : (masks : List ℕ) → are_masks masks ≡ true → (place : ℕ) → IsMask (slice_index_or masks place 0)
unfolding are_masks
table_are_masks [] are place = omega arith
table_are_masks (mask ∷ masks) are zero = is_mask mask (first (nat_lt mask 128) (are_masks masks) are)
table_are_masks (mask ∷ masks) are (suc place) = table_are_masks masks (second (nat_lt mask 128) (are_masks masks) are) place
