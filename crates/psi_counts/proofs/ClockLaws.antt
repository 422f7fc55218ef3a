-- The times that clocks give for each state.
use Rattle.std.proofs.Common.{◌≡◌, ℕ, ◌+◌, ◌-◌, ◌≤◌, List, [], ◌∷◌, ◌++◌, map, refl, ◌∙◌, Bool, true, false, arith}
use Rattle.std.specs.Prelude.{if◌then◌else◌, slice_index}
use Rattle.psi_base.specs.declared.event.State.{State}
use Rattle.psi_base.specs.declared.event.State.TheVariants.{IoSome, IoFull, MemSome, MemFull, CpuSome, CpuFull, Nonidle}
use Rattle.psi_spec.specs.Stall.{state_number, states}
use Rattle.psi_counts.specs.Counts.{mask_holds}
use Rattle.psi_counts.specs.Clock.{ClockFollows, ClockView, zero_clock, opened_time, opened, advanced, SameMaskIsNoChange, SameAfterChange, WordsShowClock, NoLongerThanClock}

-- The time in a state is at the index of the state in the list of times.
pub opened_at : (clock : ClockView) (at : ℕ) (state : State) → slice_index (opened clock at) (state_number state) ≡ opened_time clock at state
opened_at clock at IoSome = refl
opened_at clock at IoFull = refl
opened_at clock at MemSome = refl
opened_at clock at MemFull = refl
opened_at clock at CpuSome = refl
opened_at clock at CpuFull = refl
opened_at clock at Nonidle = refl

-- The time in a state after a clock was advanced is the time before, plus the time since then if
-- the new mask contains the state.
pub advanced_time : (clock : ClockView) (at mask later : ℕ) (state : State) → opened_time (advanced clock at mask) later state ≡ opened_time clock at state + (if mask_holds mask state then later - at else 0)
advanced_time clock at mask later state = rw (opened_at clock at state) refl

-- the times of the zero clock are 0
pub zero_time : (at : ℕ) (state : State) → opened_time zero_clock at state ≡ 0
zero_time at IoSome = refl
zero_time at IoFull = refl
zero_time at MemSome = refl
zero_time at MemFull = refl
zero_time at CpuSome = refl
zero_time at CpuFull = refl
zero_time at Nonidle = refl

no_longer : (held : Bool) (time start at : ℕ) → start ≤ at → time ≤ start → time + (if held then at - start else 0) ≤ at
no_longer true time start at from within = omega arith
no_longer false time start at from within = omega arith

pub no_longer_than_clock : NoLongerThanClock
no_longer_than_clock clock at state from within = no_longer (mask_holds clock.mask state) (slice_index clock.times (state_number state)) clock.start at from within

-- ---- equal clocks

joined_time : (held : Bool) (time start at later : ℕ) → start ≤ at → at ≤ later → (time + (if held then at - start else 0)) + (if held then later - at else 0) ≡ time + (if held then later - start else 0)
joined_time true time start at later from to = omega arith
joined_time false time start at later from to = omega arith

pub map_states : (f g : State → ℕ) → ((state : State) → f state ≡ g state) → map f states ≡ map g states
map_states f g same = cc (same IoSome, same IoFull, same MemSome, same MemFull, same CpuSome, same CpuFull, same Nonidle)

pub same_mask_is_no_change : SameMaskIsNoChange
same_mask_is_no_change clock at from = record {
  mask = refl;
  opened = λ later to _. map_states (opened_time (advanced clock at clock.mask) later) (opened_time clock later)
      (λ state. advanced_time clock at clock.mask later state ∙ joined_time (mask_holds clock.mask state) (slice_index clock.times (state_number state)) clock.start at later from to);
}

pub same_after_change : SameAfterChange
same_after_change one other at mask from_one from_other same = rw (same.opened at from_one from_other) refl

-- ---- words

no_more : (xs : List ℕ) (a b : ℕ) → xs ++ a ∷ b ∷ [] ≡ [] → ⊥
no_more [] a b h = cc h
no_more (x ∷ xs) a b h = cc h

last_two : (xs ys : List ℕ) (a b c d : ℕ) → xs ++ a ∷ b ∷ [] ≡ ys ++ c ∷ d ∷ [] → (xs ≡ ys) × (a ≡ c) × (b ≡ d)
last_two [] [] a b c d h = (refl, cc h, cc h)
last_two [] (y ∷ []) a b c d h = absurd (cc h)
last_two [] (y ∷ z ∷ ys) a b c d h = absurd (no_more ys c d (cc h))
last_two (x ∷ []) [] a b c d h = absurd (cc h)
last_two (x ∷ z ∷ xs) [] a b c d h = absurd (no_more xs a b (cc h))
last_two (x ∷ xs) (y ∷ ys) a b c d h =
    let rest = last_two xs ys a b c d (cc h) in
    let first : x ≡ y = cc h in
    (cc (first, rest.0), rest.1, rest.2)

abbrev made : List ℕ → ℕ → ℕ → ClockView
made times mask start = record { times = times; mask = mask; start = start }

made_same : (one other : List ℕ) (mask other_mask start other_start : ℕ) → one ≡ other → mask ≡ other_mask → start ≡ other_start → made one mask start ≡ made other other_mask other_start
made_same one other mask other_mask start other_start times masks starts = rw (times, masks, starts) refl

pub words_show_clock : WordsShowClock
words_show_clock one other same =
    let parts = last_two one.times other.times one.mask one.start other.mask other.start same in
    made_same one.times other.times one.mask other.mask one.start other.start parts.0 parts.1 parts.2

parted : (held : Bool) (time start at later : ℕ) → start ≤ at → at ≤ later → time + (if held then later - start else 0) ≡ (time + (if held then at - start else 0)) + (if held then later - at else 0)
parted true time start at later from to = omega arith
parted false time start at later from to = omega arith

-- a clock follows itself over a change that doesn't change its mask
pub clock_stays : (clock : ClockView) (at : ℕ) → clock.start ≤ at → ClockFollows clock at clock
clock_stays clock at from = record {
  start = from;
  times = λ state later to. parted (mask_holds clock.mask state) (slice_index clock.times (state_number state)) clock.start at later from to;
}
