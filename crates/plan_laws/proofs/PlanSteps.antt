-- The effect of one change of a plan on counts, accounting and states.
use Rattle.std.proofs.Common.{◌≡◌, ℕ, zero, suc, ◌+◌, ◌-◌, ◌≤◌, List, [], ◌∷◌, ◌++◌, map, take, refl, ap, ◌∙◌, arith, Bool, false, cond, Option, None, Some, ◌<◌, length, true}
use Rattle.std.specs.Prelude.{filter, nat_le, slice_get, slice_index_or, ◌&&◌, if◌then◌else◌}
use Rattle.std.proofs.lemmas.Bool.Decides.{nat_tests}
use Rattle.std.proofs.lemmas.Option.{slice_get_within}
use Rattle.psi_base.specs.declared.event.Slot.{Slot}
use Rattle.psi_base.specs.declared.event.State.{State}
use Rattle.psi_base.specs.declared.event.State.TheVariants.{IoSome, IoFull, MemSome, MemFull, CpuSome, CpuFull, Nonidle}
use Rattle.psi_counts.specs.declared.changes.Change.{Change}
use Rattle.psi_counts.specs.declared.changes.Counts.{Counts}
use Rattle.psi_counts.specs.Counts.{shows}
use Rattle.psi_counts.specs.Touch.{on_with, is_current_in, is_current_stalled, no_counts, on_chain}
use Rattle.psi_counts.specs.Legal.{added, both_counts, taken}
use Rattle.plan_laws.specs.Plan.{PlanView, Leaves, added_after, counts_after, current_after, holds_after, is_account_of, is_part_in, last_change, less, on_after, on_from, taken_after, AsideStays, CountsByChange, CurrentByChange, OnAtFirst, OnByChange, PlaceOfMoment, PlanCountsAreFew}
use Rattle.plan_laws.proofs.PlanStates.{counts_are, on_from-push}

-- ---- a prefix and the next element

take_one : {A : Type 0} (xs : List A) (k : ℕ) (x : A) → slice_get xs k ≡ Some x → take (suc k) xs ≡ take k xs ++ x ∷ []
take_one [] k x is = absurd (cc is)
take_one (y ∷ xs) zero x is = let same : y ≡ x = cc is in ap (λ z. z ∷ []) same
take_one (y ∷ xs) (suc k) x is = ap (λ zs. y ∷ zs) (take_one xs k x is)

read_one : {A B : Type 0} (f : A → B) (d : B) (xs : List A) (k : ℕ) (x : A) → slice_get xs k ≡ Some x → slice_index_or (map f xs) k d ≡ f x
read_one f d [] k x is = absurd (cc is)
read_one f d (y ∷ xs) zero x is = let same : y ≡ x = cc is in ap f same
read_one f d (y ∷ xs) (suc k) x is = read_one f d xs k x is

-- The first k + 1 changes are the first `k` changes, followed by the next change.
pub one_more : (changes : List Change) (k : ℕ) (change : Change) → slice_get changes k ≡ Some change → take (k + 1) changes ≡ take k changes ++ change ∷ []
one_more changes k change is = let next : k + 1 ≡ suc k = omega arith in ap (λ n. take n changes) next ∙ take_one changes k change is

pub current_by_change : CurrentByChange
current_by_change plan k change is =
    let next : k + 1 ≡ suc k = omega arith in
    (ap (current_after plan) next ∙ read_one (λ (c : Change). c.current) None plan.changes k change is, ap (last_change plan) next ∙ read_one (λ (c : Change). c.at) 0 plan.changes k change is)

-- ---- accounting

pub on_by_change : OnByChange
on_by_change plan slot k change is = ap (on_from slot true) (one_more plan.changes k change is) ∙ on_from-push slot true (take k plan.changes) change

pub on_at_first : OnAtFirst
on_at_first plan slot = refl

-- A switch of another group's accounting doesn't change this group's accounting.
pub account_apart : (slot : ℕ) (on : Bool) (account : Option (Slot × Bool)) → is_account_of slot account ≡ false → on_with slot on account ≡ on
account_apart slot on None off = refl
account_apart slot on (Some account) off = ap (λ b. if b then account.1 else on) off

-- ---- sums with one more

same_counts : (one other : Counts) → one.io ≡ other.io → one.stalled ≡ other.stalled → one.running ≡ other.running → one.stalled_running ≡ other.stalled_running → one ≡ other
same_counts one other a b c d = counts_are one other.io other.stalled other.running other.stalled_running a b c d

around : (one : Counts) → both_counts one no_counts ≡ both_counts no_counts one
around one = same_counts (both_counts one no_counts) (both_counts no_counts one) (omega arith) (omega arith) (omega arith) (omega arith)

together : (one other third : Counts) → both_counts one (both_counts other third) ≡ both_counts (both_counts one other) third
together one other third = same_counts (both_counts one (both_counts other third)) (both_counts (both_counts one other) third) (omega arith) (omega arith) (omega arith) (omega arith)

added-push : (parents : List (Option ℕ)) (slot : ℕ) (changes : List Change) (change : Change) → added parents slot (changes ++ change ∷ []) ≡ both_counts (added parents slot changes) (on_chain parents slot change.plus)
added-push parents slot [] change = around (on_chain parents slot change.plus)
added-push parents slot (first ∷ changes) change =
    ap (both_counts (on_chain parents slot first.plus)) (added-push parents slot changes change) ∙ together (on_chain parents slot first.plus) (added parents slot changes) (on_chain parents slot change.plus)

taken-push : (parents : List (Option ℕ)) (slot : ℕ) (changes : List Change) (change : Change) → taken parents slot (changes ++ change ∷ []) ≡ both_counts (taken parents slot changes) (on_chain parents slot change.minus)
taken-push parents slot [] change = around (on_chain parents slot change.minus)
taken-push parents slot (first ∷ changes) change =
    ap (both_counts (on_chain parents slot first.minus)) (taken-push parents slot changes change) ∙ together (on_chain parents slot first.minus) (taken parents slot changes) (on_chain parents slot change.minus)

added_next : (plan : PlanView) (slot k : ℕ) (change : Change) → slice_get plan.changes k ≡ Some change → added_after plan slot (k + 1) ≡ both_counts (added_after plan slot k) (on_chain plan.parents slot change.plus)
added_next plan slot k change is = ap (added plan.parents slot) (one_more plan.changes k change is) ∙ added-push plan.parents slot (take k plan.changes) change

taken_next : (plan : PlanView) (slot k : ℕ) (change : Change) → slice_get plan.changes k ≡ Some change → taken_after plan slot (k + 1) ≡ both_counts (taken_after plan slot k) (on_chain plan.parents slot change.minus)
taken_next plan slot k change is = ap (taken plan.parents slot) (one_more plan.changes k change is) ∙ taken-push plan.parents slot (take k plan.changes) change

-- ---- counts

follow_on : (added taken plus minus more_added more_taken : ℕ) → more_added ≡ added + plus → more_taken ≡ taken + minus → Leaves taken added → Leaves more_taken more_added → (more_added - more_taken) + minus ≡ (added - taken) + plus
follow_on added taken plus minus more_added more_taken a t before after = omega (arith, a, t, before.0, after.0)

pub counts_by_change : CountsByChange
counts_by_change plan fits slot k change is =
    let room = slice_get_within plan.changes k change is in
    let before = fits slot k (omega (arith, room)) in
    let after = fits slot (k + 1) (omega (arith, room)) in
    let plus = added_next plan slot k change is in
    let minus = taken_next plan slot k change is in
    record {
      io = follow_on _ _ _ _ _ _ (ap (λ (n : Counts). n.io) plus) (ap (λ (n : Counts). n.io) minus) before.io after.io;
      stalled = follow_on _ _ _ _ _ _ (ap (λ (n : Counts). n.stalled) plus) (ap (λ (n : Counts). n.stalled) minus) before.stalled after.stalled;
      running = follow_on _ _ _ _ _ _ (ap (λ (n : Counts). n.running) plus) (ap (λ (n : Counts). n.running) minus) before.running after.running;
      stalled_running = follow_on _ _ _ _ _ _ (ap (λ (n : Counts). n.stalled_running) plus) (ap (λ (n : Counts). n.stalled_running) minus) before.stalled_running after.stalled_running;
    }

left_over : (taken added : ℕ) → Leaves taken added → added - taken ≤ 65536
left_over taken added fits = omega (arith, fits.0, fits.1)

pub plan_counts_are_few : PlanCountsAreFew
plan_counts_are_few plan fits slot k low =
    let now = fits slot k low in
    record { io = left_over _ _ now.io; stalled = left_over _ _ now.stalled; running = left_over _ _ now.running; stalled_running = left_over _ _ now.stalled_running }

-- ---- a change that is aside

no_part : (parents : List (Option ℕ)) (slot : ℕ) (side : Option (Slot × Counts)) → is_part_in parents slot side ≡ false → on_chain parents slot side ≡ no_counts
no_part parents slot None off = refl
no_part parents slot (Some part) off = ap (λ b. cond b part.1 no_counts) off

nothing_more : (n : Counts) → both_counts n no_counts ≡ n
nothing_more n = same_counts (both_counts n no_counts) n (omega arith) (omega arith) (omega arith) (omega arith)

-- If no counted task runs, the states don't depend on whether the running task is in a memory
-- stall.
no_current : (state : State) (n : Counts) (one other : Bool) → shows state n false one ≡ shows state n false other
no_current IoSome n one other = refl
no_current IoFull n one other = refl
no_current MemSome n one other = refl
no_current MemFull n one other = refl
no_current CpuSome n one other = refl
no_current CpuFull n one other = refl
no_current Nonidle n one other = refl

shows_the_same : (state : State) (now next : Counts) (on on_next stalled stalled_next : Bool) → next ≡ now → on ≡ false → on_next ≡ false → shows state next on_next stalled_next ≡ shows state now on stalled
shows_the_same state now next on on_next stalled stalled_next same off off_next = rw (same, off, off_next) (no_current state now stalled_next stalled)

pub aside_stays : AsideStays
unfolding holds_after
aside_stays state plan slot k change is aside =
    let plus = added_next plan slot k change is ∙ ap (both_counts (added_after plan slot k)) (no_part plan.parents slot change.plus aside.plus) ∙ nothing_more (added_after plan slot k) in
    let minus = taken_next plan slot k change is ∙ ap (both_counts (taken_after plan slot k)) (no_part plan.parents slot change.minus aside.minus) ∙ nothing_more (taken_after plan slot k) in
    let counts : counts_after plan slot (k + 1) ≡ counts_after plan slot k = ap (λ n. less n (taken_after plan slot (k + 1))) plus ∙ ap (less (added_after plan slot k)) minus in
    let current = ap (is_current_in plan.parents slot) ((current_by_change plan k change is).0) ∙ aside.current in
    let on = on_by_change plan slot k change is ∙ account_apart slot (on_after plan slot k) change.account aside.account in
    ap (λ b. b && shows state (counts_after plan slot (k + 1)) (is_current_in plan.parents slot (current_after plan (k + 1))) (is_current_stalled (current_after plan (k + 1)))) on
    ∙ ap (λ b. on_after plan slot k && b)
    (shows_the_same state (counts_after plan slot k) (counts_after plan slot (k + 1)) (is_current_in plan.parents slot (current_after plan k)) (is_current_in plan.parents slot (current_after plan (k + 1)))
    (is_current_stalled (current_after plan k)) (is_current_stalled (current_after plan (k + 1))) counts aside.before current)

-- ---- the number of changes up to a time

abbrev is_early : ℕ → Change → Bool
is_early at change = nat_le change.at at

-- The time (ns) of change `k` (from 1), or `first` for k = 0.
abbrev moment_at : ℕ → List Change → ℕ → ℕ
moment_at first changes k = slice_index_or (first ∷ map (λ (change : Change). change.at) changes) k 0

abbrev Rises : ℕ → List Change → Type 0
Rises first changes = (k : ℕ) → k < length changes → moment_at first changes k ≤ moment_at first changes (suc k)

rises_later : (first : ℕ) (change : Change) (changes : List Change) → Rises first (change ∷ changes) → Rises change.at changes
rises_later first change changes rises k low = rises (suc k) (omega (arith, low))

rises_first : (first : ℕ) (change : Change) (changes : List Change) → Rises first (change ∷ changes) → first ≤ change.at
rises_first first change changes rises = rises 0 (omega arith)

-- No change is before the first time.
no_earlier : (first : ℕ) (changes : List Change) → Rises first changes → (k : ℕ) → k ≤ length changes → first ≤ moment_at first changes k
no_earlier first changes rises zero low = omega arith
no_earlier first [] rises (suc k) low = absurd (omega (arith, low))
no_earlier first (change ∷ changes) rises (suc k) low =
    let rest = no_earlier change.at changes (rises_later first change changes rises) k (omega (arith, low)) in
    omega (arith, rest, rises_first first change changes rises)

is_late : (at first moment : ℕ) → at < first → first ≤ moment → nat_le moment at ≡ false
is_late at first moment past later = grind (arith, nat_tests)

is_in_time : (at moment last : ℕ) → moment ≤ last → last ≤ at → nat_le moment at ≡ true
is_in_time at moment last before low = grind (arith, nat_tests)

none_early : (first : ℕ) (changes : List Change) (at : ℕ) → Rises first changes → at < first → filter (is_early at) changes ≡ []
none_early first [] at rises past = refl
none_early first (change ∷ changes) at rises past =
    let later = rises_first first change changes rises in
    rw (is_late at first change.at past later) (none_early change.at changes at (rises_later first change changes rises) (omega (arith, past, later)))

placed : (first : ℕ) (changes : List Change) (k at : ℕ) → Rises first changes → k ≤ length changes → moment_at first changes k ≤ at → (k < length changes → at < moment_at first changes (suc k)) → length (filter (is_early at) changes) ≡ k
placed first [] k at rises low from to = omega (arith, low)
placed first (change ∷ changes) zero at rises low from to =
    let past = to (omega arith) in
    let none : filter (is_early at) (change ∷ changes) ≡ [] = rw (is_late at change.at change.at past (omega arith)) (none_early change.at changes at (rises_later first change changes rises) past) in
    ap length none
placed first (change ∷ changes) (suc k) at rises low from to =
    let before = no_earlier change.at changes (rises_later first change changes rises) k (omega (arith, low)) in
    let rest = placed change.at changes k at (rises_later first change changes rises) (omega (arith, low)) from (λ room. to (omega (arith, room))) in
    ap (λ b. length (cond b (change ∷ filter (is_early at) changes) (filter (is_early at) changes))) (is_in_time at change.at (moment_at change.at changes k) before from) ∙ ap suc rest

pub place_of_moment : PlaceOfMoment
place_of_moment plan order k at low from to =
    let next : (j : ℕ) → last_change plan (j + 1) ≡ moment_at 0 plan.changes (suc j) = λ j. let same : j + 1 ≡ suc j = omega arith in ap (last_change plan) same in
    placed 0 plan.changes k at (λ j room. omega (arith, order j room, next j)) low from (λ room. omega (arith, to room, next k))
