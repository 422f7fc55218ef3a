-- Proofs about the samples that observers take.
use Rattle.std.proofs.Common.{◌≡◌, ℕ, zero, suc, ◌≤◌, Bool, true, false, List, [], ◌∷◌, length, map, refl, ap, ◌∙◌, subst, arith, rules, Some}
use Rattle.std.specs.Prelude.{cond, filter, slice_get}
use Rattle.psi_spec.specs.Changes.{RiseWithin}
use Rattle.observe_spec.specs.Samples.{AreDone, Due, Look, is_of}
use Rattle.observe_spec.specs.Laws.{CountsAreOfChanges, EachTakesItsShare}

-- if non-decreasing numbers are within bounds, the lower bound is at most the upper bound
rise_bounds : (low : ℕ) (numbers : List ℕ) (high : ℕ) → RiseWithin low numbers high → low ≤ high
rise_bounds low [] high rise = rise
rise_bounds low (number ∷ numbers) high rise =
    let rest = rise_bounds number numbers high rise.1 in let first : low ≤ number = rise.0 in omega arith

abbrev counts : List Look → List ℕ
counts looks = map (λ (look : Look). look.count) looks

-- the change count of each chosen sample is at most the upper bound
chosen_within : (chosen : Look → Bool) (looks : List Look) (k : ℕ) (look : Look) → slice_get looks k ≡ Some look → chosen look ≡ true →
    (low high : ℕ) → RiseWithin low (counts (filter chosen looks)) high → look.count ≤ high
chosen_within chosen [] k look at is low high rise = absurd (cc)
chosen_within chosen (x ∷ xs) zero look at is low high rise =
    let same : x ≡ look = cc in
    let first : chosen x ≡ true = ap chosen same ∙ is in
    let all = subst (λ b. RiseWithin low (counts (cond b (x ∷ filter chosen xs) (filter chosen xs))) high) first rise in
    subst (λ (l : Look). l.count ≤ high) same (rise_bounds x.count (counts (filter chosen xs)) high all.1)
chosen_within chosen (x ∷ xs) (suc k) look at is low high rise = go (chosen x) refl (λ from rest. chosen_within chosen xs k look at is from high rest)
  where
    go : (b : Bool) → chosen x ≡ b → ((from : ℕ) → RiseWithin from (counts (filter chosen xs)) high → look.count ≤ high) → look.count ≤ high
    go true e within =
        let all = subst (λ b. RiseWithin low (counts (cond b (x ∷ filter chosen xs) (filter chosen xs))) high) e rise in within x.count all.1
    go false e within =
        let all = subst (λ b. RiseWithin low (counts (cond b (x ∷ filter chosen xs) (filter chosen xs))) high) e rise in within low all

pub counts_of_changes : CountsAreOfChanges
counts_of_changes trace timing path observers looks all k look at =
    chosen_within (is_of look.observer look.cpu) looks k look at (search rules) 0 _ (all.rise look.observer look.cpu)

-- samples that match the due samples one by one are as many
done_all : (dues : List Due) (looks : List Look) → AreDone dues looks → length looks ≡ length dues
done_all [] [] done = refl
done_all [] (look ∷ looks) done = absurd done
done_all (due ∷ dues) [] done = absurd done
done_all (due ∷ dues) (look ∷ looks) done = ap suc (done_all dues looks done.4)

pub each_takes_its_share : EachTakesItsShare
each_takes_its_share trace timing path observers looks all observer there = done_all _ _ (all.done observer there)
