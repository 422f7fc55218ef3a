-- Proves properties of cutoffs. A cutoff is a key that exactly the `few` largest groups reach.
use Rattle.std.proofs.Common.{◌≡◌, ℕ, zero, suc, ◌+◌, ◌-◌, ◌<◌, ◌≤◌, List, [], ◌∷◌, length, get_or}
use Rattle.std.proofs.Common.{take, length-append, refl, sym, ap, ◌∙◌, arith, true, false, ◌⊎◌, ⊎_elim, subst}
use Rattle.std.specs.Prelude.{Bool, Contains, filter, map, nat_le, nat_lt}
use Rattle.std.proofs.lemmas.Bool.{true≢false}
use Rattle.std.proofs.lemmas.List.{take_more}
use Rattle.std.proofs.lemmas.List.Elements.{filter-append}
use Rattle.std.proofs.lemmas.Bool.Decides.{nat_tests}
use Rattle.psi_spec.specs.declared.machine.GroupLife.{GroupLife}
use Rattle.kill_spec.specs.declared.reading.GroupReading.{GroupReading}
use Rattle.kill_spec.specs.Readings.{path_of}
use Rattle.kill_spec.specs.LegalReadings.{Ascend}
use Rattle.kill_spec.specs.Victims.{is_larger, memory_in_use}
use Rattle.kill_spec.proofs.Foremost.{Each, Pairs, by_test}
use Rattle.kill_spec.proofs.ChoiceLaws.{IsBefore, greater_order, in_order}
use Rattle.detectors.specs.Inner.{AreAmong, group_at, groups_at}
use Rattle.detectors.specs.Views.{ReadingView}
use Rattle.victim_rank.proofs.Scoped.{leads_plainly}
use Rattle.victim_rank.specs.Scopes.{ScopeView, is_in_rank}
use Rattle.victim_rank.specs.Cutoffs.{IsCutoff, IsRanking, count_reaching, reaches, size_key}

-- ---- the order of paths is the order of places

each_get : (P : GroupReading → Type 0) (groups : List GroupReading) (k : ℕ) → Each P groups →
    k < length groups → P (group_at groups k)
each_get P [] k each below = absurd (omega (arith, below))
each_get P (first ∷ groups) zero each below = each.0
each_get P (first ∷ groups) (suc k) each below = each_get P groups k each.1 (omega (arith, below))

pairs_get : (R : GroupReading → GroupReading → Type 0) (groups : List GroupReading) (j k : ℕ) →
    Pairs R groups → j < k → k < length groups → R (group_at groups j) (group_at groups k)
pairs_get R [] j k pairs less below = absurd (omega (arith, below))
pairs_get R (first ∷ groups) j zero pairs less below = absurd (omega (arith, less))
pairs_get R (first ∷ groups) zero (suc k) pairs less below =
    each_get (R first) groups k pairs.0 (omega (arith, below))
pairs_get R (first ∷ groups) (suc j) (suc k) pairs less below =
    pairs_get R groups j k pairs.1 (omega (arith, less)) (omega (arith, below))

lt_true : (a b : ℕ) → nat_lt a b ≡ true → a < b
lt_true a b is = grind (arith, nat_tests)

lt_false : (a b : ℕ) → nat_lt a b ≡ false → b ≤ a
lt_false a b is = grind (arith, nat_tests)

true_lt : (a b : ℕ) → a < b → nat_lt a b ≡ true
true_lt a b is = grind (arith, nat_tests)

false_lt : (a b : ℕ) → b ≤ a → nat_lt a b ≡ false
false_lt a b is = grind (arith, nat_tests)

le_true : (a b : ℕ) → nat_le a b ≡ true → a ≤ b
le_true a b is = grind (arith, nat_tests)

true_le : (a b : ℕ) → a ≤ b → nat_le a b ≡ true
true_le a b is = grind (arith, nat_tests)

false_le : (a b : ℕ) → b < a → nat_le a b ≡ false
false_le a b is = grind (arith, nat_tests)

le_false : (a b : ℕ) → nat_le a b ≡ false → b < a
le_false a b is = grind (arith, nat_tests)

-- Of two groups, the larger group has the greater key.
module _ (lives : List GroupLife) (groups : List GroupReading)
    (ascend : Ascend (map (path_of lives) groups)) (few : length groups ≤ 1024) where
  earlier : (p q : ℕ) → p < q → q < length groups →
      is_larger lives (group_at groups p) (group_at groups q)
      ≡ nat_lt (size_key groups q) (size_key groups p)
  earlier p q less below =
      let x = group_at groups p in
      let y = group_at groups q in
      let order = greater_order lives memory_in_use in
      let before = pairs_get (IsBefore lives) groups p q (in_order lives groups ascend) less below in
      by_test _ (nat_lt (memory_in_use x) (memory_in_use y))
      (λ more. order.one_way y x (order.second x y before (leads_plainly y x ∙ more))
      ∙ sym (false_lt (size_key groups q) (size_key groups p) (omega (arith, lt_true _ _ more, less, few, below))))
      (λ less_or_same. order.first x y before (leads_plainly y x ∙ less_or_same)
      ∙ sym (true_lt (size_key groups q) (size_key groups p) (omega (arith, lt_false _ _ less_or_same, less, few, below))))

  later : (p q : ℕ) → q < p → p < length groups →
      is_larger lives (group_at groups p) (group_at groups q)
      ≡ nat_lt (size_key groups q) (size_key groups p)
  later p q less below =
      let x = group_at groups q in
      let y = group_at groups p in
      let order = greater_order lives memory_in_use in
      let before = pairs_get (IsBefore lives) groups q p (in_order lives groups ascend) less below in
      by_test _ (nat_lt (memory_in_use x) (memory_in_use y))
      (λ more. order.second x y before (leads_plainly y x ∙ more)
      ∙ sym (true_lt (size_key groups q) (size_key groups p) (omega (arith, lt_true _ _ more, less, few, below))))
      (λ less_or_same. order.one_way x y (order.first x y before (leads_plainly y x ∙ less_or_same))
      ∙ sym (false_lt (size_key groups q) (size_key groups p) (omega (arith, lt_false _ _ less_or_same, less, few, below))))

  itself : (p : ℕ) → is_larger lives (group_at groups p) (group_at groups p)
      ≡ nat_lt (size_key groups p) (size_key groups p)
  itself p =
      let x = group_at groups p in
      by_test _ (is_larger lives x x)
      (λ over. absurd (true≢false (sym over ∙ (greater_order lives memory_in_use).one_way x x over)))
      (λ under. under ∙ sym (false_lt (size_key groups p) (size_key groups p) (omega arith)))

  larger_key : (p q : ℕ) → p < length groups → q < length groups →
      is_larger lives (group_at groups p) (group_at groups q)
      ≡ nat_lt (size_key groups q) (size_key groups p)
  larger_key p q below_p below_q = by_test _ (nat_lt p q)
      (λ less. earlier p q (lt_true p q less) below_q)
      (λ not_less. by_test _ (nat_lt q p)
      (λ more. later p q (lt_true q p more) below_p)
      (λ not_more.
      let same : q ≡ p = omega (arith, lt_false p q not_less, lt_false q p not_more) in
      let P : ℕ → Type 0 = λ k. is_larger lives (group_at groups p) (group_at groups k)
      ≡ nat_lt (size_key groups k) (size_key groups p) in
      subst P (sym same) (itself p)))

  -- The number of groups larger than a group is the number of places with a greater key.
  counted : (test : GroupReading → Bool) (q : ℕ) (places : List ℕ) → q < length groups →
      AreAmong groups places →
      length (filter (λ other. is_larger lives other (group_at groups q))
      (filter test (groups_at groups places)))
      ≡ count_reaching test groups places (size_key groups q + 1)
  counted test q [] below among = refl
  counted test q (p ∷ places) below among =
      let here = larger_key p q (among 0 p (omega arith)) below in
      let rest = counted test q places below (λ k d less. among (suc k) d (omega (arith, less))) in
      by_test _ (nat_le (size_key groups q + 1) (size_key groups p))
      (λ over.
      let larger : is_larger lives (group_at groups p) (group_at groups q) ≡ true =
      here ∙ true_lt (size_key groups q) (size_key groups p) (omega (arith, le_true _ _ over)) in
      by_test _ (test (group_at groups p))
      (λ holds. rw (holds, larger, over) (ap suc rest))
      (λ fails. rw (fails, over) rest))
      (λ under.
      let smaller : is_larger lives (group_at groups p) (group_at groups q) ≡ false =
      here ∙ false_lt (size_key groups q) (size_key groups p) (omega (arith, le_false _ _ under)) in
      by_test _ (test (group_at groups p))
      (λ holds. rw (holds, smaller, under) rest)
      (λ fails. rw (fails, under) rest))

-- ---- counts of keys

module _ (test : GroupReading → Bool) (groups : List GroupReading) where
  -- At most as many places reach a greater key as reach a smaller key.
  pub fewer : (places : List ℕ) (low high : ℕ) → low ≤ high →
      count_reaching test groups places high ≤ count_reaching test groups places low
  fewer [] low high order = omega arith
  fewer (p ∷ places) low high order =
      let rest = fewer places low high order in
      by_test _ (test (group_at groups p))
      (λ holds. by_test _ (nat_le high (size_key groups p))
      (λ over. let too : nat_le low (size_key groups p) ≡ true =
      true_le low (size_key groups p) (omega (arith, order, le_true _ _ over)) in
      rw (holds, over, too) (omega (arith, rest)))
      (λ under. by_test _ (nat_le low (size_key groups p))
      (λ too. rw (holds, under, too) (omega (arith, rest)))
      (λ nor. rw (holds, under, nor) rest)))
      (λ fails. by_test _ (nat_le high (size_key groups p))
      (λ over. let too : nat_le low (size_key groups p) ≡ true =
      true_le low (size_key groups p) (omega (arith, order, le_true _ _ over)) in
      rw (fails, over, too) rest)
      (λ under. by_test _ (nat_le low (size_key groups p))
      (λ too. rw (fails, under, too) rest)
      (λ nor. rw (under, nor) rest)))

  -- Fewer places have a greater key than the group at place `q` than have at least its key.
  strictly : (places : List ℕ) (q : ℕ) → Contains places q → test (group_at groups q) ≡ true →
      count_reaching test groups places (size_key groups q + 1)
      < count_reaching test groups places (size_key groups q)
  strictly [] q (k, below, is) holds = absurd (omega (arith, below))
  strictly (p ∷ places) q (zero, below, is) holds =
      let rest = fewer places (size_key groups q) (size_key groups q + 1) (omega arith) in
      let over : nat_le (size_key groups q) (size_key groups q) ≡ true =
      true_le (size_key groups q) (size_key groups q) (omega arith) in
      let under : nat_le (size_key groups q + 1) (size_key groups q) ≡ false =
      false_le (size_key groups q + 1) (size_key groups q) (omega arith) in
      rw (is, under, over, holds) (omega (arith, rest))
  strictly (p ∷ places) q (suc k, below, is) holds =
      let rest = strictly places q (k, omega (arith, below), is) holds in
      by_test _ (test (group_at groups p))
      (λ here. by_test _ (nat_le (size_key groups q + 1) (size_key groups p))
      (λ over. let too : nat_le (size_key groups q) (size_key groups p) ≡ true =
      true_le (size_key groups q) (size_key groups p) (omega (arith, le_true _ _ over)) in
      rw (here, over, too) (omega (arith, rest)))
      (λ under. by_test _ (nat_le (size_key groups q) (size_key groups p))
      (λ too. rw (here, under, too) (omega (arith, rest)))
      (λ nor. rw (here, under, nor) rest)))
      (λ fails. by_test _ (nat_le (size_key groups q + 1) (size_key groups p))
      (λ over. let too : nat_le (size_key groups q) (size_key groups p) ≡ true =
      true_le (size_key groups q) (size_key groups p) (omega (arith, le_true _ _ over)) in
      rw (fails, over, too) rest)
      (λ under. by_test _ (nat_le (size_key groups q) (size_key groups p))
      (λ too. rw (fails, under, too) rest)
      (λ nor. rw (under, nor) rest)))

  -- The greatest key stays correct after one more place whose group's key isn't above it.
  pub none_above : (places : List ℕ) (i p greatest next : ℕ) → i < length places →
      get_or places i 0 ≡ p → count_reaching test groups (take i places) (greatest + 1) ≡ 0 →
      greatest ≤ next → (test (group_at groups p) ≡ true → size_key groups p ≤ next) →
      count_reaching test groups (take (i + 1) places) (next + 1) ≡ 0
  none_above places i p greatest next within is none order under =
      let before = fewer (take i places) (greatest + 1) (next + 1) (omega (arith, order)) in
      let last : count_reaching test groups (p ∷ []) (next + 1) ≡ 0 = by_test _ (test (group_at groups p))
      (λ holds. let out : nat_le (next + 1) (size_key groups p) ≡ false =
      false_le (next + 1) (size_key groups p) (omega (arith, under holds)) in rw out refl)
      (λ fails. by_test _ (nat_le (next + 1) (size_key groups p))
      (λ over. rw (over, fails) refl)
      (λ out. rw out refl)) in
      rw (
        take_more places i 0 within,
        is,
        filter-append (reaches test groups (next + 1)) (take i places) (p ∷ []),
        length-append (filter (reaches test groups (next + 1)) (take i places))
            (filter (reaches test groups (next + 1)) (p ∷ [])),
      ) (omega (arith, before, none, last))

-- ---- cutoffs

module _ (scope : ScopeView) (best_rank : ℕ) (reading : ReadingView) (places : List ℕ) (few : ℕ)
    (ranking : IsRanking scope best_rank reading places) where
  larger_are : (q : ℕ) → Contains places q →
      length (filter (λ other. is_larger scope.lives other (group_at reading.seen.groups q))
      (filter (is_in_rank scope best_rank) reading.seen.groups))
      ≡ count_reaching (is_in_rank scope best_rank) reading.seen.groups places
      (size_key reading.seen.groups q + 1)
  larger_are q there =
      let groups = reading.seen.groups in
      let within : q < length groups = subst (λ k. k < length groups) there.2
      (ranking.within there.0 q there.1) in
      rw (← ranking.groups)
      (counted scope.lives groups (rw ranking.lives at ranking.read.order) ranking.few
      (is_in_rank scope best_rank) q places within ranking.within)

  -- A key is a cutoff if fewer than `few` groups reach a greater key, and at least `few` groups
  -- reach the key or the key is 0.
  pub cut_between : (low : ℕ) →
      (low ≡ 0) ⊎ (few ≤ count_reaching (is_in_rank scope best_rank) reading.seen.groups places low) →
      count_reaching (is_in_rank scope best_rank) reading.seen.groups places (low + 1) < few →
      IsCutoff scope best_rank reading places few low
  cut_between low reached above place there ranks =
      let test = is_in_rank scope best_rank in
      let groups = reading.seen.groups in
      let key = size_key groups place in
      rw (larger_are place there) (by_test _ (nat_le low key)
      (λ over. let most = fewer test groups places (low + 1) (key + 1) (omega (arith, le_true _ _ over)) in
      over ∙ sym (true_lt (count_reaching test groups places (key + 1)) few (omega (arith, most, above))))
      (λ under. ⊎_elim
      (λ none. absurd (omega (arith, none, le_false _ _ under)))
      (λ many. let least = fewer test groups places (key + 1) low (omega (arith, le_false _ _ under)) in
      under ∙ sym (false_lt (count_reaching test groups places (key + 1)) few (omega (arith, least, many))))
      reached))

  -- A key that exactly `few` groups reach is a cutoff.
  pub cut_exact : (key : ℕ) →
      count_reaching (is_in_rank scope best_rank) reading.seen.groups places key ≡ few →
      IsCutoff scope best_rank reading places few key
  cut_exact middle exact place there ranks =
      let test = is_in_rank scope best_rank in
      let groups = reading.seen.groups in
      let key = size_key groups place in
      rw (larger_are place there) (by_test _ (nat_le middle key)
      (λ over. let most = fewer test groups places middle key (omega (arith, le_true _ _ over)) in
      let strict = strictly test groups places place there ranks in
      over ∙ sym (true_lt (count_reaching test groups places (key + 1)) few (omega (arith, most, strict, exact))))
      (λ under. let least = fewer test groups places (key + 1) middle (omega (arith, le_false _ _ under)) in
      under ∙ sym (false_lt (count_reaching test groups places (key + 1)) few (omega (arith, least, exact)))))
