-- Proofs that victims are populated and match, and that the descent through children ends.
use Rattle.std.proofs.Common.{◌≡◌, ℕ, zero, suc, ◌+◌, ◌<◌, ◌≤◌, List, [], ◌∷◌, length, refl, sym}
use Rattle.std.proofs.Common.{ap, ◌∙◌, arith, true, ◌⊎◌, ⊎_elim, inl, inr, subst}
use Rattle.std.specs.Prelude.{Bool, Option, None, Some, filter, find, option_map, slice_index_or}
use Rattle.std.proofs.lemmas.Bool.{false≢true, true≢false, and_parts}
use Rattle.std.proofs.lemmas.Bool.Decides.{nat_tests}
use Rattle.std.proofs.lemmas.List.Elements.{All-contains}
use Rattle.psi_spec.specs.declared.machine.GroupLife.{GroupLife}
use Rattle.psi_spec.specs.Stall.{parents_of}
use Rattle.psi_spec.specs.LegalGroups.{AreOlder}
use Rattle.path_match.specs.Match.{Pattern, is_match}
use Rattle.ruleset_json.specs.declared.types.Action.{Action}
use Rattle.ruleset_json.specs.declared.types.Action.TheVariants as action
use Rattle.kill_spec.specs.declared.reading.GroupReading.{GroupReading}
use Rattle.kill_spec.specs.Readings.{Reading, path_of}
use Rattle.kill_spec.specs.LegalReadings.{IsGroupReading, IsReading}
use Rattle.kill_spec.specs.Detectors.{matches}
use Rattle.kill_spec.specs.Victims.{◌or_else◌, after_of}
use Rattle.kill_spec.specs.Laws.{DescentEnds, IsPopulatedIn, VictimsMatch}
use Rattle.kill_spec.specs.Victims.{best_of, candidates, children, choice, descended}
use Rattle.kill_spec.specs.Victims.{growing_choice, is_growing, large_choice, largest, names_slot}
use Rattle.kill_spec.specs.Victims.{action_patterns, largest_few, unbeaten, victim}
use Rattle.kill_spec.proofs.Foremost.{Has, by_test, contains_at}
use Rattle.kill_spec.proofs.ChoiceLaws.{not_none, same_some}

-- ---- the chosen group is one of the groups

found_has : (p : GroupReading → Bool) (groups : List GroupReading) (group : GroupReading) →
    find p groups ≡ Some group → Has groups group
found_has p [] group is = not_none _ group (sym is)
found_has p (first ∷ groups) group is = by_test _ (p first)
    (λ holds. inl (same_some first group (rw holds at is)))
    (λ fails. inr (found_has p groups group (rw fails at is)))

pub filter_has : (p : GroupReading → Bool) (groups : List GroupReading) (group : GroupReading) →
    Has (filter p groups) group → Has groups group × (p group ≡ true)
filter_has p [] group there = absurd there
filter_has p (first ∷ groups) group there = by_test _ (p first)
    (λ holds. ⊎_elim
    (λ is. (inl is, subst (λ x. p x ≡ true) is holds))
    (λ suffix. let rest = filter_has p groups group suffix in (inr rest.0, rest.1))
    (rw holds at there))
    (λ fails. let rest = filter_has p groups group (rw fails at there) in (inr rest.0, rest.1))

unbeaten_has : (beats : GroupReading → GroupReading → Bool) (p : GroupReading → Bool)
    (groups : List GroupReading) (group : GroupReading) →
    unbeaten beats (filter p groups) ≡ Some group → Has groups group
unbeaten_has beats p groups group is = (filter_has p groups group
    (found_has _ (filter p groups) group is)).0

else_has : (first second : Option GroupReading) (group : GroupReading) →
    first or_else second ≡ Some group → (first ≡ Some group) ⊎ (second ≡ Some group)
else_has None second group is = inr is
else_has (Some other) second group is = inl is

best_has : (groups : List GroupReading) (group : GroupReading) → Has (best_of groups) group →
    Has groups group
best_has groups group there = (filter_has _ groups group there).0

large_has : (lives : List GroupLife) (size_threshold : ℕ) (groups : List GroupReading)
    (group : GroupReading) → large_choice lives size_threshold groups ≡ Some group →
    Has groups group
large_has lives size_threshold groups group is =
    best_has groups group (unbeaten_has _ _ (best_of groups) group is)

growing_has : (lives : List GroupLife) (percentile ratio : ℕ) (past : List Reading)
    (groups : List GroupReading) (group : GroupReading) →
    growing_choice lives percentile ratio past groups ≡ Some group → Has groups group
growing_has lives percentile ratio past groups group is = best_has groups group
    (filter_has _ (best_of groups) group (unbeaten_has _ (is_growing ratio past)
    (largest_few lives _ (best_of groups)) group is)).0

largest_has : (lives : List GroupLife) (groups : List GroupReading) (group : GroupReading) →
    largest lives (best_of groups) ≡ Some group → Has groups group
largest_has lives groups group is = best_has groups group (found_has _ (best_of groups) group is)

pub choice_has : (lives : List GroupLife) (act : Action) (now : Reading) (past : List Reading)
    (groups : List GroupReading) (group : GroupReading) →
    choice lives act now past groups ≡ Some group → Has groups group
unfolding choice
choice_has lives (action.SizeOrGrowth cgroup size_threshold percentile ratio after) now past groups
    group is = ⊎_elim
    (λ large. large_has lives size_threshold groups group large)
    (λ other. ⊎_elim
    (λ growing. growing_has lives percentile ratio past groups group growing)
    (λ last. largest_has lives groups group last)
    (else_has (growing_choice lives percentile ratio past groups) _ group other))
    (else_has (large_choice lives size_threshold groups) _ group is)
choice_has lives (action.SwapUsage cgroup threshold after) now past groups group is =
    unbeaten_has _ _ groups group is
choice_has lives (action.Pressure cgroup resource after) now past groups group is =
    unbeaten_has _ _ groups group is
choice_has lives (action.PgScan cgroup after) now past groups group is =
    unbeaten_has _ _ groups group is

-- ---- victims

candidate_is : (lives : List GroupLife) (patterns : List Pattern) (now : Reading)
    (group : GroupReading) → Has (candidates lives patterns now) group →
    IsPopulatedIn now group × (is_match patterns (path_of lives group) ≡ true)
candidate_is lives patterns now group there =
    let matching = filter_has (λ (group : GroupReading). group.populated)
    (matches lives patterns now) group there in
    let live = filter_has (λ (group : GroupReading). is_match patterns (path_of lives group))
    now.groups group matching.0 in
    ((contains_at now.groups group live.0, matching.1), live.1)

child_is : (lives : List GroupLife) (slot : ℕ) (now : Reading) (group : GroupReading) →
    Has (children lives slot now) group →
    IsPopulatedIn now group × (names_slot slot (slice_index_or (parents_of lives) group.slot.0 None) ≡
    true)
child_is lives slot now group there =
    let live = filter_has _ now.groups group there in
    let both = and_parts group.populated (names_slot slot
    (slice_index_or (parents_of lives) group.slot.0 None)) live.1 in
    ((contains_at now.groups group live.0, both.0), both.1)

by_option : (X : Type 0) (o : Option GroupReading) → (o ≡ None → X) →
    ((group : GroupReading) → o ≡ Some group → X) → X
by_option X None none some = none refl
by_option X (Some group) none some = some group refl

descent_populated : (lives : List GroupLife) (act : Action) (now : Reading) (past : List Reading)
    (n : ℕ) (group : GroupReading) → IsPopulatedIn now group →
    IsPopulatedIn now (descended lives act now past n group)
descent_populated lives act now past zero group is = is
descent_populated lives act now past (suc n) group is =
    by_option _ (choice lives act now past (children lives group.slot.0 now))
    (λ none. rw none is)
    (λ child some. rw some
    (descent_populated lives act now past n child
    (child_is lives group.slot.0 now child
    (choice_has lives act now past (children lives group.slot.0 now) child some)).0))

mapped_some : (f : GroupReading → GroupReading) (P : GroupReading → Type 0)
    (o : Option GroupReading) (group : GroupReading) → option_map f o ≡ Some group →
    ((first : GroupReading) → o ≡ Some first → P (f first)) → P group
mapped_some f P None group is each = not_none _ group (sym is)
mapped_some f P (Some first) group is each = subst P (same_some (f first) group is)
    (each first refl)

pub victims_match : VictimsMatch
unfolding victim
victims_match lives act now past group is = by_test _ (after_of act).recursive
    (λ holds. (
      mapped_some (descended lives act now past (length lives)) (IsPopulatedIn now)
          (choice lives act now past (candidates lives (action_patterns act) now)) group
          (rw holds at is)
          (λ first some. descent_populated lives act now past (length lives) first
          (candidate_is lives (action_patterns act) now first
          (choice_has lives act now past (candidates lives (action_patterns act) now) first
          some)).0),
      λ alone. absurd (true≢false (sym holds ∙ alone)),
    ))
    (λ fails.
    let candidate = candidate_is lives (action_patterns act) now group
    (choice_has lives act now past (candidates lives (action_patterns act) now) group
    (rw fails at is)) in
    (candidate.0, λ alone. candidate.1))

-- ---- the descent through children

parent_is : (slot : ℕ) (parent : Option ℕ) → names_slot slot parent ≡ true → parent ≡ Some slot
parent_is slot None is = absurd (false≢true is)
parent_is slot (Some other) is = ap Some (grind (arith, nat_tests))

-- a chosen child has a greater slot than its parent, and its slot exists
child_within : (lives : List GroupLife) (act : Action) (now : Reading) (past : List Reading) →
    AreOlder (parents_of lives) → IsReading lives now →
    (group child : GroupReading) → choice lives act now past (children lives group.slot.0 now) ≡
    Some child → (group.slot.0 < child.slot.0) × (child.slot.0 < length lives)
child_within lives act now past older reading group child some =
    let is = child_is lives group.slot.0 now child
    (choice_has lives act now past (children lives group.slot.0 now) child some) in (
      older child.slot.0 group.slot.0 (parent_is group.slot.0 _ is.1),
      (All-contains (IsGroupReading (length lives)) now.groups child reading.each is.0.0).slot,
    )

enough : (lives : List GroupLife) (act : Action) (now : Reading) (past : List Reading) →
    AreOlder (parents_of lives) → IsReading lives now →
    (n m : ℕ) (group : GroupReading) → length lives ≤ n + suc group.slot.0 →
    length lives ≤ m + suc group.slot.0 → descended lives act now past n group ≡ descended lives
    act now past m group
enough lives act now past older reading zero zero group at_n at_m = refl
enough lives act now past older reading zero (suc m) group at_n at_m =
    by_option _ (choice lives act now past (children lives group.slot.0 now))
    (λ none. rw none refl)
    (λ child some. let within = child_within lives act now past older reading group child some in
    absurd (omega (arith, at_n, within.0, within.1)))
enough lives act now past older reading (suc n) zero group at_n at_m =
    by_option _ (choice lives act now past (children lives group.slot.0 now))
    (λ none. rw none refl)
    (λ child some. let within = child_within lives act now past older reading group child some in
    absurd (omega (arith, at_m, within.0, within.1)))
enough lives act now past older reading (suc n) (suc m) group at_n at_m =
    by_option _ (choice lives act now past (children lives group.slot.0 now))
    (λ none. rw none refl)
    (λ child some.
    let within = child_within lives act now past older reading group child some in
    rw some (enough lives act now past older reading n m child (omega (arith, at_n, within.0))
    (omega (arith, at_m, within.0))))

pub descent_ends : DescentEnds
descent_ends lives act now past more group older reading =
    enough lives act now past older reading (length lives + more) (length lives) group (omega arith)
    (omega arith)
