-- Proofs that one pass over a list of groups, with the best group up to each point, finds the
-- unbeaten group.
use Rattle.std.proofs.Common.{◌≡◌, zero, suc, List, [], ◌∷◌, refl, sym, ap, ◌∙◌, arith, true, false}
use Rattle.std.proofs.Common.{◌⊎◌, ⊎_elim, inl, inr, subst}
use Rattle.std.specs.Prelude.{All, Bool, Contains, Option, None, Some, filter, find, if◌then◌else◌}
use Rattle.std.specs.Prelude.{not}
use Rattle.std.specs.List.{list_any}
use Rattle.std.proofs.lemmas.Bool.{true≢false, not_from_true, not_from_false}
use Rattle.kill_spec.specs.declared.reading.GroupReading.{GroupReading}
use Rattle.kill_spec.specs.Victims.{unbeaten}

-- ---- members of a list, by recursion

-- the list contains the group
abbrev pub Has : List GroupReading → GroupReading → Type 0
Has [] group = ⊥
Has (first ∷ groups) group = (first ≡ group) ⊎ Has groups group

-- each group of the list satisfies `P`
abbrev pub Each : (GroupReading → Type 0) → List GroupReading → Type 0
Each P [] = Unit {0}
Each P (first ∷ groups) = P first × Each P groups

-- the relation `R` holds between each group and all groups after it in the list
abbrev pub Pairs : (GroupReading → GroupReading → Type 0) → List GroupReading → Type 0
Pairs R [] = Unit {0}
Pairs R (first ∷ groups) = Each (R first) groups × Pairs R groups

pub has_at : (groups : List GroupReading) (group : GroupReading) → Contains groups group →
    Has groups group
has_at [] group (k, less, is) = absurd (omega (arith, less))
has_at (first ∷ groups) group (zero, less, is) = inl is
has_at (first ∷ groups) group (suc k, less, is) =
    inr (has_at groups group (k, omega (arith, less), is))

pub contains_at : (groups : List GroupReading) (group : GroupReading) → Has groups group →
    Contains groups group
contains_at [] group there = absurd there
contains_at (first ∷ groups) group (inl is) = (0, omega arith, is)
contains_at (first ∷ groups) group (inr there) =
    let found = contains_at groups group there in
    (suc found.0, omega (arith, found.1), found.2)

pub each_at : (P : GroupReading → Type 0) (groups : List GroupReading) (group : GroupReading) →
    Each P groups → Has groups group → P group
each_at P [] group each there = absurd there
each_at P (first ∷ groups) group each (inl is) = subst P is each.0
each_at P (first ∷ groups) group each (inr there) = each_at P groups group each.1 there

pub each_map : (P Q : GroupReading → Type 0) (groups : List GroupReading) →
    ((group : GroupReading) → P group → Q group) → Each P groups → Each Q groups
each_map P Q [] f each = tt
each_map P Q (first ∷ groups) f each = (f first each.0, each_map P Q groups f each.1)

pub each_all : (P : GroupReading → Type 0) (groups : List GroupReading) → All P groups →
    Each P groups
each_all P [] all = tt
each_all P (first ∷ groups) all = (
  all 0 first (omega arith),
  each_all P groups (λ k d less. all (suc k) d (omega (arith, less))),
)

-- case distinction on a test: it is true or false
pub by_test : (X : Type 0) (b : Bool) → (b ≡ true → X) → (b ≡ false → X) → X
by_test X true holds fails = holds refl
by_test X false holds fails = fails refl

pub each_filter : (P : GroupReading → Type 0) (p : GroupReading → Bool) (groups : List GroupReading)
    → Each P groups → Each P (filter p groups)
each_filter P p [] each = tt
each_filter P p (first ∷ groups) each = by_test _ (p first)
    (λ holds. rw holds (each.0, each_filter P p groups each.1))
    (λ fails. rw fails (each_filter P p groups each.1))

pub each_passes : (p : GroupReading → Bool) (groups : List GroupReading) →
    Each (λ group. p group ≡ true) (filter p groups)
each_passes p [] = tt
each_passes p (first ∷ groups) = by_test _ (p first)
    (λ holds. rw holds (holds, each_passes p groups))
    (λ fails. rw fails (each_passes p groups))

pub pairs_filter : (R : GroupReading → GroupReading → Type 0) (p : GroupReading → Bool)
    (groups : List GroupReading) → Pairs R groups → Pairs R (filter p groups)
pairs_filter R p [] pairs = tt
pairs_filter R p (first ∷ groups) pairs = by_test _ (p first)
    (λ holds. rw holds (each_filter (R first) p groups pairs.0, pairs_filter R p groups pairs.1))
    (λ fails. rw fails (pairs_filter R p groups pairs.1))

-- ---- tests of list members

pub any_has : (p : GroupReading → Bool) (groups : List GroupReading) (group : GroupReading) →
    Has groups group → p group ≡ true → list_any p groups ≡ true
any_has p [] group there passes = absurd there
any_has p (first ∷ groups) group (inl is) passes = rw (is, passes) refl
any_has p (first ∷ groups) group (inr there) passes =
    by_test _ (p first) (λ holds. rw holds refl)
    (λ fails. rw fails (any_has p groups group there passes))

pub any_none : (p : GroupReading → Bool) (groups : List GroupReading) →
    Each (λ group. p group ≡ false) groups → list_any p groups ≡ false
any_none p [] each = refl
any_none p (first ∷ groups) each = rw each.0 (any_none p groups each.1)

-- if exactly one group of the list passes the test, the search finds it
find_one : (p : GroupReading → Bool) (groups : List GroupReading) (group : GroupReading) →
    Has groups group → p group ≡ true → Each (λ other. p other ≡ true → other ≡ group) groups →
    find p groups ≡ Some group
find_one p [] group there passes each = absurd there
find_one p (first ∷ groups) group there passes each = by_test _ (p first)
    (λ holds. rw holds (ap Some (each.0 holds)))
    (λ fails. rw fails (⊎_elim
    (λ is. absurd (true≢false (sym passes ∙ ap p (sym is) ∙ fails)))
    (λ suffix. find_one p groups group suffix passes each.1)
    there))

-- ---- one pass over the list

-- the better of two groups; `next` is after `best` in the list, and `leads` decides if it is better
abbrev pub better : (GroupReading → GroupReading → Bool) → GroupReading → GroupReading →
    GroupReading
better leads best next = if leads next best then next else best

-- the best group of a list, starting with `best` as the best group up to here
abbrev pub foremost_of : (GroupReading → GroupReading → Bool) → GroupReading → List GroupReading →
    GroupReading
foremost_of leads best [] = best
foremost_of leads best (next ∷ groups) = foremost_of leads (better leads best next) groups

abbrev pub foremost : (GroupReading → GroupReading → Bool) → Option GroupReading →
    List GroupReading → Option GroupReading
foremost leads (Some best) groups = Some (foremost_of leads best groups)
foremost leads None [] = None
foremost leads None (next ∷ groups) = Some (foremost_of leads next groups)

-- `beats` is an order of groups: no two groups beat each other, and beating is transitive. If `x`
-- is before `y` in the list, then `y` beats `x` if it leads, and `x` beats `y` if it doesn't.
pub record Orders (P : GroupReading → Type 0) (R : GroupReading → GroupReading → Type 0)
    (beats leads : GroupReading → GroupReading → Bool) : Type 0 where
  pub one_way : (x y : GroupReading) → beats x y ≡ true → beats y x ≡ false
  pub onward : (x y z : GroupReading) → P x → P y → P z → beats x y ≡ true → beats y z ≡ true →
      beats x z ≡ true
  pub second : (x y : GroupReading) → R x y → leads y x ≡ true → beats y x ≡ true
  pub first : (x y : GroupReading) → R x y → leads y x ≡ false → beats x y ≡ true

-- `group` is `best` or is beaten by `best`
abbrev pub IsBelow : (GroupReading → GroupReading → Bool) → GroupReading → GroupReading → Type 0
IsBelow beats best group = (group ≡ best) ⊎ (beats best group ≡ true)

-- `best` is in the list, and beats each other group of the list
abbrev pub IsBest : (GroupReading → GroupReading → Bool) → List GroupReading → GroupReading → Type 0
IsBest beats groups best = Has groups best × Each (IsBelow beats best) groups

below_again : (P : GroupReading → Type 0) (R : GroupReading → GroupReading → Type 0)
    (beats leads : GroupReading → GroupReading → Bool) → Orders P R beats leads →
    (low middle best : GroupReading) → P low → P middle → P best → beats middle low ≡ true →
    IsBelow beats best middle → IsBelow beats best low
below_again P R beats leads order low middle best p q r over below = inr (⊎_elim
    (λ is. subst (λ x. beats x low ≡ true) is over)
    (λ beaten. order.onward best middle low r q p beaten over)
    below)

next_better : (leads : GroupReading → GroupReading → Bool) (best next : GroupReading) →
    leads next best ≡ true → better leads best next ≡ next
next_better leads best next holds = rw holds refl

best_stays : (leads : GroupReading → GroupReading → Bool) (best next : GroupReading) →
    leads next best ≡ false → better leads best next ≡ best
best_stays leads best next fails = rw fails refl

pub walk_best : (P : GroupReading → Type 0) (R : GroupReading → GroupReading → Type 0)
    (beats leads : GroupReading → GroupReading → Bool) → Orders P R beats leads →
    (best : GroupReading) (groups : List GroupReading) → P best → Each P groups →
    Each (R best) groups → Pairs R groups →
    IsBest beats (best ∷ groups) (foremost_of leads best groups)
walk_best P R beats leads order best [] p each before pairs = (inl refl, (inl refl, tt))
walk_best P R beats leads order best (next ∷ groups) p each before pairs =
    by_test _ (leads next best)
    (λ holds.
    let rest = walk_best P R beats leads order next groups each.0 each.1 pairs.0 pairs.1 in
    let good = each_at P (next ∷ groups) (foremost_of leads next groups) each rest.0 in
    subst (λ b. IsBest beats (best ∷ next ∷ groups) (foremost_of leads b groups))
    (sym (next_better leads best next holds)) (
      inr rest.0,
      (
        below_again P R beats leads order best next _ p each.0 good
            (order.second best next before.0 holds) rest.1.0,
        rest.1,
      ),
    ))
    (λ fails.
    let rest = walk_best P R beats leads order best groups p each.1 before.1 pairs.1 in
    let good = each_at P (best ∷ groups) (foremost_of leads best groups) (p, each.1) rest.0 in
    subst (λ b. IsBest beats (best ∷ next ∷ groups) (foremost_of leads b groups))
    (sym (best_stays leads best next fails)) (
      ⊎_elim (λ is. inl is) (λ there. inr (inr there)) rest.0,
      (
        rest.1.0,
        (
          below_again P R beats leads order next best _ each.0 p good
              (order.first best next before.0 fails) rest.1.0,
          rest.1.1,
        ),
      ),
    ))

-- the best group of a list is the group that the search for an unbeaten group finds
pub best_unbeaten : (beats : GroupReading → GroupReading → Bool) →
    ((x y : GroupReading) → beats x y ≡ true → beats y x ≡ false) →
    (groups : List GroupReading) (best : GroupReading) → IsBest beats groups best →
    unbeaten beats groups ≡ Some best
best_unbeaten beats one_way groups best is = find_one
    (λ group. not (list_any (λ other. beats other group) groups)) groups best is.0
    (not_from_false _ (any_none (λ other. beats other best) groups (each_map _ _ groups
    (λ other below. ⊎_elim
    (λ same. by_test _ (beats other best)
    (λ holds. rw same (rw same at (one_way other best holds)))
    (λ fails. fails))
    (λ beaten. one_way best other beaten)
    below) is.1)))
    (each_map _ _ groups
    (λ other below passes. ⊎_elim
    (λ same. same)
    (λ beaten. absurd (true≢false (sym passes ∙
    not_from_true _ (any_has (λ one. beats one other) groups best is.0 beaten))))
    below) is.1)
