-- Proofs that an action chooses the group that no other group beats.
use Rattle.std.proofs.Common.{◌≡◌, ℕ, ◌<◌, List, [], ◌∷◌, refl, sym, ap, ◌∙◌, arith, true, false}
use Rattle.std.proofs.Common.{◌⊎◌, ⊎_elim, inl, inr, subst}
use Rattle.std.specs.Prelude.{Bool, Option, None, Some, ◌&&◌, ◌||◌, ◌==◌, map, nat_lt}
use Rattle.std.specs.declared.cmp.Ordering.{Ordering}
use Rattle.std.specs.declared.cmp.Ordering.TheVariants.{Less, Equal, Greater}
use Rattle.std.proofs.lemmas.Cmp.{nat_list_cmp_total}
use Rattle.std.proofs.lemmas.Bool.{false≢true}
use Rattle.std.proofs.lemmas.Bool.Decides.{nat_tests}
use Rattle.psi_spec.specs.declared.machine.GroupLife.{GroupLife}
use Rattle.kill_spec.specs.declared.reading.GroupReading.{GroupReading}
use Rattle.kill_spec.specs.Readings.{path_of}
use Rattle.kill_spec.specs.LegalReadings.{Ascend, ComesBefore}
use Rattle.kill_spec.specs.Victims.{beats_by, has_path_before, is_greater_by, is_larger, is_less}
use Rattle.kill_spec.specs.Victims.{memory_in_use, rank_of, unbeaten}
use Rattle.kill_spec.specs.Choices.{BeatsBy, IsChoice, IsGreaterBy, IsUnbeaten, LargestIsChoice}
use Rattle.kill_spec.specs.Choices.{UnbeatenIsChoice}
use Rattle.kill_spec.proofs.Foremost.{Each, IsBelow, IsBest, Orders, Pairs, best_unbeaten, by_test}
use Rattle.kill_spec.proofs.Foremost.{contains_at, each_at, each_map, foremost, foremost_of, has_at}
use Rattle.kill_spec.proofs.Foremost.{walk_best}

-- ---- orders of groups

-- the path of `first` is before the path of `second`
abbrev pub IsBefore : List GroupLife → GroupReading → GroupReading → Type 0
IsBefore lives first second = ComesBefore (path_of lives first) (path_of lives second)

less_is : (o : Ordering) → is_less o ≡ true → o ≡ Less
less_is Less is = refl
less_is Equal is = absurd (false≢true is)
less_is Greater is = absurd (false≢true is)

-- `first` has a greater ranking value than `second`, or the same value and beats it by another
-- relation
abbrev pub by_then : (GroupReading → ℕ) → (GroupReading → GroupReading → Bool) → GroupReading →
    GroupReading → Bool
by_then measure beats first second = nat_lt (measure second) (measure first) ||
    (measure first == measure second && beats first second)

abbrev pub no_lead : GroupReading → GroupReading → Bool
no_lead first second = false

paths_order : (lives : List GroupLife) → Orders (λ group. Unit {0}) (IsBefore lives)
    (has_path_before lives) no_lead
paths_order lives = record {
  one_way = λ x y before.
      rw (nat_list_cmp_total.antisymm (path_of lives y) (path_of lives x), less_is _ before) refl;
  onward = λ x y z p q r first second.
      ap is_less (nat_list_cmp_total.trans (path_of lives x) (path_of lives y) (path_of lives z)
      (less_is _ first) (less_is _ second));
  second = λ x y before leads. absurd (false≢true leads);
  first = λ x y before leads. ap is_less before;
}

pub then_one_way : (a b : ℕ) (f g : Bool) → (f ≡ true → g ≡ false) →
    (nat_lt b a || (a == b && f)) ≡ true → (nat_lt a b || (b == a && g)) ≡ false
then_one_way a b true g other over = rw (other refl) (grind (arith, nat_tests))
then_one_way a b false g other over = grind (arith, nat_tests)

then_onward : (a b c : ℕ) (f g h : Bool) → (f ≡ true → g ≡ true → h ≡ true) →
    (nat_lt b a || (a == b && f)) ≡ true → (nat_lt c b || (b == c && g)) ≡ true →
    (nat_lt c a || (a == c && h)) ≡ true
then_onward a b c true true h other first second = rw (other refl refl) (grind (arith, nat_tests))
then_onward a b c true false h other first second = grind (arith, nat_tests)
then_onward a b c false g h other first second = grind (arith, nat_tests)

pub then_same : (a b : ℕ) (f g : Bool) → (f ≡ true → g ≡ true) →
    (nat_lt b a || (a == b && f)) ≡ true → (nat_lt b a || (a == b && g)) ≡ true
then_same a b true g other over = rw (other refl) (grind (arith, nat_tests))
then_same a b false g other over = grind (arith, nat_tests)

pub then_first : (a b : ℕ) (f g : Bool) → (f ≡ false → g ≡ true) →
    (nat_lt b a || (a == b && f)) ≡ false → (nat_lt a b || (b == a && g)) ≡ true
then_first a b true g other under = grind (arith, nat_tests)
then_first a b false g other under = rw (other refl) (grind (arith, nat_tests))

pub then_order : (P : GroupReading → Type 0) (R : GroupReading → GroupReading → Type 0)
    (beats leads : GroupReading → GroupReading → Bool) (measure : GroupReading → ℕ) →
    Orders P R beats leads → Orders P R (by_then measure beats) (by_then measure leads)
then_order P R beats leads measure order = record {
  one_way = λ x y over. then_one_way (measure x) (measure y) (beats x y) (beats y x)
      (order.one_way x y) over;
  onward = λ x y z p q r first second. then_onward (measure x) (measure y) (measure z) (beats x y)
      (beats y z) (beats x z) (order.onward x y z p q r) first second;
  second = λ x y before leads_it. then_same (measure y) (measure x) (leads y x) (beats y x)
      (order.second x y before) leads_it;
  first = λ x y before trails. then_first (measure y) (measure x) (leads y x) (beats x y)
      (order.first x y before) trails;
}

-- a group that is later in path order beats an earlier group if its ranking value is greater
abbrev pub leads_larger : (GroupReading → ℕ) → GroupReading → GroupReading → Bool
leads_larger measure = by_then measure no_lead

-- a group that is later in path order beats an earlier group if its preference is better, or the
-- preferences are the same and its ranking value is greater
abbrev pub leads_by : (GroupReading → ℕ) → GroupReading → GroupReading → Bool
leads_by measure = by_then rank_of (leads_larger measure)

pub greater_order : (lives : List GroupLife) (measure : GroupReading → ℕ) →
    Orders (λ group. Unit {0}) (IsBefore lives) (is_greater_by lives measure) (leads_larger measure)
greater_order lives measure = then_order _ _ _ _ measure (paths_order lives)

pub beats_order : (lives : List GroupLife) (measure : GroupReading → ℕ) →
    Orders (λ group. Unit {0}) (IsBefore lives) (beats_by lives measure) (leads_by measure)
beats_order lives measure = then_order _ _ _ _ rank_of (greater_order lives measure)

-- ---- groups in the order of their paths

before_all : (lives : List GroupLife) (first : GroupReading) (groups : List GroupReading) →
    Ascend (map (path_of lives) (first ∷ groups)) → Each (IsBefore lives first) groups
before_all lives first [] ascend = tt
before_all lives first (second ∷ groups) ascend = (
  ascend.0,
  each_map (IsBefore lives second) (IsBefore lives first) groups
      (λ other before. nat_list_cmp_total.trans (path_of lives first) (path_of lives second)
      (path_of lives other) ascend.0 before)
      (before_all lives second groups ascend.1),
)

ascend_after : (lives : List GroupLife) (first : GroupReading) (groups : List GroupReading) →
    Ascend (map (path_of lives) (first ∷ groups)) → Ascend (map (path_of lives) groups)
ascend_after lives first [] ascend = tt
ascend_after lives first (second ∷ groups) ascend = ascend.1

pub in_order : (lives : List GroupLife) (groups : List GroupReading) →
    Ascend (map (path_of lives) groups) → Pairs (IsBefore lives) groups
in_order lives [] ascend = tt
in_order lives (first ∷ groups) ascend = (
  before_all lives first groups ascend,
  in_order lives groups (ascend_after lives first groups ascend),
)

-- ---- one pass over the groups finds the choice

pub walk_unbeaten : (P : GroupReading → Type 0) (R : GroupReading → GroupReading → Type 0)
    (beats leads : GroupReading → GroupReading → Bool) → Orders P R beats leads →
    (groups : List GroupReading) → Each P groups → Pairs R groups →
    foremost leads None groups ≡ unbeaten beats groups
walk_unbeaten P R beats leads order [] each pairs = refl
walk_unbeaten P R beats leads order (first ∷ groups) each pairs =
    sym (best_unbeaten beats order.one_way (first ∷ groups) (foremost_of leads first groups)
    (walk_best P R beats leads order first groups each.0 each.1 pairs.0 pairs.1))

pub each_unit : (groups : List GroupReading) → Each (λ group. Unit {0}) groups
each_unit [] = tt
each_unit (first ∷ groups) = (tt, each_unit groups)

pub not_none : (X : Type 0) (group : GroupReading) → Some group ≡ None → X
not_none X group is = absurd (false≢true (ap (λ
    (o : Option GroupReading). elim o as (λ _. Bool) [ None ↦ true | Some x ↦ false ]) is))

pub same_some : (first second : GroupReading) → Some first ≡ Some second → first ≡ second
same_some first second is = ap (λ (o : Option GroupReading). elim o as (λ _. GroupReading)
    [ None ↦ first | Some x ↦ x ]) is

not_empty : (X : Type 0) (first : GroupReading) (groups : List GroupReading) → first ∷ groups ≡ [] →
    X
not_empty X first groups is = absurd (false≢true
    (ap (λ (l : List GroupReading). elim l as (λ _. Bool) [ [] ↦ true | x ∷ xs ↦ false ]) is))

-- if a test decides the relation `Beats`, the best group by the test is the choice by the relation
choice_is : (Beats : GroupReading → GroupReading → Type 0)
    (beats : GroupReading → GroupReading → Bool) →
    ((x y : GroupReading) → beats x y ≡ true → Beats x y) →
    ((x y : GroupReading) → Beats x y → beats x y ≡ true) →
    ((x y : GroupReading) → beats x y ≡ true → beats y x ≡ false) →
    (first : GroupReading) (groups : List GroupReading) (best : GroupReading) →
    IsBest beats (first ∷ groups) best → IsChoice Beats (first ∷ groups) (Some best)
choice_is Beats beats shows known one_way first groups best is = record {
  none = (λ nothing. not_none _ best nothing, λ empty. not_empty _ first groups empty);
  some = λ group. (
    (λ same. subst (IsUnbeaten Beats (first ∷ groups)) (same_some best group same) (record {
      one = contains_at (first ∷ groups) best is.0;
      by_none = λ other there over. ⊎_elim
          (λ itself. false≢true (sym (rw itself at (one_way other best (known other best over))) ∙
          rw itself at (known other best over)))
          (λ beaten. false≢true (sym (one_way best other beaten) ∙ known other best over))
          (each_at (IsBelow beats best) (first ∷ groups) other is.1
          (has_at (first ∷ groups) other there));
    })),
    (λ alone. ⊎_elim
        (λ same. ap Some (sym same))
        (λ beaten. absurd (alone.by_none best (contains_at (first ∷ groups) best is.0)
        (shows best group beaten)))
        (each_at (IsBelow beats best) (first ∷ groups) group is.1
        (has_at (first ∷ groups) group alone.one))),
  );
}

no_choice : (Beats : GroupReading → GroupReading → Type 0) → IsChoice Beats [] None
no_choice Beats = record {
  none = (λ is. refl, λ is. refl);
  some = λ group. (λ is. not_none _ group (sym is), λ alone. absurd (omega (arith, alone.one.1)));
}

unbeaten_choice : (lives : List GroupLife) (Beats : GroupReading → GroupReading → Type 0)
    (beats leads : GroupReading → GroupReading → Bool) →
    Orders (λ group. Unit {0}) (IsBefore lives) beats leads →
    ((x y : GroupReading) → beats x y ≡ true → Beats x y) →
    ((x y : GroupReading) → Beats x y → beats x y ≡ true) →
    (groups : List GroupReading) → Ascend (map (path_of lives) groups) →
    IsChoice Beats groups (unbeaten beats groups)
unbeaten_choice lives Beats beats leads order shows known [] ascend = no_choice Beats
unbeaten_choice lives Beats beats leads order shows known (first ∷ groups) ascend =
    let pairs = in_order lives (first ∷ groups) ascend in
    let best = walk_best (λ group. Unit {0}) (IsBefore lives) beats leads order first groups tt
    (each_unit groups) pairs.0 pairs.1 in
    subst (IsChoice Beats (first ∷ groups)) (sym
    (best_unbeaten beats order.one_way (first ∷ groups) (foremost_of leads first groups) best))
    (choice_is Beats beats shows known order.one_way first groups (foremost_of leads first groups)
    best)

-- ---- the tests decide their relations

pub then_shows : (a b : ℕ) (f : Bool) (F : Type 0) → (f ≡ true → F) →
    (nat_lt b a || (a == b && f)) ≡ true → (b < a) ⊎ ((a ≡ b) × F)
then_shows a b true F shows over = by_test _ (nat_lt b a)
    (λ holds. inl (grind (arith, nat_tests)))
    (λ fails. inr (grind (arith, nat_tests), shows refl))
then_shows a b false F shows over = inl (grind (arith, nat_tests))

pub then_known : (a b : ℕ) (f : Bool) (F : Type 0) → (F → f ≡ true) → (b < a) ⊎ ((a ≡ b) × F) →
    (nat_lt b a || (a == b && f)) ≡ true
then_known a b f F known (inl less) = grind (arith, nat_tests)
then_known a b f F known (inr (same, so)) = rw (known so) (grind (arith, nat_tests))

greater_shows : (lives : List GroupLife) (measure : GroupReading → ℕ) (x y : GroupReading) →
    is_greater_by lives measure x y ≡ true → IsGreaterBy lives measure x y
greater_shows lives measure x y over = then_shows (measure x) (measure y)
    (has_path_before lives x y) (IsBefore lives x y) (λ is. less_is _ is) over

greater_known : (lives : List GroupLife) (measure : GroupReading → ℕ) (x y : GroupReading) →
    IsGreaterBy lives measure x y → is_greater_by lives measure x y ≡ true
greater_known lives measure x y over = then_known (measure x) (measure y) (has_path_before lives x y)
    (IsBefore lives x y) (λ is. ap is_less is) over

pub unbeaten_is_choice : UnbeatenIsChoice
unbeaten_is_choice lives measure groups ascend =
    unbeaten_choice lives (BeatsBy lives measure) (beats_by lives measure) (leads_by measure)
    (beats_order lives measure)
    (λ x y over. then_shows (rank_of x) (rank_of y) (is_greater_by lives measure x y)
    (IsGreaterBy lives measure x y) (greater_shows lives measure x y) over)
    (λ x y over. then_known (rank_of x) (rank_of y) (is_greater_by lives measure x y)
    (IsGreaterBy lives measure x y) (greater_known lives measure x y) over)
    groups ascend

pub largest_is_choice : LargestIsChoice
largest_is_choice lives groups ascend = unbeaten_choice lives (IsGreaterBy lives memory_in_use)
    (is_larger lives) (leads_larger memory_in_use) (greater_order lives memory_in_use)
    (greater_shows lives memory_in_use) (greater_known lives memory_in_use) groups ascend
