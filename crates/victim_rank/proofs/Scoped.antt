-- Proves properties of repeated filters, and of the groups of a scope.
use Rattle.std.proofs.Common.{◌≡◌, ℕ, List, [], ◌∷◌, refl, sym, ap, subst, ◌∙◌, true, false}
use Rattle.std.specs.Prelude.{Bool, Option, None, Some, ◌&&◌, ◌||◌, ◌==◌, filter, nat_lt, map}
use Rattle.std.proofs.lemmas.Bool.{true≢false}
use Rattle.psi_base.specs.declared.event.Slot.{Slot}
use Rattle.psi_spec.specs.declared.machine.GroupLife.{GroupLife}
use Rattle.path_match.specs.Match.{is_match}
use Rattle.ruleset_json.specs.declared.types.Action.{Action}
use Rattle.kill_spec.specs.declared.reading.GroupReading.{GroupReading}
use Rattle.kill_spec.specs.Readings.{Reading, path_of}
use Rattle.kill_spec.specs.LegalReadings.{Ascend}
use Rattle.kill_spec.specs.Victims.{action_patterns, beats_by, memory_in_use, rank_of, unbeaten}
use Rattle.kill_spec.proofs.Foremost.{Each, by_test, foremost, pairs_filter}
use Rattle.kill_spec.proofs.ChoiceLaws.{IsBefore, beats_order, each_unit, in_order, leads_by}
use Rattle.kill_spec.proofs.ChoiceLaws.{leads_larger, walk_unbeaten}
use Rattle.detectors.specs.Inner.{is_child}
use Rattle.victim_rank.specs.Scopes.{ScopeView, among, is_in_rank, is_in_scope, is_in_view}

pub filter_filter : (p q : GroupReading → Bool) (groups : List GroupReading) →
    filter q (filter p groups) ≡ filter (λ group. p group && q group) groups
filter_filter p q [] = refl
filter_filter p q (first ∷ groups) = by_test _ (p first)
    (λ holds. rw holds (by_test _ (q first)
    (λ too. rw too (ap (λ rest. first ∷ rest) (filter_filter p q groups)))
    (λ fails. rw fails (filter_filter p q groups))))
    (λ fails. rw fails (filter_filter p q groups))

and_swap : (a b : Bool) → (a && b) ≡ (b && a)
and_swap true true = refl
and_swap true false = refl
and_swap false true = refl
and_swap false false = refl

pub filter_same : (p q : GroupReading → Bool) (groups : List GroupReading) →
    Each (λ group. p group ≡ q group) groups → filter p groups ≡ filter q groups
filter_same p q [] each = refl
filter_same p q (first ∷ groups) each = rw (each.0, filter_same p q groups each.1) refl

pub each_every : (P : GroupReading → Type 0) (groups : List GroupReading) →
    ((group : GroupReading) → P group) → Each P groups
each_every P [] every = tt
each_every P (first ∷ groups) every = (every first, each_every P groups every)

-- If two lists have the same groups that pass a weaker test, they have the same groups that pass a
-- stronger test.
pub kept_by : (p q : GroupReading → Bool) (found groups : List GroupReading) →
    filter p found ≡ filter p groups →
    filter (λ group. p group && q group) found ≡ filter (λ group. p group && q group) groups
kept_by p q found groups same =
    sym (filter_filter p q found) ∙ ap (filter q) same ∙ filter_filter p q groups

twice : (a b : Bool) → (a && (b && a)) ≡ (b && a)
twice true b = refl
twice false true = refl
twice false false = refl

children_view : (lives : List GroupLife) (act : Action) (above : Slot) (groups : List GroupReading) →
    filter (is_in_scope lives act (Some above)) (filter (is_child lives above.0) groups)
    ≡ filter (is_in_scope lives act (Some above)) groups
children_view lives act above groups =
    filter_filter (is_child lives above.0) (is_in_scope lives act (Some above)) groups
    ∙ filter_same _ _ groups (each_every _ groups
    (λ group. twice (is_child lives above.0 group) group.populated))

-- The children of a group include all groups of the scope of that group's children.
pub below_view : (scope : ScopeView) (above : Slot) (found groups : List GroupReading) →
    scope.above ≡ Some above → found ≡ filter (is_child scope.lives above.0) groups →
    filter (is_in_view scope) found ≡ filter (is_in_view scope) groups
below_view scope above found groups is children =
    let P : Option Slot → Type 0 = λ o.
    filter (is_in_scope scope.lives scope.act o) found ≡ filter (is_in_scope scope.lives scope.act o) groups in
    subst P (sym is) (ap (filter (is_in_scope scope.lives scope.act (Some above))) children
    ∙ children_view scope.lives scope.act above groups)

-- Two lists with the same groups of a scope have the same groups of a rank.
pub same_in_rank : (scope : ScopeView) (best_rank : ℕ) (found groups : List GroupReading) →
    filter (is_in_view scope) found ≡ filter (is_in_view scope) groups →
    filter (is_in_rank scope best_rank) found ≡ filter (is_in_rank scope best_rank) groups
same_in_rank scope best_rank found groups same =
    kept_by (is_in_view scope) (λ group. rank_of group == best_rank) found groups same

-- The groups of a scope are the groups that pass its test.
pub among_is : (lives : List GroupLife) (act : Action) (above : Option Slot) (now : Reading) →
    among lives act above now ≡ filter (is_in_scope lives act above) now.groups
among_is lives act None now =
    filter_filter (λ (group : GroupReading). is_match (action_patterns act) (path_of lives group))
    (λ (group : GroupReading). group.populated) now.groups
    ∙ filter_same _ _ now.groups (each_every _ now.groups
    (λ group. and_swap (is_match (action_patterns act) (path_of lives group)) group.populated))
among_is lives act (Some above) now = refl

-- ---- the walk over groups with their measures

or_false : (a b c : Bool) → c ≡ false → (a || (b && c)) ≡ a
or_false true b false is = refl
or_false false true false is = refl
or_false false false false is = refl
or_false a b true is = absurd (true≢false is)

-- For groups ordered by size, a group beats another group if it is larger.
pub leads_plainly : (next best : GroupReading) →
    leads_larger memory_in_use next best ≡ nat_lt (memory_in_use best) (memory_in_use next)
leads_plainly next best = or_false (nat_lt (memory_in_use best) (memory_in_use next))
    (memory_in_use next == memory_in_use best) false refl

pub leads_same : (measure : GroupReading → ℕ) (next best : GroupReading) →
    leads_by measure next best ≡ (nat_lt (rank_of best) (rank_of next) ||
    (rank_of next == rank_of best && nat_lt (measure best) (measure next)))
leads_same measure next best = ap (λ t. nat_lt (rank_of best) (rank_of next) ||
    (rank_of next == rank_of best && t))
    (or_false (nat_lt (measure best) (measure next)) (measure next == measure best) false refl)

pub walk_filter : (lives : List GroupLife) (measure : GroupReading → ℕ) (p : GroupReading → Bool)
    (groups : List GroupReading) → Ascend (map (path_of lives) groups) →
    foremost (leads_by measure) None (filter p groups) ≡ unbeaten (beats_by lives measure)
    (filter p groups)
walk_filter lives measure p groups ascend = walk_unbeaten (λ group. Unit {0}) (IsBefore lives)
    (beats_by lives measure) (leads_by measure) (beats_order lives measure)
    (filter p groups) (each_unit (filter p groups))
    (pairs_filter (IsBefore lives) p groups (in_order lives groups ascend))

pub foremost_none : (leads : GroupReading → GroupReading → Bool) (best : Option GroupReading) →
    foremost leads best [] ≡ best
foremost_none leads None = refl
foremost_none leads (Some best) = refl

-- After the loop over all groups, no other group beats the best group.
pub walked : (lives : List GroupLife) (act : Action) (above : Option Slot) (now : Reading)
    (measure : GroupReading → ℕ) (q : GroupReading → Bool) →
    Ascend (map (path_of lives) now.groups) →
    (best : Option GroupReading) → foremost (leads_by measure) best [] ≡ foremost (leads_by measure)
    None (filter (λ group. is_in_scope lives act above group && q group) now.groups) →
    best ≡ unbeaten (beats_by lives measure) (filter q (among lives act above now))
walked lives act above now measure q ascend best rest =
    sym (foremost_none (leads_by measure) best) ∙ rest
    ∙ walk_filter lives measure (λ group. is_in_scope lives act above group && q group) now.groups
    ascend
    ∙ ap (unbeaten (beats_by lives measure)) (sym
    (ap (filter q) (among_is lives act above now) ∙
    filter_filter (is_in_scope lives act above) q now.groups))
