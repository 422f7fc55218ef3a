-- The times at which groups were created and removed, and the groups that are live at a time.
use Rattle.std.proofs.Common.{◌≡◌, ℕ, zero, suc, ◌-◌, ◌≤◌, ◌<◌, List, [], ◌∷◌, ◌++◌, refl, sym, ap, ◌∙◌, subst, append_assoc, arith, Bool, true, false, Option, None, Some, length, map, take, ⊎_elim}
use Rattle.std.specs.Prelude.{nat_le, not, ◌&&◌, is_some, slice_get, slice_index_or, IfSome, All, unwrap_or, if◌then◌else◌}
use Rattle.std.specs.Str.{bytes_eq}
use Rattle.std.specs.Option.{option_map}
use Rattle.std.specs.List.Sorted.{IsNonDecreasingBy}
use Rattle.std.proofs.lemmas.Bool.Decides.{nat_tests}
use Rattle.std.proofs.lemmas.List.{append-nil, length-append, length-map, map-append, get_or-map}
use Rattle.std.proofs.lemmas.List.Elements.{All-map, All-push, All-weaker, All-nil, All-cons}
use Rattle.std.proofs.lemmas.List.Sorted.{IsNonDecreasingBy-push, IsNonDecreasingBy-short}
use Rattle.std.proofs.lemmas.Option.{slice_get-map, slice_get_within, unwrap_or-slice_get}
use Rattle.std.proofs.Math.Seq.{take-append_seam}
use Rattle.psi_base.specs.declared.event.Act.{Act}
use Rattle.psi_base.specs.declared.event.Act.TheVariants as act
use Rattle.psi_base.specs.declared.event.Event.{Event}
use Rattle.psi_base.specs.Missing.{is_some_and}
use Rattle.psi_spec.specs.declared.machine.GroupLife.{GroupLife}
use Rattle.psi_spec.specs.World.{World, Limits, root, is_live, new_group, marked_removed, marked_switched, groups_after, after, after_event, after_from, first_world, up_to}
use Rattle.psi_spec.specs.Refusal.{AreLegal}
use Rattle.psi_spec.specs.Stall.{number_of_slot}
use Rattle.psi_spec.specs.Groups.{is_gone_by, is_live_at}
use Rattle.psi_spec.specs.LegalGroups.{is_live_in}
use Rattle.psi_spec.proofs.Following.{after_from-append}
use Rattle.psi_spec.proofs.RefusalLaws.{first_true}
use Rattle.psi_spec.proofs.SwitchLaws.{all_left, switched_leaves}
use Rattle.plan_laws.specs.Moments.{IsLife, AreFirstOf, LivesAreInOrder, LivesShowLive, GroupsKeepSlots}
use Rattle.plan_laws.proofs.PlanLaws.{after-push}
use Rattle.plan_laws.proofs.PlanStates.{legal_after}
use Rattle.plan_laws.proofs.PlanUpTo.{up_to_prefix}
use Rattle.plan_laws.proofs.MomentsEvents.{by_legal, last-push, after_others, come_or_not}

-- ---- what an act does to groups, seen by some part of them

-- Removing a group doesn't change the field `part` of the group.
abbrev Stays : {X : Type 0} → (GroupLife → X) → Type 0
Stays {X} part = (path : List ℕ) (at : ℕ) (life : GroupLife) → part (marked_removed path at life) ≡ part life

stays_all : {X : Type 0} (part : GroupLife → X) → Stays part → (path : List ℕ) (at : ℕ) (groups : List GroupLife) → map part (map (marked_removed path at) groups) ≡ map part groups
stays_all part stays path at [] = refl
stays_all part stays path at (life ∷ groups) =
    let here = stays path at life in
    let rest = stays_all part stays path at groups in
    cc (here, rest)

-- The list `some` is a prefix of the list `all`.
abbrev Prefix : {X : Type 0} → List X → List X → Type 0
Prefix {X} some all = (more : List X) × (all ≡ some ++ more)

prefix_same : {X : Type 0} (some all : List X) → all ≡ some → Prefix some all
prefix_same some all same = ([], same ∙ sym (append-nil some))

-- Switching the accounting of a group doesn't change the field `part` of the group.
abbrev Unswitched : {X : Type 0} → (GroupLife → X) → Type 0
Unswitched {X} part = (life : GroupLife) (on : Bool) → part (record life { on = on }) ≡ part life

-- An act doesn't change the field `part` of existing groups.
prefix_act : {X : Type 0} (part : GroupLife → X) → Stays part → Unswitched part → (at : ℕ) (groups : List GroupLife) (a : Act) → Prefix (map part groups) (map part (groups_after at groups a))
prefix_act part stays left at groups (act.Group path) = (part (new_group groups path at) ∷ [], map-append part groups (new_group groups path at ∷ []))
prefix_act part stays left at groups (act.Remove path) = prefix_same _ _ (stays_all part stays path at groups)
prefix_act part stays left at groups (act.Pressure path on) = prefix_same _ _ (all_left part left path on groups)
prefix_act part stays left at groups _ = prefix_same _ _ refl

prefix_more : {X : Type 0} (few some all : List X) → Prefix few some → Prefix some all → Prefix few all
prefix_more few some all first later = (first.0 ++ later.0, later.1 ∙ ap (λ xs. xs ++ later.0) first.1 ∙ append_assoc few first.0 later.0)

-- Events don't change the field `part` of existing groups.
prefix_from : {X : Type 0} (part : GroupLife → X) → Stays part → Unswitched part → (w : World) (events : List Event) → Prefix (map part w.groups) (map part (after_from w events).groups)
prefix_from part stays left w [] = prefix_same _ _ refl
prefix_from part stays left w (event ∷ events) = prefix_more _ _ _ (prefix_act part stays left event.at w.groups event.act) (prefix_from part stays left (after_event w event) events)

-- ---- a group that may be removed

-- `P` holds for a group that may have been removed if it holds for the unchanged group and for the
-- removed group.
pub without_is : (P : GroupLife → Type 0) (path : List ℕ) (at : ℕ) (life : GroupLife) → P life → P (record life { gone = Some at }) → P (marked_removed path at life)
without_is P path at life same ended = elim (is_live life && bytes_eq life.path path) as (λ b. P (if b then record life { gone = Some at } else life)) [ true ↦ ended | false ↦ same ]

path_stays : Stays (λ (life : GroupLife). life.path)
path_stays path at life = without_is (λ l. l.path ≡ life.path) path at life refl refl

parent_stays : Stays (λ (life : GroupLife). number_of_slot life.parent)
parent_stays path at life = without_is (λ l. number_of_slot l.parent ≡ number_of_slot life.parent) path at life refl refl

made_stays : Stays (λ (life : GroupLife). life.made)
made_stays path at life = without_is (λ l. l.made ≡ life.made) path at life refl refl

-- ---- the groups created up to a time are a prefix

-- If the fields of some groups are a prefix of the fields of all groups, they are the first of
-- these fields.
first_parts : {X : Type 0} (part : GroupLife → X) (some all : List GroupLife) → Prefix (map part some) (map part all) → map part some ≡ take (length some) (map part all)
first_parts part some all prefix =
    sym (take-append_seam (map part some) prefix.0) ∙ ap (λ n. take n (map part some ++ prefix.0)) (length-map some part) ∙ ap (take (length some)) (sym prefix.1)

no_fewer : {X : Type 0} (part : GroupLife → X) (some all : List GroupLife) → Prefix (map part some) (map part all) → length some ≤ length all
no_fewer part some all prefix =
    let each = sym (length-map all part) ∙ ap length prefix.1 ∙ length-append (map part some) prefix.0 in
    let same = length-map some part in
    omega (arith, each, same)

pub groups_keep_slots : GroupsKeepSlots
groups_keep_slots limits events legal at =
    let some : List GroupLife = (after (up_to events at)).groups in
    let parts = up_to_prefix limits first_world events at legal in
    let whole : (after_from (after (up_to events at)) parts.0).groups ≡ (after events).groups = ap (λ (w : World). w.groups) (sym (after_from-append first_world (up_to events at) parts.0) ∙ ap after (sym parts.1)) in
    subst (λ all. AreFirstOf all some) whole (record {
      few = no_fewer (λ (life : GroupLife). life.path) some _ (prefix_from (λ (life : GroupLife). life.path) path_stays (λ _ _. refl) (after (up_to events at)) parts.0);
      paths = first_parts (λ (life : GroupLife). life.path) some _ (prefix_from (λ (life : GroupLife). life.path) path_stays (λ _ _. refl) (after (up_to events at)) parts.0);
      parents = first_parts (λ (life : GroupLife). number_of_slot life.parent) some _ (prefix_from (λ (life : GroupLife). number_of_slot life.parent) parent_stays (λ _ _. refl) (after (up_to events at)) parts.0);
      made = first_parts (λ (life : GroupLife). life.made) some _ (prefix_from (λ (life : GroupLife). life.made) made_stays (λ _ _. refl) (after (up_to events at)) parts.0);
    })

-- ---- groups up to the last time

gone_later : (made last at : ℕ) → last ≤ at → (o : Option ℕ) → IfSome o (λ gone. (made ≤ gone) × (gone ≤ last)) → IfSome o (λ gone. (made ≤ gone) × (gone ≤ at))
gone_later made last at low None is = tt
gone_later made last at low (Some gone) is = (is.0, omega (arith, is.1, low))

life_later : (last at : ℕ) → last ≤ at → (life : GroupLife) → IsLife last life → IsLife at life
life_later last at low life is = record { made = omega (arith, is.made, low); gone = gone_later life.made last at low life.gone is.gone }

life_without : (last at : ℕ) → last ≤ at → (path : List ℕ) (life : GroupLife) → IsLife last life → IsLife at (marked_removed path at life)
life_without last at low path life is =
    let made : life.made ≤ at = omega (arith, is.made, low) in
    without_is (IsLife at) path at life (life_later last at low life is) (record { made = made; gone = (made, omega arith) })

-- The groups are in the order of creation, and were created and removed at or before time `last`.
pub record InTurn (last : ℕ) (groups : List GroupLife) : Type 0 where
  pub order : IsNonDecreasingBy (λ (life : GroupLife). life.made) groups
  pub each : All (IsLife last) groups

turn_later : (last at : ℕ) → last ≤ at → (groups : List GroupLife) → InTurn last groups → InTurn at groups
turn_later last at low groups are = record { order = are.order; each = All-weaker (IsLife last) (IsLife at) (life_later last at low) groups are.each }

turn_following : (last at : ℕ) → last ≤ at → (groups : List GroupLife) (life : GroupLife) → life.made ≡ at → life.gone ≡ None → InTurn last groups → InTurn at (groups ++ life ∷ [])
turn_following last at low groups life made live are = record {
  order = IsNonDecreasingBy-push (λ (l : GroupLife). l.made) groups life are.order (λ d some. let other = (are.each (length groups - 1) d (omega (arith, some))).made in omega (arith, other, low, made));
  each = All-push (IsLife at) groups life (turn_later last at low groups are).each (record { made = omega (arith, made); gone = subst (λ o. IfSome o (λ gone. (life.made ≤ gone) × (gone ≤ at))) (sym live) tt });
}

turn_without : (last at : ℕ) → last ≤ at → (path : List ℕ) (groups : List GroupLife) → InTurn last groups → InTurn at (map (marked_removed path at) groups)
turn_without last at low path groups are =
    let len = length-map groups (marked_removed path at) in
    let made : (i : ℕ) (d : GroupLife) → i < length groups → (slice_index_or (map (marked_removed path at) groups) i d).made ≡ (slice_index_or groups i d).made = λ i d room.
    ap (λ (l : GroupLife). l.made) (get_or-map (marked_removed path at) groups i d d room) ∙ made_stays path at (slice_index_or groups i d) in
    record {
      order = λ i j d low high.
          let there : j < length groups = omega (arith, high, len) in
          let first = made i d (omega (arith, low, there)) in
          let second = made j d there in
          let are_so = are.order i j d low there in
          omega (arith, first, second, are_so);
      each = All-map (IsLife at) (marked_removed path at) groups (All-weaker (IsLife last) (λ life. IsLife at (marked_removed path at life)) (life_without last at low path) groups are.each);
    }

-- `P` holds for a group whose accounting may have been switched if it holds for the unchanged group
-- and for the switched group.
pub switched_is : (P : GroupLife → Type 0) (path : List ℕ) (on : Bool) (life : GroupLife) → P life → P (record life { on = on }) → P (marked_switched path on life)
switched_is P path on life same other = elim (is_live life && bytes_eq life.path path) as (λ b. P (if b then record life { on = on } else life)) [ true ↦ other | false ↦ same ]

life_switched : (last at : ℕ) → last ≤ at → (path : List ℕ) (on : Bool) (life : GroupLife) → IsLife last life → IsLife at (marked_switched path on life)
life_switched last at low path on life is =
    let later = life_later last at low life is in
    switched_is (IsLife at) path on life later (record { made = later.made; gone = later.gone })

turn_switched : (last at : ℕ) → last ≤ at → (path : List ℕ) (on : Bool) (groups : List GroupLife) → InTurn last groups → InTurn at (map (marked_switched path on) groups)
turn_switched last at low path on groups are =
    let len = length-map groups (marked_switched path on) in
    let made : (i : ℕ) (d : GroupLife) → i < length groups → (slice_index_or (map (marked_switched path on) groups) i d).made ≡ (slice_index_or groups i d).made = λ i d room.
    ap (λ (l : GroupLife). l.made) (get_or-map (marked_switched path on) groups i d d room) ∙ switched_leaves (λ (l : GroupLife). l.made) (λ _ _. refl) path on (slice_index_or groups i d) in
    record {
      order = λ i j d low high.
          let there : j < length groups = omega (arith, high, len) in
          let first = made i d (omega (arith, low, there)) in
          let second = made j d there in
          let are_so = are.order i j d low there in
          omega (arith, first, second, are_so);
      each = All-map (IsLife at) (marked_switched path on) groups (All-weaker (IsLife last) (λ life. IsLife at (marked_switched path on life)) (life_switched last at low path on) groups are.each);
    }

turn_act : (last at : ℕ) → last ≤ at → (groups : List GroupLife) → InTurn last groups → (a : Act) → InTurn at (groups_after at groups a)
turn_act last at low groups are (act.Group path) = turn_following last at low groups (new_group groups path at) refl refl are
turn_act last at low groups are (act.Remove path) = turn_without last at low path groups are
turn_act last at low groups are (act.Pressure path on) = turn_switched last at low path on groups are
turn_act last at low groups are _ = turn_later last at low groups are

turn_first : InTurn 0 (root ∷ [])
turn_first = record {
  order = IsNonDecreasingBy-short (λ (life : GroupLife). life.made) (root ∷ []) (omega arith);
  each = All-cons (IsLife 0) root [] (record { made = omega arith; gone = tt }) (All-nil (IsLife 0));
}

-- The groups after legal events satisfy `InTurn`.
pub turn_after : (limits : Limits) (events : List Event) → AreLegal limits first_world events → InTurn (after events).last (after events).groups
turn_after limits events legal = by_legal limits (λ es. InTurn (after es).last (after es).groups) turn_first
    (λ es event turn before. subst (λ (w : World). InTurn w.last w.groups) (sym (after-push es event)) (turn_act (after es).last event.at (after_others limits es event turn) (after es).groups before event.act))
    events legal

first_is : (groups : List GroupLife) → take 1 groups ≡ root ∷ [] → slice_get groups 0 ≡ Some root
first_is [] is = absurd (cc is)
first_is (life ∷ groups) is = let same : life ≡ root = cc is in ap Some same

pub lives_are_in_order : LivesAreInOrder
lives_are_in_order limits events legal =
    let turn = turn_after limits events legal in
    record { rooted = first_is (after events).groups (legal_after limits events legal).groups.rooted; order = turn.order; each = turn.each }

-- ---- which are live

-- The Boolean comparison of two times is true if the relation holds.
come : (at moment : ℕ) → moment ≤ at → nat_le moment at ≡ true
come at moment low = grind (arith, nat_tests)

to_come : (at moment : ℕ) → at < moment → nat_le moment at ≡ false
to_come at moment past = grind (arith, nat_tests)

gone_now : (made last at : ℕ) → last ≤ at → (o : Option ℕ) → IfSome o (λ gone. (made ≤ gone) × (gone ≤ last)) → not (is_some o) ≡ not (is_gone_by o at)
gone_now made last at low None is = refl
gone_now made last at low (Some gone) is = ap not (sym (come at gone (omega (arith, is.1, low))))

-- A group that wasn't removed is live at any time at or after the last event.
live_now : (last at : ℕ) → last ≤ at → (life : GroupLife) → IsLife last life → is_live life ≡ is_live_at life at
live_now last at low life is = gone_now life.made last at low life.gone is.gone ∙ ap (λ b. b && not (is_gone_by life.gone at)) (sym (come at life.made (omega (arith, is.made, low))))

-- A property of every group holds for the group in a slot.
each_got : (P : GroupLife → Type 0) (groups : List GroupLife) → All P groups → (slot : ℕ) (life : GroupLife) → slice_get groups slot ≡ Some life → P life
each_got P groups each slot life is = subst P (sym (unwrap_or-slice_get groups slot life) ∙ ap (λ o. unwrap_or o life) is) (each slot life (slice_get_within groups slot life is))

live_in_now : (last at : ℕ) → last ≤ at → (groups : List GroupLife) → All (IsLife last) groups → (slot : ℕ) (o : Option GroupLife) → slice_get groups slot ≡ o → is_some_and o is_live ≡ is_some_and o (λ life. is_live_at life at)
live_in_now last at low groups each slot None is = refl
live_in_now last at low groups each slot (Some life) is = live_now last at low life (each_got (IsLife last) groups each slot life is)

-- A group that is created after a time isn't live at that time.
after_not_yet : (at : ℕ) (groups : List GroupLife) (life : GroupLife) (slot : ℕ) → is_live_at life at ≡ false → is_some_and (slice_get (groups ++ life ∷ []) slot) (λ l. is_live_at l at) ≡ is_some_and (slice_get groups slot) (λ l. is_live_at l at)
after_not_yet at [] life zero off = off
after_not_yet at [] life (suc slot) off = refl
after_not_yet at (first ∷ groups) life zero off = refl
after_not_yet at (first ∷ groups) life (suc slot) off = after_not_yet at groups life slot off

-- Whether a group is removed by time `at` doesn't depend on a removal at a later time `moment`.
still_there : (at moment : ℕ) → at < moment → (o : Option ℕ) → not (is_some o) ≡ true → not (nat_le moment at) ≡ not (is_gone_by o at)
still_there at moment past None live = ap not (to_come at moment past)
still_there at moment past (Some gone) live = absurd (cc live)

removed_not_yet : (at moment : ℕ) → at < moment → (path : List ℕ) (life : GroupLife) → is_live_at (marked_removed path moment life) at ≡ is_live_at life at
removed_not_yet at moment past path life =
    elim (is_live life && bytes_eq life.path path) as (λ b. (is_live life && bytes_eq life.path path) ≡ b → is_live_at (if b then record life { gone = Some moment } else life) at ≡ is_live_at life at) [
      | true ↦ λ it. ap (λ b. nat_le life.made at && b) (still_there at moment past life.gone (first_true (is_live life) (bytes_eq life.path path) it))
      | false ↦ λ _. refl
    ] refl

removed_or_none : (at moment : ℕ) → at < moment → (path : List ℕ) (o : Option GroupLife) → is_some_and (option_map (marked_removed path moment) o) (λ l. is_live_at l at) ≡ is_some_and o (λ l. is_live_at l at)
removed_or_none at moment past path None = refl
removed_or_none at moment past path (Some life) = removed_not_yet at moment past path life

-- switching accounting doesn't change which groups are live
switched_or_none : (at : ℕ) (path : List ℕ) (on : Bool) (o : Option GroupLife) → is_some_and (option_map (marked_switched path on) o) (λ l. is_live_at l at) ≡ is_some_and o (λ l. is_live_at l at)
switched_or_none at path on None = refl
switched_or_none at path on (Some life) = switched_leaves (λ l. is_live_at l at) (λ _ _. refl) path on life

-- An act doesn't change which groups were live before the act.
live_before : (at moment : ℕ) → at < moment → (groups : List GroupLife) (slot : ℕ) (a : Act) → is_some_and (slice_get (groups_after moment groups a) slot) (λ l. is_live_at l at) ≡ is_some_and (slice_get groups slot) (λ l. is_live_at l at)
live_before at moment past groups slot (act.Group path) = after_not_yet at groups (new_group groups path moment) slot (ap (λ b. b && not (is_gone_by None at)) (to_come at moment past))
live_before at moment past groups slot (act.Remove path) = ap (λ o. is_some_and o (λ l. is_live_at l at)) (slice_get-map (marked_removed path moment) groups slot) ∙ removed_or_none at moment past path (slice_get groups slot)
live_before at moment past groups slot (act.Pressure path on) = ap (λ o. is_some_and o (λ l. is_live_at l at)) (slice_get-map (marked_switched path on) groups slot) ∙ switched_or_none at path on (slice_get groups slot)
live_before at moment past groups slot _ = refl

-- The groups after all events determine which slots are live at a time.
abbrev ShowsLive : List Event → Type 0
ShowsLive events = (at slot : ℕ) → is_live_in (after (up_to events at)).groups slot ≡ is_some_and (slice_get (after events).groups slot) (λ life. is_live_at life at)

shows-push : (limits : Limits) (events : List Event) (event : Event) → AreLegal limits first_world (events ++ event ∷ []) → ShowsLive events → ShowsLive (events ++ event ∷ [])
shows-push limits events event legal before at slot =
    ⊎_elim
    (λ come.
    let all : List GroupLife = (after (events ++ event ∷ [])).groups in
    let turn = turn_after limits (events ++ event ∷ []) legal in
    ap (λ es. is_live_in (after es).groups slot) come.all
    ∙ live_in_now (after (events ++ event ∷ [])).last at (omega (arith, come.early, last-push events event)) all turn.each slot (slice_get all slot) refl)
    (λ not.
    ap (λ es. is_live_in (after es).groups slot) not.others
    ∙ before at slot
    ∙ sym (live_before at event.at not.late (after events).groups slot event.act)
    ∙ ap (λ (w : World). is_some_and (slice_get w.groups slot) (λ life. is_live_at life at)) (sym (after-push events event)))
    (come_or_not limits events event legal at)

pub lives_show_live : LivesShowLive
lives_show_live limits events legal = by_legal limits ShowsLive
    (λ at slot. live_in_now 0 at (omega arith) (root ∷ []) turn_first.each slot (slice_get (root ∷ []) slot) refl)
    (shows-push limits) events legal
