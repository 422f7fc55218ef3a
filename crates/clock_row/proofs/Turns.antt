-- Proves that a row's words stay correct while the slots of a change are updated.
use Rattle.std.proofs.Common.{◌≡◌, ◌≢◌, ℕ, zero, suc, ◌+◌, ◌*◌, ◌^◌, ◌<◌, ◌≤◌, ◌⊎◌, ◌||◌, eqb, Bool, true, false, List, [], ◌∷◌, length, refl, sym, ap, ◌∙◌, subst, inl, inr, ⊎_elim, arith}
use Rattle.std.specs.Prelude.{IfSome, None, Option, Some, slice_get, slice_index_or}
use Rattle.std.specs.Option.{option_or}
use Rattle.std.specs.List.{All}
use mathlib.Core.Logic.{dite}
use native.Mathlib.Decide.{ℕ_discrete}
use Rattle.std.proofs.lemmas.Bool.{eqb-true}
use Rattle.std.proofs.lemmas.Option.{slice_get-get_or}
use Rattle.atomic_table.specs.Seated.{TableId}
use Rattle.psi_base.specs.declared.event.Slot.{Slot}
use Rattle.psi_spec.specs.LegalGroups.{AreOlder, leads_to}
use Rattle.psi_spec.specs.Stall.{number_of_slot}
use Rattle.psi_spec.proofs.GroupLaws.{by_step}
use Rattle.psi_counts.specs.declared.changes.Change.{Change}
use Rattle.psi_counts.specs.Clock.{ClockView, words_of}
use Rattle.psi_counts.specs.Counts.{mask_holds}
use Rattle.plan_laws.specs.Plan.{IsClock, IsPlan, PlanView, current_after}
use Rattle.plan_laws.proofs.PlanClocks.{kept_is_clock}
use Rattle.plan_laws.proofs.PlanSteps.{aside_stays}
use Rattle.proc_plan.specs.Plans.{AreConcerned, IsOnNone, OthersAreAside}
use Rattle.proc_plan.proofs.ClockSteps.{current_below}
use Rattle.clock_row.specs.Words.{AreClock, AreClockWords, AreOnTheWay, ArePut, GoesOn, StayByMask, StaysOrTurns, mask_at, words_at}
use Rattle.clock_row.specs.Seats.{HasStored, IsSameSeat, IsWriter, RowSeat, as_writer, with_body, writer_on}
use Rattle.clock_row.specs.Turning.{AreBelow, ChainIsDone, ChainsAreDone, HasTurned, IsDone, IsTurning}
use Rattle.clock_row.specs.Ends.{IsWriterEnd}
use Rattle.clock_row.specs.Steps.{change_opened}
use Rattle.proc_plan.specs.Clocks.{OnPlan}
use Rattle.slot_clocks.specs.Walk.{slot_in}
use Rattle.clock_row.specs.declared.view.WriterView.{WriterView}
use Rattle.clock_row.specs.declared.view.View.{View}
use Rattle.clock_row.specs.declared.view.View.TheVariants.{Writer}
use Rattle.clock_row.proofs.NineWords.{mask_is, masks_same, nine_of, put_elsewhere, put_there, same_mask}

-- ---- one slot

-- If the mask of a slot is already the mask after the change, the slot's words represent its clock
-- after the change.
pub stays_done : (plan : PlanView) (k slot : ℕ) (body : List ℕ) (clock : ClockView) → IsPlan plan → k < length plan.changes → slot < length plan.parents → AreOnTheWay plan k body → IsClock clock plan slot (k + 1) → mask_at body slot ≡ clock.mask
    → AreClock plan slot (k + 1) (words_at body slot)
stays_done plan k slot body clock whole room below way is mask = ⊎_elim
    (λ (old : AreClock plan slot k (words_at body slot)).
    let same : old.0.mask ≡ clock.mask = sym (mask_is body slot old.0 old.1 old.2.whole) ∙ mask in
    (old.0, old.1, kept_is_clock old.0 plan slot k old.2 room (whole.order k room) (λ state. sym (is.mask state) ∙ (ap (λ (m : ℕ). mask_holds m state) (sym same) ∙ old.2.mask state))))
    (λ (new : AreClock plan slot (k + 1) (words_at body slot)). new)
    (way.each slot below)

-- After the words of a clock were stored for a slot, the slot has these words.
words_there : (plan : PlanView) (k slot : ℕ) (clock : ClockView) (before after : List ℕ) → slot < length plan.parents → AreOnTheWay plan k before → IsClock clock plan slot (k + 1) → ArePut (9 * slot) 9 (words_of clock) before after
    → words_at after slot ≡ words_of clock
words_there plan k slot clock before after below way is put = let wide = way.wide in sym (put_there 9 (9 * slot) (words_of clock) before after put (nine_of clock is.whole) (omega (arith, wide, below)))

pub slot_done : (plan : PlanView) (k slot : ℕ) (clock : ClockView) (before after : List ℕ) → slot < length plan.parents → AreOnTheWay plan k before → IsClock clock plan slot (k + 1) → ArePut (9 * slot) 9 (words_of clock) before after
    → AreClock plan slot (k + 1) (words_at after slot)
slot_done plan k slot clock before after below way is put = (clock, words_there plan k slot clock before after below way is put, is)

-- Storing the words of one slot leaves the words of other slots unchanged.
pub others_stay : (plan : PlanView) (k slot : ℕ) (words before after : List ℕ) → slot < length plan.parents → AreOnTheWay plan k before → ArePut (9 * slot) 9 words before after → (other : ℕ) → other < length plan.parents → other ≢ slot
    → words_at after other ≡ words_at before other
others_stay plan k slot words before after below way put other inside apart = let wide = way.wide in
    put_elsewhere 9 (9 * slot) (9 * other) words before after put (dite_apart other slot apart) (omega (arith, wide, inside))
  where
    dite_apart : (other slot : ℕ) → other ≢ slot → (9 * other + 9 ≤ 9 * slot) ⊎ (9 * slot + 9 ≤ 9 * other)
    dite_apart other slot apart = grind (arith, apart)

pub way_goes_on : (plan : PlanView) (k slot : ℕ) (clock : ClockView) (before after : List ℕ) → slot < length plan.parents → AreOnTheWay plan k before → IsClock clock plan slot (k + 1) → ArePut (9 * slot) 9 (words_of clock) before after
    → AreOnTheWay plan k after
way_goes_on plan k slot clock before after below way is put = record {
  wide = put.wide ∙ way.wide;
  each = λ other inside. dite (ℕ_discrete other slot)
      (λ e. inr (subst (λ (z : ℕ). AreClock plan z (k + 1) (words_at after z)) (sym e) (slot_done plan k slot clock before after below way is put)))
      (λ apart. subst (λ (words : List ℕ). AreClock plan other k words ⊎ AreClock plan other (k + 1) words) (sym (others_stay plan k slot (words_of clock) before after below way put other inside apart)) (way.each other inside));
}

pub slot_turns : (plan : PlanView) (k slot : ℕ) (clock : ClockView) (before after : List ℕ) → slot < length plan.parents → AreOnTheWay plan k before → IsClock clock plan slot (k + 1) → ArePut (9 * slot) 9 (words_of clock) before after
    → mask_at before slot ≢ clock.mask → GoesOn plan k before after
slot_turns plan k slot clock before after below way is put other_mask =
    let done = slot_done plan k slot clock before after below way is put in
    let mask = mask_is after slot clock (words_there plan k slot clock before after below way is put) is.whole in record {
      each = λ other inside. dite (ℕ_discrete other slot)
          (λ e. inr (subst (λ (z : ℕ). (mask_at after z ≡ mask_at before z → ⊥) × AreClock plan z (k + 1) (words_at after z)) (sym e) ((λ same. other_mask (sym same ∙ mask)), done)))
          (λ apart. inl (others_stay plan k slot (words_of clock) before after below way put other inside apart));
      done = λ other inside was. dite (ℕ_discrete other slot)
          (λ e. subst (λ (z : ℕ). AreClock plan z (k + 1) (words_at after z)) (sym e) done)
          (λ apart. subst (AreClock plan other (k + 1)) (sym (others_stay plan k slot (words_of clock) before after below way put other inside apart)) was);
    }

-- ---- turns one after the other

pub goes_nowhere : (plan : PlanView) (k : ℕ) (body : List ℕ) → GoesOn plan k body body
goes_nowhere plan k body = record { each = λ slot below. inl refl; done = λ slot below was. was }

-- Two updates of a slot in one change have the effect of one update.
twice : (plan : PlanView) (k slot : ℕ) (a b c : List ℕ) → StaysOrTurns plan k slot a b → StaysOrTurns plan k slot b c → StaysOrTurns plan k slot a c
twice plan k slot a b c one two = ⊎_elim
    (λ (same : words_at b slot ≡ words_at a slot). ⊎_elim
    (λ (again : words_at c slot ≡ words_at b slot). inl (again ∙ same))
    (λ (turned : (mask_at c slot ≡ mask_at b slot → ⊥) × AreClock plan slot k (words_at c slot)). inr ((λ e. turned.0 (e ∙ sym (masks_same b a slot same))), turned.1))
    two)
    (λ (turned : (mask_at b slot ≡ mask_at a slot → ⊥) × AreClock plan slot k (words_at b slot)). ⊎_elim
    (λ (again : words_at c slot ≡ words_at b slot). inr ((λ e. turned.0 (sym (masks_same c b slot again) ∙ e)), subst (AreClock plan slot k) (sym again) turned.1))
    (λ (more : (mask_at c slot ≡ mask_at b slot → ⊥) × AreClock plan slot k (words_at c slot)).
    absurd (more.0 (mask_is c slot more.1.0 more.1.1 more.1.2.whole ∙ (same_mask more.1.0 turned.1.0 plan slot k more.1.2 turned.1.2 ∙ sym (mask_is b slot turned.1.0 turned.1.1 turned.1.2.whole)))))
    two)
    one

pub goes_twice : (plan : PlanView) (k : ℕ) (a b c : List ℕ) → GoesOn plan k a b → GoesOn plan k b c → GoesOn plan k a c
goes_twice plan k a b c one two = record {
  each = λ slot below. twice plan (k + 1) slot a b c (one.each slot below) (two.each slot below);
  done = λ slot below was. two.done slot below (one.done slot below was);
}

-- After any part of a change, a slot with the same mask has the same words.
pub stay_by_mask : (plan : PlanView) (k : ℕ) (before after : List ℕ) → GoesOn plan k before after → StayByMask plan before after
stay_by_mask plan k before after goes slot below same = ⊎_elim
    (λ (words : words_at after slot ≡ words_at before slot). words)
    (λ (turned : (mask_at after slot ≡ mask_at before slot → ⊥) × AreClock plan slot (k + 1) (words_at after slot)). absurd (turned.0 same))
    (goes.each slot below)

-- When a change opens, the words of each slot represent the slot's clock before the change.
pub way_begins : (plan : PlanView) (k : ℕ) (body : List ℕ) → AreClockWords plan k body → AreOnTheWay plan k body
way_begins plan k body are = record { wide = are.wide; each = λ slot below. inl (are.each slot below) }

-- ---- seats

-- After a seat stored words, only the words in its view have changed.
pub stored_view : (before after : RowSeat) → HasStored before after → writer_on after ≡ with_body (writer_on after).body (writer_on before)
stored_view before after stored = ap as_writer stored

pub stored_twice : (a b c : RowSeat) → HasStored a b → HasStored b c → HasStored a c
stored_twice a b c one two = two ∙ ap (λ (w : WriterView). Writer (with_body (writer_on c).body w)) (stored_view a b one)

-- A seat whose view is unchanged has stored nothing.
pub stored_nothing : (before after : RowSeat) → IsWriter before → after.me.0 ≡ before.me.0 → HasStored before after
stored_nothing before after is same = same ∙ (is ∙ ap (λ (v : View). Writer (with_body (as_writer v).body (writer_on before))) (sym same))

pub turning_on : (row : TableId) (before after : RowSeat) → IsTurning row before → IsSameSeat before after → HasStored before after → AreOnTheWay (writer_on before).plan (writer_on before).count (writer_on after).body → IsTurning row after
turning_on row before after was seat stored way =
    let is = stored_view before after stored in
    let plan : (writer_on after).plan ≡ (writer_on before).plan = ap (λ (w : WriterView). w.plan) is in
    let count : (writer_on after).count ≡ (writer_on before).count = ap (λ (w : WriterView). w.count) is in
    record {
      on_row = seat.0 ∙ was.on_row;
      wide = was.wide ∙ ap (λ (p : PlanView). 9 * length p.parents + 1) (sym plan);
      fits = subst (λ (p : PlanView). length p.parents < 2 ^ 32) (sym plan) was.fits;
      writer = stored ∙ ap (λ (w : WriterView). Writer w) (sym is);
      changing = ap (λ (w : WriterView). w.changing) is ∙ was.changing;
      whole = subst IsPlan (sym plan) was.whole;
      next = subst (λ (z : PlanView × ℕ). z.1 < length z.0.changes) (λ i. (sym plan i, sym count i)) was.next;
      way = subst (λ (z : PlanView × ℕ). AreOnTheWay z.0 z.1 (writer_on after).body) (λ i. (sym plan i, sym count i)) way;
    }

-- A slot with a clock after the change still has one after more words were stored.
pub done_on : (before after : RowSeat) (slot : ℕ) → HasStored before after → AreClock (writer_on before).plan slot ((writer_on before).count + 1) (words_at (writer_on after).body slot) → IsDone after slot
done_on before after slot stored done =
    let is = stored_view before after stored in
    subst (λ (z : PlanView × ℕ). AreClock z.0 slot (z.1 + 1) (words_at (writer_on after).body slot)) (λ i. (ap (λ (w : WriterView). w.plan) (sym is) i, ap (λ (w : WriterView). w.count) (sym is) i)) done

pub done_stays : (before after : RowSeat) (slot : ℕ) → HasTurned before after → slot < length (writer_on before).plan.parents → IsDone before slot → IsDone after slot
done_stays before after slot turned below done = done_on before after slot turned.stored (turned.goes.done slot below done)

pub turned_nowhere : (before after : RowSeat) → IsWriter before → IsSameSeat before after → after.me.0 ≡ before.me.0 → HasTurned before after
turned_nowhere before after is seat same = record {
  seat = seat;
  stored = stored_nothing before after is same;
  goes = subst (λ (v : View). GoesOn (writer_on before).plan (writer_on before).count (writer_on before).body (as_writer v).body) (sym same) (goes_nowhere (writer_on before).plan (writer_on before).count (writer_on before).body);
}

pub turned_twice : (a b c : RowSeat) → HasTurned a b → HasTurned b c → HasTurned a c
turned_twice a b c one two =
    let is = stored_view a b one.stored in
    let plan : (writer_on b).plan ≡ (writer_on a).plan = ap (λ (w : WriterView). w.plan) is in
    let count : (writer_on b).count ≡ (writer_on a).count = ap (λ (w : WriterView). w.count) is in
    record {
      seat = (two.seat.0 ∙ one.seat.0, two.seat.1 ∙ one.seat.1);
      stored = stored_twice a b c one.stored two.stored;
      goes = goes_twice (writer_on a).plan (writer_on a).count (writer_on a).body (writer_on b).body (writer_on c).body one.goes (subst (λ (z : PlanView × ℕ). GoesOn z.0 z.1 (writer_on b).body (writer_on c).body) (λ i. (plan i, count i)) two.goes);
    }

-- ---- the chain of a slot

either_of : (a b : Bool) → (a || b) ≡ true → (a ≡ true) ⊎ (b ≡ true)
either_of true b is = inl refl
either_of false b is = inr is

-- A slot on the chain of another slot is this other slot or is on the chain of its parent.
pub chain_up : (parents : List (Option ℕ)) (low : Slot) (parent : Option Slot) (high : ℕ) → AreOlder parents → number_of_slot parent ≡ slice_index_or parents low.0 None → leads_to parents (number_of_slot (Some low)) high ≡ true
    → (low.0 ≡ high) ⊎ (leads_to parents (number_of_slot parent) high ≡ true)
chain_up parents low parent high older is leads = ⊎_elim
    (λ (here : eqb low.0 high ≡ true). inl (eqb-true low.0 high here))
    (λ (above : leads_to parents (slice_index_or parents low.0 None) high ≡ true). inr (ap (λ (o : Option ℕ). leads_to parents o high) is ∙ above))
    (either_of (eqb low.0 high) (leads_to parents (slice_index_or parents low.0 None) high) (sym (by_step parents low.0 high older) ∙ leads))

-- The parent of a slot has a smaller number.
pub parent_below : (parents : List (Option ℕ)) (low : ℕ) (parent : Option Slot) → AreOlder parents → number_of_slot parent ≡ slice_index_or parents low None → IfSome parent (λ slot. slot.0 < low)
parent_below parents low None older is = tt
parent_below parents low (Some slot) older is = older low slot.0 (sym is)

-- ---- the four chains of a change

some_change : (plan : PlanView) (k : ℕ) → k < length plan.changes → (change : Change) × (slice_get plan.changes k ≡ Some change)
some_change plan k room = let none : Change = record { at = 0; minus = None; plus = None; current = None; irq = 0; account = None } in (slice_index_or plan.changes k none, slice_get-get_or plan.changes k none room)

-- A property of four elements holds for all elements of their list.
all_four : (P : Option Slot → Type 0) (a b c d : Option Slot) → P a → P b → P c → P d → All P (a ∷ b ∷ c ∷ d ∷ [])
all_four P a b c d of_a of_b of_c of_d zero x inside = of_a
all_four P a b c d of_a of_b of_c of_d (suc zero) x inside = of_b
all_four P a b c d of_a of_b of_c of_d (suc (suc zero)) x inside = of_c
all_four P a b c d of_a of_b of_c of_d (suc (suc (suc zero))) x inside = of_d
all_four P a b c d of_a of_b of_c of_d (suc (suc (suc (suc n)))) x inside = absurd (omega (arith, inside))

-- A property of a list's first element and of its other elements holds for all elements.
all_more : (P : Option Slot → Type 0) (first : Option Slot) (rest : List (Option Slot)) → P first → All P rest → All P (first ∷ rest)
all_more P first rest here suffix zero x inside = here
all_more P first rest here suffix (suc i) x inside = suffix i x (omega (arith, inside))

all_rest : (P : Option Slot → Type 0) (first : Option Slot) (rest : List (Option Slot)) → All P (first ∷ rest) → All P rest
all_rest P first rest all i x inside = all (suc i) x (omega (arith, inside))

side_below : {A : Type 0} (side : Option (Slot × A)) (slots : ℕ) → IfSome side (λ part. part.0.0 < slots) → IfSome (slot_in side) (λ slot. slot.0 < slots)
side_below None slots below = tt
side_below (Some part) slots below = below

or_below : (one other : Option Slot) (slots : ℕ) → IfSome one (λ slot. slot.0 < slots) → IfSome other (λ slot. slot.0 < slots) → IfSome (option_or one other) (λ slot. slot.0 < slots)
or_below None other slots below below_too = below_too
or_below (Some slot) other slots below below_too = below

true_or_false : (b : Bool) → (b ≡ true) ⊎ (b ≡ false)
true_or_false true = inl refl
true_or_false false = inr refl

-- A slot on none of the change's chains already has a clock after the change.
aside_done : (plan : PlanView) (k slot : ℕ) (body : List ℕ) (starts : List (Option Slot)) → IsPlan plan → k < length plan.changes → slot < length plan.parents → AreOnTheWay plan k body → OthersAreAside plan k starts → IsOnNone plan.parents starts slot
    → AreClock plan slot (k + 1) (words_at body slot)
aside_done plan k slot body starts whole room below way aside none = ⊎_elim
    (λ (old : AreClock plan slot k (words_at body slot)).
    let change = some_change plan k room in
    (old.0, old.1, kept_is_clock old.0 plan slot k old.2 room (whole.order k room) (λ state. aside_stays state plan slot k change.0 change.1 (aside slot change.0 change.1 none))))
    (λ (new : AreClock plan slot (k + 1) (words_at body slot)). new)
    (way.each slot below)

-- `AllDone plan k body start`: each slot on the chain of `start` has a clock after change k + 1.
abbrev pub AllDone : PlanView → ℕ → List ℕ → Option Slot → Type 0
AllDone plan k body start = (slot : ℕ) → slot < length plan.parents → leads_to plan.parents (number_of_slot start) slot ≡ true → AreClock plan slot (k + 1) (words_at body slot)

-- A slot is on one of the chains or on none of them.
one_or_none : (parents : List (Option ℕ)) (starts : List (Option Slot)) (slot : ℕ) → ((start : Option Slot) × ((P : Option Slot → Type 0) → All P starts → P start) × (leads_to parents (number_of_slot start) slot ≡ true)) ⊎ IsOnNone parents starts slot
one_or_none parents [] slot = inr (λ i x inside. absurd (omega (arith, inside)))
one_or_none parents (start ∷ starts) slot = ⊎_elim
    (λ (on : leads_to parents (number_of_slot start) slot ≡ true). inl (start, (λ P all. all 0 start (omega arith)), on))
    (λ (off : leads_to parents (number_of_slot start) slot ≡ false). ⊎_elim
    (λ (one : (start : Option Slot) × ((P : Option Slot → Type 0) → All P starts → P start) × (leads_to parents (number_of_slot start) slot ≡ true)). inl (one.0, (λ P all. one.1 P (all_rest P start starts all)), one.2))
    (λ (none : IsOnNone parents starts slot). inr (all_more (λ x. leads_to parents (number_of_slot x) slot ≡ false) start starts off none))
    (one_or_none parents starts slot))
    (true_or_false (leads_to parents (number_of_slot start) slot))

-- Once all slots on the chains have a clock after the change, so has each slot.
pub all_done : (plan : PlanView) (k : ℕ) (body : List ℕ) (starts : List (Option Slot)) → IsPlan plan → k < length plan.changes → AreOnTheWay plan k body → OthersAreAside plan k starts → All (AllDone plan k body) starts → AreClockWords plan (k + 1) body
all_done plan k body starts whole room way aside done = record {
  wide = way.wide;
  each = λ slot below. ⊎_elim
      (λ (one : (start : Option Slot) × ((P : Option Slot → Type 0) → All P starts → P start) × (leads_to plan.parents (number_of_slot start) slot ≡ true)). one.1 (AllDone plan k body) done slot below one.2)
      (λ (none : IsOnNone plan.parents starts slot). aside_done plan k slot body starts whole room below way aside none)
      (one_or_none plan.parents starts slot);
}

-- The chains of a change start at slots of the plan.
pub starts_below : (plan : PlanView) (k : ℕ) (starts : List (Option Slot)) → IsPlan plan → k < length plan.changes → AreConcerned plan k starts → AreBelow (length plan.parents) starts
starts_below plan k starts whole room are =
    let change = some_change plan k room in
    let slots = whole.slots k change.0 change.1 in
    let below : Option Slot → Type 0 = λ start. IfSome start (λ slot. slot.0 < length plan.parents) in
    subst (AreBelow (length plan.parents)) (sym (are change.0 change.1))
    (all_four below (option_or (slot_in change.0.account) (slot_in change.0.minus)) (slot_in change.0.plus) (slot_in (current_after plan k)) (slot_in change.0.current)
    (or_below (slot_in change.0.account) (slot_in change.0.minus) (length plan.parents) (side_below change.0.account (length plan.parents) slots.account) (side_below change.0.minus (length plan.parents) slots.minus)) (side_below change.0.plus (length plan.parents) slots.plus)
    (side_below (current_after plan k) (length plan.parents) (current_below plan k whole (omega (arith, room)))) (side_below change.0.current (length plan.parents) slots.current))

pub weaker : (o : Option Slot) (n m : ℕ) → IfSome o (λ slot. slot.0 < n) → n ≤ m → IfSome o (λ slot. slot.0 < m)
weaker None n m below more = tt
weaker (Some slot) n m below more = omega (arith, below, more)

pub chain_stays : (before after : RowSeat) (start : Option Slot) → HasTurned before after → ChainIsDone before start → ChainIsDone after start
chain_stays before after start turned done slot below leads =
    let plan : (writer_on after).plan ≡ (writer_on before).plan = ap (λ (w : WriterView). w.plan) (stored_view before after turned.stored) in
    let inside : slot < length (writer_on before).plan.parents = subst (λ (p : PlanView). slot < length p.parents) plan below in
    done_stays before after slot turned inside (done slot inside (subst (λ (p : PlanView). leads_to p.parents (number_of_slot start) slot ≡ true) plan leads))

-- ---- a change

-- Opening a change establishes the precondition for updating slots.
pub turning_begins : (row : TableId) (before after : RowSeat) (plan : PlanView) (clocks : OnPlan) → IsWriterEnd row before plan clocks → clocks.made < length plan.changes → IsSameSeat before after → after.me.0 ≡ Writer (change_opened (writer_on before)) → IsTurning row after
turning_begins row before after plan clocks was room seat view =
    let is : writer_on after ≡ change_opened (writer_on before) = ap as_writer view in
    let plan_is : plan ≡ (writer_on after).plan = sym (ap (λ (w : WriterView). w.plan) is ∙ was.plan_is) in
    let count : clocks.made ≡ (writer_on after).count = was.clocks_made ∙ sym (ap (λ (w : WriterView). w.count) is) in
    record {
      on_row = seat.0 ∙ was.on_row;
      wide = was.wide ∙ ap (λ (p : PlanView). 9 * length p.parents + 1) plan_is;
      fits = subst (λ (p : PlanView). length p.parents < 2 ^ 32) plan_is was.fits;
      writer = view ∙ ap (λ (w : WriterView). Writer w) (sym is);
      changing = ap (λ (w : WriterView). w.changing) is;
      whole = subst IsPlan plan_is was.whole;
      next = subst (λ (z : PlanView × ℕ). z.1 < length z.0.changes) (λ i. (plan_is i, count i)) room;
      way = way_begins (writer_on after).plan (writer_on after).count (writer_on after).body
          (subst (λ (z : PlanView × WriterView). AreClockWords z.0 z.1.count z.1.body) (λ i. (plan_is i, sym is i)) was.words);
    }

-- Updating slots changes neither the plan nor the number of changes in the writer's view.
pub turned_from : (row : TableId) (before begun after : RowSeat) (plan : PlanView) (clocks : OnPlan) (k : ℕ) → IsWriterEnd row before plan clocks → k ≡ clocks.made → begun.me.0 ≡ Writer (change_opened (writer_on before)) → HasTurned begun after
    → (plan ≡ (writer_on after).plan) × (k ≡ (writer_on after).count)
turned_from row before begun after plan clocks k was count view turned =
    let at_open = ap as_writer view in let at_last = stored_view begun after turned.stored in (
      sym (ap (λ (w : WriterView). w.plan) at_last ∙ (ap (λ (w : WriterView). w.plan) at_open ∙ was.plan_is)),
      count ∙ (was.clocks_made ∙ sym (ap (λ (w : WriterView). w.count) at_last ∙ ap (λ (w : WriterView). w.count) at_open)),
    )

-- Once the chains are updated, the words of each slot represent the slot's clock after the change.
pub change_done : (row : TableId) (before begun after : RowSeat) (plan : PlanView) (clocks : OnPlan) (k : ℕ) (starts : List (Option Slot)) → IsWriterEnd row before plan clocks → k ≡ clocks.made → begun.me.0 ≡ Writer (change_opened (writer_on before))
    → HasTurned begun after → IsTurning row after → OthersAreAside plan k starts → ChainsAreDone after starts → AreClockWords plan (k + 1) (writer_on after).body
change_done row before begun after plan clocks k starts was count view turned turning aside done =
    let from = turned_from row before begun after plan clocks k was count view turned in
    subst (λ (z : PlanView × ℕ). AreClockWords z.0 (z.1 + 1) (writer_on after).body) (λ i. (sym from.0 i, sym from.1 i))
    (all_done (writer_on after).plan (writer_on after).count (writer_on after).body starts turning.whole turning.next turning.way
    (subst (λ (z : PlanView × ℕ). OthersAreAside z.0 z.1 starts) (λ i. (from.0 i, from.1 i)) aside) done)
