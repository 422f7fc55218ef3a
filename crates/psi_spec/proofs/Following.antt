-- Proofs about the worlds after successive events.
use Rattle.std.proofs.Common.{◌≡◌, List, [], ◌∷◌, ◌++◌, refl, ap, Bool, true, false}
use Rattle.std.specs.Prelude.{Option, None, Some, ◌||◌, if◌then◌else◌}
use Rattle.psi_base.specs.declared.event.Act.{Act}
use Rattle.psi_base.specs.declared.event.Act.TheVariants as act
use Rattle.psi_base.specs.declared.event.Event.{Event}
use Rattle.psi_base.specs.declared.event.Cause.{Cause}
use Rattle.psi_base.specs.declared.event.Cause.TheVariants as cause
use Rattle.psi_spec.specs.World.{World, Limits, after_event, after_from, ends}
use Rattle.psi_spec.specs.Refusal.{AreLegal, cause_of}
use Rattle.psi_spec.specs.Trace.{EndsLast}

-- if a search for a cause finds none, the first cause doesn't apply
pub first_none : (b : Bool) (why : Cause) (others : Option Cause) → (if b then Some why else others) ≡ None → b ≡ false
first_none true why others is = absurd (cc is)
first_none false why others is = refl

-- an event is legal only in a world that hasn't ended
pub open_of_legal : (limits : Limits) (w : World) (event : Event) → cause_of limits w event ≡ None → w.ended ≡ false
unfolding cause_of
open_of_legal limits w event is = first_none w.ended cause.AfterEnd _ is

-- ---- `end` is the last event

is_end : (a : Act) → ends a ≡ true → a ≡ act.End
is_end act.End is = refl
is_end _ is = absurd (cc is)

end_event : (event : Event) → ends event.act ≡ true → event ≡ record { at = event.at; act = act.End }
end_event event is = ap (λ a. let e : Event = record { at = event.at; act = a } in e) (is_end event.act is)

or_else : (a b : Bool) → a ≡ false → (a || b) ≡ true → b ≡ true
or_else true b off on = absurd (cc off)
or_else false b off on = on

pub last_end : (limits : Limits) (w : World) (events : List Event) → w.ended ≡ false → AreLegal limits w events → (after_from w events).ended ≡ true → EndsLast events
last_end limits w [] open_ legal ended = absurd (cc (open_, ended))
last_end limits w (event ∷ []) open_ legal ended =
    ([], event.at, ap (λ e. e ∷ []) (end_event event (or_else w.ended (ends event.act) open_ ended)))
last_end limits w (event ∷ next ∷ events) open_ legal ended =
    let later = last_end limits (after_event w event) (next ∷ events) (open_of_legal limits (after_event w event) next legal.1.0) legal.1 ended in
    (event ∷ later.0, later.1, ap (λ es. event ∷ es) later.2)

-- ---- successive events

pub after_from-append : (w : World) (xs ys : List Event) → after_from w (xs ++ ys) ≡ after_from (after_from w xs) ys
after_from-append w [] ys = refl
after_from-append w (event ∷ xs) ys = after_from-append (after_event w event) xs ys
