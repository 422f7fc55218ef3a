-- Proofs about storing deeds (acts in compact form) one by one.
use Rattle.std.proofs.Common.{◌≡◌, ℕ, List, [], ◌∷◌, ◌++◌, refl, ap, ◌∙◌, sym, append_assoc, Option, None, Some}
use Rattle.std.specs.Prelude.{is_some, map, length, drop}
use Rattle.std.proofs.lemmas.List.{append-nil, drop_at, length-map, map-append}
use Rattle.std.specs.List.{drop-map}
use Rattle.psi_base.specs.declared.event.Act.{Act}
use Rattle.psi_base.specs.declared.event.Event.{Event}
use Rattle.psi_spec.specs.declared.machine.Task.{Task}
use Rattle.psi_spec.specs.World.{task_part, events_at}
use Rattle.ftrace_import.specs.declared.deeds.Deed.{Deed}
use Rattle.ftrace_import.specs.declared.deeds.Kept.{Kept}
use Rattle.ftrace_import.specs.Deeds.{act_by, acts_in, event_by, events_by}

pub one_kept : (old new : List Kept) (at : ℕ) (deed : Deed) → new ≡ old ++ record { at = at; deed = deed } ∷ [] → events_by new ≡ events_by old ++ events_at at (act_by deed ∷ [])
one_kept old new at deed is = ap events_by is ∙ map-append event_by old (record { at = at; deed = deed } ∷ [])

pub none_kept : (old : List Kept) (at : ℕ) → events_by old ≡ events_by old ++ events_at at []
none_kept old at = sym (append-nil (events_by old))

-- Storing some acts and then others stores all of them.
pub both_kept : (old mid new : List Kept) (at : ℕ) (xs ys : List Act) → events_by mid ≡ events_by old ++ events_at at xs → events_by new ≡ events_by mid ++ events_at at ys → events_by new ≡ events_by old ++ events_at at (xs ++ ys)
both_kept old mid new at xs ys first then =
    then ∙ ap (λ es. es ++ events_at at ys) first ∙ append_assoc (events_by old) (events_at at xs) (events_at at ys) ∙ ap (λ es. events_by old ++ es) (sym (map-append _ xs ys))

pub two_kept : (old mid new : List Kept) (at : ℕ) (x y : Act) → events_by mid ≡ events_by old ++ events_at at (x ∷ []) → events_by new ≡ events_by mid ++ events_at at (y ∷ []) → events_by new ≡ events_by old ++ events_at at (x ∷ y ∷ [])
two_kept old mid new at x y first then = both_kept old mid new at (x ∷ []) (y ∷ []) first then

-- The optional task of a search result has a value exactly if the search result has.
pub some_part : (o : Option (ℕ × Task)) → is_some (task_part o) ≡ is_some o
some_part None = refl
some_part (Some e) = refl

-- The events that were appended to the stored ones.
pub kept_new : (old new : List Kept) (events : List Event) → events_by new ≡ events_by old ++ events → events_by (drop (length old) new) ≡ events
kept_new old new events is = sym (drop-map event_by (length old) new) ∙ ap (drop (length old)) is ∙ drop_at (events_by old) events (length old) (length-map old event_by)

-- The acts of the stored events are the acts of the events that they represent.
pub acts_of_events : (kept : List Kept) → acts_in kept ≡ map (λ (e : Event). e.act) (events_by kept)
acts_of_events [] = refl
acts_of_events (one ∷ kept) = ap (λ acts. act_by one.deed ∷ acts) (acts_of_events kept)

acts_at : (at : ℕ) (acts : List Act) → map (λ (e : Event). e.act) (events_at at acts) ≡ acts
acts_at at [] = refl
acts_at at (a ∷ acts) = ap (λ acts. a ∷ acts) (acts_at at acts)

pub acts_new : (old new : List Kept) (at : ℕ) (acts : List Act) → events_by new ≡ events_by old ++ events_at at acts → acts_in (drop (length old) new) ≡ acts
acts_new old new at acts is = acts_of_events (drop (length old) new) ∙ ap (map (λ (e : Event). e.act)) (kept_new old new (events_at at acts) is) ∙ acts_at at acts
