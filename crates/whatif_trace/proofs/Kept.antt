-- Proves properties of the list of remaining events, which is stored part by part.
use Rattle.std.proofs.Common.{◌≡◌, ℕ, List, [], ◌++◌, ap, ◌∙◌, sym, append_assoc}
use Rattle.std.proofs.lemmas.List.{append-nil, map-append}
use Rattle.psi_base.specs.declared.event.Act.{Act}
use Rattle.psi_base.specs.declared.event.Event.{Event}
use Rattle.psi_spec.specs.World.{events_at}

-- Storing no event doesn't change the list.
pub none_kept : (old : List Event) → old ≡ old ++ []
none_kept old = sym (append-nil old)

-- Storing a part and then the rest stores the concatenation of both.
pub part_kept : (old new part rest : List Event) → new ≡ old ++ part → new ++ rest ≡ old ++ (part ++ rest)
part_kept old new part rest is = ap (λ es. es ++ rest) is ∙ append_assoc old part rest

-- Storing two lists of acts at one time, one after the other, stores the concatenation of both.
pub acts_kept : (old mid new : List Event) (at : ℕ) (xs ys : List Act) → mid ≡ old ++ events_at at xs → new ≡ mid ++ events_at at ys → new ≡ old ++ events_at at (xs ++ ys)
acts_kept old mid new at xs ys first then =
    then ∙ ap (λ es. es ++ events_at at ys) first ∙ append_assoc old (events_at at xs) (events_at at ys) ∙ ap (λ es. old ++ es) (sym (map-append _ xs ys))

pub four_kept : (e0 e1 e2 e3 e4 : List Event) (at : ℕ) (xs ys zs us : List Act) → e1 ≡ e0 ++ events_at at xs → e2 ≡ e1 ++ events_at at ys → e3 ≡ e2 ++ events_at at zs → e4 ≡ e3 ++ events_at at us → e4 ≡ e0 ++ events_at at (xs ++ ys ++ zs ++ us)
four_kept e0 e1 e2 e3 e4 at xs ys zs us one two three four =
    acts_kept e0 e3 e4 at (xs ++ ys ++ zs) us (acts_kept e0 e2 e3 at (xs ++ ys) zs (acts_kept e0 e1 e2 at xs ys one two) three) four
