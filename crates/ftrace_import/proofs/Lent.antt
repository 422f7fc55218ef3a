-- Proofs about the remaining events of an import after one more is lent.
use Rattle.std.proofs.Common.{◌≡◌, ℕ, zero, suc, ◌+◌, ◌<◌, List, [], ◌∷◌, ◌++◌, length, drop, refl, sym, ap, arith}
use Rattle.std.specs.Prelude.{slice_index_or}
use Rattle.psi_base.specs.declared.event.Event.{Event}
use Rattle.ftrace_import.specs.declared.deeds.Kept.{Kept}
use Rattle.ftrace_import.specs.Deeds.{event_by, events_by}

-- After a stored event is lent, the remaining events are the ones after it.
pub kept_lent : (kept : List Kept) (end : Event) (at next : ℕ) (one : Kept) → next ≡ at + 1 → at < length kept → one ≡ slice_index_or kept at one → drop at (events_by kept ++ end ∷ []) ≡ event_by one ∷ drop next (events_by kept ++ end ∷ [])
kept_lent [] end at next one follows inside is = absurd (let no : ⊥ = omega (arith, inside) in no)
kept_lent (first ∷ kept) end zero next one follows inside is = rw follows (ap (λ (k : Kept). event_by k ∷ (events_by kept ++ end ∷ [])) (sym is))
kept_lent (first ∷ kept) end (suc at) zero one follows inside is = absurd (let no : ⊥ = omega (arith, follows) in no)
kept_lent (first ∷ kept) end (suc at) (suc next) one follows inside is = kept_lent kept end at next one (omega (arith, follows)) (omega (arith, inside)) is

-- After the end is lent, no event remains.
pub end_lent : (kept : List Kept) (end : Event) (at next : ℕ) → next ≡ at + 1 → at ≡ length kept → drop at (events_by kept ++ end ∷ []) ≡ end ∷ drop next (events_by kept ++ end ∷ [])
end_lent [] end zero next follows is = rw follows refl
end_lent [] end (suc at) next follows is = absurd (let no : ⊥ = omega (arith, is) in no)
end_lent (first ∷ kept) end zero next follows is = absurd (let no : ⊥ = omega (arith, is) in no)
end_lent (first ∷ kept) end (suc at) zero follows is = absurd (let no : ⊥ = omega (arith, follows) in no)
end_lent (first ∷ kept) end (suc at) (suc next) follows is = end_lent kept end at next (omega (arith, follows)) (omega (arith, is))

-- If no event remains, none remains after skipping some.
none_following : (events : List Event) (at : ℕ) → events ≡ [] → drop at events ≡ []
none_following [] zero none = refl
none_following [] (suc at) none = refl
none_following (event ∷ events) at none = absurd (let no : ⊥ = cc none in no)

-- After the end, no event is lent.
pub none_lent : (kept : List Kept) (end : Event) (at : ℕ) → length kept < at → drop at (events_by kept ++ end ∷ []) ≡ []
none_lent [] end zero suffix = absurd (let no : ⊥ = omega (arith, suffix) in no)
none_lent [] end (suc at) suffix = none_following [] at refl
none_lent (first ∷ kept) end zero suffix = absurd (let no : ⊥ = omega (arith, suffix) in no)
none_lent (first ∷ kept) end (suc at) suffix = none_lent kept end at (omega (arith, suffix))
