-- Proofs about observers that are ended in order.
use Rattle.std.proofs.Common.{◌≡◌, ℕ, suc, ◌+◌, ◌<◌, List, [], ◌∷◌, ◌++◌, length, map, get_or, refl, sym, ap, ◌∙◌, subst, arith, append_assoc}
use Rattle.std.specs.List.{All}
use Rattle.std.proofs.lemmas.List.{append-nil, length-append}
use Rattle.observer_log.specs.declared.entry.Entry.{Entry}
use Rattle.observer_log.specs.Journal.{joined}
use Rattle.observe_core.specs.Observing.{ObserverView}
use Rattle.observe_core.proofs.ReadyLaws.{each_pushed}

-- the list of an observer
abbrev pub own_of : ObserverView → List Entry
own_of observer = observer.watcher.own

-- appending the list of the first remaining observer to the earlier lists keeps the order of the
-- observers
pub own_next : (own : List (List Entry)) (list : List Entry) (observer : ObserverView) (before after : List ObserverView) (whole : List (List Entry)) → before ≡ observer ∷ after → list ≡ observer.watcher.own
    → own ++ map own_of before ≡ whole → (own ++ list ∷ []) ++ map own_of after ≡ whole
own_next own list observer before after whole step is was =
    append_assoc own (list ∷ []) (map own_of after) ∙ ap (λ (l : List Entry). own ++ l ∷ map own_of after) is ∙ sym (ap (λ (l : List ObserverView). own ++ map own_of l) step) ∙ was

-- joining one more list adds its number of entries
pub joined_next : (own : List (List Entry)) (list : List Entry) → length (joined (own ++ list ∷ [])) ≡ length (joined own) + length list
joined_next [] list = let same = ap length (append-nil list) in omega (arith, same)
joined_next (first ∷ own) list =
    let rest = joined_next own list in
    let before = length-append first (joined own) in
    let after = length-append first (joined (own ++ list ∷ [])) in
    omega (arith, rest, before, after)

-- a property of all elements holds for the first element and for all others
pub all_first : {X : Type 0} → (P : X → Type 0) (x : X) (before after : List X) → before ≡ x ∷ after → All P before → P x
all_first P x before after step all = subst (All P) step all 0 x (omega arith)

pub all_next : {X : Type 0} → (P : X → Type 0) (x : X) (before after : List X) → before ≡ x ∷ after → All P before → All P after
all_next P x before after step all = λ k d below. subst (All P) step all (suc k) d (omega (arith, below))

-- a property of all elements and of `x` holds for the list with `x` appended
pub all_push : {X : Type 0} → (P : X → Type 0) (xs : List X) (x : X) → All P xs → P x → All P (xs ++ x ∷ [])
all_push P xs x all one = λ k d below.
    let more = length-append xs (x ∷ []) in
    each_pushed (λ (k : ℕ) (y : _). P y) xs x (length xs) refl all one k d (omega (arith, below, more))
