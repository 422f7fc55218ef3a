-- Proofs about the lines of board states, in order.
use Rattle.std.proofs.Common.{◌≡◌, ℕ, zero, suc, ◌+◌, ◌<◌, List, [], ◌∷◌, ◌++◌, length, take, drop, get_or, refl, sym, ap, ◌∙◌, arith, subst, append_assoc}
use Rattle.std.proofs.lemmas.List.{append-nil}
use Rattle.observer_log.specs.declared.board.BoardState.{BoardState}
use Rattle.observe_core.specs.Printed.{state_line, states_text}

-- the lines before a state, that state's line, and the lines after it
at_place : (first : ℕ) (states : List BoardState) (i observer : ℕ) (d : BoardState) → observer ≡ first + i → i < length states →
    states_text first states
    ≡ states_text first (take i states) ++ (state_line observer (get_or states i d) ++ states_text (observer + 1) (drop (suc i) states))
at_place first [] i observer d same inside = absurd (omega (arith, inside))
at_place first (state ∷ states) zero observer d same inside =
    let here : first ≡ observer = omega (arith, same) in
    subst (λ n. states_text first (state ∷ states) ≡ state_line n state ++ states_text (n + 1) states) here refl
at_place first (state ∷ states) (suc i) observer d same inside =
    ap (λ text. state_line first state ++ text) (at_place (first + 1) states i observer d (omega (arith, same)) (omega (arith, inside)))
    ∙ sym (append_assoc (state_line first state) (states_text (first + 1) (take i states)) _)

pub states_at : (first : ℕ) (states : List BoardState) (i observer : ℕ) (d : BoardState) → observer ≡ first + i → i < length states →
    states_text first states
    ≡ states_text first (take i states) ++ (state_line observer (get_or states i d) ++ states_text (observer + 1) (drop (i + 1) states))
states_at first states i observer d same inside =
    let next : suc i ≡ i + 1 = omega arith in rw (← next) (at_place first states i observer d same inside)

-- one more state has one more line
one_more : (first : ℕ) (states : List BoardState) (i observer : ℕ) (d : BoardState) → observer ≡ first + i → i < length states →
    states_text first (take (suc i) states) ≡ states_text first (take i states) ++ state_line observer (get_or states i d)
one_more first [] i observer d same inside = absurd (omega (arith, inside))
one_more first (state ∷ states) zero observer d same inside =
    let here : first ≡ observer = omega (arith, same) in append-nil _ ∙ ap (λ n. state_line n state) here
one_more first (state ∷ states) (suc i) observer d same inside =
    ap (λ text. state_line first state ++ text) (one_more (first + 1) states i observer d (omega (arith, same)) (omega (arith, inside)))
    ∙ sym (append_assoc (state_line first state) (states_text (first + 1) (take i states)) _)

pub states_more : (first : ℕ) (states : List BoardState) (i observer : ℕ) (d : BoardState) → observer ≡ first + i → i < length states →
    states_text first (take (i + 1) states) ≡ states_text first (take i states) ++ state_line observer (get_or states i d)
states_more first states i observer d same inside =
    let next : suc i ≡ i + 1 = omega arith in rw (← next) (one_more first states i observer d same inside)
