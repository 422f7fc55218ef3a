-- Proofs about joined texts: one more piece, and the pieces around one piece.
use Rattle.std.proofs.Common.{◌≡◌, ℕ, suc, ◌+◌, ◌-◌, ◌<◌, List, [], ◌∷◌, ◌++◌, length, take, get_or, ap, ◌∙◌, arith}
use Rattle.std.specs.List.{flat_map, range_with_len}
use Rattle.std.proofs.lemmas.List.{append-nil, take_more}
use Rattle.std.proofs.lemmas.Grind.{flat_map-append}
use Rattle.std.proofs.lemmas.List.Concat.{flat_map-cons}
use Rattle.run_laws.proofs.OneMore.{range_parts}

-- the first i + 1 pieces are the first `i` pieces, followed by piece `i`
pub taken_more : {X : Type 0} → (f : X → List ℕ) (xs : List X) (i : ℕ) (d : X) → i < length xs → flat_map f (take (i + 1) xs) ≡ flat_map f (take i xs) ++ f (get_or xs i d)
taken_more f xs i d inside =
    ap (flat_map f) (take_more xs i d inside) ∙ flat_map-append f (take i xs) (get_or xs i d ∷ []) ∙ ap (λ t. flat_map f (take i xs) ++ t) (append-nil (f (get_or xs i d)))

-- all pieces are the pieces before piece `i`, that piece, and the pieces after it
pub pieces_at : (f : ℕ → List ℕ) (n i : ℕ) → i < n → flat_map f (range_with_len 0 n) ≡ flat_map f (range_with_len 0 i) ++ (f i ++ flat_map f (range_with_len (i + 1) (n - (i + 1))))
pieces_at f n i inside =
    let whole : n ≡ i + suc (n - (i + 1)) = omega (arith, inside) in
    let suffix : 0 + i ≡ i = omega arith in
    ap (λ m. flat_map f (range_with_len 0 m)) whole ∙ ap (flat_map f) (range_parts 0 i (suc (n - (i + 1))) ∙ ap (λ j. range_with_len 0 i ++ range_with_len j (suc (n - (i + 1)))) suffix) ∙ flat_map-append f (range_with_len 0 i) (range_with_len i (suc (n - (i + 1))))
    ∙ ap (λ t. flat_map f (range_with_len 0 i) ++ t) (flat_map-cons f i (range_with_len (i + 1) (n - (i + 1))))

-- one more piece is appended to the joined text
pub piece_more : (f : ℕ → List ℕ) (i next : ℕ) → next ≡ i + 1 → flat_map f (range_with_len 0 next) ≡ flat_map f (range_with_len 0 i) ++ f i
piece_more f i next is =
    let none : next - (i + 1) ≡ 0 = omega (arith, is) in
    pieces_at f next i (omega (arith, is)) ∙ ap (λ m. flat_map f (range_with_len 0 i) ++ (f i ++ flat_map f (range_with_len (i + 1) m))) none ∙ ap (λ t. flat_map f (range_with_len 0 i) ++ t) (append-nil (f i))
