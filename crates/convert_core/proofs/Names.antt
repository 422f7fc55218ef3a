-- Names of files.
use Rattle.std.proofs.Common.{◌≡◌, ◌∙◌, ◌≤◌, ℕ, List, [], ◌∷◌, Bool, true, refl, sym, ap, arith, length, map}
use Rattle.std.specs.Prelude.{◌&&◌, nat_le}
use Rattle.std.specs.List.{list_all}
use Rattle.std.proofs.lemmas.Bool.{le-leb}
use Rattle.std.proofs.lemmas.List.{length-map}
use Rattle.convert_core.specs.Convert.{are_names, is_name}

-- a test of all mapped elements
all_mapped : {X Y : Type 0} → (p : Y → Bool) (f : X → Y) (xs : List X) → list_all p (map f xs) ≡ list_all (λ x. p (f x)) xs
all_mapped p f [] = refl
all_mapped p f (x ∷ xs) = ap (λ rest. p (f x) && rest) (all_mapped p f xs)

-- a table and at most 4,096 files of pages
pub names_are : {X : Type 0} → (f : X → List ℕ) (xs : List X) → 2 ≤ length xs → length xs ≤ 4097 → list_all (λ x. is_name (f x)) xs ≡ are_names (map f xs)
names_are f xs some few =
    let more : nat_le 2 (length (map f xs)) ≡ true = le-leb 2 (length (map f xs)) (omega (arith, some, length-map xs f)) in
    let less : nat_le (length (map f xs)) 4097 ≡ true = le-leb (length (map f xs)) 4097 (omega (arith, few, length-map xs f)) in
    let tests : are_names (map f xs) ≡ list_all is_name (map f xs) = rw (more, less) refl in
    sym (all_mapped is_name f xs) ∙ sym tests
