-- Proves the loop step that converts one more element of a list to its JSON data.
use Rattle.std.proofs.Common.{◌≡◌, ℕ, ◌+◌, ◌<◌, ◌≤◌, List, [], ◌∷◌, ◌++◌, length, map, take, get_or, sym, ap, ◌∙◌, subst, append_assoc}
use Rattle.std.specs.Prelude.{All}
use Rattle.std.proofs.lemmas.List.{map-append, take_all, take_more}
use Rattle.std.proofs.lemmas.List.Elements.{All-more}
use Rattle.serde_json.specs.Data.{Data}
use Rattle.serde_json.specs.View.{view}
use Rattle.serde_json.specs.declared.value.Value.{Value}

pub data_more : {A : Type 0} (data_of : A → Data) (prefix : List Data) (vs : List Value) (v : Value) (xs : List A) (i : ℕ) (x : A) → i < length xs → x ≡ get_or xs i x
    → map view vs ≡ prefix ++ map data_of (take i xs) → view v ≡ data_of x → map view (vs ++ v ∷ []) ≡ prefix ++ map data_of (take (i + 1) xs)
data_more data_of prefix vs v xs i x inside here so_far is =
    let more : take (i + 1) xs ≡ take i xs ++ x ∷ [] = take_more xs i x inside ∙ ap (λ y. take i xs ++ y ∷ []) (sym here) in
    let suffix : map data_of (take i xs ++ x ∷ []) ≡ map data_of (take i xs) ++ data_of x ∷ [] = map-append data_of (take i xs) (x ∷ []) in
    map-append view vs (v ∷ []) ∙ ap (λ ds. ds ++ view v ∷ []) so_far ∙ ap (λ d. (prefix ++ map data_of (take i xs)) ++ d ∷ []) is
    ∙ append_assoc prefix (map data_of (take i xs)) (data_of x ∷ []) ∙ ap (λ ds. prefix ++ ds) (sym suffix) ∙ ap (λ ys. prefix ++ map data_of ys) (sym more)

pub all_more : {A : Type 0} (P : A → Type 0) (xs : List A) (i : ℕ) (x : A) → i < length xs → x ≡ get_or xs i x → All P (take i xs) → P x → All P (take (i + 1) xs)
all_more P xs i x inside here so_far is = All-more P xs i x inside so_far (subst P here is)

pub data_whole : {A : Type 0} (data_of : A → Data) (prefix : List Data) (vs : List Value) (xs : List A) (i : ℕ) → length xs ≤ i → map view vs ≡ prefix ++ map data_of (take i xs) → map view vs ≡ prefix ++ map data_of xs
data_whole data_of prefix vs xs i past so_far = so_far ∙ ap (λ ys. prefix ++ map data_of ys) (take_all i xs past)

pub all_whole : {A : Type 0} (P : A → Type 0) (xs : List A) (i : ℕ) → length xs ≤ i → All P (take i xs) → All P xs
all_whole P xs i past so_far = subst (All P) (take_all i xs past) so_far
