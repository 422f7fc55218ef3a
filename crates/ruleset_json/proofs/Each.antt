-- Proves the steps of a loop that parses the items of a list in order.
use Rattle.std.proofs.Common.{◌≡◌, ℕ, ◌<◌, ◌≤◌, ◌+◌, List, [], ◌∷◌, ◌++◌, Result, Ok, Err, length, map, drop, get_or, refl, sym, ap, arith, ◌∙◌}
use Rattle.std.proofs.lemmas.Grind.{common_steps}
use Rattle.std.proofs.lemmas.List.{length-map, get_or-map, drop_all, append-nil}
use Rattle.psi_base.specs.Gives.{FaultOf}
use Rattle.psi_base.specs.declared.event.Fault.{Fault}
use Rattle.psi_base.specs.declared.event.Fault.TheVariants.{Refused, NoMemory}
use Rattle.serde_json.specs.Data.{Data}
use Rattle.serde_json.specs.View.{view}
use Rattle.serde_json.specs.declared.value.Value.{Value}
use Rattle.psi_base.specs.ResultSteps.{◌>>=◌}
use Rattle.ruleset_json.specs.Rules.{each}
use Rattle.ruleset_json.specs.declared.fault.RulesFault.{RulesFault}

-- The result for the whole list: the items parsed so far, followed by the result for the remaining
-- items.
abbrev pub followed : {A : Type 0} → List A → Result (List A) RulesFault → Result (List A) RulesFault
followed prefix read = read >>= (λ rest. Ok (prefix ++ rest))

drop_step : {X : Type 0} (xs : List X) (i : ℕ) (d : X) → i < length xs → drop i xs ≡ get_or xs i d ∷ drop (i + 1) xs
drop_step xs i d inside = grind (arith, common_steps)

followed_more : {A : Type 0} (prefix : List A) (x : A) (rest : Result (List A) RulesFault) → followed prefix (followed (x ∷ []) rest) ≡ followed (prefix ++ x ∷ []) rest
followed_more prefix x (Ok xs) = grind (arith, common_steps)
followed_more prefix x (Err e) = refl

each_step : {A : Type 0} (f : ℕ → Data → Result A RulesFault) (vs : List Value) (i : ℕ) (d : Value) → i < length vs
    → each f i (drop i (map view vs)) ≡ (f i (view (get_or vs i d)) >>= (λ x. followed (x ∷ []) (each f (i + 1) (drop (i + 1) (map view vs)))))
each_step f vs i d inside =
    let bound : i < length (map view vs) = rw (length-map vs view) inside in
    rw (drop_step (map view vs) i (view d) bound, get_or-map view vs i d (view d) inside) refl

-- The loop step for an accepted item: the parsed item is added to the items parsed so far.
pub each_taken : {A : Type 0} (f : ℕ → Data → Result A RulesFault) (vs : List Value) (i : ℕ) (d : Value) (prefix : List A) (x : A) (whole : Result (List A) RulesFault) → i < length vs
    → followed prefix (each f i (drop i (map view vs))) ≡ whole
    → f i (view (get_or vs i d)) ≡ Ok x
    → followed (prefix ++ x ∷ []) (each f (i + 1) (drop (i + 1) (map view vs))) ≡ whole
each_taken f vs i d prefix x whole inside so_far is =
    let step : each f i (drop i (map view vs)) ≡ followed (x ∷ []) (each f (i + 1) (drop (i + 1) (map view vs))) = each_step f vs i d inside ∙ ap (λ r. r >>= (λ y. followed (y ∷ []) (each f (i + 1) (drop (i + 1) (map view vs))))) is in
    sym (followed_more prefix x _) ∙ ap (followed prefix) (sym step) ∙ so_far

-- The loop step for a rejected item: the whole list is rejected with the fault of that item.
pub each_refused : {A : Type 0} (f : ℕ → Data → Result A RulesFault) (vs : List Value) (i : ℕ) (d : Value) (prefix : List A) (e : RulesFault) (whole : Result (List A) RulesFault) → i < length vs
    → followed prefix (each f i (drop i (map view vs))) ≡ whole
    → f i (view (get_or vs i d)) ≡ Err e
    → whole ≡ Err e
each_refused f vs i d prefix e whole inside so_far is =
    let step : each f i (drop i (map view vs)) ≡ Err e = each_step f vs i d inside ∙ ap (λ r. r >>= (λ y. followed (y ∷ []) (each f (i + 1) (drop (i + 1) (map view vs))))) is in
    sym so_far ∙ ap (followed prefix) step

-- The loop step for an accepted item, if the item is given as a value.
pub item_taken : {A : Type 0} (f : ℕ → Data → Result A RulesFault) (vs : List Value) (i : ℕ) (v : Value) (prefix : List A) (x : A) (whole : Result (List A) RulesFault) → i < length vs
    → v ≡ get_or vs i v
    → followed prefix (each f i (drop i (map view vs))) ≡ whole
    → f i (view v) ≡ Ok x
    → followed (prefix ++ x ∷ []) (each f (i + 1) (drop (i + 1) (map view vs))) ≡ whole
item_taken f vs i v prefix x whole inside here so_far is = each_taken f vs i v prefix x whole inside so_far (ap (λ w. f i (view w)) (sym here) ∙ is)

pub item_faulted : {A : Type 0} (f : ℕ → Data → Result A RulesFault) (vs : List Value) (i : ℕ) (v : Value) (prefix : List A) (e : Fault RulesFault) (whole : Result (List A) RulesFault) → i < length vs
    → v ≡ get_or vs i v
    → followed prefix (each f i (drop i (map view vs))) ≡ whole
    → FaultOf e (f i (view v))
    → FaultOf e whole
item_faulted f vs i v prefix (Refused e) whole inside here so_far is = each_refused f vs i v prefix e whole inside so_far (ap (λ w. f i (view w)) (sym here) ∙ is)
item_faulted f vs i v prefix (NoMemory _) whole inside here so_far is = tt

-- After the last item, the whole list is accepted.
pub items_done : {A : Type 0} (f : ℕ → Data → Result A RulesFault) (vs : List Value) (i : ℕ) (prefix : List A) (whole : Result (List A) RulesFault) → length vs ≤ i
    → followed prefix (each f i (drop i (map view vs))) ≡ whole → whole ≡ Ok prefix
items_done f vs i prefix whole past so_far =
    let none : drop i (map view vs) ≡ [] = drop_all i (map view vs) (rw (length-map vs view) past) in
    sym so_far ∙ rw (none) (ap Ok (append-nil prefix))
