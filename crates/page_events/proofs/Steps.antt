-- Each step takes at least four bytes, so the number of steps doesn't matter.
use Rattle.std.proofs.Common.{◌≡◌, ℕ, zero, suc, ◌-◌, ◌*◌, ◌/◌, ◌%◌, ◌<◌, ◌≤◌, List, [], ◌∷◌, length, drop, Bool, true, false, refl, sym, ap, ◌∙◌, subst, arith, length-drop}
use Rattle.std.specs.Prelude.{nat_lt, ◌==◌, ◌&&◌, if◌then◌else◌, ⊤}
use Rattle.std.proofs.lemmas.Bool.{ltb-false}
use Rattle.page_spec.specs.Fields.{word_of}
use Rattle.page_spec.specs.Records.{Record, Step, kind_step, long_step, record_at, records_after, records_from, step_at, walked}
use Rattle.page_spec.specs.Records.Step.{Ends, Skips, Gives}

-- what is true of both choices is true of the one that a test makes
either : (P : Step → Type 0) (b : Bool) (x y : Step) → (b ≡ true → P x) → (b ≡ false → P y) → P (if b then x else y)
either P true x y if_true if_false = if_true refl
either P false x y if_true if_false = if_false refl

-- a step leaves fewer than n bytes
abbrev pub Shrinks : ℕ → Step → Type 0
Shrinks n Ends = ⊤
Shrinks n (Skips time rest) = length rest < n
Shrinks n (Gives found rest) = length rest < n

dropped : (n k : ℕ) (after : List ℕ) → length after < n → length (drop k after) < n
dropped n k after few = omega (arith, few, length-drop k after)

long_shrinks : (n byte time kind amount more : ℕ) (after : List ℕ) → length after < n → Shrinks n (long_step byte time kind amount more after)
long_shrinks n byte time kind amount more after few =
    either (Shrinks n) (kind == 0) _ _ (λ _. dropped n more after few)
    (λ _. either (Shrinks n) (kind == 29) _ _ (λ _. either (Shrinks n) (amount == 0) _ _ (λ _. tt) (λ _. dropped n more after few))
    (λ _. either (Shrinks n) (kind == 30) _ _ (λ _. dropped n 4 after few) (λ _. dropped n 4 after few)))

kind_shrinks : (n byte time kind amount : ℕ) (after : List ℕ) → length after < n → Shrinks n (kind_step byte time kind amount after)
kind_shrinks n byte time kind amount after few =
    either (Shrinks n) (nat_lt 0 kind && nat_lt kind 29) _ _ (λ _. dropped n (4 * kind) after few)
    (λ _. either (Shrinks n) (nat_lt (length after) 4) _ _ (λ _. tt) (λ _. long_shrinks n byte time kind amount (word_of after) after few))

-- a step leaves fewer bytes than it found
pub step_shrinks : (end time : ℕ) (rest : List ℕ) → Shrinks (length rest) (step_at end time rest)
unfolding step_at
step_shrinks end time rest =
    either (Shrinks (length rest)) (nat_lt (length rest) 4) _ _ (λ _. tt)
    (λ long. let some : 4 ≤ length rest = ltb-false (length rest) 4 long in
    kind_shrinks (length rest) (end - length rest) time (word_of rest % 32) (word_of rest / 32) (drop 4 rest) (omega (arith, some, length-drop 4 rest)))

-- no step is left at the end
none_from : (n end time : ℕ) (rest : List ℕ) → length rest ≡ 0 → records_from n end time rest ≡ []
unfolding records_from step_at
none_from zero end time rest none = refl
none_from (suc n) end time [] none = refl
none_from (suc n) end time (byte ∷ rest) none = absurd (let no : ⊥ = omega (arith, none) in no)

-- two ways to go on that agree on what a step leaves
walk_same : (f g : ℕ → List ℕ → List Record) (n : ℕ) (step : Step) → ((time : ℕ) (rest : List ℕ) → length rest < n → f time rest ≡ g time rest) → Shrinks n step → walked f step ≡ walked g step
walk_same f g n Ends same few = refl
walk_same f g n (Skips time rest) same few = same time rest few
walk_same f g n (Gives found rest) same few = ap (λ records. found ∷ records) (same found.time rest few)

-- any number of steps that is large enough gives the same records
enough : (n m end time : ℕ) (rest : List ℕ) → length rest ≤ n → length rest ≤ m → records_from n end time rest ≡ records_from m end time rest
unfolding records_from
enough zero m end time rest left right = none_from zero end time rest (omega arith) ∙ sym (none_from m end time rest (omega arith))
enough (suc n) zero end time rest left right = none_from (suc n) end time rest (omega arith) ∙ sym (none_from zero end time rest (omega arith))
enough (suc n) (suc m) end time rest left right =
    walk_same (records_from n end) (records_from m end) (length rest) (step_at end time rest) (λ t r few. enough n m end t r (omega arith) (omega arith)) (step_shrinks end time rest)

-- one more step than is needed
one_more : (n end time : ℕ) (rest : List ℕ) → records_from (suc n) end time rest ≡ walked (records_from n end) (step_at end time rest)
unfolding records_from
one_more n end time rest = refl

-- the records of the rest, by its first step
by_step : (end time : ℕ) (rest : List ℕ) → records_after end time rest ≡ walked (records_from (length rest) end) (step_at end time rest)
by_step end time rest = enough (length rest) (suc (length rest)) end time rest (omega arith) (omega arith) ∙ one_more (length rest) end time rest

-- the end
pub step_ends : (end time : ℕ) (rest : List ℕ) → step_at end time rest ≡ Ends → records_after end time rest ≡ []
step_ends end time rest is = by_step end time rest ∙ ap (walked (records_from (length rest) end)) is

-- something that is no record
pub step_skips : (end time next : ℕ) (rest after : List ℕ) → step_at end time rest ≡ Skips next after → records_after end time rest ≡ records_after end next after
step_skips end time next rest after is =
    let few : length after < length rest = subst (Shrinks (length rest)) is (step_shrinks end time rest) in
    by_step end time rest ∙ ap (walked (records_from (length rest) end)) is ∙ enough (length rest) (length after) end next after (omega arith) (omega arith)

-- a record
pub step_gives : (end byte time next : ℕ) (rest bytes after : List ℕ) → step_at end time rest ≡ Gives (record_at byte next bytes) after
    → records_after end time rest ≡ record_at byte next bytes ∷ records_after end next after
step_gives end byte time next rest bytes after is =
    let few : length after < length rest = subst (Shrinks (length rest)) is (step_shrinks end time rest) in
    by_step end time rest ∙ ap (walked (records_from (length rest) end)) is
    ∙ ap (λ records. record_at byte next bytes ∷ records) (enough (length rest) (length after) end next after (omega arith) (omega arith))

-- what is left after a step that is no record
pub skip_shrinks : (end time next : ℕ) (rest after : List ℕ) → step_at end time rest ≡ Skips next after → length after < length rest
skip_shrinks end time next rest after is = subst (Shrinks (length rest)) is (step_shrinks end time rest)

-- nothing is left of no bytes
pub none_left : (end time : ℕ) → records_after end time [] ≡ []
unfolding records_from
none_left end time = refl
