use Rattle.std.proofs.Common.{◌≡◌, ℕ, ◌∷◌, ◌||◌, List, [], Bool, true, false, Some, None, refl, sym}
use Rattle.std.proofs.Common.{ap, ◌∙◌, if◌then◌else◌, true≢false}
use Rattle.std.specs.Str.{bytes_eq}
use Rattle.std.proofs.lemmas.Slice.Eq.{bytes_eq-Decides}
use Rattle.clap.specs.Walk.{arg_by_id, arg_by_long}
use Rattle.run_spec.specs.Words.{is_among}
use Rattle.psi_words.specs.Clap.{positional_id}
use Rattle.psi_words.proofs.Rules.{built_option, built_positional, built_rules}

pub same_text : (xs ys : List ℕ) → bytes_eq xs ys ≡ true → xs ≡ ys
same_text xs ys e = (bytes_eq-Decides xs ys).0 e

pub text_itself : (xs : List ℕ) → bytes_eq xs xs ≡ true
text_itself xs = (bytes_eq-Decides xs xs).1 refl

long_if : (b : Bool) (m n : List ℕ) (ns : List (List ℕ)) → bytes_eq m n ≡ b
    → arg_by_long (built_rules ns) n ≡ (if is_among n ns then Some (built_option n) else None)
    → arg_by_long (built_rules (m ∷ ns)) n
    ≡ (if is_among n (m ∷ ns) then Some (built_option n) else None)
long_if true m n ns is rest = rw is (ap (λ k. Some (built_option k)) (same_text m n is))
long_if false m n ns is rest = rw is rest

pub by_long : (n : List ℕ) (ns : List (List ℕ))
    → arg_by_long (built_rules ns) n ≡ (if is_among n ns then Some (built_option n) else None)
by_long n [] = refl
by_long n (m ∷ ns) = long_if (bytes_eq m n) m n ns refl (by_long n ns)

id_if : (b : Bool) (m n : List ℕ) (ns : List (List ℕ)) → bytes_eq m n ≡ b
    → (is_among n ns ≡ true → arg_by_id (built_rules ns) n ≡ Some (built_option n))
    → is_among n (m ∷ ns) ≡ true
    → arg_by_id (built_rules (m ∷ ns)) n ≡ Some (built_option n)
id_if true m n ns is rest among = rw is (ap (λ k. Some (built_option k)) (same_text m n is))
id_if false m n ns is rest among = rw is (rest (rw (sym (ap (λ b. b || is_among n ns) is)) among))

pub by_id : (n : List ℕ) (ns : List (List ℕ)) → is_among n ns ≡ true
    → arg_by_id (built_rules ns) n ≡ Some (built_option n)
by_id n [] among = absurd (true≢false (sym among))
by_id n (m ∷ ns) among = id_if (bytes_eq m n) m n ns refl (by_id n ns) among

positional_if : (b : Bool) (m : List ℕ) (ns : List (List ℕ)) → bytes_eq m positional_id ≡ b
    → (is_among positional_id ns ≡ false
    → arg_by_id (built_rules ns) positional_id ≡ Some built_positional)
    → is_among positional_id (m ∷ ns) ≡ false
    → arg_by_id (built_rules (m ∷ ns)) positional_id ≡ Some built_positional
positional_if true m ns is rest among =
    absurd (true≢false (sym (ap (λ b. b || is_among positional_id ns) is) ∙ among))
positional_if false m ns is rest among =
    rw is (rest (sym (ap (λ b. b || is_among positional_id ns) is) ∙ among))

pub positional_by_id : (ns : List (List ℕ)) → is_among positional_id ns ≡ false
    → arg_by_id (built_rules ns) positional_id ≡ Some built_positional
positional_by_id [] among = refl
positional_by_id (m ∷ ns) among =
    positional_if (bytes_eq m positional_id) m ns refl (positional_by_id ns) among
