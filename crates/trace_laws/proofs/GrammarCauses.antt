-- Proofs that a line that isn't accepted is rejected exactly for its leftmost error.
use Rattle.std.proofs.Common.{◌≡◌, ℕ, zero, suc, ◌+◌, ◌<◌, ◌⊎◌, inl, inr, List, [], ◌∷◌, refl, sym, ap, subst, ◌∙◌, arith}
use Rattle.std.specs.Prelude.{Option, None, Some, Result, Ok, Err}
use Rattle.std.specs.List.{slice_get}
use Rattle.psi_base.specs.Number.{number_of}
use Rattle.psi_base.specs.Path.{parts_at}
use Rattle.psi_base.proofs.NumberLaws.{number_of-decimal, decimal-number_of}
use Rattle.psi_base.specs.declared.event.Act.{Act}
use Rattle.psi_base.specs.declared.event.Event.{Event}
use Rattle.psi_base.specs.declared.event.Cause.{Cause}
use Rattle.psi_base.specs.declared.event.Cause.TheVariants as cause
use Rattle.psi_spec.specs.Fields.{IsAmong, Kind, Value, InRange, word, value_of}
use Rattle.psi_spec.specs.Fields as kind
use Rattle.psi_base.specs.ResultSteps.{◌>>=◌}
use Rattle.psi_spec.specs.Grammar.{Maker, Verb, form_of, verb_word, kinds_of, or_bad, field, made_from, act_from, verb_of, act_in, act_at, event_in, event_at, event_of}
use Rattle.psi_spec.specs.LineLaws.{Spells, IsGood, IsBad, IsFirstBad, HasTime, HasVerb, HasBadField, IsCause, FindsCauses}
use Rattle.trace_laws.proofs.GrammarFields.{value_spells, value_again}
use Rattle.trace_laws.proofs.GrammarReads.{field_ok, verb_again, verb_spells}

bind_err : {A B : Type 0} (r : Result A Cause) (f : A → Result B Cause) (why : Cause) → (r >>= f) ≡ Err why → (r ≡ Err why) ⊎ ((x : A) × ((r ≡ Ok x) × (f x ≡ Err why)))
bind_err (Ok x) f why is = inr (x, (refl, is))
bind_err (Err e) f why is = inl cc

err_same : {A : Type 0} (a b : Cause) → (let r : Result A Cause = Err a in r) ≡ Err b → a ≡ b
err_same a b is = cc

no_bad : {A : Type 0} (i : ℕ) (x : A) (words : List (List ℕ)) (why : Cause) → or_bad i (Some x) words ≡ Err why → ⊥
no_bad i x words why is = cc

-- if a word spells a value, parsing the word gives this value
spells_value : (k : Kind) (text : List ℕ) (spells : Spells k text) → value_of k text ≡ Some spells.0
spells_value k text spells = ap (value_of k) spells.1.1 ∙ value_again k spells.0 spells.1.0

no_value : (k : Kind) (text : List ℕ) (read : Option (Value k)) → value_of k text ≡ read → (Spells k text → ⊥) → read ≡ None
no_value k text None is bad = refl
no_value k text (Some value) is bad =
    let spells = value_spells k text value is in
    absurd (bad (value, (spells.0, spells.1)))

or_bad_err : (i : ℕ) (k : Kind) (text : List ℕ) (words : List (List ℕ)) (read : Option (Value k)) (why : Cause) → value_of k text ≡ read → or_bad i read words ≡ Err why → (why ≡ cause.BadField i) × (Spells k text → ⊥)
or_bad_err i k text words None why found is =
    (sym (err_same (cause.BadField i) why is), λ spells. let some = spells_value k text spells in cc)
or_bad_err i k text words (Some value) why found is = absurd (no_bad i value words why is)

field_err : (i : ℕ) (k : Kind) (words : List (List ℕ)) (why : Cause) → field i k words ≡ Err why → (why ≡ cause.BadField i) × IsBad (Some k) (slice_get words 0)
field_err i k [] why is = (sym (err_same (cause.BadField i) why is), tt)
field_err i k (text ∷ words) why is = or_bad_err i k text words (value_of k text) why refl is

good_then : (k : Kind) (value : Value k) (ks : List Kind) (words : List (List ℕ)) (at : ℕ) → InRange k value → IsFirstBad ks words at → (i : ℕ) → i < suc at → IsGood (slice_get (k ∷ ks) i) (slice_get (word k value ∷ words) i)
good_then k value ks words at fits first zero below = (value, (fits, refl))
good_then k value ks words at fits first (suc i) below = first.before i (omega arith)

-- fields are rejected with the number of the leftmost bad field
record IsRefused (i : ℕ) (ks : List Kind) (words : List (List ℕ)) (why : Cause) : Type 0 where
  pub at : ℕ
  pub is : why ≡ cause.BadField (i + at)
  pub first : IsFirstBad ks words at

made_err : (i : ℕ) (ks : List Kind) (make : Maker ks) (words : List (List ℕ)) (why : Cause) → made_from i ks make words ≡ Err why → IsRefused i ks words why
made_err i [] make [] why is = absurd cc
made_err i [] make (text ∷ words) why is = record {
  at = 0;
  is = sym (err_same (cause.BadField i) why is) ∙ ap (λ n. cause.BadField n) (omega arith);
  first = record { before = λ j below. absurd (omega arith); here = tt };
}
made_err i (k ∷ ks) make words why is =
    elim (bind_err (field i k words) _ why is) [
      | inl bad ↦
          let here = field_err i k words why bad in
          record {
            at = 0;
            is = here.0 ∙ ap (λ n. cause.BadField n) (omega arith);
            first = record { before = λ j below. absurd (omega arith); here = here.1 };
          }
      | inr good ↦
          let first = field_ok i k words good.0 good.1.0 in
          let rest = made_err (i + 1) ks (make good.0.0) good.0.1 why good.1.1 in
          record {
            at = suc rest.at;
            is = rest.is ∙ ap (λ n. cause.BadField n) (omega arith);
            first = rw first.0 record {
              before = good_then k good.0.0 ks good.0.1 rest.at first.1 rest.first;
              here = rest.first.here;
            };
          }
    ]

bad_field : (i : ℕ) (k : Kind) (words : List (List ℕ)) → IsBad (Some k) (slice_get words 0) → field i k words ≡ Err (cause.BadField i)
bad_field i k [] bad = refl
bad_field i k (text ∷ words) bad = ap (λ read. or_bad i read words) (no_value k text (value_of k text) refl bad)

good_field : (i : ℕ) (k : Kind) (text : List ℕ) (words : List (List ℕ)) (spells : Spells k text) → field i k (text ∷ words) ≡ Ok (spells.0, words)
good_field i k text words spells = ap (λ read. or_bad i read words) (spells_value k text spells)

same_number : (i j : ℕ) (A : Type 0) → i ≡ j → (let r : Result A Cause = Err (cause.BadField i) in r) ≡ Err (cause.BadField j)
same_number i j A is = ap (λ n. let r : Result A Cause = Err (cause.BadField n) in r) is

-- the leftmost bad field is rejected with its number
bad_made : (i : ℕ) (ks : List Kind) (make : Maker ks) (words : List (List ℕ)) (at : ℕ) → IsFirstBad ks words at → made_from i ks make words ≡ Err (cause.BadField (i + at))
bad_made i [] make [] at first = absurd first.here
bad_made i [] make (text ∷ words) zero first = same_number i (i + 0) Act (omega arith)
bad_made i [] make (text ∷ words) (suc at) first = absurd (first.before 0 (omega arith))
bad_made i (k ∷ ks) make words zero first =
    ap (λ r. r >>= λ taken. made_from (i + 1) ks (make taken.0) taken.1) (bad_field i k words first.here) ∙ same_number i (i + 0) Act (omega arith)
bad_made i (k ∷ ks) make [] (suc at) first = absurd (first.before 0 (omega arith))
bad_made i (k ∷ ks) make (text ∷ words) (suc at) first =
    let spells : Spells k text = first.before 0 (omega arith) in
    let later : IsFirstBad ks words at = record { before = λ j below. first.before (suc j) (omega arith); here = first.here } in
    ap (λ r. r >>= λ taken. made_from (i + 1) ks (make taken.0) taken.1) (good_field i k text words spells)
    ∙ bad_made (i + 1) ks (make spells.0) words at later
    ∙ same_number (i + 1 + at) (i + suc at) Act (omega arith)

act_from_err : (verb : Verb) (words : List (List ℕ)) (why : Cause) → act_from verb words ≡ Err why → IsRefused 1 (kinds_of verb) words why
unfolding act_from
act_from_err verb words why is = made_err 1 (kinds_of verb) (form_of verb).act words why is

unknown : (verbs : List Verb) (text : List ℕ) → verb_of verbs text ≡ None → (verb : Verb) → IsAmong verb verbs → text ≡ verb_word verb → ⊥
unknown verbs text none verb among is = let some = ap (verb_of verbs) is ∙ verb_again verbs verb among in cc

some_same : (a b : List ℕ) → Some a ≡ Some b → a ≡ b
some_same a b is = cc

act_in_err : (verbs : List Verb) (time text : List ℕ) (read : Option Verb) (words : List (List ℕ)) (why : Cause) → Spells kind.number time → verb_of verbs text ≡ read → act_in read words ≡ Err why → IsCause verbs (time ∷ text ∷ words) why
act_in_err verbs time text None words why timed found is =
    subst (λ w. IsCause verbs (time ∷ text ∷ words) w) (err_same cause.BadVerb why is) (timed, λ verb has. unknown verbs text found verb has.0 (some_same text (verb_word verb) has.1))
act_in_err verbs time text (Some verb) words why timed found is =
    let bad = act_from_err verb words why is in
    let spells = verb_spells verbs text verb found in
    subst (λ w. IsCause verbs (time ∷ text ∷ words) w) (sym bad.is) record {
      time = timed;
      verb = verb;
      has_verb = (spells.1, ap (λ t. Some t) spells.0);
      at = bad.at;
      is_number = omega arith;
      first = bad.first;
    }

act_at_err : (verbs : List Verb) (time : List ℕ) (words : List (List ℕ)) (why : Cause) → Spells kind.number time → act_at verbs words ≡ Err why → IsCause verbs (time ∷ words) why
unfolding act_at
act_at_err verbs time [] why timed is =
    subst (λ w. IsCause verbs (time ∷ []) w) (err_same cause.BadVerb why is) (timed, λ verb has. let none = has.1 in cc)
act_at_err verbs time (text ∷ words) why timed is = act_in_err verbs time text (verb_of verbs text) words why timed refl is

event_in_err : (verbs : List Verb) (time : List ℕ) (read : Option ℕ) (words : List (List ℕ)) (why : Cause) → number_of time ≡ read → event_in verbs read words ≡ Err why → IsCause verbs (time ∷ words) why
event_in_err verbs time None words why found is =
    subst (λ w. IsCause verbs (time ∷ words) w) (err_same cause.BadTime why is) (λ spells. let some = ap number_of spells.1.1 ∙ number_of-decimal spells.0 spells.1.0 in cc)
event_in_err verbs time (Some at) words why found is =
    let number = decimal-number_of time at found in
    elim (bind_err (act_at verbs words) _ why is) [
      | inl bad ↦ act_at_err verbs time words why (at, (number.1, number.0)) bad
      | inr none ↦ absurd cc (none.1.1)
    ]

event_at_err : (verbs : List Verb) (parts : List (List ℕ)) (why : Cause) → event_at verbs parts ≡ Err why → IsCause verbs parts why
unfolding event_at
event_at_err verbs [] why is = subst (λ w. IsCause verbs [] w) (err_same cause.BadTime why is) (λ has. has)
event_at_err verbs (time ∷ words) why is = event_in_err verbs time (number_of time) words why refl is

-- The converse: the cause is the one for the leftmost error.

no_time : (time : List ℕ) (read : Option ℕ) → number_of time ≡ read → (Spells kind.number time → ⊥) → read ≡ None
no_time time None found bad = refl
no_time time (Some at) found bad =
    let number = decimal-number_of time at found in
    absurd (bad (at, (number.1, number.0)))

no_verb : (verbs : List Verb) (text : List ℕ) (read : Option Verb) → verb_of verbs text ≡ read → ((verb : Verb) → IsAmong verb verbs → text ≡ verb_word verb → ⊥) → read ≡ None
no_verb verbs text None found bad = refl
no_verb verbs text (Some verb) found bad = let spells = verb_spells verbs text verb found in absurd (bad verb spells.1 spells.0)

timed_event : (verbs : List Verb) (time : List ℕ) (words : List (List ℕ)) (why : Cause) → Spells kind.number time → act_at verbs words ≡ Err why → event_at verbs (time ∷ words) ≡ Err why
unfolding event_at
timed_event verbs time words why spells bad =
    ap (λ t. event_in verbs t words) (ap number_of spells.1.1 ∙ number_of-decimal spells.0 spells.1.0)
    ∙ ap (λ r. r >>= λ what. let e : Result Event Cause = Ok (record { at = spells.0; act = what }) in e) bad

bad_time : (verbs : List Verb) (parts : List (List ℕ)) → (HasTime parts → ⊥) → event_at verbs parts ≡ Err cause.BadTime
unfolding event_at
bad_time verbs [] bad = refl
bad_time verbs (time ∷ words) bad = ap (λ t. event_in verbs t words) (no_time time (number_of time) refl bad)

verbless_act : (verbs : List Verb) (words : List (List ℕ)) → ((verb : Verb) → IsAmong verb verbs → slice_get words 0 ≡ Some (verb_word verb) → ⊥) → act_at verbs words ≡ Err cause.BadVerb
unfolding act_at
verbless_act verbs [] bad = refl
verbless_act verbs (text ∷ words) bad =
    ap (λ v. act_in v words) (no_verb verbs text (verb_of verbs text) refl (λ verb among is. bad verb among (ap (λ t. Some t) is)))

bad_verb : (verbs : List Verb) (parts : List (List ℕ)) → HasTime parts → ((verb : Verb) → HasVerb verbs parts verb → ⊥) → event_at verbs parts ≡ Err cause.BadVerb
bad_verb verbs [] has bad = absurd has
bad_verb verbs (time ∷ words) has bad = timed_event verbs time words cause.BadVerb has (verbless_act verbs words (λ verb among is. bad verb (among, is)))

fieldless_act : (verbs : List Verb) (verb : Verb) (text : List ℕ) (words : List (List ℕ)) (at : ℕ) → IsAmong verb verbs → text ≡ verb_word verb → IsFirstBad (kinds_of verb) words at → act_at verbs (text ∷ words) ≡ Err (cause.BadField (1 + at))
unfolding act_at act_from
fieldless_act verbs verb text words at among is first =
    ap (λ v. act_in v words) (ap (verb_of verbs) is ∙ verb_again verbs verb among)
    ∙ bad_made 1 (kinds_of verb) (form_of verb).act words at first

bad_event : (verbs : List Verb) (parts : List (List ℕ)) (number : ℕ) → HasBadField verbs parts number → event_at verbs parts ≡ Err (cause.BadField number)
bad_event verbs [] number bad = absurd bad.time
bad_event verbs (time ∷ []) number bad = let none = bad.has_verb.1 in absurd cc
bad_event verbs (time ∷ text ∷ words) number bad =
    timed_event verbs time (text ∷ words) (cause.BadField (1 + bad.at)) bad.time
    (fieldless_act verbs bad.verb text words bad.at bad.has_verb.0 (some_same text (verb_word bad.verb) bad.has_verb.1) bad.first)
    ∙ same_number (1 + bad.at) number _ (omega (arith, bad.is_number))

cause_event : (verbs : List Verb) (parts : List (List ℕ)) (why : Cause) → IsCause verbs parts why → event_at verbs parts ≡ Err why
cause_event verbs parts cause.BadTime is = bad_time verbs parts is
cause_event verbs parts cause.BadVerb is = bad_verb verbs parts is.0 is.1
cause_event verbs parts (cause.BadField number) is = bad_event verbs parts number is
cause_event verbs parts _ is = absurd is

pub finds_causes : FindsCauses
unfolding event_of
finds_causes verbs line why = (event_at_err verbs (parts_at 32 line) why, cause_event verbs (parts_at 32 line) why)
