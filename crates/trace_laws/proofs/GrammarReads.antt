-- Proofs that parsing and spelling an event are inverse to each other.
use Rattle.std.proofs.Common.{◌≡◌, ℕ, ◌+◌, ◌≤◌, List, [], ◌∷◌, length, refl, sym, ap, ◌∙◌, subst, arith, lit≤}
use Rattle.std.specs.Prelude.{Option, None, Some, Result, Ok, Err, decimal}
use Rattle.psi_base.specs.Number.{number_of}
use Rattle.psi_base.specs.Path.{parts_at}
use Rattle.psi_base.proofs.NumberLaws.{number_of-decimal, decimal-number_of}
use Rattle.psi_base.proofs.PartLaws.{HasNone}
use Rattle.psi_base.specs.declared.event.Act.{Act}
use Rattle.psi_base.specs.declared.event.Act.TheVariants as act
use Rattle.psi_base.specs.declared.event.Event.{Event}
use Rattle.psi_base.specs.declared.event.Cause.{Cause}
use Rattle.psi_spec.specs.Fields.{Kind, Value, InRange, IsAmong, named, word, value_of}
use Rattle.psi_base.specs.ResultSteps.{◌>>=◌}
use Rattle.psi_spec.specs.Grammar.{joined, act_words, spelling, ActFits, AreInRange, Fits, Maker, Values, Verb, phrase_of, field_words, Group, form_of, verb_word, kinds_of, One, Two, Version, first_verbs, verbs_of, IsKnown, or_bad, field, made_from, act_from, verb_of, act_in, act_at, event_in, event_at, event_of}
use Rattle.psi_spec.specs.LineLaws.{ReadsSpelled, SpelledInLine}
use Rattle.trace_laws.proofs.GrammarFields.{named_again, named_among, named_spells, value_spells, value_again}
use Rattle.trace_laws.proofs.GrammarParts.{joined-parts, parts-joined, AreWords, IsPrinted, joined-no_newline, suffix, length-joined}
use Rattle.trace_laws.proofs.GrammarWords.{decimal_printed, decimal_short, word_printed, word_short, longest}

-- the act that a maker builds from a tuple of values
abbrev pub made : (ks : List Kind) → Maker ks → Values ks → Act
made [] what values = what
made (k ∷ ks) make values = made ks (make values.0) values.1

-- the act with this verb and these values
abbrev pub act_of : (verb : Verb) → Values (kinds_of verb) → Act
act_of verb values = made (kinds_of verb) (form_of verb).act values

-- the words of an act are the word of its verb and the words of its values
pub form_words : (verb : Verb) (values : Values (kinds_of verb)) → act_words (act_of verb values) ≡ verb_word verb ∷ field_words (kinds_of verb) values
form_words Group values = refl
form_words _ values = refl

-- an act fits if its values are in range
form_fits : (verb : Verb) (values : Values (kinds_of verb)) → AreInRange (kinds_of verb) values → ActFits (act_of verb values)
form_fits Group values are = are
form_fits _ values are = are

-- an act is the act of its verb and the values of its fields
pub formed : (what : Act) → act_of (phrase_of what).verb (phrase_of what).values ≡ what
formed (act.Group path) = refl
formed _ = refl

-- looking up the word of a verb in the last version finds the verb
first_again : (verb : Verb) → named verb_word (verbs_of Two) (verb_word verb) ≡ Some verb
first_again Group = refl
first_again _ = refl

-- every verb is a verb of the last version
pub all_known : (verb : Verb) → IsAmong verb (verbs_of Two)
all_known verb = named_among verb_word (verbs_of Two) (verb_word verb) verb (first_again verb)

-- verbs with the same word are equal
words_differ : (one other : Verb) → verb_word one ≡ verb_word other → one ≡ other
words_differ one other same =
    let found : (let o : Option Verb = Some one in o) ≡ Some other = sym (first_again one) ∙ ap (named verb_word (verbs_of Two)) same ∙ first_again other in
    cc found

pub verb_again : (verbs : List Verb) (verb : Verb) → IsAmong verb verbs → verb_of verbs (verb_word verb) ≡ Some verb
unfolding verb_of
verb_again verbs verb among = named_again verb_word verbs verb (λ other there. words_differ verb other) among

pub verb_spells : (verbs : List Verb) (text : List ℕ) (verb : Verb) → verb_of verbs text ≡ Some verb → (text ≡ verb_word verb) × IsAmong verb verbs
unfolding verb_of
verb_spells verbs text verb is = (named_spells verb_word verbs text verb is, named_among verb_word verbs text verb is)

verb_printed : (verb : Verb) → IsPrinted (verb_word verb)
verb_printed Group = refl
verb_printed _ = refl

-- a sequence of two steps succeeds only if both do
pub bind_ok : {A B : Type 0} (r : Result A Cause) (f : A → Result B Cause) (y : B) → (r >>= f) ≡ Ok y → (x : A) × (r ≡ Ok x) × (f x ≡ Ok y)
bind_ok (Ok x) f y is = (x, refl, is)
bind_ok (Err e) f y is = absurd cc

ok_same : {A : Type 0} (x y : A) → (let r : Result A Cause = Ok x in r) ≡ Ok y → x ≡ y
ok_same x y is = cc

or_bad_ok : {A : Type 0} (i : ℕ) (read : Option A) (words : List (List ℕ)) (taken : A × List (List ℕ)) → or_bad i read words ≡ Ok taken → (read ≡ Some taken.0) × (words ≡ taken.1)
or_bad_ok i None words taken is = absurd cc
or_bad_ok {A} i (Some x) words taken is =
    let same : (let p : A × List (List ℕ) = (x, words) in p) ≡ taken = ok_same _ taken is in
    (ap (λ (p : A × List (List ℕ)). let o : Option A = Some p.0 in o) same, ap (λ (p : A × List (List ℕ)). p.1) same)

-- a field that is parsed is the first word, and its value is in range
pub field_ok : (i : ℕ) (k : Kind) (words : List (List ℕ)) (taken : Value k × List (List ℕ)) → field i k words ≡ Ok taken → (words ≡ word k taken.0 ∷ taken.1) × InRange k taken.0
field_ok i k [] taken is = absurd cc
field_ok i k (text ∷ words) taken is =
    let read = or_bad_ok i (value_of k text) words taken is in
    let spells = value_spells k text taken.0 read.0 in
    (ap (λ w. w ∷ words) spells.1 ∙ ap (λ ws. word k taken.0 ∷ ws) read.1, spells.0)

-- the words from which an act was built: they spell values in range
record IsMade (ks : List Kind) (make : Maker ks) (words : List (List ℕ)) (what : Act) : Type 0 where
  values : Values ks
  makes : made ks make values ≡ what
  words_are : words ≡ field_words ks values
  in_range : AreInRange ks values

made_ok : (i : ℕ) (ks : List Kind) (make : Maker ks) (words : List (List ℕ)) (what : Act) → made_from i ks make words ≡ Ok what → IsMade ks make words what
made_ok i [] make [] what is = record { values = tt; makes = ok_same make what is; words_are = refl; in_range = tt }
made_ok i [] make (text ∷ words) what is = absurd cc
made_ok i (k ∷ ks) make words what is =
    let first = bind_ok (field i k words) _ what is in
    let here = field_ok i k words first.0 first.1 in
    let later = made_ok (i + 1) ks (make first.0.0) first.0.1 what first.2 in
    record {
      values = (first.0.0, later.values);
      makes = later.makes;
      words_are = here.0 ∙ ap (λ ws. word k first.0.0 ∷ ws) later.words_are;
      in_range = (here.1, later.in_range);
    }

pub field_again : (i : ℕ) (k : Kind) (value : Value k) (words : List (List ℕ)) → InRange k value → field i k (word k value ∷ words) ≡ Ok (value, words)
field_again i k value words fits = ap (λ read. or_bad i read words) (value_again k value fits)

made_again : (i : ℕ) (ks : List Kind) (make : Maker ks) (values : Values ks) → AreInRange ks values → made_from i ks make (field_words ks values) ≡ Ok (made ks make values)
made_again i [] make values are = refl
made_again i (k ∷ ks) make values are =
    ap (λ r. r >>= λ first. made_from (i + 1) ks (make first.0) first.1) (field_again i k values.0 (field_words ks values.1) are.0)
    ∙ made_again (i + 1) ks (make values.0) values.1 are.1

-- an act that is parsed has the parsed words as its spelling
act_from_ok : (verb : Verb) (words : List (List ℕ)) (what : Act) → act_from verb words ≡ Ok what → (verb_word verb ∷ words ≡ act_words what) × ActFits what
unfolding act_from
act_from_ok verb words what is =
    let read = made_ok 1 (kinds_of verb) (form_of verb).act words what is in
    rw (← read.makes) (ap (λ ws. verb_word verb ∷ ws) read.words_are ∙ sym (form_words verb read.values), form_fits verb read.values read.in_range)

-- an act that is parsed: its words are its spelling, and its verb is in the list
record IsSpelled (verbs : List Verb) (words : List (List ℕ)) (what : Act) : Type 0 where
  spelled : words ≡ act_words what
  fits : ActFits what
  known : IsAmong (phrase_of what).verb verbs

verb_known : (verb : Verb) (values : Values (kinds_of verb)) → (phrase_of (act_of verb values)).verb ≡ verb
verb_known Group values = refl
verb_known _ values = refl

-- the verb of a parsed act is the verb that was looked up
act_from_verb : (verb : Verb) (words : List (List ℕ)) (what : Act) → act_from verb words ≡ Ok what → (phrase_of what).verb ≡ verb
unfolding act_from
act_from_verb verb words what is =
    let read = made_ok 1 (kinds_of verb) (form_of verb).act words what is in
    ap (λ a. (phrase_of a).verb) (sym read.makes) ∙ verb_known verb read.values

act_in_ok : (verbs : List Verb) (text : List ℕ) (read : Option Verb) (words : List (List ℕ)) (what : Act) → verb_of verbs text ≡ read → act_in read words ≡ Ok what → IsSpelled verbs (text ∷ words) what
act_in_ok verbs text None words what found is = absurd cc
act_in_ok verbs text (Some verb) words what found is =
    let spells = act_from_ok verb words what is in
    let here = verb_spells verbs text verb found in
    record {
      spelled = ap (λ t. t ∷ words) here.0 ∙ spells.0;
      fits = spells.1;
      known = subst (λ v. IsAmong v verbs) (sym (act_from_verb verb words what is)) here.1;
    }

act_at_ok : (verbs : List Verb) (words : List (List ℕ)) (what : Act) → act_at verbs words ≡ Ok what → IsSpelled verbs words what
unfolding act_at
act_at_ok verbs [] what is = absurd cc
act_at_ok verbs (text ∷ words) what is = act_in_ok verbs text (verb_of verbs text) words what refl is

event_in_ok : (verbs : List Verb) (time : List ℕ) (read : Option ℕ) (words : List (List ℕ)) (event : Event) → number_of time ≡ read → event_in verbs read words ≡ Ok event → (time ∷ words ≡ decimal event.at ∷ act_words event.act) × Fits event × IsKnown verbs event
event_in_ok verbs time None words event found is = absurd cc
event_in_ok verbs time (Some at) words event found is =
    let read = bind_ok (act_at verbs words) _ event is in
    let made : (let e : Event = record { at = at; act = read.0 } in e) ≡ event = ok_same _ event read.2 in
    let spells = act_at_ok verbs words read.0 read.1 in
    let number = decimal-number_of time at found in
    rw (← made) (ap (λ t. t ∷ words) number.0 ∙ ap (λ ws. decimal at ∷ ws) spells.spelled, record { at = number.1; act = spells.fits }, spells.known)

event_at_ok : (verbs : List Verb) (parts : List (List ℕ)) (event : Event) → event_at verbs parts ≡ Ok event → (parts ≡ decimal event.at ∷ act_words event.act) × Fits event × IsKnown verbs event
unfolding event_at
event_at_ok verbs [] event is = absurd cc
event_at_ok verbs (time ∷ words) event is = event_in_ok verbs time (number_of time) words event refl is

-- an event that is parsed is in range, and has the parsed line as its spelling
pub event_spelled : (verbs : List Verb) (line : List ℕ) (event : Event) → event_of verbs line ≡ Ok event → Fits event × IsKnown verbs event × (line ≡ spelling event)
unfolding event_of spelling
event_spelled verbs line event is =
    let spells = event_at_ok verbs (parts_at 32 line) event is in
    (spells.1, spells.2, sym (joined-parts line) ∙ ap joined spells.0)

act_from_again : (verb : Verb) (values : Values (kinds_of verb)) → AreInRange (kinds_of verb) values → act_from verb (field_words (kinds_of verb) values) ≡ Ok (act_of verb values)
unfolding act_from
act_from_again verb values are = made_again 1 (kinds_of verb) (form_of verb).act values are

act_at_again : (verbs : List Verb) (verb : Verb) (values : Values (kinds_of verb)) → IsAmong verb verbs → AreInRange (kinds_of verb) values → act_at verbs (verb_word verb ∷ field_words (kinds_of verb) values) ≡ Ok (act_of verb values)
unfolding act_at
act_at_again verbs verb values known are =
    ap (λ v. act_in v (field_words (kinds_of verb) values)) (verb_again verbs verb known) ∙ act_from_again verb values are

act_again : (verbs : List Verb) (what : Act) → IsAmong (phrase_of what).verb verbs → ActFits what → act_at verbs (act_words what) ≡ Ok what
act_again verbs what known fits =
    act_at_again verbs (phrase_of what).verb (phrase_of what).values known fits ∙ ap (λ a. let r : Result Act Cause = Ok a in r) (formed what)

event_again : (verbs : List Verb) (event : Event) → IsKnown verbs event → Fits event → event_at verbs (decimal event.at ∷ act_words event.act) ≡ Ok event
unfolding event_at
event_again verbs event known fits =
    ap (λ t. event_in verbs t (act_words event.act)) (number_of-decimal event.at fits.at)
    ∙ ap (λ r. r >>= λ what. let e : Result Event Cause = Ok (record { at = event.at; act = what }) in e) (act_again verbs event.act known fits.act)

words_printed : (ks : List Kind) (values : Values ks) → AreInRange ks values → AreWords (field_words ks values)
words_printed [] values are = tt
words_printed (k ∷ ks) values are = (word_printed k values.0 are.0, words_printed ks values.1 are.1)

act_printed : (what : Act) → ActFits what → AreWords (act_words what)
act_printed what fits = (verb_printed (phrase_of what).verb, words_printed (kinds_of (phrase_of what).verb) (phrase_of what).values fits)

event_printed : (event : Event) → Fits event → AreWords (decimal event.at ∷ act_words event.act)
event_printed event fits = (decimal_printed event.at fits.at, act_printed event.act fits.act)

-- parsing the spelling of an event gives the event
pub spelled_event : (verbs : List Verb) (event : Event) → IsKnown verbs event → Fits event → event_of verbs (spelling event) ≡ Ok event
unfolding event_of spelling
spelled_event verbs event known fits =
    ap (event_at verbs) (parts-joined (decimal event.at) (act_words event.act) (event_printed event fits)) ∙ event_again verbs event known fits

pub reads_spelled : ReadsSpelled
reads_spelled verbs line event = (event_spelled verbs line event, λ spells. ap (event_of verbs) spells.2 ∙ spelled_event verbs event spells.1 spells.0)

-- every event has a verb of the last version
pub event_known : (event : Event) → IsKnown (verbs_of Two) event
event_known event = all_known (phrase_of event.act).verb

-- a verb that is found among the verbs of every version is in that list
pub found_first : (verb : Verb) → named verb_word first_verbs (verb_word verb) ≡ Some verb → IsAmong verb first_verbs
found_first verb found = named_among verb_word first_verbs (verb_word verb) verb found

-- an event with a verb of every version has a verb of each version
pub known_still : (version : Version) (event : Event) → IsKnown first_verbs event → IsKnown (verbs_of version) event
known_still One event known = known
known_still Two event known = event_known event

-- a spelling has no newline
pub spelling-no_newline : (event : Event) → Fits event → HasNone 10 (spelling event) (length (spelling event))
unfolding spelling
spelling-no_newline event fits = joined-no_newline (decimal event.at ∷ act_words event.act) (event_printed event fits)

-- events with the same spelling are equal
pub spelling-injective : (first second : Event) → Fits first → Fits second → spelling first ≡ spelling second → first ≡ second
spelling-injective first second fits also same =
    ok_same first second (sym (spelled_event (verbs_of Two) first (event_known first) fits) ∙ ap (event_of (verbs_of Two)) same ∙ spelled_event (verbs_of Two) second (event_known second) also)

-- the greatest number of bytes of fields with a space before each
abbrev pub most : List Kind → ℕ
most [] = 0
most (k ∷ ks) = 1 + longest k + most ks

after_short_one : (ks : List Kind) (values : Values ks) → AreInRange ks values → suffix (field_words ks values) ≤ most ks
after_short_one [] values are = omega arith
after_short_one (k ∷ ks) values are = omega (arith, word_short k values.0 are.0, after_short_one ks values.1 are.1)

form_short : (verb : Verb) → length (verb_word verb) + most (kinds_of verb) ≤ 400
form_short Group = lit≤ tt
form_short _ = lit≤ tt

act_short : (what : Act) → ActFits what → suffix (act_words what) ≤ 401
act_short what fits =
    omega (arith, form_short (phrase_of what).verb, after_short_one (kinds_of (phrase_of what).verb) (phrase_of what).values fits)

-- a spelling has at most 512 bytes, which is the limit of a line
pub length-spelling-le : (event : Event) → Fits event → length (spelling event) ≤ 512
unfolding spelling
length-spelling-le event fits =
    omega (arith, length-joined (decimal event.at) (act_words event.act), decimal_short event.at fits.at, act_short event.act fits.act)

pub spelled_in_line : SpelledInLine
spelled_in_line event fits = record { one = spelling-no_newline event fits; short = length-spelling-le event fits }
