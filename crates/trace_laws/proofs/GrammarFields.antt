-- Proofs that parsing and spelling are inverse to each other for each kind of field, and about the
-- form of its words.
use Rattle.std.proofs.Common.{◌≡◌, ℕ, zero, suc, ◌^◌, ◌<◌, ◌⊎◌, inl, inr, ⊎_elim, List, [], ◌∷◌, refl, sym, ap, ◌∙◌, arith, true, false, Bool}
use Rattle.std.specs.Prelude.{Option, None, Some, IfSome, option_map, decimal, nat_lt, ◌&&◌, if◌then◌else◌}
use Rattle.std.specs.Str.{bytes_eq}
use Rattle.std.proofs.lemmas.Slice.Eq.{bytes_eq-Decides}
use Rattle.std.proofs.lemmas.Fmt.{decimal_digit}
use Rattle.psi_base.specs.Number.{number_of}
use Rattle.psi_base.specs.Path.{is_path}
use Rattle.psi_base.proofs.NumberLaws.{number_of-decimal, decimal-number_of}
use Rattle.psi_base.specs.declared.event.Pid.{Pid}
use Rattle.psi_base.specs.declared.event.Cpu.{Cpu}
use Rattle.psi_base.specs.declared.event.How.{How}
use Rattle.psi_base.specs.declared.event.How.TheVariants.{Preempt, Sleep, IoWait, Exit, Idle}
use Rattle.psi_base.specs.declared.event.Preference.{Preference}
use Rattle.psi_base.specs.declared.event.Preference.TheVariants.{Prefer, Plain, Avoid}
use Rattle.psi_base.specs.declared.event.Res.{Res}
use Rattle.psi_base.specs.declared.event.Res.TheVariants.{Io, Memory, Cpu as CpuRes}
use Rattle.psi_base.specs.declared.event.Level.{Level}
use Rattle.psi_base.specs.declared.event.Level.TheVariants.{SomeStalled, FullStalled}
use Rattle.psi_spec.specs.Fields.{Kind, pid, next, cpu, path, how, preference, amount, number, resource, level, account, Value, InRange, IsAmong, IsPid, word, value_of, named, accepted_if, number_in, task_or_none, next_word, how_word, preference_word, resource_word, level_word, account_word, hows, preferences, resources, levels, accounts}

if_some : {A : Type 0} (test : Bool) (x y : A) (rest : Option A) → (if test then Some x else rest) ≡ Some y → ((test ≡ true) × (x ≡ y)) ⊎ (rest ≡ Some y)
if_some true x y rest is = inl (refl, cc)
if_some false x y rest is = inr is

-- a name that is found is the text
pub named_spells : {A : Type 0} (name : A → List ℕ) (xs : List A) (text : List ℕ) (x : A) → named name xs text ≡ Some x → text ≡ name x
named_spells name [] text x is = absurd cc
named_spells name (y ∷ ys) text x is =
    elim (if_some (bytes_eq text (name y)) y x (named name ys text) is) [
      | inl found ↦ (bytes_eq-Decides text (name y)).0 found.0 ∙ ap name found.1
      | inr later ↦ named_spells name ys text x later
    ]

-- a name that is found is in the list
pub named_among : {A : Type 0} (name : A → List ℕ) (xs : List A) (text : List ℕ) (x : A) → named name xs text ≡ Some x → IsAmong x xs
named_among name [] text x is = absurd cc
named_among name (y ∷ ys) text x is =
    elim (if_some (bytes_eq text (name y)) y x (named name ys text) is) [
      | inl found ↦ inl (sym found.1)
      | inr later ↦ inr (named_among name ys text x later)
    ]

if_found : {A : Type 0} (test : Bool) (x y : A) (rest : Option A) → (test ≡ true → x ≡ y) → (test ≡ false → rest ≡ Some x) → (if test then Some y else rest) ≡ Some x
if_found true x y rest here later = ap (λ a. Some a) (sym (here refl))
if_found false x y rest here later = later refl

-- an element of the list is found by its name, if all names differ
pub named_again : {A : Type 0} (name : A → List ℕ) (xs : List A) (x : A) → ((y : A) → IsAmong y xs → name x ≡ name y → x ≡ y) → IsAmong x xs → named name xs (name x) ≡ Some x
named_again name [] x differ among = absurd among
named_again name (y ∷ ys) x differ among =
    if_found (bytes_eq (name x) (name y)) x y (named name ys (name x))
    (λ equal. differ y (inl refl) ((bytes_eq-Decides (name x) (name y)).0 equal))
    (λ other. named_again name ys x (λ z there. differ z (inr there))
    (⊎_elim (λ same. let equal = (bytes_eq-Decides (name x) (name y)).1 (ap name same) in absurd cc) (λ there. there) among))

map_some : {A B : Type 0} (f : A → B) (o : Option A) (y : B) → option_map f o ≡ Some y → (x : A) × (o ≡ Some x) × (f x ≡ y)
map_some f None y is = absurd cc
map_some f (Some x) y is = (x, refl, cc)

if_kept : (test : Bool) (m n : ℕ) → (if test then Some m else None) ≡ Some n → (m ≡ n) × (test ≡ true)
if_kept true m n is = (cc, refl)
if_kept false m n is = absurd cc

kept_some : (holds : ℕ → Bool) (read : Option ℕ) (n : ℕ) → accepted_if holds read ≡ Some n → (read ≡ Some n) × (holds n ≡ true)
kept_some holds None n is = absurd cc
kept_some holds (Some m) n is =
    let both = if_kept (holds m) m n is in
    (ap (λ k. let o : Option ℕ = Some k in o) both.0, ap holds (sym both.0) ∙ both.1)

-- a number that is parsed within a range has the parsed text as its spelling
number_in_spells : (holds : ℕ → Bool) (text : List ℕ) (n : ℕ) → number_in holds text ≡ Some n → (text ≡ decimal n) × (holds n ≡ true)
number_in_spells holds text n is =
    let both = kept_some holds (number_of text) n is in
    ((decimal-number_of text n both.0).0, both.1)

-- parsing the spelling of a number in a range gives the number
number_in_again : (holds : ℕ → Bool) (n : ℕ) → n < 2 ^ 64 → holds n ≡ true → number_in holds (decimal n) ≡ Some n
number_in_again holds n fits is = ap (accepted_if holds) (number_of-decimal n fits) ∙ ap (λ b. if b then Some n else None) is

none_some : {A : Type 0} (x : A) → (let o : Option A = None in o) ≡ Some x → ⊥
none_some x is = cc

task_of : ℕ → Pid
task_of n = record { 0 = n }

some_task : (n : ℕ) → 0 < n → task_or_none n ≡ Some (task_of n)
unfolding task_of
some_task n some = grind (arith, some)

next_spells : (n : ℕ) (task : Option Pid) → n < 2 ^ 32 → task_or_none n ≡ task → (decimal n ≡ next_word task) × IfSome task IsPid
unfolding task_of
next_spells zero None fits is = (decimal_digit 0 (omega arith), tt)
next_spells zero (Some task) fits is = absurd (none_some task is)
next_spells (suc n) None fits is = absurd (none_some (task_of (suc n)) (sym is ∙ some_task (suc n) (omega arith)))
next_spells (suc n) (Some task) fits is =
    let found : (let o : Option Pid = Some (task_of (suc n)) in o) ≡ Some task = sym (some_task (suc n) (omega arith)) ∙ is in
    let made : task_of (suc n) ≡ task = cc in
    let same : suc n ≡ task.0 = ap (λ (p : Pid). p.0) made in
    (ap decimal same, (omega (arith, same), omega (arith, same)))

path_spells : (test : Bool) (text bytes : List ℕ) → is_path text ≡ test → (if test then Some text else None) ≡ Some bytes → (is_path bytes ≡ true) × (text ≡ bytes)
path_spells true text bytes holds is =
    let same : text ≡ bytes = cc in
    (ap is_path (sym same) ∙ holds, same)
path_spells false text bytes holds is = absurd cc

-- a value that is parsed is in range, and has the parsed text as its spelling
pub value_spells : (k : Kind) (text : List ℕ) (value : Value k) → value_of k text ≡ Some value → InRange k value × (text ≡ word k value)
unfolding value_of
value_spells pid text value is =
    let found = map_some _ (number_in (λ n. nat_lt 0 n && nat_lt n (2 ^ 32)) text) value is in
    let read = number_in_spells _ text found.0 found.1 in
    let same : found.0 ≡ value.0 = ap (λ (p : Pid). p.0) found.2 in
    ((grind (arith, read.1, same), grind (arith, read.1, same)), read.0 ∙ ap decimal same)
value_spells next text value is =
    let found = map_some _ (number_in (λ n. nat_lt n (2 ^ 32)) text) value is in
    let read = number_in_spells _ text found.0 found.1 in
    let spells = next_spells found.0 value (grind (arith, read.1)) found.2 in
    (spells.1, read.0 ∙ spells.0)
value_spells cpu text value is =
    let found = map_some _ (number_in (λ n. nat_lt n (2 ^ 32)) text) value is in
    let read = number_in_spells _ text found.0 found.1 in
    let same : found.0 ≡ value.0 = ap (λ (p : Cpu). p.0) found.2 in
    (grind (arith, read.1, same), read.0 ∙ ap decimal same)
value_spells path text value is = path_spells (is_path text) text value refl is
value_spells how text value is = (tt, named_spells how_word hows text value is)
value_spells preference text value is = (tt, named_spells preference_word preferences text value is)
value_spells amount text value is =
    let read = number_in_spells _ text value is in
    (grind (arith, read.1), read.0)
value_spells number text value is =
    let read = decimal-number_of text value is in
    (read.1, read.0)
value_spells resource text value is = (tt, named_spells resource_word resources text value is)
value_spells level text value is = (tt, named_spells level_word levels text value is)
value_spells account text value is = (tt, named_spells account_word accounts text value is)

next_again : (task : Option Pid) → IfSome task IsPid → option_map task_or_none (number_in (λ n. nat_lt n (2 ^ 32)) (next_word task)) ≡ Some task
next_again None is = ap (λ text. option_map task_or_none (number_in (λ n. nat_lt n (2 ^ 32)) text)) (sym (decimal_digit 0 (omega arith))) ∙ ap (option_map task_or_none) (number_in_again (λ n. nat_lt n (2 ^ 32)) 0 (omega arith) (grind arith))
next_again (Some task) is = ap (option_map task_or_none) (number_in_again _ task.0 (omega arith) (grind (arith, is.1))) ∙ grind (arith, is.0)

how_again : (leaving : How) → value_of how (how_word leaving) ≡ Some leaving
unfolding value_of
how_again Preempt = refl
how_again Sleep = refl
how_again IoWait = refl
how_again Exit = refl
how_again Idle = refl

preference_again : (wish : Preference) → value_of preference (preference_word wish) ≡ Some wish
unfolding value_of
preference_again Prefer = refl
preference_again Plain = refl
preference_again Avoid = refl

resource_again : (which : Res) → value_of resource (resource_word which) ≡ Some which
unfolding value_of
resource_again Io = refl
resource_again Memory = refl
resource_again CpuRes = refl

level_again : (which : Level) → value_of level (level_word which) ≡ Some which
unfolding value_of
level_again SomeStalled = refl
level_again FullStalled = refl

account_again : (on : Bool) → value_of account (account_word on) ≡ Some on
unfolding value_of
account_again true = refl
account_again false = refl

-- parsing the spelling of a value in range gives the value
pub value_again : (k : Kind) (value : Value k) → InRange k value → value_of k (word k value) ≡ Some value
unfolding value_of
value_again pid value fits = ap (option_map _) (number_in_again _ value.0 (omega arith) (grind (arith, fits.0, fits.1)))
value_again next value fits = next_again value fits
value_again cpu value fits = ap (option_map _) (number_in_again _ value.0 (omega arith) (grind (arith, fits)))
value_again path value fits = ap (λ b. if b then Some value else None) fits
value_again how value fits = how_again value
value_again preference value fits = preference_again value
value_again amount value fits = number_in_again _ value (omega arith) (grind (arith, fits))
value_again number value fits = number_of-decimal value fits
value_again resource value fits = resource_again value
value_again level value fits = level_again value
value_again account value fits = account_again value
