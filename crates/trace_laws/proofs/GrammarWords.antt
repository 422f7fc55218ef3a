-- Proofs about the bytes of a field's word: each is above 32 (the space), and their number is
-- bounded.
use Rattle.std.proofs.Common.{◌≡◌, ℕ, ◌^◌, ◌<◌, ◌≤◌, ◌⊎◌, inl, inr, List, [], ◌∷◌, length, drop, refl, ap, arith, true, false, Bool, lit≤}
use Rattle.std.specs.Prelude.{Option, None, Some, IfSome, decimal, codes, nat_lt, nat_le, slice_index, ◌&&◌, ◌||◌, ◌==◌, if◌then◌else◌}
use Rattle.std.specs.List.{list_all}
use Rattle.std.specs.Str.{bytes_eq, all_ascii_digits}
use Rattle.std.proofs.lemmas.Slice.Eq.{bytes_eq-Decides}
use Rattle.std.proofs.lemmas.Fmt.{digits_decimal, length-decimal-le}
use Rattle.psi_base.specs.Path.{is_path, is_path_byte, is_component, parts_at, onto_first}
use Rattle.psi_base.proofs.NumberLaws.{numerals}
use Rattle.psi_base.specs.declared.event.Pid.{Pid}
use Rattle.psi_base.specs.declared.event.How.{How}
use Rattle.psi_base.specs.declared.event.How.TheVariants.{Preempt, Sleep, IoWait, Exit, Idle}
use Rattle.psi_base.specs.declared.event.Preference.{Preference}
use Rattle.psi_base.specs.declared.event.Preference.TheVariants.{Prefer, Plain, Avoid}
use Rattle.psi_base.specs.declared.event.Res.{Res}
use Rattle.psi_base.specs.declared.event.Res.TheVariants.{Io, Memory, Cpu as CpuRes}
use Rattle.psi_base.specs.declared.event.Level.{Level}
use Rattle.psi_base.specs.declared.event.Level.TheVariants.{SomeStalled, FullStalled}
use Rattle.psi_spec.specs.Fields.{Kind, pid, next, cpu, path, how, preference, amount, number, resource, level, account, Value, InRange, IsPid, word, next_word, how_word, preference_word, resource_word, level_word, account_word}
use Rattle.trace_laws.proofs.GrammarParts.{IsPrinted}

digits_printed : (bytes : List ℕ) → all_ascii_digits bytes ≡ true → IsPrinted bytes
digits_printed [] are = refl
digits_printed (c ∷ cs) are =
    let rest : IsPrinted cs = digits_printed cs (grind (arith, are)) in
    grind (arith, are, rest)

-- the bytes are digits, and there are at most `most`
record IsShort (bytes : List ℕ) (most : ℕ) : Type 0 where
  pub printed : IsPrinted bytes
  pub short : length bytes ≤ most

pub decimal_printed : (n : ℕ) → n < 2 ^ 64 → IsPrinted (decimal n)
decimal_printed n fits = digits_printed (decimal n) (digits_decimal numerals n fits)

pub decimal_short : (n : ℕ) → n < 2 ^ 64 → length (decimal n) ≤ 20
decimal_short n fits = length-decimal-le 20 n (omega arith) (omega arith) fits

path_byte_printed : (byte : ℕ) → is_path_byte byte ≡ true → nat_lt 32 byte ≡ true
path_byte_printed byte is = grind (arith, is)

-- the parts between slashes consist of bytes that a path may contain
abbrev pub PartsPass : List (List ℕ) → Type 0
PartsPass parts = list_all (λ part. list_all is_path_byte part) parts ≡ true

component_passes : (part : List ℕ) → is_component part ≡ true → list_all is_path_byte part ≡ true
component_passes part is = grind (arith, is)

components_pass : (parts : List (List ℕ)) → list_all is_component parts ≡ true → PartsPass parts
components_pass [] are = refl
components_pass (part ∷ parts) are =
    let first : list_all is_path_byte part ≡ true = component_passes part (grind (arith, are)) in
    let rest : PartsPass parts = components_pass parts (grind (arith, are)) in
    grind (arith, first, rest)

onto_passes : (byte : ℕ) (parts : List (List ℕ)) → PartsPass (onto_first byte parts) → (is_path_byte byte ≡ true) × PartsPass parts
onto_passes byte [] are = (grind (arith, are), refl)
onto_passes byte (part ∷ parts) are = (grind (arith, are), grind (arith, are))

if_passes : (test : Bool) (byte : ℕ) (parts : List (List ℕ)) → (test ≡ true → byte ≡ 47) → PartsPass (if test then [] ∷ parts else onto_first byte parts) → (nat_lt 32 byte ≡ true) × PartsPass parts
if_passes true byte parts slash are = (ap (λ b. nat_lt 32 b) (slash refl), are)
if_passes false byte parts slash are =
    let both = onto_passes byte parts are in
    (path_byte_printed byte both.0, both.1)

parts_printed : (bytes : List ℕ) → PartsPass (parts_at 47 bytes) → IsPrinted bytes
unfolding parts_at
parts_printed [] are = refl
parts_printed (byte ∷ bytes) are =
    let both = if_passes (byte == 47) byte (parts_at 47 bytes) (λ is. grind (arith, is)) are in
    let rest : IsPrinted bytes = parts_printed bytes both.1 in
    grind (arith, both.0, rest)

-- the bytes after the first slash of a path other than the root
record IsDeep (bytes : List ℕ) : Type 0 where
  pub slash : slice_index bytes 0 ≡ 47
  pub short : length bytes ≤ 255
  pub parts : list_all is_component (parts_at 47 (drop 1 bytes)) ≡ true

or_true : (a b : Bool) → (a || b) ≡ true → (a ≡ true) ⊎ (b ≡ true)
or_true true b is = inl refl
or_true false b is = inr is

deep_path : (bytes : List ℕ) → (slice_index bytes 0 == 47 && nat_le (length bytes) 255 && nat_le (length (parts_at 47 (drop 1 bytes))) 32 && list_all is_component (parts_at 47 (drop 1 bytes))) ≡ true → IsDeep bytes
deep_path bytes is = record { slash = grind (arith, is); short = grind (arith, is); parts = grind (arith, is) }

path_cases : (bytes : List ℕ) → is_path bytes ≡ true → (bytes ≡ codes "/") ⊎ IsDeep bytes
unfolding is_path
path_cases bytes is =
    elim (or_true (bytes_eq bytes (codes "/")) _ is) [
      | inl root ↦ inl ((bytes_eq-Decides bytes (codes "/")).0 root)
      | inr deep ↦ inr (deep_path bytes deep)
    ]

deep_printed : (bytes : List ℕ) → IsDeep bytes → IsPrinted bytes
deep_printed [] deep = refl
deep_printed (byte ∷ bytes) deep =
    let rest : IsPrinted bytes = parts_printed bytes (components_pass (parts_at 47 bytes) deep.parts) in
    grind (arith, rest, deep.slash)

path_shape : (bytes : List ℕ) → is_path bytes ≡ true → IsShort bytes 255
path_shape bytes is =
    elim (path_cases bytes is) [
      | inl root ↦ record { printed = ap (list_all (λ byte. nat_lt 32 byte)) root; short = omega (arith, ap length root) }
      | inr deep ↦ record { printed = deep_printed bytes deep; short = deep.short }
    ]

number_shape : (n : ℕ) → n < 2 ^ 64 → IsShort (decimal n) 20
number_shape n fits = record { printed = decimal_printed n fits; short = decimal_short n fits }

next_shape : (task : Option Pid) → IfSome task IsPid → IsShort (next_word task) 20
next_shape None fits = record { printed = refl; short = lit≤ tt }
next_shape (Some task) fits = number_shape task.0 (omega arith)

how_shape : (leaving : How) → IsShort (how_word leaving) 7
how_shape Preempt = record { printed = refl; short = lit≤ tt }
how_shape Sleep = record { printed = refl; short = lit≤ tt }
how_shape IoWait = record { printed = refl; short = lit≤ tt }
how_shape Exit = record { printed = refl; short = lit≤ tt }
how_shape Idle = record { printed = refl; short = lit≤ tt }

preference_shape : (wish : Preference) → IsShort (preference_word wish) 6
preference_shape Prefer = record { printed = refl; short = lit≤ tt }
preference_shape Plain = record { printed = refl; short = lit≤ tt }
preference_shape Avoid = record { printed = refl; short = lit≤ tt }

resource_shape : (which : Res) → IsShort (resource_word which) 6
resource_shape Io = record { printed = refl; short = lit≤ tt }
resource_shape Memory = record { printed = refl; short = lit≤ tt }
resource_shape CpuRes = record { printed = refl; short = lit≤ tt }

level_shape : (which : Level) → IsShort (level_word which) 4
level_shape SomeStalled = record { printed = refl; short = lit≤ tt }
level_shape FullStalled = record { printed = refl; short = lit≤ tt }

account_shape : (on : Bool) → IsShort (account_word on) 3
account_shape true = record { printed = refl; short = lit≤ tt }
account_shape false = record { printed = refl; short = lit≤ tt }

-- the greatest number of bytes in a word of this kind
abbrev pub longest : Kind → ℕ
longest pid = 20
longest next = 20
longest cpu = 20
longest path = 255
longest how = 7
longest preference = 6
longest amount = 20
longest number = 20
longest resource = 6
longest level = 4
longest account = 3

word_shape : (k : Kind) (value : Value k) → InRange k value → IsShort (word k value) (longest k)
word_shape pid value fits = number_shape value.0 (omega arith)
word_shape next value fits = next_shape value fits
word_shape cpu value fits = number_shape value.0 (omega arith)
word_shape path value fits = path_shape value fits
word_shape how value fits = how_shape value
word_shape preference value fits = preference_shape value
word_shape amount value fits = number_shape value (omega arith)
word_shape number value fits = number_shape value fits
word_shape resource value fits = resource_shape value
word_shape level value fits = level_shape value
word_shape account value fits = account_shape value

pub word_printed : (k : Kind) (value : Value k) → InRange k value → IsPrinted (word k value)
word_printed k value fits = (word_shape k value fits).printed

pub word_short : (k : Kind) (value : Value k) → InRange k value → length (word k value) ≤ longest k
word_short k value fits = (word_shape k value fits).short
