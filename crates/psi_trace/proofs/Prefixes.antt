-- Proofs about lines at the start of buffered bytes, field by field.
use Rattle.std.proofs.Common.{◌≡◌, ℕ, ◌+◌, ◌-◌, ◌*◌, ◌^◌, ◌<◌, ◌≤◌, List, [], ◌∷◌, ◌++◌, length, take, drop, get_or, suc, refl, sym, ap, ◌∙◌, subst, arith, true, take-append-drop, append_assoc}
use Rattle.std.specs.Prelude.{Option, IfSome, decimal, codes}
use Rattle.std.specs.Str.{all_ascii_digits, bytes_eq}
use Rattle.std.proofs.lemmas.List.{take_more, drop_more, drop_at, length-take-le, length-append, get_or-take}
use Rattle.std.proofs.lemmas.Slice.Eq.{bytes_eq-Decides}
use Rattle.std.proofs.lemmas.Fmt.{decimal_digit, decimal-digits_value}
use Rattle.std.proofs.Math.Nat.{pow-suc, pow-le-pow_right}
use Rattle.psi_base.specs.Number.{value_after}
use Rattle.psi_base.specs.declared.event.Act.{Act}
use Rattle.psi_base.specs.declared.event.Act.TheVariants as act
use Rattle.psi_base.specs.declared.event.Cpu.{Cpu}
use Rattle.psi_base.specs.declared.event.Event.{Event}
use Rattle.psi_base.specs.declared.event.How.{How}
use Rattle.psi_base.specs.declared.event.Pid.{Pid}
use Rattle.psi_base.proofs.NumberLaws.{numerals}
use Rattle.psi_spec.specs.Fields.{IsPid, how_word, next_word, word}
use Rattle.psi_spec.specs.Grammar.{joined, spelling}
use Rattle.psi_spec.specs.Grammar as verb
use Rattle.trace_laws.proofs.GrammarReads.{found_first, spelled_in_line}
use Rattle.psi_trace.specs.Prefix.{AreDigits, AreFour, BeginsWithEvent, BeginsBufferWith, IsDigit}

-- ---- digits

all_digits-snoc : (ds : List ℕ) (d : ℕ) → all_ascii_digits ds ≡ true → 48 ≤ d → d ≤ 57 → all_ascii_digits (ds ++ d ∷ []) ≡ true
all_digits-snoc [] d all low high = grind (arith, low, high)
all_digits-snoc (e ∷ ds) d all low high = grind (arith, all, all_digits-snoc ds d)

value_after-snoc : (n : ℕ) (ds : List ℕ) (d : ℕ) → value_after n (ds ++ d ∷ []) ≡ value_after n ds * 10 + (d - 48)
value_after-snoc n [] d = refl
value_after-snoc n (e ∷ ds) d = value_after-snoc (n * 10 + (e - 48)) ds d

pub no_digits : (bytes : List ℕ) → AreDigits bytes 0 0
no_digits bytes = record {
  inside = omega arith;
  digits = refl;
  value = refl;
}

-- Appending a digit to a parsed number multiplies the number by 10 and adds the digit.
pub digit_more : (bytes : List ℕ) (count next number digit : ℕ) → next ≡ count + 1 → AreDigits bytes number count → count < length bytes → IsDigit (get_or bytes count 0) digit → AreDigits bytes (number * 10 + digit) next
digit_more bytes count next number digit is are inside one =
    let more = take_more bytes count 0 inside in
    rw (is, one.is) (record {
      inside = omega (arith, inside);
      digits = rw more (all_digits-snoc (take count bytes) (get_or bytes count 0) are.digits one.low one.high);
      value = rw more (value_after-snoc 0 (take count bytes) (get_or bytes count 0) ∙ ap (λ n. n * 10 + (get_or bytes count 0 - 48)) are.value);
    })

-- Appending four digits to a parsed number multiplies the number by 10,000 and adds the value of
-- the digits.
pub four_more : (bytes : List ℕ) (count number four : ℕ) → AreDigits bytes number count → count + 4 ≤ length bytes → AreFour bytes count four → AreDigits bytes (number * 10000 + four) (count + 4)
four_more bytes count number four are inside is =
    let one = digit_more bytes count (count + 1) number is.a (omega arith) are (omega (arith, inside)) is.first in
    let two = digit_more bytes (count + 1) (count + 2) (number * 10 + is.a) is.b (omega arith) one (omega (arith, inside)) is.second in
    let three = digit_more bytes (count + 2) (count + 3) ((number * 10 + is.a) * 10 + is.b) is.c (omega arith) two (omega (arith, inside)) is.third in
    let all = digit_more bytes (count + 3) (count + 4) (((number * 10 + is.a) * 10 + is.b) * 10 + is.c) is.d (omega arith) three (omega (arith, inside)) is.fourth in
    let value : (((number * 10 + is.a) * 10 + is.b) * 10 + is.c) * 10 + is.d ≡ number * 10000 + four = omega (arith, is.value) in
    subst (λ n. AreDigits bytes n (count + 4)) value all

-- ---- numbers with a given number of digits

pow_more : (count : ℕ) → 10 ^ (count + 1) ≡ 10 ^ count * 10
pow_more count = let next : count + 1 ≡ suc count = omega arith in ap (λ n. 10 ^ n) next ∙ pow-suc 10 count

pub below_more : (count next number digit byte : ℕ) → next ≡ count + 1 → number < 10 ^ count → IsDigit byte digit → number * 10 + digit < 10 ^ next
below_more count next number digit byte is below one = let step = pow_more count in rw is (omega (arith, below, one.high, one.is, step))

pub below_four : (bytes : List ℕ) (count number four : ℕ) → number < 10 ^ count → AreFour bytes count four → number * 10000 + four < 10 ^ (count + 4)
below_four bytes count number four below is =
    let one = below_more count (count + 1) number is.a _ (omega arith) below is.first in
    let two = below_more (count + 1) (count + 2) (number * 10 + is.a) is.b _ (omega arith) one is.second in
    let three = below_more (count + 2) (count + 3) ((number * 10 + is.a) * 10 + is.b) is.c _ (omega arith) two is.third in
    let all = below_more (count + 3) (count + 4) (((number * 10 + is.a) * 10 + is.b) * 10 + is.c) is.d _ (omega arith) three is.fourth in
    omega (arith, all, is.value)

-- A number of fewer than 19 digits has room for one more digit in 64 bits.
pub has_room : (count number : ℕ) → number < 10 ^ count → count < 19 → number < 10 ^ 18
has_room count number below few = let most = pow-le-pow_right {n = 10} (omega arith) {i = count} {j = 18} (omega (arith, few)) in omega (arith, below, most)

-- A number of at most 15 digits has room for four more digits in 64 bits.
pub has_room_for_four : (count number : ℕ) → number < 10 ^ count → count ≤ 15 → number < 10 ^ 15
has_room_for_four count number below few = let most = pow-le-pow_right {n = 10} (omega arith) {i = count} {j = 15} few in omega (arith, below, most)

-- A number of four digits is at most 9999.
pub four_small : (bytes : List ℕ) (place four : ℕ) → AreFour bytes place four → four ≤ 9999
four_small bytes place four is = omega (arith, is.value, is.first.is, is.first.high, is.second.is, is.second.high, is.third.is, is.third.high, is.fourth.is, is.fourth.high)

-- ---- a number and the byte after it

spelled_digits : (bytes : List ℕ) (number count : ℕ) → AreDigits bytes number count → 0 < count → (get_or bytes 0 0 ≡ 48 → count ≡ 1) → number < 2 ^ 64 → take count bytes ≡ decimal number
spelled_digits bytes number count are some first fits =
    let long : length (take count bytes) ≡ count = length-take-le count bytes are.inside in
    let prefix : get_or (take count bytes) 0 0 ≡ get_or bytes 0 0 = get_or-take count bytes 0 0 some in
    let same = decimal-digits_value numerals (take count bytes) are.digits (omega (arith, some, long)) (λ zero. long ∙ first (sym prefix ∙ zero)) (omega (arith, are.value, fits)) in
    sym same ∙ ap decimal are.value

pub number_prefix : (bytes : List ℕ) (number count end : ℕ) → AreDigits bytes number count → 0 < count → (get_or bytes 0 0 ≡ 48 → count ≡ 1) → number < 2 ^ 64 → count < length bytes → get_or bytes count 0 ≡ end → bytes ≡ decimal number ++ end ∷ drop (count + 1) bytes
number_prefix bytes number count end are some first fits inside is =
    sym (take-append-drop count bytes) ∙ ap (λ xs. xs ++ drop count bytes) (spelled_digits bytes number count are some first fits)
    ∙ ap (λ xs. decimal number ++ xs) (drop_more bytes count 0 inside ∙ ap (λ byte. byte ∷ drop (count + 1) bytes) is)

-- If the number before a byte is 0, the bytes begin with the digit 0 and that byte.
pub zero_prefix : (bytes rest : List ℕ) (number end : ℕ) → number ≡ 0 → bytes ≡ decimal number ++ end ∷ rest → bytes ≡ 48 ∷ end ∷ rest
zero_prefix bytes rest number end zero is = is ∙ ap (λ n. decimal n ++ end ∷ rest) zero ∙ ap (λ ds. ds ++ end ∷ rest) (decimal_digit 0 (omega arith))

-- ---- a verb

-- Bytes that begin with a verb are the verb and its fields.
pub verb_prefix : (bytes prefix fields verb : List ℕ) → prefix ≡ verb → bytes_eq (take (length prefix) bytes) prefix ≡ true → fields ≡ drop (length prefix) bytes → bytes ≡ verb ++ fields
verb_prefix bytes prefix fields verb same starts suffix =
    sym (take-append-drop (length prefix) bytes) ∙ ap (λ xs. xs ++ drop (length prefix) bytes) ((bytes_eq-Decides (take (length prefix) bytes) prefix).0 starts) ∙ ap (λ xs. prefix ++ xs) (sym suffix) ∙ ap (λ xs. xs ++ fields) same

-- ---- fields

joined-more : (word next : List ℕ) (words : List (List ℕ)) (rest : List ℕ) → joined (word ∷ next ∷ words) ++ rest ≡ word ++ 32 ∷ (joined (next ∷ words) ++ rest)
joined-more word next words rest = append_assoc word (32 ∷ joined (next ∷ words)) rest

-- A line of a verb with one, two or three fields is its words joined by spaces.
pub one_field : (time verb first fields rest : List ℕ) → fields ≡ first ++ 10 ∷ rest → time ++ 32 ∷ (verb ++ 32 ∷ fields) ≡ joined (time ∷ verb ∷ first ∷ []) ++ 10 ∷ rest
one_field time verb first fields rest is =
    ap (λ xs. time ++ 32 ∷ (verb ++ 32 ∷ xs)) is
    ∙ sym (joined-more time verb (first ∷ []) (10 ∷ rest) ∙ ap (λ xs. time ++ 32 ∷ xs) (joined-more verb first [] (10 ∷ rest)))

pub two_fields : (time verb first second fields more rest : List ℕ) → fields ≡ first ++ 32 ∷ more → more ≡ second ++ 10 ∷ rest → time ++ 32 ∷ (verb ++ 32 ∷ fields) ≡ joined (time ∷ verb ∷ first ∷ second ∷ []) ++ 10 ∷ rest
two_fields time verb first second fields more rest is then =
    let fields_are : fields ≡ joined (first ∷ second ∷ []) ++ 10 ∷ rest = is ∙ ap (λ xs. first ++ 32 ∷ xs) then ∙ sym (joined-more first second [] (10 ∷ rest)) in
    ap (λ xs. time ++ 32 ∷ (verb ++ 32 ∷ xs)) fields_are
    ∙ sym (joined-more time verb (first ∷ second ∷ []) (10 ∷ rest) ∙ ap (λ xs. time ++ 32 ∷ xs) (joined-more verb first (second ∷ []) (10 ∷ rest)))

pub three_fields : (time verb first second third fields more last rest : List ℕ) → fields ≡ first ++ 32 ∷ more → more ≡ second ++ 32 ∷ last → last ≡ third ++ 10 ∷ rest
    → time ++ 32 ∷ (verb ++ 32 ∷ fields) ≡ joined (time ∷ verb ∷ first ∷ second ∷ third ∷ []) ++ 10 ∷ rest
three_fields time verb first second third fields more last rest is then ends =
    let more_is : more ≡ joined (second ∷ third ∷ []) ++ 10 ∷ rest = then ∙ ap (λ xs. second ++ 32 ∷ xs) ends ∙ sym (joined-more second third [] (10 ∷ rest)) in
    let fields_are : fields ≡ joined (first ∷ second ∷ third ∷ []) ++ 10 ∷ rest = is ∙ ap (λ xs. first ++ 32 ∷ xs) more_is ∙ sym (joined-more first second (third ∷ []) (10 ∷ rest)) in
    ap (λ xs. time ++ 32 ∷ (verb ++ 32 ∷ xs)) fields_are
    ∙ sym (joined-more time verb (first ∷ second ∷ third ∷ []) (10 ∷ rest) ∙ ap (λ xs. time ++ 32 ∷ xs) (joined-more verb first (second ∷ third ∷ []) (10 ∷ rest)))

-- ---- the events of the parsed lines

abbrev event_at : ℕ → Act → Event
event_at at what = record { at = at; act = what }

pub switch_prefix : (at : ℕ) (cpu : Cpu) (next : Option Pid) (how : How) (fields more last rest : List ℕ) → at < 2 ^ 64 → cpu.0 < 2 ^ 32 → IfSome next IsPid → fields ≡ decimal cpu.0 ++ 32 ∷ more → more ≡ next_word next ++ 32 ∷ last → last ≡ how_word how ++ 10 ∷ rest
    → BeginsWithEvent (decimal at ++ (codes " switch " ++ fields)) (event_at at (act.Switch cpu next how)) rest
unfolding spelling
switch_prefix at cpu next how fields more last rest fits cpu_fits is_next is then ends = record {
  fits = record { at = fits; act = (cpu_fits, (is_next, (tt, tt))) };
  known = found_first verb.Switch refl;
  whole = three_fields (decimal at) (codes "switch") (decimal cpu.0) (next_word next) (how_word how) fields more last rest is then ends;
}

pub wake_prefix : (at : ℕ) (pid : Pid) (cpu : Cpu) (fields more rest : List ℕ) → at < 2 ^ 64 → IsPid pid → cpu.0 < 2 ^ 32 → fields ≡ decimal pid.0 ++ 32 ∷ more → more ≡ decimal cpu.0 ++ 10 ∷ rest
    → BeginsWithEvent (decimal at ++ (codes " wake " ++ fields)) (event_at at (act.Wake pid cpu)) rest
unfolding spelling
wake_prefix at pid cpu fields more rest fits is_pid cpu_fits is then = record {
  fits = record { at = fits; act = (is_pid, (cpu_fits, tt)) };
  known = found_first verb.Wake refl;
  whole = two_fields (decimal at) (codes "wake") (decimal pid.0) (decimal cpu.0) fields more rest is then;
}

pub migrate_prefix : (at : ℕ) (pid : Pid) (cpu : Cpu) (fields more rest : List ℕ) → at < 2 ^ 64 → IsPid pid → cpu.0 < 2 ^ 32 → fields ≡ decimal pid.0 ++ 32 ∷ more → more ≡ decimal cpu.0 ++ 10 ∷ rest
    → BeginsWithEvent (decimal at ++ (codes " migrate " ++ fields)) (event_at at (act.Migrate pid cpu)) rest
unfolding spelling
migrate_prefix at pid cpu fields more rest fits is_pid cpu_fits is then = record {
  fits = record { at = fits; act = (is_pid, (cpu_fits, tt)) };
  known = found_first verb.Migrate refl;
  whole = two_fields (decimal at) (codes "migrate") (decimal pid.0) (decimal cpu.0) fields more rest is then;
}

pub stall_prefix : (at : ℕ) (pid : Pid) (fields rest : List ℕ) → at < 2 ^ 64 → IsPid pid → fields ≡ decimal pid.0 ++ 10 ∷ rest → BeginsWithEvent (decimal at ++ (codes " stall " ++ fields)) (event_at at (act.Stall pid)) rest
unfolding spelling
stall_prefix at pid fields rest fits is_pid is = record {
  fits = record { at = fits; act = (is_pid, tt) };
  known = found_first verb.Stall refl;
  whole = one_field (decimal at) (codes "stall") (decimal pid.0) fields rest is;
}

pub unstall_prefix : (at : ℕ) (pid : Pid) (fields rest : List ℕ) → at < 2 ^ 64 → IsPid pid → fields ≡ decimal pid.0 ++ 10 ∷ rest → BeginsWithEvent (decimal at ++ (codes " unstall " ++ fields)) (event_at at (act.Unstall pid)) rest
unfolding spelling
unstall_prefix at pid fields rest fits is_pid is = record {
  fits = record { at = fits; act = (is_pid, tt) };
  known = found_first verb.Unstall refl;
  whole = one_field (decimal at) (codes "unstall") (decimal pid.0) fields rest is;
}

-- The length of the line at the start of the bytes is the number of bytes before the rest, minus
-- one for the newline.
pub counted_prefix : (bytes : List ℕ) (event : Event) (rest : List ℕ) → BeginsWithEvent bytes event rest → BeginsBufferWith bytes event (length bytes - length rest - 1)
counted_prefix bytes event rest begins =
    let text = spelling event in
    let long = ap length begins.whole ∙ length-append text (10 ∷ rest) in
    let count : length bytes - length rest - 1 ≡ length text = omega (arith, long) in
    let suffix : drop (length text + 1) bytes ≡ rest = ap (drop (length text + 1)) (begins.whole ∙ sym (append_assoc text (10 ∷ []) rest)) ∙ drop_at (text ++ 10 ∷ []) rest (length text + 1) (omega (arith, length-append text (10 ∷ []))) in
    rw count (record {
      begins = rw suffix begins;
      inside = omega (arith, long);
      short = (spelled_in_line event begins.fits).short;
    })
