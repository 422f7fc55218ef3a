-- Proves that parsing a pressure file returns exactly the numbers that the file has.
use Rattle.std.proofs.Common.{◌≡◌, ℕ, zero, suc, ◌/◌, ◌%◌, ◌^◌, ◌<◌, ◌≤◌, List, [], ◌∷◌, ◌++◌}
use Rattle.std.proofs.Common.{refl, sym, ap, ◌∙◌, arith, append_assoc, Bool, true, false, length}
use Rattle.std.proofs.Common.{get_or, ◌↔◌}
use Rattle.std.specs.Prelude.{All, IsNone, Option, None, Some, ◌&&◌, if◌then◌else◌, codes, decimal}
use Rattle.std.proofs.Common.{inl, inr}
use Rattle.std.proofs.lemmas.Bool.{cases_lt}
use Rattle.std.proofs.lemmas.List.{append-nil, get_or_past}
use Rattle.psi_base.specs.declared.event.Level.{Level}
use Rattle.psi_base.specs.declared.event.Level.TheVariants.{SomeStalled, FullStalled}
use Rattle.psi_spec.specs.Fields.{level_word}
use Rattle.psi_spec.specs.Stall.{state_number}
use Rattle.pressure_spec.specs.Within.{IsRow}
use Rattle.pressure_spec.specs.File.{file_line, file_text, full_line, hundredths}
use Rattle.pressure_spec.specs.Printed.{CanShow}
use Rattle.pressure_spec.specs.File.{is_cpu, percent_text}
use Rattle.pressure_spec.specs.Printed.{hundredths_text, in_hundredths}
use Rattle.pressure_spec.specs.Printed.{known_line}
use Rattle.pressure_spec.specs.Samples.{state_of}
use Rattle.pressure_text.specs.declared.read.PressureFile.{PressureFile}
use Rattle.pressure_text.specs.declared.read.PressureLine.{PressureLine}
use Rattle.pressure_text.specs.FileRead.{average_at, suffix, file_at, if_end, irq_at, line_at, number_at}
use Rattle.pressure_text.specs.FileRead.{past}
use Rattle.pressure_text.specs.PrintedLines.{IrqReadsAgain, IsTellable, ReadsAgain, Shows, ShowsIrq}
use Rattle.pressure_text.specs.PrintedLines.{numbers_known, spelled_line}
use Rattle.pressure_text.proofs.Taken.{average_again, average_is, after_again, after_is, bind_some}
use Rattle.pressure_text.proofs.Taken.{found_same, number_again, number_is, past_is}

-- A line with these averages (hundredths of a percent) and this total (us).
abbrev pub line : ℕ → ℕ → ℕ → ℕ → PressureLine
line short middle long total = record { hundredths = short ∷ middle ∷ long ∷ []; total_us = total }

-- ---- a line

-- The bytes of a line, as a concatenation of its pieces and the remaining bytes.
line_parts : (level : Level) (short middle long total : ℕ) (rest : List ℕ) →
    known_line level (short ∷ middle ∷ long ∷ []) total ++ rest ≡
    level_word level ++ (codes " avg10=" ++ (hundredths_text short ++ (codes " avg60=" ++ (hundredths_text middle ++ (codes " avg300=" ++ (hundredths_text long ++ (codes " total=" ++ (decimal total ++ (codes "\n" ++ rest)))))))))
line_parts level short middle long total rest = simp append_assoc

pub line_again : (level : Level) (short middle long total : ℕ) (rest : List ℕ) → short ≤ 10000 →
    middle ≤ 10000 → long ≤ 10000 → total < 2 ^ 64 →
    line_at level (known_line level (short ∷ middle ∷ long ∷ []) total ++ rest) ≡ Some (line short middle long total, rest)
unfolding line_at
line_again level short middle long total rest first second third fits =
    let end : List ℕ = codes "\n" ++ rest in
    let after_long : List ℕ = codes " total=" ++ (decimal total ++ end) in
    let after_middle : List ℕ = codes " avg300=" ++ (hundredths_text long ++ after_long) in
    let after_short : List ℕ = codes " avg60=" ++ (hundredths_text middle ++ after_middle) in
    let start : List ℕ = codes " avg10=" ++ (hundredths_text short ++ after_short) in
    rw (
      line_parts level short middle long total rest,
      after_again (level_word level) start,
      after_again (codes " avg10=") (hundredths_text short ++ after_short),
      average_again short after_short first,
      after_again (codes " avg60=") (hundredths_text middle ++ after_middle),
      average_again middle after_middle second,
      after_again (codes " avg300=") (hundredths_text long ++ after_long),
      average_again long after_long third,
      after_again (codes " total=") (decimal total ++ end),
      number_again total end fits refl,
      after_again (codes "\n") rest,
    ) refl

-- The bytes begin with the line of the level `level` with the numbers `found`, and `rest` has the
-- remaining bytes.
pub record LineRead (level : Level) (bytes : List ℕ) (found : PressureLine) (rest : List ℕ) : Type 0 where
  pub can : CanShow found.hundredths found.total_us
  pub spelled : bytes ≡ known_line level found.hundredths found.total_us ++ rest

three_most : (short middle long : ℕ) → short ≤ 10000 → middle ≤ 10000 → long ≤ 10000 →
    All (λ average. average ≤ 10000) (short ∷ middle ∷ long ∷ [])
three_most short middle long first second third zero d below = first
three_most short middle long first second third (suc zero) d below = second
three_most short middle long first second third (suc (suc zero)) d below = third
three_most short middle long first second third (suc (suc (suc k))) d below = absurd (omega (arith, below))

line_of : (level : Level) (bytes : List ℕ) (found made : PressureLine) (rest : List ℕ) →
    made ≡ found → LineRead level bytes made rest → LineRead level bytes found rest
line_of level bytes found made rest same read = record {
  can = rw (← same) read.can;
  spelled = rw (← same) read.spelled;
}

pub line_is : (level : Level) (bytes : List ℕ) (found : PressureLine) (rest : List ℕ) →
    line_at level bytes ≡ Some (found, rest) → LineRead level bytes found rest
unfolding line_at
line_is level bytes found rest is =
    let start = bind_some (suffix (level_word level) bytes) _ (found, rest) is in
    let short = bind_some (past (codes " avg10=") average_at start.0) _ (found, rest) start.2 in
    let middle = bind_some (past (codes " avg60=") average_at short.0.1) _ (found, rest) short.2 in
    let long = bind_some (past (codes " avg300=") average_at middle.0.1) _ (found, rest) middle.2 in
    let total = bind_some (past (codes " total=") number_at long.0.1) _ (found, rest) long.2 in
    let end = bind_some (suffix (codes "\n") total.0.1) _ (found, rest) total.2 in
    let same = found_same (line short.0.0 middle.0.0 long.0.0 total.0.0) found end.0 rest end.2 in
    let word = after_is (level_word level) bytes start.0 start.1 in
    let label10 = past_is (codes " avg10=") average_at start.0 short.0 short.1 in
    let read10 = average_is label10.0 short.0.0 short.0.1 label10.2 in
    let label60 = past_is (codes " avg60=") average_at short.0.1 middle.0 middle.1 in
    let read60 = average_is label60.0 middle.0.0 middle.0.1 label60.2 in
    let label300 = past_is (codes " avg300=") average_at middle.0.1 long.0 long.1 in
    let read300 = average_is label300.0 long.0.0 long.0.1 label300.2 in
    let label_total = past_is (codes " total=") number_at long.0.1 total.0 total.1 in
    let read_total = number_is label_total.0 total.0.0 total.0.1 label_total.2 in
    let newline = after_is (codes "\n") total.0.1 end.0 end.1 in
    line_of level bytes found (line short.0.0 middle.0.0 long.0.0 total.0.0) rest same.0 (record {
      can = record {
        three = refl;
        most = three_most short.0.0 middle.0.0 long.0.0 read10.1 read60.1 read300.1;
        fits = read_total.1;
      };
      spelled =
          word
          ∙ ap (λ xs. level_word level ++ xs) (label10.1
          ∙ ap (λ xs. codes " avg10=" ++ xs) (read10.0
          ∙ ap (λ xs. hundredths_text short.0.0 ++ xs) (label60.1
          ∙ ap (λ xs. codes " avg60=" ++ xs) (read60.0
          ∙ ap (λ xs. hundredths_text middle.0.0 ++ xs) (label300.1
          ∙ ap (λ xs. codes " avg300=" ++ xs) (read300.0
          ∙ ap (λ xs. hundredths_text long.0.0 ++ xs) (label_total.1
          ∙ ap (λ xs. codes " total=" ++ xs) (read_total.0
          ∙ ap (λ xs. decimal total.0.0 ++ xs) (newline
          ∙ ap (λ xs. codes "\n" ++ xs) same.1)))))))))
          ∙ sym (line_parts level short.0.0 middle.0.0 long.0.0 total.0.0 rest);
    })

-- ---- a file

three_of : (xs : List ℕ) → length xs ≡ 3 → xs ≡ get_or xs 0 0 ∷ get_or xs 1 0 ∷ get_or xs 2 0 ∷ []
three_of [] three = absurd (omega arith)
three_of (a ∷ []) three = absurd (omega arith)
three_of (a ∷ b ∷ []) three = absurd (omega arith)
three_of (a ∷ b ∷ c ∷ []) three = refl
three_of (a ∷ b ∷ c ∷ d ∷ xs) three = absurd (omega arith)

-- The result of parsing a line with these averages and this total.
made : List ℕ → ℕ → List ℕ → Option (PressureLine × List ℕ)
made averages total rest =
    let numbers : PressureLine = record { hundredths = averages; total_us = total } in
    Some (numbers, rest)

-- Parsing a line with numbers in range returns these numbers.
known_again : (level : Level) (found : PressureLine) (rest : List ℕ) → IsTellable found →
    line_at level (spelled_line level found ++ rest) ≡ Some (found, rest)
unfolding made
known_again level found rest can =
    let average : ℕ → ℕ = λ k. get_or found.hundredths k 0 in
    let three = three_of found.hundredths can.three in
    let most : (k : ℕ) → k < 3 → average k ≤ 10000 = λ k below. can.most k 0 (omega (arith, can.three)) in
    let again =
    line_again level (average 0) (average 1) (average 2) found.total_us rest (most 0 (omega arith))
    (most 1 (omega arith)) (most 2 (omega arith)) can.fits in
    ap (λ xs. line_at level (known_line level xs found.total_us ++ rest)) three
    ∙ again ∙ ap (λ xs. made xs found.total_us rest) (sym three)

file_again : (bytes : List ℕ) (file : PressureFile) → Shows bytes file → file_at bytes ≡ Some file
unfolding file_at
file_again bytes file shows =
    let first : List ℕ = spelled_line SomeStalled file.some_line in
    let second : List ℕ = spelled_line FullStalled file.full_line in
    let whole : bytes ≡ first ++ (second ++ []) =
    shows.spelled ∙ ap (λ xs. first ++ xs) (sym (append-nil second)) in
    let some_read = known_again SomeStalled file.some_line (second ++ []) shows.some_line in
    let full_read = known_again FullStalled file.full_line [] shows.full_line in
    rw (whole, some_read, full_read) refl

end_is : {A : Type 0} (rest : List ℕ) (made read : A) → if_end rest made ≡ Some read →
    (rest ≡ []) × (made ≡ read)
end_is [] made read is = (refl, cc)
end_is (byte ∷ rest) made read is = absurd cc

file_is : (bytes : List ℕ) (file : PressureFile) → file_at bytes ≡ Some file → Shows bytes file
unfolding file_at
file_is bytes file is =
    let first = bind_some (line_at SomeStalled bytes) _ file is in
    let second = bind_some (line_at FullStalled first.0.1) _ file first.2 in
    let both : PressureFile = record { some_line = first.0.0; full_line = second.0.0 } in
    let end = end_is second.0.1 both file second.2 in
    let some_line : first.0.0 ≡ file.some_line = ap (λ (f : PressureFile). f.some_line) end.1 in
    let full_line : second.0.0 ≡ file.full_line = ap (λ (f : PressureFile). f.full_line) end.1 in
    let some_read =
    line_of SomeStalled bytes file.some_line first.0.0 first.0.1 some_line
    (line_is SomeStalled bytes first.0.0 first.0.1 first.1) in
    let full_read =
    line_of FullStalled first.0.1 file.full_line second.0.0 second.0.1 full_line
    (line_is FullStalled first.0.1 second.0.0 second.0.1 second.1) in
    let second_line : List ℕ = spelled_line FullStalled file.full_line in
    let after_the_first : first.0.1 ≡ second_line =
    full_read.spelled ∙ ap (λ xs. second_line ++ xs) end.0 ∙ append-nil second_line in
    record {
      some_line = some_read.can;
      full_line = full_read.can;
      spelled = some_read.spelled ∙ ap (λ xs. spelled_line SomeStalled file.some_line ++ xs) after_the_first;
    }

-- Parsing returns a pressure file if and only if the bytes are that file.
pub reads_known : (bytes : List ℕ) (file : PressureFile) → (file_at bytes ≡ Some file) ↔ Shows bytes file
reads_known bytes file = (file_is bytes file, file_again bytes file)

-- ---- a file of one line

irq_again : (bytes : List ℕ) (line : PressureLine) → ShowsIrq bytes line → irq_at bytes ≡ Some line
unfolding irq_at
irq_again bytes line shows =
    let only : List ℕ = spelled_line FullStalled line in
    let whole : bytes ≡ only ++ [] = shows.spelled ∙ sym (append-nil only) in
    rw (whole, known_again FullStalled line [] shows.full_line) refl

irq_is : (bytes : List ℕ) (line : PressureLine) → irq_at bytes ≡ Some line → ShowsIrq bytes line
unfolding irq_at
irq_is bytes line is =
    let found = bind_some (line_at FullStalled bytes) _ line is in
    let end = end_is found.0.1 found.0.0 line found.2 in
    let read =
    line_of FullStalled bytes line found.0.0 found.0.1 end.1
    (line_is FullStalled bytes found.0.0 found.0.1 found.1) in
    let only : List ℕ = spelled_line FullStalled line in
    record {
      full_line = read.can;
      spelled = read.spelled ∙ ap (λ xs. only ++ xs) end.0 ∙ append-nil only;
    }

-- Parsing returns a pressure file of one line if and only if the bytes are that file.
pub irq_time_by : (bytes : List ℕ) (line : PressureLine) → (irq_at bytes ≡ Some line) ↔ ShowsIrq bytes line
irq_time_by bytes line = (irq_is bytes line, irq_again bytes line)

-- ---- written files

percent_is : (average : ℕ) → percent_text average ≡ hundredths_text (in_hundredths average)
percent_is average =
    let below : hundredths average < 100 = omega arith in
    let whole : in_hundredths average / 100 ≡ average / 2048 = omega arith in
    let part : in_hundredths average % 100 ≡ hundredths average = omega arith in
    rw (whole, part) refl

-- A written line has whole hundredths of a percent and whole microseconds.
line_known : (level : Level) (averages : List ℕ) (total : ℕ) →
    file_line level averages total ≡ spelled_line level (numbers_known averages total)
line_known level averages total =
    let first = percent_is (get_or averages 0 0) in
    let second = percent_is (get_or averages 1 0) in
    let third = percent_is (get_or averages 2 0) in
    rw (first, second, third) refl

in_most : (average : ℕ) → average ≤ 204800 → in_hundredths average ≤ 10000
in_most average most = omega arith

-- The three averages are at most 100 percent, and the total is below 2^64.
abbrev Fit : List ℕ → ℕ → Type 0
Fit averages total = ((k : ℕ) → k < 3 → get_or averages k 0 ≤ 204800) × (total < 2 ^ 64)

-- The numbers of such a line are in the range that a pressure file can have.
can_show : (averages : List ℕ) (total : ℕ) → Fit averages total → IsTellable (numbers_known averages total)
can_show averages total fit =
    let most : (k : ℕ) → k < 3 → in_hundredths (get_or averages k 0) ≤ 10000 =
    λ k below. in_most (get_or averages k 0) (fit.0 k below) in
    record {
      three = refl;
      most = three_most _ _ _ (most 0 (omega arith)) (most 1 (omega arith)) (most 2 (omega arith));
      fits = omega (arith, fit.1);
    }

row_most : (averages : List (List ℕ)) (i k : ℕ) → All (λ row. IsRow row) averages → k < 3 →
    get_or (get_or averages i []) k 0 ≤ 204800
row_most averages i k rows below =
    elim (cases_lt i (length averages)) [
      | inl inside ↦ let row = rows i [] inside in row.most k 0 (omega (arith, row.three))
      | inr outside ↦ rw (get_or_past averages i [] outside) (omega arith)
    ]

total_fits : (totals : List ℕ) (i : ℕ) → All (λ total. total < 2 ^ 64) totals →
    get_or totals i 0 < 2 ^ 64
total_fits totals i fit =
    elim (cases_lt i (length totals)) [
      | inl inside ↦ fit i 0 inside
      | inr outside ↦ rw (get_or_past totals i 0 outside) (omega arith)
    ]

fit_of : (totals : List ℕ) (averages : List (List ℕ)) (i : ℕ) → All (λ total. total < 2 ^ 64) totals →
    All (λ row. IsRow row) averages → Fit (get_or averages i []) (get_or totals i 0)
fit_of totals averages i fit rows = (λ k below. row_most averages i k rows below, total_fits totals i fit)

-- The `full` line: zeros if `zeros`, and the given numbers otherwise.
abbrev full_of : Bool → List ℕ → ℕ → PressureLine
full_of zeros averages total = if zeros then numbers_known [] 0 else numbers_known averages total

full_known : (zeros : Bool) (averages : List ℕ) (total : ℕ) →
    (if zeros then file_line FullStalled [] 0 else file_line FullStalled averages total)
    ≡ spelled_line FullStalled (full_of zeros averages total)
full_known true averages total = line_known FullStalled [] 0
full_known false averages total = line_known FullStalled averages total

full_can : (zeros : Bool) (averages : List ℕ) (total : ℕ) → Fit averages total →
    IsTellable (full_of zeros averages total)
full_can true averages total fit = can_show [] 0 (λ k below. omega arith, omega arith)
full_can false averages total fit = can_show averages total fit

pub reads_again : ReadsAgain
unfolding file_text
reads_again res is_root totals averages fit rows =
    let some : ℕ = state_number (state_of res SomeStalled) in
    let full : ℕ = state_number (state_of res FullStalled) in
    let some_fit = fit_of totals averages some fit rows in
    let full_fit = fit_of totals averages full fit rows in
    let some_row : List ℕ = get_or averages some [] in
    let some_total : ℕ = get_or totals some 0 in
    let full_row : List ℕ = get_or averages full [] in
    let full_total : ℕ = get_or totals full 0 in
    let first = line_known SomeStalled some_row some_total in
    let second = full_known (is_root && is_cpu res) full_row full_total in
    record {
      some_line = can_show some_row some_total some_fit;
      full_line = full_can (is_root && is_cpu res) full_row full_total full_fit;
      spelled =
          ap (λ xs. xs ++ full_line res is_root totals averages) first
          ∙ ap (λ xs. spelled_line SomeStalled (numbers_known some_row some_total) ++ xs) second;
    }

pub irq_reads_again : IrqReadsAgain
irq_reads_again averages total fits row = record {
  full_line =
      can_show averages total (λ k below. row.most k 0 (omega (arith, row.three, below)), fits);
  spelled = line_known FullStalled averages total;
}

-- ---- the results of a call that parses as defined

-- The result is the value that the bytes spell, and no other value.
abbrev pub IsExact : {A : Type 0} → Option A → (A → Type 0) → Type 0
IsExact {A} result IsText = (read : A) → (result ≡ Some read) ↔ IsText read

none_of : {A : Type 0} (IsText : A → Type 0) (result : Option A) → IsExact result IsText →
    ((read : A) → ¬ IsText read) → IsNone result
none_of IsText None exact none = refl
none_of IsText (Some read) exact none = absurd (none read ((exact read).0 refl))

none_known : {A : Type 0} (IsText : A → Type 0) (result : Option A) → IsExact result IsText → IsNone result →
    (read : A) → ¬ IsText read
none_known IsText None exact none read known = let found = (exact read).1 known in absurd cc
none_known IsText (Some other) exact none read known = absurd cc

-- The result is `None` if and only if the bytes spell no value.
read_none : {A : Type 0} (IsText : A → Type 0) (result : Option A) → IsExact result IsText →
    IsNone result ↔ ((read : A) → ¬ IsText read)
read_none IsText result exact = (none_known IsText result exact, none_of IsText result exact)

pub file_exact : (bytes : List ℕ) (result : Option PressureFile) → result ≡ file_at bytes →
    IsExact result (Shows bytes)
file_exact bytes result is file = rw is (reads_known bytes file)

pub file_none : (bytes : List ℕ) (result : Option PressureFile) → result ≡ file_at bytes →
    IsNone result ↔ ((file : PressureFile) → ¬ Shows bytes file)
file_none bytes result is = read_none (Shows bytes) result (file_exact bytes result is)

pub irq_exact : (bytes : List ℕ) (result : Option PressureLine) → result ≡ irq_at bytes →
    IsExact result (ShowsIrq bytes)
irq_exact bytes result is line = rw is (irq_time_by bytes line)

pub irq_none : (bytes : List ℕ) (result : Option PressureLine) → result ≡ irq_at bytes →
    IsNone result ↔ ((line : PressureLine) → ¬ ShowsIrq bytes line)
irq_none bytes result is = read_none (ShowsIrq bytes) result (irq_exact bytes result is)
