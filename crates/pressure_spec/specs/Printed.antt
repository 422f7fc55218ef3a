-- The values that a line of a pressure file prints: averages in hundredths of a percent, and totals
-- in us.
use Rattle.std.specs.Prelude.{◌≡◌, ℕ, ◌+◌, ◌*◌, ◌/◌, ◌%◌, ◌^◌, ◌≤◌, ◌<◌, All, length, List, ◌++◌, slice_index, codes, decimal}
use Rattle.psi_base.specs.declared.event.Level.{Level}
use Rattle.psi_spec.specs.Fields.{level_word}
use Rattle.pressure_spec.specs.File.{two_digits, hundredths}

-- An average (2,048 is 1 percent), converted to whole hundredths of a percent, rounded down.
abbrev pub in_hundredths : ℕ → ℕ
in_hundredths average = average / 2048 * 100 + hundredths average

-- The text of a number of hundredths of a percent: the whole percent, a point and two digits.
abbrev pub hundredths_text : ℕ → List ℕ
hundredths_text n = decimal (n / 100) ++ codes "." ++ two_digits (n % 100)

-- `known_line level averages total`: the line of a pressure file with the averages over 10, 60 and
-- 300 s (in hundredths of a percent) and the total (us).
abbrev pub known_line : Level → List ℕ → ℕ → List ℕ
known_line level averages total =
    level_word level ++ codes " avg10=" ++ hundredths_text (slice_index averages 0)
    ++ codes " avg60=" ++ hundredths_text (slice_index averages 1)
    ++ codes " avg300=" ++ hundredths_text (slice_index averages 2)
    ++ codes " total=" ++ decimal total ++ codes "\n"

-- A line of a pressure file can have these values: three averages of at most 100.00 percent each,
-- and a 64-bit total (us).
pub record CanShow (averages : List ℕ) (total : ℕ) : Type 0 where
  pub three : length averages ≡ 3
  pub most : All (λ average. average ≤ 10000) averages
  pub fits : total < 2 ^ 64
