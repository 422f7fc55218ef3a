-- The spelling of numbers: decimal digits without leading zeros, up to 2^64 - 1.
use Rattle.std.specs.Prelude.{ℕ, ◌+◌, ◌*◌, ◌-◌, ◌^◌, List, [], ◌∷◌, length, slice_index, nat_lt, ◌==◌, ◌&&◌, ◌||◌, not, if◌then◌else◌, Option, Some, None}
use Rattle.std.specs.Str.{all_ascii_digits}

-- `value_after n digits`: the number whose decimal digits are the digits of `n` followed by
-- `digits`. The digits are ASCII codes, in which `0` is 48.
abbrev pub value_after : ℕ → List ℕ → ℕ
value_after n [] = n
value_after n (c ∷ cs) = value_after (n * 10 + (c - 48)) cs

-- `digits_after n bytes`: the number whose decimal digits are the digits of `n` followed by
-- `bytes`. The result is `None` if a byte isn't a digit or the number doesn't fit in 64 bits.
unfoldable pub digits_after : ℕ → List ℕ → Option ℕ
digits_after n bytes = if all_ascii_digits bytes && nat_lt (value_after n bytes) (2 ^ 64) then Some (value_after n bytes) else None

-- `digits_of bytes`: the number whose decimal digits are `bytes`. Leading zeros are allowed, and no
-- bytes give 0. The result is `None` if a byte isn't a digit or the number doesn't fit in 64 bits.
abbrev pub digits_of : List ℕ → Option ℕ
digits_of bytes = digits_after 0 bytes

-- `number_of bytes`: the number that the bytes spell in decimal. The result is `None` if there are
-- no bytes, if a byte isn't a digit, or if there is a leading zero (except in `0`). It is also
-- `None` if the number doesn't fit in 64 bits.
unfoldable pub number_of : List ℕ → Option ℕ
number_of bytes = if nat_lt 0 (length bytes) && (nat_lt (length bytes) 2 || not (slice_index bytes 0 == 48)) then digits_of bytes else None
