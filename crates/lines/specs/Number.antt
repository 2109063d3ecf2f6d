-- A number as a line writes it.
use Rattle.std.specs.Prelude.{ℕ, ◌^◌, Bool, ◌&&◌, List, length, Option, nat_le, nat_lt}
use Rattle.std.specs.Bool.{then_some}
use Rattle.std.specs.Str.Parse.{digits_value}
use Rattle.std.specs.Str.{all_ascii_digits}

-- one to ten decimal digits, whose value fits 32 bits
abbrev pub is_number : List ℕ → Bool
is_number digits = nat_le 1 (length digits) && nat_le (length digits) 10 && all_ascii_digits digits && nat_lt (digits_value 10 digits) (2 ^ 32)

unfoldable pub number_of : List ℕ → Option ℕ
number_of digits = then_some (is_number digits) (digits_value 10 digits)
