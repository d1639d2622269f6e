-- How numbers, colours and names are spelled in a line, and their ranges. A word is judged by its spelling before its range.
use Rattle.std.specs.Prelude.{ℕ, ℤ, pos, negsuc, neg_ℤ, int_le, Bool, ◌&&◌, ◌||◌, not, ◌==◌, nat_lt, nat_le, List, [], ◌∷◌, length, slice_index, Result, Ok, Err, if◌then◌else◌}
use Rattle.std.specs.List.{slice_split, list_all}
use Rattle.std.specs.Str.Parse.{digits_value}
use Rattle.script_grammar.specs.Judging.{◌>>=◌}
use Rattle.script_grammar.specs.declared.lines.Cause.{Cause}
use Rattle.script_grammar.specs.declared.lines.Cause.TheVariants.{Number, Range, Unknown}

-- between single blanks
abbrev pub words_of : List ℕ → List (List ℕ)
words_of line = slice_split (λ c. c == 32) line

-- ---- numbers

abbrev pub is_digit : ℕ → Bool
is_digit c = nat_le 48 c && nat_le c 57

-- `0`, or 1 to 5 digits without a leading zero
abbrev pub is_number : List ℕ → Bool
is_number word = (nat_lt 0 (length word) && nat_le (length word) 5) && (list_all is_digit word && (length word == 1 || not (slice_index word 0 == 48)))

unfoldable pub number_read : List ℕ → Result ℕ Cause
number_read word = if is_number word then Ok (digits_value 10 word) else Err Number

abbrev pub in_range : ℕ → ℕ → ℕ → Result ℕ Cause
in_range low high n = if nat_le low n && nat_le n high then Ok n else Err Range

abbrev pub negated : ℕ → Result ℤ Cause
negated n = if n == 0 then Err Number else Ok (neg_ℤ (pos n))

-- a number, or a minus and one that isn't 0
unfoldable pub signed_read : List ℕ → Result ℤ Cause
signed_read [] = Err Number
signed_read (c ∷ word) = if c == 45 then (number_read word >>= negated) else (number_read (c ∷ word) >>= λ n. Ok (pos n))

abbrev pub in_places : ℤ → Result ℤ Cause
in_places z = if int_le (negsuc 4095) z && int_le z (pos 4095) then Ok z else Err Range

-- a coordinate: -4,096 to 4,095
unfoldable pub place_read : List ℕ → Result ℤ Cause
place_read word = signed_read word >>= in_places

-- a width or a height: 1 to 4,096
unfoldable pub side_read : List ℕ → Result ℕ Cause
side_read word = number_read word >>= in_range 1 4096

-- a screen's width: 1 to 640
unfoldable pub width_read : List ℕ → Result ℕ Cause
width_read word = number_read word >>= in_range 1 640

-- a screen's height: 1 to 480
unfoldable pub height_read : List ℕ → Result ℕ Cause
height_read word = number_read word >>= in_range 1 480

-- below how many there are
abbrev pub below : ℕ → ℕ → Result ℕ Cause
below count n = if nat_lt n count then Ok n else Err Unknown

-- ---- other words

abbrev pub is_hex : ℕ → Bool
is_hex c = (nat_le 48 c && nat_le c 57) || (nat_le 97 c && nat_le c 102)

-- six hexadecimal digits in lower case
unfoldable pub colour_read : List ℕ → Result ℕ Cause
colour_read word = if length word == 6 && list_all is_hex word then Ok (digits_value 16 word) else Err Number

abbrev pub is_letter : ℕ → Bool
is_letter c = nat_le 97 c && nat_le c 122

abbrev pub is_name_byte : ℕ → Bool
is_name_byte c = is_letter c || is_digit c

-- a letter, then at most 15 letters or digits
abbrev pub is_name_word : List ℕ → Bool
is_name_word word = (nat_lt 0 (length word) && nat_le (length word) 16) && (list_all is_name_byte word && is_letter (slice_index word 0))

unfoldable pub name_read : List ℕ → Result (List ℕ) Cause
name_read word = if is_name_word word then Ok word else Err Number
