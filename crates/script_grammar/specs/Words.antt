-- The words of a line: how each kind is spelled, and its range. A word is judged by its spelling before its range.
-- (Numbers, colours and names are those of the module Words.)
use Rattle.std.specs.Prelude.{ℕ, ◌-◌, ◌^◌, ℤ, pos, negsuc, int_le, Bool, ◌&&◌, ◌==◌, nat_lt, nat_le, List, [], ◌∷◌, length, Result, Ok, Err, if◌then◌else◌}
use lib.Chars.{codes}
use Rattle.std.specs.List.{list_all}
use Rattle.std.specs.Str.{bytes_eq}
use Rattle.std.specs.Str.Parse.{digits_value}
use Rattle.qws_base.specs.Sides.{Sides}
use Rattle.qws_base.specs.declared.points.Point.{Point}
use Rattle.qws_base.specs.declared.points.Rect.{Rect}
use Rattle.qws_base.specs.declared.inks.Ink.{Ink}
use Rattle.qws_base.specs.declared.inks.Ink.TheVariants.{Copy, Xor, And, Or, Blend}
use Rattle.script_grammar.specs.Judging.{◌>>=◌, ◌⊛◌, each_of, at_most, as_many}
use Rattle.script_grammar.specs.Spelling.{number_read, signed_read, in_range, below, place_read, side_read, width_read, height_read, colour_read, name_read, is_hex}
use Rattle.script_grammar.specs.Printing.{row_digits}
use Rattle.script_grammar.specs.declared.lines.Window.{Window}
use Rattle.script_grammar.specs.declared.lines.Window.TheVariants.{Named, Numbered}
use Rattle.script_grammar.specs.declared.lines.Cause.{Cause}
use Rattle.script_grammar.specs.declared.lines.Cause.TheVariants.{Form, Number, Range}

-- ---- numbers

-- an unsigned number, of the whole range of its spelling
unfoldable pub short_read : List ℕ → Result ℕ Cause
short_read word = number_read word >>= in_range 0 65535

-- one within a range
unfoldable pub ranged : ℕ → ℕ → List ℕ → Result ℕ Cause
ranged low high word = number_read word >>= in_range low high

-- one that is declared, or a client: below how many there are
unfoldable pub declared_read : ℕ → List ℕ → Result ℕ Cause
declared_read count word = short_read word >>= below count

abbrev pub in_signed : ℤ → Result ℤ Cause
in_signed z = if int_le (negsuc 32767) z && int_le z (pos 32767) then Ok z else Err Range

-- a signed number, of the whole range of its spelling
unfoldable pub coordinate_read : List ℕ → Result ℤ Cause
coordinate_read word = signed_read word >>= in_signed

-- ---- windows and words

-- a name, or `#` and a number
unfoldable pub window_read : List ℕ → Result Window Cause
window_read [] = Err Number
window_read (c ∷ word) = if c == 35 then (Ok Numbered ⊛ ranged 0 32 word) else (Ok Named ⊛ name_read (c ∷ word))

abbrev pub is_word_byte : ℕ → Bool
is_word_byte c = nat_le 33 c && nat_le c 126

-- 1 to 128 bytes
abbrev pub is_text_word : List ℕ → Bool
is_text_word word = (nat_lt 0 (length word) && nat_le (length word) 128) && list_all is_word_byte word

unfoldable pub text_word_read : List ℕ → Result (List ℕ) Cause
text_word_read word = if is_text_word word then Ok word else Err Number

-- ---- hexadecimal digits in lower case

unfoldable pub hex_read : List ℕ → Result ℕ Cause
hex_read word = if list_all is_hex word then Ok (digits_value 16 word) else Err Number

-- two digits for each
unfoldable pub pairs_read : List ℕ → Result (List ℕ) Cause
pairs_read [] = Ok []
pairs_read (a ∷ []) = Err Number
pairs_read (a ∷ b ∷ word) = Ok (λ y ys. y ∷ ys) ⊛ hex_read (a ∷ b ∷ []) ⊛ pairs_read word

-- eight digits for each
unfoldable pub eights_read : List ℕ → Result (List ℕ) Cause
eights_read [] = Ok []
eights_read (a ∷ b ∷ c ∷ d ∷ e ∷ f ∷ g ∷ h ∷ word) = Ok (λ y ys. y ∷ ys) ⊛ hex_read (a ∷ b ∷ c ∷ d ∷ e ∷ f ∷ g ∷ h ∷ []) ⊛ eights_read word
eights_read word = Err Number

-- there is one at least
abbrev pub filled : List ℕ → Result (List ℕ) Cause
filled [] = Err Number
filled (c ∷ word) = Ok (c ∷ word)

-- HEX: a minus for none, or pairs for at most 65,000 bytes
unfoldable pub bytes_read : List ℕ → Result (List ℕ) Cause
bytes_read word = if bytes_eq word (codes "-") then Ok [] else (filled word >>= pairs_read >>= at_most 65000)

-- CELLS: a minus for none, or eight digits for each of at most 16,384
unfoldable pub cells_read : List ℕ → Result (List ℕ) Cause
cells_read word = if bytes_eq word (codes "-") then Ok [] else (filled word >>= eights_read >>= at_most 16384)

-- PIXELS: eight digits for each
unfoldable pub pixels_read : List ℕ → Result (List ℕ) Cause
pixels_read word = filled word >>= eights_read

abbrev pub within_width : ℕ → ℕ → Result ℕ Cause
within_width width row = if nat_lt row (2 ^ width) then Ok row else Err Range

-- ROW: a digit for each four columns, and no bit beyond the width
unfoldable pub row_read : ℕ → List ℕ → Result ℕ Cause
row_read width word = if length word == row_digits width then (hex_read word >>= within_width width) else Err Number

-- ---- words that belong together

-- of a command
unfoldable pub point_read : List ℕ → List ℕ → Result Point Cause
point_read x y = Ok (λ x y. record { x = x; y = y }) ⊛ coordinate_read x ⊛ coordinate_read y

unfoldable pub rect_read : List ℕ → List ℕ → List ℕ → List ℕ → Result Rect Cause
rect_read x y w h = Ok (λ x y w h. record { x = x; y = y; w = w; h = h }) ⊛ coordinate_read x ⊛ coordinate_read y ⊛ short_read w ⊛ short_read h

-- of a paint: -4,096 to 4,095, and 1 to 4,096
unfoldable pub placed_point_read : List ℕ → List ℕ → Result Point Cause
placed_point_read x y = Ok (λ x y. record { x = x; y = y }) ⊛ place_read x ⊛ place_read y

unfoldable pub placed_rect_read : List ℕ → List ℕ → List ℕ → List ℕ → Result Rect Cause
placed_rect_read x y w h = Ok (λ x y w h. record { x = x; y = y; w = w; h = h }) ⊛ place_read x ⊛ place_read y ⊛ side_read w ⊛ side_read h

-- a screen's size: 1 to 640, and 1 to 480
unfoldable pub size_read : List ℕ → List ℕ → Result Sides Cause
size_read w h = Ok (λ w h. record { w = w; h = h }) ⊛ width_read w ⊛ height_read h

-- ---- lists of words

-- any number of groups X Y W H
abbrev pub rects_read : List (List ℕ) → Result (List Rect) Cause
rects_read [] = Ok []
rects_read (x ∷ y ∷ w ∷ h ∷ words) = Ok (λ r rs. r ∷ rs) ⊛ rect_read x y w h ⊛ rects_read words
rects_read words = Err Form

-- any number of points X Y of a paint
abbrev pub points_read : List (List ℕ) → Result (List Point) Cause
points_read [] = Ok []
points_read (x ∷ []) = Err Form
points_read (x ∷ y ∷ words) = Ok (λ p ps. p ∷ ps) ⊛ placed_point_read x y ⊛ points_read words

-- so many words in all, else it isn't of the form
abbrev pub in_count : {A : Type 0} → ℕ → ℕ → List (List ℕ) → Result A Cause → Result A Cause
in_count least most words judged = if nat_le least (length words) && nat_le (length words) most then judged else Err Form

-- ---- inks: the first word is fixed, and says how many there are

-- a colour, in front of more words
abbrev pub coloured : (ℕ → Ink) → List (List ℕ) → Result Ink Cause × List (List ℕ)
coloured ink [] = (Err Form, [])
coloured ink (c ∷ words) = (Ok ink ⊛ colour_read c, words)

abbrev pub blended : List (List ℕ) → Result Ink Cause × List (List ℕ)
blended [] = (Err Form, [])
blended (a ∷ []) = (Err Form, [])
blended (a ∷ c ∷ words) = (Ok (λ a c. Blend c a) ⊛ ranged 0 255 a ⊛ colour_read c, words)

-- an ink in front of more words, and these
unfoldable pub ink_then : List (List ℕ) → Result Ink Cause × List (List ℕ)
ink_then [] = (Err Form, [])
ink_then (kind ∷ words) =
    if bytes_eq kind (codes "copy") then coloured Copy words
    else if bytes_eq kind (codes "xor") then coloured Xor words
    else if bytes_eq kind (codes "and") then coloured And words
    else if bytes_eq kind (codes "or") then coloured Or words
    else if bytes_eq kind (codes "blend") then blended words
    else (Err Form, words)

-- no word follows
abbrev pub and_no_more : {A : Type 0} → Result A Cause × List (List ℕ) → Result A Cause
and_no_more judged = if length judged.1 == 0 then judged.0 else Err Form
