-- Printed words have no blanks, and are not empty.
use Rattle.std.proofs.Common.{◌≡◌, ℕ, ◌+◌, ◌*◌, ◌/◌, ◌%◌, ◌<◌, ◌≤◌, zero, suc, ℤ, pos, negsuc, List, [], ◌∷◌, ◌++◌, length, map, Bool, true, false, ◌&&◌, ◌||◌, cond, nat_le, nat_lt, Result, Ok, Err, refl, ap, sym, ◌∙◌, subst, arith, append-nil, append_assoc, length-append, ◌≤ℤ◌, ◌^◌}
use Rattle.std.specs.Prelude.{◌==◌, ⊤, All}
use lib.Chars.{codes}
use Rattle.std.specs.List.{list_all, list_any, flat_map, join_with_byte, slice_split}
use Rattle.std.specs.Fmt.{decimal, signed_decimal}
use Rattle.std.specs.Str.Parse.{AllDigits}
use Rattle.std.proofs.lemmas.Bool.Decides.{nat_tests}
use Rattle.std.proofs.lemmas.Fmt.{decimal_is_IsNumeral}
use Rattle.std.proofs.lemmas.Str.Parse.{digit_from_value}
use Rattle.std.proofs.lemmas.Int.{ints}
use Rattle.std.proofs.lemmas.List.Elements.{All-nil, All-cons, All-head, All-tail}
use Rattle.std.proofs.lemmas.List.Splits.{slice_split_none, slice_split_at}
use Rattle.qws_base.specs.declared.points.Point.{Point}
use Rattle.qws_base.specs.declared.points.Rect.{Rect}
use Rattle.qws_base.specs.declared.inks.Ink.{Ink}
use Rattle.qws_base.specs.declared.inks.Ink.TheVariants.{Skip, Copy, Xor, And, Or, Blend}
use Rattle.qws_base.specs.Points.{IsPlaced}
use Rattle.gfx_fills.specs.Parts.{IsPlacedRect}
use Rattle.glyph_masks.specs.Glyphs.{GlyphView, FontView}
use Rattle.script_grammar.specs.Spelling.{words_of, is_digit, is_hex, is_name_word, is_name_byte}
use Rattle.script_grammar.specs.Limits.{IsShort, IsSigned, IsName, IsWord, IsWindowWord, IsSignedPoint, IsAsked, IsByte, IsInk, IsCall, IsAsset, IsCallLine}
use Rattle.script_grammar.specs.Printing.{hex, colour, hex_groups, row_digits, window_word, point_words, rect_words, ink_words, shown_word, kind_word, call_words, line_words, asset_words, ended_line}
use Rattle.script_grammar.specs.Words.{is_word_byte, is_text_word}
use Rattle.script_grammar.specs.Reading.{is_blank, text_lines}
use Rattle.script_grammar.specs.Session.{Session, Asset, FontLine, GlyphLine, ImageLine}
use Rattle.script_grammar.specs.declared.lines.Window.{Window}
use Rattle.script_grammar.specs.declared.lines.Window.TheVariants.{Named, Numbered}
use Rattle.script_grammar.specs.declared.lines.LineCall.{LineCall}
use Rattle.script_grammar.specs.declared.lines.LineCall.TheVariants.{Create, Destroy, Region, Move, Raise, Lower, Shape, Cursor, Show, Join, Leave, Send, Take, Known, Fill, Tile, Blit, Line, Polyline, Polygon, Text}
use Rattle.script_grammar.specs.declared.lines.CallLine.{CallLine}
use Rattle.script_grammar.proofs.Spelling.{both, and_true, digits_all}
use Rattle.script_grammar.proofs.Heads.{some_pixels}
use Rattle.script_grammar.proofs.Hex.{length-hex, hex_all}

pub record IsPlain (word : List ℕ) : Type 0 where
  pub some : 0 < length word
  pub bytes : list_all is_word_byte word ≡ true

abbrev pub Plain : List (List ℕ) → Type 0
Plain [] = ⊤
Plain (word ∷ words) = IsPlain word × Plain words

-- ---- words

all_more : (p q : ℕ → Bool) → ((c : ℕ) → p c ≡ true → q c ≡ true) → (w : List ℕ) → list_all p w ≡ true → list_all q w ≡ true
all_more p q more [] h = refl
all_more p q more (c ∷ w) h = let parts = both (p c) (list_all p w) h in and_true (q c) (list_all q w) (more c parts.0) (all_more p q more w parts.1)

all_two : (p : ℕ → Bool) (v w : List ℕ) → list_all p v ≡ true → list_all p w ≡ true → list_all p (v ++ w) ≡ true
all_two p [] w h k = k
all_two p (c ∷ v) w h k = let parts = both (p c) (list_all p v) h in and_true (p c) (list_all p (v ++ w)) parts.0 (all_two p v w parts.1 k)

digit_is_plain : (c : ℕ) → is_digit c ≡ true → is_word_byte c ≡ true
digit_is_plain c h = let ends = both (nat_le 48 c) (nat_le c 57) h in and_true (nat_le 33 c) (nat_le c 126) (grind (arith, nat_tests)) (grind (arith, nat_tests))

hex_is_plain : (c : ℕ) → is_hex c ≡ true → is_word_byte c ≡ true
hex_is_plain c h = grind (arith, nat_tests)

name_byte_is_plain : (c : ℕ) → is_name_byte c ≡ true → is_word_byte c ≡ true
name_byte_is_plain c h = grind (arith, nat_tests)

pub decimal_plain : (n : ℕ) → n < 2 ^ 64 → IsPlain (decimal n)
decimal_plain n small = let k = decimal_is_IsNumeral n small in record { some = k.0.0; bytes = all_more is_digit is_word_byte digit_is_plain (decimal n) (digits_all (decimal n) k.0.1) }

short_plain : (n : ℕ) → n ≤ 65535 → IsPlain (decimal n)
short_plain n h = decimal_plain n (omega arith)

signed_plain : (z : ℤ) → negsuc 99998 ≤ℤ z → z ≤ℤ pos 99999 → IsPlain (signed_decimal z)
signed_plain (pos n) low high = decimal_plain n (let small : n ≤ 99999 = omega (arith, ints) in omega arith)
signed_plain (negsuc n) low high =
    let small : n ≤ 99998 = omega (arith, ints) in
    let word = decimal_plain (suc n) (omega arith) in
    record { some = omega arith; bytes = word.bytes }

name_plain : (name : List ℕ) → IsName name → IsPlain name
name_plain name h =
    let parts = both (nat_lt 0 (length name) && nat_le (length name) 16) _ h in
    let sizes = both (nat_lt 0 (length name)) (nat_le (length name) 16) parts.0 in
    let rest = both (list_all is_name_byte name) _ parts.1 in
    record { some = grind (arith, nat_tests); bytes = all_more is_name_byte is_word_byte name_byte_is_plain name rest.0 }

word_plain : (word : List ℕ) → IsWord word → IsPlain word
word_plain word h =
    let parts = both (nat_lt 0 (length word) && nat_le (length word) 128) (list_all is_word_byte word) h in
    let sizes = both (nat_lt 0 (length word)) (nat_le (length word) 128) parts.0 in
    record { some = grind (arith, nat_tests); bytes = parts.1 }

window_plain : (window : Window) → IsWindowWord window → IsPlain (window_word window)
window_plain (Named name) h = name_plain name h
window_plain (Numbered slot) h = let word = short_plain slot (omega arith) in record { some = omega arith; bytes = word.bytes }

hex_plain : (k n : ℕ) → 0 < k → IsPlain (hex k n)
hex_plain k n some = record { some = omega (arith, length-hex k n); bytes = all_more is_hex is_word_byte hex_is_plain (hex k n) (hex_all k n) }

groups_all : (k : ℕ) (xs : List ℕ) → list_all is_word_byte (flat_map (hex k) xs) ≡ true
groups_all k [] = refl
groups_all k (x ∷ xs) = all_two is_word_byte (hex k x) (flat_map (hex k) xs) (all_more is_hex is_word_byte hex_is_plain (hex k x) (hex_all k x)) (groups_all k xs)

length_pos : (k x : ℕ) (xs : List ℕ) → length (flat_map (hex k) (x ∷ xs)) ≡ k + length (flat_map (hex k) xs)
length_pos k x xs = length-append (hex k x) (flat_map (hex k) xs) ∙ ap (λ n. n + length (flat_map (hex k) xs)) (length-hex k x)

some_groups : (k x : ℕ) (xs : List ℕ) → 0 < k → 0 < length (flat_map (hex k) (x ∷ xs))
some_groups k x xs some = omega (arith, length_pos k x xs)

groups_plain : (k : ℕ) (xs : List ℕ) → 0 < k → IsPlain (hex_groups k xs)
groups_plain k [] some = record { some = omega arith; bytes = refl }
groups_plain k (x ∷ xs) some = record { some = some_groups k x xs some; bytes = groups_all k (x ∷ xs) }

-- ---- lists of words

two_plain : (v w : List (List ℕ)) → Plain v → Plain w → Plain (v ++ w)
two_plain [] w h k = k
two_plain (word ∷ v) w h k = (h.0, two_plain v w h.1 k)

coordinate_plain : (z : ℤ) → IsSigned z → IsPlain (signed_decimal z)
coordinate_plain z h = let low = h.low in let high = h.high in signed_plain z (omega (arith, ints)) (omega (arith, ints))

point_plain : (p : Point) → IsSignedPoint p → Plain (point_words p)
point_plain p h = (coordinate_plain p.x h.x, (coordinate_plain p.y h.y, tt))

placed_plain : (p : Point) → IsPlaced p → Plain (point_words p)
placed_plain p h =
    let a = h.low_x in let b = h.high_x in let c = h.low_y in let d = h.high_y in
    (signed_plain p.x (omega (arith, ints)) (omega (arith, ints)), (signed_plain p.y (omega (arith, ints)) (omega (arith, ints)), tt))

rect_plain : (r : Rect) → IsAsked r → Plain (rect_words r)
rect_plain r h = (coordinate_plain r.x h.x, (coordinate_plain r.y h.y, (short_plain r.w h.w, (short_plain r.h h.h, tt))))

placed_rect_plain : (r : Rect) → IsPlacedRect r → Plain (rect_words r)
placed_rect_plain r h =
    let at = placed_plain (record { x = r.x; y = r.y }) h.corner in
    let w = h.most_w in
    let k = h.most_h in
    (at.0, (at.1.0, (short_plain r.w (omega arith), (short_plain r.h (omega arith), tt))))

pub colour_plain : (c : ℕ) → IsPlain (colour c)
colour_plain c = hex_plain 6 c (omega arith)

byte_plain : (a : ℕ) → IsByte a → IsPlain (decimal a)
byte_plain a h = short_plain a (omega arith)

abbrev pub fixed_plain : (w : List ℕ) → 0 < length w → list_all is_word_byte w ≡ true → IsPlain w
fixed_plain w some bytes = record { some = some; bytes = bytes }

ink_plain : (ink : Ink) → IsInk ink → Plain (ink_words ink)
ink_plain Skip h = absurd h
ink_plain (Copy c) h = (fixed_plain _ (omega arith) refl, (colour_plain c, tt))
ink_plain (Xor c) h = (fixed_plain _ (omega arith) refl, (colour_plain c, tt))
ink_plain (And c) h = (fixed_plain _ (omega arith) refl, (colour_plain c, tt))
ink_plain (Or c) h = (fixed_plain _ (omega arith) refl, (colour_plain c, tt))
ink_plain (Blend c a) h = (fixed_plain _ (omega arith) refl, (byte_plain a h.1, (colour_plain c, tt)))

rects_plain : (rs : List Rect) → All IsAsked rs → Plain (flat_map rect_words rs)
rects_plain [] h = tt
rects_plain (r ∷ rs) h = two_plain (rect_words r) (flat_map rect_words rs) (rect_plain r (All-head IsAsked r rs h)) (rects_plain rs (All-tail IsAsked r rs h))

points_plain : (ps : List Point) → All IsPlaced ps → Plain (flat_map point_words ps)
points_plain [] h = tt
points_plain (p ∷ ps) h = two_plain (point_words p) (flat_map point_words ps) (placed_plain p (All-head IsPlaced p ps h)) (points_plain ps (All-tail IsPlaced p ps h))

codes_plain : (xs : List ℕ) → All IsShort xs → Plain (map decimal xs)
codes_plain [] h = tt
codes_plain (x ∷ xs) h = (short_plain x (All-head IsShort x xs h), codes_plain xs (All-tail IsShort x xs h))

rows_plain : (width : ℕ) (rows : List ℕ) → 0 < width → Plain (map (hex (row_digits width)) rows)
rows_plain width [] some = tt
rows_plain width (row ∷ rows) some = (hex_plain (row_digits width) row (omega arith), rows_plain width rows some)

-- ---- lines

shown_plain : (shown : Bool) → IsPlain (shown_word shown)
shown_plain true = fixed_plain _ (omega arith) refl
shown_plain false = fixed_plain _ (omega arith) refl

kind_plain : (call : LineCall) → IsPlain (kind_word call)
kind_plain (Create name layer) = fixed_plain _ (omega arith) refl
kind_plain (Destroy window) = fixed_plain _ (omega arith) refl
kind_plain (Region window origin rects) = fixed_plain _ (omega arith) refl
kind_plain (Move window origin) = fixed_plain _ (omega arith) refl
kind_plain (Raise window) = fixed_plain _ (omega arith) refl
kind_plain (Lower window) = fixed_plain _ (omega arith) refl
kind_plain (Shape w h cells) = fixed_plain _ (omega arith) refl
kind_plain (Cursor at) = fixed_plain _ (omega arith) refl
kind_plain (Show shown) = fixed_plain _ (omega arith) refl
kind_plain (Join channel) = fixed_plain _ (omega arith) refl
kind_plain (Leave channel) = fixed_plain _ (omega arith) refl
kind_plain (Send channel message payload) = fixed_plain _ (omega arith) refl
kind_plain Take = fixed_plain _ (omega arith) refl
kind_plain (Known channel) = fixed_plain _ (omega arith) refl
kind_plain (Fill window rect ink) = fixed_plain _ (omega arith) refl
kind_plain (Tile window rect image) = fixed_plain _ (omega arith) refl
kind_plain (Blit window at image alpha) = fixed_plain _ (omega arith) refl
kind_plain (Line window from to c) = fixed_plain _ (omega arith) refl
kind_plain (Polyline window c points) = fixed_plain _ (omega arith) refl
kind_plain (Polygon window ink points) = fixed_plain _ (omega arith) refl
kind_plain (Text window font at ink written) = fixed_plain _ (omega arith) refl

call_plain : (fonts : List FontView) (images : ℕ) (call : LineCall) → IsCall fonts images call → Plain (call_words call)
call_plain fonts images (Create name layer) h = (name_plain name h.0, (short_plain layer h.1, tt))
call_plain fonts images (Destroy window) h = (window_plain window h, tt)
call_plain fonts images (Region window origin rects) h = (window_plain window h.0, two_plain (point_words origin) (flat_map rect_words rects) (point_plain origin h.1) (rects_plain rects h.2))
call_plain fonts images (Move window origin) h = (window_plain window h.0, point_plain origin h.1)
call_plain fonts images (Raise window) h = (window_plain window h, tt)
call_plain fonts images (Lower window) h = (window_plain window h, tt)
call_plain fonts images (Shape w h cells) k = (short_plain w k.0, (short_plain h k.1, (groups_plain 8 cells (omega arith), tt)))
call_plain fonts images (Cursor at) h = point_plain at h
call_plain fonts images (Show shown) h = (shown_plain shown, tt)
call_plain fonts images (Join channel) h = (word_plain channel h, tt)
call_plain fonts images (Leave channel) h = (word_plain channel h, tt)
call_plain fonts images (Send channel message payload) h = (word_plain channel h.0, (word_plain message h.1, (groups_plain 2 payload (omega arith), tt)))
call_plain fonts images Take h = tt
call_plain fonts images (Known channel) h = (word_plain channel h, tt)
call_plain fonts images (Fill window rect ink) h = (window_plain window h.0, two_plain (rect_words rect) (ink_words ink) (placed_rect_plain rect h.1) (ink_plain ink h.2))
call_plain fonts images (Tile window rect image) h = (window_plain window h.0, two_plain (rect_words rect) (decimal image ∷ []) (placed_rect_plain rect h.1) (short_plain image h.2, tt))
call_plain fonts images (Blit window at image alpha) h = (window_plain window h.0, two_plain (point_words at) (decimal image ∷ decimal alpha ∷ []) (placed_plain at h.1) (short_plain image h.2, (byte_plain alpha h.4, tt)))
call_plain fonts images (Line window from to c) h = (window_plain window h.0, two_plain (point_words from ++ point_words to) (colour c ∷ []) (two_plain (point_words from) (point_words to) (placed_plain from h.1) (placed_plain to h.2)) (colour_plain c, tt))
call_plain fonts images (Polyline window c points) h = (window_plain window h.0, (colour_plain c, points_plain points h.2.placed))
call_plain fonts images (Polygon window ink points) h = (window_plain window h.0, two_plain (ink_words ink) (flat_map point_words points) (ink_plain ink h.1) (points_plain points h.2.placed))
call_plain fonts images (Text window font at ink written) h = (window_plain window h.0, (short_plain font h.3.number, two_plain (point_words at ++ ink_words ink) (map decimal written) (two_plain (point_words at) (ink_words ink) (placed_plain at h.1) (ink_plain ink h.2)) (codes_plain written h.3.each)))

pub line_plain : (clients : ℕ) (assets : List Asset) (before : List CallLine) (line : CallLine) → clients ≤ 16 → IsCallLine clients assets before line → Plain (line_words line)
line_plain clients assets before line few h = let below = h.client in (short_plain line.client (omega arith), (kind_plain line.call, call_plain _ _ line.call h.call))

pixels_some : (xs : List ℕ) → 0 < length xs → 0 < length (flat_map (hex 8) xs)
pixels_some [] some = absurd (omega arith)
pixels_some (x ∷ xs) some = some_groups 8 x xs (omega arith)

pub asset_plain : (before : List Asset) (asset : Asset) → IsAsset before asset → Plain (asset_words asset)
asset_plain before (FontLine height) h = let most = h.1 in (fixed_plain _ (omega arith) refl, (short_plain height (omega arith), tt))
asset_plain before (GlyphLine glyph) h = let most = h.1.shape.most_width in (fixed_plain _ (omega arith) refl, (short_plain glyph.code h.1.code, (short_plain glyph.width (omega arith), rows_plain glyph.width glyph.rows h.1.shape.some_width)))
asset_plain before (ImageLine image) h =
    let w = h.0.most_w in let k = h.0.most_h in
    (fixed_plain _ (omega arith) refl, (short_plain image.w (omega arith), (short_plain image.h (omega arith), (record { some = pixels_some image.pixels (some_pixels image.w image.h (length image.pixels) h.0.some_w h.0.some_h h.0.whole); bytes = groups_all 8 image.pixels }, tt))))

-- ---- lines are cut into their words, and bytes into lines

not_blank : (c : ℕ) → is_word_byte c ≡ true → (c == 32) ≡ false
not_blank c h = let ends = both (nat_le 33 c) (nat_le c 126) h in grind (arith, nat_tests)

abbrev pub is_line_byte : ℕ → Bool
is_line_byte c = nat_le 32 c

line_byte : (c : ℕ) → is_word_byte c ≡ true → is_line_byte c ≡ true
line_byte c h = let ends = both (nat_le 33 c) (nat_le c 126) h in grind (arith, nat_tests)

pub no_feed : (c : ℕ) → is_line_byte c ≡ true → (c == 10) ≡ false
no_feed c h = grind (arith, nat_tests)

pub none_of : (p q : ℕ → Bool) → ((c : ℕ) → p c ≡ true → q c ≡ false) → (w : List ℕ) → list_all p w ≡ true → All (λ c. q c ≡ false) w
none_of p q more [] h = All-nil (λ c. q c ≡ false)
none_of p q more (c ∷ w) h = let parts = both (p c) (list_all p w) h in All-cons (λ c. q c ≡ false) c w (more c parts.0) (none_of p q more w parts.1)

pub cut_words : (word : List ℕ) (words : List (List ℕ)) → Plain (word ∷ words) → words_of (join_with_byte 32 (word ∷ words)) ≡ word ∷ words
cut_words word [] h = slice_split_none (λ c. c == 32) word (none_of is_word_byte (λ c. c == 32) not_blank word h.0.bytes)
cut_words word (next ∷ words) h =
    slice_split_at (λ c. c == 32) word 32 (join_with_byte 32 (next ∷ words)) (none_of is_word_byte (λ c. c == 32) not_blank word h.0.bytes) refl
    ∙ ap (λ rest. word ∷ rest) (cut_words next words h.1)

filled_word : (word : List ℕ) → 0 < length word → is_blank word ≡ false
filled_word word some = grind (arith, nat_tests)

neither : (a b : Bool) → a ≡ false → b ≡ false → (a || b) ≡ false
neither true b h k = h
neither false b h k = k

pub none_blank : (words : List (List ℕ)) → Plain words → list_any is_blank words ≡ false
none_blank [] h = refl
none_blank (word ∷ words) h = neither (is_blank word) (list_any is_blank words) (filled_word word h.0.some) (none_blank words h.1)

pub line_bytes : (words : List (List ℕ)) → Plain words → list_all is_line_byte (join_with_byte 32 words) ≡ true
line_bytes [] h = refl
line_bytes (word ∷ []) h = all_more is_word_byte is_line_byte line_byte word h.0.bytes
line_bytes (word ∷ next ∷ words) h = all_two is_line_byte word (32 ∷ join_with_byte 32 (next ∷ words)) (all_more is_word_byte is_line_byte line_byte word h.0.bytes) (line_bytes (next ∷ words) h.1)

abbrev pub PlainLines : List (List (List ℕ)) → Type 0
PlainLines [] = ⊤
PlainLines (words ∷ lines) = Plain words × PlainLines lines

pub cut_lines : (lines : List (List (List ℕ))) → PlainLines lines → text_lines (flat_map ended_line lines) ≡ map (join_with_byte 32) lines ++ [] ∷ []
cut_lines [] h = refl
cut_lines (words ∷ lines) h =
    ap text_lines (append_assoc (join_with_byte 32 words) (10 ∷ []) (flat_map ended_line lines))
    ∙ slice_split_at (λ c. c == 10) (join_with_byte 32 words) 10 (flat_map ended_line lines) (none_of is_line_byte (λ c. c == 10) no_feed (join_with_byte 32 words) (line_bytes words h.0)) refl
    ∙ ap (λ rest. join_with_byte 32 words ∷ rest) (cut_lines lines h.1)

pub two_lines : (xs ys : List (List (List ℕ))) → PlainLines xs → PlainLines ys → PlainLines (xs ++ ys)
two_lines [] ys h k = k
two_lines (x ∷ xs) ys h k = (h.0, two_lines xs ys h.1 k)
