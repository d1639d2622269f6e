-- The other words are read as printed.
use Rattle.std.proofs.Common.{◌≡◌, ℕ, ◌+◌, ◌*◌, ◌-◌, ◌/◌, ◌%◌, ◌<◌, ◌≤◌, ◌^◌, zero, suc, ℤ, List, [], ◌∷◌, ◌++◌, length, get_or, Bool, true, false, ◌&&◌, ◌||◌, cond, nat_le, nat_lt, Result, Ok, Err, refl, ap, sym, ◌∙◌, subst, arith, length-append, append_assoc, append-nil, eq-eqb, pow-suc}
use Rattle.std.specs.Prelude.{◌==◌, All, nat_eq}
use lib.Chars.{codes}
use Rattle.std.specs.List.{list_all, flat_map}
use Rattle.std.specs.Str.{bytes_eq}
use Rattle.std.specs.Fmt.{decimal, signed_decimal}
use Rattle.std.proofs.lemmas.Bool.Decides.{nat_tests}
use Rattle.std.proofs.lemmas.Slice.Eq.{bytes_eq-Decides}
use Rattle.std.proofs.lemmas.List.Elements.{All-nil, All-cons, All-head, All-tail}
use Rattle.qws_base.specs.declared.points.Point.{Point}
use Rattle.qws_base.specs.declared.points.Rect.{Rect}
use Rattle.qws_base.specs.Points.{IsPlaced}
use Rattle.qws_base.specs.Sides.{Sides, IsScreen}
use Rattle.gfx_fills.specs.Parts.{IsPlacedRect}
use Rattle.script_grammar.specs.Judging.{◌>>=◌, ◌⊛◌, at_most}
use Rattle.script_grammar.specs.Spelling.{name_read, is_name_word, is_letter, is_name_byte, place_read, side_read, width_read, height_read}
use Rattle.script_grammar.specs.Limits.{IsName, IsWord, IsWindowWord, IsByte, IsPixel, IsSigned, IsSignedPoint, IsAsked, IsShort}
use Rattle.script_grammar.specs.Printing.{hex, hex_groups, row_digits, window_word}
use Rattle.script_grammar.specs.declared.lines.Window.{Window}
use Rattle.script_grammar.specs.declared.lines.Window.TheVariants.{Named, Numbered}
use Rattle.script_grammar.specs.Words.{short_read, ranged, coordinate_read, window_read, is_text_word, text_word_read, hex_read, pairs_read, eights_read, filled, bytes_read, cells_read, pixels_read, within_width, row_read, point_read, rect_read, placed_point_read, placed_rect_read, size_read}
use Rattle.script_grammar.specs.declared.lines.Cause.{Cause}
use Rattle.script_grammar.specs.declared.lines.Cause.TheVariants.{Number, Range}
use Rattle.script_grammar.proofs.Binds.{err_is_no_ok, bind_ok, cond_ok}
use Rattle.script_grammar.proofs.Spelling.{IsSpelling, ok_same, both, and_true, cond_is, bind_is, within, short_spelling, ranged_spelling, coordinate_spelling, place_spelling, side_spelling, width_spelling, height_spelling, IsPlace}
use Rattle.script_grammar.proofs.Hex.{length-hex, hex_reads, hex_printed}
use Rattle.script_grammar.proofs.Made.{made1_is, made2_is, made4_is, made1_ok, made2_ok, made4_ok}
use Rattle.std.proofs.lemmas.Nat.{pow-add}
use Rattle.std.proofs.Math.Nat.{pow-le-pow_right}
use borrow.Author.Tests.{eqb-true}

cond_not : {A : Type 0} (b : Bool) (x y : A) → b ≡ false → cond b x y ≡ y
cond_not true x y e = cc
cond_not false x y e = refl

-- ---- names and words: the word itself

itself : (test : List ℕ → Bool) → IsSpelling {A = List ℕ} (λ w. cond (test w) (Ok w) (Err Number)) (λ w. w) (λ w. test w ≡ true)
itself test = record {
  reads = λ w h. cond_is (test w) (Ok w) (Err Number) h;
  printed = λ w v e. let found = cond_ok (test w) (Ok w) Number v e in let same = ok_same w v found.1 in (same, subst (λ u. test u ≡ true) same found.0);
}

pub name_spelling : IsSpelling name_read (λ name. name) IsName
unfolding name_read
name_spelling = itself is_name_word

pub text_word_spelling : IsSpelling text_word_read (λ word. word) IsWord
unfolding text_word_read
text_word_spelling = itself is_text_word

-- ---- windows

letter_is_no_mark : (c : ℕ) → is_letter c ≡ true → (c == 35) ≡ false
letter_is_no_mark c h = let ends = both (nat_le 97 c) (nat_le c 122) h in grind (arith, nat_tests)

-- a name begins with a letter
name_is_no_mark : (c : ℕ) (word : List ℕ) → is_name_word (c ∷ word) ≡ true → (c == 35) ≡ false
name_is_no_mark c word h = letter_is_no_mark c (both _ (is_letter c) (both _ _ h).1).1

named_reads : (name : List ℕ) → IsName name → window_read name ≡ Ok (Named name)
unfolding window_read
named_reads [] h = absurd (let no : false ≡ true = h in cc)
named_reads (c ∷ word) h =
    cond_not (c == 35) (Ok Numbered ⊛ ranged 0 32 word) (Ok Named ⊛ name_read (c ∷ word)) (name_is_no_mark c word h)
    ∙ made1_is Named (name_read (c ∷ word)) (c ∷ word) (name_spelling.reads (c ∷ word) h)

slots : IsSpelling (ranged 0 32) decimal (λ n. (0 ≤ n) × (n ≤ 32))
slots = ranged_spelling 0 32 (omega arith)

window_reads : (window : Window) → IsWindowWord window → window_read (window_word window) ≡ Ok window
unfolding window_read
window_reads (Named name) h = named_reads name h
window_reads (Numbered slot) h = made1_is Numbered (ranged 0 32 (decimal slot)) slot (slots.reads slot (omega arith, h))

window_step : (mark : Bool) (c : ℕ) (word : List ℕ) (window : Window) → (c == 35) ≡ mark → cond mark (Ok Numbered ⊛ ranged 0 32 word) (Ok Named ⊛ name_read (c ∷ word)) ≡ Ok window → (c ∷ word ≡ window_word window) × IsWindowWord window
window_step true c word window is e =
    let made = made1_ok Numbered (ranged 0 32 word) window e in
    let slot = slots.printed word made.0 made.1 in
    let mark : c ≡ 35 = eqb-true c 35 is in
    let most : IsWindowWord (Numbered made.0) = slot.1.1 in
    ((λ i. mark i ∷ slot.0 i) ∙ ap window_word made.2, subst IsWindowWord made.2 most)
window_step false c word window is e =
    let made = made1_ok Named (name_read (c ∷ word)) window e in
    let name = name_spelling.printed (c ∷ word) made.0 made.1 in
    let named : IsWindowWord (Named made.0) = name.1 in
    (name.0 ∙ ap window_word made.2, subst IsWindowWord made.2 named)

window_printed : (w : List ℕ) (window : Window) → window_read w ≡ Ok window → (w ≡ window_word window) × IsWindowWord window
unfolding window_read
window_printed [] window e = err_is_no_ok Number window e
window_printed (c ∷ word) window e = window_step (c == 35) c word window refl e

pub window_spelling : IsSpelling window_read window_word IsWindowWord
window_spelling = record { reads = window_reads; printed = window_printed }

-- ---- lists of bytes and of pixels

pairs_reads : (xs : List ℕ) → All IsByte xs → pairs_read (flat_map (hex 2) xs) ≡ Ok xs
unfolding pairs_read
pairs_reads [] h = refl
pairs_reads (x ∷ xs) h = made2_is (λ y ys. y ∷ ys) (hex_read (hex 2 x)) (pairs_read (flat_map (hex 2) xs)) x xs (hex_reads 2 x (All-head IsByte x xs h)) (pairs_reads xs (All-tail IsByte x xs h))

pairs_printed : (w : List ℕ) (xs : List ℕ) → pairs_read w ≡ Ok xs → (w ≡ flat_map (hex 2) xs) × All IsByte xs
unfolding pairs_read
pairs_printed [] xs e = let same = ok_same [] xs e in (ap (flat_map (hex 2)) same, subst (All IsByte) same (All-nil IsByte))
pairs_printed (a ∷ []) xs e = err_is_no_ok Number xs e
pairs_printed (a ∷ b ∷ w) xs e =
    let made = made2_ok (λ y ys. y ∷ ys) (hex_read (a ∷ b ∷ [])) (pairs_read w) xs e in
    let first = hex_printed (a ∷ b ∷ []) made.0 made.2 in
    let rest = pairs_printed w made.1 made.3 in
    let byte : IsByte made.0 = first.1 in
    ((λ i. first.0 i ++ rest.0 i) ∙ ap (flat_map (hex 2)) made.4, subst (All IsByte) made.4 (All-cons IsByte made.0 made.1 byte rest.1))

eights_reads : (xs : List ℕ) → All IsPixel xs → eights_read (flat_map (hex 8) xs) ≡ Ok xs
unfolding eights_read
eights_reads [] h = refl
eights_reads (x ∷ xs) h = made2_is (λ y ys. y ∷ ys) (hex_read (hex 8 x)) (eights_read (flat_map (hex 8) xs)) x xs (hex_reads 8 x (All-head IsPixel x xs h)) (eights_reads xs (All-tail IsPixel x xs h))

eights_printed : (w : List ℕ) (xs : List ℕ) → eights_read w ≡ Ok xs → (w ≡ flat_map (hex 8) xs) × All IsPixel xs
unfolding eights_read
eights_printed [] xs e = let same = ok_same [] xs e in (ap (flat_map (hex 8)) same, subst (All IsPixel) same (All-nil IsPixel))
eights_printed (a ∷ []) xs e = err_is_no_ok Number xs e
eights_printed (a ∷ b ∷ []) xs e = err_is_no_ok Number xs e
eights_printed (a ∷ b ∷ c ∷ []) xs e = err_is_no_ok Number xs e
eights_printed (a ∷ b ∷ c ∷ d ∷ []) xs e = err_is_no_ok Number xs e
eights_printed (a ∷ b ∷ c ∷ d ∷ f ∷ []) xs e = err_is_no_ok Number xs e
eights_printed (a ∷ b ∷ c ∷ d ∷ f ∷ g ∷ []) xs e = err_is_no_ok Number xs e
eights_printed (a ∷ b ∷ c ∷ d ∷ f ∷ g ∷ h ∷ []) xs e = err_is_no_ok Number xs e
eights_printed (a ∷ b ∷ c ∷ d ∷ f ∷ g ∷ h ∷ k ∷ w) xs e =
    let made = made2_ok (λ y ys. y ∷ ys) (hex_read (a ∷ b ∷ c ∷ d ∷ f ∷ g ∷ h ∷ k ∷ [])) (eights_read w) xs e in
    let first = hex_printed (a ∷ b ∷ c ∷ d ∷ f ∷ g ∷ h ∷ k ∷ []) made.0 made.2 in
    let rest = eights_printed w made.1 made.3 in
    let pixel : IsPixel made.0 = first.1 in
    ((λ i. first.0 i ++ rest.0 i) ∙ ap (flat_map (hex 8)) made.4, subst (All IsPixel) made.4 (All-cons IsPixel made.0 made.1 pixel rest.1))

filled_ok : (w v : List ℕ) → filled w ≡ Ok v → w ≡ v
filled_ok [] v e = err_is_no_ok Number v e
filled_ok (c ∷ w) v e = ok_same (c ∷ w) v e

few_printed : (most : ℕ) (xs ys : List ℕ) → at_most most xs ≡ Ok ys → (xs ≡ ys) × (length ys ≤ most)
few_printed most xs ys e =
    let found = cond_ok (nat_le (length xs) most) (Ok xs) Range ys e in
    let test = found.0 in
    let same = ok_same xs ys found.1 in
    (same, subst (λ (zs : List ℕ). length zs ≤ most) same (grind (arith, nat_tests)))

few_reads : (most : ℕ) (xs : List ℕ) → length xs ≤ most → at_most most xs ≡ Ok xs
few_reads most xs few = cond_is (nat_le (length xs) most) (Ok xs) (Err Range) (grind (arith, nat_tests))

and_no : (a : Bool) → (a && false) ≡ false
and_no true = refl
and_no false = refl

-- a minus for none
bytes_reads : (xs : List ℕ) → (All IsByte xs × (length xs ≤ 65000)) → bytes_read (hex_groups 2 xs) ≡ Ok xs
unfolding bytes_read
bytes_reads [] h = refl
bytes_reads (x ∷ xs) h =
    cond_not (bytes_eq (hex_groups 2 (x ∷ xs)) (codes "-")) (Ok []) (pairs_read (flat_map (hex 2) (x ∷ xs)) >>= at_most 65000) (and_no _)
    ∙ bind_is (pairs_read (flat_map (hex 2) (x ∷ xs))) (at_most 65000) (x ∷ xs) (pairs_reads (x ∷ xs) h.0)
    ∙ few_reads 65000 (x ∷ xs) h.1

groups_some : (k : ℕ) (c : ℕ) (w xs : List ℕ) → c ∷ w ≡ flat_map (hex k) xs → c ∷ w ≡ hex_groups k xs
groups_some k c w [] e = absurd (let no : suc (length w) ≡ 0 = ap length e in omega arith)
groups_some k c w (x ∷ xs) e = e

-- at most so many groups of k digits, or a minus for none
groups_printed : (k most : ℕ) (Is : ℕ → Type 0) (read : List ℕ → Result (List ℕ) Cause) → ((w xs : List ℕ) → read w ≡ Ok xs → (w ≡ flat_map (hex k) xs) × All Is xs) → (none : Bool) (w xs : List ℕ) → bytes_eq w (codes "-") ≡ none → cond none (Ok []) (filled w >>= read >>= at_most most) ≡ Ok xs → (w ≡ hex_groups k xs) × (All Is xs × (length xs ≤ most))
groups_printed k most Is read printed true w xs is e =
    let same = ok_same [] xs e in
    let minus : w ≡ codes "-" = (bytes_eq-Decides w (codes "-")).0 is in
    (minus ∙ ap (hex_groups k) same, subst (λ (ys : List ℕ). All Is ys × (length ys ≤ most)) same (All-nil Is, omega arith))
groups_printed k most Is read printed false [] xs is e = err_is_no_ok Number xs e
groups_printed k most Is read printed false (c ∷ w) xs is e =
    let found = bind_ok (read (c ∷ w)) (at_most most) xs e in
    let few = few_printed most found.0 xs found.2 in
    let groups = printed (c ∷ w) found.0 found.1 in
    (groups_some k c w xs (groups.0 ∙ ap (flat_map (hex k)) few.0), (subst (All Is) few.0 groups.1, few.1))

pub bytes_spelling : IsSpelling bytes_read (hex_groups 2) (λ xs. All IsByte xs × (length xs ≤ 65000))
unfolding bytes_read
bytes_spelling = record { reads = bytes_reads; printed = λ w xs e. groups_printed 2 65000 IsByte pairs_read pairs_printed (bytes_eq w (codes "-")) w xs refl e }

cells_reads : (xs : List ℕ) → (All IsPixel xs × (length xs ≤ 16384)) → cells_read (hex_groups 8 xs) ≡ Ok xs
unfolding cells_read
cells_reads [] h = refl
cells_reads (x ∷ xs) h =
    cond_not (bytes_eq (hex_groups 8 (x ∷ xs)) (codes "-")) (Ok []) (eights_read (flat_map (hex 8) (x ∷ xs)) >>= at_most 16384) (and_no _)
    ∙ bind_is (eights_read (flat_map (hex 8) (x ∷ xs))) (at_most 16384) (x ∷ xs) (eights_reads (x ∷ xs) h.0)
    ∙ few_reads 16384 (x ∷ xs) h.1

pub cells_spelling : IsSpelling cells_read (hex_groups 8) (λ xs. All IsPixel xs × (length xs ≤ 16384))
unfolding cells_read
cells_spelling = record { reads = cells_reads; printed = λ w xs e. groups_printed 8 16384 IsPixel eights_read eights_printed (bytes_eq w (codes "-")) w xs refl e }

-- pixels: one at least
pub record IsPixels (xs : List ℕ) : Type 0 where
  pub some : 0 < length xs
  pub each : All IsPixel xs

pixels_reads : (xs : List ℕ) → IsPixels xs → pixels_read (flat_map (hex 8) xs) ≡ Ok xs
unfolding pixels_read
pixels_reads [] h = absurd (omega (arith, h.some))
pixels_reads (x ∷ xs) h = eights_reads (x ∷ xs) h.each

pixels_printed : (w xs : List ℕ) → pixels_read w ≡ Ok xs → (w ≡ flat_map (hex 8) xs) × IsPixels xs
unfolding pixels_read
pixels_printed [] xs e = err_is_no_ok Number xs e
pixels_printed (c ∷ w) [] e = absurd (let no : suc (length w) ≡ 0 = ap length (eights_printed (c ∷ w) [] e).0 in omega arith)
pixels_printed (c ∷ w) (x ∷ xs) e = let eights = eights_printed (c ∷ w) (x ∷ xs) e in (eights.0, record { some = omega arith; each = eights.1 })

pub pixels_spelling : IsSpelling pixels_read (flat_map (hex 8)) IsPixels
pixels_spelling = record { reads = pixels_reads; printed = pixels_printed }

-- ---- rows of a glyph

sixteen_is : (k : ℕ) → 16 ^ k ≡ 2 ^ (4 * k)
sixteen_is zero = refl
sixteen_is (suc k) =
    pow-suc 16 k ∙ ap (λ n. n * 16) (sixteen_is k)
    ∙ sym (ap (λ e. 2 ^ e) (let e : 4 * suc k ≡ 4 * k + 4 = omega arith in e) ∙ pow-add 2 (4 * k) 4)

row_small : (width row : ℕ) → row < 2 ^ width → row < 16 ^ row_digits width
row_small width row h =
    let more : 2 ^ width ≤ 2 ^ (4 * row_digits width) = pow-le-pow_right (omega arith) (omega arith) in
    omega (arith, sixteen_is (row_digits width))

row_reads : (width row : ℕ) → row < 2 ^ width → row_read width (hex (row_digits width) row) ≡ Ok row
unfolding row_read
row_reads width row h =
    cond_is (length (hex (row_digits width) row) == row_digits width) (hex_read (hex (row_digits width) row) >>= within_width width) (Err Number) (eq-eqb _ _ (length-hex (row_digits width) row))
    ∙ bind_is (hex_read (hex (row_digits width) row)) (within_width width) row (hex_reads (row_digits width) row (row_small width row h))
    ∙ cond_is (nat_lt row (2 ^ width)) (Ok row) (Err Range) (let test : nat_lt row (2 ^ width) ≡ true = grind (arith, nat_tests) in test)

row_printed : (width : ℕ) (w : List ℕ) (row : ℕ) → row_read width w ≡ Ok row → (w ≡ hex (row_digits width) row) × (row < 2 ^ width)
unfolding row_read
row_printed width w row e =
    let found = cond_ok (length w == row_digits width) (hex_read w >>= within_width width) Number row e in
    let long : length w ≡ row_digits width = eqb-true _ _ found.0 in
    let read = bind_ok (hex_read w) (within_width width) row found.1 in
    let test = cond_ok (nat_lt read.0 (2 ^ width)) (Ok read.0) Range row read.2 in
    let less = test.0 in
    let same = ok_same read.0 row test.1 in
    let digits = hex_printed w read.0 read.1 in
    let small : read.0 < 2 ^ width = grind (arith, nat_tests) in
    (digits.0 ∙ (λ i. hex (long i) (same i)), subst (λ n. n < 2 ^ width) same small)

pub row_spelling : (width : ℕ) → IsSpelling (row_read width) (hex (row_digits width)) (λ row. row < 2 ^ width)
row_spelling width = record { reads = row_reads width; printed = row_printed width }

-- ---- points, rectangles and sizes

pub point_reads : (p : Point) → IsSignedPoint p → point_read (signed_decimal p.x) (signed_decimal p.y) ≡ Ok p
unfolding point_read
point_reads p h = made2_is (λ x y. record { x = x; y = y }) _ _ p.x p.y (coordinate_spelling.reads p.x h.x) (coordinate_spelling.reads p.y h.y)

pub point_printed : (x y : List ℕ) (p : Point) → point_read x y ≡ Ok p → (x ≡ signed_decimal p.x) × (y ≡ signed_decimal p.y) × IsSignedPoint p
unfolding point_read
point_printed x y p e =
    let made = made2_ok (λ (a b : ℤ). let q : Point = record { x = a; y = b } in q) (coordinate_read x) (coordinate_read y) p e in
    let column = coordinate_spelling.printed x made.0 made.2 in
    let line = coordinate_spelling.printed y made.1 made.3 in
    (column.0 ∙ ap (λ (q : Point). signed_decimal q.x) made.4, line.0 ∙ ap (λ (q : Point). signed_decimal q.y) made.4, subst IsSignedPoint made.4 (record { x = column.1; y = line.1 }))

pub placed_point_reads : (p : Point) → IsPlaced p → placed_point_read (signed_decimal p.x) (signed_decimal p.y) ≡ Ok p
unfolding placed_point_read
placed_point_reads p h = made2_is (λ x y. record { x = x; y = y }) _ _ p.x p.y (place_spelling.reads p.x (record { low = h.low_x; high = h.high_x })) (place_spelling.reads p.y (record { low = h.low_y; high = h.high_y }))

pub placed_point_printed : (x y : List ℕ) (p : Point) → placed_point_read x y ≡ Ok p → (x ≡ signed_decimal p.x) × (y ≡ signed_decimal p.y) × IsPlaced p
unfolding placed_point_read
placed_point_printed x y p e =
    let made = made2_ok (λ (a b : ℤ). let q : Point = record { x = a; y = b } in q) (place_read x) (place_read y) p e in
    let column = place_spelling.printed x made.0 made.2 in
    let line = place_spelling.printed y made.1 made.3 in
    (column.0 ∙ ap (λ (q : Point). signed_decimal q.x) made.4, line.0 ∙ ap (λ (q : Point). signed_decimal q.y) made.4, subst IsPlaced made.4 (record { low_x = column.1.low; high_x = column.1.high; low_y = line.1.low; high_y = line.1.high }))

pub rect_reads : (r : Rect) → IsAsked r → rect_read (signed_decimal r.x) (signed_decimal r.y) (decimal r.w) (decimal r.h) ≡ Ok r
unfolding rect_read
rect_reads r h = made4_is (λ x y w h. record { x = x; y = y; w = w; h = h }) _ _ _ _ r.x r.y r.w r.h (coordinate_spelling.reads r.x h.x) (coordinate_spelling.reads r.y h.y) (short_spelling.reads r.w h.w) (short_spelling.reads r.h h.h)

pub rect_printed : (x y w h : List ℕ) (r : Rect) → rect_read x y w h ≡ Ok r → (x ≡ signed_decimal r.x) × (y ≡ signed_decimal r.y) × (w ≡ decimal r.w) × (h ≡ decimal r.h) × IsAsked r
unfolding rect_read
rect_printed x y w h r e =
    let made = made4_ok (λ (a b : ℤ) (c d : ℕ). let q : Rect = record { x = a; y = b; w = c; h = d } in q) (coordinate_read x) (coordinate_read y) (short_read w) (short_read h) r e in
    let column = coordinate_spelling.printed x made.0 made.4 in
    let line = coordinate_spelling.printed y made.1 made.5 in
    let width = short_spelling.printed w made.2 made.6 in
    let height = short_spelling.printed h made.3 made.7 in (
      column.0 ∙ ap (λ (q : Rect). signed_decimal q.x) made.8,
      line.0 ∙ ap (λ (q : Rect). signed_decimal q.y) made.8,
      width.0 ∙ ap (λ (q : Rect). decimal q.w) made.8,
      height.0 ∙ ap (λ (q : Rect). decimal q.h) made.8,
      subst IsAsked made.8 (record { x = column.1; y = line.1; w = width.1; h = height.1 }),
    )

pub placed_rect_reads : (r : Rect) → IsPlacedRect r → placed_rect_read (signed_decimal r.x) (signed_decimal r.y) (decimal r.w) (decimal r.h) ≡ Ok r
unfolding placed_rect_read
placed_rect_reads r h = made4_is (λ x y w h. record { x = x; y = y; w = w; h = h }) _ _ _ _ r.x r.y r.w r.h (place_spelling.reads r.x (record { low = h.corner.low_x; high = h.corner.high_x })) (place_spelling.reads r.y (record { low = h.corner.low_y; high = h.corner.high_y })) (side_spelling.reads r.w (h.some_w, h.most_w)) (side_spelling.reads r.h (h.some_h, h.most_h))

pub placed_rect_printed : (x y w h : List ℕ) (r : Rect) → placed_rect_read x y w h ≡ Ok r → (x ≡ signed_decimal r.x) × (y ≡ signed_decimal r.y) × (w ≡ decimal r.w) × (h ≡ decimal r.h) × IsPlacedRect r
unfolding placed_rect_read
placed_rect_printed x y w h r e =
    let made = made4_ok (λ (a b : ℤ) (c d : ℕ). let q : Rect = record { x = a; y = b; w = c; h = d } in q) (place_read x) (place_read y) (side_read w) (side_read h) r e in
    let column = place_spelling.printed x made.0 made.4 in
    let line = place_spelling.printed y made.1 made.5 in
    let width = side_spelling.printed w made.2 made.6 in
    let height = side_spelling.printed h made.3 made.7 in (
      column.0 ∙ ap (λ (q : Rect). signed_decimal q.x) made.8,
      line.0 ∙ ap (λ (q : Rect). signed_decimal q.y) made.8,
      width.0 ∙ ap (λ (q : Rect). decimal q.w) made.8,
      height.0 ∙ ap (λ (q : Rect). decimal q.h) made.8,
      subst IsPlacedRect made.8 (record { corner = record { low_x = column.1.low; high_x = column.1.high; low_y = line.1.low; high_y = line.1.high }; some_w = width.1.0; most_w = width.1.1; some_h = height.1.0; most_h = height.1.1 }),
    )

pub size_reads : (s : Sides) → IsScreen s → size_read (decimal s.w) (decimal s.h) ≡ Ok s
unfolding size_read
size_reads s h = made2_is (λ w h. record { w = w; h = h }) _ _ s.w s.h (width_spelling.reads s.w (h.some_w, h.most_w)) (height_spelling.reads s.h (h.some_h, h.most_h))

pub size_printed : (w h : List ℕ) (s : Sides) → size_read w h ≡ Ok s → (w ≡ decimal s.w) × (h ≡ decimal s.h) × IsScreen s
unfolding size_read
size_printed w h s e =
    let made = made2_ok (λ (a b : ℕ). let q : Sides = record { w = a; h = b } in q) (width_read w) (height_read h) s e in
    let width = width_spelling.printed w made.0 made.2 in
    let height = height_spelling.printed h made.1 made.3 in
    (width.0 ∙ ap (λ (q : Sides). decimal q.w) made.4, height.0 ∙ ap (λ (q : Sides). decimal q.h) made.4, subst IsScreen made.4 (record { some_w = width.1.0; some_h = height.1.0; most_w = width.1.1; most_h = height.1.1 }))
