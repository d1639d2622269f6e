-- What is judged behind the shape of a line is never of the cause `form`.
use Rattle.std.proofs.Common.{◌≡◌, ℕ, ℤ, List, [], ◌∷◌, length, Bool, true, false, ◌&&◌, ◌||◌, cond, nat_le, nat_lt, Result, Ok, Err, refl, ap, sym, ◌∙◌, ◌^◌}
use Rattle.std.specs.Prelude.{◌==◌, not, int_le, pos, negsuc}
use lib.Chars.{codes}
use Rattle.std.specs.List.{list_all}
use Rattle.std.specs.Str.{bytes_eq}
use Rattle.qws_base.specs.Sides.{Sides}
use Rattle.qws_base.specs.declared.points.Point.{Point}
use Rattle.qws_base.specs.declared.points.Rect.{Rect}
use Rattle.script_grammar.specs.Judging.{first_cause, ◌>>=◌, ◌⊛◌, each_of, at_most}
use Rattle.script_grammar.specs.Spelling.{number_read, is_number, in_range, signed_read, negated, below, in_places, place_read, side_read, width_read, height_read, colour_read, is_hex, name_read, is_name_word}
use Rattle.script_grammar.specs.Words.{short_read, ranged, declared_read, in_signed, coordinate_read, window_read, is_text_word, text_word_read, hex_read, pairs_read, eights_read, filled, bytes_read, cells_read, pixels_read, within_width, row_read, point_read, rect_read, placed_point_read, placed_rect_read, size_read}
use Rattle.script_grammar.specs.Printing.{row_digits}
use Rattle.script_grammar.specs.declared.lines.Window.TheVariants.{Named, Numbered}
use Rattle.script_grammar.specs.declared.lines.Cause.{Cause}
use Rattle.script_grammar.specs.declared.lines.Cause.TheVariants.{Form, Number, Range, Unknown, Repeated, Missing, Many, End}

abbrev pub is_form_cause : Cause → Bool
is_form_cause Form = true
is_form_cause Number = false
is_form_cause Range = false
is_form_cause Unknown = false
is_form_cause Repeated = false
is_form_cause Missing = false
is_form_cause Many = false
is_form_cause End = false

abbrev pub is_form : {A : Type 0} → Result A Cause → Bool
is_form (Ok x) = false
is_form (Err c) = is_form_cause c

first_form : (c d : Cause) → is_form_cause (first_cause c d) ≡ is_form_cause c || is_form_cause d
first_form Form Form = refl
first_form Form Number = refl
first_form Form Range = refl
first_form Form Unknown = refl
first_form Form Repeated = refl
first_form Form Missing = refl
first_form Form Many = refl
first_form Form End = refl
first_form Number Form = refl
first_form Number Number = refl
first_form Number Range = refl
first_form Number Unknown = refl
first_form Number Repeated = refl
first_form Number Missing = refl
first_form Number Many = refl
first_form Number End = refl
first_form Range Form = refl
first_form Range Number = refl
first_form Range Range = refl
first_form Range Unknown = refl
first_form Range Repeated = refl
first_form Range Missing = refl
first_form Range Many = refl
first_form Range End = refl
first_form Unknown Form = refl
first_form Unknown Number = refl
first_form Unknown Range = refl
first_form Unknown Unknown = refl
first_form Unknown Repeated = refl
first_form Unknown Missing = refl
first_form Unknown Many = refl
first_form Unknown End = refl
first_form Repeated Form = refl
first_form Repeated Number = refl
first_form Repeated Range = refl
first_form Repeated Unknown = refl
first_form Repeated Repeated = refl
first_form Repeated Missing = refl
first_form Repeated Many = refl
first_form Repeated End = refl
first_form Missing Form = refl
first_form Missing Number = refl
first_form Missing Range = refl
first_form Missing Unknown = refl
first_form Missing Repeated = refl
first_form Missing Missing = refl
first_form Missing Many = refl
first_form Missing End = refl
first_form Many Form = refl
first_form Many Number = refl
first_form Many Range = refl
first_form Many Unknown = refl
first_form Many Repeated = refl
first_form Many Missing = refl
first_form Many Many = refl
first_form Many End = refl
first_form End Form = refl
first_form End Number = refl
first_form End Range = refl
first_form End Unknown = refl
first_form End Repeated = refl
first_form End Missing = refl
first_form End Many = refl
first_form End End = refl

pub or_none : (a : Bool) → (a || false) ≡ a
or_none true = refl
or_none false = refl

apply_form : {A B : Type 0} (f : Result (A → B) Cause) (a : Result A Cause) → is_form (f ⊛ a) ≡ is_form f || is_form a
apply_form (Ok f) (Ok x) = refl
apply_form (Ok f) (Err d) = refl
apply_form (Err c) (Ok x) = sym (or_none (is_form_cause c))
apply_form (Err c) (Err d) = first_form c d

apply_not : {A B : Type 0} (f : Result (A → B) Cause) (a : Result A Cause) → is_form f ≡ false → is_form a ≡ false → is_form (f ⊛ a) ≡ false
apply_not f a h k = apply_form f a ∙ (λ i. h i || k i)

-- where all but the last are words
apply_last : {A B : Type 0} (f : Result (A → B) Cause) (a : Result A Cause) → is_form f ≡ false → is_form (f ⊛ a) ≡ is_form a
apply_last f a h = apply_form f a ∙ ap (λ b. b || is_form a) h

pub made1_not : {A B : Type 0} (f : A → B) (a : Result A Cause) → is_form a ≡ false → is_form (Ok f ⊛ a) ≡ false
made1_not f a h = apply_not (Ok f) a refl h

pub made2_not : {A B C : Type 0} (f : A → B → C) (a : Result A Cause) (b : Result B Cause) → is_form a ≡ false → is_form b ≡ false → is_form (Ok f ⊛ a ⊛ b) ≡ false
made2_not f a b h k = apply_not (Ok f ⊛ a) b (made1_not f a h) k

pub made3_not : {A B C D : Type 0} (f : A → B → C → D) (a : Result A Cause) (b : Result B Cause) (c : Result C Cause) → is_form a ≡ false → is_form b ≡ false → is_form c ≡ false → is_form (Ok f ⊛ a ⊛ b ⊛ c) ≡ false
made3_not f a b c h k l = apply_not (Ok f ⊛ a ⊛ b) c (made2_not f a b h k) l

pub made4_not : {A B C D E : Type 0} (f : A → B → C → D → E) (a : Result A Cause) (b : Result B Cause) (c : Result C Cause) (d : Result D Cause) → is_form a ≡ false → is_form b ≡ false → is_form c ≡ false → is_form d ≡ false → is_form (Ok f ⊛ a ⊛ b ⊛ c ⊛ d) ≡ false
made4_not f a b c d h k l m = apply_not (Ok f ⊛ a ⊛ b ⊛ c) d (made3_not f a b c h k l) m

pub made2_last : {A B C : Type 0} (f : A → B → C) (a : Result A Cause) (b : Result B Cause) → is_form a ≡ false → is_form (Ok f ⊛ a ⊛ b) ≡ is_form b
made2_last f a b h = apply_last (Ok f ⊛ a) b (made1_not f a h)

pub made3_last : {A B C D : Type 0} (f : A → B → C → D) (a : Result A Cause) (b : Result B Cause) (c : Result C Cause) → is_form a ≡ false → is_form b ≡ false → is_form (Ok f ⊛ a ⊛ b ⊛ c) ≡ is_form c
made3_last f a b c h k = apply_last (Ok f ⊛ a ⊛ b) c (made2_not f a b h k)

-- where two are more than words
pub made3_two : {A B C D : Type 0} (f : A → B → C → D) (a : Result A Cause) (b : Result B Cause) (c : Result C Cause) → is_form a ≡ false → is_form (Ok f ⊛ a ⊛ b ⊛ c) ≡ is_form b || is_form c
made3_two f a b c h = apply_form (Ok f ⊛ a ⊛ b) c ∙ ap (λ x. x || is_form c) (made2_last f a b h)

pub made4_two : {A B C D E : Type 0} (f : A → B → C → D → E) (a : Result A Cause) (b : Result B Cause) (c : Result C Cause) (d : Result D Cause) → is_form a ≡ false → is_form b ≡ false → is_form (Ok f ⊛ a ⊛ b ⊛ c ⊛ d) ≡ is_form c || is_form d
made4_two f a b c d h k = apply_form (Ok f ⊛ a ⊛ b ⊛ c) d ∙ ap (λ x. x || is_form d) (made3_last f a b c h k)

pub bind_not : {A B : Type 0} (r : Result A Cause) (f : A → Result B Cause) → is_form r ≡ false → ((x : A) → is_form (f x) ≡ false) → is_form (r >>= f) ≡ false
bind_not (Ok x) f h k = k x
bind_not (Err c) f h k = h

-- a bind of what never is `form`
pub bind_form : {A B : Type 0} (r : Result A Cause) (f : A → Result B Cause) → ((x : A) → is_form (f x) ≡ false) → is_form (r >>= f) ≡ is_form r
bind_form (Ok x) f k = k x
bind_form (Err c) f k = refl

pub cond_not : {A : Type 0} (b : Bool) (x y : Result A Cause) → is_form x ≡ false → is_form y ≡ false → is_form (cond b x y) ≡ false
cond_not true x y h k = h
cond_not false x y h k = k

pub cond_form : {A : Type 0} (b : Bool) (r : Result A Cause) → is_form (cond b r (Err Form)) ≡ not b || is_form r
cond_form true r = refl
cond_form false r = refl

-- ---- words are never of that cause

pub number_not : (w : List ℕ) → is_form (number_read w) ≡ false
unfolding number_read
number_not w = cond_not (is_number w) _ _ refl refl

range_not : (low high n : ℕ) → is_form (in_range low high n) ≡ false
range_not low high n = cond_not (nat_le low n && nat_le n high) _ _ refl refl

pub ranged_not : (low high : ℕ) (w : List ℕ) → is_form (ranged low high w) ≡ false
unfolding ranged
ranged_not low high w = bind_not (number_read w) (in_range low high) (number_not w) (range_not low high)

pub short_not : (w : List ℕ) → is_form (short_read w) ≡ false
unfolding short_read
short_not w = bind_not (number_read w) (in_range 0 65535) (number_not w) (range_not 0 65535)

pub declared_not : (count : ℕ) (w : List ℕ) → is_form (declared_read count w) ≡ false
unfolding declared_read
declared_not count w = bind_not (short_read w) (below count) (short_not w) (λ n. cond_not (nat_lt n count) _ _ refl refl)

signed_not : (w : List ℕ) → is_form (signed_read w) ≡ false
unfolding signed_read
signed_not [] = refl
signed_not (c ∷ w) = cond_not (c == 45) _ _ (bind_not (number_read w) negated (number_not w) (λ n. cond_not (n == 0) _ _ refl refl)) (bind_not (number_read (c ∷ w)) (λ n. Ok (pos n)) (number_not (c ∷ w)) (λ n. refl))

coordinate_not : (w : List ℕ) → is_form (coordinate_read w) ≡ false
unfolding coordinate_read
coordinate_not w = bind_not (signed_read w) in_signed (signed_not w) (λ z. cond_not (int_le (negsuc 32767) z && int_le z (pos 32767)) _ _ refl refl)

place_not : (w : List ℕ) → is_form (place_read w) ≡ false
unfolding place_read
place_not w = bind_not (signed_read w) in_places (signed_not w) (λ z. cond_not (int_le (negsuc 4095) z && int_le z (pos 4095)) _ _ refl refl)

side_not : (w : List ℕ) → is_form (side_read w) ≡ false
unfolding side_read
side_not w = bind_not (number_read w) (in_range 1 4096) (number_not w) (range_not 1 4096)

width_not : (w : List ℕ) → is_form (width_read w) ≡ false
unfolding width_read
width_not w = bind_not (number_read w) (in_range 1 640) (number_not w) (range_not 1 640)

height_not : (w : List ℕ) → is_form (height_read w) ≡ false
unfolding height_read
height_not w = bind_not (number_read w) (in_range 1 480) (number_not w) (range_not 1 480)

pub colour_not : (w : List ℕ) → is_form (colour_read w) ≡ false
unfolding colour_read
colour_not w = cond_not (length w == 6 && list_all is_hex w) _ _ refl refl

pub name_not : (w : List ℕ) → is_form (name_read w) ≡ false
unfolding name_read
name_not w = cond_not (is_name_word w) _ _ refl refl

pub text_word_not : (w : List ℕ) → is_form (text_word_read w) ≡ false
unfolding text_word_read
text_word_not w = cond_not (is_text_word w) _ _ refl refl

pub window_not : (w : List ℕ) → is_form (window_read w) ≡ false
unfolding window_read
window_not [] = refl
window_not (c ∷ w) = cond_not (c == 35) _ _ (made1_not Numbered (ranged 0 32 w) (ranged_not 0 32 w)) (made1_not Named (name_read (c ∷ w)) (name_not (c ∷ w)))

hex_not : (w : List ℕ) → is_form (hex_read w) ≡ false
unfolding hex_read
hex_not w = cond_not (list_all is_hex w) _ _ refl refl

pairs_not : (w : List ℕ) → is_form (pairs_read w) ≡ false
unfolding pairs_read
pairs_not [] = refl
pairs_not (a ∷ []) = refl
pairs_not (a ∷ b ∷ w) = made2_not (λ (y : ℕ) (ys : List ℕ). y ∷ ys) (hex_read (a ∷ b ∷ [])) (pairs_read w) (hex_not (a ∷ b ∷ [])) (pairs_not w)

eights_not : (w : List ℕ) → is_form (eights_read w) ≡ false
unfolding eights_read
eights_not [] = refl
eights_not (a ∷ []) = refl
eights_not (a ∷ b ∷ []) = refl
eights_not (a ∷ b ∷ c ∷ []) = refl
eights_not (a ∷ b ∷ c ∷ d ∷ []) = refl
eights_not (a ∷ b ∷ c ∷ d ∷ e ∷ []) = refl
eights_not (a ∷ b ∷ c ∷ d ∷ e ∷ f ∷ []) = refl
eights_not (a ∷ b ∷ c ∷ d ∷ e ∷ f ∷ g ∷ []) = refl
eights_not (a ∷ b ∷ c ∷ d ∷ e ∷ f ∷ g ∷ h ∷ w) = made2_not (λ (y : ℕ) (ys : List ℕ). y ∷ ys) (hex_read (a ∷ b ∷ c ∷ d ∷ e ∷ f ∷ g ∷ h ∷ [])) (eights_read w) (hex_not (a ∷ b ∷ c ∷ d ∷ e ∷ f ∷ g ∷ h ∷ [])) (eights_not w)

filled_not : (w : List ℕ) → is_form (filled w) ≡ false
filled_not [] = refl
filled_not (c ∷ w) = refl

few_not : (most : ℕ) (xs : List ℕ) → is_form (at_most most xs) ≡ false
few_not most xs = cond_not (nat_le (length xs) most) _ _ refl refl

pub bytes_not : (w : List ℕ) → is_form (bytes_read w) ≡ false
unfolding bytes_read
bytes_not w = cond_not (bytes_eq w (codes "-")) _ _ refl (bind_not (filled w >>= pairs_read) (at_most 65000) (bind_not (filled w) pairs_read (filled_not w) pairs_not) (few_not 65000))

pub cells_not : (w : List ℕ) → is_form (cells_read w) ≡ false
unfolding cells_read
cells_not w = cond_not (bytes_eq w (codes "-")) _ _ refl (bind_not (filled w >>= eights_read) (at_most 16384) (bind_not (filled w) eights_read (filled_not w) eights_not) (few_not 16384))

pub pixels_not : (w : List ℕ) → is_form (pixels_read w) ≡ false
unfolding pixels_read
pixels_not w = bind_not (filled w) eights_read (filled_not w) eights_not

pub row_not : (width : ℕ) (w : List ℕ) → is_form (row_read width w) ≡ false
unfolding row_read
row_not width w = cond_not (length w == row_digits width) _ _ (bind_not (hex_read w) (within_width width) (hex_not w) (λ row. cond_not (nat_lt row (2 ^ width)) _ _ refl refl)) refl

pub each_not : {A : Type 0} (judge : List ℕ → Result A Cause) → ((w : List ℕ) → is_form (judge w) ≡ false) → (ws : List (List ℕ)) → is_form (each_of judge ws) ≡ false
each_not judge h [] = refl
each_not {A} judge h (w ∷ ws) = made2_not (λ (y : A) (ys : List A). y ∷ ys) (judge w) (each_of judge ws) (h w) (each_not judge h ws)

pub point_not : (x y : List ℕ) → is_form (point_read x y) ≡ false
unfolding point_read
point_not x y = made2_not (λ (x y : ℤ). let p : Point = record { x = x; y = y } in p) (coordinate_read x) (coordinate_read y) (coordinate_not x) (coordinate_not y)

pub placed_point_not : (x y : List ℕ) → is_form (placed_point_read x y) ≡ false
unfolding placed_point_read
placed_point_not x y = made2_not (λ (x y : ℤ). let p : Point = record { x = x; y = y } in p) (place_read x) (place_read y) (place_not x) (place_not y)

pub rect_not : (x y w h : List ℕ) → is_form (rect_read x y w h) ≡ false
unfolding rect_read
rect_not x y w h = made4_not (λ (x y : ℤ) (w h : ℕ). let r : Rect = record { x = x; y = y; w = w; h = h } in r) (coordinate_read x) (coordinate_read y) (short_read w) (short_read h) (coordinate_not x) (coordinate_not y) (short_not w) (short_not h)

pub placed_rect_not : (x y w h : List ℕ) → is_form (placed_rect_read x y w h) ≡ false
unfolding placed_rect_read
placed_rect_not x y w h = made4_not (λ (x y : ℤ) (w h : ℕ). let r : Rect = record { x = x; y = y; w = w; h = h } in r) (place_read x) (place_read y) (side_read w) (side_read h) (place_not x) (place_not y) (side_not w) (side_not h)

pub size_not : (w h : List ℕ) → is_form (size_read w h) ≡ false
unfolding size_read
size_not w h = made2_not (λ (w h : ℕ). let s : Sides = record { w = w; h = h } in s) (width_read w) (height_read h) (width_not w) (height_not h)
