-- What the words of a line make, by their places; and that judged parts make it, or their first cause is the line's.
use Rattle.std.proofs.Common.{◌≡◌, ℕ, ◌-◌, ◌<◌, ◌≤◌, zero, suc, List, [], ◌∷◌, ◌++◌, length, map, take, drop, get_or, Bool, true, Result, Ok, Err, refl, ap, sym, ◌∙◌, arith, length-drop}
use Rattle.std.specs.Prelude.{if◌then◌else◌}
use lib.Chars.{codes}
use Rattle.std.specs.Str.{bytes_eq}
use Rattle.std.specs.Borrow.{Bor}
use Rattle.std.proofs.Math.Seq.{take-length}
use Rattle.glyph_masks.specs.Glyphs.{FontView}
use Rattle.gfx_fills.specs.Images.{ImageView}
use Rattle.script_grammar.specs.Session.{ImageLine}
use Rattle.script_grammar.specs.Judging.{◌⊛◌, ◌>>=◌}
use Rattle.script_grammar.specs.Spelling.{colour_read, name_read}
use Rattle.script_grammar.specs.Words.{short_read, ranged, declared_read, window_read, text_word_read, bytes_read, cells_read, point_read, placed_point_read, placed_rect_read, size_read, rects_read, points_read, in_count, ink_then, and_no_more}
use Rattle.script_grammar.specs.Lines.{screen_read, image_read, fewer, create_read, region_read, move_read, shape_read, send_read, fill_read, tile_read, blit_read, stroke_read, polyline_read, polygon_read, written_read, text_read, call_by, call_forms}
use Rattle.script_grammar.specs.declared.lines.LineCall.{LineCall}
use Rattle.script_grammar.specs.declared.lines.LineCall.TheVariants.{Create, Region, Move, Shape, Send, Fill, Tile, Blit, Line, Polyline, Polygon, Text}
use Rattle.script_grammar.specs.declared.lines.CallLine.{CallLine}
use Rattle.script_grammar.specs.declared.lines.Cause.{Cause}
use Rattle.script_grammar.specs.declared.lines.Cause.TheVariants.{Form}
use Rattle.script_grammar.proofs.Made.{made2_is, made3_is, made4_is}
use Rattle.script_words.specs.Judged.{joined, joined3, joined4}
use Rattle.script_words.proofs.Joins.{two_err, three_err, four_err}
use Rattle.script_words.proofs.Readings.{no_word}
use Rattle.script_lines.specs.Kinds.{call_line_read}
use Rattle.script_lines.specs.Parts.{image_parts}

-- ---- what judged parts make

pub made2 : {A B C : Type 0} (f : A → B → C) → {a p : Result A Cause} {b q : Result B Cause} {read : Result C Cause} {x : A} {y : B} → read ≡ (Ok f ⊛ p ⊛ q) → a ≡ p → b ≡ q → a ≡ Ok x → b ≡ Ok y → Ok (f x y) ≡ read
made2 {A} {B} {C} f {a} {p} {b} {q} {read} {x} {y} is i j u v = sym (is ∙ made2_is f p q x y (sym i ∙ u) (sym j ∙ v))

pub made3 : {A B C D : Type 0} (f : A → B → C → D) → {a p : Result A Cause} {b q : Result B Cause} {c r : Result C Cause} {read : Result D Cause} {x : A} {y : B} {z : C} → read ≡ (Ok f ⊛ p ⊛ q ⊛ r) → a ≡ p → b ≡ q → c ≡ r → a ≡ Ok x → b ≡ Ok y → c ≡ Ok z → Ok (f x y z) ≡ read
made3 {A} {B} {C} {D} f {a} {p} {b} {q} {c} {r} {read} {x} {y} {z} is i j k u v w = sym (is ∙ made3_is f p q r x y z (sym i ∙ u) (sym j ∙ v) (sym k ∙ w))

pub made4 : {A B C D E : Type 0} (f : A → B → C → D → E) → {a p : Result A Cause} {b q : Result B Cause} {c r : Result C Cause} {d s : Result D Cause} {read : Result E Cause} {x : A} {y : B} {z : C} {o : D} → read ≡ (Ok f ⊛ p ⊛ q ⊛ r ⊛ s) → a ≡ p → b ≡ q → c ≡ r → d ≡ s → a ≡ Ok x → b ≡ Ok y → c ≡ Ok z → d ≡ Ok o → Ok (f x y z o) ≡ read
made4 {A} {B} {C} {D} {E} f {a} {p} {b} {q} {c} {r} {d} {s} {read} {x} {y} {z} {o} is i j k l u v w t = sym (is ∙ made4_is f p q r s x y z o (sym i ∙ u) (sym j ∙ v) (sym k ∙ w) (sym l ∙ t))

-- ---- and their first cause

pub bad2 : {A B C : Type 0} (f : A → B → C) → {a p : Result A Cause} {b q : Result B Cause} {read : Result C Cause} {both : Result (A × B) Cause} {cause : Cause} → read ≡ (Ok f ⊛ p ⊛ q) → a ≡ p → b ≡ q → both ≡ joined a b → both ≡ Err cause → Err cause ≡ read
bad2 {A} {B} {C} f {a} {p} {b} {q} {read} {both} {cause} is i j all e = sym (is ∙ two_err f p q cause ((λ n. joined (sym i n) (sym j n)) ∙ sym all ∙ e))

pub bad3 : {A B C D : Type 0} (f : A → B → C → D) → {a p : Result A Cause} {b q : Result B Cause} {c r : Result C Cause} {read : Result D Cause} {both : Result (A × B × C) Cause} {cause : Cause} → read ≡ (Ok f ⊛ p ⊛ q ⊛ r) → a ≡ p → b ≡ q → c ≡ r → both ≡ joined3 a b c → both ≡ Err cause → Err cause ≡ read
bad3 {A} {B} {C} {D} f {a} {p} {b} {q} {c} {r} {read} {both} {cause} is i j k all e = sym (is ∙ three_err f p q r cause ((λ n. joined3 (sym i n) (sym j n) (sym k n)) ∙ sym all ∙ e))

pub bad4 : {A B C D E : Type 0} (f : A → B → C → D → E) → {a p : Result A Cause} {b q : Result B Cause} {c r : Result C Cause} {d s : Result D Cause} {read : Result E Cause} {both : Result (A × B × C × D) Cause} {cause : Cause} → read ≡ (Ok f ⊛ p ⊛ q ⊛ r ⊛ s) → a ≡ p → b ≡ q → c ≡ r → d ≡ s → both ≡ joined4 a b c d → both ≡ Err cause → Err cause ≡ read
bad4 {A} {B} {C} {D} {E} f {a} {p} {b} {q} {c} {r} {d} {s} {read} {both} {cause} is i j k l all e = sym (is ∙ four_err f p q r s cause ((λ n. joined4 (sym i n) (sym j n) (sym k n) (sym l n)) ∙ sym all ∙ e))

-- ---- the words of a line by their places

-- n words from place i on
abbrev firsts : ℕ → ℕ → List (Bor (List ℕ)) → List (Bor (List ℕ))
firsts zero i words = []
firsts (suc n) i words = get_or words i no_word ∷ firsts n (suc i) words

behind_one : (n i : ℕ) (word : Bor (List ℕ)) (words : List (Bor (List ℕ))) → firsts n i words ≡ firsts n (suc i) (word ∷ words)
behind_one zero i word words = refl
behind_one (suc n) i word words = ap (λ (ws : List (Bor (List ℕ))). get_or words i no_word ∷ ws) (behind_one n (suc i) word words)

firsts_and : (n : ℕ) (words : List (Bor (List ℕ))) → n ≤ length words → words ≡ firsts n 0 words ++ drop n words
firsts_and zero words many = refl
firsts_and (suc n) [] many = absurd (omega arith)
firsts_and (suc n) (word ∷ words) many = ap (λ (ws : List (Bor (List ℕ))). word ∷ ws) (firsts_and n words (omega arith) ∙ ap (λ (ws : List (Bor (List ℕ))). ws ++ drop n words) (behind_one n 0 word words))

-- as many words as a form has
exactly : (n : ℕ) (words : List (Bor (List ℕ))) → length words ≡ n → words ≡ firsts n 0 words
exactly zero [] many = refl
exactly zero (word ∷ words) many = absurd (omega arith)
exactly (suc n) [] many = absurd (omega arith)
exactly (suc n) (word ∷ words) many = ap (λ (ws : List (Bor (List ℕ))). word ∷ ws) (exactly n words (omega arith) ∙ behind_one n 0 word words)

-- those of a form and more
at_least : (n : ℕ) (words : List (Bor (List ℕ))) → n ≤ length words → words ≡ firsts n 0 words ++ take (length words - n) (drop n words)
at_least n words many = firsts_and n words many ∙ ap (λ (ws : List (Bor (List ℕ))). firsts n 0 words ++ ws) (sym (ap (λ k. take k (drop n words)) (sym (length-drop n words)) ∙ take-length (drop n words)))

-- what a word is
abbrev pub word : List (Bor (List ℕ)) → ℕ → List ℕ
word words i = (get_or words i no_word).now

-- those behind n words
abbrev pub more : List (Bor (List ℕ)) → ℕ → List (List ℕ)
more words n = map (λ w. w.now) (take (length words - n) (drop n words))

-- ---- each form

pub screen_is : (words : List (Bor (List ℕ))) (b : Bool) → length words ≡ 4 → bytes_eq (word words 0) (codes "screen") ≡ b → screen_read (map (λ w. w.now) words) ≡ (if b then joined (size_read (word words 1) (word words 2)) (colour_read (word words 3)) else Err Form)
unfolding screen_read
screen_is words b many fixed = ap (λ (ws : List (Bor (List ℕ))). screen_read (map (λ w. w.now) ws)) (exactly 4 words many) ∙ ap (λ (b : Bool). if b then joined (size_read (word words 1) (word words 2)) (colour_read (word words 3)) else Err Form) fixed

pub image_is : (images : List ImageView) (words : List (Bor (List ℕ))) (read : Result ImageView Cause) → length words ≡ 4 → bytes_eq (word words 0) (codes "image") ≡ true → read ≡ image_parts (word words 1) (word words 2) (word words 3) → image_read images (map (λ w. w.now) words) ≡ (read >>= fewer (length images) 64 >>= λ image. Ok (ImageLine image))
unfolding image_read
image_is images words read many fixed is =
    ap (λ (ws : List (Bor (List ℕ))). image_read images (map (λ w. w.now) ws)) (exactly 4 words many)
    ∙ (λ i. if fixed i then (sym is i >>= fewer (length images) 64 >>= λ image. Ok (ImageLine image)) else Err Form)

pub create_is : (words : List (Bor (List ℕ))) → length words ≡ 2 → create_read (map (λ w. w.now) words) ≡ (Ok (λ name layer. Create name layer) ⊛ name_read (word words 0) ⊛ short_read (word words 1))
unfolding create_read
create_is words many = ap (λ (ws : List (Bor (List ℕ))). create_read (map (λ w. w.now) ws)) (exactly 2 words many)

pub region_is : (words : List (Bor (List ℕ))) → 3 ≤ length words → region_read (map (λ w. w.now) words) ≡ (Ok (λ window origin rects. Region window origin rects) ⊛ window_read (word words 0) ⊛ point_read (word words 1) (word words 2) ⊛ in_count 0 256 (more words 3) (rects_read (more words 3)))
unfolding region_read
region_is words many = ap (λ (ws : List (Bor (List ℕ))). region_read (map (λ w. w.now) ws)) (at_least 3 words many)

pub move_is : (words : List (Bor (List ℕ))) → length words ≡ 3 → move_read (map (λ w. w.now) words) ≡ (Ok (λ window origin. Move window origin) ⊛ window_read (word words 0) ⊛ point_read (word words 1) (word words 2))
unfolding move_read
move_is words many = ap (λ (ws : List (Bor (List ℕ))). move_read (map (λ w. w.now) ws)) (exactly 3 words many)

pub shape_is : (words : List (Bor (List ℕ))) → length words ≡ 3 → shape_read (map (λ w. w.now) words) ≡ (Ok (λ w h cells. Shape w h cells) ⊛ short_read (word words 0) ⊛ short_read (word words 1) ⊛ cells_read (word words 2))
unfolding shape_read
shape_is words many = ap (λ (ws : List (Bor (List ℕ))). shape_read (map (λ w. w.now) ws)) (exactly 3 words many)

pub send_is : (words : List (Bor (List ℕ))) → length words ≡ 3 → send_read (map (λ w. w.now) words) ≡ (Ok (λ channel message payload. Send channel message payload) ⊛ text_word_read (word words 0) ⊛ text_word_read (word words 1) ⊛ bytes_read (word words 2))
unfolding send_read
send_is words many = ap (λ (ws : List (Bor (List ℕ))). send_read (map (λ w. w.now) ws)) (exactly 3 words many)

pub fill_is : (words : List (Bor (List ℕ))) → 5 ≤ length words → fill_read (map (λ w. w.now) words) ≡ (Ok (λ window rect ink. Fill window rect ink) ⊛ window_read (word words 0) ⊛ placed_rect_read (word words 1) (word words 2) (word words 3) (word words 4) ⊛ and_no_more (ink_then (more words 5)))
unfolding fill_read
fill_is words many = ap (λ (ws : List (Bor (List ℕ))). fill_read (map (λ w. w.now) ws)) (at_least 5 words many)

pub tile_is : (images : ℕ) (words : List (Bor (List ℕ))) → length words ≡ 6 → tile_read images (map (λ w. w.now) words) ≡ (Ok (λ window rect image. Tile window rect image) ⊛ window_read (word words 0) ⊛ placed_rect_read (word words 1) (word words 2) (word words 3) (word words 4) ⊛ declared_read images (word words 5))
unfolding tile_read
tile_is images words many = ap (λ (ws : List (Bor (List ℕ))). tile_read images (map (λ w. w.now) ws)) (exactly 6 words many)

pub blit_is : (images : ℕ) (words : List (Bor (List ℕ))) → length words ≡ 5 → blit_read images (map (λ w. w.now) words) ≡ (Ok (λ window at image alpha. Blit window at image alpha) ⊛ window_read (word words 0) ⊛ placed_point_read (word words 1) (word words 2) ⊛ declared_read images (word words 3) ⊛ ranged 0 255 (word words 4))
unfolding blit_read
blit_is images words many = ap (λ (ws : List (Bor (List ℕ))). blit_read images (map (λ w. w.now) ws)) (exactly 5 words many)

pub stroke_is : (words : List (Bor (List ℕ))) → length words ≡ 6 → stroke_read (map (λ w. w.now) words) ≡ (Ok (λ window from to colour. Line window from to colour) ⊛ window_read (word words 0) ⊛ placed_point_read (word words 1) (word words 2) ⊛ placed_point_read (word words 3) (word words 4) ⊛ colour_read (word words 5))
unfolding stroke_read
stroke_is words many = ap (λ (ws : List (Bor (List ℕ))). stroke_read (map (λ w. w.now) ws)) (exactly 6 words many)

pub polyline_is : (words : List (Bor (List ℕ))) → 2 ≤ length words → polyline_read (map (λ w. w.now) words) ≡ (Ok (λ window colour points. Polyline window colour points) ⊛ window_read (word words 0) ⊛ colour_read (word words 1) ⊛ in_count 4 128 (more words 2) (points_read (more words 2)))
unfolding polyline_read
polyline_is words many = ap (λ (ws : List (Bor (List ℕ))). polyline_read (map (λ w. w.now) ws)) (at_least 2 words many)

pub polygon_is : (words : List (Bor (List ℕ))) → 1 ≤ length words → polygon_read (map (λ w. w.now) words) ≡ (Ok (λ window ink points. Polygon window ink points) ⊛ window_read (word words 0) ⊛ (ink_then (more words 1)).0 ⊛ in_count 6 128 (ink_then (more words 1)).1 (points_read (ink_then (more words 1)).1))
unfolding polygon_read
polygon_is words many = ap (λ (ws : List (Bor (List ℕ))). polygon_read (map (λ w. w.now) ws)) (at_least 1 words many)

pub text_is : (fonts : List FontView) (words : List (Bor (List ℕ))) → 4 ≤ length words → text_read fonts (map (λ w. w.now) words) ≡ (Ok (λ window at ink text. Text window text.0 at ink text.1) ⊛ window_read (word words 0) ⊛ placed_point_read (word words 2) (word words 3) ⊛ (ink_then (more words 4)).0 ⊛ written_read fonts (word words 1) (ink_then (more words 4)).1)
unfolding text_read
text_is fonts words many = ap (λ (ws : List (Bor (List ℕ))). text_read fonts (map (λ w. w.now) ws)) (at_least 4 words many)

pub call_line_is : (clients : ℕ) (fonts : List FontView) (images : ℕ) (words : List (Bor (List ℕ))) → 2 ≤ length words → call_line_read clients fonts images (map (λ w. w.now) words) ≡ (Ok (λ (client : ℕ) (call : LineCall). let line : CallLine = record { client = client; call = call } in line) ⊛ declared_read clients (word words 0) ⊛ call_by (call_forms fonts images) (word words 1) (more words 2))
call_line_is clients fonts images words many = ap (λ (ws : List (Bor (List ℕ))). call_line_read clients fonts images (map (λ w. w.now) ws)) (at_least 2 words many)

-- ---- too few words

pub region_few : (words : List (Bor (List ℕ))) → length words < 3 → Err Form ≡ region_read (map (λ w. w.now) words)
unfolding region_read
region_few [] few = refl
region_few (w0 ∷ []) few = refl
region_few (w0 ∷ w1 ∷ []) few = refl
region_few (w0 ∷ w1 ∷ w2 ∷ words) few = absurd (omega arith)

pub polyline_few : (words : List (Bor (List ℕ))) → length words < 2 → Err Form ≡ polyline_read (map (λ w. w.now) words)
unfolding polyline_read
polyline_few [] few = refl
polyline_few (w0 ∷ []) few = refl
polyline_few (w0 ∷ w1 ∷ words) few = absurd (omega arith)
