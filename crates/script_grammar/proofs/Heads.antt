-- The head, the fonts and images, and the lines of calls are read as printed.
use Rattle.std.proofs.Common.{◌≡◌, ℕ, ◌+◌, ◌*◌, ◌<◌, ◌≤◌, ◌^◌, zero, suc, List, [], ◌∷◌, ◌++◌, length, map, Bool, true, false, ◌&&◌, cond, nat_le, nat_lt, Result, Ok, Err, refl, ap, sym, ◌∙◌, subst, arith, eq-eqb, ◌⊎◌, inl, inr}
use Rattle.std.specs.Prelude.{◌==◌, All, nat_eq}
use lib.Chars.{codes}
use Rattle.std.specs.List.{list_all, flat_map}
use Rattle.std.specs.Str.{bytes_eq}
use Rattle.std.specs.Fmt.{decimal, digits}
use Rattle.std.proofs.lemmas.Bool.Decides.{nat_tests}
use Rattle.std.proofs.lemmas.Slice.Eq.{bytes_eq-Decides}
use Rattle.std.proofs.lemmas.List.{length-map}
use Rattle.qws_base.specs.Sides.{Sides, IsScreen}
use Rattle.qws_base.specs.declared.colours.Depth.{Depth}
use Rattle.qws_base.specs.declared.colours.Depth.TheVariants.{Full, Narrow}
use Rattle.glyph_masks.specs.Glyphs.{GlyphView, FontView, IsGlyph, has_code}
use Rattle.gfx_fills.specs.Images.{ImageView}
use Rattle.script_grammar.specs.Judging.{◌>>=◌, ◌⊛◌, each_of, as_many, ◌or_else◌}
use Rattle.script_grammar.specs.Spelling.{number_read, in_range, colour_read}
use Rattle.script_grammar.specs.Limits.{IsColour, IsPixel, IsShort, IsNewGlyph, IsAsset, IsCallLine}
use Rattle.script_grammar.specs.Printing.{colour, hex, row_digits, asset_words, line_words, kind_word, call_words}
use Rattle.script_grammar.specs.Words.{short_read, ranged, declared_read, pixels_read, row_read, size_read}
use Rattle.script_grammar.specs.Lines.{sixteen, depth_read, screen_read, clients_read, fewer, font_read, new_in, glyph_read, whole_image, image_read, asset_read, call_forms, call_by, with_room, line_read}
use Rattle.script_grammar.specs.Session.{Session, Asset, FontLine, GlyphLine, ImageLine, fonts_of, images_of, latest, lines_by}
use Rattle.script_grammar.specs.declared.lines.LineCall.{LineCall}
use Rattle.script_grammar.specs.declared.lines.CallLine.{CallLine}
use Rattle.script_grammar.specs.declared.lines.Cause.{Cause}
use Rattle.script_grammar.specs.declared.lines.Cause.TheVariants.{Form, Number, Range, Unknown, Repeated, Missing, Many, End}
use Rattle.script_grammar.proofs.Binds.{err_is_no_ok, bind_ok, cond_ok}
use Rattle.script_grammar.proofs.Spelling.{IsSpelling, ok_same, both, and_true, cond_is, bind_is, number_spelling, ranged_spelling, short_spelling, declared_spelling}
use Rattle.script_grammar.proofs.Hex.{colour_spelling}
use Rattle.script_grammar.proofs.Made.{made1_is, made2_is, made3_is, made1_ok, made2_ok, made3_ok}
use Rattle.script_grammar.proofs.WordForms.{pixels_spelling, IsPixels, row_spelling, size_reads, size_printed}
use Rattle.script_grammar.proofs.WordLists.{each_spelling, cond_case}
use Rattle.script_grammar.proofs.Calls.{call_reads, call_printed, Said}
use borrow.Author.Tests.{eqb-true}

is_word : (word : List ℕ) (name : List ℕ) → bytes_eq word name ≡ true → word ≡ name
is_word word name h = (bytes_eq-Decides word name).0 h

-- ---- the head

sixteen_text : decimal 16 ≡ codes "16"
unfolding digits
sixteen_text = refl

pub depth_reads : depth_read (codes "depth" ∷ codes "16" ∷ []) ≡ Ok Narrow
unfolding depth_read number_read
depth_reads = refl

pub depth_printed : (ws : List (List ℕ)) (depth : Depth) → depth_read ws ≡ Ok depth → (depth ≡ Narrow) × (ws ≡ codes "depth" ∷ codes "16" ∷ [])
unfolding depth_read
depth_printed [] depth e = err_is_no_ok Form depth e
depth_printed (fixed ∷ []) depth e = err_is_no_ok Form depth e
depth_printed (fixed ∷ n ∷ more ∷ ws) depth e = err_is_no_ok Form depth e
depth_printed (fixed ∷ n ∷ []) depth e =
    let found = cond_ok (bytes_eq fixed (codes "depth")) (number_read n >>= sixteen) Form depth e in
    let read = bind_ok (number_read n) sixteen depth found.1 in
    let test = cond_ok (read.0 == 16) (Ok Narrow) Range depth read.2 in
    let number = number_spelling.printed n read.0 read.1 in
    let value : read.0 ≡ 16 = eqb-true read.0 16 test.0 in
    let word : n ≡ codes "16" = number.0 ∙ ap decimal value ∙ sixteen_text in
    let first = is_word fixed (codes "depth") found.0 in
    (sym (ok_same Narrow depth test.1), λ i. first i ∷ word i ∷ [])

pub screen_reads : (size : Sides) (c : ℕ) → IsScreen size → IsColour c → screen_read (codes "screen" ∷ decimal size.w ∷ decimal size.h ∷ colour c ∷ []) ≡ Ok (size, c)
unfolding screen_read
screen_reads size c h k = made2_is (λ (s : Sides) (v : ℕ). (s, v)) (size_read (decimal size.w) (decimal size.h)) (colour_read (colour c)) size c (size_reads size h) (colour_spelling.reads c k)

pub screen_printed : (ws : List (List ℕ)) (screen : Sides × ℕ) → screen_read ws ≡ Ok screen → (ws ≡ codes "screen" ∷ decimal screen.0.w ∷ decimal screen.0.h ∷ colour screen.1 ∷ []) × IsScreen screen.0 × IsColour screen.1
unfolding screen_read
screen_printed [] screen e = err_is_no_ok Form screen e
screen_printed (fixed ∷ []) screen e = err_is_no_ok Form screen e
screen_printed (fixed ∷ w ∷ []) screen e = err_is_no_ok Form screen e
screen_printed (fixed ∷ w ∷ h ∷ []) screen e = err_is_no_ok Form screen e
screen_printed (fixed ∷ w ∷ h ∷ c ∷ more ∷ ws) screen e = err_is_no_ok Form screen e
screen_printed (fixed ∷ w ∷ h ∷ c ∷ []) screen e =
    let found = cond_ok (bytes_eq fixed (codes "screen")) (Ok (λ (s : Sides) (v : ℕ). (s, v)) ⊛ size_read w h ⊛ colour_read c) Form screen e in
    let made = made2_ok (λ (s : Sides) (v : ℕ). (s, v)) (size_read w h) (colour_read c) screen found.1 in
    let size = size_printed w h made.0 made.2 in
    let shade = colour_spelling.printed c made.1 made.3 in
    let first = is_word fixed (codes "screen") found.0 in
    ((λ i. first i ∷ size.0 i ∷ size.1 i ∷ shade.0 i ∷ []) ∙ ap (λ (s : Sides × ℕ). codes "screen" ∷ decimal s.0.w ∷ decimal s.0.h ∷ colour s.1 ∷ []) made.4, subst (λ (s : Sides × ℕ). IsScreen s.0) made.4 size.2, subst (λ (s : Sides × ℕ). IsColour s.1) made.4 shade.1)

pub clients_reads : (n : ℕ) → n ≤ 16 → clients_read (codes "clients" ∷ decimal n ∷ []) ≡ Ok n
unfolding clients_read
clients_reads n h = let sixteen_or_less = ranged_spelling 0 16 (omega arith) in sixteen_or_less.reads n (omega arith, h)

pub clients_printed : (ws : List (List ℕ)) (n : ℕ) → clients_read ws ≡ Ok n → (ws ≡ codes "clients" ∷ decimal n ∷ []) × (n ≤ 16)
unfolding clients_read
clients_printed [] n e = err_is_no_ok Form n e
clients_printed (fixed ∷ []) n e = err_is_no_ok Form n e
clients_printed (fixed ∷ w ∷ more ∷ ws) n e = err_is_no_ok Form n e
clients_printed (fixed ∷ w ∷ []) n e =
    let found = cond_ok (bytes_eq fixed (codes "clients")) (ranged 0 16 w) Form n e in
    let sixteen_or_less = ranged_spelling 0 16 (omega arith) in
    let number = sixteen_or_less.printed w n found.1 in
    let first = is_word fixed (codes "clients") found.0 in
    ((λ i. first i ∷ number.0 i ∷ []), number.1.1)

-- ---- fonts and images

fewer_reads : {A : Type 0} (count most : ℕ) (x : A) → count < most → fewer count most x ≡ Ok x
fewer_reads count most x h = cond_is (nat_lt count most) (Ok x) (Err Many) (let test : nat_lt count most ≡ true = grind (arith, nat_tests) in test)

fewer_ok : {A : Type 0} (count most : ℕ) (x y : A) → fewer count most x ≡ Ok y → (x ≡ y) × (count < most)
fewer_ok count most x y e =
    let found = cond_ok (nat_lt count most) (Ok x) Many y e in
    let test = found.0 in
    (ok_same x y found.1, grind (arith, nat_tests))

heights : IsSpelling (ranged 1 32) decimal (λ n. (1 ≤ n) × (n ≤ 32))
heights = ranged_spelling 1 32 (omega arith)

sides : IsSpelling (ranged 1 256) decimal (λ n. (1 ≤ n) × (n ≤ 256))
sides = ranged_spelling 1 256 (omega arith)

-- a line of a font, a glyph or an image was read behind others
record SaidAsset (before : List Asset) (ws : List (List ℕ)) (asset : Asset) : Type 0 where
  same_words : ws ≡ asset_words asset
  limits : IsAsset before asset

font_reads : (before : List Asset) (height : ℕ) → IsAsset before (FontLine height) → font_read (fonts_of before) (asset_words (FontLine height)) ≡ Ok (FontLine height)
unfolding font_read
font_reads before height h =
    bind_is (Ok FontLine ⊛ ranged 1 32 (decimal height)) (fewer (length (fonts_of before)) 8) (FontLine height) (made1_is FontLine (ranged 1 32 (decimal height)) height (heights.reads height (h.0, h.1)))
    ∙ fewer_reads (length (fonts_of before)) 8 (FontLine height) h.2

font_printed : (before : List Asset) (ws : List (List ℕ)) (asset : Asset) → font_read (fonts_of before) ws ≡ Ok asset → SaidAsset before ws asset
unfolding font_read
font_printed before [] asset e = err_is_no_ok Form asset e
font_printed before (fixed ∷ []) asset e = err_is_no_ok Form asset e
font_printed before (fixed ∷ height ∷ more ∷ ws) asset e = err_is_no_ok Form asset e
font_printed before (fixed ∷ height ∷ []) asset e =
    let found = cond_ok (bytes_eq fixed (codes "font")) (Ok FontLine ⊛ ranged 1 32 height >>= fewer (length (fonts_of before)) 8) Form asset e in
    let read = bind_ok (Ok FontLine ⊛ ranged 1 32 height) (fewer (length (fonts_of before)) 8) asset found.1 in
    let made = made1_ok FontLine (ranged 1 32 height) read.0 read.1 in
    let few = fewer_ok (length (fonts_of before)) 8 read.0 asset read.2 in
    let number = heights.printed height made.0 made.1 in
    let first = is_word fixed (codes "font") found.0 in
    subst (SaidAsset before (fixed ∷ height ∷ [])) (made.2 ∙ few.0) (record { same_words = λ i. first i ∷ number.0 i ∷ []; limits = (number.1.0, number.1.1, few.1) })

abbrev pub rows_judged : List ℕ → List (List ℕ) → Result (List ℕ) Cause
rows_judged width rows = number_read width >>= λ columns. each_of (row_read columns) rows

abbrev pub glyph_made : List ℕ → List ℕ → List (List ℕ) → Result GlyphView Cause
glyph_made code width rows = Ok (λ code width rows. record { code = code; width = width; rows = rows }) ⊛ short_read code ⊛ ranged 1 32 width ⊛ rows_judged width rows

glyph_reads : (before : List Asset) (glyph : GlyphView) → IsAsset before (GlyphLine glyph) → glyph_read (fonts_of before) (asset_words (GlyphLine glyph)) ≡ Ok (GlyphLine glyph)
unfolding glyph_read
glyph_reads before glyph h =
    let fonts = fonts_of before in
    let font = latest fonts in
    let some = h.0 in
    let shape = h.1.shape in
    let rows : List (List ℕ) = map (hex (row_digits glyph.width)) glyph.rows in
    let count : length rows ≡ font.height = length-map glyph.rows (hex (row_digits glyph.width)) ∙ shape.rows_of_font in
    let test : (nat_lt 0 (length fonts) && length rows == font.height) ≡ true = and_true (nat_lt 0 (length fonts)) (length rows == font.height) (grind (arith, nat_tests)) (eq-eqb (length rows) font.height count) in
    let read_rows : rows_judged (decimal glyph.width) rows ≡ Ok glyph.rows =
    bind_is (number_read (decimal glyph.width)) (λ columns. each_of (row_read columns) rows) glyph.width (number_spelling.reads glyph.width (let most = shape.most_width in omega arith))
    ∙ (let own = each_spelling (row_spelling glyph.width) in own.reads glyph.rows shape.bits) in
    let made : glyph_made (decimal glyph.code) (decimal glyph.width) rows ≡ Ok glyph =
    made3_is (λ (a b : ℕ) (c : List ℕ). let g : GlyphView = record { code = a; width = b; rows = c } in g) (short_read (decimal glyph.code)) (ranged 1 32 (decimal glyph.width)) (rows_judged (decimal glyph.width) rows) glyph.code glyph.width glyph.rows (short_spelling.reads glyph.code h.1.code) (heights.reads glyph.width (shape.some_width, shape.most_width)) read_rows in
    cond_is (nat_lt 0 (length fonts) && length rows == font.height) (glyph_made (decimal glyph.code) (decimal glyph.width) rows >>= new_in font) (Err Form) test
    ∙ bind_is (glyph_made (decimal glyph.code) (decimal glyph.width) rows) (new_in font) glyph made
    ∙ ap (λ b. cond b (Err Repeated) (Ok (GlyphLine glyph))) h.1.new

new_ok : (b : Bool) (glyph : GlyphView) (asset : Asset) → ◌≡◌ {A = Result Asset Cause} (cond b (Err Repeated) (Ok (GlyphLine glyph))) (Ok asset) → (b ≡ false) × (GlyphLine glyph ≡ asset)
new_ok true glyph asset e = err_is_no_ok Repeated asset e
new_ok false glyph asset e = (refl, ok_same (GlyphLine glyph) asset e)

-- a word is one number
width_once : (word : List ℕ) (a b : ℕ) → number_read word ≡ Ok a → ranged 1 32 word ≡ Ok b → a ≡ b
unfolding ranged
width_once word a b e f =
    let read = bind_ok (number_read word) (in_range 1 32) b f in
    let test = cond_ok (nat_le 1 read.0 && nat_le read.0 32) (Ok read.0) Range b read.2 in
    ok_same a read.0 (sym e ∙ read.1) ∙ ok_same read.0 b test.1

glyph_printed : (before : List Asset) (ws : List (List ℕ)) (asset : Asset) → glyph_read (fonts_of before) ws ≡ Ok asset → SaidAsset before ws asset
unfolding glyph_read
glyph_printed before [] asset e = err_is_no_ok Form asset e
glyph_printed before (fixed ∷ []) asset e = err_is_no_ok Form asset e
glyph_printed before (fixed ∷ code ∷ []) asset e = err_is_no_ok Form asset e
glyph_printed before (fixed ∷ code ∷ width ∷ rows) asset e =
    let fonts = fonts_of before in
    let font = latest fonts in
    let found = cond_ok (bytes_eq fixed (codes "glyph") && (nat_lt 0 (length (fonts_of before)) && length rows == (latest (fonts_of before)).height)) (glyph_made code width rows >>= new_in (latest (fonts_of before))) Form asset e in
    let front = both (bytes_eq fixed (codes "glyph")) (nat_lt 0 (length (fonts_of before)) && length rows == (latest (fonts_of before)).height) found.0 in
    let tests = both (nat_lt 0 (length (fonts_of before))) (length rows == (latest (fonts_of before)).height) front.1 in
    let count : length rows ≡ (latest (fonts_of before)).height = eqb-true _ _ tests.1 in
    let read = bind_ok (glyph_made code width rows) (new_in (latest (fonts_of before))) asset found.1 in
    let made = made3_ok (λ (a b : ℕ) (c : List ℕ). let g : GlyphView = record { code = a; width = b; rows = c } in g) (short_read code) (ranged 1 32 width) (rows_judged width rows) read.0 read.1 in
    let glyph : GlyphView = record { code = made.0; width = made.1; rows = made.2 } in
    let again = new_ok (has_code (latest (fonts_of before)) read.0.code) read.0 asset read.2 in
    let fresh : has_code (latest (fonts_of before)) glyph.code ≡ false = ap (λ (g : GlyphView). has_code (latest (fonts_of before)) g.code) made.6 ∙ again.0 in
    let number = short_spelling.printed code made.0 made.3 in
    let columns = heights.printed width made.1 made.4 in
    let judged = bind_ok (number_read width) (λ columns. each_of (row_read columns) rows) made.2 made.5 in
    let same_width : judged.0 ≡ made.1 = width_once width judged.0 made.1 judged.1 made.4 in
    let own = each_spelling (row_spelling made.1) in
    let bits = own.printed rows made.2 ((λ i. each_of (row_read (sym same_width i)) rows) ∙ judged.2) in
    let first = is_word fixed (codes "glyph") front.0 in
    let height : length made.2 ≡ (latest (fonts_of before)).height = sym (length-map made.2 (hex (row_digits made.1))) ∙ sym (ap length bits.0) ∙ count in
    let some : 0 < length (fonts_of before) = let test = tests.0 in grind (arith, nat_tests) in
    let inside : IsNewGlyph (latest (fonts_of before)) glyph = record { shape = record { some_width = columns.1.0; most_width = columns.1.1; rows_of_font = height; bits = bits.1 }; code = number.1; new = fresh } in
    subst (SaidAsset before (fixed ∷ code ∷ width ∷ rows)) (ap GlyphLine made.6 ∙ again.1) (record { same_words = λ i. first i ∷ number.0 i ∷ columns.0 i ∷ bits.0 i; limits = (some, inside) })

-- ---- images

abbrev pub image_made : List ℕ → List ℕ → List ℕ → Result ImageView Cause
image_made w h pixels = Ok (λ w h pixels. record { w = w; h = h; pixels = pixels }) ⊛ ranged 1 256 w ⊛ ranged 1 256 h ⊛ pixels_read pixels

pub some_pixels : (w h n : ℕ) → 1 ≤ w → 1 ≤ h → n ≡ w * h → 0 < n
some_pixels zero h n a b e = absurd (omega arith)
some_pixels (suc w) zero n a b e = absurd (omega arith)
some_pixels (suc w) (suc h) n a b e = omega arith

image_reads : (before : List Asset) (image : ImageView) → IsAsset before (ImageLine image) → image_read (images_of before) (asset_words (ImageLine image)) ≡ Ok (ImageLine image)
unfolding image_read
image_reads before image h =
    let count = length (images_of before) in
    let size = h.0 in
    let pixels = flat_map (hex 8) image.pixels in
    let whole = image_made (decimal image.w) (decimal image.h) (flat_map (hex 8) image.pixels) in
    let made : image_made (decimal image.w) (decimal image.h) (flat_map (hex 8) image.pixels) ≡ Ok image =
    made3_is (λ (a b : ℕ) (c : List ℕ). let g : ImageView = record { w = a; h = b; pixels = c } in g) (ranged 1 256 (decimal image.w)) (ranged 1 256 (decimal image.h)) (pixels_read (flat_map (hex 8) image.pixels)) image.w image.h image.pixels (sides.reads image.w (size.some_w, size.most_w)) (sides.reads image.h (size.some_h, size.most_h)) (pixels_spelling.reads image.pixels (record { some = some_pixels image.w image.h (length image.pixels) size.some_w size.some_h size.whole; each = h.1 })) in
    let all : whole_image image ≡ Ok image = bind_is (as_many (image.w * image.h) image.pixels) (λ pixels. Ok image) image.pixels (cond_is (nat_eq (length image.pixels) (image.w * image.h)) (Ok image.pixels) (Err Range) (eq-eqb _ _ size.whole)) in
    bind_is (image_made (decimal image.w) (decimal image.h) (flat_map (hex 8) image.pixels) >>= whole_image >>= fewer (length (images_of before)) 64) (λ image. Ok (ImageLine image)) image
    (bind_is (image_made (decimal image.w) (decimal image.h) (flat_map (hex 8) image.pixels) >>= whole_image) (fewer (length (images_of before)) 64) image
    (bind_is (image_made (decimal image.w) (decimal image.h) (flat_map (hex 8) image.pixels)) whole_image image made ∙ all)
    ∙ fewer_reads (length (images_of before)) 64 image h.2)

image_printed : (before : List Asset) (ws : List (List ℕ)) (asset : Asset) → image_read (images_of before) ws ≡ Ok asset → SaidAsset before ws asset
unfolding image_read
image_printed before [] asset e = err_is_no_ok Form asset e
image_printed before (fixed ∷ []) asset e = err_is_no_ok Form asset e
image_printed before (fixed ∷ w ∷ []) asset e = err_is_no_ok Form asset e
image_printed before (fixed ∷ w ∷ h ∷ []) asset e = err_is_no_ok Form asset e
image_printed before (fixed ∷ w ∷ h ∷ pixels ∷ more ∷ ws) asset e = err_is_no_ok Form asset e
image_printed before (fixed ∷ w ∷ h ∷ pixels ∷ []) asset e =
    let found = cond_ok (bytes_eq fixed (codes "image")) ((image_made w h pixels >>= whole_image) >>= fewer (length (images_of before)) 64 >>= λ image. Ok (ImageLine image)) Form asset e in
    let last = bind_ok ((image_made w h pixels >>= whole_image) >>= fewer (length (images_of before)) 64) (λ image. Ok (ImageLine image)) asset found.1 in
    let room = bind_ok (image_made w h pixels >>= whole_image) (fewer (length (images_of before)) 64) last.0 last.1 in
    let few = fewer_ok (length (images_of before)) 64 room.0 last.0 room.2 in
    let whole = bind_ok (image_made w h pixels) whole_image room.0 room.1 in
    let made = made3_ok (λ (a b : ℕ) (c : List ℕ). let g : ImageView = record { w = a; h = b; pixels = c } in g) (ranged 1 256 w) (ranged 1 256 h) (pixels_read pixels) whole.0 whole.1 in
    let image : ImageView = record { w = made.0; h = made.1; pixels = made.2 } in
    let all = bind_ok (as_many (whole.0.w * whole.0.h) whole.0.pixels) (λ pixels. Ok whole.0) room.0 whole.2 in
    let same : image ≡ last.0 = made.6 ∙ ok_same whole.0 room.0 all.2 ∙ few.0 in
    let test = cond_ok (nat_eq (length whole.0.pixels) (whole.0.w * whole.0.h)) (Ok whole.0.pixels) Range all.0 all.1 in
    let count : length whole.0.pixels ≡ whole.0.w * whole.0.h = eqb-true _ _ test.0 in
    let own_count : length image.pixels ≡ image.w * image.h = subst (λ (g : ImageView). length g.pixels ≡ g.w * g.h) (sym made.6) count in
    let width = sides.printed w made.0 made.3 in
    let height = sides.printed h made.1 made.4 in
    let colours = pixels_spelling.printed pixels made.2 made.5 in
    let first = is_word fixed (codes "image") found.0 in
    subst (SaidAsset before (fixed ∷ w ∷ h ∷ pixels ∷ [])) (ap ImageLine same ∙ ok_same (ImageLine last.0) asset last.2) (record { same_words = λ i. first i ∷ width.0 i ∷ height.0 i ∷ colours.0 i ∷ []; limits = (record { some_w = width.1.0; most_w = width.1.1; some_h = height.1.0; most_h = height.1.1; whole = own_count }, colours.1.each, few.1) })

-- ---- one form or another

pub or_else_ok : {A : Type 0} (a b : Result A Cause) (x : A) → (a or_else b) ≡ Ok x → (a ≡ Ok x) ⊎ (b ≡ Ok x)
or_else_ok (Ok y) b x e = inl e
or_else_ok (Err Form) b x e = inr e
or_else_ok (Err Number) b x e = err_is_no_ok Number x e
or_else_ok (Err Range) b x e = err_is_no_ok Range x e
or_else_ok (Err Unknown) b x e = err_is_no_ok Unknown x e
or_else_ok (Err Repeated) b x e = err_is_no_ok Repeated x e
or_else_ok (Err Missing) b x e = err_is_no_ok Missing x e
or_else_ok (Err Many) b x e = err_is_no_ok Many x e
or_else_ok (Err End) b x e = err_is_no_ok End x e

-- the first is of the form
pub first_is : {A : Type 0} (a b : Result A Cause) (x : A) → a ≡ Ok x → (a or_else b) ≡ Ok x
first_is {A} a b x e = ap (λ (r : Result A Cause). r or_else b) e

-- it isn't
pub second_is : {A : Type 0} (a b : Result A Cause) → a ≡ Err Form → (a or_else b) ≡ b
second_is {A} a b e = ap (λ (r : Result A Cause). r or_else b) e

no_font_form : (fonts : List FontView) (a b c : List ℕ) (ws : List (List ℕ)) → font_read fonts (a ∷ b ∷ c ∷ ws) ≡ Err Form
unfolding font_read
no_font_form fonts a b c ws = refl

no_glyph_form : (fonts : List FontView) (b c d : List ℕ) → glyph_read fonts (codes "image" ∷ b ∷ c ∷ d ∷ []) ≡ Err Form
unfolding glyph_read
no_glyph_form fonts b c d = refl

pub asset_reads : (before : List Asset) (asset : Asset) → IsAsset before asset → asset_read before (asset_words asset) ≡ Ok asset
unfolding asset_read
asset_reads before (FontLine height) h = first_is _ _ _ (font_reads before height h)
asset_reads before (GlyphLine glyph) h = second_is _ _ (no_font_form (fonts_of before) _ _ _ _) ∙ first_is _ _ _ (glyph_reads before glyph h)
asset_reads before (ImageLine image) h = second_is _ _ (no_font_form (fonts_of before) _ _ _ _) ∙ second_is _ _ (no_glyph_form (fonts_of before) _ _ _) ∙ image_reads before image h

pub asset_printed : (before : List Asset) (ws : List (List ℕ)) (asset : Asset) → asset_read before ws ≡ Ok asset → (ws ≡ asset_words asset) × IsAsset before asset
unfolding asset_read
asset_printed before ws asset e =
    elim (or_else_ok (font_read (fonts_of before) ws) _ asset e) [
      | inl is ↦ (let said = font_printed before ws asset is in (said.same_words, said.limits))
      | inr more ↦ elim (or_else_ok (glyph_read (fonts_of before) ws) _ asset more) [
        | inl is ↦ (let said = glyph_printed before ws asset is in (said.same_words, said.limits))
        | inr is ↦ (let said = image_printed before ws asset is in (said.same_words, said.limits))
      ]
    ]

-- ---- lines of calls

pub line_reads : (said : Session) (line : CallLine) → said.clients ≤ 16 → IsCallLine said.clients said.assets said.calls line → line_read said (line_words line) ≡ Ok line
unfolding line_read
line_reads said line few h =
    let fonts = fonts_of said.assets in
    let images = length (images_of said.assets) in
    let below = h.client in
    let own = declared_spelling said.clients in
    bind_is (Ok (λ (client : ℕ) (call : LineCall). let l : CallLine = record { client = client; call = call } in l) ⊛ declared_read said.clients (decimal line.client) ⊛ call_by (call_forms (fonts_of said.assets) (length (images_of said.assets))) (kind_word line.call) (call_words line.call)) (with_room said.calls) line
    (made2_is (λ (client : ℕ) (call : LineCall). let l : CallLine = record { client = client; call = call } in l) (declared_read said.clients (decimal line.client)) (call_by (call_forms (fonts_of said.assets) (length (images_of said.assets))) (kind_word line.call) (call_words line.call)) line.client line.call (own.reads line.client (omega arith, h.client)) (call_reads (fonts_of said.assets) (length (images_of said.assets)) line.call h.call))
    ∙ fewer_reads (length (lines_by line.client said.calls)) 65536 line h.room

pub line_printed : (said : Session) (ws : List (List ℕ)) (line : CallLine) → line_read said ws ≡ Ok line → (ws ≡ line_words line) × IsCallLine said.clients said.assets said.calls line
unfolding line_read
line_printed said [] line e = err_is_no_ok Form line e
line_printed said (client ∷ []) line e = err_is_no_ok Form line e
line_printed said (client ∷ kind ∷ words) line e =
    let judged = call_by (call_forms (fonts_of said.assets) (length (images_of said.assets))) kind words in
    let read = bind_ok (Ok (λ (client : ℕ) (call : LineCall). let l : CallLine = record { client = client; call = call } in l) ⊛ declared_read said.clients client ⊛ call_by (call_forms (fonts_of said.assets) (length (images_of said.assets))) kind words) (with_room said.calls) line e in
    let made = made2_ok (λ (client : ℕ) (call : LineCall). let l : CallLine = record { client = client; call = call } in l) (declared_read said.clients client) (call_by (call_forms (fonts_of said.assets) (length (images_of said.assets))) kind words) read.0 read.1 in
    let few = fewer_ok (length (lines_by read.0.client said.calls)) 65536 read.0 line read.2 in
    let own = declared_spelling said.clients in
    let number = own.printed client made.0 made.2 in
    let call = call_printed (fonts_of said.assets) (length (images_of said.assets)) kind words made.1 made.3 in
    let mine : CallLine = record { client = made.0; call = made.1 } in
    let room : length (lines_by mine.client said.calls) < 65536 = subst (λ (l : CallLine). length (lines_by l.client said.calls) < 65536) (sym made.4) few.1 in
    let inside : IsCallLine said.clients said.assets said.calls mine = record { client = number.1.1; call = call.limits; room = room } in
    let same : mine ≡ line = made.4 ∙ few.0 in
    ((λ i. number.0 i ∷ sym call.same_kind i ∷ call.same_words i) ∙ ap line_words same, subst (IsCallLine said.clients said.assets said.calls) same inside)
