-- The cause `form` is told by the shape of a line.
use Rattle.std.proofs.Common.{◌≡◌, ℕ, ◌*◌, ◌%◌, ◌<◌, zero, suc, List, [], ◌∷◌, length, Bool, true, false, ◌&&◌, ◌||◌, cond, nat_le, nat_lt, Result, Ok, Err, refl, ap, sym, ◌∙◌, arith}
use Rattle.std.specs.Prelude.{◌==◌, not, ⊤, nat_eq}
use lib.Chars.{codes}
use Rattle.std.specs.Str.{bytes_eq}
use Rattle.std.proofs.lemmas.Bool.Decides.{nat_tests}
use Rattle.qws_base.specs.Sides.{Sides}
use Rattle.qws_base.specs.declared.colours.Depth.TheVariants.{Full}
use Rattle.qws_base.specs.declared.points.Point.{Point}
use Rattle.qws_base.specs.declared.points.Rect.{Rect}
use Rattle.qws_base.specs.declared.inks.Ink.{Ink}
use Rattle.qws_base.specs.declared.inks.Ink.TheVariants.{Copy, Xor, And, Or, Blend}
use Rattle.glyph_masks.specs.Glyphs.{GlyphView, FontView, has_code}
use Rattle.gfx_fills.specs.Images.{ImageView}
use Rattle.script_grammar.specs.Judging.{◌>>=◌, ◌⊛◌, each_of, as_many, ◌or_else◌}
use Rattle.script_grammar.specs.Spelling.{number_read, colour_read, name_read}
use Rattle.script_grammar.specs.Words.{short_read, ranged, declared_read, window_read, text_word_read, bytes_read, cells_read, pixels_read, row_read, point_read, rect_read, placed_point_read, placed_rect_read, size_read, rects_read, points_read, in_count, coloured, blended, ink_then, and_no_more}
use Rattle.script_grammar.specs.Lines.{sixteen, depth_read, screen_read, clients_read, fewer, font_read, new_in, glyph_read, whole_image, image_read, asset_read, create_read, destroy_read, region_read, move_read, raise_read, lower_read, shape_read, cursor_read, show_read, join_read, leave_read, send_read, take_read, known_read, fill_read, tile_read, blit_read, stroke_read, polyline_read, polygon_read, all_in, written_read, text_read, CallForm, call_forms, call_by, with_room, line_read}
use Rattle.script_grammar.specs.Session.{Session, Asset, FontLine, ImageLine, fonts_of, images_of, font_at, latest, lines_by}
use Rattle.script_grammar.specs.declared.lines.Window.{Window}
use Rattle.script_grammar.specs.declared.lines.LineCall.{LineCall}
use Rattle.script_grammar.specs.declared.lines.LineCall.TheVariants.{Create, Destroy, Region, Move, Raise, Lower, Shape as ShapeCall, Cursor, Show, Join, Leave, Send, Known, Fill, Tile, Blit, Line, Polyline, Polygon, Text}
use Rattle.script_grammar.specs.declared.lines.CallLine.{CallLine}
use Rattle.script_grammar.specs.Limits.{has_all}
use Rattle.script_grammar.specs.Reading.{Before, Nothing, Deep, Sized, Within, Finished, sized, begun, and_asset, and_call, asset_in, call_in, end_in, line_in}
use Rattle.script_grammar.specs.Shapes.{so_many, between, in_groups, behind_one, behind_ink, is_shown, Shape, call_shapes, fits_one, fixed_and, is_rows, is_call, is_asset, fits_there}
use Rattle.script_grammar.specs.Laws.{ToldByShape}
use Rattle.script_grammar.proofs.Heads.{glyph_made, image_made}
use Rattle.script_grammar.specs.declared.lines.Cause.{Cause}
use Rattle.script_grammar.specs.declared.lines.Cause.TheVariants.{Form, Number, Range, Unknown, Repeated, Missing, Many, End}
use Rattle.script_grammar.proofs.NotForm.{is_form, or_none, made1_not, made2_not, made3_not, made4_not, made2_last, made3_last, made3_two, made4_two, bind_not, bind_form, cond_not, cond_form, number_not, ranged_not, short_not, declared_not, colour_not, name_not, text_word_not, window_not, bytes_not, cells_not, pixels_not, row_not, each_not, point_not, placed_point_not, rect_not, placed_rect_not, size_not}

-- ---- numbers of words

more_not : (n m : ℕ) → m < n → not (n == m) ≡ true
more_not n m h = grind (arith, nat_tests)

rects_form : (ws : List (List ℕ)) → is_form (rects_read ws) ≡ not (length ws % 4 == 0)
rects_form [] = refl
rects_form (a ∷ []) = refl
rects_form (a ∷ b ∷ []) = refl
rects_form (a ∷ b ∷ c ∷ []) = refl
rects_form (x ∷ y ∷ w ∷ h ∷ ws) =
    made2_last (λ (r : Rect) (rs : List Rect). r ∷ rs) (rect_read x y w h) (rects_read ws) (rect_not x y w h)
    ∙ rects_form ws ∙ ap (λ n. not (n == 0)) (let e : length ws % 4 ≡ suc (suc (suc (suc (length ws)))) % 4 = omega arith in e)

points_form : (ws : List (List ℕ)) → is_form (points_read ws) ≡ not (length ws % 2 == 0)
points_form [] = refl
points_form (a ∷ []) = refl
points_form (x ∷ y ∷ ws) =
    made2_last (λ (p : Point) (ps : List Point). p ∷ ps) (placed_point_read x y) (points_read ws) (placed_point_not x y)
    ∙ points_form ws ∙ ap (λ n. not (n == 0)) (let e : length ws % 2 ≡ suc (suc (length ws)) % 2 = omega arith in e)

not_and : (a b : Bool) → not a || not b ≡ not (a && b)
not_and true b = refl
not_and false b = refl

counted_form : {A : Type 0} (least most : ℕ) (ws : List (List ℕ)) (r : Result A Cause) → is_form (in_count least most ws r) ≡ not (between least most ws) || is_form r
counted_form least most ws r = cond_form (nat_le least (length ws) && nat_le (length ws) most) r

grouped_form : {A : Type 0} (group least most : ℕ) (ws : List (List ℕ)) (r : Result A Cause) → is_form r ≡ not (length ws % group == 0) → is_form (in_count least most ws r) ≡ not (in_groups group least most ws)
grouped_form group least most ws r h = counted_form least most ws r ∙ ap (λ b. not (between least most ws) || b) h ∙ not_and (between least most ws) (length ws % group == 0)

-- ---- inks

coloured_form : (make : ℕ → Ink) (words : List (List ℕ)) (tail : List (List ℕ) → Bool) (rest : List (List ℕ) → Bool) → ((ws : List (List ℕ)) → tail ws ≡ not (rest ws)) → (is_form (coloured make words).0 || tail (coloured make words).1) ≡ not (behind_one rest words)
coloured_form make [] tail rest h = refl
coloured_form make (c ∷ words) tail rest h = ap (λ b. b || tail words) (made1_not make (colour_read c) (colour_not c)) ∙ h words

blended_form : (words : List (List ℕ)) (tail : List (List ℕ) → Bool) (rest : List (List ℕ) → Bool) → ((ws : List (List ℕ)) → tail ws ≡ not (rest ws)) → (is_form (blended words).0 || tail (blended words).1) ≡ not (behind_one (behind_one rest) words)
blended_form [] tail rest h = refl
blended_form (a ∷ []) tail rest h = refl
blended_form (a ∷ c ∷ words) tail rest h =
    ap (λ b. b || tail words) (made2_not (λ (a c : ℕ). Blend c a) (ranged 0 255 a) (colour_read c) (ranged_not 0 255 a) (colour_not c)) ∙ h words

abbrev Judged : Type 0
Judged = Result Ink Cause × List (List ℕ)

ink_case : (copy xor and_ or_ blend : Bool) (a b c d e f : Judged) (plain mixed : Bool) (tail : List (List ℕ) → Bool) → (is_form a.0 || tail a.1) ≡ not plain → (is_form b.0 || tail b.1) ≡ not plain → (is_form c.0 || tail c.1) ≡ not plain → (is_form d.0 || tail d.1) ≡ not plain → (is_form e.0 || tail e.1) ≡ not mixed → is_form f.0 ≡ true →
    (let ink = cond copy a (cond xor b (cond and_ c (cond or_ d (cond blend e f)))) in (is_form ink.0 || tail ink.1)) ≡ not (cond (copy || (xor || (and_ || or_))) plain (blend && mixed))
ink_case true xor and_ or_ blend a b c d e f plain mixed tail p q r s t u = p
ink_case false true and_ or_ blend a b c d e f plain mixed tail p q r s t u = q
ink_case false false true or_ blend a b c d e f plain mixed tail p q r s t u = r
ink_case false false false true blend a b c d e f plain mixed tail p q r s t u = s
ink_case false false false false true a b c d e f plain mixed tail p q r s t u = t
ink_case false false false false false a b c d e f plain mixed tail p q r s t u = ap (λ x. x || tail f.1) u

ink_form : (words : List (List ℕ)) (tail : List (List ℕ) → Bool) (rest : List (List ℕ) → Bool) → ((ws : List (List ℕ)) → tail ws ≡ not (rest ws)) → (is_form (ink_then words).0 || tail (ink_then words).1) ≡ not (behind_ink rest words)
unfolding ink_then
ink_form [] tail rest h = refl
ink_form (kind ∷ words) tail rest h =
    ink_case (bytes_eq kind (codes "copy")) (bytes_eq kind (codes "xor")) (bytes_eq kind (codes "and")) (bytes_eq kind (codes "or")) (bytes_eq kind (codes "blend"))
    (coloured Copy words) (coloured Xor words) (coloured And words) (coloured Or words) (blended words) (Err Form, words) (behind_one rest words) (behind_one (behind_one rest) words) tail
    (coloured_form Copy words tail rest h) (coloured_form Xor words tail rest h) (coloured_form And words tail rest h) (coloured_form Or words tail rest h) (blended_form words tail rest h) refl

or_swap : (a b : Bool) → (a || b) ≡ (b || a)
or_swap true true = refl
or_swap true false = refl
or_swap false true = refl
or_swap false false = refl

no_more_form : (j : Judged) → is_form (and_no_more j) ≡ (is_form j.0 || not (so_many 0 j.1))
no_more_form j = cond_form (length j.1 == 0) j.0 ∙ or_swap (not (length j.1 == 0)) (is_form j.0)

-- ---- calls

create_form : (ws : List (List ℕ)) → is_form (create_read ws) ≡ not (so_many 2 ws)
unfolding create_read
create_form ([]) = refl
create_form (name ∷ []) = refl
create_form (name ∷ layer ∷ []) = made2_not (λ (n : List ℕ) (l : ℕ). Create n l) (name_read name) (short_read layer) (name_not name) (short_not layer)
create_form (name ∷ layer ∷ more ∷ ws) = sym (more_not (suc (suc (suc (length ws)))) 2 (omega arith))

destroy_form : (ws : List (List ℕ)) → is_form (destroy_read ws) ≡ not (so_many 1 ws)
unfolding destroy_read
destroy_form ([]) = refl
destroy_form (window ∷ []) = made1_not (λ (w : Window). Destroy w) (window_read window) (window_not window)
destroy_form (window ∷ more ∷ ws) = sym (more_not (suc (suc (length ws))) 1 (omega arith))

move_form : (ws : List (List ℕ)) → is_form (move_read ws) ≡ not (so_many 3 ws)
unfolding move_read
move_form ([]) = refl
move_form (window ∷ []) = refl
move_form (window ∷ x ∷ []) = refl
move_form (window ∷ x ∷ y ∷ []) = made2_not (λ (w : Window) (p : Point). Move w p) (window_read window) (point_read x y) (window_not window) (point_not x y)
move_form (window ∷ x ∷ y ∷ more ∷ ws) = sym (more_not (suc (suc (suc (suc (length ws))))) 3 (omega arith))

raise_form : (ws : List (List ℕ)) → is_form (raise_read ws) ≡ not (so_many 1 ws)
unfolding raise_read
raise_form ([]) = refl
raise_form (window ∷ []) = made1_not (λ (w : Window). Raise w) (window_read window) (window_not window)
raise_form (window ∷ more ∷ ws) = sym (more_not (suc (suc (length ws))) 1 (omega arith))

lower_form : (ws : List (List ℕ)) → is_form (lower_read ws) ≡ not (so_many 1 ws)
unfolding lower_read
lower_form ([]) = refl
lower_form (window ∷ []) = made1_not (λ (w : Window). Lower w) (window_read window) (window_not window)
lower_form (window ∷ more ∷ ws) = sym (more_not (suc (suc (length ws))) 1 (omega arith))

shape_form : (ws : List (List ℕ)) → is_form (shape_read ws) ≡ not (so_many 3 ws)
unfolding shape_read
shape_form ([]) = refl
shape_form (w ∷ []) = refl
shape_form (w ∷ h ∷ []) = refl
shape_form (w ∷ h ∷ cells ∷ []) = made3_not (λ (a b : ℕ) (c : List ℕ). ShapeCall a b c) (short_read w) (short_read h) (cells_read cells) (short_not w) (short_not h) (cells_not cells)
shape_form (w ∷ h ∷ cells ∷ more ∷ ws) = sym (more_not (suc (suc (suc (suc (length ws))))) 3 (omega arith))

cursor_form : (ws : List (List ℕ)) → is_form (cursor_read ws) ≡ not (so_many 2 ws)
unfolding cursor_read
cursor_form ([]) = refl
cursor_form (x ∷ []) = refl
cursor_form (x ∷ y ∷ []) = made1_not (λ (p : Point). Cursor p) (point_read x y) (point_not x y)
cursor_form (x ∷ y ∷ more ∷ ws) = sym (more_not (suc (suc (suc (length ws)))) 2 (omega arith))

join_form : (ws : List (List ℕ)) → is_form (join_read ws) ≡ not (so_many 1 ws)
unfolding join_read
join_form ([]) = refl
join_form (channel ∷ []) = made1_not (λ (c : List ℕ). Join c) (text_word_read channel) (text_word_not channel)
join_form (channel ∷ more ∷ ws) = sym (more_not (suc (suc (length ws))) 1 (omega arith))

leave_form : (ws : List (List ℕ)) → is_form (leave_read ws) ≡ not (so_many 1 ws)
unfolding leave_read
leave_form ([]) = refl
leave_form (channel ∷ []) = made1_not (λ (c : List ℕ). Leave c) (text_word_read channel) (text_word_not channel)
leave_form (channel ∷ more ∷ ws) = sym (more_not (suc (suc (length ws))) 1 (omega arith))

send_form : (ws : List (List ℕ)) → is_form (send_read ws) ≡ not (so_many 3 ws)
unfolding send_read
send_form ([]) = refl
send_form (channel ∷ []) = refl
send_form (channel ∷ message ∷ []) = refl
send_form (channel ∷ message ∷ payload ∷ []) = made3_not (λ (a b c : List ℕ). Send a b c) (text_word_read channel) (text_word_read message) (bytes_read payload) (text_word_not channel) (text_word_not message) (bytes_not payload)
send_form (channel ∷ message ∷ payload ∷ more ∷ ws) = sym (more_not (suc (suc (suc (suc (length ws))))) 3 (omega arith))

known_form : (ws : List (List ℕ)) → is_form (known_read ws) ≡ not (so_many 1 ws)
unfolding known_read
known_form ([]) = refl
known_form (channel ∷ []) = made1_not (λ (c : List ℕ). Known c) (text_word_read channel) (text_word_not channel)
known_form (channel ∷ more ∷ ws) = sym (more_not (suc (suc (length ws))) 1 (omega arith))

stroke_form : (ws : List (List ℕ)) → is_form (stroke_read ws) ≡ not (so_many 6 ws)
unfolding stroke_read
stroke_form ([]) = refl
stroke_form (window ∷ []) = refl
stroke_form (window ∷ x0 ∷ []) = refl
stroke_form (window ∷ x0 ∷ y0 ∷ []) = refl
stroke_form (window ∷ x0 ∷ y0 ∷ x1 ∷ []) = refl
stroke_form (window ∷ x0 ∷ y0 ∷ x1 ∷ y1 ∷ []) = refl
stroke_form (window ∷ x0 ∷ y0 ∷ x1 ∷ y1 ∷ c ∷ []) = made4_not (λ (w : Window) (p q : Point) (c : ℕ). Line w p q c) (window_read window) (placed_point_read x0 y0) (placed_point_read x1 y1) (colour_read c) (window_not window) (placed_point_not x0 y0) (placed_point_not x1 y1) (colour_not c)
stroke_form (window ∷ x0 ∷ y0 ∷ x1 ∷ y1 ∷ c ∷ more ∷ ws) = sym (more_not (suc (suc (suc (suc (suc (suc (suc (length ws)))))))) 6 (omega arith))

tile_form : (images : ℕ) (ws : List (List ℕ)) → is_form (tile_read images ws) ≡ not (so_many 6 ws)
unfolding tile_read
tile_form images ([]) = refl
tile_form images (window ∷ []) = refl
tile_form images (window ∷ x ∷ []) = refl
tile_form images (window ∷ x ∷ y ∷ []) = refl
tile_form images (window ∷ x ∷ y ∷ w ∷ []) = refl
tile_form images (window ∷ x ∷ y ∷ w ∷ h ∷ []) = refl
tile_form images (window ∷ x ∷ y ∷ w ∷ h ∷ image ∷ []) = made3_not (λ (w : Window) (r : Rect) (i : ℕ). Tile w r i) (window_read window) (placed_rect_read x y w h) (declared_read images image) (window_not window) (placed_rect_not x y w h) (declared_not images image)
tile_form images (window ∷ x ∷ y ∷ w ∷ h ∷ image ∷ more ∷ ws) = sym (more_not (suc (suc (suc (suc (suc (suc (suc (length ws)))))))) 6 (omega arith))

blit_form : (images : ℕ) (ws : List (List ℕ)) → is_form (blit_read images ws) ≡ not (so_many 5 ws)
unfolding blit_read
blit_form images ([]) = refl
blit_form images (window ∷ []) = refl
blit_form images (window ∷ x ∷ []) = refl
blit_form images (window ∷ x ∷ y ∷ []) = refl
blit_form images (window ∷ x ∷ y ∷ image ∷ []) = refl
blit_form images (window ∷ x ∷ y ∷ image ∷ alpha ∷ []) = made4_not (λ (w : Window) (p : Point) (i a : ℕ). Blit w p i a) (window_read window) (placed_point_read x y) (declared_read images image) (ranged 0 255 alpha) (window_not window) (placed_point_not x y) (declared_not images image) (ranged_not 0 255 alpha)
blit_form images (window ∷ x ∷ y ∷ image ∷ alpha ∷ more ∷ ws) = sym (more_not (suc (suc (suc (suc (suc (suc (length ws))))))) 5 (omega arith))

take_form : (ws : List (List ℕ)) → is_form (take_read ws) ≡ not (so_many 0 ws)
unfolding take_read
take_form [] = refl
take_form (w ∷ ws) = sym (more_not (suc (length ws)) 0 (omega arith))

show_case : (zero one : Bool) → is_form (cond zero (Ok (Show false)) (cond one (Ok (Show true)) (Err Form))) ≡ not ((zero || one) && true)
show_case true one = refl
show_case false true = refl
show_case false false = refl

no_and : (a b : Bool) → b ≡ false → not (a && b) ≡ true
no_and true b h = ap not h
no_and false b h = refl

show_form : (ws : List (List ℕ)) → is_form (show_read ws) ≡ not (is_shown ws)
unfolding show_read
show_form [] = refl
show_form (w ∷ []) = show_case (bytes_eq w (codes "0")) (bytes_eq w (codes "1"))
show_form (w ∷ more ∷ ws) = sym (no_and (bytes_eq w (codes "0") || bytes_eq w (codes "1")) (suc (length ws) == 0) (grind (arith, nat_tests)))

region_form : (ws : List (List ℕ)) → is_form (region_read ws) ≡ not (behind_one (behind_one (behind_one (in_groups 4 0 256))) ws)
unfolding region_read
region_form [] = refl
region_form (a ∷ []) = refl
region_form (a ∷ b ∷ []) = refl
region_form (window ∷ x ∷ y ∷ groups) =
    made3_last (λ (w : Window) (p : Point) (rs : List Rect). Region w p rs) (window_read window) (point_read x y) (in_count 0 256 groups (rects_read groups)) (window_not window) (point_not x y)
    ∙ grouped_form 4 0 256 groups (rects_read groups) (rects_form groups)

polyline_form : (ws : List (List ℕ)) → is_form (polyline_read ws) ≡ not (behind_one (behind_one (in_groups 2 4 128)) ws)
unfolding polyline_read
polyline_form [] = refl
polyline_form (a ∷ []) = refl
polyline_form (window ∷ c ∷ points) =
    made3_last (λ (w : Window) (c : ℕ) (ps : List Point). Polyline w c ps) (window_read window) (colour_read c) (in_count 4 128 points (points_read points)) (window_not window) (colour_not c)
    ∙ grouped_form 2 4 128 points (points_read points) (points_form points)

fill_form : (ws : List (List ℕ)) → is_form (fill_read ws) ≡ not (behind_one (behind_one (behind_one (behind_one (behind_one (behind_ink (so_many 0)))))) ws)
unfolding fill_read
fill_form [] = refl
fill_form (a ∷ []) = refl
fill_form (a ∷ b ∷ []) = refl
fill_form (a ∷ b ∷ c ∷ []) = refl
fill_form (a ∷ b ∷ c ∷ d ∷ []) = refl
fill_form (window ∷ x ∷ y ∷ w ∷ h ∷ ink) =
    made3_last (λ (w : Window) (r : Rect) (k : Ink). Fill w r k) (window_read window) (placed_rect_read x y w h) (and_no_more (ink_then ink)) (window_not window) (placed_rect_not x y w h)
    ∙ no_more_form (ink_then ink)
    ∙ ink_form ink (λ ws. not (so_many 0 ws)) (so_many 0) (λ ws. refl)

polygon_form : (ws : List (List ℕ)) → is_form (polygon_read ws) ≡ not (behind_one (behind_ink (in_groups 2 6 128)) ws)
unfolding polygon_read
polygon_form [] = refl
polygon_form (window ∷ words) =
    made3_two (λ (w : Window) (k : Ink) (ps : List Point). Polygon w k ps) (window_read window) (ink_then words).0 (in_count 6 128 (ink_then words).1 (points_read (ink_then words).1)) (window_not window)
    ∙ ink_form words (λ ws. is_form (in_count 6 128 ws (points_read ws))) (in_groups 2 6 128) (λ ws. grouped_form 2 6 128 ws (points_read ws) (points_form ws))

written_form : (fonts : List FontView) (font : List ℕ) (ws : List (List ℕ)) → is_form (written_read fonts font ws) ≡ not (between 1 256 ws)
unfolding written_read
written_form fonts font ws =
    bind_form (Ok (λ (f : ℕ) (w : List ℕ). (f, w)) ⊛ declared_read (length fonts) font ⊛ in_count 1 256 ws (each_of short_read ws)) (all_in fonts) (λ text. cond_not (has_all (font_at fonts text.0) text.1) _ _ refl refl)
    ∙ made2_last (λ (f : ℕ) (w : List ℕ). (f, w)) (declared_read (length fonts) font) (in_count 1 256 ws (each_of short_read ws)) (declared_not (length fonts) font)
    ∙ counted_form 1 256 ws (each_of short_read ws)
    ∙ ap (λ b. not (between 1 256 ws) || b) (each_not short_read short_not ws)
    ∙ or_none (not (between 1 256 ws))

text_form : (fonts : List FontView) (ws : List (List ℕ)) → is_form (text_read fonts ws) ≡ not (behind_one (behind_one (behind_one (behind_one (behind_ink (between 1 256))))) ws)
unfolding text_read
text_form fonts [] = refl
text_form fonts (a ∷ []) = refl
text_form fonts (a ∷ b ∷ []) = refl
text_form fonts (a ∷ b ∷ c ∷ []) = refl
text_form fonts (window ∷ font ∷ x ∷ y ∷ words) =
    made4_two (λ (w : Window) (p : Point) (k : Ink) (t : ℕ × List ℕ). Text w t.0 p k t.1) (window_read window) (placed_point_read x y) (ink_then words).0 (written_read fonts font (ink_then words).1) (window_not window) (placed_point_not x y)
    ∙ ink_form words (λ ws. is_form (written_read fonts font ws)) (between 1 256) (λ ws. written_form fonts font ws)

-- ---- all kinds

record SameForm (form : CallForm) (shape : Shape) : Type 0 where
  kinds : form.kind ≡ shape.kind
  forms : (ws : List (List ℕ)) → is_form (form.rest ws) ≡ not (shape.fits ws)

abbrev SameForms : List CallForm → List Shape → Type 0
SameForms [] [] = ⊤
SameForms [] (shape ∷ shapes) = ⊥
SameForms (form ∷ forms) [] = ⊥
SameForms (form ∷ forms) (shape ∷ shapes) = SameForm form shape × SameForms forms shapes

kind_case : (b : Bool) (r s : Result LineCall Cause) (p q : Bool) → is_form r ≡ not p → is_form s ≡ not q → is_form (cond b r s) ≡ not (cond b p q)
kind_case true r s p q h k = h
kind_case false r s p q h k = k

by_form : (forms : List CallForm) (shapes : List Shape) → SameForms forms shapes → (kind : List ℕ) (ws : List (List ℕ)) → is_form (call_by forms kind ws) ≡ not (fits_one shapes kind ws)
by_form [] [] h kind ws = refl
by_form [] (shape ∷ shapes) h kind ws = absurd h
by_form (form ∷ forms) [] h kind ws = absurd h
by_form (form ∷ forms) (shape ∷ shapes) h kind ws =
    kind_case (bytes_eq kind form.kind) (form.rest ws) (call_by forms kind ws) (shape.fits ws) (fits_one shapes kind ws) (h.0.forms ws) (by_form forms shapes h.1 kind ws)
    ∙ ap (λ name. not (cond (bytes_eq kind name) (shape.fits ws) (fits_one shapes kind ws))) h.0.kinds

same_forms : (fonts : List FontView) (images : ℕ) → SameForms (call_forms fonts images) call_shapes
same_forms fonts images = (
  record { kinds = refl; forms = create_form },
  (
    record { kinds = refl; forms = destroy_form },
    (
      record { kinds = refl; forms = region_form },
      (
        record { kinds = refl; forms = move_form },
        (
          record { kinds = refl; forms = raise_form },
          (
            record { kinds = refl; forms = lower_form },
            (
              record { kinds = refl; forms = shape_form },
              (
                record { kinds = refl; forms = cursor_form },
                (
                  record { kinds = refl; forms = show_form },
                  (
                    record { kinds = refl; forms = join_form },
                    (
                      record { kinds = refl; forms = leave_form },
                      (
                        record { kinds = refl; forms = send_form },
                        (
                          record { kinds = refl; forms = take_form },
                          (
                            record { kinds = refl; forms = known_form },
                            (
                              record { kinds = refl; forms = fill_form },
                              (
                                record { kinds = refl; forms = tile_form images },
                                (
                                  record { kinds = refl; forms = blit_form images },
                                  (
                                    record { kinds = refl; forms = stroke_form },
                                    (
                                      record { kinds = refl; forms = polyline_form },
                                      (
                                        record { kinds = refl; forms = polygon_form },
                                        (
                                          record { kinds = refl; forms = text_form fonts },
                                          tt,
                                        ),
                                      ),
                                    ),
                                  ),
                                ),
                              ),
                            ),
                          ),
                        ),
                      ),
                    ),
                  ),
                ),
              ),
            ),
          ),
        ),
      ),
    ),
  ),
)

call_form : (fonts : List FontView) (images : ℕ) (kind : List ℕ) (ws : List (List ℕ)) → is_form (call_by (call_forms fonts images) kind ws) ≡ not (fits_one call_shapes kind ws)
call_form fonts images kind ws = by_form (call_forms fonts images) call_shapes (same_forms fonts images) kind ws

line_form : (said : Session) (ws : List (List ℕ)) → is_form (line_read said ws) ≡ not (is_call ws)
unfolding line_read
line_form said [] = refl
line_form said (client ∷ []) = refl
line_form said (client ∷ kind ∷ words) =
    bind_form (Ok (λ (client : ℕ) (call : LineCall). let l : CallLine = record { client = client; call = call } in l) ⊛ declared_read said.clients client ⊛ call_by (call_forms (fonts_of said.assets) (length (images_of said.assets))) kind words) (with_room said.calls) (λ line. cond_not (nat_lt (length (lines_by line.client said.calls)) 65536) _ _ refl refl)
    ∙ made2_last (λ (client : ℕ) (call : LineCall). let l : CallLine = record { client = client; call = call } in l) (declared_read said.clients client) (call_by (call_forms (fonts_of said.assets) (length (images_of said.assets))) kind words) (declared_not said.clients client)
    ∙ call_form (fonts_of said.assets) (length (images_of said.assets)) kind words

-- ---- the other lines

fixed_form : {A : Type 0} (b : Bool) (r : Result A Cause) → is_form r ≡ false → is_form (cond b r (Err Form)) ≡ not (b && true)
fixed_form true r h = h
fixed_form false r h = refl

longer : (b : Bool) (n m : ℕ) → m < n → true ≡ not (b && n == m)
longer b n m h = sym (no_and b (n == m) (grind (arith, nat_tests)))

shorter : (b : Bool) → true ≡ not (b && false)
shorter true = refl
shorter false = refl

depth_form : (ws : List (List ℕ)) → is_form (depth_read ws) ≡ not (fixed_and (codes "depth") (so_many 1) ws)
unfolding depth_read
depth_form [] = refl
depth_form (a ∷ []) = shorter (bytes_eq a (codes "depth"))
depth_form (a ∷ n ∷ []) = fixed_form (bytes_eq a (codes "depth")) (number_read n >>= sixteen) (bind_not (number_read n) sixteen (number_not n) (λ v. cond_not (v == 16) _ _ refl refl))
depth_form (a ∷ n ∷ more ∷ ws) = longer (bytes_eq a (codes "depth")) (suc (suc (length ws))) 1 (omega arith)

screen_form : (ws : List (List ℕ)) → is_form (screen_read ws) ≡ not (fixed_and (codes "screen") (so_many 3) ws)
unfolding screen_read
screen_form [] = refl
screen_form (a ∷ []) = shorter (bytes_eq a (codes "screen"))
screen_form (a ∷ b ∷ []) = shorter (bytes_eq a (codes "screen"))
screen_form (a ∷ b ∷ c ∷ []) = shorter (bytes_eq a (codes "screen"))
screen_form (a ∷ w ∷ h ∷ c ∷ []) = fixed_form (bytes_eq a (codes "screen")) _ (made2_not (λ (s : Sides) (v : ℕ). (s, v)) (size_read w h) (colour_read c) (size_not w h) (colour_not c))
screen_form (a ∷ w ∷ h ∷ c ∷ more ∷ ws) = longer (bytes_eq a (codes "screen")) (suc (suc (suc (suc (length ws))))) 3 (omega arith)

clients_form : (ws : List (List ℕ)) → is_form (clients_read ws) ≡ not (fixed_and (codes "clients") (so_many 1) ws)
unfolding clients_read
clients_form [] = refl
clients_form (a ∷ []) = shorter (bytes_eq a (codes "clients"))
clients_form (a ∷ n ∷ []) = fixed_form (bytes_eq a (codes "clients")) (ranged 0 16 n) (ranged_not 0 16 n)
clients_form (a ∷ n ∷ more ∷ ws) = longer (bytes_eq a (codes "clients")) (suc (suc (length ws))) 1 (omega arith)

fewer_not : {A : Type 0} (count most : ℕ) (x : A) → is_form (fewer count most x) ≡ false
fewer_not count most x = cond_not (nat_lt count most) _ _ refl refl

font_form : (fonts : List FontView) (ws : List (List ℕ)) → is_form (font_read fonts ws) ≡ not (fixed_and (codes "font") (so_many 1) ws)
unfolding font_read
font_form fonts [] = refl
font_form fonts (a ∷ []) = shorter (bytes_eq a (codes "font"))
font_form fonts (a ∷ n ∷ []) = fixed_form (bytes_eq a (codes "font")) _ (bind_not (Ok FontLine ⊛ ranged 1 32 n) (fewer (length fonts) 8) (made1_not FontLine (ranged 1 32 n) (ranged_not 1 32 n)) (fewer_not (length fonts) 8))
font_form fonts (a ∷ n ∷ more ∷ ws) = longer (bytes_eq a (codes "font")) (suc (suc (length ws))) 1 (omega arith)

test_form : {A : Type 0} (b : Bool) (r : Result A Cause) → is_form r ≡ false → is_form (cond b r (Err Form)) ≡ not b
test_form true r h = h
test_form false r h = refl

glyph_form : (fonts : List FontView) (ws : List (List ℕ)) → is_form (glyph_read fonts ws) ≡ not (fixed_and (codes "glyph") (behind_one (behind_one (is_rows fonts))) ws)
unfolding glyph_read
glyph_form fonts [] = refl
glyph_form fonts (a ∷ []) = shorter (bytes_eq a (codes "glyph"))
glyph_form fonts (a ∷ b ∷ []) = shorter (bytes_eq a (codes "glyph"))
glyph_form fonts (a ∷ code ∷ width ∷ rows) =
    test_form (bytes_eq a (codes "glyph") && is_rows fonts rows) _
    (bind_not (glyph_made code width rows) (new_in (latest fonts))
    (made3_not (λ (a b : ℕ) (c : List ℕ). let g : GlyphView = record { code = a; width = b; rows = c } in g) (short_read code) (ranged 1 32 width) (number_read width >>= λ columns. each_of (row_read columns) rows) (short_not code) (ranged_not 1 32 width) (bind_not (number_read width) (λ columns. each_of (row_read columns) rows) (number_not width) (λ columns. each_not (row_read columns) (row_not columns) rows)))
    (λ glyph. cond_not (has_code (latest fonts) glyph.code) _ _ refl refl))

image_form : (images : List ImageView) (ws : List (List ℕ)) → is_form (image_read images ws) ≡ not (fixed_and (codes "image") (so_many 3) ws)
unfolding image_read
image_form images [] = refl
image_form images (a ∷ []) = shorter (bytes_eq a (codes "image"))
image_form images (a ∷ b ∷ []) = shorter (bytes_eq a (codes "image"))
image_form images (a ∷ b ∷ c ∷ []) = shorter (bytes_eq a (codes "image"))
image_form images (a ∷ w ∷ h ∷ pixels ∷ []) =
    fixed_form (bytes_eq a (codes "image")) _
    (bind_not ((image_made w h pixels >>= whole_image) >>= fewer (length images) 64) (λ image. Ok (ImageLine image))
    (bind_not (image_made w h pixels >>= whole_image) (fewer (length images) 64)
    (bind_not (image_made w h pixels) whole_image
    (made3_not (λ (a b : ℕ) (c : List ℕ). let g : ImageView = record { w = a; h = b; pixels = c } in g) (ranged 1 256 w) (ranged 1 256 h) (pixels_read pixels) (ranged_not 1 256 w) (ranged_not 1 256 h) (pixels_not pixels))
    (λ image. bind_not (as_many (image.w * image.h) image.pixels) (λ p. Ok image) (cond_not (nat_eq (length image.pixels) (image.w * image.h)) _ _ refl refl) (λ p. refl)))
    (fewer_not (length images) 64))
    (λ image. refl))
image_form images (a ∷ w ∷ h ∷ pixels ∷ more ∷ ws) = longer (bytes_eq a (codes "image")) (suc (suc (suc (suc (length ws))))) 3 (omega arith)

is_first : (p q : Bool) → false ≡ not p → false ≡ not (p || q)
is_first true q h = refl
is_first false q h = cc

is_second : (b p q : Bool) → true ≡ not p → b ≡ not q → b ≡ not (p || q)
is_second b true q h k = cc
is_second b false q h k = k

or_else_form : {A : Type 0} (a b : Result A Cause) (p q : Bool) → is_form a ≡ not p → is_form b ≡ not q → is_form (a or_else b) ≡ not (p || q)
or_else_form (Ok x) b p q h k = is_first p q h
or_else_form (Err Form) b p q h k = is_second (is_form b) p q h k
or_else_form (Err Number) b p q h k = is_first p q h
or_else_form (Err Range) b p q h k = is_first p q h
or_else_form (Err Unknown) b p q h k = is_first p q h
or_else_form (Err Repeated) b p q h k = is_first p q h
or_else_form (Err Missing) b p q h k = is_first p q h
or_else_form (Err Many) b p q h k = is_first p q h
or_else_form (Err End) b p q h k = is_first p q h

asset_form : (before : List Asset) (ws : List (List ℕ)) → is_form (asset_read before ws) ≡ not (fixed_and (codes "font") (so_many 1) ws || (fixed_and (codes "glyph") (behind_one (behind_one (is_rows (fonts_of before)))) ws || fixed_and (codes "image") (so_many 3) ws))
unfolding asset_read
asset_form before ws =
    or_else_form (font_read (fonts_of before) ws) (glyph_read (fonts_of before) ws or_else image_read (images_of before) ws) _ _ (font_form (fonts_of before) ws)
    (or_else_form (glyph_read (fonts_of before) ws) (image_read (images_of before) ws) _ _ (glyph_form (fonts_of before) ws) (image_form (images_of before) ws))

none_form : (none : Bool) (r : Result Before Cause) (p : Bool) → is_form r ≡ not p → is_form (cond none r (Err Form)) ≡ not (none && p)
none_form true r p h = h
none_form false r p h = refl

asset_in_form : (said : Session) (ws : List (List ℕ)) → is_form (asset_in said ws) ≡ not (is_asset said ws)
asset_in_form said ws = none_form (length said.calls == 0) _ _ (bind_form (asset_read said.assets ws) (λ asset. Ok (and_asset said asset)) (λ asset. refl) ∙ asset_form said.assets ws)

end_form : (said : Session) (ws : List (List ℕ)) → is_form (end_in said ws) ≡ not (fixed_and (codes "end") (so_many 0) ws)
end_form said [] = refl
end_form said (a ∷ []) = fixed_form (bytes_eq a (codes "end")) (Ok (Finished said)) refl
end_form said (a ∷ more ∷ ws) = longer (bytes_eq a (codes "end")) (suc (length ws)) 0 (omega arith)

there_form : (before : Before) (ws : List (List ℕ)) → is_form (line_in before ws) ≡ not (fits_there before ws)
unfolding line_in
there_form Nothing ws = or_else_form (depth_read ws >>= λ depth. Ok (Deep depth)) (screen_read ws >>= λ screen. Ok (sized Full screen)) _ _ (bind_form (depth_read ws) (λ depth. Ok (Deep depth)) (λ x. refl) ∙ depth_form ws) (bind_form (screen_read ws) (λ screen. Ok (sized Full screen)) (λ x. refl) ∙ screen_form ws)
there_form (Deep depth) ws = bind_form (screen_read ws) (λ screen. Ok (sized depth screen)) (λ x. refl) ∙ screen_form ws
there_form (Sized depth size c) ws = bind_form (clients_read ws) (λ clients. Ok (begun depth size c clients)) (λ x. refl) ∙ clients_form ws
there_form (Within said) ws =
    or_else_form (end_in said ws) (asset_in said ws or_else call_in said ws) _ _ (end_form said ws)
    (or_else_form (asset_in said ws) (call_in said ws) _ _ (asset_in_form said ws) (bind_form (line_read said ws) (λ line. Ok (and_call said line)) (λ x. refl) ∙ line_form said ws))
there_form (Finished said) ws = refl

form_told : {A : Type 0} (r : Result A Cause) (p : Bool) → is_form r ≡ not p → (r ≡ Err Form → p ≡ false) × (p ≡ false → r ≡ Err Form)
form_told {A} r p h = (λ e. is_not p (sym (ap (λ (o : Result A Cause). is_form o) e) ∙ h), λ e. is_err r (h ∙ ap not e))
  where
    is_not : (p : Bool) → true ≡ not p → p ≡ false
    is_not true h = cc
    is_not false h = refl

    is_err : (r : Result A Cause) → is_form r ≡ true → r ≡ Err Form
    is_err (Ok x) h = cc
    is_err (Err Form) h = refl
    is_err (Err Number) h = cc
    is_err (Err Range) h = cc
    is_err (Err Unknown) h = cc
    is_err (Err Repeated) h = cc
    is_err (Err Missing) h = cc
    is_err (Err Many) h = cc
    is_err (Err End) h = cc

pub told : ToldByShape
told before words = form_told (line_in before words) (fits_there before words) (there_form before words)
