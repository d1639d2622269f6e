-- The calls are read as printed, form by form.
use Rattle.std.proofs.Common.{◌≡◌, ℕ, ◌+◌, ◌*◌, ◌<◌, ◌≤◌, ◌^◌, zero, suc, ℤ, List, [], ◌∷◌, ◌++◌, length, map, Bool, true, false, ◌&&◌, cond, nat_le, nat_lt, Result, Ok, Err, refl, ap, sym, ◌∙◌, subst, arith, length-append, append-nil, append_assoc}
use Rattle.std.specs.Prelude.{◌==◌, All, ⊤}
use lib.Chars.{codes}
use Rattle.std.specs.List.{list_all, flat_map}
use Rattle.std.specs.Str.{bytes_eq}
use Rattle.std.specs.Fmt.{decimal, signed_decimal}
use Rattle.std.proofs.lemmas.Bool.Decides.{nat_tests}
use Rattle.std.proofs.lemmas.Slice.Eq.{bytes_eq-Decides}
use Rattle.std.proofs.lemmas.List.{length-map}
use Rattle.qws_base.specs.declared.points.Point.{Point}
use Rattle.qws_base.specs.declared.points.Rect.{Rect}
use Rattle.qws_base.specs.declared.inks.Ink.{Ink}
use Rattle.glyph_masks.specs.Glyphs.{FontView}
use Rattle.script_grammar.specs.Judging.{◌>>=◌, ◌⊛◌, each_of}
use Rattle.script_grammar.specs.Spelling.{name_read, colour_read}
use Rattle.script_grammar.specs.Limits.{IsCall, IsShort, IsWritten, has_all}
use Rattle.script_grammar.specs.Printing.{colour, ink_words, point_words, rect_words, window_word, kind_word, call_words, hex_groups}
use Rattle.script_grammar.specs.Words.{short_read, ranged, declared_read, window_read, text_word_read, bytes_read, cells_read, point_read, rect_read, placed_point_read, placed_rect_read, rects_read, points_read, in_count, ink_then, and_no_more}
use Rattle.script_grammar.specs.Lines.{create_read, destroy_read, region_read, move_read, raise_read, lower_read, shape_read, cursor_read, show_read, join_read, leave_read, send_read, take_read, known_read, fill_read, tile_read, blit_read, stroke_read, polyline_read, polygon_read, all_in, written_read, text_read, CallForm, call_forms, call_by}
use Rattle.script_grammar.specs.Session.{font_at}
use Rattle.script_grammar.specs.declared.lines.Window.{Window}
use Rattle.script_grammar.specs.declared.lines.LineCall.{LineCall}
use Rattle.script_grammar.specs.declared.lines.LineCall.TheVariants.{Create, Destroy, Region, Move, Raise, Lower, Shape, Cursor, Show, Join, Leave, Send, Take, Known, Fill, Tile, Blit, Line, Polyline, Polygon, Text}
use Rattle.script_grammar.specs.declared.lines.Cause.{Cause}
use Rattle.script_grammar.specs.declared.lines.Cause.TheVariants.{Form, Missing}
use Rattle.script_grammar.proofs.Binds.{err_is_no_ok, bind_ok, cond_ok}
use Rattle.script_grammar.proofs.Spelling.{IsSpelling, ok_same, both, and_true, cond_is, bind_is, ranged_spelling, short_spelling, declared_spelling}
use Rattle.script_grammar.proofs.Hex.{colour_spelling}
use Rattle.script_grammar.proofs.Made.{made1_is, made2_is, made3_is, made4_is, made1_ok, made2_ok, made3_ok, made4_ok}
use Rattle.script_grammar.proofs.WordForms.{name_spelling, text_word_spelling, window_spelling, bytes_spelling, cells_spelling, point_reads, point_printed, rect_reads, rect_printed, placed_point_reads, placed_point_printed, placed_rect_reads, placed_rect_printed}
use Rattle.script_grammar.proofs.WordLists.{ink_reads, ink_printed, no_more_reads, no_more_printed, each_spelling, rects_reads, rects_printed, points_reads, points_printed, length-rects, length-points, counted_is, counted_ok, cond_case}

alphas : IsSpelling (ranged 0 255) decimal (λ n. (0 ≤ n) × (n ≤ 255))
alphas = ranged_spelling 0 255 (omega arith)

codes_spelling : IsSpelling (each_of short_read) (map decimal) (All IsShort)
codes_spelling = each_spelling short_spelling

-- what a kind's words say is printed as them, and within the limits
pub record Said (fonts : List FontView) (images : ℕ) (kind : List ℕ) (words : List (List ℕ)) (call : LineCall) : Type 0 where
  pub same_kind : kind_word call ≡ kind
  pub same_words : words ≡ call_words call
  pub limits : IsCall fonts images call

-- `create`

create_reads : (fonts : List FontView) (images : ℕ) (name : List ℕ) (layer : ℕ) → IsCall fonts images (Create name layer) → create_read (call_words (Create name layer)) ≡ Ok (Create name layer)
unfolding create_read
create_reads fonts images name layer h = made2_is (λ name layer. Create name layer) _ _ name layer (name_spelling.reads name h.0) (short_spelling.reads layer h.1)

create_printed : (fonts : List FontView) (images : ℕ) (ws : List (List ℕ)) (call : LineCall) → create_read ws ≡ Ok call → Said fonts images (codes "create") ws call
unfolding create_read
create_printed fonts images ([]) call e = err_is_no_ok Form call e
create_printed fonts images (name ∷ []) call e = err_is_no_ok Form call e
create_printed fonts images (name ∷ layer ∷ more ∷ words) call e = err_is_no_ok Form call e
create_printed fonts images (name ∷ layer ∷ []) call e =
    let made = made2_ok (λ (name : List ℕ) (layer : ℕ). Create name layer) (name_read name) (short_read layer) call e in
    let p0 = name_spelling.printed name made.0 made.2 in
    let p1 = short_spelling.printed layer made.1 made.3 in
    subst (Said fonts images (codes "create") (name ∷ layer ∷ [])) made.4 (record { same_kind = refl; same_words = λ i. p0.0 i ∷ p1.0 i ∷ []; limits = (p0.1, p1.1) })

-- `destroy`

destroy_reads : (fonts : List FontView) (images : ℕ) (w : Window) → IsCall fonts images (Destroy w) → destroy_read (call_words (Destroy w)) ≡ Ok (Destroy w)
unfolding destroy_read
destroy_reads fonts images w h = made1_is (λ w. Destroy w) _ w (window_spelling.reads w h)

destroy_printed : (fonts : List FontView) (images : ℕ) (ws : List (List ℕ)) (call : LineCall) → destroy_read ws ≡ Ok call → Said fonts images (codes "destroy") ws call
unfolding destroy_read
destroy_printed fonts images ([]) call e = err_is_no_ok Form call e
destroy_printed fonts images (window ∷ more ∷ words) call e = err_is_no_ok Form call e
destroy_printed fonts images (window ∷ []) call e =
    let made = made1_ok (λ (w : Window). Destroy w) (window_read window) call e in
    let p0 = window_spelling.printed window made.0 made.1 in
    subst (Said fonts images (codes "destroy") (window ∷ [])) made.2 (record { same_kind = refl; same_words = λ i. p0.0 i ∷ []; limits = p0.1 })

-- `move`

move_reads : (fonts : List FontView) (images : ℕ) (w : Window) (origin : Point) → IsCall fonts images (Move w origin) → move_read (call_words (Move w origin)) ≡ Ok (Move w origin)
unfolding move_read
move_reads fonts images w origin h = made2_is (λ w origin. Move w origin) _ _ w origin (window_spelling.reads w h.0) (point_reads origin h.1)

move_printed : (fonts : List FontView) (images : ℕ) (ws : List (List ℕ)) (call : LineCall) → move_read ws ≡ Ok call → Said fonts images (codes "move") ws call
unfolding move_read
move_printed fonts images ([]) call e = err_is_no_ok Form call e
move_printed fonts images (window ∷ []) call e = err_is_no_ok Form call e
move_printed fonts images (window ∷ x ∷ []) call e = err_is_no_ok Form call e
move_printed fonts images (window ∷ x ∷ y ∷ more ∷ words) call e = err_is_no_ok Form call e
move_printed fonts images (window ∷ x ∷ y ∷ []) call e =
    let made = made2_ok (λ (w : Window) (origin : Point). Move w origin) (window_read window) (point_read x y) call e in
    let p0 = window_spelling.printed window made.0 made.2 in
    let p1 = point_printed x y made.1 made.3 in
    subst (Said fonts images (codes "move") (window ∷ x ∷ y ∷ [])) made.4 (record { same_kind = refl; same_words = λ i. p0.0 i ∷ p1.0 i ∷ p1.1 i ∷ []; limits = (p0.1, p1.2) })

-- `raise`

raise_reads : (fonts : List FontView) (images : ℕ) (w : Window) → IsCall fonts images (Raise w) → raise_read (call_words (Raise w)) ≡ Ok (Raise w)
unfolding raise_read
raise_reads fonts images w h = made1_is (λ w. Raise w) _ w (window_spelling.reads w h)

raise_printed : (fonts : List FontView) (images : ℕ) (ws : List (List ℕ)) (call : LineCall) → raise_read ws ≡ Ok call → Said fonts images (codes "raise") ws call
unfolding raise_read
raise_printed fonts images ([]) call e = err_is_no_ok Form call e
raise_printed fonts images (window ∷ more ∷ words) call e = err_is_no_ok Form call e
raise_printed fonts images (window ∷ []) call e =
    let made = made1_ok (λ (w : Window). Raise w) (window_read window) call e in
    let p0 = window_spelling.printed window made.0 made.1 in
    subst (Said fonts images (codes "raise") (window ∷ [])) made.2 (record { same_kind = refl; same_words = λ i. p0.0 i ∷ []; limits = p0.1 })

-- `lower`

lower_reads : (fonts : List FontView) (images : ℕ) (w : Window) → IsCall fonts images (Lower w) → lower_read (call_words (Lower w)) ≡ Ok (Lower w)
unfolding lower_read
lower_reads fonts images w h = made1_is (λ w. Lower w) _ w (window_spelling.reads w h)

lower_printed : (fonts : List FontView) (images : ℕ) (ws : List (List ℕ)) (call : LineCall) → lower_read ws ≡ Ok call → Said fonts images (codes "lower") ws call
unfolding lower_read
lower_printed fonts images ([]) call e = err_is_no_ok Form call e
lower_printed fonts images (window ∷ more ∷ words) call e = err_is_no_ok Form call e
lower_printed fonts images (window ∷ []) call e =
    let made = made1_ok (λ (w : Window). Lower w) (window_read window) call e in
    let p0 = window_spelling.printed window made.0 made.1 in
    subst (Said fonts images (codes "lower") (window ∷ [])) made.2 (record { same_kind = refl; same_words = λ i. p0.0 i ∷ []; limits = p0.1 })

-- `shape`

shape_reads : (fonts : List FontView) (images : ℕ) (a : ℕ) (b : ℕ) (c : List ℕ) → IsCall fonts images (Shape a b c) → shape_read (call_words (Shape a b c)) ≡ Ok (Shape a b c)
unfolding shape_read
shape_reads fonts images a b c h = made3_is (λ a b c. Shape a b c) _ _ _ a b c (short_spelling.reads a h.0) (short_spelling.reads b h.1) (cells_spelling.reads c (h.2, h.3))

shape_printed : (fonts : List FontView) (images : ℕ) (ws : List (List ℕ)) (call : LineCall) → shape_read ws ≡ Ok call → Said fonts images (codes "shape") ws call
unfolding shape_read
shape_printed fonts images ([]) call e = err_is_no_ok Form call e
shape_printed fonts images (w ∷ []) call e = err_is_no_ok Form call e
shape_printed fonts images (w ∷ h ∷ []) call e = err_is_no_ok Form call e
shape_printed fonts images (w ∷ h ∷ cells ∷ more ∷ words) call e = err_is_no_ok Form call e
shape_printed fonts images (w ∷ h ∷ cells ∷ []) call e =
    let made = made3_ok (λ (a : ℕ) (b : ℕ) (c : List ℕ). Shape a b c) (short_read w) (short_read h) (cells_read cells) call e in
    let p0 = short_spelling.printed w made.0 made.3 in
    let p1 = short_spelling.printed h made.1 made.4 in
    let p2 = cells_spelling.printed cells made.2 made.5 in
    subst (Said fonts images (codes "shape") (w ∷ h ∷ cells ∷ [])) made.6 (record { same_kind = refl; same_words = λ i. p0.0 i ∷ p1.0 i ∷ p2.0 i ∷ []; limits = (p0.1, p1.1, p2.1.0, p2.1.1) })

-- `cursor`

cursor_reads : (fonts : List FontView) (images : ℕ) (at : Point) → IsCall fonts images (Cursor at) → cursor_read (call_words (Cursor at)) ≡ Ok (Cursor at)
unfolding cursor_read
cursor_reads fonts images at h = made1_is (λ at. Cursor at) _ at (point_reads at h)

cursor_printed : (fonts : List FontView) (images : ℕ) (ws : List (List ℕ)) (call : LineCall) → cursor_read ws ≡ Ok call → Said fonts images (codes "cursor") ws call
unfolding cursor_read
cursor_printed fonts images ([]) call e = err_is_no_ok Form call e
cursor_printed fonts images (x ∷ []) call e = err_is_no_ok Form call e
cursor_printed fonts images (x ∷ y ∷ more ∷ words) call e = err_is_no_ok Form call e
cursor_printed fonts images (x ∷ y ∷ []) call e =
    let made = made1_ok (λ (at : Point). Cursor at) (point_read x y) call e in
    let p0 = point_printed x y made.0 made.1 in
    subst (Said fonts images (codes "cursor") (x ∷ y ∷ [])) made.2 (record { same_kind = refl; same_words = λ i. p0.0 i ∷ p0.1 i ∷ []; limits = p0.2 })

-- `join`

join_reads : (fonts : List FontView) (images : ℕ) (c : List ℕ) → IsCall fonts images (Join c) → join_read (call_words (Join c)) ≡ Ok (Join c)
unfolding join_read
join_reads fonts images c h = made1_is (λ c. Join c) _ c (text_word_spelling.reads c h)

join_printed : (fonts : List FontView) (images : ℕ) (ws : List (List ℕ)) (call : LineCall) → join_read ws ≡ Ok call → Said fonts images (codes "join") ws call
unfolding join_read
join_printed fonts images ([]) call e = err_is_no_ok Form call e
join_printed fonts images (channel ∷ more ∷ words) call e = err_is_no_ok Form call e
join_printed fonts images (channel ∷ []) call e =
    let made = made1_ok (λ (c : List ℕ). Join c) (text_word_read channel) call e in
    let p0 = text_word_spelling.printed channel made.0 made.1 in
    subst (Said fonts images (codes "join") (channel ∷ [])) made.2 (record { same_kind = refl; same_words = λ i. p0.0 i ∷ []; limits = p0.1 })

-- `leave`

leave_reads : (fonts : List FontView) (images : ℕ) (c : List ℕ) → IsCall fonts images (Leave c) → leave_read (call_words (Leave c)) ≡ Ok (Leave c)
unfolding leave_read
leave_reads fonts images c h = made1_is (λ c. Leave c) _ c (text_word_spelling.reads c h)

leave_printed : (fonts : List FontView) (images : ℕ) (ws : List (List ℕ)) (call : LineCall) → leave_read ws ≡ Ok call → Said fonts images (codes "leave") ws call
unfolding leave_read
leave_printed fonts images ([]) call e = err_is_no_ok Form call e
leave_printed fonts images (channel ∷ more ∷ words) call e = err_is_no_ok Form call e
leave_printed fonts images (channel ∷ []) call e =
    let made = made1_ok (λ (c : List ℕ). Leave c) (text_word_read channel) call e in
    let p0 = text_word_spelling.printed channel made.0 made.1 in
    subst (Said fonts images (codes "leave") (channel ∷ [])) made.2 (record { same_kind = refl; same_words = λ i. p0.0 i ∷ []; limits = p0.1 })

-- `send`

send_reads : (fonts : List FontView) (images : ℕ) (c : List ℕ) (m : List ℕ) (p : List ℕ) → IsCall fonts images (Send c m p) → send_read (call_words (Send c m p)) ≡ Ok (Send c m p)
unfolding send_read
send_reads fonts images c m p h = made3_is (λ c m p. Send c m p) _ _ _ c m p (text_word_spelling.reads c h.0) (text_word_spelling.reads m h.1) (bytes_spelling.reads p (h.2, h.3))

send_printed : (fonts : List FontView) (images : ℕ) (ws : List (List ℕ)) (call : LineCall) → send_read ws ≡ Ok call → Said fonts images (codes "send") ws call
unfolding send_read
send_printed fonts images ([]) call e = err_is_no_ok Form call e
send_printed fonts images (channel ∷ []) call e = err_is_no_ok Form call e
send_printed fonts images (channel ∷ message ∷ []) call e = err_is_no_ok Form call e
send_printed fonts images (channel ∷ message ∷ payload ∷ more ∷ words) call e = err_is_no_ok Form call e
send_printed fonts images (channel ∷ message ∷ payload ∷ []) call e =
    let made = made3_ok (λ (c : List ℕ) (m : List ℕ) (p : List ℕ). Send c m p) (text_word_read channel) (text_word_read message) (bytes_read payload) call e in
    let p0 = text_word_spelling.printed channel made.0 made.3 in
    let p1 = text_word_spelling.printed message made.1 made.4 in
    let p2 = bytes_spelling.printed payload made.2 made.5 in
    subst (Said fonts images (codes "send") (channel ∷ message ∷ payload ∷ [])) made.6 (record { same_kind = refl; same_words = λ i. p0.0 i ∷ p1.0 i ∷ p2.0 i ∷ []; limits = (p0.1, p1.1, p2.1.0, p2.1.1) })

-- `known`

known_reads : (fonts : List FontView) (images : ℕ) (c : List ℕ) → IsCall fonts images (Known c) → known_read (call_words (Known c)) ≡ Ok (Known c)
unfolding known_read
known_reads fonts images c h = made1_is (λ c. Known c) _ c (text_word_spelling.reads c h)

known_printed : (fonts : List FontView) (images : ℕ) (ws : List (List ℕ)) (call : LineCall) → known_read ws ≡ Ok call → Said fonts images (codes "known") ws call
unfolding known_read
known_printed fonts images ([]) call e = err_is_no_ok Form call e
known_printed fonts images (channel ∷ more ∷ words) call e = err_is_no_ok Form call e
known_printed fonts images (channel ∷ []) call e =
    let made = made1_ok (λ (c : List ℕ). Known c) (text_word_read channel) call e in
    let p0 = text_word_spelling.printed channel made.0 made.1 in
    subst (Said fonts images (codes "known") (channel ∷ [])) made.2 (record { same_kind = refl; same_words = λ i. p0.0 i ∷ []; limits = p0.1 })

-- `tile`

tile_reads : (fonts : List FontView) (images : ℕ) (v : Window) (r : Rect) (i : ℕ) → IsCall fonts images (Tile v r i) → tile_read images (call_words (Tile v r i)) ≡ Ok (Tile v r i)
unfolding tile_read
tile_reads fonts images v r i h = made3_is (λ v r i. Tile v r i) _ _ _ v r i (window_spelling.reads v h.0) (placed_rect_reads r h.1) ((declared_spelling images).reads i (h.2, h.3))

tile_printed : (fonts : List FontView) (images : ℕ) (ws : List (List ℕ)) (call : LineCall) → tile_read images ws ≡ Ok call → Said fonts images (codes "tile") ws call
unfolding tile_read
tile_printed fonts images ([]) call e = err_is_no_ok Form call e
tile_printed fonts images (window ∷ []) call e = err_is_no_ok Form call e
tile_printed fonts images (window ∷ x ∷ []) call e = err_is_no_ok Form call e
tile_printed fonts images (window ∷ x ∷ y ∷ []) call e = err_is_no_ok Form call e
tile_printed fonts images (window ∷ x ∷ y ∷ w ∷ []) call e = err_is_no_ok Form call e
tile_printed fonts images (window ∷ x ∷ y ∷ w ∷ h ∷ []) call e = err_is_no_ok Form call e
tile_printed fonts images (window ∷ x ∷ y ∷ w ∷ h ∷ image ∷ more ∷ words) call e = err_is_no_ok Form call e
tile_printed fonts images (window ∷ x ∷ y ∷ w ∷ h ∷ image ∷ []) call e =
    let made = made3_ok (λ (v : Window) (r : Rect) (i : ℕ). Tile v r i) (window_read window) (placed_rect_read x y w h) (declared_read images image) call e in
    let p0 = window_spelling.printed window made.0 made.3 in
    let p1 = placed_rect_printed x y w h made.1 made.4 in
    let p2 = (declared_spelling images).printed image made.2 made.5 in
    subst (Said fonts images (codes "tile") (window ∷ x ∷ y ∷ w ∷ h ∷ image ∷ [])) made.6 (record { same_kind = refl; same_words = λ i. p0.0 i ∷ p1.0 i ∷ p1.1 i ∷ p1.2 i ∷ p1.3 i ∷ p2.0 i ∷ []; limits = (p0.1, p1.4, p2.1.0, p2.1.1) })

-- `blit`

blit_reads : (fonts : List FontView) (images : ℕ) (v : Window) (at : Point) (n : ℕ) (a : ℕ) → IsCall fonts images (Blit v at n a) → blit_read images (call_words (Blit v at n a)) ≡ Ok (Blit v at n a)
unfolding blit_read
blit_reads fonts images v at n a h = made4_is (λ v at n a. Blit v at n a) _ _ _ _ v at n a (window_spelling.reads v h.0) (placed_point_reads at h.1) ((declared_spelling images).reads n (h.2, h.3)) (alphas.reads a (omega arith, let byte = h.4 in omega arith))

blit_printed : (fonts : List FontView) (images : ℕ) (ws : List (List ℕ)) (call : LineCall) → blit_read images ws ≡ Ok call → Said fonts images (codes "blit") ws call
unfolding blit_read
blit_printed fonts images ([]) call e = err_is_no_ok Form call e
blit_printed fonts images (window ∷ []) call e = err_is_no_ok Form call e
blit_printed fonts images (window ∷ x ∷ []) call e = err_is_no_ok Form call e
blit_printed fonts images (window ∷ x ∷ y ∷ []) call e = err_is_no_ok Form call e
blit_printed fonts images (window ∷ x ∷ y ∷ image ∷ []) call e = err_is_no_ok Form call e
blit_printed fonts images (window ∷ x ∷ y ∷ image ∷ alpha ∷ more ∷ words) call e = err_is_no_ok Form call e
blit_printed fonts images (window ∷ x ∷ y ∷ image ∷ alpha ∷ []) call e =
    let made = made4_ok (λ (v : Window) (at : Point) (n : ℕ) (a : ℕ). Blit v at n a) (window_read window) (placed_point_read x y) (declared_read images image) (ranged 0 255 alpha) call e in
    let p0 = window_spelling.printed window made.0 made.4 in
    let p1 = placed_point_printed x y made.1 made.5 in
    let p2 = (declared_spelling images).printed image made.2 made.6 in
    let p3 = alphas.printed alpha made.3 made.7 in
    subst (Said fonts images (codes "blit") (window ∷ x ∷ y ∷ image ∷ alpha ∷ [])) made.8 (record { same_kind = refl; same_words = λ i. p0.0 i ∷ p1.0 i ∷ p1.1 i ∷ p2.0 i ∷ p3.0 i ∷ []; limits = (p0.1, p1.2, p2.1.0, p2.1.1, (let most = p3.1.1 in omega arith)) })

-- `line`

stroke_reads : (fonts : List FontView) (images : ℕ) (v : Window) (from : Point) (to : Point) (shade : ℕ) → IsCall fonts images (Line v from to shade) → stroke_read (call_words (Line v from to shade)) ≡ Ok (Line v from to shade)
unfolding stroke_read
stroke_reads fonts images v from to shade h = made4_is (λ v from to shade. Line v from to shade) _ _ _ _ v from to shade (window_spelling.reads v h.0) (placed_point_reads from h.1) (placed_point_reads to h.2) (colour_spelling.reads shade h.3)

stroke_printed : (fonts : List FontView) (images : ℕ) (ws : List (List ℕ)) (call : LineCall) → stroke_read ws ≡ Ok call → Said fonts images (codes "line") ws call
unfolding stroke_read
stroke_printed fonts images ([]) call e = err_is_no_ok Form call e
stroke_printed fonts images (window ∷ []) call e = err_is_no_ok Form call e
stroke_printed fonts images (window ∷ x0 ∷ []) call e = err_is_no_ok Form call e
stroke_printed fonts images (window ∷ x0 ∷ y0 ∷ []) call e = err_is_no_ok Form call e
stroke_printed fonts images (window ∷ x0 ∷ y0 ∷ x1 ∷ []) call e = err_is_no_ok Form call e
stroke_printed fonts images (window ∷ x0 ∷ y0 ∷ x1 ∷ y1 ∷ []) call e = err_is_no_ok Form call e
stroke_printed fonts images (window ∷ x0 ∷ y0 ∷ x1 ∷ y1 ∷ c ∷ more ∷ words) call e = err_is_no_ok Form call e
stroke_printed fonts images (window ∷ x0 ∷ y0 ∷ x1 ∷ y1 ∷ c ∷ []) call e =
    let made = made4_ok (λ (v : Window) (from : Point) (to : Point) (shade : ℕ). Line v from to shade) (window_read window) (placed_point_read x0 y0) (placed_point_read x1 y1) (colour_read c) call e in
    let p0 = window_spelling.printed window made.0 made.4 in
    let p1 = placed_point_printed x0 y0 made.1 made.5 in
    let p2 = placed_point_printed x1 y1 made.2 made.6 in
    let p3 = colour_spelling.printed c made.3 made.7 in
    subst (Said fonts images (codes "line") (window ∷ x0 ∷ y0 ∷ x1 ∷ y1 ∷ c ∷ [])) made.8 (record { same_kind = refl; same_words = λ i. p0.0 i ∷ p1.0 i ∷ p1.1 i ∷ p2.0 i ∷ p2.1 i ∷ p3.0 i ∷ []; limits = (p0.1, p1.2, p2.2, p3.1) })

-- `region`

region_reads : (fonts : List FontView) (images : ℕ) (window : Window) (origin : Point) (rects : List Rect) → IsCall fonts images (Region window origin rects) → region_read (call_words (Region window origin rects)) ≡ Ok (Region window origin rects)
unfolding region_read
region_reads fonts images window origin rects h =
    let count = length-rects rects in
    let few = h.3 in
    let groups : in_count 0 256 (flat_map rect_words rects) (rects_read (flat_map rect_words rects)) ≡ Ok rects =
    counted_is 0 256 (flat_map rect_words rects) (rects_read (flat_map rect_words rects)) (omega arith) (omega arith) ∙ rects_reads rects h.2 in
    made3_is (λ window origin rects. Region window origin rects) (window_read (window_word window)) (point_read (signed_decimal origin.x) (signed_decimal origin.y)) (in_count 0 256 (flat_map rect_words rects) (rects_read (flat_map rect_words rects))) window origin rects (window_spelling.reads window h.0) (point_reads origin h.1) groups

region_printed : (fonts : List FontView) (images : ℕ) (ws : List (List ℕ)) (call : LineCall) → region_read ws ≡ Ok call → Said fonts images (codes "region") ws call
unfolding region_read
region_printed fonts images [] call e = err_is_no_ok Form call e
region_printed fonts images (window ∷ []) call e = err_is_no_ok Form call e
region_printed fonts images (window ∷ x ∷ []) call e = err_is_no_ok Form call e
region_printed fonts images (window ∷ x ∷ y ∷ groups) call e =
    let made = made3_ok (λ (w : Window) (origin : Point) (rects : List Rect). Region w origin rects) (window_read window) (point_read x y) (in_count 0 256 groups (rects_read groups)) call e in
    let p = window_spelling.printed window made.0 made.3 in
    let q = point_printed x y made.1 made.4 in
    let few = counted_ok 0 256 groups (rects_read groups) made.2 made.5 in
    let r = rects_printed groups made.2 few.0 in
    let count : length groups ≡ 4 * length made.2 = ap length r.0 ∙ length-rects made.2 in
    let most = few.2 in
    let within : length made.2 ≤ 64 = omega arith in
    subst (Said fonts images (codes "region") (window ∷ x ∷ y ∷ groups)) made.6 (record { same_kind = refl; same_words = λ i. p.0 i ∷ q.0 i ∷ q.1 i ∷ r.0 i; limits = (p.1, q.2, r.1, within) })

-- `show`

show_reads : (fonts : List FontView) (images : ℕ) (shown : Bool) → show_read (call_words (Show shown)) ≡ Ok (Show shown)
unfolding show_read
show_reads fonts images true = refl
show_reads fonts images false = refl

show_printed : (fonts : List FontView) (images : ℕ) (ws : List (List ℕ)) (call : LineCall) → show_read ws ≡ Ok call → Said fonts images (codes "show") ws call
unfolding show_read
show_printed fonts images [] call e = err_is_no_ok Form call e
show_printed fonts images (shown ∷ more ∷ words) call e = err_is_no_ok Form call e
show_printed fonts images (shown ∷ []) call e =
    let P = λ (r : Result LineCall Cause). r ≡ Ok call → Said fonts images (codes "show") (shown ∷ []) call in
    cond_case P (bytes_eq shown (codes "0")) _ _
    (λ h is. let word : shown ≡ codes "0" = (bytes_eq-Decides shown (codes "0")).0 h in
    subst (Said fonts images (codes "show") (shown ∷ [])) (ok_same (Show false) call is) (record { same_kind = refl; same_words = λ i. word i ∷ []; limits = tt }))
    (λ h. cond_case P (bytes_eq shown (codes "1")) _ _
    (λ k is. let word : shown ≡ codes "1" = (bytes_eq-Decides shown (codes "1")).0 k in
    subst (Said fonts images (codes "show") (shown ∷ [])) (ok_same (Show true) call is) (record { same_kind = refl; same_words = λ i. word i ∷ []; limits = tt }))
    (λ k is. err_is_no_ok Form call is))
    e

-- `take`

take_reads : (fonts : List FontView) (images : ℕ) → take_read (call_words Take) ≡ Ok Take
unfolding take_read
take_reads fonts images = refl

take_printed : (fonts : List FontView) (images : ℕ) (ws : List (List ℕ)) (call : LineCall) → take_read ws ≡ Ok call → Said fonts images (codes "take") ws call
unfolding take_read
take_printed fonts images [] call e = subst (Said fonts images (codes "take") []) (ok_same Take call e) (record { same_kind = refl; same_words = refl; limits = tt })
take_printed fonts images (more ∷ words) call e = err_is_no_ok Form call e

-- `fill`

fill_reads : (fonts : List FontView) (images : ℕ) (window : Window) (rect : Rect) (ink : Ink) → IsCall fonts images (Fill window rect ink) → fill_read (call_words (Fill window rect ink)) ≡ Ok (Fill window rect ink)
unfolding fill_read
fill_reads fonts images window rect ink h =
    made3_is (λ window rect ink. Fill window rect ink) (window_read (window_word window)) (placed_rect_read (signed_decimal rect.x) (signed_decimal rect.y) (decimal rect.w) (decimal rect.h)) (and_no_more (ink_then (ink_words ink))) window rect ink (window_spelling.reads window h.0) (placed_rect_reads rect h.1) (no_more_reads ink h.2)

fill_printed : (fonts : List FontView) (images : ℕ) (ws : List (List ℕ)) (call : LineCall) → fill_read ws ≡ Ok call → Said fonts images (codes "fill") ws call
unfolding fill_read
fill_printed fonts images [] call e = err_is_no_ok Form call e
fill_printed fonts images (window ∷ []) call e = err_is_no_ok Form call e
fill_printed fonts images (window ∷ x ∷ []) call e = err_is_no_ok Form call e
fill_printed fonts images (window ∷ x ∷ y ∷ []) call e = err_is_no_ok Form call e
fill_printed fonts images (window ∷ x ∷ y ∷ w ∷ []) call e = err_is_no_ok Form call e
fill_printed fonts images (window ∷ x ∷ y ∷ w ∷ h ∷ ink) call e =
    let made = made3_ok (λ (w : Window) (r : Rect) (k : Ink). Fill w r k) (window_read window) (placed_rect_read x y w h) (and_no_more (ink_then ink)) call e in
    let p = window_spelling.printed window made.0 made.3 in
    let q = placed_rect_printed x y w h made.1 made.4 in
    let r = no_more_printed ink made.2 made.5 in
    subst (Said fonts images (codes "fill") (window ∷ x ∷ y ∷ w ∷ h ∷ ink)) made.6 (record { same_kind = refl; same_words = λ i. p.0 i ∷ q.0 i ∷ q.1 i ∷ q.2 i ∷ q.3 i ∷ r.0 i; limits = (p.1, q.4, r.1) })

-- `polyline`

polyline_reads : (fonts : List FontView) (images : ℕ) (window : Window) (c : ℕ) (points : List Point) → IsCall fonts images (Polyline window c points) → polyline_read (call_words (Polyline window c points)) ≡ Ok (Polyline window c points)
unfolding polyline_read
polyline_reads fonts images window c points h =
    let count = length-points points in
    let least = h.2.count.least in
    let most = h.2.count.most in
    let listed : in_count 4 128 (flat_map point_words points) (points_read (flat_map point_words points)) ≡ Ok points =
    counted_is 4 128 (flat_map point_words points) (points_read (flat_map point_words points)) (omega arith) (omega arith) ∙ points_reads points h.2.placed in
    made3_is (λ window c points. Polyline window c points) (window_read (window_word window)) (colour_read (colour c)) (in_count 4 128 (flat_map point_words points) (points_read (flat_map point_words points))) window c points (window_spelling.reads window h.0) (colour_spelling.reads c h.1) listed

polyline_printed : (fonts : List FontView) (images : ℕ) (ws : List (List ℕ)) (call : LineCall) → polyline_read ws ≡ Ok call → Said fonts images (codes "polyline") ws call
unfolding polyline_read
polyline_printed fonts images [] call e = err_is_no_ok Form call e
polyline_printed fonts images (window ∷ []) call e = err_is_no_ok Form call e
polyline_printed fonts images (window ∷ c ∷ points) call e =
    let made = made3_ok (λ (w : Window) (c : ℕ) (ps : List Point). Polyline w c ps) (window_read window) (colour_read c) (in_count 4 128 points (points_read points)) call e in
    let p = window_spelling.printed window made.0 made.3 in
    let q = colour_spelling.printed c made.1 made.4 in
    let few = counted_ok 4 128 points (points_read points) made.2 made.5 in
    let r = points_printed points made.2 few.0 in
    let count : length points ≡ 2 * length made.2 = ap length r.0 ∙ length-points made.2 in
    let least = few.1 in
    let most = few.2 in
    subst (Said fonts images (codes "polyline") (window ∷ c ∷ points)) made.6 (record { same_kind = refl; same_words = λ i. p.0 i ∷ q.0 i ∷ r.0 i; limits = (p.1, q.1, record { count = record { least = omega arith; most = omega arith }; placed = r.1 }) })

-- `polygon`

polygon_reads : (fonts : List FontView) (images : ℕ) (window : Window) (ink : Ink) (points : List Point) → IsCall fonts images (Polygon window ink points) → polygon_read (call_words (Polygon window ink points)) ≡ Ok (Polygon window ink points)
unfolding polygon_read
polygon_reads fonts images window ink points h =
    let count = length-points points in
    let least = h.2.count.least in
    let most = h.2.count.most in
    let ws : List (List ℕ) = ink_words ink ++ flat_map point_words points in
    let cut = ink_reads ink (flat_map point_words points) h.1 in
    let listed : in_count 6 128 (flat_map point_words points) (points_read (flat_map point_words points)) ≡ Ok points =
    counted_is 6 128 (flat_map point_words points) (points_read (flat_map point_words points)) (omega arith) (omega arith) ∙ points_reads points h.2.placed in
    made3_is (λ window ink points. Polygon window ink points) (window_read (window_word window)) (ink_then ws).0 (in_count 6 128 (ink_then ws).1 (points_read (ink_then ws).1)) window ink points (window_spelling.reads window h.0) (λ i. (cut i).0) ((λ i. in_count 6 128 (cut i).1 (points_read (cut i).1)) ∙ listed)

polygon_printed : (fonts : List FontView) (images : ℕ) (ws : List (List ℕ)) (call : LineCall) → polygon_read ws ≡ Ok call → Said fonts images (codes "polygon") ws call
unfolding polygon_read
polygon_printed fonts images [] call e = err_is_no_ok Form call e
polygon_printed fonts images (window ∷ words) call e =
    let points = (ink_then words).1 in
    let made = made3_ok (λ (w : Window) (k : Ink) (ps : List Point). Polygon w k ps) (window_read window) (ink_then words).0 (in_count 6 128 points (points_read points)) call e in
    let p = window_spelling.printed window made.0 made.3 in
    let q = ink_printed words made.1 made.4 in
    let few = counted_ok 6 128 points (points_read points) made.2 made.5 in
    let r = points_printed points made.2 few.0 in
    let count : length points ≡ 2 * length made.2 = ap length r.0 ∙ length-points made.2 in
    let least = few.1 in
    let most = few.2 in
    subst (Said fonts images (codes "polygon") (window ∷ words)) made.6 (record { same_kind = refl; same_words = (λ i. p.0 i ∷ q.0 i) ∙ (λ i. window_word made.0 ∷ ink_words made.1 ++ r.0 i); limits = (p.1, q.1, record { count = record { least = omega arith; most = omega arith }; placed = r.1 }) })

-- `text`

written_reads : (fonts : List FontView) (font : ℕ) (written : List ℕ) → IsWritten fonts font written → written_read fonts (decimal font) (map decimal written) ≡ Ok (font, written)
unfolding written_read
written_reads fonts font written h =
    let count : length (map decimal written) ≡ length written = length-map written decimal in
    let least = h.some in
    let most = h.most in
    let listed : in_count 1 256 (map decimal written) (each_of short_read (map decimal written)) ≡ Ok written =
    counted_is 1 256 (map decimal written) (each_of short_read (map decimal written)) (omega arith) (omega arith) ∙ codes_spelling.reads written h.each in
    bind_is (Ok (λ (f : ℕ) (w : List ℕ). (f, w)) ⊛ declared_read (length fonts) (decimal font) ⊛ in_count 1 256 (map decimal written) (each_of short_read (map decimal written))) (all_in fonts) (font, written)
    (made2_is (λ (f : ℕ) (w : List ℕ). (f, w)) (declared_read (length fonts) (decimal font)) (in_count 1 256 (map decimal written) (each_of short_read (map decimal written))) font written ((declared_spelling (length fonts)).reads font (h.number, h.declared)) listed)
    ∙ cond_is (has_all (font_at fonts font) written) (Ok (font, written)) (Err Missing) h.has

written_printed : (fonts : List FontView) (font : List ℕ) (words : List (List ℕ)) (text : ℕ × List ℕ) → written_read fonts font words ≡ Ok text → (font ≡ decimal text.0) × (words ≡ map decimal text.1) × IsWritten fonts text.0 text.1
unfolding written_read
written_printed fonts font words text e =
    let read = bind_ok (Ok (λ (f : ℕ) (w : List ℕ). (f, w)) ⊛ declared_read (length fonts) font ⊛ in_count 1 256 words (each_of short_read words)) (all_in fonts) text e in
    let made = made2_ok (λ (f : ℕ) (w : List ℕ). (f, w)) (declared_read (length fonts) font) (in_count 1 256 words (each_of short_read words)) read.0 read.1 in
    let test = cond_ok (has_all (font_at fonts read.0.0) read.0.1) (Ok read.0) Missing text read.2 in
    let same : (made.0, made.1) ≡ text = made.4 ∙ ok_same read.0 text test.1 in
    let has : has_all (font_at fonts made.0) made.1 ≡ true = (λ i. has_all (font_at fonts (made.4 i).0) (made.4 i).1) ∙ test.0 in
    let number = (declared_spelling (length fonts)).printed font made.0 made.2 in
    let few = counted_ok 1 256 words (each_of short_read words) made.1 made.3 in
    let listed = codes_spelling.printed words made.1 few.0 in
    let count : length words ≡ length made.1 = ap length listed.0 ∙ length-map made.1 decimal in
    let least = few.1 in
    let most = few.2 in
    let inside : IsWritten fonts made.0 made.1 = record { number = number.1.0; declared = number.1.1; some = omega arith; most = omega arith; each = listed.1; has = has } in
    (number.0 ∙ ap (λ (t : ℕ × List ℕ). decimal t.0) same, listed.0 ∙ ap (λ (t : ℕ × List ℕ). map decimal t.1) same, subst (λ (t : ℕ × List ℕ). IsWritten fonts t.0 t.1) same inside)

text_reads : (fonts : List FontView) (images : ℕ) (window : Window) (font : ℕ) (at : Point) (ink : Ink) (written : List ℕ) → IsCall fonts images (Text window font at ink written) → text_read fonts (call_words (Text window font at ink written)) ≡ Ok (Text window font at ink written)
unfolding text_read
text_reads fonts images window font at ink written h =
    let ws : List (List ℕ) = ink_words ink ++ map decimal written in
    let cut = ink_reads ink (map decimal written) h.2 in
    made4_is (λ (window : Window) (at : Point) (ink : Ink) (text : ℕ × List ℕ). Text window text.0 at ink text.1) (window_read (window_word window)) (placed_point_read (signed_decimal at.x) (signed_decimal at.y)) (ink_then ws).0 (written_read fonts (decimal font) (ink_then ws).1) window at ink (font, written) (window_spelling.reads window h.0) (placed_point_reads at h.1) (λ i. (cut i).0) ((λ i. written_read fonts (decimal font) (cut i).1) ∙ written_reads fonts font written h.3)

text_printed : (fonts : List FontView) (images : ℕ) (ws : List (List ℕ)) (call : LineCall) → text_read fonts ws ≡ Ok call → Said fonts images (codes "text") ws call
unfolding text_read
text_printed fonts images [] call e = err_is_no_ok Form call e
text_printed fonts images (window ∷ []) call e = err_is_no_ok Form call e
text_printed fonts images (window ∷ font ∷ []) call e = err_is_no_ok Form call e
text_printed fonts images (window ∷ font ∷ x ∷ []) call e = err_is_no_ok Form call e
text_printed fonts images (window ∷ font ∷ x ∷ y ∷ words) call e =
    let rest = (ink_then words).1 in
    let made = made4_ok (λ (window : Window) (at : Point) (ink : Ink) (text : ℕ × List ℕ). Text window text.0 at ink text.1) (window_read window) (placed_point_read x y) (ink_then words).0 (written_read fonts font rest) call e in
    let p = window_spelling.printed window made.0 made.4 in
    let q = placed_point_printed x y made.1 made.5 in
    let k = ink_printed words made.2 made.6 in
    let t = written_printed fonts font rest made.3 made.7 in
    subst (Said fonts images (codes "text") (window ∷ font ∷ x ∷ y ∷ words)) made.8 (record { same_kind = refl; same_words = (λ i. p.0 i ∷ t.0 i ∷ q.0 i ∷ q.1 i ∷ k.0 i) ∙ (λ i. window_word made.0 ∷ decimal made.3.0 ∷ signed_decimal made.1.x ∷ signed_decimal made.1.y ∷ ink_words made.2 ++ t.1 i); limits = (p.1, q.2, k.1, t.2) })

-- ---- all forms

-- a form says only what is printed as its words
record IsForm (fonts : List FontView) (images : ℕ) (form : CallForm) : Type 0 where
  printed : (ws : List (List ℕ)) (call : LineCall) → form.rest ws ≡ Ok call → Said fonts images form.kind ws call

abbrev EachForm : List FontView → ℕ → List CallForm → Type 0
EachForm fonts images [] = ⊤
EachForm fonts images (form ∷ forms) = IsForm fonts images form × EachForm fonts images forms

by_form : (fonts : List FontView) (images : ℕ) (forms : List CallForm) (kind : List ℕ) (ws : List (List ℕ)) (call : LineCall) → EachForm fonts images forms → call_by forms kind ws ≡ Ok call → Said fonts images kind ws call
by_form fonts images [] kind ws call each e = err_is_no_ok Form call e
by_form fonts images (form ∷ forms) kind ws call each e =
    cond_case (λ (r : Result LineCall Cause). r ≡ Ok call → Said fonts images kind ws call) (bytes_eq kind form.kind) _ _
    (λ h is. let said = each.0.printed ws call is in record { same_kind = said.same_kind ∙ sym ((bytes_eq-Decides kind form.kind).0 h); same_words = said.same_words; limits = said.limits })
    (λ h is. by_form fonts images forms kind ws call each.1 is)
    e

each_form : (fonts : List FontView) (images : ℕ) → EachForm fonts images (call_forms fonts images)
each_form fonts images = (
  record { printed = create_printed fonts images },
  (
    record { printed = destroy_printed fonts images },
    (
      record { printed = region_printed fonts images },
      (
        record { printed = move_printed fonts images },
        (
          record { printed = raise_printed fonts images },
          (
            record { printed = lower_printed fonts images },
            (
              record { printed = shape_printed fonts images },
              (
                record { printed = cursor_printed fonts images },
                (
                  record { printed = show_printed fonts images },
                  (
                    record { printed = join_printed fonts images },
                    (
                      record { printed = leave_printed fonts images },
                      (
                        record { printed = send_printed fonts images },
                        (
                          record { printed = take_printed fonts images },
                          (
                            record { printed = known_printed fonts images },
                            (
                              record { printed = fill_printed fonts images },
                              (
                                record { printed = tile_printed fonts images },
                                (
                                  record { printed = blit_printed fonts images },
                                  (
                                    record { printed = stroke_printed fonts images },
                                    (
                                      record { printed = polyline_printed fonts images },
                                      (
                                        record { printed = polygon_printed fonts images },
                                        (
                                          record { printed = text_printed fonts images },
                                          tt,
                                        ),
                                      ),
                                    ),
                                  ),
                                ),
                              ),
                            ),
                          ),
                        ),
                      ),
                    ),
                  ),
                ),
              ),
            ),
          ),
        ),
      ),
    ),
  ),
)

pub call_printed : (fonts : List FontView) (images : ℕ) (kind : List ℕ) (ws : List (List ℕ)) (call : LineCall) → call_by (call_forms fonts images) kind ws ≡ Ok call → Said fonts images kind ws call
call_printed fonts images kind ws call e = by_form fonts images (call_forms fonts images) kind ws call (each_form fonts images) e

pub call_reads : (fonts : List FontView) (images : ℕ) (call : LineCall) → IsCall fonts images call → call_by (call_forms fonts images) (kind_word call) (call_words call) ≡ Ok call
call_reads fonts images (Create name layer) h = create_reads fonts images name layer h
call_reads fonts images (Destroy window) h = destroy_reads fonts images window h
call_reads fonts images (Region window origin rects) h = region_reads fonts images window origin rects h
call_reads fonts images (Move window origin) h = move_reads fonts images window origin h
call_reads fonts images (Raise window) h = raise_reads fonts images window h
call_reads fonts images (Lower window) h = lower_reads fonts images window h
call_reads fonts images (Shape w h cells) k = shape_reads fonts images w h cells k
call_reads fonts images (Cursor at) h = cursor_reads fonts images at h
call_reads fonts images (Show shown) h = show_reads fonts images shown
call_reads fonts images (Join channel) h = join_reads fonts images channel h
call_reads fonts images (Leave channel) h = leave_reads fonts images channel h
call_reads fonts images (Send channel message payload) h = send_reads fonts images channel message payload h
call_reads fonts images Take h = take_reads fonts images
call_reads fonts images (Known channel) h = known_reads fonts images channel h
call_reads fonts images (Fill window rect ink) h = fill_reads fonts images window rect ink h
call_reads fonts images (Tile window rect image) h = tile_reads fonts images window rect image h
call_reads fonts images (Blit window at image alpha) h = blit_reads fonts images window at image alpha h
call_reads fonts images (Line window from to c) h = stroke_reads fonts images window from to c h
call_reads fonts images (Polyline window c points) h = polyline_reads fonts images window c points h
call_reads fonts images (Polygon window ink points) h = polygon_reads fonts images window ink points h
call_reads fonts images (Text window font at ink written) h = text_reads fonts images window font at ink written h
