-- Columns that go round, and the pixels of tiles and blits.
use Rattle.std.proofs.Common.{ℕ, ◌≡◌, ◌+◌, ◌-◌, ◌*◌, ◌/◌, ◌%◌, ◌<◌, ◌≤◌, ℤ, pos, ◌+ℤ◌, ◌-ℤ◌, nat_abs, List, length, map, slice_index, slice_range, sym, ap, ◌∙◌, arith}
use Rattle.std.proofs.Math.Nat.{add-mod, mod-lt, mod-mod}
use Rattle.std.proofs.lemmas.Nat.{mod-mul-add, div-add-mod', row_fits_turned}
use Rattle.std.proofs.lemmas.List.Edits.{length-between, get_or-between}
use Rattle.std.specs.List.{range_with_len}
use Rattle.qws_base.specs.declared.inks.Ink.{Ink}
use Rattle.qws_base.specs.declared.inks.Ink.TheVariants.{Skip}
use Rattle.qws_base.specs.declared.points.Point.{Point}
use Rattle.qws_base.specs.declared.points.Rect.{Rect}
use Rattle.qws_base.specs.Sheets.{row_of}
use Rattle.gfx_fills.specs.Images.{ImageView, IsImage, pixel_of, pixel_ink, faded_ink, tile_sheet, blit_rect, blit_sheet}
use Rattle.picture_rows.specs.Runs.{IsInside}
use Rattle.picture_rows.proofs.RunLemmas.{inside_column, inside_end, further}
use Rattle.picture_rows.proofs.RowLemmas.{row_inside, same_maps}

-- the column after one
pub next_column : (a n c : ℕ) → c ≡ a % n → c + 1 < n → (a + 1) % n ≡ c + 1
next_column a n c e h = ap (λ m. m % n) (omega (arith, div-add-mod' a n)) ∙ mod-mul-add (a / n) n (c + 1) h

-- after the last column comes the first
pub first_column : (a n c : ℕ) → c ≡ a % n → c + 1 ≡ n → (a + 1) % n ≡ 0
first_column a n c e h = ap (λ m. m % n) (omega (arith, div-add-mod' a n)) ∙ mod-mul-add (a / n + 1) n 0 (omega arith)

-- the pixels of one row
pub row_length : (image : ImageView) (i : ℕ) → IsImage image → i < image.h → length (slice_range image.pixels (i * image.w) (i * image.w + image.w)) ≡ image.w
row_length image i p h =
    let fits : i * image.w + image.w ≤ length image.pixels = omega (arith, p.whole, row_fits_turned i image.w image.w image.h h (omega arith)) in
    length-between image.pixels (i * image.w) (i * image.w + image.w) fits ∙ omega arith

pixel_in_row : (image : ImageView) (i k : ℕ) → k < image.w → slice_index (slice_range image.pixels (i * image.w) (i * image.w + image.w)) k ≡ pixel_of image k i
pixel_in_row image i k h = get_or-between image.pixels (i * image.w) (i * image.w + image.w) k 0 (omega arith)

pixel_at : (image : ImageView) (pixels : List ℕ) (i row k : ℕ) → row ≡ i → pixels ≡ slice_range image.pixels (row * image.w) (row * image.w + image.w) → k < image.w → slice_index pixels k ≡ pixel_of image k i
pixel_at image pixels i row k e d h = ap (λ l. slice_index l k) d ∙ pixel_in_row image row k h ∙ ap (pixel_of image k) e

go_round : (d k m : ℕ) → (d % m + k) % m ≡ (d + k) % m
go_round d k m = add-mod (d % m) k m ∙ ap (λ v. (v + k % m) % m) (mod-mod d m) ∙ sym (add-mod d k m)

pub tile_made : (r : Rect) (image : ImageView) (y x : ℤ) (n : ℕ) (pixels : List ℕ) (first row : ℕ) → IsImage image → IsInside r y x n → 0 < n
    → row ≡ nat_abs (y -ℤ r.y) % image.h → pixels ≡ slice_range image.pixels (row * image.w) (row * image.w + image.w) → first ≡ nat_abs (x -ℤ r.x) % length pixels
    → map (λ j. pixel_ink (slice_index pixels ((first + j) % length pixels))) (range_with_len 0 n) ≡ row_of (tile_sheet r image) y x n
tile_made r image y x n pixels first row p within some is_row is_pixels is_first =
    let d : ℕ = nat_abs (x -ℤ r.x) in
    let low : row < image.h = omega (arith, is_row, mod-lt (nat_abs (y -ℤ r.y)) p.some_h) in
    let len : length pixels ≡ image.w = ap length is_pixels ∙ row_length image row p low in
    let is : first ≡ d % image.w = is_first ∙ ap (λ m. d % m) len in
    let f : Point → Ink = λ q. pixel_ink (pixel_of image (nat_abs (q.x -ℤ r.x) % image.w) (nat_abs (q.y -ℤ r.y) % image.h)) in
    same_maps (λ j. pixel_ink (slice_index pixels ((first + j) % length pixels))) (λ j. f (record { x = x +ℤ pos j; y = y })) n Skip
    (λ k h.
    let column : (first + k) % length pixels ≡ nat_abs ((x +ℤ pos k) -ℤ r.x) % image.w =
    ap (λ m. (first + k) % m) len ∙ ap (λ v. (v + k) % image.w) is ∙ go_round d k image.w ∙ ap (λ v. v % image.w) (sym (further r.x x r.w k (inside_column r y x n within some))) in
    ap (λ v. pixel_ink (slice_index pixels v)) column
    ∙ ap pixel_ink (pixel_at image pixels (nat_abs (y -ℤ r.y) % image.h) row (nat_abs ((x +ℤ pos k) -ℤ r.x) % image.w) is_row is_pixels (mod-lt (nat_abs ((x +ℤ pos k) -ℤ r.x)) p.some_w)))
    ∙ sym (row_inside r f y x n within)

pub blit_made : (at : Point) (image : ImageView) (alpha : ℕ) (y x : ℤ) (n : ℕ) (pixels : List ℕ) (first row : ℕ) → IsInside (blit_rect at image) y x n → 0 < n
    → row ≡ nat_abs (y -ℤ at.y) → pixels ≡ slice_range image.pixels (row * image.w) (row * image.w + image.w) → first ≡ nat_abs (x -ℤ at.x)
    → map (λ j. faded_ink alpha (slice_index pixels (first + j))) (range_with_len 0 n) ≡ row_of (blit_sheet at image alpha) y x n
blit_made at image alpha y x n pixels first row within some is_row is_pixels is_first =
    let r : Rect = blit_rect at image in
    let f : Point → Ink = λ q. faded_ink alpha (pixel_of image (nat_abs (q.x -ℤ at.x)) (nat_abs (q.y -ℤ at.y))) in
    same_maps (λ j. faded_ink alpha (slice_index pixels (first + j))) (λ j. f (record { x = x +ℤ pos j; y = y })) n Skip
    (λ k h.
    let column : first + k ≡ nat_abs ((x +ℤ pos k) -ℤ at.x) = ap (λ v. v + k) is_first ∙ sym (further at.x x image.w k (inside_column r y x n within some)) in
    let low : nat_abs ((x +ℤ pos k) -ℤ at.x) < image.w = omega (arith, inside_end r y x n within some, column, is_first) in
    ap (λ v. faded_ink alpha (slice_index pixels v)) column
    ∙ ap (faded_ink alpha) (pixel_at image pixels (nat_abs (y -ℤ at.y)) row (nat_abs ((x +ℤ pos k) -ℤ at.x)) is_row is_pixels low))
    ∙ sym (row_inside r f y x n within)
