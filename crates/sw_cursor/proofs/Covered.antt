-- The cover of a turn, and the cell that lies on a pixel by its looked words.
use Rattle.std.proofs.Common.{◌≡◌, ℕ, ◌+◌, ◌*◌, ◌/◌, ◌%◌, ◌^◌, ◌<◌, ◌≤◌, ⊎_elim, inr, sym, refl, ap, ◌∙◌, subst, arith, Some, None}
use Rattle.std.specs.Prelude.{slice_index}
use Rattle.std.specs.Option.{option_map}
use Rattle.std.proofs.lemmas.Nat.{mul-add-lt, div-mul-add, mod-mul-add}
use Rattle.std.proofs.lemmas.List.FromFn.{get_or-map-range_with_len}
use Rattle.qws_base.specs.Points.{point_of}
use Rattle.qws_base.specs.Shown.{cell_on, cell_at}
use Rattle.qws_base.specs.declared.points.Point.{Point}
use Rattle.qws_base.specs.declared.windows.Cursor.{Cursor}
use Rattle.region_table.specs.Numbers.{pixel_word, cell_word, saved_word}
use Rattle.region_table.specs.Tables.{cells_from, cursor_from}
use Rattle.fb_words.specs.declared.known.Client.{Client}
use Rattle.turn_logs.specs.Carries.{shown_cell}
use Rattle.fb_words.specs.Looks.{GoesOn, LookedIn}
use Rattle.fb_words.specs.Rights.{cursor_at, cell_over, IsSavedOver, Owns}
use Rattle.sw_cursor.specs.Covers.{IsCover, bare_cursor}
use Rattle.sw_cursor.specs.declared.covers.Cover.{Cover}
use Rattle.fb_words.specs.Clips.{look_of, looked_in, Sees}
use Rattle.fb_words.proofs.Rows.{look_true}

-- ---- what a table says of the cursor

pub few_sides : (q : Client) (shape : ℕ) → Sees q → look_of (looked_in q.mode) 3 ≡ Some shape → (shape % 2 ^ 16 ≤ 32) × (shape / 2 ^ 16 ≤ 32)
few_sides q shape sees found =
    let is = (look_true sees.table (looked_in q.mode) 3 shape sees.looks found).1 in
    let w = sees.is_table.cursor.few_columns in
    let h = sees.is_table.cursor.few_rows in
    (subst (λ n. n % 2 ^ 16 ≤ 32) is w, subst (λ n. n / 2 ^ 16 ≤ 32) is h)

-- a looked cell
pub cell_small : (q : Client) (x cell : ℕ) → Sees q → 4 ≤ x → x < 1028 → look_of (looked_in q.mode) x ≡ Some cell → cell < 4294967296
cell_small q x cell sees low high found = subst (λ n. n < 4294967296) (look_true sees.table (looked_in q.mode) x cell sees.looks found).1 (sees.is_table.cursor.cells x low high)

-- ---- the cell on a pixel

cover_at : (p : Client) (cover : Cover) (is : IsCover p cover) → bare_cursor cover ≡ cursor_at is.place is.shape
cover_at p cover is =
    ap (λ n. record (bare_cursor cover) { x = n }) is.x_is
    ∙ ap (λ n. record (bare_cursor cover) { x = is.place % 2 ^ 16; y = n }) is.y_is
    ∙ ap (λ n. record (bare_cursor cover) { x = is.place % 2 ^ 16; y = is.place / 2 ^ 16 % 2 ^ 16; w = n }) is.w_is
    ∙ ap (λ n. record (bare_cursor cover) { x = is.place % 2 ^ 16; y = is.place / 2 ^ 16 % 2 ^ 16; w = is.shape % 2 ^ 16; h = n }) is.h_is
    ∙ ap (λ b. record (bare_cursor cover) { x = is.place % 2 ^ 16; y = is.place / 2 ^ 16 % 2 ^ 16; w = is.shape % 2 ^ 16; h = is.shape / 2 ^ 16; shown = b }) is.shown_is

-- the saved word over an owned pixel is owned
pub owns_saved : (p : Client) (cover : Cover) (k column row : ℕ) → IsCover p cover → cell_on (bare_cursor cover) (point_of p.setting.size.w k) ≡ Some (column, row) → column < 32 → row < 32
    → Owns p (pixel_word k) → Owns p (saved_word column row)
owns_saved p cover k column row is on_it low high o = record {
  stamp = o.stamp;
  stamped = o.stamped;
  clip = o.clip;
  turn_slot = o.turn_slot;
  kept_clip = o.kept_clip;
  current = o.current;
  rect = o.rect;
  rect_word = o.rect_word;
  rect_at = o.rect_at;
  pixel = o.pixel;
  on_screen = o.on_screen;
  holds = o.holds;
  word = inr (is.place, is.shape, is.place_found, is.shape_found, record { column = column; row = row; column_in = low; row_in = high; cell = cell; word = refl });
}
  where
    same : k ≡ o.pixel
    same = ⊎_elim (λ (e : pixel_word k ≡ pixel_word o.pixel). omega arith)
        (λ (d : (place : ℕ) × (shape : ℕ) × (look_of (looked_in p.mode) 2 ≡ Some place) × (look_of (looked_in p.mode) 3 ≡ Some shape) × IsSavedOver p.setting.size place shape o.pixel (pixel_word k)).
        let s = d.4 in let a = s.column_in in let b = s.row_in in let w = s.word in absurd (omega arith))
        o.word

    cell : cell_over p.setting.size is.place is.shape o.pixel ≡ Some (column, row)
    cell = ap (cell_over p.setting.size is.place is.shape) (sym same) ∙ ap (λ (c : Cursor). cell_on c (point_of p.setting.size.w k)) (sym (cover_at p cover is)) ∙ on_it

-- words of which the looked ones are true have the same cell on a pixel
same_cell : (p q : Client) (cover : Cover) (words : ℕ → ℕ) (pt : Point) → IsCover p cover → LookedIn (looked_in q.mode) words → ((x v : ℕ) → look_of (looked_in p.mode) x ≡ Some v → look_of (looked_in q.mode) x ≡ Some v)
    → cell_on (cursor_from words) pt ≡ cell_on (bare_cursor cover) pt
same_cell p q cover words pt is true_in stays =
    let place : words 2 ≡ is.place = true_in.found 2 is.place (stays 2 is.place is.place_found) in
    let shape : words 3 ≡ is.shape = true_in.found 3 is.shape (stays 3 is.shape is.shape_found) in
    ap (λ a. cell_on (cursor_at a (words 3)) pt) place ∙ ap (λ b. cell_on (cursor_at is.place b) pt) shape ∙ ap (λ (c : Cursor). cell_on c pt) (sym (cover_at p cover is))

cell_from : (words : ℕ → ℕ) (w h column row : ℕ) → column < w → row < h → slice_index (cells_from words w h) (row * w + column) ≡ words (cell_word column row)
unfolding cells_from
cell_from words w h column row low high =
    get_or-map-range_with_len (λ k. words (cell_word (k % w) (k / w))) 0 (w * h) (row * w + column) (row * w + column) 0 (mul-add-lt row w column h high low) (omega arith)
    ∙ ap (λ a. words (cell_word a ((row * w + column) / w))) (mod-mul-add row w column low) ∙ ap (λ b. words (cell_word column b)) (div-mul-add row w column low)

pub bare_here : (p q : Client) (cover : Cover) (words : ℕ → ℕ) (k : ℕ) → IsCover p cover → LookedIn (looked_in q.mode) words → ((x v : ℕ) → look_of (looked_in p.mode) x ≡ Some v → look_of (looked_in q.mode) x ≡ Some v)
    → cell_on (bare_cursor cover) (point_of p.setting.size.w k) ≡ None → shown_cell p.setting.size (cursor_from words) k ≡ None
bare_here p q cover words k is true_in stays none = ap (option_map (λ at. record { column = at.0; row = at.1; value = cell_at (cursor_from words) at })) (same_cell p q cover words (point_of p.setting.size.w k) is true_in stays ∙ none)

pub cell_here : (p q : Client) (cover : Cover) (words : ℕ → ℕ) (k column row value : ℕ) → IsCover p cover → LookedIn (looked_in q.mode) words → ((x v : ℕ) → look_of (looked_in p.mode) x ≡ Some v → look_of (looked_in q.mode) x ≡ Some v)
    → cell_on (bare_cursor cover) (point_of p.setting.size.w k) ≡ Some (column, row) → column < cover.w → row < cover.h → look_of (looked_in q.mode) (cell_word column row) ≡ Some value
    → shown_cell p.setting.size (cursor_from words) k ≡ Some record { column = column; row = row; value = value }
cell_here p q cover words k column row value is true_in stays on_it low high found =
    let shape : words 3 ≡ is.shape = true_in.found 3 is.shape (stays 3 is.shape is.shape_found) in
    let w : words 3 % 2 ^ 16 ≡ cover.w = ap (λ n. n % 2 ^ 16) shape ∙ sym is.w_is in
    let h : words 3 / 2 ^ 16 ≡ cover.h = ap (λ n. n / 2 ^ 16) shape ∙ sym is.h_is in
    ap (option_map (λ at. record { column = at.0; row = at.1; value = cell_at (cursor_from words) at })) (same_cell p q cover words (point_of p.setting.size.w k) is true_in stays ∙ on_it)
    ∙ ap (λ n. Some record { column = column; row = row; value = n })
    (cell_from words (words 3 % 2 ^ 16) (words 3 / 2 ^ 16) column row (subst (λ n. column < n) (sym w) low) (subst (λ n. row < n) (sym h) high) ∙ true_in.found (cell_word column row) value found)

-- ---- the cover stays

pub cover_stays : (first past : ℕ) (p q : Client) (cover : Cover) → GoesOn first past p q → IsCover p cover → IsCover q cover
cover_stays first past p q cover goes is = record {
  depth_is = is.depth_is ∙ sym (ap (λ (x : Client). x.setting.depth) goes.rest);
  place = is.place;
  place_found = goes.stays 2 is.place is.place_found;
  x_is = is.x_is;
  y_is = is.y_is;
  shown_is = is.shown_is;
  shape = is.shape;
  shape_found = goes.stays 3 is.shape is.shape_found;
  w_is = is.w_is;
  h_is = is.h_is;
  few_w = is.few_w;
  few_h = is.few_h;
}
