-- What painting pixels adds to the log of a turn.
use Rattle.std.specs.Prelude.{◌≡◌, ℕ, ◌+◌, ◌<◌, ◌≤◌, true, List, [], ◌∷◌, ◌++◌, map, length, slice_index_or, None}
use Rattle.std.specs.List.{filter, range_with_len}
use Rattle.qws_base.specs.Points.{holds, point_of, pixel_count}
use Rattle.qws_base.specs.RectPixels.{rects_pixels}
use Rattle.qws_base.specs.declared.points.Rect.{Rect}
use Rattle.qws_base.specs.Scenes.{Setting, ink_on, has_ink}
use Rattle.qws_base.specs.declared.inks.Ink.{Ink}
use Rattle.qws_base.specs.Sheets.{Sheet}
use Rattle.qws_base.specs.declared.points.Point.{Point}
use Rattle.qws_base.specs.declared.windows.Cursor.{Cursor}
use Rattle.region_table.specs.Numbers.{pixel_word}
use Rattle.region_table.specs.Tables.{cursor_from}
use Rattle.turn_logs.specs.declared.items.Item.{Item}
use Rattle.fb_words.specs.declared.known.Client.{Client}
use Rattle.turn_logs.specs.Carries.{shown_cell}
use Rattle.fb_words.specs.Clips.{looked_in, log_in}
use Rattle.fb_words.specs.Looks.{LookedIn}
use Rattle.fb_words.specs.Rights.{Owns}
use Rattle.qws_base.specs.Shown.{cell_on}
use Rattle.sw_cursor.specs.Covers.{put_items, bare_cursor}
use Rattle.sw_cursor.specs.declared.covers.Cover.{Cover}
use Rattle.picture_cuts.specs.Cuts.{cut_rect}

-- f of each pixel and what was found there, one after the other
abbrev pub zipped : (ℕ → ℕ → List Item) → List ℕ → List ℕ → List Item
zipped f [] vs = []
zipped f (p ∷ ps) [] = []
zipped f (p ∷ ps) (v ∷ vs) = f p v ++ zipped f ps vs

-- the items of a sheet on a pixel where v was found
abbrev pub items_at : Setting → Cursor → Point → Sheet → ℕ → ℕ → List Item
items_at setting cursor origin sheet k v = put_items setting.depth k (shown_cell setting.size cursor k) (ink_on setting.size.w origin sheet k) v

-- the log has grown by the items of the sheet on those pixels, with what was found on each
pub record PaintsPixels (origin : Point) (sheet : Sheet) (ps : List ℕ) (p q : Client) : Type 0 where
  pub values : List ℕ
  pub long : length values ≡ length ps
  pub log : (words : ℕ → ℕ) → LookedIn (looked_in q.mode) words
      → log_in q.mode ≡ log_in p.mode ++ zipped (items_at p.setting (cursor_from words) origin sheet) ps values

-- the sheet has the first of the inks, so many, on the pixels from the first on
abbrev pub HasInks : ℕ → Point → Sheet → List Ink → ℕ → ℕ → Type 0
HasInks width origin sheet inks first n = (j : ℕ) (d : Ink) → j < n → slice_index_or inks j d ≡ ink_on width origin sheet (first + j)

-- Of each sheet that has the first of the inks, so many, on the pixels from the first on, the log has grown by the items on those
-- pixels, and the count is that of those with ink.
pub record PaintsInks (inks : List Ink) (first n : ℕ) (p q : Client) (count : ℕ) : Type 0 where
  pub log : (origin : Point) (sheet : Sheet) → HasInks p.setting.size.w origin sheet inks first n → PaintsPixels origin sheet (range_with_len first n) p q
  pub counted : (origin : Point) (sheet : Sheet) → HasInks p.setting.size.w origin sheet inks first n → count ≡ length (filter (has_ink p.setting.size.w origin sheet) (range_with_len first n))

-- the cover has no cell on so many pixels from the first on
abbrev pub IsClear : Client → Cover → ℕ → ℕ → Type 0
IsClear p cover first n = (k : ℕ) → first ≤ k → k < first + n → cell_on (bare_cursor cover) (point_of p.setting.size.w k) ≡ None

-- the client owns so many pixels from the first on
abbrev pub OwnsSpan : Client → ℕ → ℕ → Type 0
OwnsSpan p first n = (k : ℕ) → first ≤ k → k < first + n → Owns p (pixel_word k)

-- the client owns each pixel of the rectangle
abbrev pub OwnsRect : Client → Rect → Type 0
OwnsRect p r = (k : ℕ) → k < pixel_count p.setting.size → holds r (point_of p.setting.size.w k) ≡ true → Owns p (pixel_word k)

-- the pixels of the parts of rectangles that a picture at an origin reaches
abbrev pub cut_pixels : ℕ → Point → Rect → List Rect → List ℕ
cut_pixels width origin reach rects = rects_pixels width (map (cut_rect origin reach) rects)
