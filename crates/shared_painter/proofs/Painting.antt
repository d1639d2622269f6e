-- Logs that grow pixel by pixel, and pixels side by side.
use Rattle.std.proofs.Common.{◌≡◌, ℕ, ◌+◌, ◌*◌, ◌<◌, List, [], ◌∷◌, ◌++◌, length, length-append, append-nil, append_assoc, get_or, sym, refl, ap, ◌∙◌, arith, Some, nat_abs, take, map}
use Rattle.std.specs.List.{flat_map}
use Rattle.std.proofs.lemmas.List.{take_more, map-append}
use Rattle.qws_base.specs.Points.{point_of}
use Rattle.qws_base.specs.Scenes.{Setting, ink_on}
use Rattle.qws_base.specs.Sheets.{Sheet}
use Rattle.qws_base.proofs.PixelRows.{RowPlace, rect_place}
use Rattle.qws_base.specs.declared.points.Point.{Point}
use Rattle.qws_base.specs.declared.inks.Ink.{Ink}
use Rattle.region_table.specs.Tables.{cursor_from}
use Rattle.qws_base.specs.Sides.{Sides}
use Rattle.qws_base.specs.declared.points.Rect.{Rect}
use Rattle.turn_logs.specs.Tables.{IsOnScreen}
use Rattle.std.proofs.lemmas.Grind.{flat_map-append}
use Rattle.qws_base.specs.RectPixels.{rect_pixels}
use Rattle.turn_logs.specs.declared.items.Item.{Item}
use Rattle.fb_words.specs.declared.known.Client.{Client}
use Rattle.turn_logs.specs.Carries.{shown_cell}
use Rattle.fb_words.specs.Clips.{look_of, looked_in, log_in}
use Rattle.fb_words.specs.Looks.{LookedIn}
use Rattle.sw_cursor.specs.Covers.{PutsInk, put_items}
use Rattle.shared_painter.specs.Painted.{zipped, items_at, PaintsPixels, OwnsRect, cut_pixels}
use Rattle.picture_cuts.specs.Cuts.{cut_rect}
use Rattle.picture_cuts.proofs.CutPoints.{cut_both}

zipped-append : (f : ℕ → ℕ → List Item) (ps qs vs us : List ℕ) → length vs ≡ length ps → zipped f (ps ++ qs) (vs ++ us) ≡ zipped f ps vs ++ zipped f qs us
zipped-append f [] qs [] us e = refl
zipped-append f [] qs (v ∷ vs) us e = absurd (omega arith)
zipped-append f (p ∷ ps) qs [] us e = absurd (omega arith)
zipped-append f (p ∷ ps) qs (v ∷ vs) us e = ap (λ l. f p v ++ l) (zipped-append f ps qs vs us (omega arith)) ∙ sym (append_assoc (f p v) (zipped f ps vs) (zipped f qs us))

pub none_painted : (origin : Point) (sheet : Sheet) (p : Client) → PaintsPixels origin sheet [] p p
none_painted origin sheet p = record { values = []; long = refl; log = λ words true_in. sym (append-nil (log_in p.mode)) }

pub one_painted : (origin : Point) (sheet : Sheet) (p q : Client) (k : ℕ) (ink : Ink) → PutsInk p q k ink → ink ≡ ink_on p.setting.size.w origin sheet k → PaintsPixels origin sheet (k ∷ []) p q
one_painted origin sheet p q k ink puts is = record {
  values = puts.found ∷ [];
  long = refl;
  log = λ words true_in. puts.log words true_in
      ∙ ap (λ i. log_in p.mode ++ put_items p.setting.depth k (shown_cell p.setting.size (cursor_from words) k) i puts.found) is
      ∙ ap (λ l. log_in p.mode ++ l) (sym (append-nil (items_at p.setting (cursor_from words) origin sheet k puts.found)));
}

pub both_painted : (origin : Point) (sheet : Sheet) (ps qs : List ℕ) (p q r : Client) → q.setting ≡ p.setting → ((x v : ℕ) → look_of (looked_in q.mode) x ≡ Some v → look_of (looked_in r.mode) x ≡ Some v)
    → PaintsPixels origin sheet ps p q → PaintsPixels origin sheet qs q r → PaintsPixels origin sheet (ps ++ qs) p r
both_painted origin sheet ps qs p q r setting stays a b = record {
  values = a.values ++ b.values;
  long = length-append a.values b.values ∙ ap (λ n. n + length b.values) a.long ∙ ap (λ n. length ps + n) b.long ∙ sym (length-append ps qs);
  log = λ words true_in. let before : LookedIn (looked_in q.mode) words = record { found = λ x v e. true_in.found x v (stays x v e) } in
      b.log words true_in
      ∙ ap (λ (s : Setting). log_in q.mode ++ zipped (items_at s (cursor_from words) origin sheet) qs b.values) setting
      ∙ ap (λ l. l ++ zipped (items_at p.setting (cursor_from words) origin sheet) qs b.values) (a.log words before)
      ∙ append_assoc (log_in p.mode) (zipped (items_at p.setting (cursor_from words) origin sheet) ps a.values) (zipped (items_at p.setting (cursor_from words) origin sheet) qs b.values)
      ∙ ap (λ l. log_in p.mode ++ l) (sym (zipped-append (items_at p.setting (cursor_from words) origin sheet) ps qs a.values b.values a.long));
}

-- a row of a rectangle on the screen that isn't empty
pub place_on_screen : (size : Sides) (r : Rect) (i width a b : ℕ) → IsOnScreen size r → i < r.h → width ≡ size.w → a ≡ nat_abs r.y → b ≡ nat_abs r.x → RowPlace size r i ((a + i) * width + b)
place_on_screen size r i width a b on low w y x =
    rect_place size r i width a b (record { from_left = on.from_left; from_top = on.from_top; to_right = on.to_right; to_bottom = on.to_bottom }) on.some_pixels low w y x

-- one rectangle's part more
pub parts_more : (width : ℕ) (origin : Point) (reach : Rect) (rects : List Rect) (i : ℕ) (d : Rect) → i < length rects
    → cut_pixels width origin reach (take (i + 1) rects) ≡ cut_pixels width origin reach (take i rects) ++ rect_pixels width (cut_rect origin reach (get_or rects i d))
parts_more width origin reach rects i d low =
    let f : Rect → Rect = cut_rect origin reach in
    ap (cut_pixels width origin reach) (take_more rects i d low) ∙ ap (flat_map (rect_pixels width)) (map-append f (take i rects) (get_or rects i d ∷ []))
    ∙ flat_map-append (rect_pixels width) (map f (take i rects)) (f (get_or rects i d) ∷ []) ∙ ap (λ l. cut_pixels width origin reach (take i rects) ++ l) (append-nil (rect_pixels width (f (get_or rects i d))))

pub part_owned : (p : Client) (origin : Point) (reach r : Rect) → OwnsRect p r → OwnsRect p (cut_rect origin reach r)
part_owned p origin reach r owns k within has = owns k within (cut_both origin reach r (point_of p.setting.size.w k) has).0
