-- The pixels of a clip that a picture reaches are pixels of its slot, among them all with ink, each once.
use Rattle.std.proofs.Common.{◌≡◌, ℕ, true, List, [], ◌∷◌, zero, suc, map, sym, ap, ◌∙◌}
use Rattle.std.specs.Prelude.{All}
use mathlib.Core.Option.{some, some-injective, some-ne-none}
use lib.ListN.{get_elem?}
use Rattle.qws_base.specs.Points.{holds, any_holds, shifted, point_of}
use Rattle.qws_base.specs.RectPixels.{IsWithin, AreDisjoint, RectPixelsLaw}
use Rattle.qws_base.specs.Scenes.{has_ink}
use Rattle.qws_base.specs.Sheets.{Sheet}
use Rattle.qws_base.specs.Sides.{Sides}
use Rattle.qws_base.specs.Windows.{owns}
use Rattle.qws_base.specs.declared.points.Point.{Point}
use Rattle.qws_base.specs.declared.points.Rect.{Rect}
use Rattle.qws_base.proofs.ListLemmas.{each_map}
use Rattle.qws_base.proofs.RectPixelLemmas.{any_of, one_of_any}
use Rattle.region_table.specs.Layouts.{layout_of_table}
use Rattle.fb_words.specs.declared.known.Client.{Client}
use Rattle.turn_logs.specs.Pixels.{AreToPaint}
use Rattle.turn_logs.specs.Tables.{table_of, IsOnScreen}
use Rattle.turn_logs.proofs.Totals.{from_map}
use Rattle.clip_refetch.specs.Clips.{ClipView, IsPublishedIn}
use Rattle.picture_cuts.specs.Cuts.{cut_rect}
use Rattle.picture_cuts.proofs.CutPoints.{cut_both, both_cut, cut_within}
use Rattle.picture_cuts.proofs.CutPixels.{reached}
use Rattle.shared_painter.specs.Painted.{cut_pixels}
use Rattle.shared_painter.proofs.Cutting.{within_screen}

cut_at : (f : Rect → Rect) (rects : List Rect) (k : ℕ) (r : Rect) → get_elem? rects k ≡ some r → get_elem? (map f rects) k ≡ some (f r)
cut_at f [] k r at = absurd (some-ne-none r (sym at))
cut_at f (x ∷ rects) zero r at = ap (λ (z : Rect). some (f z)) (some-injective x r at)
cut_at f (x ∷ rects) (suc k) r at = cut_at f rects k r at

module _ (law : RectPixelsLaw) (q : Client) (t : List ℕ) (clip : ClipView) (sheet : Sheet) (is : IsPublishedIn q t clip) where
  abbrev size : Sides
  size = q.setting.size

  abbrev cut : Rect → Rect
  cut = cut_rect clip.origin sheet.reach

  abbrev parts : List Rect
  parts = map cut clip.rects

  within : All (IsWithin size) parts
  within = each_map (IsOnScreen size) (IsWithin size) cut (λ r on. cut_within size clip.origin sheet.reach r (within_screen size r on)) clip.rects is.inside

  disjoint : AreDisjoint size parts
  disjoint j k r s p at_r at_s low has_r has_s =
      let a = from_map cut clip.rects j r at_r in let b = from_map cut clip.rects k s at_s in
      is.apart j k a.0 b.0 p a.1 b.1 low
      (cut_both clip.origin sheet.reach a.0 (point_of size.w p) (ap (λ (z : Rect). holds z (point_of size.w p)) a.2 ∙ has_r)).0
      (cut_both clip.origin sheet.reach b.0 (point_of size.w p) (ap (λ (z : Rect). holds z (point_of size.w p)) b.2 ∙ has_s)).0

  in_clip : (p : Point) → any_holds parts p ≡ true → any_holds clip.rects p ≡ true
  in_clip p has = let one = one_of_any parts p has in let a = from_map cut clip.rects one.0 one.1 one.2 in
      any_of clip.rects one.0 a.0 p a.1 (cut_both clip.origin sheet.reach a.0 p (ap (λ (z : Rect). holds z p) a.2 ∙ one.3)).0

  in_parts : (p : Point) → any_holds clip.rects p ≡ true → holds (shifted clip.origin sheet.reach) p ≡ true → any_holds parts p ≡ true
  in_parts p has far = let one = one_of_any clip.rects p has in
      any_of parts one.0 (cut one.1) p (cut_at cut clip.rects one.0 one.1 one.2) (both_cut clip.origin sheet.reach one.1 p one.3 far)

  pub to_paint : AreToPaint size (owns (layout_of_table size (table_of t)) clip.slot) (has_ink size.w clip.origin sheet) (cut_pixels size.w clip.origin sheet.reach clip.rects)
  to_paint = record {
    each = λ k p at. let one = law.each size parts k p within at in (one.0, is.pixels p one.0 ∙ in_clip (point_of size.w p) one.1);
    all = λ p low mine inked. law.all size parts p within low (in_parts (point_of size.w p) (sym (is.pixels p low) ∙ mine) (reached size.w clip.origin sheet p inked));
    once = λ j k p a b. law.once size parts j k p within disjoint a b;
  }
