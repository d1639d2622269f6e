-- Painting the pixels of a fresh clip carries the paint.
use Rattle.std.proofs.Common.{◌≡◌, ℕ, suc, ◌==◌, eq-eqb, ne_eqb, if◌then◌else◌, true, List, [], ◌∷◌, ◌++◌, length, sym, refl, ap, ◌∙◌, subst, arith, Some}
use Rattle.std.specs.Prelude.{slice_index}
use Rattle.std.specs.List.{filter}
use mathlib.Core.Option.{some}
use lib.ListN.{get_elem?}
use Rattle.qws_base.specs.Scenes.{Setting, has_ink, inked}
use Rattle.qws_base.specs.Sheets.{Sheet}
use Rattle.qws_base.specs.Windows.{Layout, owns}
use Rattle.qws_base.specs.declared.points.Point.{Point}
use Rattle.qws_base.specs.declared.journals.BookEntry.{BookEntry}
use Rattle.qws_base.specs.declared.replies.PaintReply.{PaintReply}
use Rattle.qws_base.specs.declared.replies.PaintReply.TheVariants.{Painted, Gone}
use Rattle.region_table.specs.Layouts.{layout_of_table, is_owner}
use Rattle.region_table.specs.Tables.{row_of}
use Rattle.region_table.specs.declared.tables.Row.{Row}
use Rattle.region_table.specs.declared.tables.Table.{Table}
use Rattle.turn_logs.specs.declared.items.Item.{Item}
use Rattle.fb_words.specs.declared.known.Client.{Client}
use Rattle.turn_logs.specs.Carries.{CarriesPaint, CarriesPaintUnder, RepliesUnder}
use Rattle.fb_words.specs.Clips.{looked_in, log_in, Sees}
use Rattle.fb_words.specs.Looks.{LookedIn}
use Rattle.turn_logs.specs.Pixels.{pixel_items, AreToPaint, PixelsLaw}
use Rattle.std.specs.List.{flat_map}
use Rattle.turn_logs.specs.Tables.{table_of}
use Rattle.turn_logs.proofs.Joining.{joined_same}
use Rattle.fb_words.proofs.Rows.{look_true}
use Rattle.clip_refetch.specs.Clips.{ClipView, IsFresh}
use Rattle.shared_painter.specs.Painted.{zipped, items_at, PaintsPixels, cut_pixels}
use Rattle.shared_painter.proofs.Parts.{to_paint}
use Rattle.qws_base.specs.RectPixels.{RectPixelsLaw}
use Rattle.shared_painter.specs.Carried.{CarriedLaw}

-- what was found on a pixel
found_on : List ℕ → List ℕ → ℕ → ℕ
found_on [] vs k = 0
found_on (p ∷ ps) [] k = 0
found_on (p ∷ ps) (v ∷ vs) k = if p == k then v else found_on ps vs k

zipped_is : (f : ℕ → ℕ → List Item) (ps vs : List ℕ) → length vs ≡ length ps → ((j k p : ℕ) → get_elem? ps j ≡ some p → get_elem? ps k ≡ some p → j ≡ k) → zipped f ps vs ≡ flat_map (λ k. f k (found_on ps vs k)) ps
unfolding found_on
zipped_is f [] vs long once = refl
zipped_is f (p ∷ ps) [] long once = absurd (omega arith)
zipped_is f (p ∷ ps) (v ∷ vs) long once =
    ap (λ n. f p n ++ zipped f ps vs) (sym (ap (λ b. if b then v else found_on ps vs p) (eq-eqb p p refl)))
    ∙ ap (λ l. f p (if p == p then v else found_on ps vs p) ++ l) (zipped_is f ps vs (omega arith) (λ j k q a b. let z = once (suc j) (suc k) q a b in omega arith)
    ∙ joined_same (λ k. f k (found_on ps vs k)) (λ k. f k (found_on (p ∷ ps) (v ∷ vs) k)) ps (λ j k at. ap (f k) (sym (ap (λ b. if b then v else found_on ps vs k) (ne_eqb p k (λ same. let z = once 0 (suc j) k (ap (λ (n : ℕ). some n) same) at in absurd (omega arith)))))))

module _ (law : PixelsLaw) (rects_law : RectPixelsLaw) (p q : Client) (clip : ClipView) (sheet : Sheet) (e : BookEntry) (count : ℕ) (none : log_in p.mode ≡ []) (setting : q.setting ≡ p.setting) (fresh : IsFresh q clip)
    (paints : PaintsPixels clip.origin sheet (cut_pixels q.setting.size.w clip.origin sheet.reach clip.rects) p q) (counted : count ≡ length (filter (has_ink q.setting.size.w clip.origin sheet) (cut_pixels q.setting.size.w clip.origin sheet.reach clip.rects)))
    (slot : e.slot ≡ clip.slot) (reply : e.reply ≡ Painted count) (v : Sees q) where
  abbrev table : Table
  table = table_of v.table

  abbrev ps : List ℕ
  ps = cut_pixels q.setting.size.w clip.origin sheet.reach clip.rects

  true_in : LookedIn (looked_in q.mode) (slice_index v.table)
  true_in = record { found = λ x n at. (look_true v.table (looked_in q.mode) x n v.looks at).1 }

  row_is : row_of table clip.slot ≡ record { owner = Some q.number; revision = clip.revision; origin = clip.origin; rects = clip.rects }
  row_is = (fresh.published v).row

  mine : AreToPaint q.setting.size (owns (layout_of_table q.setting.size table) clip.slot) (has_ink q.setting.size.w clip.origin sheet) ps
  mine = to_paint rects_law q v.table clip sheet (fresh.published v)

  log_is : log_in q.mode ≡ flat_map (pixel_items q.setting table.cursor clip.origin sheet (found_on ps paints.values)) ps
  log_is = paints.log (slice_index v.table) true_in
      ∙ ap (λ l. l ++ zipped (items_at p.setting table.cursor clip.origin sheet) ps paints.values) none
      ∙ ap (λ (s : Setting). zipped (items_at s table.cursor clip.origin sheet) ps paints.values) (sym setting)
      ∙ zipped_is (items_at q.setting table.cursor clip.origin sheet) ps paints.values paints.long mine.once

  carried : CarriesPaintUnder q.setting table clip.slot sheet (Painted count) (log_in q.mode)
  carried = subst (λ l. CarriesPaint q.setting table.cursor (owns (layout_of_table q.setting.size table) clip.slot) (row_of table clip.slot).origin sheet (Painted count) l) (sym log_is)
      (subst (λ (o : Point). CarriesPaint q.setting table.cursor (owns (layout_of_table q.setting.size table) clip.slot) o sheet (Painted count) (flat_map (pixel_items q.setting table.cursor clip.origin sheet (found_on ps paints.values)) ps)) (sym (ap (λ (r : Row). r.origin) row_is))
      (law.carried q.setting table.cursor (owns (layout_of_table q.setting.size table) clip.slot) clip.origin sheet count (found_on ps paints.values) ps v.is_table.cursor.few_columns v.is_table.cursor.few_rows mine))

  replied : RepliesUnder q.setting table q.number clip.slot sheet (Painted count)
  replied = let layout : Layout = layout_of_table q.setting.size table in
      let own : is_owner q.number (row_of table clip.slot).owner ≡ true = ap (λ (r : Row). is_owner q.number r.owner) row_is ∙ eq-eqb q.number q.number refl in
      let many : count ≡ length (inked q.setting.size layout clip.slot sheet) = counted ∙ ap (λ (r : Row). length (filter (has_ink q.setting.size.w r.origin sheet) ps)) (sym row_is) ∙ law.counted q.setting.size layout clip.slot sheet ps (subst (λ (r : Row). AreToPaint q.setting.size (owns layout clip.slot) (has_ink q.setting.size.w r.origin sheet) ps) (sym row_is) mine) in
      ap (λ n. Painted n) many ∙ sym (ap (λ b. if b then Painted (length (inked q.setting.size layout clip.slot sheet)) else Gone) own)

  both_are : CarriesPaintUnder q.setting table e.slot sheet e.reply (log_in q.mode) × RepliesUnder q.setting table q.number e.slot sheet e.reply
  both_are = subst (λ s. CarriesPaintUnder q.setting table s sheet e.reply (log_in q.mode) × RepliesUnder q.setting table q.number s sheet e.reply) (sym slot)
      (subst (λ (r : PaintReply). CarriesPaintUnder q.setting table clip.slot sheet r (log_in q.mode) × RepliesUnder q.setting table q.number clip.slot sheet r) (sym reply) (carried, replied))

pub carried_law : PixelsLaw → RectPixelsLaw → CarriedLaw
carried_law law rects_law p q clip sheet e count none setting fresh paints counted slot reply v = both_are law rects_law p q clip sheet e count none setting fresh paints counted slot reply v
