-- Where layouts tell the same, steps and paints make the same scenes and replies.
use Rattle.std.proofs.Common.{◌≡◌, ℕ, ◌<◌, ◌&&◌, if◌then◌else◌, List, length, Option, Some, None, refl, ap, ◌∙◌, arith}
use Rattle.std.specs.Prelude.{is_none, slice_index}
use Rattle.std.specs.List.{filter}
use Rattle.std.specs.Option.{option_map_or}
use Rattle.qws_base.specs.Sides.{Sides}
use Rattle.qws_base.specs.Points.{pixel_count, pixel_at, point_of, minus}
use Rattle.qws_base.specs.Inks.{ink_after}
use Rattle.qws_base.specs.Sheets.{Sheet}
use Rattle.qws_base.specs.Windows.{Layout, owns, is_slot, allocated}
use Rattle.qws_base.specs.Scenes.{Setting, by_pixels, source_in, carried_from, pixel_after_step, scene_after_step, pixel_after_paint, scene_after_paint, ink_on, has_ink, inked, paint_reply}
use Rattle.qws_base.specs.declared.points.Point.{Point}
use Rattle.qws_base.specs.declared.replies.PaintReply.TheVariants.{Painted, Gone}
use Rattle.region_table.specs.Published.{TellSame}
use Rattle.region_table.proofs.Pixels.{pixel_within, pixels_same, filter_same}

module _ (size : Sides) (before after before' after' : Layout) (old : TellSame size before before') (new : TellSame size after after') where
  source_same : (slot p : ℕ) (from : Option ℕ) → p < pixel_count size → ((q : ℕ) → from ≡ Some q → q < pixel_count size) → source_in size before after slot p from ≡ source_in size before' after' slot p from
  source_same slot p None within inside = refl
  source_same slot p (Some q) within inside =
      ap (λ o. if is_slot slot o && owns before slot q then Some q else None) (new.owner p within)
      ∙ ap (λ o. if owns after' slot p && is_slot slot o then Some q else None) (old.owner q (inside q refl))

  pub carried_same : (moved : Option ℕ) (p : ℕ) → p < pixel_count size → carried_from size before after moved p ≡ carried_from size before' after' moved p
  carried_same None p within = refl
  carried_same (Some slot) p within =
      let from : Layout → Layout → Option ℕ = λ a b. pixel_at size (minus (point_of size.w p) (minus (b.origin slot) (a.origin slot))) in
      let same : from before after ≡ from before' after' =
      ap (λ (o : Point). pixel_at size (minus (point_of size.w p) (minus o (before.origin slot)))) (new.origin slot)
      ∙ ap (λ (o : Point). pixel_at size (minus (point_of size.w p) (minus (after'.origin slot) o))) (old.origin slot) in
      source_same slot p (from before after) within (λ q e. pixel_within size (minus (point_of size.w p) (minus (after.origin slot) (before.origin slot))) q e)
      ∙ ap (source_in size before' after' slot p) same

pub step_same : (setting : Setting) (before after before' after' : Layout) (moved : Option ℕ) (scene : List ℕ) → TellSame setting.size before before' → TellSame setting.size after after'
    → scene_after_step setting before after moved scene ≡ scene_after_step setting before' after' moved scene
step_same setting before after before' after' moved scene old new =
    pixels_same setting.size (pixel_after_step setting before after moved scene) (pixel_after_step setting before' after' moved scene) (λ p within.
    ap (λ f. option_map_or (slice_index scene) f (if is_none (after.owner p) then setting.backdrop else slice_index scene p)) (carried_same setting.size before after before' after' old new moved p within)
    ∙ ap (λ o. option_map_or (slice_index scene) (carried_from setting.size before' after' moved p) (if is_none o then setting.backdrop else slice_index scene p)) (new.owner p within))

pub scene_same : (setting : Setting) (a b : Layout) (client slot : ℕ) (sheet : Sheet) (scene : List ℕ) → TellSame setting.size a b
    → scene_after_paint setting a client slot sheet scene ≡ scene_after_paint setting b client slot sheet scene
scene_same setting a b client slot sheet scene same =
    ap (λ own. if own then by_pixels setting.size (pixel_after_paint setting a slot sheet scene) else scene) (same.is_own client slot)
    ∙ ap (λ l. if b.is_own client slot then l else scene)
    (pixels_same setting.size (pixel_after_paint setting a slot sheet scene) (pixel_after_paint setting b slot sheet scene) (λ p within.
    ap (λ o. if is_slot slot o then ink_after setting.depth (ink_on setting.size.w (a.origin slot) sheet p) (slice_index scene p) else slice_index scene p) (same.owner p within)
    ∙ ap (λ o. if owns b slot p then ink_after setting.depth (ink_on setting.size.w o sheet p) (slice_index scene p) else slice_index scene p) (same.origin slot)))

pub reply_same : (size : Sides) (a b : Layout) (client slot : ℕ) (sheet : Sheet) → TellSame size a b → paint_reply size a client slot sheet ≡ paint_reply size b client slot sheet
reply_same size a b client slot sheet same =
    ap (λ own. if own then Painted (length (inked size a slot sheet)) else Gone) (same.is_own client slot)
    ∙ ap (λ l. if b.is_own client slot then Painted (length (filter (has_ink size.w (a.origin slot) sheet) l)) else Gone)
    (filter_same (owns a slot) (owns b slot) 0 (pixel_count size) (λ p below. ap (is_slot slot) (same.owner p (omega arith))))
    ∙ ap (λ o. if b.is_own client slot then Painted (length (filter (has_ink size.w o sheet) (allocated size b slot))) else Gone) (same.origin slot)
