use Rattle.std.proofs.Common.{ℕ, ◌<◌, List, map, sym, ap, ◌∙◌, subst}
use Rattle.std.specs.Prelude.{All, slice_index}
use Rattle.qws_base.specs.Sides.{Sides}
use Rattle.qws_base.specs.Points.{pixel_count}
use Rattle.qws_base.specs.RectPixels.{IsWithin, rects_pixels}
use Rattle.qws_base.specs.declared.points.Rect.{Rect}
use Rattle.step_regions.specs.Carried.{HasSource, source}
use Rattle.canvas_steps.proofs.Laying.{all_pixels}
use Rattle.canvas_steps.proofs.patches.Patch.carried.Goals as goal

pub pixels_of-requires : goal.pixels_of-requires
pixels_of-requires c = subst (λ (s : Sides). All (IsWithin s) c.args.carried.now.region) (sym c.size.ensures) c.requires.within

pub colours_for-requires-clause-pixels : goal.colours_for-requires-clause-pixels
colours_for-requires-clause-pixels c =
    let size : Sides = c.args.canvas.now.setting.size in
    let rects : List Rect = c.args.carried.now.region in
    subst (All (λ p. p < pixel_count size)) (sym (c.deref.ensures.value ∙ c.in_ok-pixels.ensures ∙ ap (λ (s : Sides). rects_pixels s.w rects) c.size.ensures))
    (all_pixels size rects (λ p. p < pixel_count size) c.requires.within (λ p below holds. below))

pub colours_for-requires-clause-sources : goal.colours_for-requires-clause-sources
colours_for-requires-clause-sources c =
    let size : Sides = c.args.canvas.now.setting.size in
    let rects : List Rect = c.args.carried.now.region in
    let has : ℕ → Type 0 = HasSource c.args.canvas.now.setting c.args.carried.now.falling c.args.carried.now.by in
    subst (All has) (sym (c.deref.ensures.value ∙ c.in_ok-pixels.ensures ∙ ap (λ (s : Sides). rects_pixels s.w rects) c.size.ensures)) (all_pixels size rects has c.requires.within c.requires.sources)

pub returns : goal.returns
returns c = record {
  pixels = c.in_ok-pixels.ensures ∙ ap (λ (s : Sides). rects_pixels s.w c.args.carried.now.region) c.size.ensures;
  colours = c.in_ok-colours.ensures ∙ ap (map (λ p. slice_index c.args.canvas.now.scene (source c.args.carried.now.falling c.args.carried.now.by p))) c.deref.ensures.value;
}
