use Rattle.std.proofs.Common.{◌≡◌, ℕ, length, map, sym, ap, ◌∙◌, subst, arith}
use Rattle.std.specs.Prelude.{All, replicate}
use Rattle.qws_base.specs.Colours.{scene_colour}
use Rattle.qws_base.specs.Sides.{Sides}
use Rattle.qws_base.specs.RectPixels.{IsWithin, rects_pixels}
use Rattle.canvas_steps.proofs.Laying.{filled_colours}
use Rattle.canvas_steps.proofs.patches.Patch.filled.Goals as goal

pub pixels_of-requires : goal.pixels_of-requires
pixels_of-requires c = subst (λ (s : Sides). All (IsWithin s) c.args.region.now) (sym c.size.ensures) c.requires

pub returns : goal.returns
returns c =
    let f : ℕ → ℕ = scene_colour c.args.canvas.now.setting.depth in
    let many : c.len.result ≡ length c.in_ok-pixels.pixels.items = omega (arith, c.in_ok-pixels.pixels.ok.0, c.len.ensures) in
    let all : c.in_ok-colours.colours.items ≡ replicate c.len.result c.args.colour = c.in_ok-colours.ensures.items_if_clones_equal (λ y e. e) in record {
      pixels = c.in_ok-pixels.ensures ∙ ap (λ (s : Sides). rects_pixels s.w c.args.region.now) c.size.ensures;
      colours = ap (map f) (all ∙ ap (λ (n : ℕ). replicate n c.args.colour) many) ∙ filled_colours f c.args.colour c.in_ok-pixels.pixels.items;
    }
