use Rattle.std.proofs.Common.{◌≡◌, to_z, of_z, w32, sym, ap, ◌∙◌, ◌*◌, pos, true}
use Rattle.qws_base.specs.Sides.{Sides}
use Rattle.qws_base.specs.Points.{spans, pixel_count}
use Rattle.pixel_model.proofs.Pixels.{pixel_below}
use Rattle.pixel_model.proofs.owners.point_pixel.Goals as goal

pub returns-then-is_spanned-2-clause-range : goal.returns-then-is_spanned-2-clause-range
returns-then-is_spanned-2-clause-range c =
    let size : Sides = record { w = c.w-w.result; h = c.h.result } in
    let in_row : spans (pos 0) c.w-w.result (to_z w32 (of_z w32 c.args.p.x)) ≡ true = sym c.is_spanned.ensures ∙ c.if-is_spanned.true in
    let in_column : spans (pos 0) c.h.result (to_z w32 (of_z w32 c.args.p.y)) ≡ true = sym c.is_spanned-then-is_spanned.ensures ∙ c.if-is_spanned-2.true in
    let same : c.w-w.result * c.h.result ≡ pixel_count c.args.size = ap (λ w. w * c.h.result) c.w-w.ensures.value ∙ ap (λ h. c.args.size.w * h) c.h.ensures.value in
    rw same at (pixel_below size (to_z w32 (of_z w32 c.args.p.x)) (to_z w32 (of_z w32 c.args.p.y)) in_row in_column)
