use Rattle.std.proofs.Common.{List, sym, ap, ◌∙◌, subst}
use Rattle.qws_base.specs.Points.{IsPlaced}
use Rattle.qws_base.specs.Regions.{IsRegionOf}
use Rattle.qws_base.specs.Windows.{allocated_points, client_of_slot, origin_of}
use Rattle.qws_base.specs.declared.points.Rect.{Rect}
use Rattle.qws_base.specs.declared.windows.WindowView.{WindowView}
use Rattle.window_core.specs.CoreViews.{PlanView}
use Rattle.table_turns.specs.Writes.{made_row}
use Rattle.step_regions.proofs.Moved.{found_placed}
use Rattle.desk_turns.proofs.Planned.{all_packable, few_rects}
use Rattle.desk_turns.proofs.rows.write_planned.Goals as goal

pub write_row-requires-clause-row : goal.write_row-requires-clause-row
write_row-requires-clause-row c =
    let v : PlanView = c.args.plan.now in
    let region : IsRegionOf c.rects-rects.result.now (allocated_points v.size v.windows c.args.slot) = subst (λ (l : List Rect). IsRegionOf l (allocated_points v.size v.windows c.args.slot)) (sym c.rects-rects.ensures.value) c.region.ensures in
    record {
      placed = subst IsPlaced (sym (c.origin_of-origin.ensures ∙ ap (λ (w : List WindowView). origin_of w c.args.slot) c.windows-windows.ensures)) (found_placed c.args.slot v.windows c.requires.arranged.each);
      few = few_rects c.count_of_corners.ensures v.size v.windows c.args.slot c.rects-rects.result.now (c.requires.arranged.simple c.args.slot c.requires.slot) region;
      packable = all_packable v.size v.windows c.args.slot c.rects-rects.result.now c.requires.screen region;
    }

pub returns-clause-words : goal.returns-clause-words
returns-clause-words c =
    let v : PlanView = c.args.plan.now in
    let region : IsRegionOf c.rects-rects.result.now (allocated_points v.size v.windows c.args.slot) = subst (λ (l : List Rect). IsRegionOf l (allocated_points v.size v.windows c.args.slot)) (sym c.rects-rects.ensures.value) c.region.ensures in
    record {
      row = made_row c.owner_of-owner.result c.revision.result c.origin_of-origin.result c.rects-rects.result.now;
      planned = record {
        owner = c.owner_of-owner.ensures ∙ ap (λ (w : List WindowView). client_of_slot w c.args.slot) c.windows-windows.ensures;
        revision = c.revision.ensures;
        origin = c.origin_of-origin.ensures ∙ ap (λ (w : List WindowView). origin_of w c.args.slot) c.windows-windows.ensures;
        region = region;
      };
      few = few_rects c.count_of_corners.ensures v.size v.windows c.args.slot c.rects-rects.result.now (c.requires.arranged.simple c.args.slot c.requires.slot) region;
      sets = c.write_row.ensures.words;
    }
