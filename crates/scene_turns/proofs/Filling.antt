-- What a sweep of rectangles in order does, pixel by pixel.
use Rattle.std.proofs.Common.{◌≡◌, ℕ, ◌<◌, true, false, List, map, sym, ap, ◌∙◌, subst}
use Rattle.std.specs.Prelude.{All, AllPairs}
use Rattle.std.proofs.lemmas.Bool.{true≢false}
use Rattle.qws_base.specs.Scenes.{Setting}
use Rattle.qws_base.specs.Points.{any_holds, point_of, pixel_count}
use Rattle.qws_base.specs.Regions.{Precedes}
use Rattle.qws_base.specs.RectPixels.{IsWithin}
use Rattle.qws_base.specs.declared.points.Rect.{Rect}
use Rattle.turn_logs.specs.declared.items.Item.{Item}
use Rattle.scene_turns.specs.declared.works.Work.{Work}
use Rattle.scene_turns.specs.declared.works.Work.TheVariants.{Fill, Carry}
use Rattle.scene_turns.specs.Works.{Works, CanWork, is_falling, work_log}
use Rattle.scene_turns.specs.Sweeps.{AddsSweep, rows_part}
use Rattle.scene_turns.proofs.Order.{Has, InOrder, Before}
use Rattle.scene_turns.proofs.Logs.{Ahead, all_done, none_put, none_touched, first_has}
use Rattle.scene_turns.proofs.Sweeping.{rows_in_order, swept_in, in_swept}

ahead_of : (setting : Setting) (work : Work) (p : ℕ) → CanWork setting work p → Ahead work p
ahead_of setting (Fill colour) p can = tt
ahead_of setting (Carry false by) p can = tt
ahead_of setting (Carry true by) p can = can.1

pub swept : (setting : Setting) (rects : List Rect) (work : Work) (before after : List Item) → All (IsWithin setting.size) rects → AllPairs Precedes rects
    → ((p : ℕ) → p < pixel_count setting.size → any_holds rects (point_of setting.size.w p) ≡ true → CanWork setting work p)
    → Works work (rows_part (is_falling work) setting.size.w rects setting.size.h setting.size.h) before after → AddsSweep setting.size rects work before after
swept setting rects work before after within sorted can works = record {
  added = work_log work works.done;
  log = works.log;
  sweeps = record {
    inside = λ p low holds. all_done work works.done
        (subst (InOrder (Before (is_falling work))) (sym works.pixels_are) (rows_in_order (is_falling work) setting.size rects within sorted))
        (λ q has. let i = there q has in ahead_of setting work q (can q i.0 i.1))
        p (subst (λ l. Has l p) (sym works.pixels_are) (in_swept (is_falling work) setting.size rects p within holds));
    outside = λ p low out. none_put work p works.done (λ d has same. true≢false (sym (there d.0 (first_has works.done d has)).1 ∙ ap (λ q. any_holds rects (point_of setting.size.w q)) same ∙ out));
    away = λ x off. none_touched work x works.done (λ d has touched. let i = there d.0 (first_has works.done d has) in off d.0 i.0 i.1 touched);
  };
}
  where
    there : (q : ℕ) → Has (map (λ (e : ℕ × ℕ). e.0) works.done) q → (q < pixel_count setting.size) × (any_holds rects (point_of setting.size.w q) ≡ true)
    there q has = swept_in (is_falling work) setting.size rects q within (subst (λ l. Has l q) works.pixels_are has)
