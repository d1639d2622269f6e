use Rattle.std.proofs.Common.{◌≡◌, ◌<◌, true, false, List, sym, ap, ◌∙◌, subst}
use Rattle.std.specs.Prelude.{All}
use Rattle.qws_base.specs.Sides.{Sides}
use Rattle.qws_base.specs.Points.{any_holds, point_of, pixel_count}
use Rattle.qws_base.specs.RectPixels.{IsWithin}
use Rattle.qws_base.specs.declared.points.Rect.{Rect}
use Rattle.fb_words.specs.Views.{ScreenView}
use Rattle.scene_turns.specs.declared.works.Work.TheVariants.{Fill}
use Rattle.scene_turns.specs.Works.{Works, CanWork}
use Rattle.scene_turns.specs.Sweeps.{rows_part}
use Rattle.scene_turns.proofs.Filling.{swept}
use Rattle.scene_turns.proofs.regions.fill.Goals as goal

pub work_rows-requires-clause-size : goal.work_rows-requires-clause-size
work_rows-requires-clause-size c = c.size-size.ensures ∙ ap (λ (s : ScreenView). s.setting.size) c.screen.ensures

pub work_rows-requires-clause-within : goal.work_rows-requires-clause-within
work_rows-requires-clause-within c =
    let size : c.size-size.result ≡ c.args.turn.now.screen.now.setting.size = c.size-size.ensures ∙ ap (λ (s : ScreenView). s.setting.size) c.screen.ensures in
    subst (λ (l : List Rect). All (IsWithin c.size-size.result) l) (sym c.rects.ensures.value) (subst (λ (s : Sides). All (IsWithin s) c.args.region.now) (sym size) c.requires.within)

pub work_rows-requires-clause-can : goal.work_rows-requires-clause-can
work_rows-requires-clause-can c = λ p within holds.
    let size : c.size-size.result ≡ c.args.turn.now.screen.now.setting.size = c.size-size.ensures ∙ ap (λ (s : ScreenView). s.setting.size) c.screen.ensures in
    let same : c.from.result ≡ c.args.colour = c.from.ensures ∙ c.value.ensures.value in
    let there : any_holds c.args.region.now (point_of c.args.turn.now.screen.now.setting.size.w p) ≡ true =
    subst (λ (s : Sides). any_holds c.args.region.now (point_of s.w p) ≡ true) size (subst (λ (l : List Rect). any_holds l (point_of c.size-size.result.w p) ≡ true) c.rects.ensures.value holds) in
    let can : CanWork c.args.turn.now.screen.now.setting (Fill c.args.colour) p = c.requires.can p (subst (λ (s : Sides). p < pixel_count s) size within) there in
    subst (λ n. CanWork c.args.turn.now.screen.now.setting (Fill n) p) (sym same) can

pub returns-clause-log : goal.returns-clause-log
returns-clause-log c =
    let v : ScreenView = c.args.turn.now.screen.now in
    let size : c.size-size.result ≡ v.setting.size = c.size-size.ensures ∙ ap (λ (s : ScreenView). s.setting.size) c.screen.ensures in
    let same : c.from.result ≡ c.args.colour = c.from.ensures ∙ c.value.ensures.value in
    let a = c.args.turn.now.head.now.server.log in
    let b = c.work_rows.new.turn.head.now.server.log in
    let first : Works (Fill c.from.result) (rows_part false c.size-size.result.w c.args.region.now c.size-size.result.h c.size-size.result.h) a b =
    subst (λ (l : List Rect). Works (Fill c.from.result) (rows_part false c.size-size.result.w l c.size-size.result.h c.size-size.result.h) a b) c.rects.ensures.value c.work_rows.ensures.log in
    let works : Works (Fill c.from.result) (rows_part false v.setting.size.w c.args.region.now v.setting.size.h v.setting.size.h) a b =
    subst (λ (s : Sides). Works (Fill c.from.result) (rows_part false s.w c.args.region.now s.h s.h) a b) size first in
    swept v.setting c.args.region.now (Fill c.args.colour) a b c.requires.within c.rects.ensures.canonical.sorted c.requires.can (subst (λ n. Works (Fill n) (rows_part false v.setting.size.w c.args.region.now v.setting.size.h v.setting.size.h) a b) same works)
