use Rattle.std.proofs.Common.{◌≡◌, ◌≤◌, List, length, sym, ap, ◌∙◌, subst}
use Rattle.std.specs.Prelude.{All}
use Rattle.qws_base.specs.Points.{IsPlaced}
use Rattle.qws_base.specs.Scenes.{Setting}
use Rattle.qws_base.specs.Sides.{Sides}
use Rattle.qws_base.specs.declared.points.Rect.{Rect}
use Rattle.turn_logs.specs.Tables.{IsOnScreen}
use Rattle.fb_words.specs.Views.{ScreenView}
use Rattle.fb_words.proofs.Going.{looks_done, both_done}
use Rattle.display_lock.specs.Turns.{client_in}
use Rattle.shared_painter.proofs.Ending.{rects_owned}
use Rattle.shared_painter.proofs.painters.paint_clip.Goals as goal

pub paint_rects-requires-clause-origin : goal.paint_rects-requires-clause-origin
paint_rects-requires-clause-origin g c = subst IsPlaced (sym c.origin.ensures) (c.requires.fresh.published c.requires.present).placed

pub paint_rects-requires-clause-few : goal.paint_rects-requires-clause-few
paint_rects-requires-clause-few g c = subst (λ (l : List Rect). length l ≤ 256) (sym c.rects.ensures) (c.requires.fresh.published c.requires.present).few

pub paint_rects-requires-clause-on_screen : goal.paint_rects-requires-clause-on_screen
paint_rects-requires-clause-on_screen g c =
    let size : c.size-size.result ≡ (client_in c.args.turn.now).setting.size = c.size-size.ensures ∙ ap (λ (s : ScreenView). s.setting.size) c.screen.ensures ∙ sym (ap (λ (s : Setting). s.size) c.requires.open.3) in
    subst (λ (l : List Rect). All (IsOnScreen c.size-size.result) l) (sym c.rects.ensures)
    (subst (λ (s : Sides). All (IsOnScreen s) c.args.clip.now.rects) (sym size) (c.requires.fresh.published c.requires.present).inside)

pub paint_rects-requires-clause-owns : goal.paint_rects-requires-clause-owns
paint_rects-requires-clause-owns g c = rects_owned (client_in c.args.turn.now) (client_in c.look-cover.new.turn) c.args.clip.now c.rects.result.now c.look-cover.ensures.looks (c.requires.fresh.owns c.requires.slot) c.rects.ensures

pub returns-clause-goes : goal.returns-clause-goes
returns-clause-goes g c = both_done 2 1028 (client_in c.args.turn.now) (client_in c.look-cover.new.turn) (client_in c.paint_rects.new.turn)
    (looks_done 2 1028 (client_in c.args.turn.now) (client_in c.look-cover.new.turn) c.look-cover.ensures.looks) c.paint_rects.ensures.goes
