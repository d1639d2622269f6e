use Rattle.std.proofs.Common.{◌≡◌, ◌*◌, ap, ◌∙◌, subst}
use Rattle.qws_base.specs.Sides.{Sides}
use Rattle.fb_words.specs.Views.{ScreenView}
use Rattle.sw_cursor.specs.Lifts.{AddsCells, drop_one}
use Rattle.sw_cursor.proofs.Lifted.{all_dropped, none_dropped}
use Rattle.sw_cursor.proofs.drops.drop_at.Goals as goal

pub returns-then-cursor-clause-log : goal.returns-then-cursor-clause-log
returns-then-cursor-clause-log c =
    let s : ScreenView = c.args.turn.now.screen.now in
    let size : c.size-size.result ≡ s.setting.size = c.size-size.ensures ∙ ap (λ (s : ScreenView). s.setting.size) c.screen.ensures in
    all_dropped s.setting.depth s.setting.size c.args.cursor.now _ _ c.if-cursor.true
    (subst (λ (z : Sides). AddsCells (drop_one s.setting.depth z c.args.cursor.now) 0 (c.args.cursor.now.w * c.args.cursor.now.h) c.args.turn.now.head.now.server.log c.drop_cells.new.turn.head.now.server.log) size c.drop_cells.ensures.log)

pub returns-else-cursor-clause-log : goal.returns-else-cursor-clause-log
returns-else-cursor-clause-log c = none_dropped c.args.turn.now.screen.now.setting.depth c.args.turn.now.screen.now.setting.size c.args.cursor.now c.args.turn.now.head.now.server.log c.if-cursor.false
