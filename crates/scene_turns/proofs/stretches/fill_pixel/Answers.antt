use Rattle.std.proofs.Common.{sym, ap, ◌∙◌, subst}
use Rattle.region_table.specs.Numbers.{pixel_word}
use Rattle.turn_logs.specs.Phases.{IsTrueLog}
use Rattle.fb_words.specs.Views.{HeadView}
use Rattle.fb_words.specs.Steps.{after_write}
use Rattle.sw_cursor.proofs.Lifted.{write_log, pixel_line}
use Rattle.scene_turns.specs.declared.works.Work.TheVariants.{Fill}
use Rattle.scene_turns.proofs.Working.{one_done}
use Rattle.scene_turns.proofs.stretches.fill_pixel.Goals as goal

pub returns-clause-log : goal.returns-clause-log
returns-clause-log c =
    let h : HeadView = c.args.turn.now.head.now in
    let k : HeadView = c.write.new.self.head.now in
    one_done (Fill c.args.colour) c.args.p 0 h.server.log k.server.log
    (write_log h k (pixel_word c.args.p) c.args.colour (pixel_line c.args.p) (c.write.ensures.head ∙ ap (λ w. record h { server = after_write h.server w c.args.colour }) c.pixel_at.ensures))

pub returns-clause-true_log : goal.returns-clause-true_log
returns-clause-true_log c = λ t.
    let h : HeadView = c.args.turn.now.head.now in
    let k : HeadView = c.write.new.self.head.now in
    let done : IsTrueLog k.server.log = subst (λ (a : HeadView). IsTrueLog a.server.log) (sym c.write.ensures.head) (c.logs_stay_true.ensures.writes h.server c.pixel_at.result c.args.colour t) in
    done
