use Rattle.std.proofs.Common.{◌≡◌, ℕ, true, false, [], ◌∷◌, ◌++◌, append_assoc, sym, ap, ◌∙◌, subst, arith}
use Rattle.std.proofs.lemmas.Nat.{mul-le}
use Rattle.qws_base.specs.Sides.{IsScreen}
use Rattle.region_table.specs.Numbers.{pixel_word}
use Rattle.turn_logs.specs.declared.items.Item.TheVariants.{Pick, Put}
use Rattle.turn_logs.specs.Phases.{IsTrueLog}
use Rattle.fb_words.specs.Views.{HeadView, ScreenView}
use Rattle.fb_words.specs.Steps.{after_read, after_write}
use Rattle.sw_cursor.proofs.Lifted.{read_log, write_log, pixel_line}
use Rattle.scene_turns.specs.declared.works.Work.TheVariants.{Carry}
use Rattle.step_regions.specs.Carried.{source, HasSource}
use Rattle.scene_turns.proofs.Working.{one_done}
use Rattle.scene_turns.proofs.stretches.carry_pixel.Goals as goal
use Rattle.scene_turns.proofs.stretches.carry_pixel.Goals.{then-falling, else-falling}

pub overflow_sub-from : goal.overflow_sub-from
overflow_sub-from c = let can = c.requires.can.1 in let falls : HasSource c.args.turn.now.screen.now.setting true c.args.by c.args.p = subst (λ b. HasSource c.args.turn.now.screen.now.setting b c.args.by c.args.p) c.if-falling.true can in omega arith

pub overflow_add-from : goal.overflow_add-from
overflow_add-from c =
    let v : ScreenView = c.args.turn.now.screen.now in
    let size : c.size.result ≡ v.setting.size = c.size.ensures ∙ ap (λ (s : ScreenView). s.setting.size) c.screen.ensures in
    let is : IsScreen v.setting.size = subst IsScreen size c.w-width.ensures.is_screen in
    let ahead : HasSource v.setting false c.args.by c.args.p = subst (λ b. HasSource v.setting b c.args.by c.args.p) c.if-falling.false c.requires.can.1 in
    let most = mul-le v.setting.size.w v.setting.size.h 640 480 is.most_w is.most_h in
    omega arith

pub returns-clause-log : goal.returns-clause-log
returns-clause-log c =
    let h : HeadView = c.args.turn.now.head.now in
    let k : HeadView = c.read-brought.new.self.head.now in
    let m : HeadView = c.write.new.self.head.now in
    let s : ℕ = source c.args.falling c.args.by c.args.p in
    let n : ℕ = c.read-brought.result in
    let from : c.if-falling.from ≡ s = elim c.if-falling.branch [ then-falling w ↦ w.from-is ∙ ap (λ b. source b c.args.by c.args.p) (sym w.if-falling.true) | else-falling w ↦ w.from-is ∙ ap (λ b. source b c.args.by c.args.p) (sym w.if-falling.false) ] in
    let a = read_log h k (pixel_word s) n (pixel_line s) (c.read-brought.ensures.head ∙ ap (λ w. record h { server = after_read h.server w n }) (c.pixel_at.ensures ∙ ap pixel_word from)) in
    let b = write_log k m (pixel_word c.args.p) n (pixel_line c.args.p) (c.write.ensures.head ∙ ap (λ w. record k { server = after_write k.server w n }) c.pixel_at-2.ensures) in
    one_done (Carry c.args.falling c.args.by) c.args.p n h.server.log m.server.log
    (b ∙ ap (λ l. l ++ Put (pixel_word c.args.p) n ∷ []) a ∙ append_assoc h.server.log (Pick (pixel_word s) n ∷ []) (Put (pixel_word c.args.p) n ∷ []))

pub returns-clause-true_log : goal.returns-clause-true_log
returns-clause-true_log c = λ t.
    let h : HeadView = c.args.turn.now.head.now in
    let k : HeadView = c.read-brought.new.self.head.now in
    let m : HeadView = c.write.new.self.head.now in
    let word = c.pixel_at.ensures in
    let read : IsTrueLog k.server.log = subst (λ (a : HeadView). IsTrueLog a.server.log) (sym c.read-brought.ensures.head) (c.logs_stay_true.ensures.reads h.server h.sitting c.pixel_at.result c.read-brought.result (omega arith) c.read-brought.ensures.tells t) in
    let done : IsTrueLog m.server.log = subst (λ (a : HeadView). IsTrueLog a.server.log) (sym c.write.ensures.head) (c.logs_stay_true.ensures.writes k.server c.pixel_at-2.result c.read-brought.result read) in
    done
