use Rattle.std.proofs.Common.{◌≡◌, ℕ, ◌+◌, ◌*◌, [], ◌∷◌, ◌++◌, append-nil, Some, None, sym, ap, ◌∙◌, subst, arith}
use Rattle.qws_base.specs.Inks.{ink_after}
use Rattle.qws_base.specs.Shown.{cell_at, cell_ink}
use Rattle.qws_base.specs.declared.colours.Depth.{Depth}
use Rattle.region_table.specs.Numbers.{pixel_word, saved_word}
use Rattle.turn_logs.specs.declared.items.Item.TheVariants.{Pick, Put}
use Rattle.turn_logs.specs.Phases.{pixel_under, IsTrueLog}
use Rattle.fb_words.specs.Views.{HeadView, ScreenView}
use Rattle.fb_words.specs.Steps.{after_read, after_write}
use Rattle.sw_cursor.specs.Lifts.{drop_one}
use Rattle.sw_cursor.proofs.Lifted.{few_of_shape, one_cell, read_log, write_log, saved_line, pixel_line, drop_some, drop_none}
use Rattle.sw_cursor.proofs.Logs.{three_logs}
use Rattle.sw_cursor.proofs.drops.drop_cell.Goals as goal

pub returns-in-Some-clause-log : goal.returns-in-Some-clause-log
returns-in-Some-clause-log c =
    let few = few_of_shape c.args.cursor.now c.requires.shape in
    let few_w = few.0 in
    let few_h = few.1 in
    let column = c.requires.column in
    let row = c.requires.row in
    let h : HeadView = c.args.turn.now.head.now in
    let k : HeadView = c.read.new.self.head.now in
    let m : HeadView = c.write.new.self.head.now in
    let o : HeadView = c.write-in-Some.new.self.head.now in
    let x : ℕ = saved_word c.args.column c.args.row in
    let y : ℕ = pixel_word c.in-Some.p in
    let n : ℕ = c.read.result in
    let d : Depth = c.args.turn.now.screen.now.setting.depth in
    let ink = cell_ink (cell_at c.args.cursor.now (c.args.column, c.args.row)) in
    let on_it : pixel_under c.args.size c.args.cursor.now c.args.column c.args.row ≡ Some c.in-Some.p = sym c.in-Some.ensures.value in
    let first : c.from.result ≡ n = c.from.ensures ∙ c.value.ensures.value ∙ c.scene_colour-colour.ensures in
    let depth : c.depth-depth.result ≡ d = c.depth-depth.ensures ∙ ap (λ (s : ScreenView). s.setting.depth) c.screen.ensures in
    let cell : c.of_cell-cell.result ≡ ink = c.of_cell-cell.ensures ∙ ap cell_ink c.cell.ensures in
    let top : c.from-in-Some.result ≡ ink_after d ink n = c.from-in-Some.ensures ∙ c.value-in-Some.ensures.value ∙ c.after_at.ensures.value
    ∙ ap (λ e. ink_after e c.of_cell-cell.result c.scene_colour-colour.result) depth ∙ ap (λ i. ink_after d i c.scene_colour-colour.result) cell ∙ ap (ink_after d ink) c.scene_colour-colour.ensures in
    let a : k.server.log ≡ h.server.log ++ Pick y n ∷ [] = read_log h k y n (pixel_line c.in-Some.p) (c.read.ensures.head ∙ ap (λ w. record h { server = after_read h.server w n }) c.pixel_at-word.ensures) in
    let b : m.server.log ≡ k.server.log ++ Put x n ∷ [] = write_log k m x n (saved_line c.args.column c.args.row (omega arith) (omega arith))
    (c.write.ensures.head ∙ ap (λ w. record k { server = after_write k.server w c.from.result }) c.saved_at.ensures ∙ ap (λ v. record k { server = after_write k.server x v }) first) in
    let e : o.server.log ≡ m.server.log ++ Put y (ink_after d ink n) ∷ [] = write_log m o y (ink_after d ink n) (pixel_line c.in-Some.p)
    (c.write-in-Some.ensures.head ∙ ap (λ w. record m { server = after_write m.server w c.from-in-Some.result }) c.pixel_at-word.ensures ∙ ap (λ v. record m { server = after_write m.server y v }) top) in
    one_cell (drop_one d c.args.size c.args.cursor.now) (c.args.row * c.args.cursor.now.w + c.args.column) n h.server.log o.server.log
    (three_logs h.server.log k.server.log m.server.log o.server.log (Pick y n) (Put x n) (Put y (ink_after d ink n)) a b e
    ∙ ap (λ l. h.server.log ++ l) (sym (drop_some d c.args.size c.args.cursor.now c.args.column c.args.row c.in-Some.p n column on_it)))

pub returns-in-Some-clause-true_log : goal.returns-in-Some-clause-true_log
returns-in-Some-clause-true_log c = λ t.
    let h : HeadView = c.args.turn.now.head.now in
    let k : HeadView = c.read.new.self.head.now in
    let m : HeadView = c.write.new.self.head.now in
    let o : HeadView = c.write-in-Some.new.self.head.now in
    let word = c.pixel_at-word.ensures in
    let read : IsTrueLog k.server.log = subst (λ (a : HeadView). IsTrueLog a.server.log) (sym c.read.ensures.head) (c.logs_stay_true.ensures.reads h.server h.sitting c.pixel_at-word.result c.read.result (omega arith) c.read.ensures.tells t) in
    let saved : IsTrueLog m.server.log = subst (λ (a : HeadView). IsTrueLog a.server.log) (sym c.write.ensures.head) (c.logs_stay_true.ensures.writes k.server c.saved_at.result c.from.result read) in
    let done : IsTrueLog o.server.log = subst (λ (a : HeadView). IsTrueLog a.server.log) (sym c.write-in-Some.ensures.head) (c.logs_stay_true.ensures.writes m.server c.pixel_at-word.result c.from-in-Some.result saved) in
    done

pub returns-in_default-clause-log : goal.returns-in_default-clause-log
returns-in_default-clause-log c =
    let h : HeadView = c.args.turn.now.head.now in
    let d : Depth = c.args.turn.now.screen.now.setting.depth in
    let off : pixel_under c.args.size c.args.cursor.now c.args.column c.args.row ≡ None = sym c.pixel_under.ensures.value ∙ c.in_default.is in
    one_cell (drop_one d c.args.size c.args.cursor.now) (c.args.row * c.args.cursor.now.w + c.args.column) 0 h.server.log h.server.log
    (sym (ap (λ l. h.server.log ++ l) (drop_none d c.args.size c.args.cursor.now c.args.column c.args.row 0 c.requires.column off) ∙ append-nil h.server.log))
