use Rattle.std.proofs.Common.{◌≡◌, ℕ, ◌+◌, ◌*◌, [], ◌∷◌, ◌++◌, append-nil, append_assoc, Some, None, sym, ap, ◌∙◌, subst, arith}
use Rattle.region_table.specs.Numbers.{pixel_word, saved_word}
use Rattle.turn_logs.specs.declared.items.Item.TheVariants.{Pick, Put}
use Rattle.turn_logs.specs.Phases.{pixel_under, IsTrueLog}
use Rattle.fb_words.specs.Views.{HeadView}
use Rattle.fb_words.specs.Steps.{after_read, after_write}
use Rattle.sw_cursor.specs.Covers.{bare_cursor}
use Rattle.sw_cursor.specs.Lifts.{lift_one}
use Rattle.sw_cursor.proofs.Lifted.{one_cell, read_log, write_log, saved_line, pixel_line, lift_some, lift_none}
use Rattle.sw_cursor.proofs.lifts.lift_cell.Goals as goal

pub returns-in-Some-clause-log : goal.returns-in-Some-clause-log
returns-in-Some-clause-log c =
    let few_w = c.requires.few.0 in
    let few_h = c.requires.few.1 in
    let column = c.requires.column in
    let row = c.requires.row in
    let h : HeadView = c.args.turn.now.head.now in
    let k : HeadView = c.read-colour.new.self.head.now in
    let m : HeadView = c.write.new.self.head.now in
    let x : ℕ = saved_word c.args.column c.args.row in
    let y : ℕ = pixel_word c.in-Some.p in
    let n : ℕ = c.read-colour.result in
    let on_it : pixel_under c.args.size (bare_cursor c.args.cover.now) c.args.column c.args.row ≡ Some c.in-Some.p = sym c.in-Some.ensures.value in
    let a : k.server.log ≡ h.server.log ++ Pick x n ∷ [] = read_log h k x n (saved_line c.args.column c.args.row (omega arith) (omega arith)) (c.read-colour.ensures.head ∙ ap (λ w. record h { server = after_read h.server w n }) c.saved_at.ensures) in
    let b : m.server.log ≡ k.server.log ++ Put y n ∷ [] = write_log k m y n (pixel_line c.in-Some.p) (c.write.ensures.head ∙ ap (λ w. record k { server = after_write k.server w n }) c.pixel_at.ensures) in
    one_cell (lift_one c.args.size (bare_cursor c.args.cover.now)) (c.args.row * c.args.cover.now.w + c.args.column) n h.server.log m.server.log
    (b ∙ ap (λ l. l ++ Put y n ∷ []) a ∙ append_assoc h.server.log (Pick x n ∷ []) (Put y n ∷ []) ∙ ap (λ l. h.server.log ++ l) (sym (lift_some c.args.size (bare_cursor c.args.cover.now) c.args.column c.args.row c.in-Some.p n column on_it)))

pub returns-in-Some-clause-true_log : goal.returns-in-Some-clause-true_log
returns-in-Some-clause-true_log c = λ t.
    let h : HeadView = c.args.turn.now.head.now in
    let k : HeadView = c.read-colour.new.self.head.now in
    let m : HeadView = c.write.new.self.head.now in
    let saved = c.saved_at.ensures in
    let read : IsTrueLog k.server.log = subst (λ (a : HeadView). IsTrueLog a.server.log) (sym c.read-colour.ensures.head) (c.logs_stay_true.ensures.reads h.server h.sitting c.saved_at.result c.read-colour.result (omega arith) c.read-colour.ensures.tells t) in
    let done : IsTrueLog m.server.log = subst (λ (a : HeadView). IsTrueLog a.server.log) (sym c.write.ensures.head) (c.logs_stay_true.ensures.writes k.server c.pixel_at.result c.read-colour.result read) in
    done

pub returns-in_default-clause-log : goal.returns-in_default-clause-log
returns-in_default-clause-log c =
    let h : HeadView = c.args.turn.now.head.now in
    let off : pixel_under c.args.size (bare_cursor c.args.cover.now) c.args.column c.args.row ≡ None = sym c.pixel_under.ensures.value ∙ c.in_default.is in
    one_cell (lift_one c.args.size (bare_cursor c.args.cover.now)) (c.args.row * c.args.cover.now.w + c.args.column) 0 h.server.log h.server.log
    (sym (ap (λ l. h.server.log ++ l) (lift_none c.args.size (bare_cursor c.args.cover.now) c.args.column c.args.row 0 c.requires.column off) ∙ append-nil h.server.log))
