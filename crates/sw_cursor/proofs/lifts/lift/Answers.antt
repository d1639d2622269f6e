use Rattle.std.proofs.Common.{◌≡◌, ℕ, ◌*◌, sym, ap, ◌∙◌, subst}
use Rattle.std.specs.Prelude.{slice_index}
use Rattle.qws_base.specs.Sides.{Sides}
use Rattle.region_table.specs.Tables.{cursor_from}
use Rattle.turn_logs.specs.Phases.{IsTrueLog}
use Rattle.fb_words.specs.Views.{HeadView, ScreenView}
use Rattle.sw_cursor.specs.Covers.{bare_cursor}
use Rattle.sw_cursor.specs.Lifts.{Lifts, AddsCells, lift_one}
use Rattle.sw_cursor.proofs.Lifted.{all_lifted, none_lifted, lifted_at}
use Rattle.sw_cursor.proofs.lifts.lift.Goals as goal

pub returns-then-cover-clause-log : goal.returns-then-cover-clause-log
returns-then-cover-clause-log c =
    let s : ScreenView = c.args.turn.now.screen.now in
    let words : ℕ → ℕ = slice_index c.args.turn.now.head.now.server.present in
    let size : c.size-size.result ≡ s.setting.size = c.size-size.ensures ∙ ap (λ (s : ScreenView). s.setting.size) c.screen.ensures in
    let all : Lifts s.setting.size (bare_cursor c.read-cover.result) c.read-cover.new.turn.head.now.server.log c.lift_cells.new.turn.head.now.server.log =
    all_lifted s.setting.size (bare_cursor c.read-cover.result) _ _ c.if-cover.true
    (subst (λ (z : Sides). AddsCells (lift_one z (bare_cursor c.read-cover.result)) 0 (c.read-cover.result.w * c.read-cover.result.h) c.read-cover.new.turn.head.now.server.log c.lift_cells.new.turn.head.now.server.log) size c.lift_cells.ensures.log) in
    subst (λ (h : HeadView). Lifts s.setting.size (cursor_from words) h.server.log c.lift_cells.new.turn.head.now.server.log) c.read-cover.ensures.head
    (lifted_at s.setting.size (bare_cursor c.read-cover.result) words _ _ c.read-cover.ensures.cover all)

pub returns-then-cover-clause-true_log : goal.returns-then-cover-clause-true_log
returns-then-cover-clause-true_log c = λ t. let done : IsTrueLog c.lift_cells.new.turn.head.now.server.log = c.lift_cells.ensures.true_log (subst (λ (h : HeadView). IsTrueLog h.server.log) (sym c.read-cover.ensures.head) t) in done

pub returns-else-cover-clause-log : goal.returns-else-cover-clause-log
returns-else-cover-clause-log c =
    let s : ScreenView = c.args.turn.now.screen.now in
    let words : ℕ → ℕ = slice_index c.args.turn.now.head.now.server.present in
    subst (λ (h : HeadView). Lifts s.setting.size (cursor_from words) c.args.turn.now.head.now.server.log h.server.log) (sym c.read-cover.ensures.head)
    (lifted_at s.setting.size (bare_cursor c.read-cover.result) words _ _ c.read-cover.ensures.cover (none_lifted s.setting.size (bare_cursor c.read-cover.result) c.args.turn.now.head.now.server.log c.if-cover.false))

pub returns-else-cover-clause-true_log : goal.returns-else-cover-clause-true_log
returns-else-cover-clause-true_log c = λ t. let done : IsTrueLog c.read-cover.new.turn.head.now.server.log = subst (λ (h : HeadView). IsTrueLog h.server.log) (sym c.read-cover.ensures.head) t in done
