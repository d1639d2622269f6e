use Rattle.std.proofs.Common.{ap, sym, ◌∙◌}
use Rattle.qws_base.specs.Points.{minus, shifted}
use Rattle.qws_base.specs.Windows.{origin_of}
use Rattle.step_regions.specs.Carried.{slot_carried}
use Rattle.step_turns.proofs.Meeting.{clear_so, covered_so, judged}
use Rattle.step_turns.proofs.covers.is_covered.Goals as goal

pub returns-clause-clear : goal.returns-clause-clear
returns-clause-clear c = λ off.
    let core = c.args.core.now in
    let plan = c.args.plan.now in
    let same = judged core.state.cursor c.cursor.result.now c.args.carried.now.region c.args.bared.now c.rects.result.now c.rects-2.result.now c.rects-3.result.now c.place_of-place.result c.moved_place-source.result
    c.is_any_meeting-on_carried.result c.is_any_meeting-on_bared.result c.is_any_meeting-on_source.result c.cursor.ensures c.place_of-place.ensures.place c.rects.ensures.value c.rects-2.ensures.value c.rects-3.ensures.value
    c.is_any_meeting-on_carried.ensures c.is_any_meeting-on_bared.ensures c.is_any_meeting-on_source.ensures in
    clear_so core.size core.state.windows plan.windows (slot_carried plan) core.state.cursor c.args.carried.now c.args.bared.now c.moved_place-source.result c.requires.carried
    (λ slot moves. c.moved_place-source.ensures slot moves ∙ ap (shifted (minus (origin_of plan.windows slot) (origin_of core.state.windows slot))) c.place_of-place.ensures.place)
    (sym same ∙ sym c.covers_any.ensures ∙ off)

pub returns-clause-covered : goal.returns-clause-covered
returns-clause-covered c = λ on.
    let core = c.args.core.now in
    let plan = c.args.plan.now in
    let same = judged core.state.cursor c.cursor.result.now c.args.carried.now.region c.args.bared.now c.rects.result.now c.rects-2.result.now c.rects-3.result.now c.place_of-place.result c.moved_place-source.result
    c.is_any_meeting-on_carried.result c.is_any_meeting-on_bared.result c.is_any_meeting-on_source.result c.cursor.ensures c.place_of-place.ensures.place c.rects.ensures.value c.rects-2.ensures.value c.rects-3.ensures.value
    c.is_any_meeting-on_carried.ensures c.is_any_meeting-on_bared.ensures c.is_any_meeting-on_source.ensures in
    covered_so core.size core.state.windows plan.windows (slot_carried plan) core.state.cursor c.args.carried.now c.args.bared.now c.moved_place-source.result c.requires.carried c.requires.bared
    (λ slot moves. c.moved_place-source.ensures slot moves ∙ ap (shifted (minus (origin_of plan.windows slot) (origin_of core.state.windows slot))) c.place_of-place.ensures.place)
    (sym same ∙ sym c.covers_any.ensures ∙ on)
