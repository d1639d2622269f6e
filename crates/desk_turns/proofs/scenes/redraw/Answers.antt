use Rattle.std.proofs.Common.{◌≡◌, ℕ, ◌<◌, true, sym, ◌∙◌, subst}
use Rattle.std.specs.Prelude.{All}
use Rattle.qws_base.specs.Colours.{IsSceneColour}
use Rattle.qws_base.specs.Points.{any_holds, point_of, pixel_count}
use Rattle.qws_base.specs.RectPixels.{IsWithin}
use Rattle.scene_turns.specs.Works.{CanWork}
use Rattle.fb_words.specs.Views.{ScreenView}
use Rattle.turn_logs.specs.Tables.{table_of}
use Rattle.turn_logs.specs.Phases.{lift_items, drop_items, IsTrueLog}
use Rattle.sw_cursor.specs.Lifts.{Lifts, Drops}
use Rattle.scene_turns.specs.declared.works.Work.TheVariants.{Fill, Carry}
use Rattle.scene_turns.specs.Sweeps.{AddsSweep}
use Rattle.desk_turns.proofs.Redrawing.{four_parts}
use Rattle.desk_turns.proofs.scenes.redraw.Goals as goal

pub carry-requires-clause-within : goal.carry-requires-clause-within
carry-requires-clause-within c = subst (λ (v : ScreenView). All (IsWithin v.setting.size) c.args.carried.now.region) (sym c.lift.ensures.same.1) c.requires.carried

pub carry-requires-clause-can : goal.carry-requires-clause-can
carry-requires-clause-can c =
    subst (λ (v : ScreenView). (p : ℕ) → p < pixel_count v.setting.size → any_holds c.args.carried.now.region (point_of v.setting.size.w p) ≡ true → CanWork v.setting (Carry c.args.carried.now.falling c.args.carried.now.by) p)
    (sym c.lift.ensures.same.1) c.requires.sources

pub fill-requires-clause-within : goal.fill-requires-clause-within
fill-requires-clause-within c = subst (λ (v : ScreenView). All (IsWithin v.setting.size) c.args.bared.now) (sym (c.carry.ensures.same.1 ∙ c.lift.ensures.same.1)) c.requires.bared

pub fill-requires-clause-can : goal.fill-requires-clause-can
fill-requires-clause-can c = λ p lt holds. (lt, subst (λ (v : ScreenView). IsSceneColour v.setting.depth c.args.backdrop) (sym (c.carry.ensures.same.1 ∙ c.lift.ensures.same.1)) c.requires.backdrop)

pub returns-clause-log : goal.returns-clause-log
returns-clause-log c =
    let s : ScreenView = c.args.turn.now.screen.now in
    let a = c.args.turn.now.head.now.server.log in
    let b = c.lift.new.turn.head.now.server.log in
    let d = c.carry.new.turn.head.now.server.log in
    let e = c.fill.new.turn.head.now.server.log in
    let f = c.drop_at.new.turn.head.now.server.log in
    let up : Lifts s.setting.size (table_of c.args.turn.now.head.now.server.present).cursor a b = c.lift.ensures.log in
    let carries : AddsSweep s.setting.size c.args.carried.now.region (Carry c.args.carried.now.falling c.args.carried.now.by) b d =
    subst (λ (v : ScreenView). AddsSweep v.setting.size c.args.carried.now.region (Carry c.args.carried.now.falling c.args.carried.now.by) b d) c.lift.ensures.same.1 c.carry.ensures.log in
    let fills : AddsSweep s.setting.size c.args.bared.now (Fill c.args.backdrop) d e =
    subst (λ (v : ScreenView). AddsSweep v.setting.size c.args.bared.now (Fill c.args.backdrop) d e) (c.carry.ensures.same.1 ∙ c.lift.ensures.same.1) c.fill.ensures.log in
    let down : Drops s.setting.depth s.setting.size c.args.cursor.now e f =
    subst (λ (v : ScreenView). Drops v.setting.depth v.setting.size c.args.cursor.now e f) (c.fill.ensures.same.1 ∙ c.carry.ensures.same.1 ∙ c.lift.ensures.same.1) c.drop_at.ensures.log in
    record {
      lifted = up.found;
      moved = carries.added;
      filled = fills.added;
      dropped = down.found;
      log = four_parts a b d e f (lift_items s.setting.size (table_of c.args.turn.now.head.now.server.present).cursor up.found) carries.added fills.added (drop_items s.setting.depth s.setting.size c.args.cursor.now down.found)
          up.log carries.log fills.log down.log;
      carries = carries.sweeps;
      fills = fills.sweeps;
    }

pub returns-clause-true_log : goal.returns-clause-true_log
returns-clause-true_log c = λ t. let done : IsTrueLog c.drop_at.new.turn.head.now.server.log = c.drop_at.ensures.true_log (c.fill.ensures.true_log (c.carry.ensures.true_log (c.lift.ensures.true_log t))) in done
