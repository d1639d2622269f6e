use Rattle.std.proofs.Common.{sym, subst}
use Rattle.std.specs.Prelude.{All}
use Rattle.qws_base.specs.Colours.{IsSceneColour}
use Rattle.qws_base.specs.RectPixels.{IsWithin}
use Rattle.scene_turns.specs.declared.works.Work.TheVariants.{Fill}
use Rattle.scene_turns.specs.Sweeps.{AddsSweep}
use Rattle.fb_words.specs.Views.{ScreenView}
use Rattle.step_turns.proofs.publishing.sweep.Goals as goal

pub fill-requires-clause-within : goal.fill-requires-clause-within
fill-requires-clause-within c = subst (λ (v : ScreenView). All (IsWithin v.setting.size) c.args.bared.now) (sym c.carry.ensures.same.1) c.requires.bared

pub fill-requires-clause-can : goal.fill-requires-clause-can
fill-requires-clause-can c = λ p lt holds. (lt, subst (λ (v : ScreenView). IsSceneColour v.setting.depth c.args.backdrop) (sym c.carry.ensures.same.1) c.requires.backdrop)

pub returns-clause-log : goal.returns-clause-log
returns-clause-log c =
    record {
      middle = c.carry.new.turn.head.now.server.log;
      carries = c.carry.ensures.log;
      fills = subst (λ (v : ScreenView). AddsSweep v.setting.size c.args.bared.now (Fill c.args.backdrop) c.carry.new.turn.head.now.server.log c.fill.new.turn.head.now.server.log) c.carry.ensures.same.1 c.fill.ensures.log;
    }
