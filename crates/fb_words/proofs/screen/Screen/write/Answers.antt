use Rattle.std.proofs.Common.{◌+◌, ◌<◌, sym, ap, ◌∙◌, subst, arith}
use Rattle.qws_base.specs.Points.{pixel_count}
use Rattle.qws_base.specs.Colours.{IsSceneColour}
use Rattle.region_table.specs.Numbers.{IsLineWord}
use Rattle.fb_words.specs.Views.{HeadView, ScreenView}
use Rattle.fb_words.proofs.Serving.{writes_seat}
use Rattle.fb_words.proofs.screen.Screen.write.Goals as goal

pub store-requires : goal.store-requires
store-requires c = let Q : ScreenView → Type 0 = λ s. c.args.word < 10632 + pixel_count s.setting.size in
    let within = subst Q (sym c.self.view_is) c.requires.word.1 in
    let P : HeadView → Type 0 = λ h. IsLineWord c.args.word → IsSceneColour h.server.setting.depth c.args.value in (
      ap (λ h. h.screen.table) c.head.view_is ∙ ap (λ s. s.table) (c.requires.screen ∙ sym c.self.view_is),
      (let w = c.self.invariant.1 in omega arith),
      writes_seat _ _ _ _ _ _ c.head.invariant.0 (ap (λ h. h.server.mode) c.head.view_is ∙ c.requires.writing) c.requires.word.0 (subst P (sym c.head.view_is) c.requires.colour),
    )
