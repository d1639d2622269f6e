use Rattle.std.proofs.Common.{◌+◌, ◌<◌, sym, ap, ◌∙◌, subst, arith}
use Rattle.qws_base.specs.Points.{pixel_count}
use Rattle.qws_base.specs.Colours.{IsSceneColour}
use Rattle.fb_words.specs.Views.{PassView}
use Rattle.fb_words.specs.Rights.{Owns}
use Rattle.fb_words.proofs.Adding.{puts, owns_within}
use Rattle.fb_words.proofs.screen.Screen.put.Goals as goal

pub store-requires : goal.store-requires
store-requires c = let P : PassView → Type 0 = λ h. Owns h.client c.args.word in
    let Q : PassView → Type 0 = λ h. IsSceneColour h.client.setting.depth c.args.value in let within = owns_within _ _ (subst P (sym c.pass.view_is) c.requires.owns) in
    let same = ap (λ h. h.screen.setting) c.pass.view_is ∙ ap (λ s. s.setting) (c.requires.screen ∙ sym c.self.view_is) in
    let here = subst (λ s. c.args.word < 10632 + pixel_count s.size) same within in (
      ap (λ h. h.screen.table) c.pass.view_is ∙ ap (λ s. s.table) (c.requires.screen ∙ sym c.self.view_is),
      (let w = c.self.invariant.1 in omega arith),
      puts _ _ _ _ _ _ c.pass.invariant.0 (subst P (sym c.pass.view_is) c.requires.owns) (subst Q (sym c.pass.view_is) c.requires.colour),
    )
