use Rattle.std.proofs.Common.{◌+◌, ◌<◌, sym, ap, ◌∙◌, subst, arith}
use Rattle.qws_base.specs.Points.{pixel_count}
use Rattle.fb_words.specs.Views.{ScreenView}
use Rattle.fb_words.proofs.Serving.{reads_seat}
use Rattle.fb_words.proofs.screen.Screen.read.Goals as goal

pub load-requires : goal.load-requires
load-requires c = let Q : ScreenView → Type 0 = λ s. c.args.word < 10632 + pixel_count s.setting.size in
    let within = subst Q (sym c.self.view_is) c.requires.word.1 in
    let here = subst (λ k. c.args.word < 10632 + pixel_count k.size) c.self.invariant.0 within in (
      ap (λ h. h.screen.table) c.head.view_is ∙ ap (λ s. s.table) (c.requires.screen ∙ sym c.self.view_is),
      (let w = c.self.invariant.1 in omega arith),
      reads_seat _ _ _ _ _ c.head.invariant.0 (ap (λ h. h.server.mode) c.head.view_is ∙ c.requires.writing) c.requires.word.0 here,
    )
