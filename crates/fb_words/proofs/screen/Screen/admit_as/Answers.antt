use Rattle.std.proofs.Common.{rules, ◌<◌, length, sym, ap, ◌∙◌, subst}
use Rattle.fb_words.specs.Views.{HeadView}
use Rattle.fb_words.proofs.Sitting.{admits_seat}
use Rattle.fb_words.proofs.screen.Screen.admit_as.Goals as goal

pub split_seat-seat-requires : goal.split_seat-seat-requires
split_seat-seat-requires g c = let P : HeadView → Type 0 = λ h. length h.server.limits < 16 in (
  ap (λ h. h.screen.table) c.head.view_is ∙ ap (λ s. s.table) (c.requires.screen ∙ sym c.self.view_is),
  search rules,
  admits_seat _ _ _ _ (ap (λ m. m.0) c.head.invariant.0) (subst P (sym c.head.view_is) c.requires.room),
)
