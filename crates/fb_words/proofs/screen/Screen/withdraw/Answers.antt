use Rattle.std.proofs.Common.{rules, sym, ap, ◌∙◌}
use Rattle.fb_words.proofs.Serving.{withdraws_seat}
use Rattle.fb_words.proofs.screen.Screen.withdraw.Goals as goal

pub fetch_sub-requires : goal.fetch_sub-requires
fetch_sub-requires c = (
  ap (λ h. h.screen.table) c.head.view_is ∙ ap (λ s. s.table) (c.requires.screen ∙ sym c.self.view_is),
  search rules,
  withdraws_seat _ _ _ _ c.head.invariant.0 (ap (λ h. h.server.mode) c.head.view_is ∙ c.requires.closing),
)
