use Rattle.std.proofs.Common.{rules, sym, ap, ◌∙◌}
use Rattle.fb_words.proofs.Serving.{announces_seat}
use Rattle.fb_words.proofs.screen.Screen.announce.Goals as goal

pub fetch_or-found-requires : goal.fetch_or-found-requires
fetch_or-found-requires c = (
  ap (λ h. h.screen.table) c.head.view_is ∙ ap (λ s. s.table) (c.requires.screen ∙ sym c.self.view_is),
  search rules,
  announces_seat _ _ _ _ c.head.invariant.0 (ap (λ h. h.server.mode) c.head.view_is ∙ c.requires.resting),
)
