use Rattle.std.proofs.Common.{rules, sym, ap, ◌∙◌}
use Rattle.fb_words.proofs.Gate.{retreats}
use Rattle.fb_words.proofs.screen.Screen.retreat.Goals as goal

pub fetch_sub-requires : goal.fetch_sub-requires
fetch_sub-requires c = (
  ap (λ h. h.screen.table) c.pass.view_is ∙ ap (λ s. s.table) (c.requires.screen ∙ sym c.self.view_is),
  search rules,
  retreats _ _ _ _ c.pass.invariant.0 (ap (λ h. h.client.mode) c.pass.view_is ∙ c.requires.refused),
)
