use Rattle.std.proofs.Common.{rules, sym, ap, ◌∙◌}
use Rattle.fb_words.proofs.Gate.{enters}
use Rattle.fb_words.proofs.screen.Screen.enter.Goals as goal

pub fetch_add-requires : goal.fetch_add-requires
fetch_add-requires c = (
  ap (λ h. h.screen.table) c.pass.view_is ∙ ap (λ s. s.table) (c.requires.screen ∙ sym c.self.view_is),
  search rules,
  enters _ _ _ _ c.pass.invariant.0 (ap (λ h. h.client.mode) c.pass.view_is ∙ c.requires.idle),
)
