use Rattle.std.proofs.Common.{rules, sym, ap, ◌∙◌, subst, refl}
use Rattle.fb_words.specs.Views.{PassView, book_entry}
use Rattle.fb_words.proofs.Looking.{leaves, left_pass, Leaving}
use Rattle.fb_words.proofs.screen.Screen.leave_as.Goals as goal

pub fetch_sub-requires : goal.fetch_sub-requires
fetch_sub-requires g c = let P : PassView → Type 0 = λ h. Leaving h.client g.T.Turn.turn in (
  ap (λ h. h.screen.table) c.pass.view_is ∙ ap (λ s. s.table) (c.requires.screen ∙ sym c.self.view_is),
  search rules,
  leaves _ _ _ _ g.T.Turn.turn c.pass.invariant.0
      (subst P (sym c.pass.view_is) (subst (λ t. Leaving c.args.pass.now.client t) c.requires.turn (c.requires.entry.stamp, c.requires.entry.slot, refl, c.requires.carries))),
)

pub invariant_of-pass : goal.invariant_of-pass
invariant_of-pass g c = left_pass _ c.pass.inside.seat.me g.T.Turn.turn _ _ c.args.entry c.fetch_sub.ensures.2 (c.pass.invariant.1, c.pass.invariant.2) c.push.ensures (ap book_entry c.requires.turn)
