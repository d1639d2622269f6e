use Rattle.std.proofs.Common.{◌≡◌, set, ap, sym, ◌∙◌, subst, arith}
use Rattle.qws_base.specs.Stacking.{windows_without}
use Rattle.qws_rows_core.proofs.Changes.{replaced}
use Rattle.qws_rows_core.proofs.arrangements.Arrangement.with_change.Goals as goal

pub reallocate-requires-clause-outside : goal.reallocate-requires-clause-outside
reallocate-requires-clause-outside c =
    c.others_keep_their_pixels.ensures.regions c.self.inside.screen c.args.slot c.in_ok-changed.changed c.self.inside.stack c.self.inside.requests.items c.args.stack c.deref-2.result.now c.self.inside.regions
    (replaced c.self.inside.screen c.args.slot c.in_ok-changed.changed c.args.request c.index.result.now c.self.inside.stack c.args.stack c.self.inside.requests.items c.deref-2.result.now
    (omega (arith, c.requires.slot, c.self.invariant.0))
    (c.requires.others ∙ ap (windows_without c.args.slot) (sym c.self.view_is))
    c.index.ensures
    (c.deref-2.ensures.value ∙ ap (λ lists. set lists c.args.slot c.args.request) (c.in_ok-requests.ensures ∙ c.deref.ensures.value))
    c.in_ok-changed.ensures)
    c.self.invariant.1
