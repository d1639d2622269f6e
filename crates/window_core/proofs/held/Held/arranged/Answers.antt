use Rattle.std.proofs.Common.{◌≡◌, ◌∙◌, ◌+◌, map, get_or, if◌then◌else◌, ap, refl}
use Rattle.std.specs.List.{filter}
use Rattle.qws_base.specs.Stacking.{slots}
use Rattle.qws_base.specs.Steps.{is_changed, is_modified}
use Rattle.window_arrangements.specs.Arrangements.{ArrangementView}
use Rattle.window_core.specs.Planning.{size_of, state_of}
use Rattle.window_core.proofs.PlanLemmas.{same_risen}
use Rattle.window_core.proofs.held.Held.arranged.Goals as goal

pub returns : goal.returns
returns c =
    let held = c.args.self.now in
    let ws = c.args.after.windows in
    let raised : c.risen-revisions.result ≡ map (λ slot. if is_changed c.deref-3.result.now.size c.deref-3.result.now.windows ws slot then get_or held.revisions slot 0 + 1 else get_or held.revisions slot 0) slots =
    c.risen-revisions.ensures in
    record {
      reply = refl;
      windows = c.in_ok-new.ensures.ok;
      revisions = raised
          ∙ ap (λ (v : ArrangementView). map (λ slot. if is_changed v.size v.windows ws slot then get_or held.revisions slot 0 + 1 else get_or held.revisions slot 0) slots) c.deref-3.ensures
          ∙ same_risen (size_of held) (state_of held) ws c.requires.served.slots;
      risen = c.in_ok-rising.ensures ∙ ap (λ (v : ArrangementView). filter (is_changed v.size v.windows ws) slots) c.deref-2.ensures;
      cursor = c.in_ok-cursor.ensures;
      told = (refl, c.in_ok-told.ensures ∙ ap (λ (v : ArrangementView). filter (is_modified v.size v.windows ws) slots) c.deref.ensures);
    }
