use Rattle.std.proofs.Common.{◌≡◌, ◌∙◌, Some, None, sym, ap, subst}
use Rattle.std.specs.List.{find}
use Rattle.qws_base.specs.Windows.{has_slot}
use Rattle.window_arrangements.specs.Arrangements.{ArrangementView}
use Rattle.window_core.specs.Planning.{state_of}
use Rattle.window_core.proofs.WindowLemmas.{own_none, own_other, own_same}
use Rattle.window_core.proofs.held.Held.own_window.Goals as goal

pub returns-in-None-clause-refusal : goal.returns-in-None-clause-refusal
returns-in-None-clause-refusal c =
    let is = c.windows.ensures ∙ ap (λ (a : ArrangementView). a.windows) c.deref.ensures in
    own_none (state_of c.args.self.now).windows c.args.client c.args.slot (subst (λ ws. find (has_slot c.args.slot) ws ≡ None) is (sym c.in-None.ensures))

pub returns-then-window-client-clause-refusal : goal.returns-then-window-client-clause-refusal
returns-then-window-client-clause-refusal c =
    let is = c.windows.ensures ∙ ap (λ (a : ArrangementView). a.windows) c.deref.ensures in
    own_other (state_of c.args.self.now).windows c.args.client c.args.slot c.in-Some.window.now (subst (λ ws. find (has_slot c.args.slot) ws ≡ Some c.in-Some.window.now) is (sym c.in-Some.ensures)) c.if-window-client.true

pub returns-else-window-client-clause-refusal : goal.returns-else-window-client-clause-refusal
returns-else-window-client-clause-refusal c =
    let is = c.windows.ensures ∙ ap (λ (a : ArrangementView). a.windows) c.deref.ensures in
    own_same (state_of c.args.self.now).windows c.args.client c.args.slot c.in-Some.window.now (subst (λ ws. find (has_slot c.args.slot) ws ≡ Some c.in-Some.window.now) is (sym c.in-Some.ensures)) c.if-window-client.false
