use Rattle.std.proofs.Common.{◌∙◌, ◌<◌, sym, ap}
use Rattle.std.specs.Option.{option_map_or}
use Rattle.qws_base.specs.Mail.{mail_forgotten}
use Rattle.window_core.specs.Changes.{gone_forgotten}
use Rattle.window_core.proofs.WindowLemmas.{found_slot, found_has, found_client}
use Rattle.window_core.proofs.changes.forget.Goals as goal

pub forget_region-requires-clause-client : goal.forget_region-requires-clause-client
forget_region-requires-clause-client c = found_has (λ w. w.owner < 16) c.in-Some.slot c.args.windows.now c.in-Some-window_of.window.now c.requires.owners (sym c.in-Some-window_of.ensures)

pub forget_region-requires-clause-slot : goal.forget_region-requires-clause-slot
forget_region-requires-clause-slot c = found_has (λ w. w.slot < 32) c.in-Some.slot c.args.windows.now c.in-Some-window_of.window.now c.requires.slots (sym c.in-Some-window_of.ensures)

pub returns-in-Some-window_of : goal.returns-in-Some-window_of
returns-in-Some-window_of c =
    c.forget_region.ensures
    ∙ ap (λ slot. mail_forgotten c.args.channels.now c.in-Some-window_of.window.now.owner slot) (found_slot c.in-Some.slot c.args.windows.now c.in-Some-window_of.window.now (sym c.in-Some-window_of.ensures))
    ∙ ap (λ o. option_map_or (λ owner. mail_forgotten c.args.channels.now owner c.in-Some.slot) o c.args.channels.now) (sym (found_client c.in-Some.slot c.args.windows.now c.in-Some-window_of.window.now (sym c.in-Some-window_of.ensures)))
    ∙ ap (gone_forgotten c.args.windows.now c.args.channels.now) (sym c.in-Some.is)
