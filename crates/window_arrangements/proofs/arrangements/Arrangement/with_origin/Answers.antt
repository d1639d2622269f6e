use Rattle.std.proofs.Common.{◌∙◌, map, sym, ap, subst}
use Rattle.qws_base.specs.Stacking.{with_origin}
use Rattle.std.specs.List.{list_any}
use Rattle.qws_base.specs.Points.{holds, shifted}
use Rattle.window_arrangements.specs.Arrangements.{OthersAsk, IsRequestOf}
use Rattle.window_arrangements.proofs.ArrangementLemmas.{origin_others, others_same, origin_asks}
use Rattle.window_arrangements.proofs.arrangements.Arrangement.with_origin.Goals as goal

pub rearranged-requires-clause-asking : goal.rearranged-requires-clause-asking
rearranged-requires-clause-asking c =
    let ws = c.args.self.now.windows in
    let slot = c.args.window.now.slot in
    subst (λ vs. OthersAsk c.args.self.now.size slot ws vs) (sym (c.in_ok-windows.ensures ∙ ap (map (with_origin slot c.args.origin)) c.windows.ensures))
    (others_same c.args.self.now.size slot ws (map (with_origin slot c.args.origin) ws) (origin_others slot c.args.origin ws))

pub rearranged-requires-clause-request : goal.rearranged-requires-clause-request
rearranged-requires-clause-request c =
    let ws = c.args.self.now.windows in
    let slot = c.args.window.now.slot in
    subst (λ vs. IsRequestOf c.args.self.now.size slot vs c.in_ok-request.request) (sym (c.in_ok-windows.ensures ∙ ap (map (with_origin slot c.args.origin)) c.windows.ensures))
    (origin_asks c.args.self.now.size slot c.args.origin c.in_ok-request.request ws c.args.window.now c.requires.once c.requires.window (λ p. c.in_ok-request.ensures p ∙ ap (λ rs. list_any (λ r. holds (shifted c.args.origin r) p) rs) c.as_slice.ensures))
