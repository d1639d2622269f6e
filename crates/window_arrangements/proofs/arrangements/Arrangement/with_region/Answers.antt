use Rattle.std.proofs.Common.{◌∙◌, map, sym, ap, subst}
use Rattle.qws_base.specs.Stacking.{with_region}
use Rattle.std.specs.List.{list_any}
use Rattle.qws_base.specs.Points.{holds, shifted}
use Rattle.window_arrangements.specs.Arrangements.{OthersAsk, IsRequestOf}
use Rattle.window_arrangements.proofs.ArrangementLemmas.{region_others, others_same, region_asks}
use Rattle.window_arrangements.proofs.arrangements.Arrangement.with_region.Goals as goal

pub rearranged-requires-clause-asking : goal.rearranged-requires-clause-asking
rearranged-requires-clause-asking c =
    let ws = c.args.self.now.windows in
    subst (λ vs. OthersAsk c.args.self.now.size c.args.slot ws vs) (sym (c.in_ok-windows.ensures ∙ ap (map (with_region c.args.slot c.args.origin c.args.rects.now)) c.windows.ensures))
    (others_same c.args.self.now.size c.args.slot ws (map (with_region c.args.slot c.args.origin c.args.rects.now) ws) (region_others c.args.slot c.args.origin c.args.rects.now ws))

pub rearranged-requires-clause-request : goal.rearranged-requires-clause-request
rearranged-requires-clause-request c =
    let ws = c.args.self.now.windows in
    subst (λ vs. IsRequestOf c.args.self.now.size c.args.slot vs c.in_ok-request.request) (sym (c.in_ok-windows.ensures ∙ ap (map (with_region c.args.slot c.args.origin c.args.rects.now)) c.windows.ensures))
    (region_asks c.args.self.now.size c.args.slot c.args.origin c.args.rects.now c.in_ok-request.request ws (λ p. c.in_ok-request.ensures p ∙ ap (λ rs. list_any (λ r. holds (shifted c.args.origin r) p) rs) c.as_slice.ensures))
