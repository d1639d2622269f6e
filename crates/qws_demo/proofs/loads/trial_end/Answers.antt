use Rattle.std.proofs.Common.{◌≡◌, ◌∙◌, ℕ, List, inl}
use Rattle.program_outputs.specs.Outputs.{trial_text}
use Rattle.qws_demo.proofs.FormEnds.{text_ends}
use Rattle.qws_demo.proofs.loads.trial_end.Goals as goal

pub returns-clause-end : goal.returns-clause-end
returns-clause-end g c =
    let text : c.deref.result.now ≡ trial_text c.args.load = c.deref.ensures.value ∙ c.in-Ok.ensures.text in
    text_ends c.in-Ok.made.0.status c.deref.result.now (trial_text c.args.load) c.finish-status.result _ _ _ _ c.in-Ok.ensures.status text c.finish-status.ensures
