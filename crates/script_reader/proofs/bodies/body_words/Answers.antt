use Rattle.std.proofs.Common.{◌∙◌, sym, arith}
use Rattle.script_reader.proofs.Behind.{reads_end, reads_on, reads_behind_calls}
use Rattle.script_reader.proofs.Assets.{some_calls_kept, judged_as, if_ok_more}
use Rattle.script_reader.proofs.bodies.body_words.Goals as goal

pub returns-then-is_end : goal.returns-then-is_end
returns-then-is_end c = λ said limits kept at. (reads_end said _ (sym c.is_end.ensures ∙ c.if-is_end.true), kept)

pub returns-then-is_empty : goal.returns-then-is_empty
returns-then-is_empty c =
    if_ok_more c.first_words.result _ _ (λ read judges said limits kept at. judged_as _ _ said _ _ read (sym (reads_on said _ (sym c.is_end.ensures ∙ c.if-is_end.false))) (judges said limits kept at)) c.first_words.ensures

pub returns : goal.returns
returns c =
    if_ok_more c.body_call.result _ _
    (λ read judges said limits kept at.
    judged_as _ _ said _ _ read
    (sym (reads_behind_calls said _ (sym c.is_end.ensures ∙ c.if-is_end.false) (some_calls_kept said _ _ kept.places (sym c.is_empty.ensures ∙ c.if-is_empty.false) (omega (arith, c.args.body.now.places.ok.0)))))
    (judges said limits kept at))
    c.body_call.ensures
