use Rattle.std.proofs.Common.{◌∙◌, sym, ap, Ok}
use Rattle.script_grammar.specs.Reading.{begun}
use Rattle.script_words.specs.Judged.{seen}
use Rattle.script_reader.specs.Stages.{stage_before, next_before}
use Rattle.script_reader.specs.declared.heads.Next.{Next}
use Rattle.script_reader.proofs.Folds.{at_first, at_next, bad_next, at_last}
use Rattle.script_reader.proofs.openings.opening.Goals as goal

pub loop-text-init : goal.loop-text-init
loop-text-init c = at_first c.args.bytes.now

pub returns-in-Err : goal.returns-in-Err
returns-in-Err c = bad_next c.loop-text.invariant c.in-Some.text.now c.in-Some.after.now c.in-Err.cause c.in-Some.ensures.0 (sym c.in_ok-cause.ensures ∙ ap (seen next_before) c.in-Err.is)

pub returns-in-Ok-Whole : goal.returns-in-Ok-Whole
returns-in-Ok-Whole c =
    let head = c.in-Ok-Whole.head in
    let at = at_next c.loop-text.invariant (begun head.depth head.size head.backdrop head.clients) c.in-Some.text.now c.in-Some.after.now c.in-Some.ensures.0 (sym c.in_ok-cause.ensures ∙ ap (seen next_before) c.in-Ok-Whole.is ∙ ap (λ (n : Next). Ok (next_before n)) c.in-Ok-Whole.field-0-is) in
    record { reads = at.reads; text = at.text; limits = at.reached; number = at.number }

pub loop-text-preserved : goal.loop-text-preserved
loop-text-preserved c = at_next c.loop-text.invariant (stage_before c.in-Ok-Part.next) c.in-Some.text.now c.in-Some.after.now c.in-Some.ensures.0 (sym c.in_ok-cause.ensures ∙ ap (seen next_before) c.in-Ok-Part.is ∙ ap (λ (n : Next). Ok (next_before n)) c.in-Ok-Part.field-0-is)

pub returns : goal.returns
returns c = at_last c.loop-text.invariant c.in_ok-cause-2.cause c.in_default.ensures c.in_ok-cause-2.ensures
