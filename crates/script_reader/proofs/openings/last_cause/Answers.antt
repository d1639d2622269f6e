use Rattle.std.proofs.Common.{◌∙◌, sym, ap}
use Rattle.script_words.specs.Judged.{seen}
use Rattle.script_reader.specs.Stages.{stage_before, next_before}
use Rattle.script_reader.proofs.Folds.{last_in_none, last_in_bad, last_in_open, head_ends, is_none, is_some}
use Rattle.script_reader.proofs.openings.last_cause.Goals as goal

pub returns-then-is_empty : goal.returns-then-is_empty
returns-then-is_empty c = last_in_none (stage_before c.args.stage) c.args.rest.now (is_none _ (sym c.is_empty.ensures ∙ c.if-is_empty.true)) ∙ head_ends c.args.stage

pub returns-in-Err : goal.returns-in-Err
returns-in-Err c = last_in_bad (stage_before c.args.stage) c.args.rest.now c.in-Err.cause (is_some _ (sym c.is_empty.ensures ∙ c.if-is_empty.false)) (sym c.in_ok-cause.ensures ∙ ap (seen next_before) c.in-Err.is)

pub returns-in-Ok : goal.returns-in-Ok
returns-in-Ok c = last_in_open (stage_before c.args.stage) (next_before c.in-Ok.field-0) c.args.rest.now (is_some _ (sym c.is_empty.ensures ∙ c.if-is_empty.false)) (sym c.in_ok-cause.ensures ∙ ap (seen next_before) c.in-Ok.is)
