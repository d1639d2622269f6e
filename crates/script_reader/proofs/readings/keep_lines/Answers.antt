use Rattle.std.proofs.Common.{◌∙◌, ◌-◌, refl, ap, subst, length, arith, Ok, Bool, Result}
use Rattle.script_grammar.specs.declared.lines.Cause.{Cause}
use Rattle.script_reader.specs.Bodies.{line_by_text, JudgesLine}
use Rattle.script_reader.proofs.Kept.{with_room, bad_line, next_line, last_line, bad_last, is_found, is_bad_behind}
use Rattle.script_reader.proofs.Assets.{match_more}
use Rattle.script_reader.proofs.readings.keep_lines.Goals as goal

pub returns-in-Err : goal.returns-in-Err
returns-in-Err c =
    bad_line (with_room c.loop-text.invariant c.make_room.new.body c.make_room.ensures) (length c.args.bytes.now - length c.loop-text.rest.now) refl c.body_text.new.body c.in-Some.text.now c.in-Some.after.now c.in-Err.cause c.in-Some.ensures.0
    (subst (λ (r : Result Bool Cause). JudgesLine (line_by_text c.in-Some.text.now) c.args.head.now (length c.args.bytes.now - length c.loop-text.rest.now) c.make_room.new.body c.body_text.new.body r) c.in-Err.is c.in_ok-cause.ensures)

pub returns-in-Ok-true : goal.returns-in-Ok-true
returns-in-Ok-true c =
    let judges = subst (λ (r : Result Bool Cause). JudgesLine (line_by_text c.in-Some.text.now) c.args.head.now (length c.args.bytes.now - length c.loop-text.rest.now) c.make_room.new.body c.body_text.new.body r) (c.in-Ok-true.is ∙ ap Ok c.in-Ok-true.field-0-test) c.in_ok-cause.ensures in
    let last = last_line (with_room c.loop-text.invariant c.make_room.new.body c.make_room.ensures) (length c.args.bytes.now - length c.loop-text.rest.now) refl c.body_text.new.body c.in-Some.text.now c.in-Some.after.now c.in-Some.ensures.0 judges in
    match_more c.ended.result _ _ _ _ (λ _ none. is_found c.in-Some.after.now last none) (λ bad behind. is_bad_behind c.in-Some.after.now bad last behind.0 behind.1) c.ended.ensures

pub loop-text-preserved : goal.loop-text-preserved
loop-text-preserved c =
    next_line (with_room c.loop-text.invariant c.make_room.new.body c.make_room.ensures) (length c.args.bytes.now - length c.loop-text.rest.now) refl c.body_text.new.body c.in-Some.text.now c.in-Some.after.now c.in-Some.ensures.0
    (subst (λ (r : Result Bool Cause). JudgesLine (line_by_text c.in-Some.text.now) c.args.head.now (length c.args.bytes.now - length c.loop-text.rest.now) c.make_room.new.body c.body_text.new.body r) (c.in-Ok-false.is ∙ ap Ok c.in-Ok-false.field-0-test) c.in_ok-cause.ensures)

pub returns : goal.returns
returns c = bad_last c.loop-text.invariant _ (omega arith) c.in_ok-cause-2.cause c.in_default.ensures c.in_ok-cause-2.ensures
