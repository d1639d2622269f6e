use Rattle.std.proofs.Common.{ℕ, List, ◌-◌, length, take, drop, arith, sym, ap, ◌∙◌, Ok}
use Rattle.script_grammar.specs.Words.{eights_read}
use Rattle.script_words.specs.Judged.{fronted}
use Rattle.script_words.proofs.Fronts.{fronted_none}
use Rattle.script_words.proofs.HexGroups.{eights_step, eights_bad, eights_all, eights_odd}
use Rattle.script_words.proofs.hex.eights.Goals as goal

pub loop-rest-init : goal.loop-rest-init
loop-rest-init c = sym (ap (λ (items : List ℕ). fronted (Ok items) (eights_read c.args.word.now)) c.new-all.ensures.items ∙ fronted_none (eights_read c.args.word.now))

pub loop-rest-preserved : goal.loop-rest-preserved
loop-rest-preserved c =
    eights_step c.args.word.now c.loop-rest.all.items c.loop-rest.rest.now c.in-Ok.x (omega arith) (sym c.hex.ensures.value ∙ c.in-Ok.is) c.loop-rest.invariant
    ∙ ap (λ (items : List ℕ). fronted (Ok items) (eights_read (take (length c.loop-rest.rest.now - 8) (drop 8 c.loop-rest.rest.now)))) (sym c.in_ok-push-in-Ok.ensures.items)

pub returns-in-Err : goal.returns-in-Err
returns-in-Err c = sym (eights_bad c.args.word.now c.loop-rest.all.items c.loop-rest.rest.now c.in-Err.cause (omega arith) (sym c.hex.ensures.value ∙ c.in-Err.is) c.loop-rest.invariant)

pub returns-then-is_empty : goal.returns-then-is_empty
returns-then-is_empty c = eights_all c.args.word.now c.loop-rest.all.items c.loop-rest.rest.now (sym c.is_empty.ensures ∙ c.if-is_empty.true) c.loop-rest.invariant

pub returns-else-is_empty : goal.returns-else-is_empty
returns-else-is_empty c = eights_odd c.args.word.now c.loop-rest.all.items c.loop-rest.rest.now (sym c.is_empty.ensures ∙ c.if-is_empty.false) (omega arith) c.loop-rest.invariant
