use Rattle.std.proofs.Common.{ℕ, List, ◌-◌, length, take, drop, arith, sym, ap, ◌∙◌, Ok}
use Rattle.script_grammar.specs.Words.{pairs_read}
use Rattle.script_words.specs.Judged.{fronted}
use Rattle.script_words.proofs.Fronts.{fronted_none}
use Rattle.script_words.proofs.HexGroups.{pairs_step, pairs_bad, pairs_all, pairs_odd}
use Rattle.script_words.proofs.hex.pairs.Goals as goal

pub loop-rest-init : goal.loop-rest-init
loop-rest-init c = sym (ap (λ (items : List ℕ). fronted (Ok items) (pairs_read c.args.word.now)) c.new-all.ensures.items ∙ fronted_none (pairs_read c.args.word.now))

pub loop-rest-preserved : goal.loop-rest-preserved
loop-rest-preserved c =
    pairs_step c.args.word.now c.loop-rest.all.items c.loop-rest.rest.now c.in-Ok.x (omega arith) (sym c.pair.ensures ∙ c.in-Ok.is) c.loop-rest.invariant
    ∙ ap (λ (items : List ℕ). fronted (Ok items) (pairs_read (take (length c.loop-rest.rest.now - 2) (drop 2 c.loop-rest.rest.now)))) (sym c.in_ok-push-in-Ok.ensures.items)

pub returns-in-Err : goal.returns-in-Err
returns-in-Err c = sym (pairs_bad c.args.word.now c.loop-rest.all.items c.loop-rest.rest.now c.in-Err.cause (omega arith) (sym c.pair.ensures ∙ c.in-Err.is) c.loop-rest.invariant)

pub returns-then-is_empty : goal.returns-then-is_empty
returns-then-is_empty c = pairs_all c.args.word.now c.loop-rest.all.items c.loop-rest.rest.now (sym c.is_empty.ensures ∙ c.if-is_empty.true) c.loop-rest.invariant

pub returns-else-is_empty : goal.returns-else-is_empty
returns-else-is_empty c = pairs_odd c.args.word.now c.loop-rest.all.items c.loop-rest.rest.now (sym c.is_empty.ensures ∙ c.if-is_empty.false) (omega arith) c.loop-rest.invariant
