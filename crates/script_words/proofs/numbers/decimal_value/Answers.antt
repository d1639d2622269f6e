use Rattle.std.proofs.Common.{arith, lit<, ◌∙◌}
use Rattle.script_grammar.specs.Spelling.{is_digit}
use Rattle.script_words.proofs.Digits.{read_none, read_digit}
use Rattle.script_words.proofs.numbers.decimal_value.Goals as goal

pub loop-rest-init : goal.loop-rest-init
loop-rest-init c = read_none 10 is_digit 5 c.args.digits.now (lit< tt) c.requires.each c.requires.few

pub loop-rest-preserved : goal.loop-rest-preserved
loop-rest-preserved c = read_digit 10 is_digit 5 c.args.digits.now c.loop-rest.n c.from.result c.loop-rest.rest.now (omega arith) (c.from.ensures ∙ c.digit.ensures.value) (omega arith) c.loop-rest.invariant
