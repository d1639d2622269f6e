use Rattle.std.proofs.Common.{arith, lit<, ◌∙◌, ◌<◌, ◌-◌, length}
use Rattle.script_grammar.specs.Spelling.{is_hex}
use Rattle.script_words.proofs.Digits.{read_none, read_digit, few_digits}
use Rattle.script_words.proofs.hex.hex_value.Goals as goal

pub loop-rest-init : goal.loop-rest-init
loop-rest-init c = read_none 16 is_hex (length c.args.digits.now) c.args.digits.now (lit< tt) c.requires.each (omega arith)

pub loop-rest-preserved : goal.loop-rest-preserved
loop-rest-preserved c = read_digit 16 is_hex (length c.args.digits.now) c.args.digits.now c.loop-rest.n c.from.result c.loop-rest.rest.now (omega arith) (c.from.ensures ∙ c.hex_digit.ensures.value) (omega arith) c.loop-rest.invariant

pub overflow_mul-n : goal.overflow_mul-n
overflow_mul-n c =
    let small : c.loop-rest.n < 268435456 = few_digits 16 c.loop-rest.n (length c.args.digits.now - length c.loop-rest.rest.now) 7 (lit< tt) c.loop-rest.invariant.small (omega arith) in
    omega arith

pub overflow_add-n : goal.overflow_add-n
overflow_add-n c =
    let small : c.loop-rest.n < 268435456 = few_digits 16 c.loop-rest.n (length c.args.digits.now - length c.loop-rest.rest.now) 7 (lit< tt) c.loop-rest.invariant.small (omega arith) in
    omega arith
