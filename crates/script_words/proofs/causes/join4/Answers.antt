use Rattle.std.proofs.Common.{◌≡◌, Err, sym}
use Rattle.script_words.specs.Judged.{joined, joined3}
use Rattle.script_words.proofs.Joins.{triple_then_err}
use Rattle.script_words.proofs.causes.join4.Goals as goal

pub returns-in-Err-clause-value : goal.returns-in-Err-clause-value
returns-in-Err-clause-value g c =
    let read : joined (joined3 c.args.a c.args.b c.args.c) c.args.d ≡ Err c.in-Err.cause = cc (c.in-Err.is, c.join3.ensures.value, c.join.ensures.value) in
    sym (triple_then_err c.args.a c.args.b c.args.c c.args.d c.in-Err.cause read)
