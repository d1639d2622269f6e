use Rattle.std.proofs.Common.{◌≡◌, Err, sym}
use Rattle.script_words.specs.Judged.{joined}
use Rattle.script_words.proofs.Joins.{pair_then_err}
use Rattle.script_words.proofs.causes.join3.Goals as goal

pub returns-in-Err-clause-value : goal.returns-in-Err-clause-value
returns-in-Err-clause-value g c =
    let read : joined (joined c.args.a c.args.b) c.args.c ≡ Err c.in-Err.cause = cc (c.in-Err.is, c.join.ensures.value, c.join-2.ensures.value) in
    sym (pair_then_err (λ x y z. (x, y, z)) c.args.a c.args.b c.args.c c.in-Err.cause read)
