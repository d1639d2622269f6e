use Rattle.std.proofs.Common.{◌<◌, map, sym, ◌∙◌, arith}
use Rattle.script_lines.proofs.Counting.{client_below, bad_line, full_line, next_line}
use Rattle.script_lines.proofs.lines.next_call.Goals as goal

pub returns-in-Err : goal.returns-in-Err
returns-in-Err c = bad_line c.args.clients c.args.fonts.now c.args.images _ _ c.in-Err.cause (sym c.in-Err.is ∙ c.in_ok-read.ensures)

pub add-requires : goal.add-requires
add-requires c = omega (arith, client_below c.args.clients c.args.fonts.now c.args.images (map (λ w. w.now) c.args.words.now) c.in-Ok.line (sym c.in-Ok.is ∙ c.in_ok-read.ensures), c.requires)

pub returns-then-add : goal.returns-then-add
returns-then-add c =
    let small : c.in-Ok.line.client < 16 = omega (arith, client_below c.args.clients c.args.fonts.now c.args.images (map (λ w. w.now) c.args.words.now) c.in-Ok.line (sym c.in-Ok.is ∙ c.in_ok-read.ensures), c.requires) in
    next_line c.args.clients c.args.fonts.now c.args.images _ _ (map (λ w. w.now) c.args.words.now) c.in-Ok.line (sym c.in-Ok.is ∙ c.in_ok-read.ensures) small c.add.ensures.sixteen (sym c.add.ensures.room ∙ c.if-add.true) (c.add.ensures.more c.if-add.true)

pub returns-else-add : goal.returns-else-add
returns-else-add c =
    let small : c.in-Ok.line.client < 16 = omega (arith, client_below c.args.clients c.args.fonts.now c.args.images (map (λ w. w.now) c.args.words.now) c.in-Ok.line (sym c.in-Ok.is ∙ c.in_ok-read.ensures), c.requires) in
    full_line c.args.clients c.args.fonts.now c.args.images _ _ (map (λ w. w.now) c.args.words.now) c.in-Ok.line (sym c.in-Ok.is ∙ c.in_ok-read.ensures) small (sym c.add.ensures.room ∙ c.if-add.false) (c.add.ensures.full c.if-add.false)
