use Rattle.std.proofs.Common.{◌≡◌, to_z, of_z, w32, arith, sym, ◌∙◌}
use Rattle.std.proofs.lemmas.Int.{ints}
use Rattle.picture_rows.proofs.RunLemmas.{part_of_run}
use Rattle.picture_rows.proofs.parts.part.Goals as goal

pub returns-then-is_spanned : goal.returns-then-is_spanned
returns-then-is_spanned c =
    let y : to_z w32 (of_z w32 c.args.y) ≡ c.args.y = omega (arith, ints) in
    let top : to_z w32 (of_z w32 c.args.rect.y) ≡ c.args.rect.y = omega (arith, ints) in
    let x : to_z w32 (of_z w32 c.args.x) ≡ c.args.x = omega (arith, ints) in
    let left : to_z w32 (of_z w32 c.args.rect.x) ≡ c.args.rect.x = omega (arith, ints) in
    part_of_run c.args.rect c.args.y c.args.x c.args.n c.span.result.0 c.span.result.1 (rw (y, top) at (sym c.is_spanned.ensures ∙ c.if-is_spanned.true)) (rw (x, left) at c.span.ensures)
