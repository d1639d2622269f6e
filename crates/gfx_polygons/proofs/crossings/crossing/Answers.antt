use Rattle.std.proofs.Common.{◌≡◌, to_z, of_z, w32, arith, sym, ◌∙◌}
use Rattle.std.proofs.lemmas.Int.{ints}
use Rattle.gfx_polygons.proofs.EdgeLemmas.{crossing_turned, crossing_none}
use Rattle.gfx_polygons.proofs.crossings.crossing.Goals as goal

pub returns-then-is_in_rows-2 : goal.returns-then-is_in_rows-2
returns-then-is_in_rows-2 c =
    let y : to_z w32 (of_z w32 c.args.y) ≡ c.args.y = omega (arith, ints) in
    let x : to_z w32 (of_z w32 c.args.x) ≡ c.args.x = omega (arith, ints) in
    crossing_turned c.args.a c.args.b c.args.y c.args.x c.args.n c.place_of-then-is_in_rows-2.result (rw (y, x) at c.place_of-then-is_in_rows-2.ensures)

pub returns-else-is_in_rows-2 : goal.returns-else-is_in_rows-2
returns-else-is_in_rows-2 c =
    let y : to_z w32 (of_z w32 c.args.y) ≡ c.args.y = omega (arith, ints) in
    crossing_none c.args.a c.args.b c.args.y c.args.x c.args.n (sym (rw y at c.is_in_rows.ensures) ∙ c.if-is_in_rows.false) (sym (rw y at c.is_in_rows-else-is_in_rows.ensures) ∙ c.if-is_in_rows-2.false)
