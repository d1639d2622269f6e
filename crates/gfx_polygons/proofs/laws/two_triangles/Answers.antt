use Rattle.gfx_polygons.proofs.LawLemmas.{triangles}
use Rattle.gfx_polygons.proofs.laws.two_triangles.Goals as goal

pub returns : goal.returns
returns c = triangles c.args.a c.args.b c.args.c c.args.d c.args.p
