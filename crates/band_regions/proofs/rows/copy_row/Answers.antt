use Rattle.band_regions.proofs.Lemmas.{◌≡◌, ◌≤◌, length, arith, to_z, of_z, w32, ints, take_all, copied}
use Rattle.band_regions.proofs.rows.copy_row.Goals as goal

pub returns : goal.returns
returns c = let top : to_z w32 (of_z w32 c.args.top) ≡ c.args.top = omega (arith, ints) in let all : length c.args.row.now ≤ c.loop-span.span-index = omega arith in
    rw (rw (top, take_all) at c.loop-span.invariant) (copied c.args.top c.args.height c.args.rects.now.items c.args.row.now c.requires)
