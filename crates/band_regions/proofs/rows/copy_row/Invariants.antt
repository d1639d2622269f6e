use Rattle.band_regions.proofs.Lemmas.{◌≡◌, ◌++◌, take, map, leveled}
use Rattle.band_regions.proofs.rows.copy_row.Given as goal

abbrev pub invariant-loop-span : goal.invariant-loop-span
invariant-loop-span l = l.rects.items ≡ l.fn.rects.items ++ map (leveled l.top l.height) (take l.span-index l.row)
