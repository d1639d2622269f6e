use Rattle.std.proofs.Common.{length}
use Rattle.std.proofs.lemmas.List.Sorted.{IsNonDecreasingBy-from_sort}
use Rattle.gfx_polygons.proofs.PlaceLemmas.{filled_permuted}
use Rattle.gfx_polygons.proofs.crossings.fill_between.Goals as goal

pub fill_sorted-requires : goal.fill_sorted-requires
fill_sorted-requires c = IsNonDecreasingBy-from_sort (λ v. v) c.sort_unstable.new.self c.sort_unstable.ensures.sorted

pub returns : goal.returns
returns c = filled_permuted c.args.places.now c.sort_unstable.new.self c.args.ink.now (length c.args.out.now) c.fill_sorted.new.out c.sort_unstable.ensures.permutation c.fill_sorted.ensures
