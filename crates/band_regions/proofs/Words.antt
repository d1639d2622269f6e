-- The words that the proofs of this crate cite, passed on from one place. Declares nothing.
pub use Rattle.std.proofs.Common.{◌≡◌, ℕ, ◌+◌, ◌-◌, ◌<◌, ◌≤◌, true, false, ◌||◌, ◌&&◌, ◌⊎◌, List, [], ◌∷◌, ◌++◌, length, get_or, take, drop, refl, sym, ap, ◌∙◌, subst, inl, inr, arith, to_z, of_z, w32, Bool, nat_eq, zero, suc, cond, map, ⊎_elim, append_assoc, ◌*◌, ◌/◌, ◌%◌, not, mul_comm, set, w64, rules}
pub use Rattle.std.specs.Prelude.{ℤ, pos, ◌<ℤ◌, ◌≤ℤ◌, negsuc, ◌+ℤ◌, ◌-ℤ◌, int_le, int_lt, nat_abs}
pub use Rattle.std.specs.List.{All, AllByRecursion as Each, AllPairs, list_any, filter, list_all, range_with_len, AllWithin}
pub use Rattle.std.proofs.lemmas.Int.{ints, by_lt_z, clamps}
pub use Rattle.std.proofs.lemmas.List.{take-append-drop, drop_more, drop-take, take_at, drop_at, append-nil, get_or-take, length-take-le, take_all, length-map, take_more, set_at, get_or_at, map_more, get_or-map, map-append, length-append, get_or_default, drop_all, take_rest, length-drop}
pub use Rattle.std.proofs.lemmas.List.Elements.{All-cons, All-from_recursion, recursion_from_All, All-head, All-nil, All-tail, All-drop, filter-append, filter_passes, All-filter, All-more, All-push, All-weaker, All-map, All-append}
pub use Rattle.std.proofs.lemmas.List.Folds.{list_any-append, list_any_none}
pub use Rattle.qws_base.specs.Points.{spans, holds, any_holds, shifted, minus, is_on_screen, pixels, pixel_count, point_of}
pub use Rattle.qws_base.specs.Regions.{bottom, HasPixels, Precedes, right, span_of, starts_at, ends_at, IsCanonical, IsRegionOf, IsOnScreen, same_pixels, is_as_above, is_corner, corners, rect_count}
pub use Rattle.qws_base.specs.declared.points.Point.{Point}
pub use Rattle.qws_base.specs.declared.points.Rect.{Rect}
pub use Rattle.band_regions.specs.Ranges.{IsInRange, IsInForm, is_before, shift_of, IsShiftable}
pub use Rattle.band_regions.specs.Rows.{IsSpan, IsBandRow, IsLeftOf, has_column, IsBand, IsLevel, IsAdded, IsTaken, StartsFrom, EndsLeftOf, is_between, columns_of, start_of_row}
pub use Rattle.band_regions.specs.Bands.{IsBanded, IsFirstLen, IsRestOfBands, EndsBelow, ReachesDown, in_row, IsSweptTo, IsUnmerged, taller}
pub use Rattle.qws_base.proofs.Booleans.{or_false, and_true, and_false, and_comm, same_test, or_assoc, both_are, equal_from, equal_to}
pub use Rattle.qws_base.proofs.Integers.{spans_not_before, spans_not_after, spans_from, spans_low, spans_high, eq_test, eq_told, lt_test, not_lt_test, not_le_test, not_lt_told, lt_told, le_test, le_told, not_eq_test}
pub use Rattle.band_regions.specs.declared.operations.Operation.{Operation}
pub use Rattle.band_regions.specs.declared.operations.Operation.TheVariants.{Unite, Meet, Minus}
pub use Rattle.band_regions.specs.Operations.{keeps}
pub use Rattle.std.proofs.lemmas.Bool.{eqb-true, false≢true, and_parts, and_from, cases_eq, or_cases, cond_both, and_left, and_right, or_from, or_left, or_right, cases_lt, false_from_ne_true, not-true}
pub use Rattle.std.specs.Int.{int_min, int_max}
pub use Rattle.std.specs.List.Sorted.{IsPartitionPoint, IsPartitionedBy}
pub use Rattle.std.specs.Ordering.{int_eq}
pub use mathlib.Core.Bool.{beq}
pub use Rattle.std.proofs.Math.Bool.{or_comm}
pub use Rattle.std.proofs.lemmas.Nat.{mul-add-lt, div-mul-add, mod-mul-add, div-add-mod'}
pub use Rattle.qws_base.specs.Sides.{Sides}
pub use Rattle.qws_base.proofs.PixelLemmas.{same_on_screen}
pub use Rattle.band_regions.specs.Around.{IsHull, IsLeastAround}
pub use Rattle.std.proofs.Math.Seq.{take-append-add}
pub use Rattle.band_regions.specs.Runs.{IsNext, IsBandRun}
pub use Rattle.std.proofs.lemmas.Result.{on_ok_weaker}
pub use Rattle.std.proofs.lemmas.List.Sorted.{IsPartitionPoint-from_clause}
pub use Rattle.std.proofs.lemmas.List.Quantifiers.{all_pairs_push}
pub use Rattle.qws_base.proofs.ListLemmas.{none_passes, all_pass, pairs_tail, pairs_nil, pairs_map as all_pairs_map, each_map as all_map}
pub use Rattle.std.proofs.lemmas.List.Kept.{AllPairs-cons, AllPairs-filter}
