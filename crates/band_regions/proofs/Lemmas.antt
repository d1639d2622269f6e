-- The words and lemmas that the proofs of functions cite, passed on from one place. Declares nothing.
pub use Rattle.band_regions.proofs.Words.{sym, ap, ◌∙◌, any_holds, pixel_count, point_of, equal_to, beq, same_on_screen, take, HasPixels, IsInRange, IsLeastAround, arith, ◌≡◌, to_z, of_z, w32, pos, ◌+ℤ◌, ints, clamps, bottom, right, int_min, int_max, ◌+◌, ◌&&◌, length, not, has_column, IsBandRow, negsuc, ◌<◌, get_or, ◌<ℤ◌, ◌≤ℤ◌, take_rest, and_false, ◌++◌, map, subst, take_all, IsAdded, ◌||◌, on_ok_weaker, refl, start_of_row, ◌≤◌, drop, take-append-drop, length-take-le, span_of, IsSweptTo, in_row, ◌-◌, taller, length-drop, All, All-more, Rect, w64, shifted, shift_of, [], ◌∷◌, map_more, IsShiftable, false≢true, rules, IsInForm, is_before, IsPartitionPoint-from_clause, nat_eq, ◌-ℤ◌, nat_abs, IsFirstLen, take_at, drop_at, list_any-append, holds, All-drop}
pub use Rattle.band_regions.proofs.BandEnds.{swept_on, swept_more, swept_taller, points_taller, same_at, extended, IsSwept, swept_none, swept_step, more_left, swept_all, swept_run, IsRunTo, span_of_next, run_more, run_of}
pub use Rattle.band_regions.proofs.BandLemmas.{no_rect, banded_parts, cast_y, from_first, first_len_is, part_is, any_parts, none_above, alike_in_band, past_band, row_of_first, row_columns, beyond}
pub use Rattle.band_regions.proofs.Corners.{all_from}
pub use Rattle.band_regions.proofs.ListLemmas.{no_more, some_more}
pub use Rattle.band_regions.proofs.RegionLemmas.{around_more, hull_of, moved_region, region_split, before_parted, none_found, one_found, empty_of, in_range_of, sides_of, side_tests}
pub use Rattle.band_regions.proofs.RowMerges.{rest_row, start_place, taken_first, taken_second, parted, ends_before, next_place, gap_end, gaps, gaps_next, gaps_parted, gaps_same, IsUniting, uniting_none, uniting_on, uniting_gap, uniting_all, IsMeeting, meeting_none, turned, meet_on, meet_all, leveled, copied}
pub use Rattle.band_regions.proofs.Uniqueness.{same_lists}
