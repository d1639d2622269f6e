-- Words that spell the table of a state are a table.
use Rattle.std.proofs.Common.{◌≡◌, ◌≢◌, ℕ, zero, suc, ◌+◌, ◌-◌, ◌*◌, ◌/◌, ◌%◌, ◌^◌, ◌<◌, ◌≤◌, ◌⊎◌, ◌==◌, nat_lt, cond, if◌then◌else◌, Bool, true, false, not, ◌&&◌, ◌||◌, List, [], ◌∷◌, map, length, get_or, inl, inr, ⊎_elim, sym, refl, ap, ◌∙◌, subst, arith, Option, Some, None}
use Rattle.std.specs.Prelude.{slice_index, All, AllPairs, pos, ◌+ℤ◌, ◌-ℤ◌, ◌<ℤ◌, ◌≤ℤ◌, int_le, int_lt, is_none}
use Rattle.std.specs.List.{find}
use Rattle.std.specs.Option.{option_map, option_map_or}
use Rattle.std.proofs.lemmas.Int.{ints}
use Rattle.std.proofs.lemmas.Bool.{and_parts, cases_lt}
use Rattle.std.proofs.lemmas.Bool.Decides.{nat_tests}
use Rattle.std.proofs.lemmas.List.{get_or-map, get_or_past}
use Rattle.std.proofs.lemmas.List.Elements.{All-get_or, All-from_get_or}
use Rattle.std.proofs.lemmas.List.Folds.{list_any_at}
use mathlib.Core.Logic.{dite}
use native.Mathlib.Decide.{ℕ_discrete}
use Rattle.qws_base.specs.Sides.{Sides, IsScreen}
use Rattle.qws_base.specs.Points.{spans, holds, any_holds, origin_zero, pixel_count, point_of, is_on_screen, IsPlaced}
use Rattle.qws_base.specs.Regions.{HasPixels, Precedes, right, bottom, IsCanonical}
use Rattle.qws_base.specs.Windows.{owns, client_of_slot, has_slot, is_slot, covers, owner_at, origin_of}
use Rattle.qws_base.specs.Shown.{cell_at}
use Rattle.qws_base.specs.States.{State}
use Rattle.qws_base.specs.declared.points.Point.{Point}
use Rattle.qws_base.specs.declared.points.Rect.{Rect}
use Rattle.qws_base.specs.declared.windows.Cursor.{Cursor}
use Rattle.qws_base.specs.declared.windows.WindowView.{WindowView}
use Rattle.region_table.specs.Numbers.{row_word}
use Rattle.region_table.specs.Packing.{IsPackable, packed, unpacked}
use Rattle.region_table.specs.Tables.{no_row, row_of, owner_word, origin_word, origin_from, place_word, shape_word, cell_value, head_word_of, row_word_of, IsCursor, IsSpellableRow, IsSpellable, word_of_table}
use Rattle.region_table.specs.Spelling.{Spell}
use Rattle.region_table.specs.Published.{IsTableOf}
use Rattle.region_table.specs.Layouts.{row_holds, layout_of_table}
use Rattle.region_table.specs.declared.tables.Row.{Row}
use Rattle.region_table.specs.declared.tables.Table.{Table}
use Rattle.region_table.proofs.Packs.{unpacked_packed, origin_read}
use Rattle.region_table.proofs.Reading.{row_said as said_in_row, cursor_read, spelling_law}
use Rattle.region_table.proofs.Telling.{published_apart}
use Rattle.region_table.proofs.Openings.{opening_words, opening_spellable}
use Rattle.turn_logs.proofs.FirstTable.{at_opening}
use Rattle.region_table.proofs.Words.{table_below}
use Rattle.turn_logs.specs.Tables.{revision_in, count_in, rect_in, RowHas, IsOnScreen, IsCursorIn, IsTable, SameRow}
use Rattle.qws_base.specs.declared.replies.PaintReply.TheVariants.{Gone}
use Rattle.turn_logs.specs.Publishing.{IsPublishable, PublishLaw, FollowLaw, StillLaw}
use Rattle.turn_logs.proofs.Standing.{refused_carried, still_carried, gone_carried}

-- ---- the words of a row

module _ (words : ℕ → ℕ) (table : Table) (spell : Spell words table) where
  -- the k-th word of a row
  row_said : (slot k : ℕ) → slot < 33 → k < 4 + length (row_of table slot).rects → k < 260 → words (row_word slot + k) ≡ row_word_of (row_of table slot) k
  row_said slot k low few within = said_in_row words table slot k spell low few within

  -- a word of the stamp or the cursor
  head_said : (index : ℕ) → 1 ≤ index → index ≤ 1027 → words index ≡ head_word_of table index
  head_said index low high =
      let early : nat_lt index 2052 ≡ true = grind (arith, nat_tests) in
      spell.said index (inl (low, high)) (inl (omega arith))
      ∙ ap (λ b. if b then head_word_of table index else row_word_of (row_of table ((index - 2052) / 260)) ((index - 2052) % 260)) early

  owner_said : (slot : ℕ) → slot < 33 → words (row_word slot) ≡ owner_word (row_of table slot).owner
  owner_said slot low = ap words (let z : row_word slot ≡ row_word slot + 0 = omega arith in z) ∙ row_said slot 0 low (omega arith) (omega arith)

  -- the j-th rectangle
  rect_said : (slot j : ℕ) (d : Rect) → slot < 33 → length (row_of table slot).rects ≤ 256 → j < length (row_of table slot).rects → words (row_word slot + 4 + j) ≡ packed (get_or (row_of table slot).rects j d)
  rect_said slot j d low few within =
      let rects : List Rect = (row_of table slot).rects in
      let a : (j + 4 == 0) ≡ false = grind (arith, nat_tests) in
      let b : (j + 4 == 1) ≡ false = grind (arith, nat_tests) in
      let c : (j + 4 == 2) ≡ false = grind (arith, nat_tests) in
      let e : (j + 4 == 3) ≡ false = grind (arith, nat_tests) in
      let past : row_word_of (row_of table slot) (j + 4) ≡ slice_index (map packed rects) (j + 4 - 4) = rw (a, b, c, e) refl in
      ap words (let z : row_word slot + 4 + j ≡ row_word slot + (j + 4) = omega arith in z) ∙ row_said slot (j + 4) low (omega arith) (omega arith)
      ∙ past ∙ ap (slice_index (map packed rects)) (let z : j + 4 - 4 ≡ j = omega arith in z) ∙ get_or-map packed rects j d 0 within

-- ---- the window of a slot

found_owner : (admitted slot : ℕ) (windows : List WindowView) → All (λ w. w.owner < admitted) windows → owner_word (client_of_slot windows slot) ≤ admitted
found_owner admitted slot [] ok = omega arith
found_owner admitted slot (w ∷ ws) ok = go (w.slot == slot) (found_owner admitted slot ws (λ k d below. ok (suc k) d (omega arith)))
  where
    go : (b : Bool) → owner_word (option_map (λ v. v.owner) (find (has_slot slot) ws)) ≤ admitted → owner_word (option_map (λ v. v.owner) (cond b (Some w) (find (has_slot slot) ws))) ≤ admitted
    go true rest = let here : w.owner < admitted = ok 0 w (omega arith) in omega arith
    go false rest = rest

zero_placed : IsPlaced origin_zero
zero_placed = record { low_x = omega (arith, ints); high_x = omega (arith, ints); low_y = omega (arith, ints); high_y = omega (arith, ints) }

found_placed : (slot : ℕ) (windows : List WindowView) → All (λ w. IsPlaced w.origin) windows → IsPlaced (origin_of windows slot)
found_placed slot [] ok = zero_placed
found_placed slot (w ∷ ws) ok = go (w.slot == slot) (found_placed slot ws (λ k d below. ok (suc k) d (omega arith)))
  where
    go : (b : Bool) → IsPlaced (option_map_or (λ v. v.origin) (find (has_slot slot) ws) origin_zero) → IsPlaced (option_map_or (λ v. v.origin) (cond b (Some w) (find (has_slot slot) ws)) origin_zero)
    go true rest = ok 0 w (omega arith)
    go false rest = rest

-- a slot without a window has no point
none_found : (slot : ℕ) (windows : List WindowView) (test : WindowView → Bool) → owner_word (client_of_slot windows slot) ≡ 0 → is_slot slot (option_map (λ w. w.slot) (find test windows)) ≡ false
none_found slot [] test none = refl
none_found slot (w ∷ ws) test none = go (w.slot == slot) refl none (none_found slot ws test)
  where
    pick : (w.slot == slot) ≡ false → (b : Bool) → is_slot slot (option_map (λ v. v.slot) (find test ws)) ≡ false → is_slot slot (option_map (λ v. v.slot) (cond b (Some w) (find test ws))) ≡ false
    pick is true rest = is
    pick is false rest = rest

    go : (b : Bool) → (w.slot == slot) ≡ b → owner_word (option_map (λ v. v.owner) (cond b (Some w) (find (has_slot slot) ws))) ≡ 0
        → (owner_word (client_of_slot ws slot) ≡ 0 → is_slot slot (option_map (λ v. v.slot) (find test ws)) ≡ false) → is_slot slot (option_map (λ v. v.slot) (cond (test w) (Some w) (find test ws))) ≡ false
    go true is none later = absurd (omega arith)
    go false is none later = pick is (test w) (later none)

-- ---- rectangles

abbrev corner : Rect → Point
corner r = record { x = r.x; y = r.y }

abbrev last_corner : Rect → Point
last_corner r = record { x = right r -ℤ pos 1; y = bottom r -ℤ pos 1 }

has_corner : (r : Rect) → HasPixels r → holds r (corner r) ≡ true
has_corner r some = let w = some.0 in let h = some.1 in grind (arith, ints)

has_last : (r : Rect) → HasPixels r → holds r (last_corner r) ≡ true
has_last r some = let w = some.0 in let h = some.1 in grind (arith, ints)

no_rects : (rects : List Rect) → All HasPixels rects → ((p : Point) → any_holds rects p ≡ false) → rects ≡ []
no_rects [] some none = refl
no_rects (r ∷ rs) some none = absurd (let a = none (corner r) in let b : any_holds (r ∷ rs) (corner r) ≡ true = list_any_at (λ q. holds q (corner r)) (r ∷ rs) 0 r (omega arith) (has_corner r (some 0 r (omega arith))) in cc)

spans_in : (n : ℕ) (at : Rattle.std.specs.Prelude.ℤ) → spans (pos 0) n at ≡ true → (pos 0 ≤ℤ at) × (at <ℤ pos n)
spans_in n at h = let parts = and_parts (int_le (pos 0) at) (int_lt at (pos 0 +ℤ pos n)) h in (grind (arith, ints), grind (arith, ints))

on_screen : (size : Sides) (r : Rect) → HasPixels r → ((p : Point) → holds r p ≡ true → is_on_screen size p ≡ true) → IsOnScreen size r
on_screen size r some inside =
    let a = and_parts (spans (pos 0) size.w (corner r).x) (spans (pos 0) size.h (corner r).y) (inside (corner r) (has_corner r some)) in
    let b = and_parts (spans (pos 0) size.w (last_corner r).x) (spans (pos 0) size.h (last_corner r).y) (inside (last_corner r) (has_last r some)) in
    let ax = spans_in size.w (corner r).x a.0 in let ay = spans_in size.h (corner r).y a.1 in
    let bx = spans_in size.w (last_corner r).x b.0 in let by = spans_in size.h (last_corner r).y b.1 in
    record {
      some_pixels = some;
      from_left = ax.0;
      from_top = ay.0;
      to_right = let z = bx.1 in omega (arith, ints);
      to_bottom = let z = by.1 in omega (arith, ints);
    }

packable : (size : Sides) (r : Rect) → IsScreen size → IsOnScreen size r → IsPackable r
packable size r screen on = let some = on.some_pixels in let a = on.from_left in let b = on.from_top in let c = on.to_right in let d = on.to_bottom in let w = screen.most_w in let h = screen.most_h in
    let sw = some.0 in let sh = some.1 in record {
      low_x = a;
      high_x = omega (arith, ints);
      low_y = b;
      high_y = omega (arith, ints);
      few_w = omega (arith, ints);
      few_h = omega (arith, ints);
    }

-- two rectangles of which one precedes the other have no common point
preceding : (r s : Rect) (p : Point) → Precedes r s → holds r p ≡ true → holds s p ≡ true → ⊥
preceding r s p before a b =
    let ar = and_parts (spans r.x r.w p.x) (spans r.y r.h p.y) a in let bs = and_parts (spans s.x s.w p.x) (spans s.y s.h p.y) b in
    let ax = and_parts (int_le r.x p.x) (int_lt p.x (r.x +ℤ pos r.w)) ar.0 in let ay = and_parts (int_le r.y p.y) (int_lt p.y (r.y +ℤ pos r.h)) ar.1 in
    let bx = and_parts (int_le s.x p.x) (int_lt p.x (s.x +ℤ pos s.w)) bs.0 in let by = and_parts (int_le s.y p.y) (int_lt p.y (s.y +ℤ pos s.h)) bs.1 in
    ⊎_elim
    (λ (t : (r.y ≡ s.y) × (r.h ≡ s.h) × (right r <ℤ s.x)). let left = t.2 in let x = ax.1 in let y = bx.0 in grind (arith, ints))
    (λ (above : bottom r ≤ℤ s.y). let x = ay.1 in let y = by.0 in grind (arith, ints))
    before

same_rect : (rects : List Rect) (d : Rect) (j k : ℕ) (p : Point) → IsCanonical rects → j < length rects → k < length rects → holds (get_or rects j d) p ≡ true → holds (get_or rects k d) p ≡ true → j ≡ k
same_rect rects d j k p is in_j in_k a b = ⊎_elim
    (λ (lt : j < k). absurd (preceding (get_or rects j d) (get_or rects k d) p (is.sorted j k d lt in_k) a b))
    (λ (le : k ≤ j). dite (ℕ_discrete j k) (λ (eq : j ≡ k). eq) (λ (ne : j ≢ k). absurd (preceding (get_or rects k d) (get_or rects j d) p (is.sorted k j d (omega arith) in_j) b a)))
    (cases_lt j k)

-- ---- the table of a state

cases_last : (slot : ℕ) → slot < 33 → (slot < 32) ⊎ (slot ≡ 32)
cases_last slot low = ⊎_elim (λ (lt : slot < 32). inl lt) (λ (le : 32 ≤ slot). inr (omega arith)) (cases_lt slot 32)

module _ (size : Sides) (admitted stamp : ℕ) (state : State) (table : Table) (screen : IsScreen size) (is : IsTableOf size state stamp table) (ok : IsPublishable size admitted state table) where
  -- what the table has of a slot
  record RowFits (row : Row) : Type 0 where
    owner : owner_word row.owner ≤ admitted
    revision : 1 ≤ row.revision
    placed : IsPlaced row.origin
    few : length row.rects ≤ 256
    canonical : IsCanonical row.rects
    inside : (p : Point) → any_holds row.rects p ≡ true → is_on_screen size p ≡ true
    unowned : owner_word row.owner ≡ 0 → row.rects ≡ []

  no_row_fits : RowFits no_row
  no_row_fits = record {
    owner = omega arith;
    revision = omega arith;
    placed = zero_placed;
    few = omega arith;
    canonical = record { some_pixels = λ k d below. absurd (omega arith); sorted = λ i j d lt below. absurd (omega arith); unmerged = λ y e. refl };
    inside = λ p has. cc;
    unowned = λ none. refl;
  }

  row_fits : (slot : ℕ) → slot < 33 → RowFits (row_of table slot)
  row_fits slot low = ⊎_elim
      (λ (lt : slot < 32). let row = is.rows slot lt in record {
        owner = subst (λ o. owner_word o ≤ admitted) (sym row.owner) (found_owner admitted slot state.windows ok.owners);
        revision = subst (λ n. 1 ≤ n) (sym row.revision) (ok.revisions slot lt);
        placed = subst IsPlaced (sym row.origin) (found_placed slot state.windows ok.placed);
        few = ok.few slot lt;
        canonical = row.region.canonical;
        inside = λ p has. (and_parts (is_on_screen size p) (is_slot slot (owner_at state.windows p)) (sym (row.region.points p) ∙ has)).0;
        unowned = λ none. no_rects (row_of table slot).rects row.region.canonical.some_pixels
            (λ p. row.region.points p ∙ ap (λ b. is_on_screen size p && b) (none_found slot state.windows (covers p) (ap owner_word (sym row.owner) ∙ none)) ∙ and_false (is_on_screen size p));
      })
      (λ (last : slot ≡ 32). subst RowFits (sym (ap (row_of table) last ∙ is.last)) no_row_fits)
      (cases_last slot low)
    where
      and_false : (b : Bool) → (b && false) ≡ false
      and_false true = refl
      and_false false = refl

  rect_on : (slot j : ℕ) (d : Rect) → slot < 33 → j < length (row_of table slot).rects → IsOnScreen size (get_or (row_of table slot).rects j d)
  rect_on slot j d low within = let fits = row_fits slot low in let rects : List Rect = (row_of table slot).rects in
      on_screen size (get_or rects j d) (fits.canonical.some_pixels j d within) (λ p has. fits.inside p (list_any_at (λ r. holds r p) rects j d within has))

  row_packable : (slot : ℕ) → slot < 33 → All IsPackable (row_of table slot).rects
  row_packable slot low = λ j d within. packable size (get_or (row_of table slot).rects j d) screen (rect_on slot j d low within)

  cursor_fits : IsCursor table.cursor
  cursor_fits = subst IsCursor (sym is.cursor_is) (record { shape = ok.shape; in_columns = let a = ok.in_columns in let b = screen.most_w in omega arith; in_rows = let a = ok.in_rows in let b = screen.most_h in omega arith })

  spellable : IsSpellable table
  spellable = record {
    cursor = cursor_fits;
    whole = is.whole;
    rows = All-from_get_or IsSpellableRow table.rows no_row (λ i within. let whole = is.whole in let fits = row_fits i (omega arith) in record { placed = fits.placed; few = fits.few; packable = row_packable i (omega arith) });
  }

  module _ (words : List ℕ) (spell : Spell (slice_index words) table) where
    count_is : (slot : ℕ) → slot < 33 → count_in words slot ≡ length (row_of table slot).rects
    count_is slot low = row_said (slice_index words) table spell slot 3 low (omega arith) (omega arith)

    rect_is : (slot j : ℕ) (d : Rect) → slot < 33 → j < count_in words slot → (j < length (row_of table slot).rects) × (unpacked (rect_in words slot j) ≡ get_or (row_of table slot).rects j d)
    rect_is slot j d low within = let count = count_is slot low in let below : j < length (row_of table slot).rects = omega arith in
        (below, ap unpacked (rect_said (slice_index words) table spell slot j d low (row_fits slot low).few below) ∙ unpacked_packed (get_or (row_of table slot).rects j d) (row_packable slot low j d below))

    row_has : (slot j p : ℕ) (d : Rect) → slot < 33 → RowHas size words slot j p → (j < length (row_of table slot).rects) × (holds (get_or (row_of table slot).rects j d) (point_of size.w p) ≡ true)
    row_has slot j p d low has = let at = rect_is slot j d low has.0 in (at.0, ap (λ r. holds r (point_of size.w p)) (sym at.1) ∙ has.1)

    some_rect : Rect
    some_rect = record { x = pos 0; y = pos 0; w = 0; h = 0 }

    rects_apart : (s r j k p : ℕ) → s < 33 → r < 33 → p < pixel_count size → RowHas size words s j p → RowHas size words r k p → (s ≡ r) × (j ≡ k)
    rects_apart s r j k p low_s low_r within a b =
        let in_s = row_has s j p some_rect low_s a in let in_r = row_has r k p some_rect low_r b in let at : Point = point_of size.w p in
        let holds_s : row_holds at (row_of table s) ≡ true = list_any_at (λ q. holds q at) (row_of table s).rects j some_rect in_s.0 in_s.1 in
        let holds_r : row_holds at (row_of table r) ≡ true = list_any_at (λ q. holds q at) (row_of table r).rects k some_rect in_r.0 in_r.1 in
        let same : s ≡ r = (published_apart size state stamp table is).apart s r p within holds_s holds_r in
        let P : ℕ → Type 0 = λ i. (k < length (row_of table i).rects) × (holds (get_or (row_of table i).rects k some_rect) at ≡ true) in
        let other : P s = subst P (sym same) in_r in
        (same, same_rect (row_of table s).rects some_rect j k at (row_fits s low_s).canonical in_s.0 other.0 in_s.1 other.1)

    -- ---- the cursor

    cell_low : (column row : ℕ) → cell_value table.cursor column row < 2 ^ 32
    cell_low column row = go (nat_lt column table.cursor.w && nat_lt row table.cursor.h)
      where
        each : (k : ℕ) → slice_index table.cursor.cells k < 4294967296
        each k = subst (λ (c : Cursor). slice_index c.cells k < 4294967296) (sym is.cursor_is) (⊎_elim
            (λ (lt : k < length state.cursor.cells). All-get_or (λ cell. cell < 4294967296) state.cursor.cells k 0 lt ok.cells)
            (λ (le : length state.cursor.cells ≤ k). let none = get_or_past state.cursor.cells k 0 le in omega arith)
            (cases_lt k (length state.cursor.cells)))

        go : (b : Bool) → (if b then cell_at table.cursor (column, row) else 0) < 4294967296
        go true = each (row * table.cursor.w + column)
        go false = omega arith

    cursor_in : IsCursorIn size words
    cursor_in =
        let read = cursor_read (slice_index words) table cursor_fits spell ∙ is.cursor_is in
        let x : slice_index words 2 % 65536 ≡ state.cursor.x = ap (λ (c : Cursor). c.x) read in
        let y : slice_index words 2 / 65536 % 65536 ≡ state.cursor.y = ap (λ (c : Cursor). c.y) read in
        let w : slice_index words 3 % 65536 ≡ state.cursor.w = ap (λ (c : Cursor). c.w) read in
        let h : slice_index words 3 / 65536 ≡ state.cursor.h = ap (λ (c : Cursor). c.h) read in
        let columns = ok.in_columns in let rows = ok.in_rows in let wide = screen.most_w in let high = screen.most_h in
        let place : slice_index words 2 ≡ place_word state.cursor = head_said (slice_index words) table spell 2 (omega arith) (omega arith) ∙ ap place_word is.cursor_is in
        record {
          in_columns = omega arith;
          in_rows = omega arith;
          shown = subst (λ n. n / 4294967296 ≤ 1) (sym place) (low state.cursor.x state.cursor.y state.cursor.shown (omega arith) (omega arith));
          sides = ⊎_elim
              (λ (some : (1 ≤ state.cursor.w) × (state.cursor.w ≤ 32) × (1 ≤ state.cursor.h) × (state.cursor.h ≤ 32)). let a = some.0 in let b = some.2 in inl (omega arith, omega arith))
              (λ (none : (state.cursor.w ≡ 0) × (state.cursor.h ≡ 0)). inr (w ∙ none.0, h ∙ none.1))
              ok.shape.sides;
          few_columns = ⊎_elim
              (λ (some : (1 ≤ state.cursor.w) × (state.cursor.w ≤ 32) × (1 ≤ state.cursor.h) × (state.cursor.h ≤ 32)). let a = some.1 in omega arith)
              (λ (none : (state.cursor.w ≡ 0) × (state.cursor.h ≡ 0)). let a = none.0 in omega arith)
              ok.shape.sides;
          few_rows = ⊎_elim
              (λ (some : (1 ≤ state.cursor.w) × (state.cursor.w ≤ 32) × (1 ≤ state.cursor.h) × (state.cursor.h ≤ 32)). let a = some.3 in omega arith)
              (λ (none : (state.cursor.w ≡ 0) × (state.cursor.h ≡ 0)). let a = none.1 in omega arith)
              ok.shape.sides;
          cells = λ i four below.
              let one : (i == 1) ≡ false = grind (arith, nat_tests) in
              let two : (i == 2) ≡ false = grind (arith, nat_tests) in
              let three : (i == 3) ≡ false = grind (arith, nat_tests) in
              let here : head_word_of table i ≡ cell_value table.cursor ((i - 4) % 32) ((i - 4) / 32) = rw (one, two, three) refl in
              subst (λ n. n < 4294967296) (sym (head_said (slice_index words) table spell i (omega arith) (omega arith) ∙ here)) (cell_low ((i - 4) % 32) ((i - 4) / 32));
        }
      where
        low : (x y : ℕ) (shown : Bool) → x < 65536 → y < 65536 → (x + y * 65536 + (if shown then 4294967296 else 0)) / 4294967296 ≤ 1
        low x y true a b = omega arith
        low x y false a b = omega arith

    published_table : IsTable size admitted stamp words
    published_table = record {
      stamp_is = head_said (slice_index words) table spell 1 (omega arith) (omega arith) ∙ is.stamp_is;
      revisions = λ s low. subst (λ n. 1 ≤ n) (sym (row_said (slice_index words) table spell s 1 low (omega arith) (omega arith))) (row_fits s low).revision;
      few = λ s low. subst (λ n. n ≤ 256) (sym (count_is s low)) (row_fits s low).few;
      inside = λ s j low within. let at = rect_is s j some_rect low within in subst (IsOnScreen size) (sym at.1) (rect_on s j some_rect low at.0);
      apart = rects_apart;
      owners = λ s low. subst (λ n. n ≤ admitted) (sym (owner_said (slice_index words) table spell s low)) (row_fits s low).owner;
      unowned = λ s low none. count_is s low ∙ ap (λ (l : List Rect). length l) ((row_fits s low).unowned (sym (owner_said (slice_index words) table spell s low) ∙ none));
      origins = λ s low. let fits = row_fits s low in subst IsPlaced (sym (ap origin_from (row_said (slice_index words) table spell s 2 low (omega arith) (omega arith)) ∙ origin_read (row_of table s).origin fits.placed)) fits.placed;
      cursor = cursor_in;
    }

pub publish_law : PublishLaw
publish_law = record {
  opens = (record { said = λ index is said. at_opening index (table_below index is) ∙ sym (opening_words index) }, opening_spellable);
  published = λ size admitted stamp state table words screen is ok spell.
      (published_table size admitted stamp state table screen is ok words spell, spellable size admitted stamp state table screen is ok, spelling_law (slice_index words) table (spellable size admitted stamp state table screen is ok) spell);
}

-- ---- one table after another

pub follow_law : FollowLaw
follow_law before after t u ok_t ok_u rows spell_t spell_u = λ s low. ⊎_elim
    (λ (same : row_of before s ≡ row_of after s). inr (same_row s low same))
    (λ (more : (row_of before s).revision < (row_of after s).revision).
    let a = row_said (slice_index t) before spell_t s 1 low (omega arith) (omega arith) in let b = row_said (slice_index u) after spell_u s 1 low (omega arith) (omega arith) in
    inl (subst (λ n. n < revision_in u s) (sym a) (subst (λ n. (row_of before s).revision < n) (sym b) more)))
    (rows s low)
  where
    few_of : (table : Table) (s : ℕ) → IsSpellable table → s < 33 → length (row_of table s).rects ≤ 256
    few_of table s ok low = let whole = ok.whole in (All-get_or IsSpellableRow table.rows s no_row (omega arith) ok.rows).few

    same_row : (s : ℕ) → s < 33 → row_of before s ≡ row_of after s → SameRow t u s
    same_row s low same =
        let T : ℕ → ℕ = slice_index t in let U : ℕ → ℕ = slice_index u in
        let few : length (row_of before s).rects ≤ 256 = few_of before s ok_t low in
        let few' : length (row_of after s).rects ≤ 256 = few_of after s ok_u low in
        let count : count_in t s ≡ length (row_of before s).rects = row_said T before spell_t s 3 low (omega arith) (omega arith) in
        let some : Rect = record { x = pos 0; y = pos 0; w = 0; h = 0 } in
        record {
          owner = owner_said T before spell_t s low ∙ ap (λ (r : Row). owner_word r.owner) same ∙ sym (owner_said U after spell_u s low);
          revision = row_said T before spell_t s 1 low (omega arith) (omega arith) ∙ ap (λ (r : Row). r.revision) same ∙ sym (row_said U after spell_u s 1 low (omega arith) (omega arith));
          origin = row_said T before spell_t s 2 low (omega arith) (omega arith) ∙ ap (λ (r : Row). origin_word r.origin) same ∙ sym (row_said U after spell_u s 2 low (omega arith) (omega arith));
          count = count ∙ ap (λ (r : Row). length r.rects) same ∙ sym (row_said U after spell_u s 3 low (omega arith) (omega arith));
          rects = λ j within.
              let here : j < length (row_of before s).rects = omega arith in
              let there : j < length (row_of after s).rects = subst (λ (r : Row). j < length r.rects) same here in
              rect_said T before spell_t s j some low few here ∙ ap (λ (r : Row). packed (get_or r.rects j some)) same ∙ sym (rect_said U after spell_u s j some low few' there);
        }

-- ---- a turn that changes no row and no cursor

-- the words of the cursor
abbrev not_stamp : Table → ℕ → ℕ
not_stamp table index = if index == 2 then place_word table.cursor else if index == 3 then shape_word table.cursor else cell_value table.cursor ((index - 4) % 32) ((index - 4) / 32)

pub still_law : StillLaw
still_law = record {
  restamped = λ table stamp t u spell now same. record {
    said = λ index is said. dite (ℕ_discrete index 1)
        (λ (one : index ≡ 1). ap (slice_index u) one ∙ now ∙ ap (word_of_table (record table { stamp = stamp })) (sym one))
        (λ (ne : index ≢ 1). let other : (index == 1) ≡ false = Rattle.std.proofs.Common.ne_eqb index 1 ne in
        same index is ne ∙ spell.said index is said
        ∙ ap (λ b. if nat_lt index 2052 then (if b then table.stamp else not_stamp table index) else row_word_of (row_of table ((index - 2052) / 260)) ((index - 2052) % 260)) other
        ∙ sym (ap (λ b. if nat_lt index 2052 then (if b then stamp else not_stamp table index) else row_word_of (row_of table ((index - 2052) / 260)) ((index - 2052) % 260)) other));
  };
  carried = λ setting before after command reply log picks rows cursor why. ⊎_elim
      (λ refused. refused_carried setting before after command reply log picks refused cursor)
      (λ unmoved. still_carried setting before after command reply log picks rows cursor unmoved)
      why;
  refused = λ setting before after command reply log picks cursor refused. refused_carried setting before after command reply log picks refused cursor;
  gone = λ setting table slot sheet. gone_carried setting table.cursor (owns (layout_of_table setting.size table) slot) (row_of table slot).origin sheet Gone refl;
}
