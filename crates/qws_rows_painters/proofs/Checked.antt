-- Rows whose rectangles stand one right of the other are those of a table.
use Rattle.std.proofs.Common.{◌≡◌, ◌≢◌, ℕ, zero, suc, ◌+◌, ◌*◌, ◌/◌, ◌%◌, ◌^◌, ◌<◌, ◌≤◌, ◌⊎◌, inl, inr, ⊎_elim, List, sym, refl, ap, ◌∙◌, subst, arith, ◌+ℤ◌}
use Rattle.std.specs.Prelude.{slice_index, pos, int_le, int_lt}
use Rattle.std.proofs.lemmas.Int.{ints}
use Rattle.std.proofs.lemmas.Bool.{and_parts, cases_lt}
use mathlib.Core.Logic.{dite}
use native.Mathlib.Decide.{ℕ_discrete}
use Rattle.qws_base.specs.Sides.{Sides}
use Rattle.qws_base.specs.Points.{spans, pixel_count, point_of}
use Rattle.qws_base.specs.declared.points.Rect.{Rect}
use Rattle.region_table.specs.Packing.{unpacked}
use Rattle.turn_logs.specs.Tables.{count_in, rect_in, revision_in, RectHas, RowHas, IsOnScreen, IsCursorIn, IsTable, SameRow}
use Rattle.qws_rows_painters.specs.Checks.{IsRowIn, left_in, right_in, StandInRow, ComesBefore, StandBefore, AreRows, AreCells}

last : (k n : ℕ) → k < n + 1 → (k < n) ⊎ (k ≡ n)
last k n lt = ⊎_elim (λ (low : k < n). inl low) (λ (high : n ≤ k). inr (omega arith)) (cases_lt k n)

compare : (a b : ℕ) → (a < b) ⊎ ((a ≡ b) ⊎ (b < a))
compare a b = ⊎_elim (λ (low : a < b). inl low)
    (λ (high : b ≤ a). dite (ℕ_discrete a b) (λ (eq : a ≡ b). inr (inl eq)) (λ (ne : a ≢ b). inr (inr (omega arith))))
    (cases_lt a b)

-- ---- the rectangles of a row

pub none_in_row : (size : Sides) (t : List ℕ) (s from : ℕ) → StandInRow size t s 0 from from
none_in_row size t s from = record {
  rising = omega arith;
  inside = λ j lt. absurd (omega arith);
  left = λ j lt. absurd (omega arith);
  right = λ j lt. absurd (omega arith);
  order = λ j k less lt. absurd (omega arith);
}

pub more_in_row : (size : Sides) (t : List ℕ) (s n from past : ℕ) → StandInRow size t s n from past → IsOnScreen size (unpacked (rect_in t s n)) → past ≤ left_in t s n
    → StandInRow size t s (n + 1) from (right_in t s n)
more_in_row size t s n from past is on le = let rising = is.rising in record {
  rising = omega arith;
  inside = λ j lt. ⊎_elim (is.inside j) (λ (e : j ≡ n). subst (λ i. IsOnScreen size (unpacked (rect_in t s i))) (sym e) on) (last j n lt);
  left = λ j lt. ⊎_elim (is.left j) (λ (e : j ≡ n). subst (λ i. from ≤ left_in t s i) (sym e) (omega arith)) (last j n lt);
  right = λ j lt. ⊎_elim (λ (low : j < n). let r = is.right j low in omega arith) (λ (e : j ≡ n). subst (λ i. right_in t s i ≤ right_in t s n) (sym e) (omega arith)) (last j n lt);
  order = λ j k less lt. ⊎_elim (is.order j k less) (λ (e : k ≡ n). subst (λ i. right_in t s j ≤ left_in t s i) (sym e) (let r = is.right j (omega arith) in omega arith)) (last k n lt);
}

-- ---- the rows

pub no_rows : (size : Sides) (admitted : ℕ) (t : List ℕ) → StandBefore size admitted t 0 0
no_rows size admitted t = record {
  rows = λ s lt. absurd (omega arith);
  inside = λ s j lt at. absurd (omega arith);
  right = λ s j lt at. absurd (omega arith);
  order = λ s r j k low high a b before. absurd (omega arith);
}

pub more_rows : (size : Sides) (admitted : ℕ) (t : List ℕ) (n past next : ℕ) → StandBefore size admitted t n past → IsRowIn admitted t n → StandInRow size t n (count_in t n) past next
    → StandBefore size admitted t (n + 1) next
more_rows size admitted t n past next is row stand = let rising = stand.rising in record {
  rows = λ s lt. ⊎_elim (is.rows s) (λ (e : s ≡ n). subst (IsRowIn admitted t) (sym e) row) (last s n lt);
  inside = λ s j lt at. ⊎_elim (λ (low : s < n). is.inside s j low at) (λ (e : s ≡ n). subst (λ i. IsOnScreen size (unpacked (rect_in t i j))) (sym e) (stand.inside j (in_last s j e at))) (last s n lt);
  right = λ s j lt at. ⊎_elim (λ (low : s < n). let r = is.right s j low at in omega arith) (λ (e : s ≡ n). subst (λ i. right_in t i j ≤ next) (sym e) (stand.right j (in_last s j e at))) (last s n lt);
  order = λ s r j k low_s low_r a b before. ⊎_elim
      (λ (low : r < n). is.order s r j k (earlier s r j k low before) low a b before)
      (λ (e : r ≡ n). subst (λ i. right_in t s j ≤ left_in t i k) (sym e) (⊎_elim
      (λ (low : s < n). let x = is.right s j low a in let y = stand.left k (in_last r k e b) in omega arith)
      (λ (same : s ≡ n). subst (λ i. right_in t i j ≤ left_in t n k) (sym same) (stand.order j k (within s r j k same e before) (in_last r k e b)))
      (last s n low_s)))
      (last r n low_r);
}
  where
    in_last : (s j : ℕ) → s ≡ n → j < count_in t s → j < count_in t n
    in_last s j e at = subst (λ i. j < count_in t i) e at

    earlier : (s r j k : ℕ) → r < n → ComesBefore s j r k → s < n
    earlier s r j k low before = ⊎_elim (λ (x : s < r). omega arith) (λ (y : (s ≡ r) × (j < k)). let e = y.0 in omega arith) before

    within : (s r j k : ℕ) → s ≡ n → r ≡ n → ComesBefore s j r k → j < k
    within s r j k a b before = ⊎_elim (λ (x : s < r). absurd (omega arith)) (λ (y : (s ≡ r) × (j < k)). y.1) before

-- ---- a table

-- a pixel that a rectangle has lies between its columns
columns : (size : Sides) (word p : ℕ) → RectHas size word p → (word % 2 ^ 16 ≤ p % size.w) × (p % size.w < word % 2 ^ 16 + word / 2 ^ 32 % 2 ^ 16)
columns size word p has =
    let r : Rect = unpacked word in
    let both = and_parts (spans r.x r.w (pos (p % size.w))) (spans r.y r.h (pos (p / size.w))) has in
    let x = and_parts (int_le r.x (pos (p % size.w))) (int_lt (pos (p % size.w)) (r.x +ℤ pos r.w)) both.0 in
    let a = x.0 in let b = x.1 in
    (grind (arith, ints), grind (arith, ints))

not_both : (size : Sides) (admitted : ℕ) (t : List ℕ) (past s r j k p : ℕ) → StandBefore size admitted t 33 past → s < 33 → r < 33 → RowHas size t s j p → RowHas size t r k p → ComesBefore s j r k → ⊥
not_both size admitted t past s r j k p is low_s low_r a b before =
    let x = columns size (rect_in t s j) p a.1 in let y = columns size (rect_in t r k) p b.1 in
    let x1 = x.1 in let y0 = y.0 in
    let o = is.order s r j k low_s low_r a.0 b.0 before in absurd (omega arith)

apart : (size : Sides) (admitted : ℕ) (t : List ℕ) (past s r j k p : ℕ) → StandBefore size admitted t 33 past → s < 33 → r < 33 → RowHas size t s j p → RowHas size t r k p → (s ≡ r) × (j ≡ k)
apart size admitted t past s r j k p is low_s low_r a b =
    let none = not_both size admitted t past s r j k p is low_s low_r a b in
    let back = not_both size admitted t past r s k j p is low_r low_s b a in
    ⊎_elim (λ (lt : s < r). absurd (none (inl lt)))
    (⊎_elim (λ (eq : s ≡ r). ⊎_elim (λ (lt : j < k). absurd (none (inr (eq, lt))))
    (⊎_elim (λ (same : j ≡ k). (eq, same)) (λ (gt : k < j). absurd (back (inr (sym eq, gt))))) (compare j k))
    (λ (gt : r < s). absurd (back (inl gt))))
    (compare s r)

pub table : (size : Sides) (admitted stamp : ℕ) (t : List ℕ) → slice_index t 1 ≡ stamp → IsCursorIn size t → AreRows size admitted t 33 → IsTable size admitted stamp t
table size admitted stamp t stamped cursor rows = let is = rows.1 in record {
  stamp_is = stamped;
  revisions = λ s lt. (is.rows s lt).revision;
  few = λ s lt. (is.rows s lt).few;
  inside = λ s j lt at. is.inside s j lt at;
  apart = λ s r j k p low_s low_r within a b. apart size admitted t rows.0 s r j k p is low_s low_r a b;
  owners = λ s lt. (is.rows s lt).owner;
  unowned = λ s lt none. (is.rows s lt).unowned none;
  origins = λ s lt. (is.rows s lt).origin;
  cursor = cursor;
}

-- ---- rows that are the same

pub same_row : (t u : List ℕ) (s : ℕ) → count_in t s ≤ 256 → ((k : ℕ) → k < 260 → slice_index t (2052 + 260 * s + k) ≡ slice_index u (2052 + 260 * s + k)) → SameRow t u s
same_row t u s few same =
    let at : (a b : ℕ) → a ≡ b → slice_index t b ≡ slice_index u b → slice_index t a ≡ slice_index u a = λ a b e is. ap (slice_index t) e ∙ is ∙ ap (slice_index u) (sym e) in
    record {
      owner = at (2052 + 260 * s) (2052 + 260 * s + 0) (omega arith) (same 0 (omega arith));
      revision = same 1 (omega arith);
      origin = same 2 (omega arith);
      count = same 3 (omega arith);
      rects = λ j more. at (2052 + 260 * s + 4 + j) (2052 + 260 * s + (4 + j)) (omega arith) (same (4 + j) (omega arith));
    }
