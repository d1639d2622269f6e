-- Where no point is in two rows, a slot owns the pixels of its row.
use Rattle.std.proofs.Common.{◌+◌, subst, map, ◌≡◌, ℕ, ◌<◌, ◌≤◌, nat_lt, cond, Bool, true, false, length, Option, Some, None, refl, sym, ap, ◌∙◌, arith, eq-eqb, ne_eqb, ⊎_elim}
use Rattle.std.specs.List.{position_or_len, range_with_len}
use Rattle.std.proofs.lemmas.List.Folds.{Any-from_list_any}
use Rattle.std.proofs.lemmas.List.FromFn.{length-map-range_with_len, get_or-map-range_with_len}
use Rattle.std.proofs.lemmas.Bool.{lt-ltb, cases_lt, cases_Bool}
use Rattle.std.proofs.lemmas.List.{get_or_past}
use Rattle.std.proofs.lemmas.List.Quantifiers.{position-Some}
use Rattle.std.proofs.lemmas.List.Sums.{position_or_len_is}
use Rattle.qws_base.specs.Sides.{Sides}
use Rattle.qws_base.specs.Points.{holds, point_of, pixel_count}
use Rattle.qws_base.specs.Windows.{owns, is_slot}
use Rattle.qws_base.specs.declared.points.Point.{Point}
use Rattle.region_table.specs.Numbers.{row_word}
use Rattle.region_table.specs.Packing.{unpacked}
use Rattle.region_table.specs.Tables.{no_row, row_of, row_from, rows_from, table_from}
use Rattle.region_table.proofs.Reading.{row_of_from}
use Rattle.qws_base.specs.declared.points.Rect.{Rect}
use Rattle.region_table.specs.Layouts.{row_holds, slot_at, layout_of_table, AreApart}
use Rattle.region_table.specs.declared.tables.Table.{Table}

-- a row that has a point stands in the table
row_within : (table : Table) (slot : ℕ) (p : Point) → row_holds p (row_of table slot) ≡ true → slot < length table.rows
row_within table slot p has = ⊎_elim
    (λ (low : slot < length table.rows). low)
    (λ (high : length table.rows ≤ slot). absurd (let none : row_holds p (row_of table slot) ≡ false = ap (row_holds p) (get_or_past table.rows slot no_row high) in cc))
    (cases_lt slot (length table.rows))

found_is : (table : Table) (slot : ℕ) (p : Point) → ((i j : ℕ) → row_holds p (row_of table i) ≡ true → row_holds p (row_of table j) ≡ true → i ≡ j) → row_holds p (row_of table slot) ≡ true → slot_at table p ≡ Some slot
found_is table slot p apart has =
    let low : slot < length table.rows = row_within table slot p has in
    let first : position_or_len (row_holds p) table.rows ≡ slot = position_or_len_is (row_holds p) table.rows slot no_row (omega arith)
    (λ k below. not_before k below (row_holds p (row_of table k)) refl) (λ more. has) in
    let within : nat_lt (position_or_len (row_holds p) table.rows) (length table.rows) ≡ true = lt-ltb (position_or_len (row_holds p) table.rows) (length table.rows) (omega arith) in
    ap (λ b. cond b (Some (position_or_len (row_holds p) table.rows)) None) within ∙ ap Some first
  where
    not_before : (k : ℕ) → k < slot → (b : Bool) → row_holds p (row_of table k) ≡ b → row_holds p (row_of table k) ≡ false
    not_before k below true e = absurd (let same : k ≡ slot = apart k slot e has in omega arith)
    not_before k below false e = e

by_found : (table : Table) (slot : ℕ) (p : Point) (found : Option ℕ) → slot_at table p ≡ found → row_holds p (row_of table slot) ≡ false → is_slot slot found ≡ false
by_found table slot p None is none = refl
by_found table slot p (Some k) is none =
    let here : row_holds p (row_of table k) ≡ true = (position-Some (row_holds p) table.rows k no_row is).1 in
    ne_eqb k slot (λ eq. let same : row_holds p (row_of table k) ≡ row_holds p (row_of table slot) = ap (λ s. row_holds p (row_of table s)) eq in cc)

pub owns_row : (size : Sides) (table : Table) (slot p : ℕ) → AreApart size table → p < pixel_count size → owns (layout_of_table size table) slot p ≡ row_holds (point_of size.w p) (row_of table slot)
owns_row size table slot p apart within = ⊎_elim
    (λ (has : row_holds (point_of size.w p) (row_of table slot) ≡ true). ap (is_slot slot) (found_is table slot (point_of size.w p) (λ i j. apart.apart i j p within) has) ∙ eq-eqb slot slot refl ∙ sym has)
    (λ (none : row_holds (point_of size.w p) (row_of table slot) ≡ false). by_found table slot (point_of size.w p) (slot_at table (point_of size.w p)) refl none ∙ sym none)
    (cases_Bool (row_holds (point_of size.w p) (row_of table slot)))

-- a row that words spell has a point where one of its rectangles has
rect_of_row : (words : ℕ → ℕ) (slot : ℕ) (p : Point) → slot < 33 → row_holds p (row_of (table_from words) slot) ≡ true
    → (k : ℕ) × (k < words (row_word slot + 3)) × (holds (unpacked (words (row_word slot + 4 + k))) p ≡ true)
rect_of_row words slot p low has =
    let n : ℕ = words (row_word slot + 3) in
    let rect : ℕ → Rect = λ j. unpacked (words (row_word slot + 4 + j)) in
    let some = Any-from_list_any (λ r. holds r p) (map rect (range_with_len 0 n)) (sym (ap (row_holds p) (row_of_from words slot low)) ∙ has) in
    let whole = length-map-range_with_len rect 0 n in
    let within : some.0 < n = subst (λ l. some.0 < l) whole some.2 in
    let here : rect some.0 ≡ some.1 = sym (get_or-map-range_with_len rect 0 n some.0 some.0 some.1 within (omega arith)) ∙ some.3 in
    (some.0, within, ap (λ r. holds r p) here ∙ some.4)

slot_of_words : (words : ℕ → ℕ) (slot : ℕ) (p : Point) → row_holds p (row_of (table_from words) slot) ≡ true → slot < 33
unfolding rows_from
slot_of_words words slot p has =
    let low = row_within (table_from words) slot p has in
    let whole = length-map-range_with_len (row_from words) 0 33 in omega arith

-- where no two rectangle words of different rows have a pixel of the screen, the rows that words spell are apart
pub words_apart : (size : Sides) (words : ℕ → ℕ)
    → ((i j k l p : ℕ) → i < 33 → j < 33 → p < pixel_count size → k < words (row_word i + 3) → l < words (row_word j + 3)
    → holds (unpacked (words (row_word i + 4 + k))) (point_of size.w p) ≡ true → holds (unpacked (words (row_word j + 4 + l))) (point_of size.w p) ≡ true → i ≡ j)
    → AreApart size (table_from words)
words_apart size words apart = record {
  apart = λ i j p within a b.
      let low_i = slot_of_words words i (point_of size.w p) a in
      let low_j = slot_of_words words j (point_of size.w p) b in
      let in_i = rect_of_row words i (point_of size.w p) low_i a in
      let in_j = rect_of_row words j (point_of size.w p) low_j b in
      apart i j in_i.0 in_j.0 p low_i low_j within in_i.1 in_j.1 in_i.2 in_j.2;
}
