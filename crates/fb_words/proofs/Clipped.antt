-- What a kept clip and the cursor's words are in the table that words spell.
use Rattle.std.proofs.Common.{◌≡◌, ℕ, ◌+◌, ◌*◌, ◌/◌, ◌%◌, ◌^◌, ◌<◌, ◌==◌, if◌then◌else◌, Bool, true, false, ◌&&◌, List, map, length, sym, refl, ap, ◌∙◌, arith, Some, None, pos, nat_abs, ◌-◌, ◌-ℤ◌, ◌+ℤ◌, int_le, int_lt}
use Rattle.std.specs.Prelude.{slice_index}
use Rattle.std.specs.Option.{option_map}
use Rattle.std.proofs.lemmas.Int.{ints}
use Rattle.std.proofs.lemmas.Nat.{mul-add-lt, div-mul-add, mod-mul-add}
use Rattle.std.proofs.lemmas.List.{length-map, get_or-map}
use Rattle.std.proofs.lemmas.List.FromFn.{fill_by_all, get_or-map-range_with_len}
use Rattle.qws_base.specs.Sides.{Sides}
use Rattle.qws_base.specs.Points.{spans, point_of}
use Rattle.region_table.specs.Numbers.{row_word, cell_word}
use Rattle.region_table.specs.Packing.{unpacked}
use Rattle.region_table.specs.Tables.{row_of, row_from, origin_from, owner_from, cells_from}
use Rattle.region_table.specs.Layouts.{row_holds, AreApart}
use Rattle.region_table.specs.declared.tables.Row.{Row}
use Rattle.region_table.proofs.Reading.{row_of_from}
use Rattle.region_table.proofs.Owning.{owns_row, words_apart}
use Rattle.fb_words.specs.declared.known.KeptClip.{KeptClip}
use Rattle.turn_logs.specs.Tables.{table_of, revision_in, IsTable}
use Rattle.fb_words.specs.Clips.{IsRowIn, row_of_clip, RowLaw}
use Rattle.fb_words.specs.Rights.{cell_over}
use Rattle.turn_logs.specs.Carries.{ShownCell, shown_cell}
use Rattle.std.proofs.lemmas.Bool.{and_parts}
use Rattle.qws_base.proofs.ListLemmas.{item_at}
use Rattle.fb_words.proofs.Places.{there}
use Rattle.fb_words.proofs.Rows.{look_true, spelt_row}

-- a current clip is the row of its slot in the table that the words spell
pub clip_row : (t : List ℕ) (c : ℕ) (clip : KeptClip) → clip.slot < 33 → IsRowIn t c clip → clip.revision ≡ revision_in t clip.slot → row_of (table_of t) clip.slot ≡ row_of_clip c clip
clip_row t c clip low row current = let s = clip.slot in let words : ℕ → ℕ = slice_index t in
    let rects : map (λ j. unpacked (words (row_word s + 4 + j))) (Rattle.std.specs.List.range_with_len 0 (length clip.rects)) ≡ map unpacked clip.rects =
    sym (fill_by_all (λ j. unpacked (words (row_word s + 4 + j))) (map unpacked clip.rects) (length clip.rects) (unpacked 0) (length-map clip.rects unpacked) (λ k below.
    let at = there clip.rects k below in get_or-map unpacked clip.rects k 0 (unpacked 0) below ∙ ap unpacked (item_at clip.rects k at.0 0 at.1 ∙ sym (row.rects k at.0 at.1)))) in
    row_of_from words s low
    ∙ ap (λ n. let r : Row = record { owner = owner_from n; revision = words (row_word s + 1); origin = origin_from (words (row_word s + 2)); rects = (row_from words s).rects } in r) row.owner
    ∙ ap (λ o. let r : Row = record { owner = o; revision = words (row_word s + 1); origin = origin_from (words (row_word s + 2)); rects = (row_from words s).rects } in r) (owner_some c)
    ∙ ap (λ n. let r : Row = record { owner = Some c; revision = n; origin = origin_from (words (row_word s + 2)); rects = (row_from words s).rects } in r) (sym current)
    ∙ ap (λ n. let r : Row = record { owner = Some c; revision = clip.revision; origin = origin_from n; rects = (row_from words s).rects } in r) row.origin
    ∙ ap (λ n. let r : Row = record { owner = Some c; revision = clip.revision; origin = origin_from clip.origin; rects = map (λ j. unpacked (words (row_word s + 4 + j))) (Rattle.std.specs.List.range_with_len 0 n) } in r) row.count
    ∙ ap (λ l. let r : Row = record { owner = Some c; revision = clip.revision; origin = origin_from clip.origin; rects = l } in r) rects
  where
    owner_some : (c : ℕ) → owner_from (c + 1) ≡ Some c
    owner_some c = let a : (c + 1 == 0) ≡ false = grind arith in let b : c + 1 - 1 ≡ c = omega arith in ap (λ x. if x then None else Some (c + 1 - 1)) a ∙ ap (λ n. Some n) b

-- the rows of a table are apart
pub table_apart : (size : Sides) (admitted stamp : ℕ) (t : List ℕ) → IsTable size admitted stamp t → AreApart size (table_of t)
table_apart size admitted stamp t is = words_apart size (slice_index t) (λ i j k l p low_i low_j within in_i in_j a b. (is.apart i j k l p low_i low_j within (in_i, a) (in_j, b)).0)

pub row_law : RowLaw
row_law = record {
  true_in = look_true;
  judged = spelt_row;
  row = λ size t c clip is current. clip_row t c clip is.slot_in (is.same current) current;
  pixels = λ size admitted stamp t c clip table is current p within.
      owns_row size (table_of t) clip.slot p (table_apart size admitted stamp t table) within
      ∙ ap (row_holds (point_of size.w p)) (clip_row t c clip is.slot_in (is.same current) current);
}

-- ---- the cursor's cells

cell_there : (words : ℕ → ℕ) (w h a b : ℕ) → a < w → b < h → slice_index (cells_from words w h) (b * w + a) ≡ words (cell_word a b)
unfolding cells_from
cell_there words w h a b in_w in_h =
    get_or-map-range_with_len (λ k. words (cell_word (k % w) (k / w))) 0 (w * h) (b * w + a) (b * w + a) 0 (mul-add-lt b w a h in_h in_w) (omega arith)
    ∙ ap (λ c. words (cell_word c ((b * w + a) / w))) (mod-mul-add b w a in_w) ∙ ap (λ r. words (cell_word a r)) (div-mul-add b w a in_w)

offset_within : (low at n : ℕ) → spans (pos low) n (pos at) ≡ true → nat_abs (pos at -ℤ pos low) < n
offset_within low at n h = let parts = and_parts (int_le (pos low) (pos at)) (int_lt (pos at) (pos low +ℤ pos n)) h in grind (arith, ints)

-- the shown cell on a pixel, by the words of the cursor's place and shape and by the cell's own word
pub shown_in : (size : Sides) (t : List ℕ) (p : ℕ)
    → shown_cell size (table_of t).cursor p ≡ option_map (λ at. let c : ShownCell = record { column = at.0; row = at.1; value = slice_index t (cell_word at.0 at.1) } in c) (cell_over size (slice_index t 2) (slice_index t 3) p)
shown_in size t p = let words : ℕ → ℕ = slice_index t in
    by_cell words (words 2 % 2 ^ 16) (words 2 / 2 ^ 16 % 2 ^ 16) (words 3 % 2 ^ 16) (words 3 / 2 ^ 16) (p % size.w) (p / size.w) (words 2 / 2 ^ 32 == 1)
    _ refl
  where
    by_cell : (words : ℕ → ℕ) (x y w h px py : ℕ) (shown b : Bool) → (shown && (spans (pos x) w (pos px) && spans (pos y) h (pos py))) ≡ b
        → option_map (λ a. let c : ShownCell = record { column = a.0; row = a.1; value = slice_index (cells_from words w h) (a.1 * w + a.0) } in c) (if b then Some (let q : ℕ × ℕ = (nat_abs (pos px -ℤ pos x), nat_abs (pos py -ℤ pos y)) in q) else None)
        ≡ option_map (λ a. let c : ShownCell = record { column = a.0; row = a.1; value = words (cell_word a.0 a.1) } in c) (if b then Some (let q : ℕ × ℕ = (nat_abs (pos px -ℤ pos x), nat_abs (pos py -ℤ pos y)) in q) else None)
    by_cell words x y w h px py shown false is = refl
    by_cell words x y w h px py shown true is =
        let on = (and_parts shown (spans (pos x) w (pos px) && spans (pos y) h (pos py)) is).1 in
        let parts = and_parts (spans (pos x) w (pos px)) (spans (pos y) h (pos py)) on in
        ap (λ v. let c : ShownCell = record { column = nat_abs (pos px -ℤ pos x); row = nat_abs (pos py -ℤ pos y); value = v } in Some c)
        (cell_there words w h (nat_abs (pos px -ℤ pos x)) (nat_abs (pos py -ℤ pos y)) (offset_within x px w parts.0) (offset_within y py h parts.1))
