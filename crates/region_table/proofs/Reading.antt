-- The words of a table are read as that table.
use Rattle.std.proofs.Common.{◌≡◌, ℕ, zero, suc, ◌+◌, ◌-◌, ◌*◌, ◌/◌, ◌%◌, ◌^◌, ◌<◌, ◌≤◌, ◌==◌, nat_lt, true, false, if◌then◌else◌, List, map, length, get_or, inl, inr, refl, sym, ap, ◌∙◌, subst, arith}
use Rattle.std.specs.Prelude.{slice_index}
use Rattle.std.specs.List.{range_with_len}
use Rattle.std.proofs.lemmas.Bool.{lt-ltb}
use Rattle.std.proofs.lemmas.Bool.Decides.{nat_tests}
use Rattle.std.proofs.Math.Nat.{div-lt_iff_lt-mul, mod-lt}
use Rattle.std.proofs.lemmas.Nat.{div-add-mod'}
use Rattle.std.proofs.lemmas.List.{get_or-map}
use Rattle.std.proofs.lemmas.List.Elements.{All-get_or}
use Rattle.std.proofs.lemmas.List.FromFn.{get_or-map-range_with_len, fill_by_all}
use Rattle.qws_base.specs.declared.points.Rect.{Rect}
use Rattle.qws_base.specs.declared.windows.Cursor.{Cursor}
use Rattle.qws_base.proofs.CauseLemmas.{few_sides}
use Rattle.region_table.specs.Numbers.{row_word, cell_word}
use Rattle.region_table.specs.Packing.{IsPackable, packed, unpacked}
use Rattle.region_table.specs.Tables.{no_row, row_of, owner_from, origin_from, place_word, shape_word, head_word_of, row_word_of, IsCursor, IsSpellableRow, IsSpellable, row_from, cells_from, cursor_from, rows_from, table_from}
use Rattle.region_table.specs.Spelling.{Spell, SpellingLaw}
use Rattle.region_table.specs.declared.tables.Row.{Row}
use Rattle.region_table.specs.declared.tables.Table.{Table}
use Rattle.region_table.proofs.Packs.{unpacked_packed, owner_read, origin_read, shown_read, x_read, y_read}

-- ---- rows

-- a slot's row in the table that words spell
pub row_of_from : (words : ℕ → ℕ) (slot : ℕ) → slot < 33 → row_of (table_from words) slot ≡ row_from words slot
unfolding rows_from
row_of_from words slot low = get_or-map-range_with_len (row_from words) 0 33 slot slot no_row low (omega arith)

-- the k-th word of a row
pub row_said : (words : ℕ → ℕ) (table : Table) (slot k : ℕ) → Spell words table → slot < 33 → k < 4 + length (row_of table slot).rects → k < 260 → words (row_word slot + k) ≡ row_word_of (row_of table slot) k
row_said words table slot k spell low few within =
    let index : ℕ = 2052 + 260 * slot + k in
    let at : (index - 2052) / 260 ≡ slot = omega arith in
    let rest : (index - 2052) % 260 ≡ k = omega arith in
    let P : ℕ → ℕ → Type 0 = λ s j. j < 4 + length (row_of table s).rects in
    let said : P ((index - 2052) / 260) ((index - 2052) % 260) = subst (λ s. P s ((index - 2052) % 260)) (sym at) (subst (P slot) (sym rest) few) in
    let past : nat_lt index 2052 ≡ false = grind (arith, nat_tests) in
    spell.said index (inr (omega arith, omega arith)) (inr said)
    ∙ ap (λ b. if b then head_word_of table index else row_word_of (row_of table ((index - 2052) / 260)) ((index - 2052) % 260)) past
    ∙ ap (λ s. row_word_of (row_of table s) ((index - 2052) % 260)) at
    ∙ ap (row_word_of (row_of table slot)) rest

rects_read : (words : ℕ → ℕ) (table : Table) (slot n : ℕ) → IsSpellableRow (row_of table slot) → Spell words table → slot < 33 → n ≡ length (row_of table slot).rects
    → map (λ j. unpacked (words (row_word slot + 4 + j))) (range_with_len 0 n) ≡ (row_of table slot).rects
rects_read words table slot n ok spell low is =
    let rects : List Rect = (row_of table slot).rects in
    let none : Rect = unpacked 0 in
    let few : length rects ≤ 256 = ok.few in
    sym (fill_by_all (λ j. unpacked (words (row_word slot + 4 + j))) rects n none (sym is) (λ k below.
    let within : k < length rects = omega arith in
    let word : words (row_word slot + (k + 4)) ≡ row_word_of (row_of table slot) (k + 4) = row_said words table slot (k + 4) spell low (omega arith) (omega arith) in
    let place : row_word slot + 4 + k ≡ row_word slot + (k + 4) = omega arith in
    let here : k + 4 - 4 ≡ k = omega arith in
    let value : row_word_of (row_of table slot) (k + 4) ≡ packed (get_or rects k none) =
    past_four (row_of table slot) k ∙ ap (slice_index (map packed rects)) here ∙ get_or-map packed rects k none 0 within in
    sym (ap (λ x. unpacked (words x)) place ∙ ap unpacked (word ∙ value) ∙ unpacked_packed (get_or rects k none) (All-get_or IsPackable rects k none within ok.packable))))
  where
    past_four : (row : Row) (k : ℕ) → row_word_of row (k + 4) ≡ slice_index (map packed row.rects) (k + 4 - 4)
    past_four row k =
        let a : (k + 4 == 0) ≡ false = grind (arith, nat_tests) in
        let b : (k + 4 == 1) ≡ false = grind (arith, nat_tests) in
        let c : (k + 4 == 2) ≡ false = grind (arith, nat_tests) in
        let d : (k + 4 == 3) ≡ false = grind (arith, nat_tests) in
        rw (a, b, c, d) refl

same_row : (r s : Row) → r.owner ≡ s.owner → r.revision ≡ s.revision → r.origin ≡ s.origin → r.rects ≡ s.rects → r ≡ s
same_row r s a b c d =
    ap (λ o. record r { owner = o }) a
    ∙ ap (λ n. record r { owner = s.owner; revision = n }) b
    ∙ ap (λ p. record r { owner = s.owner; revision = s.revision; origin = p }) c
    ∙ ap (λ l. record s { rects = l }) d

pub row_read : (words : ℕ → ℕ) (table : Table) (slot : ℕ) → IsSpellableRow (row_of table slot) → Spell words table → slot < 33 → row_from words slot ≡ row_of table slot
row_read words table slot ok spell low =
    let first : row_word slot ≡ row_word slot + 0 = omega arith in
    same_row (row_from words slot) (row_of table slot)
    (ap owner_from (ap words first ∙ row_said words table slot 0 spell low (omega arith) (omega arith)) ∙ owner_read (row_of table slot).owner)
    (row_said words table slot 1 spell low (omega arith) (omega arith))
    (ap origin_from (row_said words table slot 2 spell low (omega arith) (omega arith)) ∙ origin_read (row_of table slot).origin ok.placed)
    (rects_read words table slot (words (row_word slot + 3)) ok spell low (row_said words table slot 3 spell low (omega arith) (omega arith)))

rows_read : (words : ℕ → ℕ) (table : Table) → IsSpellable table → Spell words table → rows_from words ≡ table.rows
unfolding rows_from
rows_read words table ok spell =
    let whole : length table.rows ≡ 33 = ok.whole in
    sym (fill_by_all (row_from words) table.rows 33 no_row whole (λ k low.
    sym (row_read words table k (All-get_or IsSpellableRow table.rows k no_row (omega arith) ok.rows) spell low)))

-- ---- the cursor

-- a word of the stamp or the cursor
head_said : (words : ℕ → ℕ) (table : Table) (index : ℕ) → Spell words table → 1 ≤ index → index ≤ 1027 → words index ≡ head_word_of table index
head_said words table index spell low high =
    let early : nat_lt index 2052 ≡ true = grind (arith, nat_tests) in
    spell.said index (inl (low, high)) (inl (omega arith))
    ∙ ap (λ b. if b then head_word_of table index else row_word_of (row_of table ((index - 2052) / 260)) ((index - 2052) % 260)) early

pos_left : (w h k : ℕ) → k < w * h → 0 < w
pos_left zero h k below = absurd (omega arith)
pos_left (suc w) h k below = omega arith

cell_here : (table : Table) (a b : ℕ) → a < table.cursor.w → b < table.cursor.h → a < 32 → head_word_of table (4 + 32 * b + a) ≡ slice_index table.cursor.cells (b * table.cursor.w + a)
cell_here table a b in_w in_h low =
    let index : ℕ = 4 + 32 * b + a in
    let one : (index == 1) ≡ false = grind (arith, nat_tests) in
    let two : (index == 2) ≡ false = grind (arith, nat_tests) in
    let three : (index == 3) ≡ false = grind (arith, nat_tests) in
    let column : (index - 4) % 32 ≡ a = omega arith in
    let row : (index - 4) / 32 ≡ b = omega arith in
    let within_w : nat_lt a table.cursor.w ≡ true = lt-ltb a table.cursor.w in_w in
    let within_h : nat_lt b table.cursor.h ≡ true = lt-ltb b table.cursor.h in_h in
    rw (one, two, three, column, row, within_w, within_h) refl

cells_read : (words : ℕ → ℕ) (table : Table) → IsCursor table.cursor → Spell words table → cells_from words table.cursor.w table.cursor.h ≡ table.cursor.cells
unfolding cells_from
cells_read words table ok spell =
    let w : ℕ = table.cursor.w in
    let h : ℕ = table.cursor.h in
    let cells : List ℕ = table.cursor.cells in
    sym (fill_by_all (λ k. words (cell_word (k % w) (k / w))) cells (w * h) 0 ok.shape.cells (λ k below. sym (cell_read k below)))
  where
    cell_read : (k : ℕ) → k < table.cursor.w * table.cursor.h → words (cell_word (k % table.cursor.w) (k / table.cursor.w)) ≡ get_or table.cursor.cells k 0
    cell_read k below =
        let w : ℕ = table.cursor.w in
        let h : ℕ = table.cursor.h in
        let few_w : w ≤ 32 = (few_sides table.cursor ok.shape).0 in
        let few_h : h ≤ 32 = (few_sides table.cursor ok.shape).1 in
        let some : 0 < w = pos_left w h k below in
        let a : ℕ = k % w in
        let b : ℕ = k / w in
        let in_w : a < w = mod-lt k some in
        let in_h : b < h = (div-lt_iff_lt-mul some).1 (omega arith) in
        head_said words table (4 + 32 * b + a) spell (omega arith) (omega arith)
        ∙ cell_here table a b in_w in_h (omega arith)
        ∙ ap (slice_index table.cursor.cells) (div-add-mod' k w)

same_cursor : (c d : Cursor) → c.x ≡ d.x → c.y ≡ d.y → c.w ≡ d.w → c.h ≡ d.h → c.cells ≡ d.cells → c.shown ≡ d.shown → c ≡ d
same_cursor c d x y w h cells shown =
    ap (λ v. record c { x = v }) x
    ∙ ap (λ v. record c { x = d.x; y = v }) y
    ∙ ap (λ v. record c { x = d.x; y = d.y; w = v }) w
    ∙ ap (λ v. record c { x = d.x; y = d.y; w = d.w; h = v }) h
    ∙ ap (λ v. record c { x = d.x; y = d.y; w = d.w; h = d.h; cells = v }) cells
    ∙ ap (λ v. record d { shown = v }) shown

pub cursor_read : (words : ℕ → ℕ) (table : Table) → IsCursor table.cursor → Spell words table → cursor_from words ≡ table.cursor
cursor_read words table ok spell =
    let cursor : Cursor = table.cursor in
    let in_columns : cursor.x < 640 = ok.in_columns in
    let in_rows : cursor.y < 480 = ok.in_rows in
    let few_w : cursor.w ≤ 32 = (few_sides cursor ok.shape).0 in
    let few_h : cursor.h ≤ 32 = (few_sides cursor ok.shape).1 in
    let place : words 2 ≡ place_word cursor = head_said words table 2 spell (omega arith) (omega arith) in
    let shape : words 3 ≡ shape_word cursor = head_said words table 3 spell (omega arith) (omega arith) in
    let w : words 3 % 2 ^ 16 ≡ cursor.w = ap (λ n. n % 65536) shape ∙ omega arith in
    let h : words 3 / 2 ^ 16 ≡ cursor.h = ap (λ n. n / 65536) shape ∙ omega arith in
    same_cursor (cursor_from words) cursor
    (ap (λ n. n % 65536) place ∙ x_read cursor.x cursor.y cursor.shown (omega arith) (omega arith))
    (ap (λ n. n / 65536 % 65536) place ∙ y_read cursor.x cursor.y cursor.shown (omega arith) (omega arith))
    w
    h
    (ap (λ n. cells_from words n (words 3 / 65536)) w ∙ ap (cells_from words cursor.w) h ∙ cells_read words table ok spell)
    (ap (λ n. n / 4294967296 == 1) place ∙ shown_read cursor.x cursor.y cursor.shown (omega arith) (omega arith))

pub spelling_law : SpellingLaw
spelling_law words table ok spell =
    ap (λ n. record { stamp = n; cursor = cursor_from words; rows = rows_from words }) (head_said words table 1 spell (omega arith) (omega arith))
    ∙ ap (λ c. record { stamp = table.stamp; cursor = c; rows = rows_from words }) (cursor_read words table ok.cursor spell)
    ∙ ap (λ r. record table { rows = r }) (rows_read words table ok spell)
