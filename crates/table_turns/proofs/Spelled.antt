-- The table that is spelled after words of it are set.
use Rattle.std.proofs.Common.{◌≡◌, ℕ, ◌+◌, ◌-◌, ◌*◌, ◌/◌, ◌%◌, ◌<◌, ◌≤◌, ◌⊎◌, ◌==◌, nat_lt, if◌then◌else◌, Bool, true, false, inl, inr, ⊎_elim, List, length, sym, refl, ap, ◌∙◌, subst, arith}
use Rattle.std.specs.Prelude.{slice_index}
use Rattle.std.proofs.lemmas.Bool.{cases_lt, cases_eq, and_right}
use Rattle.std.proofs.lemmas.Bool.Decides.{nat_tests}
use Rattle.std.proofs.lemmas.List.{get_or-set_same, get_or-set_other}
use Rattle.qws_base.specs.Shown.{cell_at}
use Rattle.qws_base.specs.declared.windows.Cursor.{Cursor}
use Rattle.region_table.specs.Numbers.{row_word, IsTableWord}
use Rattle.region_table.specs.Tables.{no_row, row_of, place_word, shape_word, cell_value, head_word_of, row_word_of, word_of_table}
use Rattle.region_table.specs.Spelling.{Spell, IsSaid}
use Rattle.region_table.specs.declared.tables.Row.{Row}
use Rattle.region_table.specs.declared.tables.Table.{Table}
use Rattle.table_turns.specs.Writes.{Sets, SetsShape, WrittenLaw, with_row}

-- a word of the head, and one of a row
early_word : (table : Table) (index : ℕ) → index < 2052 → word_of_table table index ≡ head_word_of table index
early_word table index lt = let early : nat_lt index 2052 ≡ true = grind (arith, nat_tests) in
    ap (λ b. if b then head_word_of table index else row_word_of (row_of table ((index - 2052) / 260)) ((index - 2052) % 260)) early

late_word : (table : Table) (index : ℕ) → 2052 ≤ index → word_of_table table index ≡ row_word_of (row_of table ((index - 2052) / 260)) ((index - 2052) % 260)
late_word table index ge = let late : nat_lt index 2052 ≡ false = grind (arith, nat_tests) in
    ap (λ b. if b then head_word_of table index else row_word_of (row_of table ((index - 2052) / 260)) ((index - 2052) % 260)) late

-- ---- the stamp

abbrev after_stamp : Table → ℕ → ℕ
after_stamp table index = if index == 2 then place_word table.cursor else if index == 3 then shape_word table.cursor else cell_value table.cursor ((index - 4) % 32) ((index - 4) / 32)

stamped : (table : Table) (n : ℕ) (t u : List ℕ) → Spell (slice_index t) table → Sets 1 1 (λ k. n) t u → Spell (slice_index u) (record table { stamp = n })
stamped table n t u spell sets = record {
  said = λ index at said. ⊎_elim
      (λ (low : index < 2052). ⊎_elim
      (λ (is : index ≡ 1). ap (slice_index u) (let z : index ≡ 1 + 0 = omega arith in z) ∙ sets.set 0 (omega arith) ∙ sym (ap (word_of_table (record table { stamp = n })) is))
      (λ (isnt : index ≡ 1 → ⊥).
      let one : (index == 1) ≡ false = grind (arith, nat_tests) in
      sets.others index (aside index isnt) ∙ spell.said index at (inl low) ∙ early_word table index low
      ∙ ap (λ b. if b then table.stamp else after_stamp table index) one ∙ sym (ap (λ b. if b then n else after_stamp table index) one) ∙ sym (early_word (record table { stamp = n }) index low))
      (cases_eq index 1))
      (λ (high : 2052 ≤ index). sets.others index (inr (omega arith)) ∙ spell.said index at said ∙ late_word table index high ∙ sym (late_word (record table { stamp = n }) index high))
      (cases_lt index 2052);
}
  where
    aside : (index : ℕ) → (index ≡ 1 → ⊥) → (index < 1) ⊎ (1 + 1 ≤ index)
    aside index isnt = ⊎_elim (λ (lt : index < 1). inl lt) (λ (ge : 1 ≤ index). inr (⊎_elim (λ (lt : 1 < index). omega arith) (λ (le : index ≤ 1). absurd (isnt (omega arith))) (cases_lt 1 index))) (cases_lt index 1)

-- ---- the row of a slot

rowed : (table : Table) (slot : ℕ) (row : Row) (t u : List ℕ) → slot < length table.rows → length row.rects ≤ 256 → Spell (slice_index t) table
    → Sets (row_word slot) (4 + length row.rects) (row_word_of row) t u → Spell (slice_index u) (with_row table slot row)
rowed table slot row t u low few spell sets = record {
  said = λ index at said. ⊎_elim
      (λ (early : index < 2052). sets.others index (inl (omega arith)) ∙ spell.said index at (inl early) ∙ early_word table index early ∙ sym (early_word (with_row table slot row) index early))
      (λ (late : 2052 ≤ index). ⊎_elim (here index late said) (there index at late said) (cases_eq ((index - 2052) / 260) slot))
      (cases_lt index 2052);
}
  where
    said_late : (a : Table) (index : ℕ) → 2052 ≤ index → IsSaid a index → (index - 2052) % 260 < 4 + length (row_of a ((index - 2052) / 260)).rects
    said_late a index late said = ⊎_elim (λ (lt : index < 2052). absurd (omega arith)) (λ (s : (index - 2052) % 260 < 4 + length (row_of a ((index - 2052) / 260)).rects). s) said

    same_row : row_of (with_row table slot row) slot ≡ row
    same_row = get_or-set_same table.rows slot row no_row low

    other_row : (s : ℕ) → (s ≡ slot → ⊥) → row_of (with_row table slot row) s ≡ row_of table s
    other_row s isnt = get_or-set_other table.rows slot s row no_row isnt

    here : (index : ℕ) → 2052 ≤ index → IsSaid (with_row table slot row) index → (index - 2052) / 260 ≡ slot → slice_index u index ≡ word_of_table (with_row table slot row) index
    here index late said is =
        let k : ℕ = (index - 2052) % 260 in
        let r : row_of (with_row table slot row) ((index - 2052) / 260) ≡ row = ap (row_of (with_row table slot row)) is ∙ same_row in
        let within : k < 4 + length row.rects = subst (λ (a : Row). k < 4 + length a.rects) r (said_late (with_row table slot row) index late said) in
        let place : index ≡ 2052 + 260 * slot + k = place_of index ((index - 2052) / 260) slot late refl is in
        ap (slice_index u) place ∙ sets.set k within ∙ sym (late_word (with_row table slot row) index late ∙ ap (λ (a : Row). row_word_of a k) r)
      where
        place_of : (index s slot : ℕ) → 2052 ≤ index → (index - 2052) / 260 ≡ s → s ≡ slot → index ≡ 2052 + 260 * slot + (index - 2052) % 260
        place_of index s slot late a b = omega arith

    there : (index : ℕ) → IsTableWord index → 2052 ≤ index → IsSaid (with_row table slot row) index → ((index - 2052) / 260 ≡ slot → ⊥) → slice_index u index ≡ word_of_table (with_row table slot row) index
    there index at late said isnt =
        let s : ℕ = (index - 2052) / 260 in
        let r : row_of (with_row table slot row) s ≡ row_of table s = other_row s isnt in
        let within : (index - 2052) % 260 < 4 + length (row_of table s).rects = subst (λ (a : Row). (index - 2052) % 260 < 4 + length a.rects) r (said_late (with_row table slot row) index late said) in
        sets.others index (outside index s (4 + length row.rects) late refl isnt (omega arith)) ∙ spell.said index at (inr within) ∙ late_word table index late
        ∙ sym (late_word (with_row table slot row) index late ∙ ap (λ (a : Row). row_word_of a ((index - 2052) % 260)) r)
      where
        outside : (index s n : ℕ) → 2052 ≤ index → (index - 2052) / 260 ≡ s → (s ≡ slot → ⊥) → n ≤ 260 → (index < 2052 + 260 * slot) ⊎ (2052 + 260 * slot + n ≤ index)
        outside index s n late a isnt le = ⊎_elim
            (λ (lt : s < slot). inl (omega arith))
            (λ (ge : slot ≤ s). ⊎_elim (λ (gt : slot < s). inr (omega arith)) (λ (le : s ≤ slot). absurd (isnt (omega arith))) (cases_lt slot s))
            (cases_lt s slot)

-- ---- the cursor

same_cursor : (c d : Cursor) → c.w ≡ d.w → c.h ≡ d.h → c.cells ≡ d.cells → (record d { x = c.x; y = c.y; shown = c.shown }) ≡ c
same_cursor c d w h cells =
    ap (λ n. let k : Cursor = record { x = c.x; y = c.y; w = n; h = d.h; cells = d.cells; shown = c.shown } in k) (sym w)
    ∙ ap (λ n. let k : Cursor = record { x = c.x; y = c.y; w = c.w; h = n; cells = d.cells; shown = c.shown } in k) (sym h)
    ∙ ap (λ l. let k : Cursor = record { x = c.x; y = c.y; w = c.w; h = c.h; cells = l; shown = c.shown } in k) (sym cells)

-- the table with its cursor at another's place
abbrev at_place : Table → Cursor → Table
at_place table cursor = record table { cursor = record table.cursor { x = cursor.x; y = cursor.y; shown = cursor.shown } }

abbrev head_with : Table → ℕ → Bool → ℕ → ℕ
head_with table index b place = if index == 1 then table.stamp else if b then place else if index == 3 then shape_word table.cursor else cell_value table.cursor ((index - 4) % 32) ((index - 4) / 32)

placed : (table : Table) (cursor : Cursor) (t u : List ℕ) → cursor.w ≡ table.cursor.w → cursor.h ≡ table.cursor.h → cursor.cells ≡ table.cursor.cells → Spell (slice_index t) table
    → Sets 2 1 (λ k. place_word cursor) t u → Spell (slice_index u) (record table { cursor = cursor })
placed table cursor t u w h cells spell sets = subst (λ (c : Cursor). Spell (slice_index u) (record table { cursor = c })) (same_cursor cursor table.cursor w h cells) moved
  where
    aside : (index : ℕ) → (index ≡ 2 → ⊥) → (index < 2) ⊎ (2 + 1 ≤ index)
    aside index isnt = ⊎_elim (λ (lt : index < 2). inl lt) (λ (ge : 2 ≤ index). inr (⊎_elim (λ (lt : 2 < index). omega arith) (λ (le : index ≤ 2). absurd (isnt (omega arith))) (cases_lt 2 index))) (cases_lt index 2)

    moved : Spell (slice_index u) (at_place table cursor)
    moved = record {
      said = λ index at said. ⊎_elim
          (λ (low : index < 2052). ⊎_elim
          (λ (is : index ≡ 2). ap (slice_index u) (let z : index ≡ 2 + 0 = omega arith in z) ∙ sets.set 0 (omega arith) ∙ sym (ap (word_of_table (at_place table cursor)) is))
          (λ (isnt : index ≡ 2 → ⊥).
          let two : (index == 2) ≡ false = grind (arith, nat_tests) in
          sets.others index (aside index isnt) ∙ spell.said index at (inl low) ∙ early_word table index low
          ∙ ap (λ b. head_with table index b (place_word table.cursor)) two ∙ sym (ap (λ b. head_with table index b (place_word cursor)) two) ∙ sym (early_word (at_place table cursor) index low))
          (cases_eq index 2))
          (λ (high : 2052 ≤ index). sets.others index (inr (omega arith)) ∙ spell.said index at said ∙ late_word table index high ∙ sym (late_word (at_place table cursor) index high))
          (cases_lt index 2052);
    }

-- no cell past the rows of a shape
no_cell : (cursor : Cursor) (column row : ℕ) → cursor.h ≤ row → cell_value cursor column row ≡ 0
no_cell cursor column row past = let below : nat_lt row cursor.h ≡ false = grind (arith, nat_tests) in
    ap (λ b. if b then cell_at cursor (column, row) else 0) (and_right (nat_lt column cursor.w) (nat_lt row cursor.h) below)

abbrev with_cursor : Table → Cursor → Table
with_cursor table cursor = record table { cursor = cursor }

shaped : (table : Table) (cursor : Cursor) (t u : List ℕ) → place_word cursor ≡ place_word table.cursor → Spell (slice_index t) table → SetsShape cursor table.cursor.h t u → Spell (slice_index u) (record table { cursor = cursor })
shaped table cursor t u place spell sets = record {
  said = λ index at said. ⊎_elim
      (λ (low : index < 2052). early index at low)
      (λ (high : 2052 ≤ index). kept index (inl (omega arith)) (inr (omega arith)) (inr (few_rows index high)) ∙ spell.said index at said ∙ late_word table index high ∙ sym (late_word (with_cursor table cursor) index high))
      (cases_lt index 2052);
}
  where
    kept : (index : ℕ) → (3 ≤ index) ⊎ (index < 3) → (index < 3) ⊎ (3 + 1 ≤ index) → (index < 4) ⊎ (4 + 32 * sets.most ≤ index) → slice_index u index ≡ slice_index t index
    kept index any a b = sets.cells.others index b ∙ sets.sides.others index a

    few_rows : (index : ℕ) → 2052 ≤ index → 4 + 32 * sets.most ≤ index
    few_rows index high = let few = sets.few in omega arith

    early : (index : ℕ) → IsTableWord index → index < 2052 → slice_index u index ≡ word_of_table (with_cursor table cursor) index
    early index at low = ⊎_elim (first index at low) (later index at low) (cases_lt index 4)
      where
        first : (index : ℕ) → IsTableWord index → index < 2052 → index < 4 → slice_index u index ≡ word_of_table (with_cursor table cursor) index
        first index at low lt = ⊎_elim
            (λ (is : index ≡ 3). sets.cells.others index (inl lt) ∙ ap (slice_index sets.between) (let z : index ≡ 3 + 0 = omega arith in z) ∙ sets.sides.set 0 (omega arith) ∙ sym (ap (word_of_table (with_cursor table cursor)) is))
            (λ (isnt : index ≡ 3 → ⊥).
            let three : (index == 3) ≡ false = grind (arith, nat_tests) in
            let before : index < 3 = ⊎_elim (λ (l : index < 3). l) (λ (g : 3 ≤ index). absurd (isnt (omega arith))) (cases_lt index 3) in
            kept index (inr before) (inl before) (inl lt) ∙ spell.said index at (inl low) ∙ two index before at ∙ sym (two_after index before at))
            (cases_eq index 3)
          where
            is_two : (index : ℕ) → index < 3 → IsTableWord index → (index ≡ 1 → ⊥) → index ≡ 2
            is_two index lt at isnt = ⊎_elim
                (λ (a : (1 ≤ index) × (index ≤ 1027)). let one = a.0 in ⊎_elim (λ (l : index < 2). absurd (isnt (omega arith))) (λ (g : 2 ≤ index). let z : index ≡ 2 = omega arith in z) (cases_lt index 2))
                (λ (b : (2052 ≤ index) × (index ≤ 10631)). let far = b.0 in absurd (omega arith))
                at

            two : (index : ℕ) → index < 3 → IsTableWord index → word_of_table table index ≡ (if index == 1 then table.stamp else place_word table.cursor)
            two index lt at = ⊎_elim
                (λ (is : index ≡ 1). ap (λ i. word_of_table table i) is ∙ sym (ap (λ i. if i == 1 then table.stamp else place_word table.cursor) is))
                (λ (isnt : index ≡ 1 → ⊥). let is : index ≡ 2 = is_two index lt at isnt in ap (λ i. word_of_table table i) is ∙ sym (ap (λ i. if i == 1 then table.stamp else place_word table.cursor) is))
                (cases_eq index 1)

            two_after : (index : ℕ) → index < 3 → IsTableWord index → word_of_table (with_cursor table cursor) index ≡ (if index == 1 then table.stamp else place_word table.cursor)
            two_after index lt at = ⊎_elim
                (λ (is : index ≡ 1). ap (λ i. word_of_table (with_cursor table cursor) i) is ∙ sym (ap (λ i. if i == 1 then table.stamp else place_word table.cursor) is))
                (λ (isnt : index ≡ 1 → ⊥). let is : index ≡ 2 = is_two index lt at isnt in ap (λ i. word_of_table (with_cursor table cursor) i) is ∙ place ∙ sym (ap (λ i. if i == 1 then table.stamp else place_word table.cursor) is))
                (cases_eq index 1)

        later : (index : ℕ) → IsTableWord index → index < 2052 → 4 ≤ index → slice_index u index ≡ word_of_table (with_cursor table cursor) index
        later index at low ge = ⊎_elim
            (λ (set_ : index - 4 < 32 * sets.most).
            ap (slice_index u) (let z : index ≡ 4 + (index - 4) = omega arith in z) ∙ sets.cells.set (index - 4) set_ ∙ sym (early_word (with_cursor table cursor) index low ∙ cells (with_cursor table cursor) index ge))
            (λ (past : 32 * sets.most ≤ index - 4).
            let rows : sets.most ≤ (index - 4) / 32 = omega arith in
            let of_shape = sets.of_shape in
            let of_other = sets.of_other in
            kept index (inl (omega arith)) (inr (omega arith)) (inr (omega arith)) ∙ spell.said index at (inl low) ∙ early_word table index low ∙ cells table index ge
            ∙ no_cell table.cursor ((index - 4) % 32) ((index - 4) / 32) (omega arith) ∙ sym (no_cell cursor ((index - 4) % 32) ((index - 4) / 32) (omega arith)) ∙ sym (early_word (with_cursor table cursor) index low ∙ cells (with_cursor table cursor) index ge))
            (cases_lt (index - 4) (32 * sets.most))
          where
            cells : (a : Table) (index : ℕ) → 4 ≤ index → head_word_of a index ≡ cell_value a.cursor ((index - 4) % 32) ((index - 4) / 32)
            cells a index ge =
                let one : (index == 1) ≡ false = grind (arith, nat_tests) in
                let two : (index == 2) ≡ false = grind (arith, nat_tests) in
                let three : (index == 3) ≡ false = grind (arith, nat_tests) in
                ap (λ b. if b then a.stamp else if index == 2 then place_word a.cursor else if index == 3 then shape_word a.cursor else cell_value a.cursor ((index - 4) % 32) ((index - 4) / 32)) one
                ∙ ap (λ b. if b then place_word a.cursor else if index == 3 then shape_word a.cursor else cell_value a.cursor ((index - 4) % 32) ((index - 4) / 32)) two
                ∙ ap (λ b. if b then shape_word a.cursor else cell_value a.cursor ((index - 4) % 32) ((index - 4) / 32)) three

pub written_law : WrittenLaw
written_law = record { stamp = stamped; row = rowed; place = placed; shape = shaped }
