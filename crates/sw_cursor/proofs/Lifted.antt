-- The items of one cell after another.
use Rattle.std.proofs.Common.{◌≡◌, ℕ, zero, suc, ◌+◌, ◌-◌, ◌*◌, ◌/◌, ◌%◌, ◌<◌, ◌≤◌, nat_lt, ⊎_elim, inl, inr, if◌then◌else◌, Bool, true, false, List, [], ◌∷◌, ◌++◌, append-nil, append_assoc, sym, refl, ap, ◌∙◌, subst, arith, Option, Some, None, pos, ◌+ℤ◌, int_le, int_lt}
use Rattle.std.specs.List.{range_with_len}
use native.Mathlib.Numerals.{unary_clauses}
use Rattle.std.proofs.lemmas.Bool.{lt-ltb}
use Rattle.std.proofs.lemmas.Bool.Decides.{nat_tests}
use Rattle.turn_logs.specs.declared.items.Item.{Item}
use Rattle.std.proofs.lemmas.Nat.{div-add-mod', div-mul-add, mod-mul-add}
use Rattle.std.proofs.lemmas.Int.{ints}
use Rattle.std.proofs.lemmas.Bool.{and_parts}
use Rattle.qws_base.specs.Points.{spans, is_on_screen}
use Rattle.qws_base.specs.Shown.{IsShape}
use Rattle.qws_base.specs.declared.colours.Depth.{Depth}
use Rattle.region_table.specs.Tables.{cursor_from}
use Rattle.turn_logs.specs.Carries.{under_cell}
use Rattle.fb_words.specs.Rights.{cursor_at}
use Rattle.qws_base.specs.Sides.{Sides}
use Rattle.qws_base.specs.declared.windows.Cursor.{Cursor}
use Rattle.region_table.specs.Numbers.{pixel_word, saved_word}
use Rattle.turn_logs.specs.declared.items.Item.TheVariants.{Pick, Put}
use Rattle.turn_logs.specs.Phases.{pixel_under, lift_cell, lift_nth, lift_items, drop_cell, cell_in, drop_nth}
use Rattle.std.specs.List.{flat_map}
use Rattle.fb_words.specs.Steps.{after_read, after_write}
use Rattle.region_table.specs.Numbers.{IsLineWord}
use Rattle.fb_words.specs.Views.{HeadView}
use Rattle.region_table.proofs.Words.{line_is}
use Rattle.turn_logs.proofs.Options.{none_some, same_some}
use Rattle.sw_cursor.specs.Lifts.{Lifts, Drops, AddsCells, lift_one, drop_one}

same_cells : (f g : ℕ → List Item) (i n : ℕ) → ((k : ℕ) → i ≤ k → k < i + n → f k ≡ g k) → flat_map f (range_with_len i n) ≡ flat_map g (range_with_len i n)
same_cells f g i zero same = refl
same_cells f g i (suc n) same = ap (λ l. l ++ flat_map f (range_with_len (i + 1) n)) (same i (omega arith) (omega arith)) ∙ ap (λ l. g i ++ l) (same_cells f g (i + 1) n (λ k low high. same k (omega arith) (omega arith)))

more_cells : (f : ℕ → List Item) (i n m : ℕ) → flat_map f (range_with_len i (n + m)) ≡ flat_map f (range_with_len i n) ++ flat_map f (range_with_len (i + n) m)
more_cells f i zero m =
    ap (λ k. flat_map f (range_with_len i k)) (let z : 0 + m ≡ m = omega arith in z)
    ∙ ap (λ k. flat_map f (range_with_len k m)) (let z : i ≡ i + 0 = omega arith in z)
more_cells f i (suc n) m =
    ap (λ k. flat_map f (range_with_len i k)) (let z : suc n + m ≡ suc (n + m) = omega arith in z)
    ∙ ap (λ l. f i ++ l) (more_cells f (i + 1) n m)
    ∙ ap (λ k. f i ++ (flat_map f (range_with_len (i + 1) n) ++ flat_map f (range_with_len k m))) (let z : i + 1 + n ≡ i + suc n = omega arith in z)
    ∙ sym (append_assoc (f i) (flat_map f (range_with_len (i + 1) n)) (flat_map f (range_with_len (i + suc n) m)))

pub no_cells : (items : ℕ → ℕ → List Item) (from : ℕ) (before : List Item) → AddsCells items from 0 before before
no_cells items from before = record { found = λ k. 0; log = sym (append-nil before) }

pub one_cell : (items : ℕ → ℕ → List Item) (from n : ℕ) (before after : List Item) → after ≡ before ++ items from n → AddsCells items from 1 before after
one_cell items from n before after is = record { found = λ k. n; log = is ∙ ap (λ l. before ++ l) (sym (append-nil (items from n))) }

pub both_cells : (items : ℕ → ℕ → List Item) (from n m : ℕ) (a b d : List Item) → AddsCells items from n a b → AddsCells items (from + n) m b d → AddsCells items from (n + m) a d
both_cells items from n m a b d first second = record {
  found = found;
  log = second.log ∙ ap (λ l. l ++ flat_map (λ k. items k (second.found k)) (range_with_len (from + n) m)) first.log
      ∙ append_assoc a (flat_map (λ k. items k (first.found k)) (range_with_len from n)) (flat_map (λ k. items k (second.found k)) (range_with_len (from + n) m))
      ∙ ap (λ l. a ++ (l ++ flat_map (λ k. items k (second.found k)) (range_with_len (from + n) m))) (same_cells (λ k. items k (first.found k)) (λ k. items k (found k)) from n (λ k low high. ap (items k) (sym (before k high))))
      ∙ ap (λ l. a ++ (flat_map (λ k. items k (found k)) (range_with_len from n) ++ l)) (same_cells (λ k. items k (second.found k)) (λ k. items k (found k)) (from + n) m (λ k low high. ap (items k) (sym (later k low))))
      ∙ ap (λ l. a ++ l) (sym (more_cells (λ k. items k (found k)) from n m));
}
  where
    found : ℕ → ℕ
    found k = if nat_lt k (from + n) then first.found k else second.found k

    before : (k : ℕ) → k < from + n → found k ≡ first.found k
    before k lt = ap (λ x. if x then first.found k else second.found k) (lt-ltb k (from + n) lt)

    later : (k : ℕ) → from + n ≤ k → found k ≡ second.found k
    later k le = ap (λ x. if x then first.found k else second.found k) (let z : nat_lt k (from + n) ≡ false = grind (arith, nat_tests) in z)

-- ---- logs of a server turn

pub read_log : (h k : HeadView) (x n : ℕ) → IsLineWord x → k ≡ record h { server = after_read h.server x n } → k.server.log ≡ h.server.log ++ Pick x n ∷ []
read_log h k x n line is = ap (λ (a : HeadView). a.server.log) is ∙ ap (λ b. if b then h.server.log else h.server.log ++ Pick x n ∷ []) (line_is x line)

pub write_log : (h k : HeadView) (x n : ℕ) → IsLineWord x → k ≡ record h { server = after_write h.server x n } → k.server.log ≡ h.server.log ++ Put x n ∷ []
write_log h k x n line is = ap (λ (a : HeadView). a.server.log) is ∙ ap (λ b. if b then h.server.log else h.server.log ++ Put x n ∷ []) (line_is x line)

pub saved_line : (column row : ℕ) → column < 32 → row < 32 → IsLineWord (saved_word column row)
saved_line column row low high = inl (omega arith, omega arith)

pub pixel_line : (p : ℕ) → IsLineWord (pixel_word p)
pixel_line p = inr (omega arith)

-- ---- one cell

pub lift_some : (size : Sides) (cursor : Cursor) (column row p n : ℕ) → column < cursor.w → pixel_under size cursor column row ≡ Some p
    → lift_one size cursor (row * cursor.w + column) n ≡ Pick (saved_word column row) n ∷ Put (pixel_word p) n ∷ []
lift_some size cursor column row p n low is = let k : ℕ = row * cursor.w + column in
    ap (λ c. lift_cell c (k / cursor.w) (λ q. n) (pixel_under size cursor c (k / cursor.w))) (mod-mul-add row cursor.w column low)
    ∙ ap (λ r. lift_cell column r (λ q. n) (pixel_under size cursor column r)) (div-mul-add row cursor.w column low)
    ∙ ap (lift_cell column row (λ q. n)) is

pub lift_none : (size : Sides) (cursor : Cursor) (column row n : ℕ) → column < cursor.w → pixel_under size cursor column row ≡ None → lift_one size cursor (row * cursor.w + column) n ≡ []
lift_none size cursor column row n low is = let k : ℕ = row * cursor.w + column in
    ap (λ c. lift_cell c (k / cursor.w) (λ q. n) (pixel_under size cursor c (k / cursor.w))) (mod-mul-add row cursor.w column low)
    ∙ ap (λ r. lift_cell column r (λ q. n) (pixel_under size cursor column r)) (div-mul-add row cursor.w column low)
    ∙ ap (lift_cell column row (λ q. n)) is

-- ---- rows of cells

suc_rows : (row w : ℕ) → (row + 1) * w ≡ row * w + w
suc_rows row w = simp unary_clauses (omega arith)

pub row_more : (items : ℕ → ℕ → List Item) (row w : ℕ) (a b d : List Item) → AddsCells items 0 (row * w) a b → AddsCells items (row * w) w b d → AddsCells items 0 ((row + 1) * w) a d
row_more items row w a b d first second =
    subst (λ n. AddsCells items 0 n a d) (sym (suc_rows row w))
    (both_cells items 0 (row * w) w a b d first (subst (λ n. AddsCells items n w b d) (let z : row * w ≡ 0 + row * w = omega arith in z) second))

pub no_rows : (items : ℕ → ℕ → List Item) (w : ℕ) (before : List Item) → AddsCells items 0 (0 * w) before before
no_rows items w before = subst (λ n. AddsCells items 0 n before before) (let z : 0 ≡ 0 * w = omega arith in z) (no_cells items 0 before)

-- ---- what was found, by pixel

place_under : (size : Sides) (cursor : Cursor) (column row p : ℕ) → pixel_under size cursor column row ≡ Some p → (p % size.w ≡ cursor.x + column) × (p / size.w ≡ cursor.y + row)
place_under size cursor column row p is = go (is_on_screen size record { x = pos (cursor.x + column); y = pos (cursor.y + row) }) refl is
  where
    within : (n k : ℕ) → spans (pos 0) n (pos k) ≡ true → k < n
    within n k e = let parts = and_parts (int_le (pos 0) (pos k)) (int_lt (pos k) (pos 0 +ℤ pos n)) e in grind (arith, ints)

    go : (t : Bool) → is_on_screen size record { x = pos (cursor.x + column); y = pos (cursor.y + row) } ≡ t → (if t then Some ((cursor.y + row) * size.w + (cursor.x + column)) else None) ≡ Some p → (p % size.w ≡ cursor.x + column) × (p / size.w ≡ cursor.y + row)
    go false on e = none_some p e
    go true on e =
        let both = and_parts (spans (pos 0) size.w (pos (cursor.x + column))) (spans (pos 0) size.h (pos (cursor.y + row))) on in
        let x = within size.w (cursor.x + column) both.0 in
        let same = same_some ((cursor.y + row) * size.w + (cursor.x + column)) p e in
        (ap (λ q. q % size.w) (sym same) ∙ mod-mul-add (cursor.y + row) size.w (cursor.x + column) x, ap (λ q. q / size.w) (sym same) ∙ div-mul-add (cursor.y + row) size.w (cursor.x + column) x)

-- the number of the cell over a pixel
nth_over : Sides → Cursor → ℕ → ℕ
nth_over size cursor p = (p / size.w - cursor.y) * cursor.w + (p % size.w - cursor.x)

nth_is : (size : Sides) (cursor : Cursor) (k p : ℕ) → pixel_under size cursor (k % cursor.w) (k / cursor.w) ≡ Some p → nth_over size cursor p ≡ k
unfolding nth_over
nth_is size cursor k p is = let at = place_under size cursor (k % cursor.w) (k / cursor.w) p is in
    let column = at.0 in
    let row = at.1 in
    ap (λ r. r * cursor.w + (p % size.w - cursor.x)) (let z : p / size.w - cursor.y ≡ k / cursor.w = omega arith in z)
    ∙ ap (λ c. k / cursor.w * cursor.w + c) (let z : p % size.w - cursor.x ≡ k % cursor.w = omega arith in z) ∙ div-add-mod' k cursor.w

pub all_lifted : (size : Sides) (cursor : Cursor) (a b : List Item) → cursor.shown ≡ true → AddsCells (lift_one size cursor) 0 (cursor.w * cursor.h) a b → Lifts size cursor a b
all_lifted size cursor a b shown cells = record {
  found = found;
  log = cells.log ∙ ap (λ l. a ++ l) (same_cells (λ k. lift_one size cursor k (cells.found k)) (lift_nth size cursor found) 0 (cursor.w * cursor.h) (λ k low high. each k (pixel_under size cursor (k % cursor.w) (k / cursor.w)) refl)
      ∙ sym (ap (λ s. if s then flat_map (lift_nth size cursor found) (range_with_len 0 (cursor.w * cursor.h)) else []) shown));
}
  where
    found : ℕ → ℕ
    found p = cells.found (nth_over size cursor p)

    each : (k : ℕ) (o : Option ℕ) → pixel_under size cursor (k % cursor.w) (k / cursor.w) ≡ o → lift_cell (k % cursor.w) (k / cursor.w) (λ p. cells.found k) o ≡ lift_cell (k % cursor.w) (k / cursor.w) found o
    each k None is = refl
    each k (Some p) is = ap (λ n. Pick (saved_word (k % cursor.w) (k / cursor.w)) n ∷ Put (pixel_word p) n ∷ []) (ap cells.found (sym (nth_is size cursor k p is)))

pub none_lifted : (size : Sides) (cursor : Cursor) (a : List Item) → cursor.shown ≡ false → Lifts size cursor a a
none_lifted size cursor a hidden = record {
  found = λ p. 0;
  log = sym (ap (λ s. a ++ (if s then flat_map (lift_nth size cursor (λ p. 0)) (range_with_len 0 (cursor.w * cursor.h)) else [])) hidden ∙ append-nil a);
}

-- the cells don't matter
pub lifted_at : (size : Sides) (cursor : Cursor) (words : ℕ → ℕ) (a b : List Item) → cursor ≡ cursor_at (words 2) (words 3) → Lifts size cursor a b → Lifts size (cursor_from words) a b
lifted_at size cursor words a b is l = record { found = l.found; log = l.log ∙ ap (λ c. a ++ lift_items size c l.found) is }

-- ---- putting down

pub drop_some : (depth : Depth) (size : Sides) (cursor : Cursor) (column row p n : ℕ) → column < cursor.w → pixel_under size cursor column row ≡ Some p
    → drop_one depth size cursor (row * cursor.w + column) n ≡ Pick (pixel_word p) n ∷ Put (saved_word column row) n ∷ Put (pixel_word p) (under_cell depth (Some (cell_in cursor column row)) n) ∷ []
drop_some depth size cursor column row p n low is = let k : ℕ = row * cursor.w + column in
    ap (λ c. drop_cell depth (cell_in cursor c (k / cursor.w)) (λ q. n) (pixel_under size cursor c (k / cursor.w))) (mod-mul-add row cursor.w column low)
    ∙ ap (λ r. drop_cell depth (cell_in cursor column r) (λ q. n) (pixel_under size cursor column r)) (div-mul-add row cursor.w column low)
    ∙ ap (drop_cell depth (cell_in cursor column row) (λ q. n)) is

pub drop_none : (depth : Depth) (size : Sides) (cursor : Cursor) (column row n : ℕ) → column < cursor.w → pixel_under size cursor column row ≡ None → drop_one depth size cursor (row * cursor.w + column) n ≡ []
drop_none depth size cursor column row n low is = let k : ℕ = row * cursor.w + column in
    ap (λ c. drop_cell depth (cell_in cursor c (k / cursor.w)) (λ q. n) (pixel_under size cursor c (k / cursor.w))) (mod-mul-add row cursor.w column low)
    ∙ ap (λ r. drop_cell depth (cell_in cursor column r) (λ q. n) (pixel_under size cursor column r)) (div-mul-add row cursor.w column low)
    ∙ ap (drop_cell depth (cell_in cursor column row) (λ q. n)) is

pub all_dropped : (depth : Depth) (size : Sides) (cursor : Cursor) (a b : List Item) → cursor.shown ≡ true → AddsCells (drop_one depth size cursor) 0 (cursor.w * cursor.h) a b → Drops depth size cursor a b
all_dropped depth size cursor a b shown cells = record {
  found = found;
  log = cells.log ∙ ap (λ l. a ++ l) (same_cells (λ k. drop_one depth size cursor k (cells.found k)) (drop_nth depth size cursor found) 0 (cursor.w * cursor.h) (λ k low high. each k (pixel_under size cursor (k % cursor.w) (k / cursor.w)) refl)
      ∙ sym (ap (λ s. if s then flat_map (drop_nth depth size cursor found) (range_with_len 0 (cursor.w * cursor.h)) else []) shown));
}
  where
    found : ℕ → ℕ
    found p = cells.found (nth_over size cursor p)

    each : (k : ℕ) (o : Option ℕ) → pixel_under size cursor (k % cursor.w) (k / cursor.w) ≡ o
        → drop_cell depth (cell_in cursor (k % cursor.w) (k / cursor.w)) (λ p. cells.found k) o ≡ drop_cell depth (cell_in cursor (k % cursor.w) (k / cursor.w)) found o
    each k None is = refl
    each k (Some p) is = ap (λ n. Pick (pixel_word p) n ∷ Put (saved_word (k % cursor.w) (k / cursor.w)) n ∷ Put (pixel_word p) (under_cell depth (Some (cell_in cursor (k % cursor.w) (k / cursor.w))) n) ∷ []) (ap cells.found (sym (nth_is size cursor k p is)))

pub none_dropped : (depth : Depth) (size : Sides) (cursor : Cursor) (a : List Item) → cursor.shown ≡ false → Drops depth size cursor a a
none_dropped depth size cursor a hidden = record {
  found = λ p. 0;
  log = sym (ap (λ s. a ++ (if s then flat_map (drop_nth depth size cursor (λ p. 0)) (range_with_len 0 (cursor.w * cursor.h)) else [])) hidden ∙ append-nil a);
}

-- a shape has few columns and rows
pub few_of_shape : (cursor : Cursor) → IsShape cursor → (cursor.w ≤ 32) × (cursor.h ≤ 32)
few_of_shape cursor ok = ⊎_elim
    (λ (some : (1 ≤ cursor.w) × (cursor.w ≤ 32) × (1 ≤ cursor.h) × (cursor.h ≤ 32)). (some.1, some.3))
    (λ (none : (cursor.w ≡ 0) × (cursor.h ≡ 0)). (omega (arith, none.0), omega (arith, none.1)))
    ok.sides
