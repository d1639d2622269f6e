-- Cell by cell, a cursor is lifted off the framebuffer and put down there.
use Rattle.std.proofs.Common.{◌≡◌, ◌≢◌, ℕ, zero, suc, ◌+◌, ◌*◌, ◌/◌, ◌%◌, ◌<◌, ◌≤◌, eq-eqb, ne_eqb, if◌then◌else◌, Bool, true, false, ◌&&◌, List, [], ◌∷◌, ◌++◌, append-nil, sym, refl, ap, ◌∙◌, subst, arith, Option, Some, None, pos, ◌+ℤ◌, ◌-ℤ◌, nat_abs, int_le, int_lt}
use Rattle.std.specs.List.{flat_map, range_with_len}
use Rattle.std.specs.Option.{option_map}
use Rattle.std.proofs.Math.Nat.{div-lt_iff_lt-mul, mod-lt}
use Rattle.std.proofs.lemmas.Int.{ints}
use Rattle.std.proofs.lemmas.Nat.{div-add-mod', mul-add-lt, div-mul-add, mod-mul-add}
use Rattle.std.proofs.lemmas.Bool.{and_parts}
use mathlib.Core.Logic.{dite}
use native.Mathlib.Decide.{ℕ_discrete}
use Rattle.qws_base.specs.Sides.{Sides}
use Rattle.qws_base.specs.Points.{spans, pixel_count, is_on_screen}
use Rattle.qws_base.specs.Shown.{IsShape, cell_at}
use Rattle.qws_base.specs.declared.colours.Depth.{Depth}
use Rattle.qws_base.specs.declared.points.Point.{Point}
use Rattle.qws_base.specs.declared.windows.Cursor.{Cursor}
use Rattle.qws_base.proofs.CauseLemmas.{few_sides}
use Rattle.qws_base.proofs.Integers.{some_width}
use Rattle.region_table.specs.Numbers.{pixel_word, saved_word}
use Rattle.turn_logs.specs.declared.items.Item.{Item}
use Rattle.turn_logs.specs.declared.items.Item.TheVariants.{Pick, Put}
use Rattle.turn_logs.specs.Lines.{item_word, on}
use Rattle.turn_logs.specs.Carries.{ShownCell, shown_cell, under_cell}
use Rattle.turn_logs.specs.Phases.{lifted, LiftsOff, put_down, PutsDown, pixel_under, lift_cell, lift_nth, lift_items, drop_cell, cell_in, drop_nth, drop_items, CellsLaw}
use Rattle.turn_logs.proofs.Options.{none_some, same_some}
use Rattle.turn_logs.proofs.Joining.{on_joined}

-- ---- one piece among many

module _ {B : Type 0} (f : ℕ → List B) where
  no_piece : (i n : ℕ) → ((j : ℕ) → i ≤ j → j < i + n → f j ≡ []) → flat_map f (range_with_len i n) ≡ []
  no_piece i zero none = refl
  no_piece i (suc n) none = ap (λ l. l ++ flat_map f (range_with_len (i + 1) n)) (none i (omega arith) (omega arith)) ∙ no_piece (i + 1) n (λ j low high. none j (omega arith) (omega arith))

  one_piece : (i n k : ℕ) → i ≤ k → k < i + n → ((j : ℕ) → i ≤ j → j < i + n → j ≢ k → f j ≡ []) → flat_map f (range_with_len i n) ≡ f k
  one_piece i zero k low high none = absurd (omega arith)
  one_piece i (suc n) k low high none = dite (ℕ_discrete i k)
      (λ (eq : i ≡ k). ap (λ l. f i ++ l) (no_piece (i + 1) n (λ j a b. none j (omega arith) (omega arith) (λ same. absurd (omega arith)))) ∙ append-nil (f i) ∙ ap f eq)
      (λ (ne : i ≢ k). ap (λ l. l ++ flat_map f (range_with_len (i + 1) n)) (none i (omega arith) (omega arith) ne) ∙ one_piece (i + 1) n k (omega arith) (omega arith) (λ j a b away. none j (omega arith) (omega arith) away))

-- ---- where the cells lie

-- what is known of a shown cell on a pixel at column px and row py
pub record Lies (x y w h px py : ℕ) (shown : Bool) (value : ℕ × ℕ → ℕ) (cell : ShownCell) : Type 0 where
  pub is_shown : shown ≡ true
  pub column_in : cell.column < w
  pub row_in : cell.row < h
  pub column_at : px ≡ x + cell.column
  pub row_at : py ≡ y + cell.row
  pub value_is : cell.value ≡ value (cell.column, cell.row)

abbrev pub cell_there : (x y w h px py : ℕ) (shown : Bool) (value : ℕ × ℕ → ℕ) → Option ShownCell
cell_there x y w h px py shown value =
    option_map (λ at. let c : ShownCell = record { column = at.0; row = at.1; value = value at } in c)
    (if shown && (spans (pos x) w (pos px) && spans (pos y) h (pos py)) then Some (let q : ℕ × ℕ = (nat_abs (pos px -ℤ pos x), nat_abs (pos py -ℤ pos y)) in q) else None)

offset : (low at n : ℕ) → spans (pos low) n (pos at) ≡ true → (nat_abs (pos at -ℤ pos low) < n) × (at ≡ low + nat_abs (pos at -ℤ pos low))
offset low at n h = let parts = and_parts (int_le (pos low) (pos at)) (int_lt (pos at) (pos low +ℤ pos n)) h in (grind (arith, ints), grind (arith, ints))

pub lies : (x y w h px py : ℕ) (shown : Bool) (value : ℕ × ℕ → ℕ) (cell : ShownCell) → cell_there x y w h px py shown value ≡ Some cell → Lies x y w h px py shown value cell
lies x y w h px py shown value cell is = go (shown && (spans (pos x) w (pos px) && spans (pos y) h (pos py))) refl is
  where
    go : (b : Bool) → (shown && (spans (pos x) w (pos px) && spans (pos y) h (pos py))) ≡ b
        → option_map (λ at. let c : ShownCell = record { column = at.0; row = at.1; value = value at } in c) (if b then Some (let q : ℕ × ℕ = (nat_abs (pos px -ℤ pos x), nat_abs (pos py -ℤ pos y)) in q) else None) ≡ Some cell
        → Lies x y w h px py shown value cell
    go false on e = none_some cell e
    go true on e =
        let first = and_parts shown (spans (pos x) w (pos px) && spans (pos y) h (pos py)) on in
        let both = and_parts (spans (pos x) w (pos px)) (spans (pos y) h (pos py)) first.1 in
        let a = offset x px w both.0 in let b = offset y py h both.1 in
        let there : ShownCell = record { column = nat_abs (pos px -ℤ pos x); row = nat_abs (pos py -ℤ pos y); value = value (nat_abs (pos px -ℤ pos x), nat_abs (pos py -ℤ pos y)) } in
        subst (Lies x y w h px py shown value) (same_some there cell e) record { is_shown = first.0; column_in = a.0; row_in = b.0; column_at = a.1; row_at = b.1; value_is = refl }

within_span : (low d n : ℕ) → d < n → spans (pos low) n (pos (low + d)) ≡ true
within_span low d n lt = grind (arith, ints)

offset_is : (low d : ℕ) → nat_abs (pos (low + d) -ℤ pos low) ≡ d
offset_is low d = grind (arith, ints)

lies_there : (x y w h a b : ℕ) (shown : Bool) (value : ℕ × ℕ → ℕ) → shown ≡ true → a < w → b < h → cell_there x y w h (x + a) (y + b) shown value ≡ Some record { column = a; row = b; value = value (a, b) }
lies_there x y w h a b shown value is in_w in_h =
    ap (λ t. option_map (λ at. let c : ShownCell = record { column = at.0; row = at.1; value = value at } in c) (if t && (spans (pos x) w (pos (x + a)) && spans (pos y) h (pos (y + b))) then Some (let q : ℕ × ℕ = (nat_abs (pos (x + a) -ℤ pos x), nat_abs (pos (y + b) -ℤ pos y)) in q) else None)) is
    ∙ ap (λ t. option_map (λ at. let c : ShownCell = record { column = at.0; row = at.1; value = value at } in c) (if t && spans (pos y) h (pos (y + b)) then Some (let q : ℕ × ℕ = (nat_abs (pos (x + a) -ℤ pos x), nat_abs (pos (y + b) -ℤ pos y)) in q) else None)) (within_span x a w in_w)
    ∙ ap (λ t. option_map (λ at. let c : ShownCell = record { column = at.0; row = at.1; value = value at } in c) (if t then Some (let q : ℕ × ℕ = (nat_abs (pos (x + a) -ℤ pos x), nat_abs (pos (y + b) -ℤ pos y)) in q) else None)) (within_span y b h in_h)
    ∙ ap (λ c. let s : Option ShownCell = Some record { column = c; row = nat_abs (pos (y + b) -ℤ pos y); value = value (c, nat_abs (pos (y + b) -ℤ pos y)) } in s) (offset_is x a)
    ∙ ap (λ r. let s : Option ShownCell = Some record { column = a; row = r; value = value (a, r) } in s) (offset_is y b)

spanned : (n at : ℕ) → at < n → spans (pos 0) n (pos at) ≡ true
spanned n at below = grind (arith, ints)

module _ (size : Sides) (cursor : Cursor) (shape : IsShape cursor) where
  abbrev w : ℕ
  w = cursor.w

  abbrev h : ℕ
  h = cursor.h

  abbrev LiesOn : ℕ → ShownCell → Type 0
  LiesOn p cell = Lies cursor.x cursor.y w h (p % size.w) (p / size.w) cursor.shown (cell_at cursor) cell

  on_pixel : (p : ℕ) (cell : ShownCell) → shown_cell size cursor p ≡ Some cell → LiesOn p cell
  on_pixel p cell is = lies cursor.x cursor.y w h (p % size.w) (p / size.w) cursor.shown (cell_at cursor) cell is

  -- the pixel under the cell that lies on it
  under_is : (p : ℕ) (cell : ShownCell) → p < pixel_count size → LiesOn p cell → pixel_under size cursor cell.column cell.row ≡ Some p
  under_is p cell within is =
      let some : 0 < size.w = some_width size.w size.h p within in
      let x : p % size.w < size.w = mod-lt p some in
      let y : p / size.w < size.h = (div-lt_iff_lt-mul some).1 (omega arith) in
      ap (λ c. Rattle.qws_base.specs.Points.pixel_at size record { x = pos c; y = pos (cursor.y + cell.row) }) (sym is.column_at)
      ∙ ap (λ r. Rattle.qws_base.specs.Points.pixel_at size record { x = pos (p % size.w); y = pos r }) (sym is.row_at)
      ∙ ap (λ b. if b && spans (pos 0) size.h (pos (p / size.w)) then Some (p / size.w * size.w + p % size.w) else None) (spanned size.w (p % size.w) x)
      ∙ ap (λ b. if b then Some (p / size.w * size.w + p % size.w) else None) (spanned size.h (p / size.w) y)
      ∙ ap (λ q. Some q) (div-add-mod' p size.w)

  -- the cell lies on the pixel under it
  record Under (a b p : ℕ) : Type 0 where
    on_screen : p < pixel_count size
    column_at : p % size.w ≡ cursor.x + a
    row_at : p / size.w ≡ cursor.y + b

  under_at : (a b p : ℕ) → pixel_under size cursor a b ≡ Some p → Under a b p
  under_at a b p is = go (is_on_screen size record { x = pos (cursor.x + a); y = pos (cursor.y + b) }) refl is
    where
      at : Point
      at = record { x = pos (cursor.x + a); y = pos (cursor.y + b) }

      within : (n k : ℕ) → spans (pos 0) n (pos k) ≡ true → k < n
      within n k e = let parts = and_parts (int_le (pos 0) (pos k)) (int_lt (pos k) (pos 0 +ℤ pos n)) e in grind (arith, ints)

      go : (t : Bool) → is_on_screen size record { x = pos (cursor.x + a); y = pos (cursor.y + b) } ≡ t → (if t then Some ((cursor.y + b) * size.w + (cursor.x + a)) else None) ≡ Some p → Under a b p
      go false on e = none_some p e
      go true on e =
          let both = and_parts (spans (pos 0) size.w (pos (cursor.x + a))) (spans (pos 0) size.h (pos (cursor.y + b))) on in
          let x = within size.w (cursor.x + a) both.0 in let y = within size.h (cursor.y + b) both.1 in
          subst (Under a b) (same_some ((cursor.y + b) * size.w + (cursor.x + a)) p e) record {
            on_screen = subst (λ n. n < size.w * size.h) refl (mul-add-lt (cursor.y + b) size.w (cursor.x + a) size.h y x);
            column_at = mod-mul-add (cursor.y + b) size.w (cursor.x + a) x;
            row_at = div-mul-add (cursor.y + b) size.w (cursor.x + a) x;
          }

  cell_under : (a b p : ℕ) → cursor.shown ≡ true → a < w → b < h → Under a b p → shown_cell size cursor p ≡ Some (cell_in cursor a b)
  cell_under a b p shown in_w in_h is =
      ap (λ c. cell_there cursor.x cursor.y w h c (p / size.w) cursor.shown (cell_at cursor)) is.column_at
      ∙ ap (λ r. cell_there cursor.x cursor.y w h (cursor.x + a) r cursor.shown (cell_at cursor)) is.row_at
      ∙ lies_there cursor.x cursor.y w h a b cursor.shown (cell_at cursor) shown in_w in_h

-- ---- the items on one word

pub on_yes : (x : ℕ) (i : Item) (l : List Item) → item_word i ≡ x → on x (i ∷ l) ≡ i ∷ on x l
on_yes x i l e = ap (λ b. if b then i ∷ on x l else on x l) (eq-eqb (item_word i) x e)

pub on_no : (x : ℕ) (i : Item) (l : List Item) → item_word i ≢ x → on x (i ∷ l) ≡ on x l
on_no x i l n = ap (λ b. if b then i ∷ on x l else on x l) (ne_eqb (item_word i) x n)

-- the items of a cell lie on its saved word and on the pixel's word
record IsBlock (g : ℕ → ℕ → Option ℕ → List Item) : Type 0 where
  nothing : (a b : ℕ) → g a b None ≡ []
  saved_away : (a b q c d : ℕ) → a < 32 → c < 32 → d < 32 → ((a ≡ c) → (b ≡ d) → ⊥) → on (saved_word c d) (g a b (Some q)) ≡ []
  pixel_away : (a b q p : ℕ) → a < 32 → b < 32 → q ≢ p → on (pixel_word p) (g a b (Some q)) ≡ []

module _ (size : Sides) (cursor : Cursor) (shape : IsShape cursor) (g : ℕ → ℕ → Option ℕ → List Item) (block : IsBlock g) (shown : cursor.shown ≡ true) where
  abbrev nth : ℕ → List Item
  nth k = g (k % cursor.w) (k / cursor.w) (pixel_under size cursor (k % cursor.w) (k / cursor.w))

  abbrev cells : List Item
  cells = flat_map nth (range_with_len 0 (cursor.w * cursor.h))

  -- what is known of cell k
  record Nth (k : ℕ) : Type 0 where
    column_in : k % cursor.w < cursor.w
    row_in : k / cursor.w < cursor.h
    few_columns : cursor.w ≤ 32
    few_rows : cursor.h ≤ 32

  nth_in : (k : ℕ) → k < cursor.w * cursor.h → Nth k
  nth_in k lt = let some : 0 < cursor.w = some_width cursor.w cursor.h k lt in let few = few_sides cursor shape in
      record { column_in = mod-lt k some; row_in = (div-lt_iff_lt-mul some).1 (omega arith); few_columns = few.0; few_rows = few.1 }

  -- the place of a shown cell among all
  place : (cell : ShownCell) → cell.column < cursor.w → cell.row < cursor.h → (cell.row * cursor.w + cell.column < cursor.w * cursor.h) × ((cell.row * cursor.w + cell.column) % cursor.w ≡ cell.column) × ((cell.row * cursor.w + cell.column) / cursor.w ≡ cell.row)
  place cell in_w in_h = let lt = mul-add-lt cell.row cursor.w cell.column cursor.h in_h in_w in (omega arith, mod-mul-add cell.row cursor.w cell.column in_w, div-mul-add cell.row cursor.w cell.column in_w)

  another : (j : ℕ) (cell : ShownCell) → j ≢ cell.row * cursor.w + cell.column → j % cursor.w ≡ cell.column → j / cursor.w ≡ cell.row → ⊥
  another j cell away column row = away (sym (div-add-mod' j cursor.w) ∙ ap (λ c. j / cursor.w * cursor.w + c) column ∙ ap (λ r. r * cursor.w + cell.column) row)

  saved_other : (j : ℕ) (cell : ShownCell) (found : Option ℕ) → j < cursor.w * cursor.h → cell.column < cursor.w → cell.row < cursor.h → j ≢ cell.row * cursor.w + cell.column
      → on (saved_word cell.column cell.row) (g (j % cursor.w) (j / cursor.w) found) ≡ []
  saved_other j cell None lt in_w in_h away = ap (on (saved_word cell.column cell.row)) (block.nothing (j % cursor.w) (j / cursor.w))
  saved_other j cell (Some q) lt in_w in_h away = let n = nth_in j lt in let a = n.column_in in let few = n.few_columns in let tall = n.few_rows in
      block.saved_away (j % cursor.w) (j / cursor.w) q cell.column cell.row (omega arith) (omega arith) (omega arith) (another j cell away)

  nth_is : (p : ℕ) (cell : ShownCell) → p < pixel_count size → LiesOn size cursor shape p cell → nth (cell.row * cursor.w + cell.column) ≡ g cell.column cell.row (Some p)
  nth_is p cell within is = let at = place cell is.column_in is.row_in in
      ap (λ c. g c ((cell.row * cursor.w + cell.column) / cursor.w) (pixel_under size cursor c ((cell.row * cursor.w + cell.column) / cursor.w))) at.1
      ∙ ap (λ r. g cell.column r (pixel_under size cursor cell.column r)) at.2 ∙ ap (g cell.column cell.row) (under_is size cursor shape p cell within is)

  saved_at : (p : ℕ) (cell : ShownCell) → p < pixel_count size → shown_cell size cursor p ≡ Some cell → on (saved_word cell.column cell.row) cells ≡ on (saved_word cell.column cell.row) (g cell.column cell.row (Some p))
  saved_at p cell within is = let on_it = on_pixel size cursor shape p cell is in let x : ℕ = saved_word cell.column cell.row in let at = place cell on_it.column_in on_it.row_in in
      on_joined x nth (range_with_len 0 (cursor.w * cursor.h))
      ∙ one_piece (λ k. on x (nth k)) 0 (cursor.w * cursor.h) (cell.row * cursor.w + cell.column) (omega arith) (let lt = at.0 in omega arith)
      (λ j low high away. saved_other j cell (pixel_under size cursor (j % cursor.w) (j / cursor.w)) (omega arith) on_it.column_in on_it.row_in away)
      ∙ ap (on x) (nth_is p cell within on_it)

  -- another cell lies on another pixel
  pixel_other : (j p : ℕ) → j < cursor.w * cursor.h → (shown_cell size cursor p ≡ Some (cell_in cursor (j % cursor.w) (j / cursor.w)) → ⊥) → on (pixel_word p) (nth j) ≡ []
  pixel_other j p lt away = go (pixel_under size cursor (j % cursor.w) (j / cursor.w)) refl
    where
      go : (found : Option ℕ) → pixel_under size cursor (j % cursor.w) (j / cursor.w) ≡ found → on (pixel_word p) (g (j % cursor.w) (j / cursor.w) found) ≡ []
      go None is = ap (on (pixel_word p)) (block.nothing (j % cursor.w) (j / cursor.w))
      go (Some q) is = let n = nth_in j lt in let a = n.column_in in let b = n.row_in in let few = n.few_columns in let tall = n.few_rows in
          block.pixel_away (j % cursor.w) (j / cursor.w) q p (omega arith) (omega arith)
          (λ same. away (subst (λ k. shown_cell size cursor k ≡ Some (cell_in cursor (j % cursor.w) (j / cursor.w))) same
          (cell_under size cursor shape (j % cursor.w) (j / cursor.w) q shown a b (under_at size cursor shape (j % cursor.w) (j / cursor.w) q is))))

  pixel_none : (p : ℕ) → shown_cell size cursor p ≡ None → on (pixel_word p) cells ≡ []
  pixel_none p is = on_joined (pixel_word p) nth (range_with_len 0 (cursor.w * cursor.h))
      ∙ no_piece (λ k. on (pixel_word p) (nth k)) 0 (cursor.w * cursor.h) (λ j low high. pixel_other j p (omega arith) (λ e. none_some (cell_in cursor (j % cursor.w) (j / cursor.w)) (sym is ∙ e)))

  pixel_some : (p : ℕ) (cell : ShownCell) → p < pixel_count size → shown_cell size cursor p ≡ Some cell → on (pixel_word p) cells ≡ on (pixel_word p) (g cell.column cell.row (Some p))
  pixel_some p cell within is = let on_it = on_pixel size cursor shape p cell is in let at = place cell on_it.column_in on_it.row_in in
      on_joined (pixel_word p) nth (range_with_len 0 (cursor.w * cursor.h))
      ∙ one_piece (λ k. on (pixel_word p) (nth k)) 0 (cursor.w * cursor.h) (cell.row * cursor.w + cell.column) (omega arith) (let lt = at.0 in omega arith)
      (λ j low high away. pixel_other j p (omega arith) (λ e. let same = same_some cell (cell_in cursor (j % cursor.w) (j / cursor.w)) (sym is ∙ e) in
      another j cell away (sym (ap (λ (c : ShownCell). c.column) same)) (sym (ap (λ (c : ShownCell). c.row) same))))
      ∙ ap (on (pixel_word p)) (nth_is p cell within on_it)

-- ---- lifted off

lift_block : (v : ℕ → ℕ) → IsBlock (λ a b. lift_cell a b v)
lift_block v = record {
  nothing = λ a b. refl;
  saved_away = λ a b q c d low_a low_c low_d apart. on_no (saved_word c d) (Pick (saved_word a b) (v q)) (Put (pixel_word q) (v q) ∷ []) (λ same. apart (omega arith) (omega arith)) ∙ on_no (saved_word c d) (Put (pixel_word q) (v q)) [] (λ same. absurd (omega arith));
  pixel_away = λ a b q p low_a low_b apart. on_no (pixel_word p) (Pick (saved_word a b) (v q)) (Put (pixel_word q) (v q) ∷ []) (λ same. absurd (omega arith)) ∙ on_no (pixel_word p) (Put (pixel_word q) (v q)) [] (λ same. apart (omega arith));
}

not_shown : (size : Sides) (cursor : Cursor) (shape : IsShape cursor) (p : ℕ) (found : Option ShownCell) → cursor.shown ≡ false → shown_cell size cursor p ≡ found → found ≡ None
not_shown size cursor shape p None hidden is = refl
not_shown size cursor shape p (Some cell) hidden is = absurd (let on_it = on_pixel size cursor shape p cell is in let a = on_it.is_shown in cc)

lifts : (size : Sides) (cursor : Cursor) (v : ℕ → ℕ) → IsShape cursor → LiftsOff size cursor v (lift_items size cursor v)
lifts size cursor v shape = go cursor.shown refl
  where
    go : (b : Bool) → cursor.shown ≡ b → LiftsOff size cursor v (if b then flat_map (lift_nth size cursor v) (range_with_len 0 (cursor.w * cursor.h)) else [])
    go true shown = record {
      saved = λ p cell within is. let on_it = on_pixel size cursor shape p cell is in let few = few_sides cursor shape in let a = on_it.column_in in let b = on_it.row_in in let c = few.0 in let d = few.1 in
          let x : ℕ = saved_word cell.column cell.row in
          saved_at size cursor shape (λ a b. lift_cell a b v) (lift_block v) shown p cell within is
          ∙ on_yes x (Pick x (v p)) (Put (pixel_word p) (v p) ∷ []) refl ∙ ap (λ l. Pick x (v p) ∷ l) (on_no x (Put (pixel_word p) (v p)) [] (λ same. absurd (omega arith)));
      pixels = λ p within. pixel size cursor v shape shown p within (shown_cell size cursor p) refl;
    }
      where
        pixel : (size : Sides) (cursor : Cursor) (v : ℕ → ℕ) → IsShape cursor → cursor.shown ≡ true → (p : ℕ) → p < pixel_count size → (found : Option ShownCell) → shown_cell size cursor p ≡ found
            → on (pixel_word p) (flat_map (lift_nth size cursor v) (range_with_len 0 (cursor.w * cursor.h))) ≡ lifted p found (v p)
        pixel size cursor v shape shown p within None is = pixel_none size cursor shape (λ a b. lift_cell a b v) (lift_block v) shown p is
        pixel size cursor v shape shown p within (Some cell) is = let on_it = on_pixel size cursor shape p cell is in let few = few_sides cursor shape in let a = on_it.column_in in let b = on_it.row_in in let c = few.0 in let d = few.1 in
            pixel_some size cursor shape (λ a b. lift_cell a b v) (lift_block v) shown p cell within is
            ∙ on_no (pixel_word p) (Pick (saved_word cell.column cell.row) (v p)) (Put (pixel_word p) (v p) ∷ []) (λ same. absurd (omega arith)) ∙ on_yes (pixel_word p) (Put (pixel_word p) (v p)) [] refl
    go false hidden = record {
      saved = λ p cell within is. absurd (let on_it = on_pixel size cursor shape p cell is in let a = on_it.is_shown in cc);
      pixels = λ p within. ap (λ c. lifted p c (v p)) (sym (not_shown size cursor shape p (shown_cell size cursor p) hidden refl));
    }

-- ---- put down

drop_block : (depth : Depth) (cursor : Cursor) (u : ℕ → ℕ) → IsBlock (λ a b. drop_cell depth (cell_in cursor a b) u)
drop_block depth cursor u = record {
  nothing = λ a b. refl;
  saved_away = λ a b q c d low_a low_c low_d apart. let over : Item = Put (pixel_word q) (under_cell depth (Some (cell_in cursor a b)) (u q)) in
      on_no (saved_word c d) (Pick (pixel_word q) (u q)) (Put (saved_word a b) (u q) ∷ over ∷ []) (λ same. absurd (omega arith))
      ∙ on_no (saved_word c d) (Put (saved_word a b) (u q)) (over ∷ []) (λ same. apart (omega arith) (omega arith)) ∙ on_no (saved_word c d) over [] (λ same. absurd (omega arith));
  pixel_away = λ a b q p low_a low_b apart. let over : Item = Put (pixel_word q) (under_cell depth (Some (cell_in cursor a b)) (u q)) in
      on_no (pixel_word p) (Pick (pixel_word q) (u q)) (Put (saved_word a b) (u q) ∷ over ∷ []) (λ same. apart (omega arith))
      ∙ on_no (pixel_word p) (Put (saved_word a b) (u q)) (over ∷ []) (λ same. absurd (omega arith)) ∙ on_no (pixel_word p) over [] (λ same. apart (omega arith));
}

-- the cell that lies on a pixel is the cursor's
is_cell : (size : Sides) (cursor : Cursor) (shape : IsShape cursor) (p : ℕ) (cell : ShownCell) → shown_cell size cursor p ≡ Some cell → cell_in cursor cell.column cell.row ≡ cell
is_cell size cursor shape p cell is = ap (λ n. let c : ShownCell = record { column = cell.column; row = cell.row; value = n } in c) (sym (on_pixel size cursor shape p cell is).value_is)

drops : (depth : Depth) (size : Sides) (cursor : Cursor) (u : ℕ → ℕ) → IsShape cursor → PutsDown depth size cursor u (drop_items depth size cursor u)
drops depth size cursor u shape = go cursor.shown refl
  where
    go : (b : Bool) → cursor.shown ≡ b → PutsDown depth size cursor u (if b then flat_map (drop_nth depth size cursor u) (range_with_len 0 (cursor.w * cursor.h)) else [])
    go true shown = record {
      saved = λ p cell within is. let on_it = on_pixel size cursor shape p cell is in let few = few_sides cursor shape in let a = on_it.column_in in let b = on_it.row_in in let c = few.0 in let d = few.1 in
          let x : ℕ = saved_word cell.column cell.row in let over : Item = Put (pixel_word p) (under_cell depth (Some (cell_in cursor cell.column cell.row)) (u p)) in
          saved_at size cursor shape (λ a b. drop_cell depth (cell_in cursor a b) u) (drop_block depth cursor u) shown p cell within is
          ∙ on_no x (Pick (pixel_word p) (u p)) (Put x (u p) ∷ over ∷ []) (λ same. absurd (omega arith))
          ∙ on_yes x (Put x (u p)) (over ∷ []) refl ∙ ap (λ l. Put x (u p) ∷ l) (on_no x over [] (λ same. absurd (omega arith)));
      pixels = λ p within. pixel depth size cursor u shape shown p within (shown_cell size cursor p) refl;
    }
      where
        pixel : (depth : Depth) (size : Sides) (cursor : Cursor) (u : ℕ → ℕ) → IsShape cursor → cursor.shown ≡ true → (p : ℕ) → p < pixel_count size → (found : Option ShownCell) → shown_cell size cursor p ≡ found
            → on (pixel_word p) (flat_map (drop_nth depth size cursor u) (range_with_len 0 (cursor.w * cursor.h))) ≡ put_down depth p found (u p)
        pixel depth size cursor u shape shown p within None is = pixel_none size cursor shape (λ a b. drop_cell depth (cell_in cursor a b) u) (drop_block depth cursor u) shown p is
        pixel depth size cursor u shape shown p within (Some cell) is = let on_it = on_pixel size cursor shape p cell is in let few = few_sides cursor shape in let a = on_it.column_in in let b = on_it.row_in in let c = few.0 in let d = few.1 in
            let over : Item = Put (pixel_word p) (under_cell depth (Some (cell_in cursor cell.column cell.row)) (u p)) in
            pixel_some size cursor shape (λ a b. drop_cell depth (cell_in cursor a b) u) (drop_block depth cursor u) shown p cell within is
            ∙ on_yes (pixel_word p) (Pick (pixel_word p) (u p)) (Put (saved_word cell.column cell.row) (u p) ∷ over ∷ []) refl
            ∙ ap (λ l. Pick (pixel_word p) (u p) ∷ l) (on_no (pixel_word p) (Put (saved_word cell.column cell.row) (u p)) (over ∷ []) (λ same. absurd (omega arith)) ∙ on_yes (pixel_word p) over [] refl)
            ∙ ap (λ (k : ShownCell). Pick (pixel_word p) (u p) ∷ Put (pixel_word p) (under_cell depth (Some k) (u p)) ∷ []) (is_cell size cursor shape p cell is)
    go false hidden = record {
      saved = λ p cell within is. absurd (let on_it = on_pixel size cursor shape p cell is in let a = on_it.is_shown in cc);
      pixels = λ p within. ap (λ c. put_down depth p c (u p)) (sym (not_shown size cursor shape p (shown_cell size cursor p) hidden refl));
    }

pub cells_law : CellsLaw
cells_law = record { lifts = lifts; drops = drops }
