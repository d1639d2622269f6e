-- Which cell of a text holds a point, and the text's rows.
use Rattle.std.proofs.Common.{ℕ, ◌≡◌, ◌+◌, ◌-◌, ◌<◌, ◌≤◌, ℤ, pos, negsuc, ◌+ℤ◌, ◌-ℤ◌, ◌<ℤ◌, int_lt, nat_abs, ltb, List, [], ◌∷◌, length, slice_index, Bool, true, false, cond, ◌&&◌, ◌||◌, ◌⊎◌, inl, inr, refl, sym, ap, ◌∙◌, arith}
use Rattle.std.proofs.lemmas.Bool.{cases_lt, and_parts}
use Rattle.std.proofs.lemmas.Bool.Decides.{nat_tests}
use Rattle.std.proofs.lemmas.Int.{ints}
use Rattle.std.specs.List.{filter}
use Rattle.qws_base.specs.declared.inks.Ink.{Ink}
use Rattle.qws_base.specs.declared.inks.Ink.TheVariants.{Skip}
use Rattle.qws_base.specs.declared.points.Point.{Point}
use Rattle.qws_base.specs.Points.{spans, holds}
use Rattle.qws_base.specs.Sheets.{row_of}
use Rattle.qws_base.proofs.Booleans.{and_true, and_false, or_false}
use Rattle.qws_base.proofs.Integers.{not_le_test, spans_from, spans_not_before, spans_not_after, spans_high, spanned}
use Rattle.picture_rows.specs.Runs.{pixel, IsInside}
use Rattle.picture_rows.proofs.RunLemmas.{inside_row, inside_column}
use Rattle.picture_rows.proofs.RowLemmas.{same_maps, row_inside}
use Rattle.glyph_masks.specs.Glyphs.{GlyphView}
use Rattle.glyph_masks.specs.Texts.{TextView, Cell, cells_from, cells, column_bit, any_set, width_of, text_rect, text_sheet}
use Rattle.glyph_masks.specs.Columns.{text_bit, text_inks, bit_at, bit_ink}
use Rattle.glyph_masks.proofs.BitLemmas.{bit_within, bit_past, no_bit, bit_from}

-- ---- spans as columns

abbrev below : ℕ → ℤ → Bool
below w (pos c) = ltb c w
below w (negsuc c) = false

spans_is : (low d at : ℤ) (w : ℕ) → at ≡ low +ℤ d → spans low w at ≡ below w d
spans_is low (pos c) at w e = by (cases_lt c w) where
  by : (c < w) ⊎ (w ≤ c) → spans low w at ≡ ltb c w
  by (inl h) = spans_from low at w (omega (arith, ints, e)) (omega (arith, ints, e)) ∙ grind (arith, nat_tests)
  by (inr h) = spans_not_after low at w (omega (arith, ints, e)) ∙ grind (arith, nat_tests)
spans_is low (negsuc c) at w e = spans_not_before low at w (omega (arith, ints, e))

-- ---- the bit of a point, by its column

no_glyphs : (v : ℕ) (d : ℤ) → bit_at [] v d ≡ false
no_glyphs v (pos c) = refl
no_glyphs v (negsuc c) = refl

one_column : (g : GlyphView) (gs : List GlyphView) (v : ℕ) (d : ℤ)
    → ((below g.width d && column_bit g.width (slice_index g.rows v) (nat_abs d)) || bit_at gs v (d -ℤ pos g.width)) ≡ bit_at (g ∷ gs) v d
one_column g gs v (pos c) = by (cases_lt c g.width) where
  by : (c < g.width) ⊎ (g.width ≤ c) → ((ltb c g.width && column_bit g.width (slice_index g.rows v) c) || bit_at gs v (pos c -ℤ pos g.width)) ≡ text_bit (g ∷ gs) v c
  by (inl h) =
      let t : ltb c g.width ≡ true = grind (arith, nat_tests) in
      let bit : Bool = column_bit g.width (slice_index g.rows v) c in
      ap (λ b. (b && bit) || bit_at gs v (pos c -ℤ pos g.width)) t
      ∙ ap (λ b. bit || b) (no_bit gs v (pos c -ℤ pos g.width) (omega (arith, ints)))
      ∙ or_false bit
      ∙ sym (bit_within g gs v c h)
  by (inr h) =
      let t : ltb c g.width ≡ false = grind (arith, nat_tests) in
      ap (λ b. (b && column_bit g.width (slice_index g.rows v) c) || bit_at gs v (pos c -ℤ pos g.width)) t
      ∙ bit_from gs v (c - g.width) (pos c -ℤ pos g.width) (omega (arith, ints))
      ∙ sym (bit_past g gs v c h)
one_column g gs v (negsuc c) = no_bit gs v (negsuc c -ℤ pos g.width) (omega (arith, ints))

shared_row : (b s c r : Bool) → (((b && s) && c) || (s && r)) ≡ (s && ((b && c) || r))
shared_row b true c r = ap (λ v. (v && c) || r) (and_true b)
shared_row true false c r = refl
shared_row false false c r = refl

any_is : (height : ℕ) (gs : List GlyphView) (at p : Point) (d : ℤ) → p.x ≡ at.x +ℤ d
    → any_set (cells_from height at gs) p ≡ (spans at.y height p.y && bit_at gs (nat_abs (p.y -ℤ at.y)) d)
any_is height [] at p d e =
    sym (ap (λ b. spans at.y height p.y && b) (no_glyphs (nat_abs (p.y -ℤ at.y)) d) ∙ and_false (spans at.y height p.y))
any_is height (g ∷ gs) at p d e =
    let v : ℕ = nat_abs (p.y -ℤ at.y) in
    let s : Bool = spans at.y height p.y in
    let row : ℕ = slice_index g.rows v in
    let next : Point = record { x = at.x +ℤ pos g.width; y = at.y } in
    let far : p.x -ℤ at.x ≡ d = omega (arith, ints, e) in
    let on : p.x ≡ (at.x +ℤ pos g.width) +ℤ (d -ℤ pos g.width) = omega (arith, ints, e) in
    ap (λ b. ((b && s) && column_bit g.width row (nat_abs (p.x -ℤ at.x))) || any_set (cells_from height next gs) p) (spans_is at.x d p.x g.width e)
    ∙ ap (λ z. ((below g.width d && s) && column_bit g.width row (nat_abs z)) || any_set (cells_from height next gs) p) far
    ∙ ap (λ b. ((below g.width d && s) && column_bit g.width row (nat_abs d)) || b) (any_is height gs next p (d -ℤ pos g.width) on)
    ∙ shared_row (below g.width d) s (column_bit g.width row (nat_abs d)) (bit_at gs v (d -ℤ pos g.width))
    ∙ ap (λ b. s && b) (one_column g gs v d)

-- ---- nothing lies outside the reach

past_all : (gs : List GlyphView) (v c : ℕ) → width_of gs ≤ c → text_bit gs v c ≡ false
past_all [] v c h = refl
past_all (g ∷ gs) v c h = bit_past g gs v c (omega arith) ∙ past_all gs v (c - g.width) (omega arith)

past_reach : (gs : List GlyphView) (v : ℕ) (d : ℤ) → below (width_of gs) d ≡ false → bit_at gs v d ≡ false
past_reach gs v (pos c) h = past_all gs v c (grind (arith, nat_tests, h))
past_reach gs v (negsuc c) h = refl

none_outside : (b s r : Bool) → (b && s) ≡ false → (b ≡ false → r ≡ false) → (s && r) ≡ false
none_outside b false r h k = refl
none_outside false true r h k = k refl
none_outside true true r h k = cc

-- each bit that is set lies within
pub bits_within : (text : TextView) (p : Point) → any_set (cells text) p ≡ true → holds (text_rect text) p ≡ true
bits_within text p t = by (holds (text_rect text) p) refl where
  by : (h : Bool) → holds (text_rect text) p ≡ h → h ≡ true
  by true h = refl
  by false h =
      let on : p.x ≡ text.at.x +ℤ (p.x -ℤ text.at.x) = omega (arith, ints) in
      let away : (below (width_of text.glyphs) (p.x -ℤ text.at.x) && spans text.at.y text.height p.y) ≡ false =
      ap (λ b. b && spans text.at.y text.height p.y) (sym (spans_is text.at.x (p.x -ℤ text.at.x) p.x (width_of text.glyphs) on)) ∙ h in
      let none : (spans text.at.y text.height p.y && bit_at text.glyphs (nat_abs (p.y -ℤ text.at.y)) (p.x -ℤ text.at.x)) ≡ false =
      none_outside (below (width_of text.glyphs) (p.x -ℤ text.at.x)) (spans text.at.y text.height p.y) (bit_at text.glyphs (nat_abs (p.y -ℤ text.at.y)) (p.x -ℤ text.at.x)) away
      (past_reach text.glyphs (nat_abs (p.y -ℤ text.at.y)) (p.x -ℤ text.at.x)) in
      sym none ∙ sym (any_is text.height text.glyphs text.at p (p.x -ℤ text.at.x) on) ∙ t

-- ---- rows

-- a row within the cells
pub text_made : (text : TextView) (y x : ℤ) (n row column : ℕ) (made : List Ink) → IsInside (text_rect text) y x n → 0 < n → row ≡ nat_abs (y -ℤ text.at.y) → column ≡ nat_abs (x -ℤ text.at.x)
    → made ≡ text_inks text.ink text.glyphs row column n → made ≡ row_of (text_sheet text) y x n
text_made text y x n row column made within some is_row is_column d =
    d
    ∙ same_maps (λ j. bit_ink text.ink (text_bit text.glyphs row (column + j))) (λ j. bit_ink text.ink (any_set (cells text) (pixel y x j))) n Skip (λ k h.
    let wide : pos (column + k) ≡ (x +ℤ pos k) -ℤ text.at.x = omega (arith, ints, is_column, (spanned text.at.x x (width_of text.glyphs) (inside_column (text_rect text) y x n within some)).same) in
    let on : x +ℤ pos k ≡ text.at.x +ℤ pos (column + k) = omega (arith, ints) in
    ap (bit_ink text.ink) (
    ap (λ v. text_bit text.glyphs v (column + k)) is_row
    ∙ sym (ap (λ s. s && text_bit text.glyphs (nat_abs (y -ℤ text.at.y)) (column + k)) (inside_row (text_rect text) y x n within some))
    ∙ sym (any_is text.height text.glyphs text.at (pixel y x k) (pos (column + k)) on)))
    ∙ sym (row_inside (text_rect text) (λ p. bit_ink text.ink (any_set (cells text) p)) y x n within)

-- ---- a point lies in at most one cell

none_left : (height : ℕ) (gs : List GlyphView) (at p : Point) → p.x <ℤ at.x → filter (λ cell. holds cell.rect p) (cells_from height at gs) ≡ []
none_left height [] at p h = refl
none_left height (g ∷ gs) at p h =
    let next : Point = record { x = at.x +ℤ pos g.width; y = at.y } in
    let first : Cell = record { rect = record { x = at.x; y = at.y; w = g.width; h = height }; rows = g.rows } in
    let rest : List Cell = filter (λ cell. holds cell.rect p) (cells_from height next gs) in
    ap (λ b. cond ((b && int_lt p.x (at.x +ℤ pos g.width)) && spans at.y height p.y) (first ∷ rest) rest) (not_le_test at.x p.x h)
    ∙ none_left height gs next p (omega (arith, ints, h))

pub one_cell : (height : ℕ) (gs : List GlyphView) (at p : Point) → length (filter (λ cell. holds cell.rect p) (cells_from height at gs)) ≤ 1
one_cell height [] at p = omega arith
one_cell height (g ∷ gs) at p = by (one_cell height gs (record { x = at.x +ℤ pos g.width; y = at.y }) p) (spans at.x g.width p.x && spans at.y height p.y) refl where
  first : Cell
  first = record { rect = record { x = at.x; y = at.y; w = g.width; h = height }; rows = g.rows }

  rest : List Cell
  rest = filter (λ cell. holds cell.rect p) (cells_from height (record { x = at.x +ℤ pos g.width; y = at.y }) gs)

  by : length (filter (λ cell. holds cell.rect p) (cells_from height (record { x = at.x +ℤ pos g.width; y = at.y }) gs)) ≤ 1 → (t : Bool) → (spans at.x g.width p.x && spans at.y height p.y) ≡ t
      → length (cond t (record { rect = record { x = at.x; y = at.y; w = g.width; h = height }; rows = g.rows } ∷ filter (λ cell. holds cell.rect p) (cells_from height (record { x = at.x +ℤ pos g.width; y = at.y }) gs))
      (filter (λ cell. holds cell.rect p) (cells_from height (record { x = at.x +ℤ pos g.width; y = at.y }) gs))) ≤ 1
  by few true h =
      let short : p.x <ℤ (at.x +ℤ pos g.width) = spans_high at.x p.x g.width (and_parts (spans at.x g.width p.x) (spans at.y height p.y) h).0 in
      let none = none_left height gs (record { x = at.x +ℤ pos g.width; y = at.y }) p short in
      omega (arith, ap length none)
  by few false h = few
