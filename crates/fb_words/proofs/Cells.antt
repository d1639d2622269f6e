-- A word is of one pixel at most, and a table gives it to one client at most.
use Rattle.std.proofs.Common.{◌≡◌, ℕ, ◌+◌, ◌*◌, ◌/◌, ◌%◌, ◌^◌, ◌<◌, ◌==◌, ⊎_elim, inl, inr, if◌then◌else◌, Bool, true, false, List, get_or, sym, refl, ap, ◌∙◌, subst, arith, Some, None, pos, ◌+ℤ◌, ◌-ℤ◌, nat_abs, int_le, int_lt, ◌&&◌}
use Rattle.std.proofs.lemmas.Int.{ints}
use Rattle.std.proofs.lemmas.Nat.{div-add-mod'}
use Rattle.qws_base.specs.Sides.{Sides}
use Rattle.qws_base.specs.Points.{spans, pixel_count}
use Rattle.region_table.specs.Numbers.{pixel_word, IsLineWord}
use Rattle.turn_logs.specs.Tables.{owner_in, RowHas, IsTable}
use Rattle.fb_words.specs.Rights.{cell_over, IsSavedOver, IsWordOf, IsGiven}
use Rattle.std.proofs.lemmas.Bool.{and_parts}
use Rattle.turn_logs.proofs.Options.{none_some, same_some}

-- how far a spanned coordinate is from the start
side : (low at n d : ℕ) → spans (pos low) n (pos at) ≡ true → nat_abs (pos at -ℤ pos low) ≡ d → (at ≡ low + d)
side low at n d h e =
    let parts = and_parts (int_le (pos low) (pos at)) (int_lt (pos at) (pos low +ℤ pos n)) h in grind (arith, ints)

placed : (x y w h px py column row : ℕ) (shown b : Bool) → (shown && (spans (pos x) w (pos px) && spans (pos y) h (pos py))) ≡ b
    → (if b then Some (let t : ℕ × ℕ = (nat_abs (pos px -ℤ pos x), nat_abs (pos py -ℤ pos y)) in t) else None) ≡ Some (column, row) → (px ≡ x + column) × (py ≡ y + row)
placed x y w h px py column row shown false is e = none_some {A = ℕ × ℕ} (column, row) e
placed x y w h px py column row shown true is e =
    let same = same_some {A = ℕ × ℕ} (nat_abs (pos px -ℤ pos x), nat_abs (pos py -ℤ pos y)) (column, row) e in
    let on = (and_parts shown (spans (pos x) w (pos px) && spans (pos y) h (pos py)) is).1 in
    let parts = and_parts (spans (pos x) w (pos px)) (spans (pos y) h (pos py)) on in
    (side x px w column parts.0 (ap (λ t. t.0) same), side y py h row parts.1 (ap (λ t. t.1) same))

-- the place of the pixel under a cell
cell_in : (size : Sides) (place shape p column row : ℕ) → cell_over size place shape p ≡ Some (column, row)
    → (p % size.w ≡ place % 2 ^ 16 + column) × (p / size.w ≡ place / 2 ^ 16 % 2 ^ 16 + row)
cell_in size place shape p column row e =
    placed (place % 2 ^ 16) (place / 2 ^ 16 % 2 ^ 16) (shape % 2 ^ 16) (shape / 2 ^ 16) (p % size.w) (p / size.w) column row (place / 2 ^ 32 == 1) _ refl e

-- a framebuffer word or a saved word
pub word_far : (size : Sides) (place shape p x : ℕ) → IsWordOf size place shape p x → IsLineWord x
word_far size place shape p x w = ⊎_elim (λ (e : x ≡ pixel_word p). inr (omega arith))
    (λ (s : IsSavedOver size place shape p x). let c = s.column_in in let r = s.row_in in let e = s.word in inl ((omega arith), (omega arith))) w

pub word_within : (size : Sides) (place shape p x : ℕ) → p < pixel_count size → IsWordOf size place shape p x → x < 10632 + pixel_count size
word_within size place shape p x lt w = ⊎_elim (λ (e : x ≡ pixel_word p). omega arith)
    (λ (s : IsSavedOver size place shape p x). let c = s.column_in in let r = s.row_in in let e = s.word in omega arith) w

same_place : (w p q : ℕ) → p % w ≡ q % w → p / w ≡ q / w → p ≡ q
same_place w p q m d = sym (div-add-mod' p w) ∙ ap (λ k. k * w + p % w) d ∙ ap (λ k. (q / w) * w + k) m ∙ div-add-mod' q w

same_pixel : (size : Sides) (place shape p q x : ℕ) → IsWordOf size place shape p x → IsWordOf size place shape q x → p ≡ q
same_pixel size place shape p q x a b = ⊎_elim
    (λ (e : x ≡ pixel_word p). ⊎_elim (λ (d : x ≡ pixel_word q). omega arith)
    (λ (s : IsSavedOver size place shape q x). let c = s.column_in in let r = s.row_in in let d = s.word in absurd (omega arith)) b)
    (λ (s : IsSavedOver size place shape p x). ⊎_elim (λ (d : x ≡ pixel_word q). let c = s.column_in in let r = s.row_in in let e = s.word in absurd (omega arith))
    (λ (t : IsSavedOver size place shape q x).
    let c = s.column_in in let r = s.row_in in let e = s.word in let c' = t.column_in in let r' = t.row_in in let e' = t.word in
    let u = cell_in size place shape p s.column s.row s.cell in let v = cell_in size place shape q t.column t.row t.cell in
    let columns : s.column ≡ t.column = omega arith in let rows : s.row ≡ t.row = omega arith in
    let ux = u.0 in let uy = u.1 in let vx = v.0 in let vy = v.1 in
    same_place size.w p q (ux ∙ ap (λ k. place % 2 ^ 16 + k) columns ∙ sym vx) (uy ∙ ap (λ k. place / 2 ^ 16 % 2 ^ 16 + k) rows ∙ sym vy)) b)
    a

-- two clients that a table gives one word are one
pub one_owner : (size : Sides) (admitted stamp : ℕ) (t : List ℕ) (c d s r x : ℕ) → IsTable size admitted stamp t → IsGiven size t c s x → IsGiven size t d r x → c ≡ d
one_owner size admitted stamp t c d s r x table a b =
    let same : a.pixel ≡ b.pixel = same_pixel size (get_or t 2 0) (get_or t 3 0) a.pixel b.pixel x a.word b.word in
    let slots : s ≡ r = (table.apart s r a.rect b.rect a.pixel a.slot_in b.slot_in a.on_screen a.holds (subst (λ p. RowHas size t r b.rect p) (sym same) b.holds)).0 in
    let e : c + 1 ≡ d + 1 = sym a.owner ∙ ap (owner_in t) slots ∙ b.owner in omega arith
