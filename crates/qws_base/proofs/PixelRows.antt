-- Pixels of a row and rows of a rectangle, one after another, and how many of them pass a test.
use Rattle.std.proofs.Common.{◌≡◌, ℕ, zero, suc, ◌+◌, ◌*◌, ◌/◌, ◌%◌, ◌<◌, ◌≤◌, if◌then◌else◌, Bool, true, false, not, List, [], ◌∷◌, ◌++◌, length, append-nil, get_or, sym, refl, ap, ◌∙◌, arith, pos, ◌+ℤ◌, ◌-ℤ◌, ℤ, nat_abs, ◌-◌, subst, ◌&&◌}
use native.Mathlib.Numerals.{unary_clauses}
use Rattle.std.specs.List.{filter, flat_map, range_with_len}
use Rattle.std.proofs.lemmas.Int.{ints}
use Rattle.std.proofs.lemmas.Nat.{div-add-mod', div-mul-add, mod-mul-add, mul-add-lt}
use Rattle.std.proofs.lemmas.List.FromFn.{get_or-map-range_with_len, length-map-range_with_len}
use Rattle.std.proofs.lemmas.Grind.{flat_map-append}
use Rattle.qws_base.specs.Sides.{Sides}
use Rattle.qws_base.specs.Inks.{is_skip}
use Rattle.qws_base.specs.Points.{point_of, spans, holds, pixel_count}
use Rattle.qws_base.specs.Regions.{HasPixels}
use Rattle.qws_base.specs.Sheets.{Sheet, ink_at, row_of}
use Rattle.qws_base.specs.Scenes.{ink_on, has_ink}
use Rattle.qws_base.specs.RectPixels.{rect_pixels, IsWithin}
use Rattle.qws_base.specs.declared.points.Point.{Point}
use Rattle.qws_base.specs.declared.points.Rect.{Rect}
use Rattle.qws_base.specs.declared.inks.Ink.{Ink}
use Rattle.qws_base.proofs.Integers.{from_pos, spans_in}
pub use Rattle.qws_base.proofs.Integers.{end_in}

pub range_more : (i n : ℕ) → range_with_len i (n + 1) ≡ range_with_len i n ++ (i + n) ∷ []
range_more i zero = ap (λ k. k ∷ []) (omega arith)
range_more i (suc n) = ap (λ k. range_with_len i k) (let z : suc n + 1 ≡ suc (n + 1) = omega arith in z) ∙ ap (λ l. i ∷ l) (range_more (i + 1) n ∙ ap (λ k. range_with_len (i + 1) n ++ k ∷ []) (omega arith))

filter_cond : (b : Bool) (k : ℕ) (l : List ℕ) → length (if b then k ∷ l else l) ≡ length l + (if b then 1 else 0)
filter_cond true k l = omega arith
filter_cond false k l = omega arith

pub filter_last : (f : ℕ → Bool) (ps : List ℕ) (k : ℕ) → length (filter f (ps ++ k ∷ [])) ≡ length (filter f ps) + (if f k then 1 else 0)
filter_last f [] k = filter_cond (f k) k []
filter_last f (p ∷ ps) k = filter_cond (f p) p (filter f (ps ++ k ∷ [])) ∙ (let a = filter_last f ps k in let b = filter_cond (f p) p (filter f ps) in omega arith)

skip_counts : (b : Bool) → (let n : ℕ = if b then 0 else 1 in n) ≡ (let m : ℕ = if not b then 1 else 0 in m)
skip_counts true = refl
skip_counts false = refl

pub counted_more : (width : ℕ) (origin : Point) (sheet : Sheet) (i n count one : ℕ) (ink : Ink) → count ≡ length (filter (has_ink width origin sheet) (range_with_len i n)) → one ≡ (if is_skip ink then 0 else 1) → ink ≡ ink_on width origin sheet (i + n)
    → count + one ≡ length (filter (has_ink width origin sheet) (range_with_len i (n + 1)))
counted_more width origin sheet i n count one ink a b is =
    ap (λ k. k + one) a ∙ ap (λ k. length (filter (has_ink width origin sheet) (range_with_len i n)) + k) (b ∙ ap (λ j. if is_skip j then 0 else 1) is ∙ skip_counts (is_skip (ink_on width origin sheet (i + n))))
    ∙ sym (filter_last (has_ink width origin sheet) (range_with_len i n) (i + n)) ∙ ap (λ l. length (filter (has_ink width origin sheet) l)) (sym (range_more i n))

-- ---- pixels of a row

pub next_in_row : (w first j : ℕ) → first % w + j < w → ((first + j) % w ≡ first % w + j) × ((first + j) / w ≡ first / w)
next_in_row w first j lt =
    let same : first / w * w + (first % w + j) ≡ first + j = (let e = div-add-mod' first w in omega arith) in
    (ap (λ n. n % w) (sym same) ∙ mod-mul-add (first / w) w (first % w + j) lt, ap (λ n. n / w) (sym same) ∙ div-mul-add (first / w) w (first % w + j) lt)

shifted_x : (a j : ℕ) (o : ℤ) → (pos a -ℤ o) +ℤ pos j ≡ pos (a + j) -ℤ o
shifted_x a j o = omega (arith, ints)

-- the ink that a row has at a place
pub ink_in_row : (w first j n : ℕ) (origin : Point) (sheet : Sheet) (d : Ink) → j < n → first % w + j < w
    → get_or (row_of sheet (pos (first / w) -ℤ origin.y) (pos (first % w) -ℤ origin.x) n) j d ≡ ink_on w origin sheet (first + j)
ink_in_row w first j n origin sheet d low lt = let at = next_in_row w first j lt in
    get_or-map-range_with_len (λ i. ink_at sheet (record { x = (pos (first % w) -ℤ origin.x) +ℤ pos i; y = pos (first / w) -ℤ origin.y })) 0 n j j d low (omega arith)
    ∙ ap (λ x. ink_at sheet (record { x = x; y = pos (first / w) -ℤ origin.y })) (shifted_x (first % w) j origin.x ∙ ap (λ a. pos a -ℤ origin.x) (sym at.0))
    ∙ ap (λ b. ink_at sheet (record { x = pos ((first + j) % w) -ℤ origin.x; y = pos b -ℤ origin.y })) (sym at.1)

pub row_length : (sheet : Sheet) (y x : ℤ) (n : ℕ) (inks : List Ink) → inks ≡ row_of sheet y x n → length inks ≡ n
row_length sheet y x n inks is = ap length is ∙ length-map-range_with_len (λ j. ink_at sheet (record { x = x +ℤ pos j; y = y })) 0 n

pub few_more : (count j one : ℕ) (ink : Ink) → count ≤ j → one ≡ (if is_skip ink then 0 else 1) → count + one ≤ j + 1
few_more count j one ink few is = go (is_skip ink) is
  where
    go : (b : Bool) → one ≡ (if b then 0 else 1) → count + one ≤ j + 1
    go true e = omega arith
    go false e = omega arith

-- ---- rows of a rectangle

joined_last : (f : ℕ → List ℕ) (i n : ℕ) → flat_map f (range_with_len i (n + 1)) ≡ flat_map f (range_with_len i n) ++ f (i + n)
joined_last f i n = ap (flat_map f) (range_more i n) ∙ flat_map-append f (range_with_len i n) ((i + n) ∷ []) ∙ ap (λ l. flat_map f (range_with_len i n) ++ l) (append-nil (f (i + n)))

pub filter_both : (f : ℕ → Bool) (ps qs : List ℕ) → length (filter f (ps ++ qs)) ≡ length (filter f ps) + length (filter f qs)
filter_both f [] qs = omega arith
filter_both f (p ∷ ps) qs = filter_cond (f p) p (filter f (ps ++ qs)) ∙ (let a = filter_both f ps qs in let b = filter_cond (f p) p (filter f ps) in omega arith)

-- the first so many rows
pub rows_of : ℕ → Rect → ℕ → List ℕ
rows_of width r n = flat_map (λ i. range_with_len ((nat_abs r.y + i) * width + nat_abs r.x) r.w) (range_with_len 0 n)

pub no_rows : (width : ℕ) (r : Rect) → rows_of width r 0 ≡ []
unfolding rows_of
no_rows width r = refl

pub all_rows : (width : ℕ) (r : Rect) → rows_of width r r.h ≡ rect_pixels width r
unfolding rows_of
all_rows width r = refl

pub row_more : (width : ℕ) (r : Rect) (n first : ℕ) → first ≡ (nat_abs r.y + n) * width + nat_abs r.x → rows_of width r (n + 1) ≡ rows_of width r n ++ range_with_len first r.w
unfolding rows_of
row_more width r n first is = joined_last (λ i. range_with_len ((nat_abs r.y + i) * width + nat_abs r.x) r.w) 0 n ∙ ap (λ k. rows_of width r n ++ range_with_len k r.w) (let z : (nat_abs r.y + (0 + n)) * width + nat_abs r.x ≡ first = ap (λ j. (nat_abs r.y + j) * width + nat_abs r.x) (let y : 0 + n ≡ n = omega arith in y) ∙ sym is in z)

pub counted_both : (f : ℕ → Bool) (ps qs all : List ℕ) (a b : ℕ) → a ≡ length (filter f ps) → b ≡ length (filter f qs) → all ≡ ps ++ qs → a + b ≡ length (filter f all)
counted_both f ps qs all a b is_a is_b is = ap (λ n. n + b) is_a ∙ ap (λ n. length (filter f ps) + n) is_b ∙ sym (filter_both f ps qs) ∙ sym (ap (λ l. length (filter f l)) is)

-- ---- where a row of a rectangle lies

pub record RowPlace (size : Sides) (r : Rect) (i first : ℕ) : Type 0 where
  pub is : first ≡ (nat_abs r.y + i) * size.w + nat_abs r.x
  pub column : first % size.w ≡ nat_abs r.x
  pub row : first / size.w ≡ nat_abs r.y + i
  pub across : nat_abs r.x + r.w ≤ size.w
  pub some_w : 0 < r.w
  pub down : nat_abs r.y + i < size.h
  pub x_is : r.x ≡ pos (nat_abs r.x)
  pub y_is : r.y ≡ pos (nat_abs r.y)

pub rect_place : (size : Sides) (r : Rect) (i width a b : ℕ) → IsWithin size r → HasPixels r → i < r.h → width ≡ size.w → a ≡ nat_abs r.y → b ≡ nat_abs r.x → RowPlace size r i ((a + i) * width + b)
rect_place size r i width a b on has low w y x =
    let same : (a + i) * width + b ≡ (nat_abs r.y + i) * size.w + nat_abs r.x = ap (λ n. (n + i) * width + b) y ∙ ap (λ n. (nat_abs r.y + i) * n + b) w ∙ ap (λ n. (nat_abs r.y + i) * size.w + n) x in
    let across = end_in r.x r.w size.w on.from_left on.to_right in
    let down = end_in r.y r.h size.h on.from_top on.to_bottom in
    let some = has.0 in
    record {
      is = same;
      column = ap (λ n. n % size.w) same ∙ mod-mul-add (nat_abs r.y + i) size.w (nat_abs r.x) (omega arith);
      row = ap (λ n. n / size.w) same ∙ div-mul-add (nat_abs r.y + i) size.w (nat_abs r.x) (omega arith);
      across = across;
      some_w = some;
      down = omega arith;
      x_is = from_pos r.x on.from_left;
      y_is = from_pos r.y on.from_top;
    }

pub row_in : (size : Sides) (r : Rect) (i first : ℕ) → RowPlace size r i first → i < r.h → (k : ℕ) → first ≤ k → k < first + r.w → (k < pixel_count size) × (holds r (point_of size.w k) ≡ true)
row_in size r i first place low k from to =
    let across = place.across in
    let column = place.column in
    let first_is = place.is in
    let j : ℕ = k - first in
    let there : first + j ≡ k = omega arith in
    let next = next_in_row size.w first j (omega arith) in
    let x : k % size.w ≡ nat_abs r.x + j = ap (λ n. n % size.w) (sym there) ∙ next.0 ∙ ap (λ n. n + j) place.column in
    let y : k / size.w ≡ nat_abs r.y + i = ap (λ n. n / size.w) (sym there) ∙ next.1 ∙ place.row in
    let within = mul-add-lt (nat_abs r.y + i) size.w (nat_abs r.x + j) size.h place.down (omega arith) in (
      subst (λ n. n < size.w * size.h) (let z : (nat_abs r.y + i) * size.w + (nat_abs r.x + j) ≡ k = omega arith in z) within,
      ap (λ z. spans z r.w (pos (k % size.w)) && spans r.y r.h (pos (k / size.w))) place.x_is
          ∙ ap (λ z. spans (pos (nat_abs r.x)) r.w (pos (k % size.w)) && spans z r.h (pos (k / size.w))) place.y_is
          ∙ ap (λ b. b && spans (pos (nat_abs r.y)) r.h (pos (k / size.w))) (spans_in (nat_abs r.x) r.w (k % size.w) (omega arith) (omega arith))
          ∙ spans_in (nat_abs r.y) r.h (k / size.w) (omega arith) (omega arith),
    )

pub more_columns : (w count one i n : ℕ) → count ≤ w * i → one ≤ n → n ≡ w → count + one ≤ w * (i + 1)
more_columns w count one i n few le is = let e : w * (i + 1) ≡ w * i + w = simp unary_clauses (omega arith) in omega arith
