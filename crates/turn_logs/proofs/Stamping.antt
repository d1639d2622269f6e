-- Table words of which only the stamp, or words past the cursor's, are others.
use Rattle.std.proofs.Common.{◌≡◌, ℕ, zero, suc, ◌+◌, ◌*◌, ◌/◌, ◌%◌, ◌<◌, ◌≤◌, ◌==◌, ◌⊎◌, ⊎_elim, inl, inr, List, map, set, refl, sym, ap, ◌∙◌, subst, arith}
use Rattle.std.specs.Prelude.{slice_index}
use Rattle.std.specs.List.{range_with_len}
use Rattle.std.proofs.Math.Nat.{div-lt_iff_lt-mul, mod-lt}
use Rattle.std.proofs.lemmas.List.{get_or-set_other}
use Rattle.std.proofs.lemmas.List.FromFn.{length-map-range_with_len, get_or-map-range_with_len, fill_by_all}
use Rattle.qws_base.specs.Sides.{Sides}
use Rattle.qws_base.specs.Points.{IsPlaced}
use Rattle.qws_base.specs.declared.windows.Cursor.{Cursor}
use Rattle.region_table.specs.Numbers.{row_word, cell_word}
use Rattle.region_table.specs.Packing.{unpacked}
use Rattle.region_table.specs.Tables.{origin_from, cells_from}
use Rattle.turn_logs.specs.Publishing.{SameButStamp, StampLaw}
use Rattle.turn_logs.proofs.FirstTable.{first_table}
use Rattle.turn_logs.specs.Tables.{opening_table, table_of, owner_in, revision_in, RectHas, RowHas, IsOnScreen, IsCursorIn, IsTable, SameRow, Follows}

-- the same words of the cursor
abbrev pub SameCursor : List ℕ → List ℕ → Type 0
SameCursor t u = (i : ℕ) → 2 ≤ i → i < 1028 → slice_index t i ≡ slice_index u i

-- ---- the cursor

pos_left : (w h k : ℕ) → k < w * h → 0 < w
pos_left zero h k below = absurd (omega arith)
pos_left (suc w) h k below = omega arith

cells_same : (t u : List ℕ) (w h : ℕ) → w ≤ 32 → h ≤ 32 → SameCursor t u → cells_from (slice_index t) w h ≡ cells_from (slice_index u) w h
unfolding cells_from
cells_same t u w h few_w few_h same =
    let f : ℕ → ℕ = λ k. slice_index t (cell_word (k % w) (k / w)) in
    let g : ℕ → ℕ = λ k. slice_index u (cell_word (k % w) (k / w)) in
    fill_by_all g (map f (range_with_len 0 (w * h))) (w * h) 0 (length-map-range_with_len f 0 (w * h))
    (λ k below.
    let some : 0 < w = pos_left w h k below in
    let a : ℕ = k % w in
    let b : ℕ = k / w in
    let in_w : a < w = mod-lt k some in
    let in_h : b < h = (div-lt_iff_lt-mul some).1 (omega arith) in
    get_or-map-range_with_len f 0 (w * h) k k 0 below (omega arith) ∙ same (cell_word a b) (omega arith) (omega arith))

pub same_cursor : (size : Sides) (t u : List ℕ) → SameCursor t u → IsCursorIn size t → (table_of t).cursor ≡ (table_of u).cursor
same_cursor size t u same is =
    let place = same 2 (omega arith) (omega arith) in
    let shape = same 3 (omega arith) (omega arith) in
    let of : ℕ → ℕ → List ℕ → Cursor = λ p s c. record { x = p % 65536; y = p / 65536 % 65536; w = s % 65536; h = s / 65536; cells = c; shown = p / 4294967296 == 1 } in
    ap (λ c. of (slice_index t 2) (slice_index t 3) c) (cells_same t u (slice_index t 3 % 65536) (slice_index t 3 / 65536) is.few_columns is.few_rows same)
    ∙ ap (λ p. of p (slice_index t 3) (cells_from (slice_index u) (slice_index t 3 % 65536) (slice_index t 3 / 65536))) place
    ∙ ap (λ s. of (slice_index u 2) s (cells_from (slice_index u) (s % 65536) (s / 65536))) shape

-- ---- the next stamp

pub cursor_like : (size : Sides) (t u : List ℕ) → SameCursor t u → IsCursorIn size t → IsCursorIn size u
cursor_like size t u same is =
    let two = same 2 (omega arith) (omega arith) in
    let three = same 3 (omega arith) (omega arith) in record {
      in_columns = subst (λ v. v % 65536 < size.w) two is.in_columns;
      in_rows = subst (λ v. v / 65536 % 65536 < size.h) two is.in_rows;
      shown = subst (λ v. v / 4294967296 ≤ 1) two is.shown;
      sides = subst (λ v. ((1 ≤ v % 65536) × (1 ≤ v / 65536)) ⊎ ((v % 65536 ≡ 0) × (v / 65536 ≡ 0))) three is.sides;
      few_columns = subst (λ v. v % 65536 ≤ 32) three is.few_columns;
      few_rows = subst (λ v. v / 65536 ≤ 32) three is.few_rows;
      cells = λ i lo hi. subst (λ v. v < 4294967296) (same i (omega arith) hi) (is.cells i lo hi);
    }

-- words that say something are the same but for the stamp
row_same : (t u : List ℕ) (s k : ℕ) → SameButStamp t u → s < 33 → k < 260 → slice_index t (row_word s + k) ≡ slice_index u (row_word s + k)
row_same t u s k same low few = sym (same (row_word s + k) (inr (omega arith, omega arith)) (λ e. absurd (omega arith)))

owner_same : (t u : List ℕ) (s : ℕ) → SameButStamp t u → s < 33 → owner_in t s ≡ owner_in u s
owner_same t u s same low = sym (same (row_word s) (inr (omega arith, omega arith)) (λ e. absurd (omega arith)))

pub cursor_words : (t u : List ℕ) → SameButStamp t u → SameCursor t u
cursor_words t u same = λ i low high. sym (same i (inl (omega arith, omega arith)) (λ e. absurd (omega arith)))

row_like : (size : Sides) (a n : ℕ) (t u : List ℕ) (s j p : ℕ) → SameButStamp t u → IsTable size a n t → s < 33 → RowHas size u s j p → RowHas size t s j p
row_like size a n t u s j p same is low has =
    let count = row_same t u s 3 same low (omega arith) in let few = is.few s low in let within = has.0 in
    (omega arith, subst (λ v. RectHas size v p) (let z : row_word s + 4 + j ≡ row_word s + (4 + j) = omega arith in ap (slice_index u) z ∙ sym (row_same t u s (4 + j) same low (omega arith)) ∙ ap (slice_index t) (sym z)) has.1)

-- with another stamp, and for more admitted clients
pub table_like : (size : Sides) (a b n m : ℕ) (t u : List ℕ) → a ≤ b → slice_index u 1 ≡ m → SameButStamp t u → IsTable size a n t → IsTable size b m u
table_like size a b n m t u more stamp same is = record {
  stamp_is = stamp;
  revisions = λ s lt. subst (λ v. 1 ≤ v) (row_same t u s 1 same lt (omega arith)) (is.revisions s lt);
  few = λ s lt. subst (λ v. v ≤ 256) (row_same t u s 3 same lt (omega arith)) (is.few s lt);
  inside = λ s j lt at. let count = row_same t u s 3 same lt (omega arith) in let few = is.few s lt in let z : row_word s + 4 + j ≡ row_word s + (4 + j) = omega arith in
      subst (λ v. IsOnScreen size (unpacked v)) (ap (slice_index t) z ∙ row_same t u s (4 + j) same lt (omega arith) ∙ ap (slice_index u) (sym z)) (is.inside s j lt (omega arith));
  apart = λ s r j k p low_s low_r within a b. is.apart s r j k p low_s low_r within (row_like size _ _ t u s j p same is low_s a) (row_like size _ _ t u r k p same is low_r b);
  owners = λ s lt. let e = owner_same t u s same lt in let o = is.owners s lt in omega arith;
  unowned = λ s lt none. let c = is.unowned s lt (owner_same t u s same lt ∙ none) in sym (row_same t u s 3 same lt (omega arith)) ∙ c;
  origins = λ s lt. subst (λ v. IsPlaced (origin_from v)) (row_same t u s 2 same lt (omega arith)) (is.origins s lt);
  cursor = cursor_like size t u (cursor_words t u same) is.cursor;
}

pub follows_like : (size : Sides) (a n : ℕ) (before t u : List ℕ) → IsTable size a n t → SameButStamp t u → Follows before t → Follows before u
follows_like size a n before t u is same follows = λ s lt. ⊎_elim
    (λ (x : revision_in before s < revision_in t s). inl (subst (λ v. revision_in before s < v) (row_same t u s 1 same lt (omega arith)) x))
    (λ (b : SameRow before t s). inr record {
      owner = b.owner ∙ owner_same t u s same lt;
      revision = b.revision ∙ row_same t u s 1 same lt (omega arith);
      origin = b.origin ∙ row_same t u s 2 same lt (omega arith);
      count = b.count ∙ row_same t u s 3 same lt (omega arith);
      rects = λ j at. let few = is.few s lt in let count = b.count in let z : row_word s + 4 + j ≡ row_word s + (4 + j) = omega arith in
          b.rects j at ∙ ap (slice_index t) z ∙ row_same t u s (4 + j) same lt (omega arith) ∙ ap (slice_index u) (sym z);
    })
    (follows s lt)

pub follows_itself : (t : List ℕ) → Follows t t
follows_itself t = λ s lt. inr record { owner = refl; revision = refl; origin = refl; count = refl; rects = λ j at. refl }

pub stamped : (t : List ℕ) (number : ℕ) → SameButStamp t (set t 1 number)
stamped t number = λ i is ne. get_or-set_other t 1 i number 0 ne

pub stamp_law : StampLaw
stamp_law = record {
  opens = λ size admitted screen. let first = first_table size screen in table_like size 0 admitted 0 0 opening_table opening_table (omega arith) first.stamp_is (λ i is ne. refl) first;
  table = λ size admitted n m t u is now same. table_like size admitted admitted n m t u (omega arith) now same is;
  cursor = λ size admitted n t u is same. same_cursor size t u (cursor_words t u same) is.cursor;
  follows = λ size admitted n before t u is same follows. follows_like size admitted n before t u is same follows;
  itself = follows_itself;
}
