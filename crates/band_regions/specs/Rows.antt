-- Rows: spans of columns from the left. Of a rectangle only its columns count here.
use Rattle.std.specs.Prelude.{ℕ, ◌≡◌, ◌<◌, ◌+◌, ℤ, pos, negsuc, ◌-ℤ◌, ◌<ℤ◌, ◌≤ℤ◌, int_le, int_lt, nat_abs, Bool, ◌&&◌, ◌||◌, List, [], ◌∷◌, ◌++◌, length, All, AllPairs, if◌then◌else◌}
use Rattle.std.specs.List.{list_any}
use Rattle.qws_base.specs.Points.{spans}
use Rattle.qws_base.specs.Regions.{right}
use Rattle.qws_base.specs.declared.points.Rect.{Rect}

-- some columns, all in range
pub record IsSpan (r : Rect) : Type 0 where
  pub wide : 0 < r.w
  pub low : negsuc 32767 ≤ℤ r.x
  pub high : right r ≤ℤ pos 32768

-- r ends to the left of s, with a gap between
abbrev pub IsLeftOf : Rect → Rect → Type 0
IsLeftOf r s = right r <ℤ s.x

pub record IsBandRow (rects : List Rect) : Type 0 where
  pub each : All IsSpan rects
  pub gapped : AllPairs IsLeftOf rects

-- one of the spans has the column
abbrev pub has_column : List Rect → ℤ → Bool
has_column rects x = list_any (λ r. spans r.x r.w x) rects

abbrev pub is_between : ℤ → ℤ → ℤ → Bool
is_between from to x = int_le from x && int_lt x to

-- where a row starts, or the end of the columns
abbrev pub start_of_row : List Rect → ℤ
start_of_row [] = pos 32768
start_of_row (r ∷ rs) = r.x

abbrev pub StartsFrom : ℤ → Rect → Type 0
StartsFrom x r = x ≤ℤ r.x

abbrev pub EndsLeftOf : ℤ → Rect → Type 0
EndsLeftOf x r = right r <ℤ x

-- the columns from one up to another, if any, as a rectangle that has those rows
abbrev pub columns_of : ℤ → ℤ → ℤ → ℕ → List Rect
columns_of from to top height = if int_lt from to then record { x = from; y = top; w = nat_abs (to -ℤ from); h = height } ∷ [] else []

-- the rectangle has those rows
abbrev pub IsLevel : ℤ → ℕ → Rect → Type 0
IsLevel top height r = (r.y ≡ top) × (r.h ≡ height)

-- a row of spans as rectangles that have those rows
pub record IsBand (top : ℤ) (height : ℕ) (rects : List Rect) : Type 0 where
  pub is_row : IsBandRow rects
  pub level : All (IsLevel top height) rects

-- a band of those columns was appended
pub record IsAdded (top : ℤ) (height : ℕ) (old new : List Rect) (columns : ℤ → Bool) : Type 0 where
  pub band : List Rect
  pub appended : new ≡ old ++ band
  pub is_band : IsBand top height band
  pub has : (c : ℤ) → has_column band c ≡ columns c

-- the span is the first of two rows; what is left of both starts at it or to its right
pub record IsTaken (span : Rect) (first second first_rest second_rest : List Rect) : Type 0 where
  pub is_span : IsSpan span
  pub first_row : IsBandRow first_rest
  pub second_row : IsBandRow second_rest
  pub first_ahead : All (StartsFrom span.x) first_rest
  pub second_ahead : All (StartsFrom span.x) second_rest
  pub columns : (c : ℤ) → (spans span.x span.w c || (has_column first_rest c || has_column second_rest c)) ≡ (has_column first c || has_column second c)
  pub is_ahead : (x : ℤ) → All (StartsFrom x) first → All (StartsFrom x) second → x ≤ℤ span.x
  pub fewer : length first_rest + length second_rest + 1 ≡ length first + length second
