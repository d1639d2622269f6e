-- What is checked of words before they are published as a table.
use Rattle.std.specs.Prelude.{◌≡◌, ℕ, ◌+◌, ◌/◌, ◌%◌, ◌^◌, ◌<◌, ◌≤◌, ◌⊎◌, List, slice_index}
use Rattle.qws_base.specs.Sides.{Sides}
use Rattle.qws_base.specs.Points.{IsPlaced}
use Rattle.region_table.specs.Packing.{unpacked}
use Rattle.region_table.specs.Tables.{origin_from}
use Rattle.turn_logs.specs.Tables.{owner_in, revision_in, origin_in, count_in, rect_in, IsOnScreen}

-- a row but for its rectangles
pub record IsRowIn (admitted : ℕ) (t : List ℕ) (s : ℕ) : Type 0 where
  pub revision : 1 ≤ revision_in t s
  pub few : count_in t s ≤ 256
  pub owner : owner_in t s ≤ admitted
  pub unowned : owner_in t s ≡ 0 → count_in t s ≡ 0
  pub origin : IsPlaced (origin_from (origin_in t s))

-- the first column of rectangle j of a slot's row, and the one past its last
abbrev pub left_in : List ℕ → ℕ → ℕ → ℕ
left_in t s j = rect_in t s j % 2 ^ 16

abbrev pub right_in : List ℕ → ℕ → ℕ → ℕ
right_in t s j = rect_in t s j % 2 ^ 16 + rect_in t s j / 2 ^ 32 % 2 ^ 16

-- the first n rectangles of a row lie on the screen, between two columns, one right of the other
pub record StandInRow (size : Sides) (t : List ℕ) (s n from past : ℕ) : Type 0 where
  pub rising : from ≤ past
  pub inside : (j : ℕ) → j < n → IsOnScreen size (unpacked (rect_in t s j))
  pub left : (j : ℕ) → j < n → from ≤ left_in t s j
  pub right : (j : ℕ) → j < n → right_in t s j ≤ past
  pub order : (j k : ℕ) → j < k → k < n → right_in t s j ≤ left_in t s k

-- rectangle j of slot s comes before rectangle k of slot r
abbrev pub ComesBefore : ℕ → ℕ → ℕ → ℕ → Type 0
ComesBefore s j r k = (s < r) ⊎ ((s ≡ r) × (j < k))

-- the first n rows are those of a table; their rectangles stand one right of the other, before a column
pub record StandBefore (size : Sides) (admitted : ℕ) (t : List ℕ) (n past : ℕ) : Type 0 where
  pub rows : (s : ℕ) → s < n → IsRowIn admitted t s
  pub inside : (s j : ℕ) → s < n → j < count_in t s → IsOnScreen size (unpacked (rect_in t s j))
  pub right : (s j : ℕ) → s < n → j < count_in t s → right_in t s j ≤ past
  pub order : (s r j k : ℕ) → s < n → r < n → j < count_in t s → k < count_in t r → ComesBefore s j r k → right_in t s j ≤ left_in t r k

-- so they stand before some column
abbrev pub AreRows : Sides → ℕ → List ℕ → ℕ → Type 0
AreRows size admitted t n = (past : ℕ) × StandBefore size admitted t n past

-- the cells before a word are below 2^32
abbrev pub AreCells : List ℕ → ℕ → Type 0
AreCells t n = (i : ℕ) → 4 ≤ i → i < n → slice_index t i < 2 ^ 32
