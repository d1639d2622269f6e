-- How the columns of a row of a line are found.
use Rattle.std.specs.Prelude.{ℕ, ◌≡◌, ◌+◌, ◌<◌, ◌≤◌, ℤ, true}
use Rattle.qws_base.specs.declared.points.Point.{Point}
use Rattle.qws_base.specs.Points.{spans}
use Rattle.gfx_lines.specs.Lines.{toward, aside, on_line}

-- the steps from `first` up to `end` are those after which a line has gone so far along its shorter side
pub record AreStepsGone (long short gone first end : ℕ) : Type 0 where
  pub ordered : first ≤ end
  pub within : end ≤ long + 1
  pub inside : (k : ℕ) → first ≤ k → k < end → aside long short k ≡ gone
  pub all : (k : ℕ) → k ≤ long → aside long short k ≡ gone → (first ≤ k) × (k < end)

-- the coordinates of the steps from `first` up to `end` are `count` ones from `low` on
pub record AreStepColumns (from to : ℤ) (first end : ℕ) (low : ℤ) (count : ℕ) : Type 0 where
  pub inside : (k : ℕ) → first ≤ k → k < end → spans low count (toward from to k) ≡ true
  pub only : (x : ℤ) → spans low count x ≡ true → (k : ℕ) × (first ≤ k) × (k < end) × (toward from to k ≡ x)

-- in a row a line has just the `count` columns from `low` on
pub record AreColumns (a b : Point) (y low : ℤ) (count : ℕ) : Type 0 where
  pub at : (x : ℤ) → on_line a b (record { x = x; y = y }) ≡ spans low count x
