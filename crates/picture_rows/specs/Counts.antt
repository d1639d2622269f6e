-- How many points a list of points may have.
use Rattle.std.specs.Prelude.{ℕ, ◌≤◌}

-- at least so many, and at most 64
pub record IsPointCount (fewest n : ℕ) : Type 0 where
  pub least : fewest ≤ n
  pub most : n ≤ 64
