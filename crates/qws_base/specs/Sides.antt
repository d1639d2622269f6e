-- The sides of a screen, in pixels.
use Rattle.std.specs.Prelude.{ℕ, ◌≤◌, ◌<◌}

pub record Sides : Type 0 where
  pub w : ℕ
  pub h : ℕ

-- 1 to 640 columns and 1 to 480 rows
pub record IsScreen (s : Sides) : Type 0 where
  pub some_w : 0 < s.w
  pub some_h : 0 < s.h
  pub most_w : s.w ≤ 640
  pub most_h : s.h ≤ 480
