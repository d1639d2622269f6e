-- Runs of places of a row, and inks at places.
use Rattle.std.specs.Prelude.{ℕ, ◌≡◌, ◌<◌, ◌≤◌, ℤ, pos, ◌+ℤ◌, nat_le, nat_lt, Bool, true, ◌&&◌, List, length, slice_index_or}
use Rattle.qws_base.specs.declared.points.Point.{Point}
use Rattle.qws_base.specs.declared.points.Rect.{Rect}
use Rattle.qws_base.specs.declared.inks.Ink.{Ink}
use Rattle.qws_base.specs.declared.inks.Ink.TheVariants.{Skip}
use Rattle.qws_base.specs.Points.{holds}

-- the point at a place of a row from (x, y) on
abbrev pub pixel : ℤ → ℤ → ℕ → Point
pixel y x k = record { x = x +ℤ pos k; y = y }

-- a place from `from` up to `to`
abbrev pub in_run : ℕ → ℕ → ℕ → Bool
in_run from to k = nat_le from k && nat_lt k to

-- of n places those that pass a test are the ones from `from` up to `to`
pub record IsRun (test : ℕ → Bool) (n from to : ℕ) : Type 0 where
  pub ordered : from ≤ to
  pub within : to ≤ n
  pub at : (k : ℕ) → k < n → test k ≡ in_run from to k

-- those of n places of a row from (x, y) on that lie in a rectangle
abbrev pub IsPart : Rect → ℤ → ℤ → ℕ → ℕ → ℕ → Type 0
IsPart r y x n from to = IsRun (λ k. holds r (pixel y x k)) n from to

-- n places of a row from (x, y) on that all lie in a rectangle
pub record IsInside (r : Rect) (y x : ℤ) (n : ℕ) : Type 0 where
  pub all : (k : ℕ) → k < n → holds r (pixel y x k) ≡ true

-- n places, each with the ink that it should have
pub record IsInked (n : ℕ) (wanted : ℕ → Ink) (inks : List Ink) : Type 0 where
  pub same_length : length inks ≡ n
  pub at : (k : ℕ) → k < n → slice_index_or inks k Skip ≡ wanted k
