-- A rectangle in a word.
use Rattle.std.specs.Prelude.{ℕ, ◌+◌, ◌*◌, ◌/◌, ◌%◌, ◌^◌, ◌<◌, pos, ◌≤ℤ◌, ◌<ℤ◌, nat_abs}
use Rattle.qws_base.specs.declared.points.Rect.{Rect}

-- each number has sixteen bits
pub record IsPackable (r : Rect) : Type 0 where
  pub low_x : pos 0 ≤ℤ r.x
  pub high_x : r.x <ℤ pos 65536
  pub low_y : pos 0 ≤ℤ r.y
  pub high_y : r.y <ℤ pos 65536
  pub few_w : r.w < 65536
  pub few_h : r.h < 65536

-- column, row, width and height, sixteen bits each
abbrev pub packed : Rect → ℕ
packed r = nat_abs r.x + nat_abs r.y * 2 ^ 16 + r.w * 2 ^ 32 + r.h * 2 ^ 48

abbrev pub unpacked : ℕ → Rect
unpacked word = record { x = pos (word % 2 ^ 16); y = pos (word / 2 ^ 16 % 2 ^ 16); w = word / 2 ^ 32 % 2 ^ 16; h = word / 2 ^ 48 }
