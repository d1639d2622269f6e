-- The points of a line.
use Rattle.std.specs.Prelude.{ℕ, ◌+◌, ◌*◌, ◌/◌, ℤ, pos, ◌+ℤ◌, ◌-ℤ◌, int_le, nat_abs, nat_lt, nat_le, max, Bool, ◌&&◌, if◌then◌else◌}
use Rattle.std.specs.List.{list_any, range_with_len}
use Rattle.std.specs.Ordering.{int_eq}
use Rattle.qws_base.specs.declared.points.Point.{Point}

-- how far two coordinates are apart
abbrev pub apart : ℤ → ℤ → ℕ
apart a b = nat_abs (b -ℤ a)

-- so many steps from a coordinate toward another
abbrev pub toward : ℤ → ℤ → ℕ → ℤ
toward from to k = if int_le from to then from +ℤ pos k else from -ℤ pos k

-- how far a line has gone along its shorter side after k steps along its longer one: to the nearest, halves up
abbrev pub aside : ℕ → ℕ → ℕ → ℕ
aside long short k = (2 * k * short + long) / (2 * long)

-- as many columns as rows or more, and more than one
abbrev pub is_flat : Point → Point → Bool
is_flat a b = nat_le (apart a.y b.y) (apart a.x b.x) && nat_lt 0 (apart a.x b.x)

-- more rows than columns
abbrev pub is_steep : Point → Point → Bool
is_steep a b = nat_lt (apart a.x b.x) (apart a.y b.y)

-- the steps of a line, along its longer side
abbrev pub steps : Point → Point → ℕ
steps a b = max (apart a.x b.x) (apart a.y b.y)

-- the point of a line after k steps: on a flat line each step is a column, on a steep one a row
abbrev pub line_point : Point → Point → ℕ → Point
line_point a b k =
    if is_flat a b then record { x = toward a.x b.x k; y = toward a.y b.y (aside (apart a.x b.x) (apart a.y b.y) k) }
    else (if is_steep a b then record { x = toward a.x b.x (aside (apart a.y b.y) (apart a.x b.x) k); y = toward a.y b.y k }
    else a)

abbrev pub same_point : Point → Point → Bool
same_point p q = int_eq p.x q.x && int_eq p.y q.y

-- a point is one of the line's, from none of its steps to all of them
abbrev pub on_line : Point → Point → Point → Bool
on_line a b p = list_any (λ k. same_point (line_point a b k) p) (range_with_len 0 (steps a b + 1))
