-- What is packed into a word is read from it.
use Rattle.std.proofs.Common.{◌≡◌, ℕ, ◌+◌, ◌*◌, ◌/◌, ◌%◌, ◌^◌, ◌<◌, ◌==◌, Bool, true, false, if◌then◌else◌, Option, Some, None, refl, arith}
use Rattle.std.proofs.lemmas.Int.{ints}
use Rattle.std.proofs.lemmas.Bool.Decides.{nat_tests}
use Rattle.qws_base.specs.Points.{IsPlaced}
use Rattle.qws_base.specs.declared.points.Point.{Point}
use Rattle.qws_base.specs.declared.points.Rect.{Rect}
use Rattle.region_table.specs.Packing.{IsPackable, packed, unpacked}
use Rattle.region_table.specs.Tables.{owner_word, owner_from, origin_word, origin_from}

pub unpacked_packed : (r : Rect) → IsPackable r → unpacked (packed r) ≡ r
unpacked_packed r ok = grind (arith, ints)

pub owner_read : (owner : Option ℕ) → owner_from (owner_word owner) ≡ owner
owner_read None = refl
owner_read (Some client) = grind (arith, nat_tests)

pub origin_read : (p : Point) → IsPlaced p → origin_from (origin_word p) ≡ p
origin_read p ok = grind (arith, ints)

-- the parts of the word of the cursor's place
abbrev pub bit : Bool → ℕ
bit shown = if shown then 2 ^ 32 else 0

pub shown_read : (x y : ℕ) (shown : Bool) → x < 65536 → y < 65536 → ((x + y * 65536 + (if shown then 2 ^ 32 else 0)) / 2 ^ 32 == 1) ≡ shown
shown_read x y true few_x few_y = grind (arith, nat_tests)
shown_read x y false few_x few_y = grind (arith, nat_tests)

pub x_read : (x y : ℕ) (shown : Bool) → x < 65536 → y < 65536 → (x + y * 65536 + (if shown then 2 ^ 32 else 0)) % 65536 ≡ x
x_read x y true few_x few_y = omega arith
x_read x y false few_x few_y = omega arith

pub y_read : (x y : ℕ) (shown : Bool) → x < 65536 → y < 65536 → (x + y * 65536 + (if shown then 2 ^ 32 else 0)) / 65536 % 65536 ≡ y
y_read x y true few_x few_y = omega arith
y_read x y false few_x few_y = omega arith
