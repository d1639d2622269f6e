-- Numbers of few digits are small.
use Rattle.std.proofs.Common.{◌≡◌, ℕ, ◌<◌, ◌≤◌, ◌^◌, arith}
use Rattle.std.proofs.Math.Nat.{pow-le-pow_right}

pub few_digits : (radix n k top : ℕ) → 0 < radix → n < radix ^ k → k ≤ top → n < radix ^ top
few_digits radix n k top some h few = omega (arith, pow-le-pow_right some few)
