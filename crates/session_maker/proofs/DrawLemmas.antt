-- The state behind a draw, as the code computes it.
use Rattle.std.proofs.Common.{◌≡◌, ℕ, ◌+◌, ◌*◌, ◌%◌, ◌^◌}
use Rattle.std.proofs.Math.Nat.{mod-add-mod}
use Rattle.session_maker.specs.Draws.{next_state}

pub next_is : (x : ℕ) → ((x * 6364136223846793005) % 2 ^ 64 + 1442695040888963407) % 2 ^ 64 ≡ next_state x
unfolding next_state
next_is x = mod-add-mod (x * 6364136223846793005) (2 ^ 64) 1442695040888963407
