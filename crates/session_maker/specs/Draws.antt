-- Numbers drawn from a state of 64 bits, which each draw changes.
use Rattle.std.specs.Prelude.{ℕ, zero, suc, ◌+◌, ◌*◌, ◌/◌, ◌%◌, ◌^◌}

-- the state behind a draw
unfoldable pub next_state : ℕ → ℕ
next_state x = (x * 6364136223846793005 + 1442695040888963407) % 2 ^ 64

-- the state behind so many draws
abbrev pub state_after : ℕ → ℕ → ℕ
state_after zero x = x
state_after (suc k) x = next_state (state_after k x)

-- the number below n that the state behind a draw gives
unfoldable pub drawn : ℕ → ℕ → ℕ
drawn n x = x / 2 ^ 33 % n

-- draw k from a state on, counted from 0: a number below n
abbrev pub draw : ℕ → ℕ → ℕ → ℕ
draw x k n = drawn n (state_after (k + 1) x)
