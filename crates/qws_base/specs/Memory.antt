-- What a source in memory and a sink in memory show of themselves.
use Rattle.std.specs.Prelude.{ℕ, nat_lt, nat_le, Bool, ◌&&◌, List, length}

-- the bytes that are left, the most that one call gives, the calls so far, those of them that failed, and the numbers of
-- the calls that are to fail
pub record Feed : Type 0 where
  pub left : List ℕ
  pub max_piece : ℕ
  pub calls : ℕ
  pub faults : ℕ
  pub failing : List ℕ

-- the bytes written, how many there is room for, the most that one call takes, the calls so far, those of them that
-- failed, and the numbers of the calls that are to fail
pub record Store : Type 0 where
  pub written : List ℕ
  pub room : ℕ
  pub max_piece : ℕ
  pub calls : ℕ
  pub faults : ℕ
  pub failing : List ℕ

-- there are bytes to write, and no room for one of them
abbrev pub is_full : Store → List ℕ → Bool
is_full store piece = nat_lt 0 (length piece) && nat_le store.room (length store.written)
