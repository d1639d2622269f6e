-- A client, and the names that it has given.
use Rattle.std.specs.Prelude.{ℕ, List}

pub record NamesView : Type 0 where
  pub client : ℕ
  pub slots : List (List ℕ × ℕ)
